use Rattle.std.specs.Prelude.{◌≡◌, None, drop}
use Rattle.std.specs.Option.{option_copied}
use Rattle.qk_whole.specs.Elsewhere.{last_plain}
use Rattle.qk_whole.proofs.known.last_plain.Given as goal

abbrev pub invariant-loop-captured : goal.invariant-loop-captured
invariant-loop-captured l = last_plain (option_copied l.last) (drop l.captured-index l.captures) ≡ last_plain None l.captures
