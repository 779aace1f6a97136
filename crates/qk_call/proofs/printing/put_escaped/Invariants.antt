use Rattle.std.specs.Prelude.{◌≡◌, ◌++◌, flat_map, drop}
use Rattle.qk_meaning.specs.Output.{printed_char}
use Rattle.qk_call.proofs.printing.put_escaped.Given as goal

abbrev pub invariant-loop-byte : goal.invariant-loop-byte
invariant-loop-byte l = l.out.items ++ flat_map printed_char (drop l.byte-index l.text) ≡ l.initial.out.items ++ flat_map printed_char l.text
