use Rattle.std.proofs.Common.{drop}
use Rattle.qk_meaning.specs.Html.{written, text_char}
use Rattle.qk_html.proofs.Walking.{Left}
use Rattle.qk_html.proofs.escaping.text.Given as goal

abbrev pub invariant-loop-byte : goal.invariant-loop-byte
invariant-loop-byte l = Left l.most l.fn.out.items (written text_char l.bytes) l.out.items (written text_char (drop l.byte-index l.bytes))
