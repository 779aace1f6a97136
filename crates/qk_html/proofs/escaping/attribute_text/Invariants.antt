use Rattle.std.proofs.Common.{drop}
use Rattle.qk_meaning.specs.Html.{written, attribute_char}
use Rattle.qk_html.proofs.Walking.{Left}
use Rattle.qk_html.proofs.escaping.attribute_text.Given as goal

abbrev pub invariant-loop-byte : goal.invariant-loop-byte
invariant-loop-byte l = Left l.most l.fn.out.items (written attribute_char l.bytes) l.out.items (written attribute_char (drop l.byte-index l.bytes))
