-- Console lines as they are put together.
use Rattle.std.proofs.Common.{◌≡◌, ◌∙◌, ap, List, [], ◌∷◌, ◌++◌, flat_map, codes, refl}
use Rattle.qk_ast.specs.Texts.{Text}
use Rattle.qk_meaning.specs.Html.{written}
use Rattle.qk_meaning.specs.Output.{printed_char, line, log_lines}
use Rattle.qk_call.specs.Printing.{log_line, on_a_line}

written_is : (t : Text) → written printed_char t ≡ on_a_line t
written_is [] = refl
written_is (c ∷ rest) = ap (λ w. printed_char c ++ w) (written_is rest)

pub log_lines_are : (all : List Text) → log_lines all ≡ flat_map log_line all
log_lines_are [] = refl
log_lines_are (w ∷ rest) = ap (λ t. line (codes "log " ++ t) ++ log_lines rest) (written_is w) ∙ ap (λ t. log_line w ++ t) (log_lines_are rest)
