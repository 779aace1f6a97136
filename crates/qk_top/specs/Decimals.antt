-- Numbers in digits; closed here, since they compute at length.
use Rattle.std.specs.Prelude.{ℕ, ℤ}
use Rattle.qk_meaning.specs.Value.{Text}
use Rattle.qk_ast.specs.Texts.{decimal}
use Rattle.qk_meaning.specs.Texts.{integer_text}

unfoldable pub count_text : ℕ → Text
count_text n = decimal n

unfoldable pub number_text : ℤ → Text
number_text n = integer_text n
