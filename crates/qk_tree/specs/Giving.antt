-- What given children stand for in the meaning.
use Rattle.std.specs.Prelude.{List}
use Rattle.qk_ast.specs.Texts.{Text}
use Rattle.qk_meaning.specs.Value.{Site}
use Rattle.qk_meaning.specs.Expansion as E
use Rattle.qk_value.specs.View.{seen_all}
use Rattle.qk_tree.specs.declared.given.Given.{Given, Children', more_of-Frame}

module _ (names : Site → List Text) where
  abbrev pub given_of : Given → E.Given
  given_of Given.Nothing = E.nothing_given
  given_of (Children' _ (more_of-Frame children outer _)) = E.children_of (seen_all names children) (given_of outer)
