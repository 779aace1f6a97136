-- Words on the attributes of a JSX value as they are written.
use Rattle.std.specs.Prelude.{Bool, [], ◌∷◌, codes, Option, Some, None}
use Rattle.qk_ast.specs.Texts.{is_among}
use Rattle.qk_meaning.specs.Value.{Text, Value, Fields}
use Rattle.qk_meaning.specs.Parts.{found}
use Rattle.qk_meaning.specs.Markup.{words_of}

abbrev pub words_in : Option Value → Text
words_in None = []
words_in (Some v) = words_of v

-- the text of the first attribute of that name, where it is one
abbrev pub text_under : Text → Fields → Text
text_under name attributes = words_in (found name attributes)

-- the names of the key and of the slot
abbrev pub is_own : Text → Bool
is_own name = is_among name (codes "key" ∷ codes "q:slot" ∷ [])
