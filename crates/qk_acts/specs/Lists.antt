-- Words on the items of arrays, on `slice` and on `join`.
use Rattle.std.specs.Prelude.{ℕ, ℤ, pos, List, [], ◌∷◌, ◌++◌, Option, Some, None}
use Rattle.qk_meaning.specs.Value.{Text, Value, Int, Words}
use Rattle.qk_meaning.specs.Operators.{Answer, Is, Fails, short_text}
use Rattle.qk_meaning.specs.Methods.{joined_text}
use Rattle.qk_meaning.specs.Writing.{cut_place}
use Rattle.qk_value.specs.declared.value.Value.{Value as Held}
use Rattle.qk_heap.specs.declared.object.Object.{Object}

-- the items of the array that an object is
abbrev pub array_in : Option Object → Option (List Held)
array_in (Some (Object.Array items)) = Some items
array_in _ = None

-- the places between which `slice` cuts, where its arguments are two integers at most; without a second one it goes on to the end
abbrev pub cut_in : List Value → Option (ℤ × Option ℤ)
cut_in [] = Some (pos 0, None)
cut_in (Int a ∷ []) = Some (a, None)
cut_in (Int a ∷ (Int b ∷ [])) = Some (a, Some b)
cut_in _ = None

-- where it ends in a list of this length
abbrev pub stop_in : Option ℤ → ℕ → ℕ
stop_in None size = size
stop_in (Some b) size = cut_place size b

-- the one text that these values are
abbrev pub text_in : List Value → Option Text
text_in (Words t ∷ []) = Some t
text_in _ = None

-- the text so far, then a text and the text of a value by turns
abbrev pub joined_on : Text → Text → List Value → Answer Value
joined_on between so_far [] = short_text so_far
joined_on between so_far (v ∷ rest) = elim (joined_text v) [ Is t ↦ joined_on between (so_far ++ between ++ t) rest | Fails f ↦ Fails f ]

-- the texts of values with a text between each two
abbrev pub joined_all : Text → List Value → Answer Value
joined_all between [] = short_text []
joined_all between (v ∷ rest) = elim (joined_text v) [ Is t ↦ joined_on between t rest | Fails f ↦ Fails f ]
