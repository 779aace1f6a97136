-- What a change logs: of an object that is written, and of props that are set.
use Rattle.std.specs.Prelude.{◌≡◌, refl, pos, List, [], ◌∷◌, codes}
use Rattle.qk_meaning.specs.Value.{Text, Site, Value, Fields, Undefined, Int, none, item, end, field}
use Rattle.qk_meaning.specs.World.{Plain, Array, Signal, Keys, Length, Index, Prop, Loc}
use Rattle.qk_meaning.specs.Same.{same}
use Rattle.qk_meaning.specs.Changes.{changed_in}
use Rattle.qk_meaning.specs.Props.{fields_after, props_log}

-- no function is among these values
abbrev no_captures : Site → List Text
no_captures site = []

abbrev one : Value
one = Int (pos 1)

abbrev two : Value
two = Int (pos 2)

abbrev prop : Text → Loc
prop t = record { address = 4; key = Prop t }

abbrev keys : Loc
keys = record { address = 4; key = Keys }

-- ---- objects

key_written : changed_in no_captures (Plain (field (codes "a") one end)) (Plain (field (codes "a") two end)) ≡ Prop (codes "a") ∷ []
key_written = refl

-- the same value again
key_written_alike : changed_in no_captures (Plain (field (codes "a") one end)) (Plain (field (codes "a") one end)) ≡ []
key_written_alike = refl

key_added : changed_in no_captures (Plain end) (Plain (field (codes "a") one end)) ≡ Prop (codes "a") ∷ Keys ∷ []
key_added = refl

-- a new key whose value is `undefined` logs the key list alone, and so does the deletion of one
key_added_undefined : changed_in no_captures (Plain end) (Plain (field (codes "a") Undefined end)) ≡ Keys ∷ []
key_added_undefined = refl

key_deleted : changed_in no_captures (Plain (field (codes "a") one end)) (Plain end) ≡ Prop (codes "a") ∷ Keys ∷ []
key_deleted = refl

item_pushed : changed_in no_captures (Array (item one none)) (Array (item one (item two none))) ≡ Index 1 ∷ Length ∷ []
item_pushed = refl

undefined_pushed : changed_in no_captures (Array (item one none)) (Array (item one (item Undefined none))) ≡ Length ∷ []
undefined_pushed = refl

-- the first of three is cut out: what stands behind it moves
first_cut_out : changed_in no_captures (Array (item one (item two (item two none)))) (Array (item two (item two none))) ≡ Index 0 ∷ Index 2 ∷ Length ∷ []
first_cut_out = refl

signal_written : changed_in no_captures (Signal one) (Signal two) ≡ Prop (codes "value") ∷ []
signal_written = refl

-- ---- props, of which `a` and `b` stand; the view gives `c`, `b` anew and `d` as `undefined`

abbrev stood : Fields
stood = field (codes "a") one (field (codes "b") one end)

abbrev given : Fields
given = field (codes "c") two (field (codes "b") two (field (codes "d") Undefined end))

-- what is removed comes first, then what is written in the view's order, the key list once and last
props_logged : props_log (same no_captures) 4 stood given ≡ prop (codes "a") ∷ prop (codes "c") ∷ prop (codes "b") ∷ keys ∷ []
props_logged = refl

-- a field that stays keeps its place, and new ones stand behind
props_afterwards : fields_after (same no_captures) stood given ≡ field (codes "b") two (field (codes "c") two (field (codes "d") Undefined end))
props_afterwards = refl

-- the same fields in another order: nothing is logged, and each keeps its place
props_in_another_order : props_log (same no_captures) 4 stood (field (codes "b") one (field (codes "a") one end)) ≡ []
props_in_another_order = refl
