-- Values whose functions keep exactly what they capture. Of these two that are the same are equal.
use Rattle.std.specs.Prelude.{List, ⊤, ◌≡◌, true}
use Rattle.qk_meaning.specs.Value.{Text, Site, Value, Items, Record, Elem, Closure, Lifted, Values, none, item, Fields, end, field}
use Rattle.qk_meaning.specs.Parts.{zipped, picked}
use Rattle.qk_meaning.specs.Same.{same}

module _ (captures : Site → List Text) where
  abbrev mutual
    pub Tidy : Value → Type 0
    Tidy (Items all) = Tidy_all all
    Tidy (Record all) = Tidy_fields all
    Tidy (Elem shown key slot attributes children) = Tidy_fields attributes × Tidy_all children
    Tidy (Closure site scope hidden) = (scope ≡ zipped (captures site) (picked (captures site) scope)) × Tidy_fields scope
    Tidy (Lifted symbol captured hidden) = Tidy_all captured
    Tidy _ = ⊤

    pub Tidy_all : Values → Type 0
    Tidy_all none = ⊤
    Tidy_all (item v rest) = Tidy v × Tidy_all rest

    pub Tidy_fields : Fields → Type 0
    Tidy_fields end = ⊤
    Tidy_fields (field n v rest) = Tidy v × Tidy_fields rest

  -- of tidy values two that are the same are equal
  abbrev pub SameAreEqual : Type 0
  SameAreEqual = (v w : Value) → Tidy v → Tidy w → same captures v w ≡ true → v ≡ w

-- whatever the sites capture
abbrev pub SamesAreEqual : Type 0
SamesAreEqual = (captures : Site → List Text) → SameAreEqual captures
