-- The scopes around functions that stand for one another, and the names declared in them.
use Rattle.std.specs.Prelude.{◌≡◌, refl, ℕ, zero, suc, Bool, true, false, List, [], ◌∷◌, length, Option, Some, None, codes}
use Rattle.std.proofs.Common.{sym, ◌∙◌, ap, subst, arith}
use Rattle.std.proofs.lemmas.Slice.Eq.{bytes_eq-Decides}
use Rattle.qk_alike.proofs.Sames.{not_both}
use Rattle.qk_meaning.specs.Alike.{Locals_stand, Scopes_stand, outer_names, own_name}
use Rattle.qk_meaning.specs.Ties.{All_stand, Fits, Found_stands, Stands, Ties, both_none, both_some, item_stands, none_stand, undefined}
use Rattle.qk_ast.specs.Names.{around, is_listed}
use Rattle.qk_ast.specs.Texts.{same_text}
use Rattle.qk_meaning.specs.Evaluation.{scope_of, without_track}
use Rattle.qk_meaning.specs.Flow.{opened}
use Rattle.qk_alike.specs.Code_stands.{seen}
use Rattle.qk_meaning.specs.Parts.{found, has_field, listed, or_undefined, packed, picked, replaced, value_at, without_first, zipped}
use Rattle.qk_meaning.specs.Program.{Code}
use Rattle.qk_meaning.specs.Setting.{has_tracker}
use Rattle.qk_meaning.specs.Value.{Fields, Site, Text, Value, Values, end, field, item, none}

-- a field that is there, or not
found_one : (name : Text) (f : Fields) → has_field name f ≡ true → found name f ≡ Some (value_at name f)
found_one name end h = absurd (not_both (sym h))
found_one name (field n v rest) h = go (same_text n name) h (found_one name rest)
  where
    go : (b : Bool) → (elim b as (λ x. Bool) [ true ↦ true | false ↦ has_field name rest ]) ≡ true → (has_field name rest ≡ true → found name rest ≡ Some (value_at name rest)) →
        (elim b as (λ x. Option Value) [ true ↦ Some v | false ↦ found name rest ]) ≡ Some (or_undefined (elim b as (λ x. Option Value) [ true ↦ Some v | false ↦ found name rest ]))
    go true h next = refl
    go false h next = next h

found_none : (name : Text) (f : Fields) → has_field name f ≡ false → found name f ≡ None
found_none name end h = refl
found_none name (field n v rest) h = go (same_text n name) h (found_none name rest)
  where
    go : (b : Bool) → (elim b as (λ x. Bool) [ true ↦ true | false ↦ has_field name rest ]) ≡ false → (has_field name rest ≡ false → found name rest ≡ None) →
        (elim b as (λ x. Option Value) [ true ↦ Some v | false ↦ found name rest ]) ≡ None
    go true h next = absurd (not_both h)
    go false h next = next h

held_found : {t : Ties} (name : Text) (f g : Fields) (b : Bool) → has_field name f ≡ b → has_field name g ≡ b → (b ≡ true → Stands t (value_at name f) (value_at name g)) → Found_stands t (found name f) (found name g)
held_found {t} name f g true p q h = subst (λ x. Found_stands t x (found name g)) (sym (found_one name f p)) (subst (λ x. Found_stands t (Some (value_at name f)) x) (sym (found_one name g q)) (both_some (h refl)))
held_found {t} name f g false p q h = subst (λ x. Found_stands t x (found name g)) (sym (found_none name f p)) (subst (λ x. Found_stands t None x) (sym (found_none name g q)) both_none)

-- of names whose values stand for one another in order, each one's do
picked_value : {t : Ties} (name : Text) (names : List Text) (f g : Fields) → All_stand t (packed (picked names f)) (packed (picked names g)) → is_listed name names ≡ true → Stands t (value_at name f) (value_at name g)
picked_value name [] f g h e = absurd (not_both (sym e))
picked_value {t} name (n ∷ names) f g (item_stands h hs) e = go (same_text n name) refl (λ k. picked_value name names f g hs k) e
  where
    go : (b : Bool) → same_text n name ≡ b → (is_listed name names ≡ true → Stands t (value_at name f) (value_at name g)) → (elim b as (λ x. Bool) [ true ↦ true | false ↦ is_listed name names ]) ≡ true → Stands t (value_at name f) (value_at name g)
    go true p next e = subst (λ x. Stands t (value_at x f) (value_at x g)) ((bytes_eq-Decides n name).0 p) h
    go false p next e = next e

-- scopes that the functions of a site keep on both sides
pub kept_scopes : {t : Ties} {site : Site} (f g : Fields) → Fits t.sites site f → Fits t.sites site g → All_stand t (packed (picked (t.sites.captures site) f)) (packed (picked (t.sites.captures site) g)) → Scopes_stand t (t.sites.free site) (t.sites.captures site) f g
kept_scopes {t} {site} f g p q h = record {
  alike = λ name e. held_found name f g (is_listed name (t.sites.captures site)) (p name e) (q name e) (picked_value name (t.sites.captures site) f g h);
  held = p;
}

-- names with as many values
zipped_held : {t : Ties} (name : Text) (names : List Text) (f : Fields) (v : Values) → All_stand t (packed (picked names f)) v → has_field name (zipped names (listed v)) ≡ is_listed name names
zipped_held name [] f v h = refl
zipped_held name (n ∷ names) f none h = elim h [ ]
zipped_held {t} name (n ∷ names) f (item w ws) (item_stands h hs) = go (same_text n name) (zipped_held name names f ws hs)
  where
    go : (b : Bool) → has_field name (zipped names (listed ws)) ≡ is_listed name names → (elim b as (λ x. Bool) [ true ↦ true | false ↦ has_field name (zipped names (listed ws)) ]) ≡ (elim b as (λ x. Bool) [ true ↦ true | false ↦ is_listed name names ])
    go true k = refl
    go false k = k

zipped_value : {t : Ties} (name : Text) (names : List Text) (f : Fields) (v : Values) → All_stand t (packed (picked names f)) v → is_listed name names ≡ true → Stands t (value_at name f) (value_at name (zipped names (listed v)))
zipped_value name [] f v h e = absurd (not_both (sym e))
zipped_value name (n ∷ names) f none h e = elim h [ ]
zipped_value {t} name (n ∷ names) f (item w ws) (item_stands h hs) e = go (same_text n name) refl (λ k. zipped_value name names f ws hs k) e
  where
    go : (b : Bool) → same_text n name ≡ b → (is_listed name names ≡ true → Stands t (value_at name f) (value_at name (zipped names (listed ws)))) → (elim b as (λ x. Bool) [ true ↦ true | false ↦ is_listed name names ]) ≡ true →
        Stands t (value_at name f) (or_undefined (elim b as (λ x. Option Value) [ true ↦ Some w | false ↦ found name (zipped names (listed ws)) ]))
    go true p next e = subst (λ x. Stands t (value_at x f) w) ((bytes_eq-Decides n name).0 p) h
    go false p next e = next e

-- a whole scope against the captured values
pub captured_scopes : {t : Ties} {site : Site} (f : Fields) (v : Values) → Fits t.sites site f → All_stand t (packed (picked (t.sites.captures site) f)) v → Scopes_stand t (t.sites.free site) (t.sites.captures site) f (zipped (t.sites.captures site) (listed v))
captured_scopes {t} {site} f v p h = record {
  alike = λ name e. held_found name f (zipped (t.sites.captures site) (listed v)) (is_listed name (t.sites.captures site)) (p name e) (zipped_held name (t.sites.captures site) f v h) (zipped_value name (t.sites.captures site) f v h);
  held = p;
}

taken_held : (name : Text) (names : List Text) (v : Values) → length (listed v) ≡ length names → has_field name (zipped names (listed v)) ≡ is_listed name names
taken_held name [] v e = refl
taken_held name (n ∷ names) none e = absurd (nothing (length names) e)
  where
    nothing : (k : ℕ) → 0 ≡ suc k → ⊥
    nothing k e = omega arith
taken_held name (n ∷ names) (item w ws) e = go (same_text n name) (taken_held name names ws (omega arith))
  where
    go : (b : Bool) → has_field name (zipped names (listed ws)) ≡ is_listed name names → (elim b as (λ x. Bool) [ true ↦ true | false ↦ has_field name (zipped names (listed ws)) ]) ≡ (elim b as (λ x. Bool) [ true ↦ true | false ↦ is_listed name names ])
    go true k = refl
    go false k = k

taken_found : {t : Ties} (name : Text) (names : List Text) (v w : Values) → All_stand t v w → Found_stands t (found name (zipped names (listed v))) (found name (zipped names (listed w)))
taken_found name [] v w h = both_none
taken_found name (n ∷ names) none none none_stand = both_none
taken_found name (n ∷ names) none (item w ws) h = elim h [ ]
taken_found name (n ∷ names) (item v vs) none h = elim h [ ]
taken_found {t} name (n ∷ names) (item v vs) (item w ws) (item_stands h hs) = go (same_text n name) (taken_found name names vs ws hs)
  where
    go : (b : Bool) → Found_stands t (found name (zipped names (listed vs))) (found name (zipped names (listed ws))) → Found_stands t (elim b as (λ x. Option Value) [ true ↦ Some v | false ↦ found name (zipped names (listed vs)) ]) (elim b as (λ x. Option Value) [ true ↦ Some w | false ↦ found name (zipped names (listed ws)) ])
    go true k = both_some h
    go false k = k

-- captured values on both sides
pub taken_scopes : {t : Ties} {free : List Text} (names : List Text) (v w : Values) → length (listed v) ≡ length names → All_stand t v w → Scopes_stand t free names (zipped names (listed v)) (zipped names (listed w))
taken_scopes names v w n h = record { alike = λ name e. taken_found name names v w h; held = λ name e. taken_held name names v n }

-- names are opened on both sides
pub opens : {t : Ties} {free captured own : List Text} {f g : Fields} (names : List Text) → Locals_stand t free captured own f g → Locals_stand t free captured (around names own) (opened names f) (opened names g)
opens [] h = h
opens (name ∷ rest) h = opens rest (own_name undefined h)

without_one : (n : ℕ) (f : Fields) → without_first (suc n) f ≡ without_first 1 (without_first n f)
without_one zero f = refl
without_one (suc n) end = refl
without_one (suc n) (field m v rest) = without_one n rest

tail_stands : {t : Ties} {free captured own : List Text} {name : Text} {f g : Fields} → Locals_stand t free captured (name ∷ own) f g → Locals_stand t free captured own (without_first 1 f) (without_first 1 g)
tail_stands (own_name h hs) = hs

-- names are closed on both sides
pub closes : {t : Ties} {free captured own : List Text} {f g : Fields} (names : List Text) → Locals_stand t free captured (around names own) f g → Locals_stand t free captured own (without_first (length names) f) (without_first (length names) g)
closes [] h = h
closes {t} {free} {captured} {own} {f} {g} (name ∷ rest) h =
    subst (λ x. Locals_stand t free captured own x (without_first (suc (length rest)) g)) (sym (without_one (length rest) f))
    (subst (λ x. Locals_stand t free captured own (without_first 1 (without_first (length rest) f)) x) (sym (without_one (length rest) g)) (tail_stands (closes rest h)))

-- a name within reach is found alike
pub reached : {t : Ties} {free captured own : List Text} {f g : Fields} (name : Text) → Locals_stand t free captured own f g → (elim (is_listed name own) as (λ x. Bool) [ true ↦ true | false ↦ is_listed name free ]) ≡ true → Found_stands t (found name f) (found name g)
reached name (outer_names h) e = h.alike name e
reached {t} {free} {captured} name (own_name {name = n} {v = v} {w = w} {names = names} {f = f} {g = g} h hs) e = go (same_text n name) (λ k. reached name hs k) e
  where
    go : (b : Bool) → ((elim (is_listed name names) as (λ x. Bool) [ true ↦ true | false ↦ is_listed name free ]) ≡ true → Found_stands t (found name f) (found name g)) → (elim (elim b as (λ x. Bool) [ true ↦ true | false ↦ is_listed name names ]) as (λ x. Bool) [ true ↦ true | false ↦ is_listed name free ]) ≡ true →
        Found_stands t (elim b as (λ x. Option Value) [ true ↦ Some v | false ↦ found name f ]) (elim b as (λ x. Option Value) [ true ↦ Some w | false ↦ found name g ])
    go true next e = both_some h
    go false next e = next e

pub found_values : {t : Ties} {o o' : Option Value} → Found_stands t o o' → Stands t (or_undefined o) (or_undefined o')
found_values both_none = undefined
found_values (both_some h) = h

-- which names within reach are locals
pub held : {t : Ties} {free captured own : List Text} {f g : Fields} (name : Text) → Locals_stand t free captured own f g → (elim (is_listed name own) as (λ x. Bool) [ true ↦ true | false ↦ is_listed name free ]) ≡ true →
    has_field name f ≡ (elim (is_listed name own) as (λ x. Bool) [ true ↦ true | false ↦ is_listed name captured ])
held name (outer_names h) e = h.held name e
held {t} {free} {captured} name (own_name {name = n} {names = names} {f = f} h hs) e = go (same_text n name) (λ k. held name hs k) e
  where
    go : (b : Bool) → ((elim (is_listed name names) as (λ x. Bool) [ true ↦ true | false ↦ is_listed name free ]) ≡ true → has_field name f ≡ (elim (is_listed name names) as (λ x. Bool) [ true ↦ true | false ↦ is_listed name captured ])) → (elim (elim b as (λ x. Bool) [ true ↦ true | false ↦ is_listed name names ]) as (λ x. Bool) [ true ↦ true | false ↦ is_listed name free ]) ≡ true →
        (elim b as (λ x. Bool) [ true ↦ true | false ↦ has_field name f ]) ≡ (elim (elim b as (λ x. Bool) [ true ↦ true | false ↦ is_listed name names ]) as (λ x. Bool) [ true ↦ true | false ↦ is_listed name captured ])
    go true next e = refl
    go false next e = next e

has_found : (name : Text) (f : Fields) → has_field name f ≡ (elim (found name f) as (λ x. Bool) [ Some v ↦ true | None ↦ false ])
has_found name end = refl
has_found name (field n v rest) = go (same_text n name) (has_found name rest)
  where
    go : (b : Bool) → has_field name rest ≡ (elim (found name rest) as (λ x. Bool) [ Some v ↦ true | None ↦ false ]) →
        (elim b as (λ x. Bool) [ true ↦ true | false ↦ has_field name rest ]) ≡ (elim (elim b as (λ x. Option Value) [ true ↦ Some v | false ↦ found name rest ]) as (λ x. Bool) [ Some v ↦ true | None ↦ false ])
    go true e = refl
    go false e = e

-- what is found alike is there alike
pub there_alike : {t : Ties} (name : Text) (f g : Fields) → Found_stands t (found name f) (found name g) → has_field name f ≡ has_field name g
there_alike {t} name f g h = has_found name f ∙ (go (found name f) (found name g) h ∙ sym (has_found name g))
  where
    go : (o o' : Option Value) → Found_stands t o o' → (elim o as (λ x. Bool) [ Some v ↦ true | None ↦ false ]) ≡ (elim o' as (λ x. Bool) [ Some v ↦ true | None ↦ false ])
    go None None both_none = refl
    go (Some v) (Some w) (both_some h) = refl
    go None (Some w) k = elim k [ ]
    go (Some v) None k = elim k [ ]

-- a name is assigned: elsewhere nothing changes
replaced_found : (name other : Text) (v : Value) (f : Fields) → found other (replaced name v f) ≡ (elim (same_text name other) as (λ x. Option Value) [ true ↦ (elim (found other f) as (λ x. Option Value) [ Some w ↦ Some v | None ↦ None ]) | false ↦ found other f ])
replaced_found name other v end = go (same_text name other)
  where
    go : (b : Bool) → None ≡ (elim b as (λ x. Option Value) [ true ↦ None | false ↦ None ])
    go true = refl
    go false = refl
replaced_found name other v (field n w rest) = go (same_text n name) (same_text n other) (same_text name other) refl refl refl (replaced_found name other v rest)
  where
    go : (a b c : Bool) → same_text n name ≡ a → same_text n other ≡ b → same_text name other ≡ c →
        found other (replaced name v rest) ≡ (elim c as (λ x. Option Value) [ true ↦ (elim (found other rest) as (λ x. Option Value) [ Some w ↦ Some v | None ↦ None ]) | false ↦ found other rest ]) →
        found other (elim a as (λ x. Fields) [ true ↦ field n v rest | false ↦ field n w (replaced name v rest) ]) ≡
        (elim c as (λ x. Option Value) [ true ↦ (elim (elim b as (λ x. Option Value) [ true ↦ Some w | false ↦ found other rest ]) as (λ x. Option Value) [ Some w ↦ Some v | None ↦ None ]) | false ↦ (elim b as (λ x. Option Value) [ true ↦ Some w | false ↦ found other rest ]) ])
    go true true true p q r e = ap (λ b. elim b as (λ x. Option Value) [ true ↦ Some v | false ↦ found other rest ]) q
    go true false false p q r e = ap (λ b. elim b as (λ x. Option Value) [ true ↦ Some v | false ↦ found other rest ]) q
    go false true false p q r e = ap (λ b. elim b as (λ x. Option Value) [ true ↦ Some w | false ↦ found other (replaced name v rest) ]) q
    go false false true p q r e = ap (λ b. elim b as (λ x. Option Value) [ true ↦ Some w | false ↦ found other (replaced name v rest) ]) q ∙ e
    go false false false p q r e = ap (λ b. elim b as (λ x. Option Value) [ true ↦ Some w | false ↦ found other (replaced name v rest) ]) q ∙ e
    go true true false p q r e = absurd (not_both (sym (subst (λ x. same_text x other ≡ true) ((bytes_eq-Decides n name).0 p) q) ∙ r))
    go true false true p q r e = absurd (not_both (sym r ∙ subst (λ x. same_text x other ≡ false) ((bytes_eq-Decides n name).0 p) q))
    go false true true p q r e = absurd (not_both (sym ((bytes_eq-Decides n name).1 ((bytes_eq-Decides n other).0 q ∙ sym ((bytes_eq-Decides name other).0 r))) ∙ p))

replaced_stands : {t : Ties} (b : Bool) {v w : Value} {o o' : Option Value} → Stands t v w → Found_stands t o o' →
    Found_stands t (elim b as (λ x. Option Value) [ true ↦ (elim o as (λ x. Option Value) [ Some u ↦ Some v | None ↦ None ]) | false ↦ o ]) (elim b as (λ x. Option Value) [ true ↦ (elim o' as (λ x. Option Value) [ Some u ↦ Some w | None ↦ None ]) | false ↦ o' ])
replaced_stands true h both_none = both_none
replaced_stands true h (both_some k) = both_some h
replaced_stands false h k = k

replaced_there : (name other : Text) (v : Value) (f : Fields) → has_field other (replaced name v f) ≡ has_field other f
replaced_there name other v end = refl
replaced_there name other v (field n w rest) = go (same_text n name) (replaced_there name other v rest)
  where
    go : (a : Bool) → has_field other (replaced name v rest) ≡ has_field other rest → has_field other (elim a as (λ x. Fields) [ true ↦ field n v rest | false ↦ field n w (replaced name v rest) ]) ≡ has_field other (field n w rest)
    go true e = refl
    go false e = ap (λ x. elim (same_text n other) as (λ x. Bool) [ true ↦ true | false ↦ x ]) e

pub assigned_alike : {t : Ties} {free captured own : List Text} {f g : Fields} (name : Text) {v w : Value} → Stands t v w → Locals_stand t free captured own f g → Locals_stand t free captured own (replaced name v f) (replaced name w g)
assigned_alike {t} {free} {captured} name {v} {w} h (outer_names {f = f} {g = g} k) = outer_names (record {
  alike = λ other e. subst (λ x. Found_stands t x (found other (replaced name w g))) (sym (replaced_found name other v f)) (subst (λ x. Found_stands t (elim (same_text name other) as (λ x. Option Value) [ true ↦ (elim (found other f) as (λ x. Option Value) [ Some u ↦ Some v | None ↦ None ]) | false ↦ found other f ]) x) (sym (replaced_found name other w g)) (replaced_stands (same_text name other) h (k.alike other e)));
  held = λ other e. replaced_there name other v f ∙ k.held other e;
})
assigned_alike {t} {free} {captured} name {v} {w} h (own_name {name = n} {v = v'} {w = w'} {names = names} {f = f} {g = g} k ks) = go (same_text n name) (assigned_alike name h ks)
  where
    go : (b : Bool) → Locals_stand t free captured names (replaced name v f) (replaced name w g) → Locals_stand t free captured (n ∷ names) (elim b as (λ x. Fields) [ true ↦ field n v f | false ↦ field n v' (replaced name v f) ]) (elim b as (λ x. Fields) [ true ↦ field n w g | false ↦ field n w' (replaced name w g) ])
    go true rest = own_name h ks
    go false rest = own_name k rest

-- ---- the scope of a task with the parameter `track`

untracked_other : (name : Text) (f : Fields) → same_text (codes "track") name ≡ false → found name (without_track f) ≡ found name f
untracked_other name end e = refl
untracked_other name (field n v rest) e = go (same_text n (codes "track")) (same_text n name) refl refl (untracked_other name rest e)
  where
    go : (a b : Bool) → same_text n (codes "track") ≡ a → same_text n name ≡ b → found name (without_track rest) ≡ found name rest →
        found name (elim a as (λ x. Fields) [ true ↦ without_track rest | false ↦ field n v (without_track rest) ]) ≡ (elim b as (λ x. Option Value) [ true ↦ Some v | false ↦ found name rest ])
    go true true p q k = absurd (not_both (sym (subst (λ x. same_text x name ≡ true) ((bytes_eq-Decides n (codes "track")).0 p) q) ∙ e))
    go true false p q k = k
    go false true p q k = ap (λ b. elim b as (λ x. Option Value) [ true ↦ Some v | false ↦ found name (without_track rest) ]) q
    go false false p q k = ap (λ b. elim b as (λ x. Option Value) [ true ↦ Some v | false ↦ found name (without_track rest) ]) q ∙ k

untracked : (f : Fields) → found (codes "track") (without_track f) ≡ None
untracked end = refl
untracked (field n v rest) = go (same_text n (codes "track")) refl (untracked rest)
  where
    go : (a : Bool) → same_text n (codes "track") ≡ a → found (codes "track") (without_track rest) ≡ None → found (codes "track") (elim a as (λ x. Fields) [ true ↦ without_track rest | false ↦ field n v (without_track rest) ]) ≡ None
    go true p k = k
    go false p k = ap (λ b. elim b as (λ x. Option Value) [ true ↦ Some v | false ↦ found (codes "track") (without_track rest) ]) p ∙ k

untracked_scopes : {t : Ties} {free captured : List Text} {f g : Fields} → is_listed (codes "track") captured ≡ false → Scopes_stand t free captured f g → Scopes_stand t (codes "track" ∷ free) captured (without_track f) (without_track g)
untracked_scopes {t} {free} {captured} {f} {g} out k = record {
  alike = λ name e. alike_one name (same_text (codes "track") name) refl e;
  held = λ name e. has_found name (without_track f) ∙ held_one name (same_text (codes "track") name) refl e;
}
  where
    alike_one : (name : Text) (b : Bool) → same_text (codes "track") name ≡ b → (elim b as (λ x. Bool) [ true ↦ true | false ↦ is_listed name free ]) ≡ true → Found_stands t (found name (without_track f)) (found name (without_track g))
    alike_one name true p e =
        subst (λ n. Found_stands t (found n (without_track f)) (found n (without_track g))) ((bytes_eq-Decides (codes "track") name).0 p)
        (subst (λ x. Found_stands t x (found (codes "track") (without_track g))) (sym (untracked f)) (subst (λ x. Found_stands t None x) (sym (untracked g)) both_none))
    alike_one name false p e =
        subst (λ x. Found_stands t x (found name (without_track g))) (sym (untracked_other name f p)) (subst (λ x. Found_stands t (found name f) x) (sym (untracked_other name g p)) (k.alike name e))

    held_one : (name : Text) (b : Bool) → same_text (codes "track") name ≡ b → (elim b as (λ x. Bool) [ true ↦ true | false ↦ is_listed name free ]) ≡ true →
        (elim (found name (without_track f)) as (λ x. Bool) [ Some v ↦ true | None ↦ false ]) ≡ is_listed name captured
    held_one name true p e =
        subst (λ n. (elim (found n (without_track f)) as (λ x. Bool) [ Some v ↦ true | None ↦ false ]) ≡ is_listed n captured) ((bytes_eq-Decides (codes "track") name).0 p)
        (ap (λ o. elim o as (λ x. Bool) [ Some v ↦ true | None ↦ false ]) (untracked f) ∙ sym out)
    held_one name false p e = ap (λ o. elim o as (λ x. Bool) [ Some v ↦ true | None ↦ false ]) (untracked_other name f p) ∙ (sym (has_found name f) ∙ k.held name e)

-- the scopes that two arrows' codes see
pub seen_scopes : {t : Ties} {free captured : List Text} {f g : Fields} (code code' : Code) → has_tracker code ≡ has_tracker code' → (has_tracker code ≡ true → is_listed (codes "track") captured ≡ false) → Scopes_stand t free captured f g →
    Scopes_stand t (seen code free) captured (scope_of code f) (scope_of code' g)
seen_scopes {t} {free} {captured} {f} {g} code code' e out k =
    subst (λ b. Scopes_stand t (seen code free) captured (scope_of code f) (elim b as (λ x. Fields) [ true ↦ without_track g | false ↦ g ])) e (go (has_tracker code) refl)
  where
    go : (b : Bool) → has_tracker code ≡ b → Scopes_stand t (elim b as (λ x. List Text) [ true ↦ codes "track" ∷ free | false ↦ free ]) captured (elim b as (λ x. Fields) [ true ↦ without_track f | false ↦ f ]) (elim b as (λ x. Fields) [ true ↦ without_track g | false ↦ g ])
    go true p = untracked_scopes (out p) k
    go false p = k
