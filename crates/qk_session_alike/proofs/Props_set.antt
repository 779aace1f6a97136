-- Props are set alike, and the same is logged for them.
use Rattle.std.specs.Prelude.{◌≡◌, refl, ℕ, Bool, true, false, not, ◌||◌, List, [], ◌∷◌, Option, Some, None}
use Rattle.std.proofs.Common.{ap, subst}
use mathlib.Core.Path.{ap₂}
use Rattle.qk_meaning.specs.Value.{Text, Value, Fields, field}
use Rattle.qk_meaning.specs.World.{Loc, Keys, Prop}
use Rattle.qk_meaning.specs.Parts.{has_field, value_at}
use Rattle.qk_meaning.specs.Props.{kept_fields, new_fields, appended, fields_after, changed, lacks_some, props_log}
use Rattle.qk_meaning.specs.Ties.{Ties, Paired, Stands, Fields_stand, end_stands, field_stands, Found_stands, both_none, both_some, Pairwise, no_more, one_more, Loc_stands, located_alike}
use Rattle.qk_alike.proofs.Lists.{appends}
use Rattle.qk_alike.proofs.Objects.{founds, field_values, fields_there}

-- comparisons agree
pub record Sames_agree (t : Ties) (same same' : Value → Value → Bool) : Type 0 where
  pub agree : {v v' w w' : Value} → Stands t v v' → Stands t w w' → same v w ≡ same' v' w'

module _ {t : Ties} (same same' : Value → Value → Bool) (sames : Sames_agree t same same') where
  open sames use {agree}

  kept_one : (k : Text) {v v' : Value} {f f' : Fields} {o o' : Option Value} → Stands t v v' → Fields_stand t f f' → Found_stands t o o' →
      Fields_stand t (elim o as (λ y. Fields) [ None ↦ f | Some w ↦ elim (same v w) as (λ y. Fields) [ true ↦ field k v f | false ↦ field k w f ] ]) (elim o' as (λ y. Fields) [ None ↦ f' | Some w ↦ elim (same' v' w) as (λ y. Fields) [ true ↦ field k v' f' | false ↦ field k w f' ] ])
  kept_one k h hs both_none = hs
  kept_one k {v} {v'} {f} {f'} h hs (both_some {v = w} {w = w'} l) =
      subst (λ c. Fields_stand t (elim (same v w) as (λ y. Fields) [ true ↦ field k v f | false ↦ field k w f ]) (elim c as (λ y. Fields) [ true ↦ field k v' f' | false ↦ field k w' f' ])) (agree h l) (go (same v w))
    where
      go : (c : Bool) → Fields_stand t (elim c as (λ y. Fields) [ true ↦ field k v f | false ↦ field k w f ]) (elim c as (λ y. Fields) [ true ↦ field k v' f' | false ↦ field k w' f' ])
      go true = field_stands h hs
      go false = field_stands l hs

  kept_stand : {old old' given given' : Fields} → Fields_stand t old old' → Fields_stand t given given' → Fields_stand t (kept_fields same old given) (kept_fields same' old' given')
  kept_stand end_stands g = end_stands
  kept_stand (field_stands {k = k} h hs) g = kept_one k h (kept_stand hs g) (founds k g)

  new_stand : {old old' given given' : Fields} → Fields_stand t old old' → Fields_stand t given given' → Fields_stand t (new_fields old given) (new_fields old' given')
  new_stand o end_stands = end_stands
  new_stand {old} {old'} o (field_stands {k = k} {v = v} {w = w} {rest = rest} {more = more} h hs) =
      subst (λ c. Fields_stand t (elim (has_field k old) as (λ y. Fields) [ true ↦ new_fields old rest | false ↦ field k v (new_fields old rest) ]) (elim c as (λ y. Fields) [ true ↦ new_fields old' more | false ↦ field k w (new_fields old' more) ])) (fields_there k o) (go (has_field k old) (new_stand o hs))
    where
      go : (c : Bool) → Fields_stand t (new_fields old rest) (new_fields old' more) → Fields_stand t (elim c as (λ y. Fields) [ true ↦ new_fields old rest | false ↦ field k v (new_fields old rest) ]) (elim c as (λ y. Fields) [ true ↦ new_fields old' more | false ↦ field k w (new_fields old' more) ])
      go true n = n
      go false n = field_stands h n

  appended_stand : {f f' g g' : Fields} → Fields_stand t f f' → Fields_stand t g g' → Fields_stand t (appended f g) (appended f' g')
  appended_stand end_stands k = k
  appended_stand (field_stands h hs) k = field_stands h (appended_stand hs k)

  pub after_stand : {old old' given given' : Fields} → Fields_stand t old old' → Fields_stand t given given' → Fields_stand t (fields_after same old given) (fields_after same' old' given')
  after_stand o g = appended_stand (kept_stand o g) (new_stand o g)

  -- ---- the log

  logged_one : {x y : ℕ} (k : Text) (c d : Bool) {l m : List Loc} → Paired t.pairing x y → Pairwise (Loc_stands t) l m →
      Pairwise (Loc_stands t) (elim c as (λ z. List Loc) [ false ↦ l | true ↦ elim d as (λ z. List Loc) [ true ↦ l | false ↦ record { address = x; key = Prop k } ∷ l ] ]) (elim c as (λ z. List Loc) [ false ↦ m | true ↦ elim d as (λ z. List Loc) [ true ↦ m | false ↦ record { address = y; key = Prop k } ∷ m ] ])
  logged_one k false d p h = h
  logged_one k true true p h = h
  logged_one k true false p h = one_more (located_alike p) h

  changed_stand : {x y : ℕ} (test test' : Text → Bool) → ((k : Text) → test k ≡ test' k) → Paired t.pairing x y → {f f' old old' given given' : Fields} → Fields_stand t f f' → Fields_stand t old old' → Fields_stand t given given' →
      Pairwise (Loc_stands t) (changed same x test f old given) (changed same' y test' f' old' given')
  changed_stand test test' e p end_stands o g = no_more
  changed_stand {x} {y} test test' e p {old = old} {old' = old'} {given = given} {given' = given'} (field_stands {k = k} {rest = rest} {more = more} h hs) o g =
      subst (λ c. Pairwise (Loc_stands t) (elim (test k) as (λ z. List Loc) [ false ↦ l | true ↦ elim (same (value_at k old) (value_at k given)) as (λ z. List Loc) [ true ↦ l | false ↦ record { address = x; key = Prop k } ∷ l ] ]) (elim c as (λ z. List Loc) [ false ↦ m | true ↦ elim (same' (value_at k old') (value_at k given')) as (λ z. List Loc) [ true ↦ m | false ↦ record { address = y; key = Prop k } ∷ m ] ])) (e k)
      (subst (λ d. Pairwise (Loc_stands t) (elim (test k) as (λ z. List Loc) [ false ↦ l | true ↦ elim (same (value_at k old) (value_at k given)) as (λ z. List Loc) [ true ↦ l | false ↦ record { address = x; key = Prop k } ∷ l ] ]) (elim (test k) as (λ z. List Loc) [ false ↦ m | true ↦ elim d as (λ z. List Loc) [ true ↦ m | false ↦ record { address = y; key = Prop k } ∷ m ] ])) (agree (field_values k o) (field_values k g))
      (logged_one k (test k) (same (value_at k old) (value_at k given)) p (changed_stand test test' e p hs o g)))
    where
      l : List Loc
      l = changed same x test rest old given

      m : List Loc
      m = changed same' y test' more old' given'

  lacks_alike : {f f' g g' : Fields} → Fields_stand t f f' → Fields_stand t g g' → lacks_some f g ≡ lacks_some f' g'
  lacks_alike end_stands g = refl
  lacks_alike (field_stands {k = k} h hs) g = ap₂ (λ c d. not c || d) (fields_there k g) (lacks_alike hs g)

  keys_logged : {x y : ℕ} (c : Bool) → Paired t.pairing x y → Pairwise (Loc_stands t) (elim c as (λ z. List Loc) [ true ↦ record { address = x; key = Keys } ∷ [] | false ↦ [] ]) (elim c as (λ z. List Loc) [ true ↦ record { address = y; key = Keys } ∷ [] | false ↦ [] ])
  keys_logged true p = one_more (located_alike p) no_more
  keys_logged false p = no_more

  pub log_stands : {x y : ℕ} {old old' given given' : Fields} → Paired t.pairing x y → Fields_stand t old old' → Fields_stand t given given' → Pairwise (Loc_stands t) (props_log same x old given) (props_log same' y old' given')
  log_stands {x} {y} {old} {old'} {given} {given'} p o g =
      appends (changed_stand (λ k. not (has_field k given)) (λ k. not (has_field k given')) (λ k. ap not (fields_there k g)) p o o g)
      (appends (changed_stand (λ k. true) (λ k. true) (λ k. refl) p g o g)
      (subst (λ c. Pairwise (Loc_stands t) (elim (lacks_some old given || lacks_some given old) as (λ z. List Loc) [ true ↦ record { address = x; key = Keys } ∷ [] | false ↦ [] ]) (elim c as (λ z. List Loc) [ true ↦ record { address = y; key = Keys } ∷ [] | false ↦ [] ])) (ap₂ (λ c d. c || d) (lacks_alike o g) (lacks_alike g o)) (keys_logged (lacks_some old given || lacks_some given old) p)))
