-- Comparisons of values that stand for one another agree.
use Rattle.std.specs.Prelude.{◌≡◌, ⊤, refl, ℕ, Bool, true, false, ◌&&◌, List, [], ◌∷◌, map, ◌==◌, Some}
use Rattle.std.proofs.Common.{sym, ◌∙◌, ap, subst}
use Rattle.std.proofs.lemmas.Bool.{eqb-true, eqb-false}
use mathlib.Core.Path.{ap₂}
use Rattle.qk_meaning.specs.Ties.{All_stand, Apart, Fields_stand, Paired, Shown_as, Stands, Ties, a_component, a_fragment, a_slot, a_symbol, an_element, by_symbol, closure, elem, end_stands, field_stands, fields, int, item_stands, items, lifted, none_stand, null, own_symbol, ref, truth, undefined, words}
use Rattle.qk_meaning.specs.Same.{same}
use Rattle.qk_ast.specs.Texts.{same_text}
use Rattle.qk_meaning.specs.Parts.{found, or_undefined, packed, picked, value_at}
use Rattle.qk_meaning.specs.Same.{all_true, same_all, same_fields, same_key, same_named, same_shown, same_site, same_truth}
use Rattle.qk_meaning.specs.Value.{Fields, Shown, Site, Text, Undefined, Value, Values, end, field}

pub addresses : (a a' b b' : ℕ) → (a ≡ a' → b ≡ b') → (b ≡ b' → a ≡ a') → (a == a') ≡ (b == b')
addresses a a' b b' f g = go (a == a') (b == b') refl refl
  where
    go : (x y : Bool) → (a == a') ≡ x → (b == b') ≡ y → x ≡ y
    go true true e h = refl
    go false false e h = refl
    go true false e h = absurd (eqb-false b b' h (f (eqb-true a a' e)))
    go false true e h = absurd (eqb-false a a' e (g (eqb-true b b' h)))

abbrev is_true_type : Bool → Type 0
is_true_type true = ⊤
is_true_type false = ⊥

pub not_both : true ≡ false → ⊥
not_both e = subst is_true_type e tt

five : {a a' d d' e e' : Bool} (b c : Bool) → a ≡ a' → d ≡ d' → e ≡ e' → (a && b && c && d && e) ≡ (a' && b && c && d' && e')
five b c p q r = λ i. p i && b && c && q i && r i

module _ (captures : Site → List Text) where
  same-named : (scope : Fields) (name : Text) (w : Value) → same_named captures scope name w ≡ same captures (value_at name scope) w
  same-named end name w = undefined_one w
    where
      undefined_one : (w : Value) → same_named captures end name w ≡ same captures Undefined w
      undefined_one w = refl
  same-named (field n v rest) name w = go (same_text n name) (same-named rest name w)
    where
      go : (b : Bool) → same_named captures rest name w ≡ same captures (value_at name rest) w →
          (elim b as (λ x. Bool) [ true ↦ same captures v w | false ↦ same_named captures rest name w ]) ≡ same captures (or_undefined (elim b [ true ↦ Some v | false ↦ found name rest ])) w
      go true e = refl
      go false e = e

  same-picked : (names : List Text) (f g : Fields) → all_true (map (λ name. same_named captures f name (value_at name g)) names) ≡ same_all captures (packed (picked names f)) (packed (picked names g))
  same-picked [] f g = refl
  same-picked (name ∷ names) f g = ap₂ ◌&&◌ (same-named f name (value_at name g)) (same-picked names f g)

module _ (t : Ties) (apart : Apart t) (second : Site → List Text) (second_captures : (site : Site) → t.sites.stays site ≡ true → second (t.sites.other site) ≡ t.sites.captures site) where
  shown_same : {x x' y y' : Shown} → Shown_as t.sites x x' → Shown_as t.sites y y' → same_shown x y ≡ same_shown x' y'
  shown_same (a_component {site = s} h _ _) (a_component {site = u} k _ _) = apart.sites_one s u h k
  shown_same (a_symbol {site = s} h _) (a_symbol {site = u} k _) = apart.symbols_one s u h k
  shown_same (a_component {site = s} h _ _) (a_symbol {site = u} k _) = (apart.kinds_apart u s k h).1
  shown_same (a_symbol {site = s} h _) (a_component {site = u} k _ _) = (apart.kinds_apart s u h k).0
  shown_same (a_symbol {site = s} h _) (own_symbol k _) = absurd (apart.no_both s h k)
  shown_same (own_symbol k _) (a_symbol {site = s} h _) = absurd (apart.no_both s h k)
  shown_same an_element an_element = refl
  shown_same an_element a_fragment = refl
  shown_same an_element a_slot = refl
  shown_same an_element (a_component k0 _ _) = refl
  shown_same an_element (a_symbol k0 _) = refl
  shown_same an_element (own_symbol k0 _) = refl
  shown_same a_fragment an_element = refl
  shown_same a_fragment a_fragment = refl
  shown_same a_fragment a_slot = refl
  shown_same a_fragment (a_component k0 _ _) = refl
  shown_same a_fragment (a_symbol k0 _) = refl
  shown_same a_fragment (own_symbol k0 _) = refl
  shown_same a_slot an_element = refl
  shown_same a_slot a_fragment = refl
  shown_same a_slot a_slot = refl
  shown_same a_slot (a_component k0 _ _) = refl
  shown_same a_slot (a_symbol k0 _) = refl
  shown_same a_slot (own_symbol k0 _) = refl
  shown_same (a_component h0 _ _) an_element = refl
  shown_same (a_component h0 _ _) a_fragment = refl
  shown_same (a_component h0 _ _) a_slot = refl
  shown_same (a_component h0 _ _) (own_symbol k0 _) = refl
  shown_same (a_symbol h0 _) an_element = refl
  shown_same (a_symbol h0 _) a_fragment = refl
  shown_same (a_symbol h0 _) a_slot = refl
  shown_same (own_symbol h0 _) an_element = refl
  shown_same (own_symbol h0 _) a_fragment = refl
  shown_same (own_symbol h0 _) a_slot = refl
  shown_same (own_symbol h0 _) (a_component k0 _ _) = refl
  shown_same (own_symbol h0 _) (own_symbol k0 _) = refl

  three : {a a' d d' : Bool} (b : Bool) → a ≡ a' → d ≡ d' → (b && a && d) ≡ (b && a' && d')
  three b p q = λ i. b && p i && q i

  if_site : (b b' x y y' : Bool) → b ≡ b' → (b ≡ true → y ≡ y') → (b && x && y) ≡ (b' && x && y')
  if_site true true x y y' e f = ap (λ z. x && z) (f refl)
  if_site false false x y y' e f = refl
  if_site true false x y y' e f = absurd (not_both e)
  if_site false true x y y' e f = absurd (not_both (sym e))

  aligned : (s u : Site) → same_site s u ≡ true → (f g : Fields) {b : Bool} → same_all t.sites.captures (packed (picked (t.sites.captures s) f)) (packed (picked (t.sites.captures u) g)) ≡ b →
      same_all t.sites.captures (packed (picked (t.sites.captures s) f)) (packed (picked (t.sites.captures s) g)) ≡ b
  aligned s u e f g k = ap (λ names. same_all t.sites.captures (packed (picked (t.sites.captures s) f)) (packed (picked names g))) (apart.captured_alike s u e) ∙ k

  mutual
    pub sames : {v v' w w' : Value} → Stands t v v' → Stands t w w' → same t.sites.captures v w ≡ same second v' w'
    sames (ref {a = a} {b = b} h) (ref {a = a'} {b = b'} k) =
        addresses a a' b b' (λ e. apart.one_right a b b' h (subst (λ x. Paired t.pairing x b') (sym e) k)) (λ e. apart.one_left a a' b h (subst (λ x. Paired t.pairing a' x) (sym e) k))
    sames (items h) (items k) = all_sames h k
    sames (fields h) (fields k) = field_sames h k
    sames (elem {key = key} {slot = slot} s f h) (elem {key = key'} {slot = slot'} u g k) = five (same_key key key') (same_text slot slot') (shown_same s u) (field_sames f g) (all_sames h k)
    sames (lifted {symbol = a} {hidden = b} e n h) (lifted {symbol = a'} {hidden = b'} e' n' k) = ap (λ x. same_text a a' && same_truth b b' && x) (all_sames h k)
    sames (closure {site = s} {f = f} {g = f'} {hidden = hidden} l fits fits' h) (closure {site = u} {f = g} {g = g'} {hidden = hidden'} m fits'' fits''' k) =
        if_site (same_site s u) (same_site (t.sites.other s) (t.sites.other u)) (same_truth hidden hidden') _ _ (apart.sites_one s u l m)
        (λ e. same-picked t.sites.captures (t.sites.captures s) f g ∙ (aligned s u e f g (all_sames h k) ∙ (ap (λ names. same_all second (packed (picked (t.sites.captures s) f')) (packed (picked names g'))) (sym (apart.captured_alike s u e)) ∙ (sym (same-picked second (t.sites.captures s) f' g') ∙ ap (λ names. all_true (map (λ name. same_named second f' name (value_at name g')) names)) (sym (second_captures s l))))))
    sames (by_symbol {site = s} {f = f} {hidden = hidden} l fits h) (by_symbol {site = u} {f = g} {hidden = hidden'} m fits' k) =
        if_site (same_site s u) (same_text (t.sites.symbol s) (t.sites.symbol u)) (same_truth hidden hidden') _ _ (apart.symbols_one s u l m) (λ e. same-picked t.sites.captures (t.sites.captures s) f g ∙ aligned s u e f g (all_sames h k))
    sames (closure {site = s} {f = f} {hidden = hidden} l fits fits' h) (by_symbol {site = u} {f = g} {hidden = hidden'} m fits'' k) =
        ap (λ b. b && same_truth hidden hidden' && all_true (map (λ name. same_named t.sites.captures f name (value_at name g)) (t.sites.captures s))) ((apart.kinds_apart u s m l).1)
    sames (by_symbol {site = s} {f = f} {hidden = hidden} l fits h) (closure {site = u} {f = g} {hidden = hidden'} m fits' fits'' k) =
        ap (λ b. b && same_truth hidden hidden' && all_true (map (λ name. same_named t.sites.captures f name (value_at name g)) (t.sites.captures s))) ((apart.kinds_apart s u l m).0)
    sames (by_symbol {site = s} l fits h) (lifted e n k) = absurd (apart.no_both s l e)
    sames (lifted e n k) (by_symbol {site = s} l fits h) = absurd (apart.no_both s l e)
    sames undefined undefined = refl
    sames undefined null = refl
    sames undefined truth = refl
    sames undefined int = refl
    sames undefined words = refl
    sames undefined (ref k0) = refl
    sames undefined (items k0) = refl
    sames undefined (fields k0) = refl
    sames undefined (elem k0 k1 k2) = refl
    sames undefined (closure k0 k1 k2 k3) = refl
    sames undefined (by_symbol k0 k1 k2) = refl
    sames undefined (lifted k0 k1 k2) = refl
    sames null undefined = refl
    sames null null = refl
    sames null truth = refl
    sames null int = refl
    sames null words = refl
    sames null (ref k0) = refl
    sames null (items k0) = refl
    sames null (fields k0) = refl
    sames null (elem k0 k1 k2) = refl
    sames null (closure k0 k1 k2 k3) = refl
    sames null (by_symbol k0 k1 k2) = refl
    sames null (lifted k0 k1 k2) = refl
    sames truth undefined = refl
    sames truth null = refl
    sames truth truth = refl
    sames truth int = refl
    sames truth words = refl
    sames truth (ref k0) = refl
    sames truth (items k0) = refl
    sames truth (fields k0) = refl
    sames truth (elem k0 k1 k2) = refl
    sames truth (closure k0 k1 k2 k3) = refl
    sames truth (by_symbol k0 k1 k2) = refl
    sames truth (lifted k0 k1 k2) = refl
    sames int undefined = refl
    sames int null = refl
    sames int truth = refl
    sames int int = refl
    sames int words = refl
    sames int (ref k0) = refl
    sames int (items k0) = refl
    sames int (fields k0) = refl
    sames int (elem k0 k1 k2) = refl
    sames int (closure k0 k1 k2 k3) = refl
    sames int (by_symbol k0 k1 k2) = refl
    sames int (lifted k0 k1 k2) = refl
    sames words undefined = refl
    sames words null = refl
    sames words truth = refl
    sames words int = refl
    sames words words = refl
    sames words (ref k0) = refl
    sames words (items k0) = refl
    sames words (fields k0) = refl
    sames words (elem k0 k1 k2) = refl
    sames words (closure k0 k1 k2 k3) = refl
    sames words (by_symbol k0 k1 k2) = refl
    sames words (lifted k0 k1 k2) = refl
    sames (ref h0) undefined = refl
    sames (ref h0) null = refl
    sames (ref h0) truth = refl
    sames (ref h0) int = refl
    sames (ref h0) words = refl
    sames (ref h0) (items k0) = refl
    sames (ref h0) (fields k0) = refl
    sames (ref h0) (elem k0 k1 k2) = refl
    sames (ref h0) (closure k0 k1 k2 k3) = refl
    sames (ref h0) (by_symbol k0 k1 k2) = refl
    sames (ref h0) (lifted k0 k1 k2) = refl
    sames (items h0) undefined = refl
    sames (items h0) null = refl
    sames (items h0) truth = refl
    sames (items h0) int = refl
    sames (items h0) words = refl
    sames (items h0) (ref k0) = refl
    sames (items h0) (fields k0) = refl
    sames (items h0) (elem k0 k1 k2) = refl
    sames (items h0) (closure k0 k1 k2 k3) = refl
    sames (items h0) (by_symbol k0 k1 k2) = refl
    sames (items h0) (lifted k0 k1 k2) = refl
    sames (fields h0) undefined = refl
    sames (fields h0) null = refl
    sames (fields h0) truth = refl
    sames (fields h0) int = refl
    sames (fields h0) words = refl
    sames (fields h0) (ref k0) = refl
    sames (fields h0) (items k0) = refl
    sames (fields h0) (elem k0 k1 k2) = refl
    sames (fields h0) (closure k0 k1 k2 k3) = refl
    sames (fields h0) (by_symbol k0 k1 k2) = refl
    sames (fields h0) (lifted k0 k1 k2) = refl
    sames (elem h0 h1 h2) undefined = refl
    sames (elem h0 h1 h2) null = refl
    sames (elem h0 h1 h2) truth = refl
    sames (elem h0 h1 h2) int = refl
    sames (elem h0 h1 h2) words = refl
    sames (elem h0 h1 h2) (ref k0) = refl
    sames (elem h0 h1 h2) (items k0) = refl
    sames (elem h0 h1 h2) (fields k0) = refl
    sames (elem h0 h1 h2) (closure k0 k1 k2 k3) = refl
    sames (elem h0 h1 h2) (by_symbol k0 k1 k2) = refl
    sames (elem h0 h1 h2) (lifted k0 k1 k2) = refl
    sames (closure h0 h1 h2 h3) undefined = refl
    sames (closure h0 h1 h2 h3) null = refl
    sames (closure h0 h1 h2 h3) truth = refl
    sames (closure h0 h1 h2 h3) int = refl
    sames (closure h0 h1 h2 h3) words = refl
    sames (closure h0 h1 h2 h3) (ref k0) = refl
    sames (closure h0 h1 h2 h3) (items k0) = refl
    sames (closure h0 h1 h2 h3) (fields k0) = refl
    sames (closure h0 h1 h2 h3) (elem k0 k1 k2) = refl
    sames (closure h0 h1 h2 h3) (lifted k0 k1 k2) = refl
    sames (by_symbol h0 h1 h2) undefined = refl
    sames (by_symbol h0 h1 h2) null = refl
    sames (by_symbol h0 h1 h2) truth = refl
    sames (by_symbol h0 h1 h2) int = refl
    sames (by_symbol h0 h1 h2) words = refl
    sames (by_symbol h0 h1 h2) (ref k0) = refl
    sames (by_symbol h0 h1 h2) (items k0) = refl
    sames (by_symbol h0 h1 h2) (fields k0) = refl
    sames (by_symbol h0 h1 h2) (elem k0 k1 k2) = refl
    sames (lifted h0 h1 h2) undefined = refl
    sames (lifted h0 h1 h2) null = refl
    sames (lifted h0 h1 h2) truth = refl
    sames (lifted h0 h1 h2) int = refl
    sames (lifted h0 h1 h2) words = refl
    sames (lifted h0 h1 h2) (ref k0) = refl
    sames (lifted h0 h1 h2) (items k0) = refl
    sames (lifted h0 h1 h2) (fields k0) = refl
    sames (lifted h0 h1 h2) (elem k0 k1 k2) = refl
    sames (lifted h0 h1 h2) (closure k0 k1 k2 k3) = refl

    pub all_sames : {v v' w w' : Values} → All_stand t v v' → All_stand t w w' → same_all t.sites.captures v w ≡ same_all second v' w'
    all_sames none_stand none_stand = refl
    all_sames none_stand (item_stands k ks) = refl
    all_sames (item_stands h hs) none_stand = refl
    all_sames (item_stands h hs) (item_stands k ks) = ap₂ ◌&&◌ (sames h k) (all_sames hs ks)

    pub field_sames : {v v' w w' : Fields} → Fields_stand t v v' → Fields_stand t w w' → same_fields t.sites.captures v w ≡ same_fields second v' w'
    field_sames end_stands end_stands = refl
    field_sames end_stands (field_stands k ks) = refl
    field_sames (field_stands h hs) end_stands = refl
    field_sames (field_stands {k = n} h hs) (field_stands {k = m} k ks) = three (same_text n m) (sames h k) (field_sames hs ks)
