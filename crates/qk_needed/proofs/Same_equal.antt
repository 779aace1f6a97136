-- Of tidy values two that are the same are equal.
use Rattle.std.specs.Prelude.{◌≡◌, refl, ◌==◌, ℤ, pos, negsuc, Bool, true, false, ◌&&◌, List, [], ◌∷◌, map, Option, Some, None}
use Rattle.std.proofs.Common.{sym, ap, ap₂, subst, ◌∙◌}
use Rattle.std.proofs.lemmas.Bool.{false≢true, eqb-true}
use Rattle.qk_ast.specs.Texts.{same_text}
use Rattle.qk_meaning.specs.Value.{Text, Site, Shown, Element, Component, Lifted_component, Fragment, Slot, Value, Undefined, Null, Truth, Int, Words, Ref, Items, Record, Elem, Closure, Lifted, Values, none, item, Fields, end, field}
use Rattle.qk_meaning.specs.Parts.{zipped, picked, value_at}
use Rattle.qk_meaning.specs.Same.{same_integer, same_truth, same_site, same_shown, same_key, all_true, same, same_all, same_fields, same_named}
use Rattle.qk_needed.specs.Tidy.{Tidy, Tidy_all, Tidy_fields, SameAreEqual}

left : (a b : Bool) → (a && b) ≡ true → a ≡ true
left true b h = refl
left false b h = absurd (false≢true h)

right : (a b : Bool) → (a && b) ≡ true → b ≡ true
right true b h = h
right false b h = absurd (false≢true h)

one_text : (t u : Text) → same_text t u ≡ true → t ≡ u
one_text [] [] h = refl
one_text [] (b ∷ u) h = absurd (false≢true h)
one_text (a ∷ t) [] h = absurd (false≢true h)
one_text (a ∷ t) (b ∷ u) h = ap₂ (λ x xs. x ∷ xs) (eqb-true a b (left (a == b) (same_text t u) h)) (one_text t u (right (a == b) (same_text t u) h))

one_integer : (i j : ℤ) → same_integer i j ≡ true → i ≡ j
one_integer (pos a) (pos b) h = ap (λ n. pos n) (eqb-true a b h)
one_integer (pos a) (negsuc b) h = absurd (false≢true h)
one_integer (negsuc a) (pos b) h = absurd (false≢true h)
one_integer (negsuc a) (negsuc b) h = ap (λ n. negsuc n) (eqb-true a b h)

one_truth : (a b : Bool) → same_truth a b ≡ true → a ≡ b
one_truth true b h = sym h
one_truth false true h = absurd (false≢true h)
one_truth false false h = refl

one_site : (s t : Site) → same_site s t ≡ true → s ≡ t
one_site s t h =
    let front = left (same_text s.file t.file && (s.number == t.number)) (same_truth s.dollar t.dollar) h in
    let files = one_text s.file t.file (left (same_text s.file t.file) (s.number == t.number) front) in
    let numbers = eqb-true s.number t.number (right (same_text s.file t.file) (s.number == t.number) front) in
    let dollars = one_truth s.dollar t.dollar (right (same_text s.file t.file && (s.number == t.number)) (same_truth s.dollar t.dollar) h) in
    ap (λ f. record { file = f; number = s.number; dollar = s.dollar }) files ∙ (ap (λ n. record { file = t.file; number = n; dollar = s.dollar }) numbers ∙ ap (λ d. record { file = t.file; number = t.number; dollar = d }) dollars)

one_shown : (x y : Shown) → same_shown x y ≡ true → x ≡ y
one_shown (Element a) (Element b) h = ap (λ t. Element t) (one_text a b h)
one_shown (Element a) _ h = absurd (false≢true h)
one_shown (Component a) (Component b) h = ap (λ t. Component t) (one_site a b h)
one_shown (Component a) _ h = absurd (false≢true h)
one_shown (Lifted_component a) (Lifted_component b) h = ap (λ t. Lifted_component t) (one_text a b h)
one_shown (Lifted_component a) _ h = absurd (false≢true h)
one_shown Fragment Fragment h = refl
one_shown Fragment _ h = absurd (false≢true h)
one_shown (Slot a) (Slot b) h = ap (λ t. Slot t) (one_text a b h)
one_shown (Slot a) _ h = absurd (false≢true h)

one_key : (x y : Option Text) → same_key x y ≡ true → x ≡ y
one_key None None h = refl
one_key None (Some b) h = absurd (false≢true h)
one_key (Some a) None h = absurd (false≢true h)
one_key (Some a) (Some b) h = ap (λ t. Some t) (one_text a b h)

module _ (captures : Site → List Text) where
  tidy_at : (name : Text) (scope : Fields) → Tidy_fields captures scope → Tidy captures (value_at name scope)
  tidy_at name end h = tt
  tidy_at name (field n v rest) h = by (same_text n name) (tidy_at name rest h.1)
    where
      by : (b : Bool) → Tidy captures (value_at name rest) → Tidy captures (Rattle.qk_meaning.specs.Parts.or_undefined (elim b [ true ↦ Some v | false ↦ Rattle.qk_meaning.specs.Parts.found name rest ]))
      by true other = h.0
      by false other = other

  -- functions of one site with the same captured values
  one_scope : (site : Site) (f g : Fields) → f ≡ zipped (captures site) (picked (captures site) f) → g ≡ zipped (captures site) (picked (captures site) g)
      → picked (captures site) f ≡ picked (captures site) g → f ≡ g
  one_scope site f g p q e = p ∙ (ap (λ vs. zipped (captures site) vs) e ∙ sym q)

  one_elem : (x x' : Shown) (k k' : Option Text) (s s' : Text) (f f' : Fields) (v v' : Values) → x ≡ x' → k ≡ k' → s ≡ s' → f ≡ f' → v ≡ v' → Elem x k s f v ≡ Elem x' k' s' f' v'
  one_elem x x' k k' s s' f f' v v' a b c d e =
      ap (λ y. Elem y k s f v) a ∙ (ap (λ y. Elem x' y s f v) b ∙ (ap (λ y. Elem x' k' y f v) c ∙ (ap (λ y. Elem x' k' s' y v) d ∙ ap (λ y. Elem x' k' s' f' y) e)))

  one_closure : (s s' : Site) (f f' : Fields) (b b' : Bool) → s ≡ s' → b ≡ b' → f ≡ f' → Closure s f b ≡ Closure s' f' b'
  one_closure s s' f f' b b' p q r = ap (λ y. Closure y f b) p ∙ (ap (λ y. Closure s' y b) r ∙ ap (λ y. Closure s' f' y) q)

  one_lifted : (s s' : Text) (v v' : Values) (b b' : Bool) → s ≡ s' → v ≡ v' → b ≡ b' → Lifted s v b ≡ Lifted s' v' b'
  one_lifted s s' v v' b b' p q r = ap (λ y. Lifted y v b) p ∙ (ap (λ y. Lifted s' y b) q ∙ ap (λ y. Lifted s' v' y) r)

  one_field : (n m : Text) (v w : Value) (f g : Fields) → n ≡ m → v ≡ w → f ≡ g → field n v f ≡ field m w g
  one_field n m v w f g p q r = ap (λ y. field y v f) p ∙ (ap (λ y. field m y f) q ∙ ap (λ y. field m w y) r)

  each_picked : (f : Fields) (names : List Text) (g : Fields) → ((name : Text) → same_named captures f name (value_at name g) ≡ true → value_at name f ≡ value_at name g)
      → all_true (map (λ name. same_named captures f name (value_at name g)) names) ≡ true → picked names f ≡ picked names g
  each_picked f [] g one h = refl
  each_picked f (name ∷ rest) g one h =
      ap₂ (λ v vs. v ∷ vs) (one name (left (same_named captures f name (value_at name g)) (all_true (map (λ x. same_named captures f x (value_at x g)) rest)) h)) (each_picked f rest g one (right (same_named captures f name (value_at name g)) (all_true (map (λ x. same_named captures f x (value_at x g)) rest)) h))

  mutual
    pub one_value : SameAreEqual captures
    one_value Undefined Undefined p q h = refl
    one_value Undefined _ p q h = absurd (false≢true h)
    one_value Null Null p q h = refl
    one_value Null _ p q h = absurd (false≢true h)
    one_value (Truth b) (Truth b') p q h = ap (λ x. Truth x) (one_truth b b' h)
    one_value (Truth b) _ p q h = absurd (false≢true h)
    one_value (Int i) (Int i') p q h = ap (λ x. Int x) (one_integer i i' h)
    one_value (Int i) _ p q h = absurd (false≢true h)
    one_value (Words t) (Words t') p q h = ap (λ x. Words x) (one_text t t' h)
    one_value (Words t) _ p q h = absurd (false≢true h)
    one_value (Ref a) (Ref a') p q h = ap (λ x. Ref x) (eqb-true a a' h)
    one_value (Ref a) _ p q h = absurd (false≢true h)
    one_value (Items all) (Items all') p q h = ap (λ x. Items x) (one_all all all' p q h)
    one_value (Items all) _ p q h = absurd (false≢true h)
    one_value (Record all) (Record all') p q h = ap (λ x. Record x) (one_fields all all' p q h)
    one_value (Record all) _ p q h = absurd (false≢true h)
    one_value (Elem shown key slot attributes children) (Elem shown' key' slot' attributes' children') p q h =
        let a = same_shown shown shown' in
        let b = same_key key key' in
        let c = same_text slot slot' in
        let d = same_fields captures attributes attributes' in
        let e = same_all captures children children' in
        let h1 = left (a && b && c && d) e h in
        let h2 = left (a && b && c) d h1 in
        let h3 = left (a && b) c h2 in
        one_elem shown shown' key key' slot slot' attributes attributes' children children' (one_shown shown shown' (left a b h3)) (one_key key key' (right a b h3)) (one_text slot slot' (right (a && b) c h2))
        (one_fields attributes attributes' p.0 q.0 (right (a && b && c) d h1)) (one_all children children' p.1 q.1 (right (a && b && c && d) e h))
    one_value (Elem shown key slot attributes children) _ p q h = absurd (false≢true h)
    one_value (Closure site scope hidden) (Closure site' scope' hidden') p q h =
        let a = same_site site site' in
        let b = same_truth hidden hidden' in
        let c = all_true (map (λ name. same_named captures scope name (value_at name scope')) (captures site)) in
        let h1 = left (a && b) c h in
        let sites = one_site site site' (left a b h1) in
        let picks = each_picked scope (captures site) scope' (λ name e. one_named scope p.1 name (value_at name scope') (tidy_at name scope' q.1) e) (right (a && b) c h) in
        one_closure site site' scope scope' hidden hidden' sites (one_truth hidden hidden' (right a b h1)) (one_scope site scope scope' p.0 (subst (λ x. scope' ≡ zipped (captures x) (picked (captures x) scope')) (sym sites) q.0) picks)
    one_value (Closure site scope hidden) _ p q h = absurd (false≢true h)
    one_value (Lifted symbol captured hidden) (Lifted symbol' captured' hidden') p q h =
        let a = same_text symbol symbol' in
        let b = same_truth hidden hidden' in
        let c = same_all captures captured captured' in
        let h1 = left (a && b) c h in
        one_lifted symbol symbol' captured captured' hidden hidden' (one_text symbol symbol' (left a b h1)) (one_all captured captured' p q (right (a && b) c h)) (one_truth hidden hidden' (right a b h1))
    one_value (Lifted symbol captured hidden) _ p q h = absurd (false≢true h)

    one_all : (v w : Values) → Tidy_all captures v → Tidy_all captures w → same_all captures v w ≡ true → v ≡ w
    one_all none none p q h = refl
    one_all none (item w more) p q h = absurd (false≢true h)
    one_all (item v rest) none p q h = absurd (false≢true h)
    one_all (item v rest) (item w more) p q h = ap₂ (λ x y. item x y) (one_value v w p.0 q.0 (left (same captures v w) (same_all captures rest more) h)) (one_all rest more p.1 q.1 (right (same captures v w) (same_all captures rest more) h))

    one_fields : (f g : Fields) → Tidy_fields captures f → Tidy_fields captures g → same_fields captures f g ≡ true → f ≡ g
    one_fields end end p q h = refl
    one_fields end (field m w more) p q h = absurd (false≢true h)
    one_fields (field n v rest) end p q h = absurd (false≢true h)
    one_fields (field n v rest) (field m w more) p q h =
        let a = same_text n m in
        let b = same captures v w in
        let c = same_fields captures rest more in
        let h1 = left (a && b) c h in
        one_field n m v w rest more (one_text n m (left a b h1)) (one_value v w p.0 q.0 (right a b h1)) (one_fields rest more p.1 q.1 (right (a && b) c h))

    one_named : (f : Fields) → Tidy_fields captures f → (name : Text) (w : Value) → Tidy captures w → same_named captures f name w ≡ true → value_at name f ≡ w
    one_named end p name Undefined q h = refl
    one_named end p name _ q h = absurd (false≢true h)
    one_named (field n v rest) p name w q h = by (same_text n name) h (λ e. one_value v w p.0 q e) (λ e. one_named rest p.1 name w q e)
      where
        by : (b : Bool) → elim b [ true ↦ same captures v w | false ↦ same_named captures rest name w ] ≡ true → (same captures v w ≡ true → v ≡ w) → (same_named captures rest name w ≡ true → value_at name rest ≡ w)
            → Rattle.qk_meaning.specs.Parts.or_undefined (elim b [ true ↦ Some v | false ↦ Rattle.qk_meaning.specs.Parts.found name rest ]) ≡ w
        by true e one other = one e
        by false e one other = other e
