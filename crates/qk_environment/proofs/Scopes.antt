-- Names in scope, found from the innermost on.
use Rattle.std.proofs.Math.Seq.{drop-cons}
use Rattle.std.specs.Prelude.{set, map}
use Rattle.std.proofs.Common.{◌≡◌, ◌<◌, ◌≤◌, ◌+◌, ◌-◌, min, add-one, ℕ, suc, zero, List, [], ◌∷◌, ◌++◌, take, drop, subst, length, get_or, true, false, refl, ap, ◌∙◌, sym, arith, Result, Ok, Err, Some}
use Rattle.std.specs.Prelude.{IfOk}
use Rattle.qk_ast.specs.Texts.{same_text}
use Rattle.qk_ast.specs.declared.Stmt.{Stmt}
use Rattle.qk_ast.specs.declared.Body.TheVariants as b
use Rattle.qk_ast.specs.declared.Pattern.{Pattern}
use Rattle.qk_ast.specs.Names.{declared_by, body_names, pattern_names, patterns_names}
use Rattle.qk_meaning.specs.Flow.{opened}
use Rattle.qk_meaning.specs.Value.{Fields, Undefined, end, field, Value}
use Rattle.qk_meaning.specs.Parts.{value_at, or_undefined, found, has_field, replaced, without_first, zipped}
use Rattle.std.proofs.lemmas.List.{at_drop_all, take_all, length-append}
use Rattle.qk_value.specs.declared.value.Value.{Value as RValue}
use Rattle.qk_value.specs.View.{seen}
use Rattle.qk_environment.specs.declared.scope.Named.{Named}
use Rattle.qk_meaning.specs.In_order.{declared_of}
use Rattle.qk_meaning.proofs.Rows.{declared_row}
use Rattle.qk_environment.specs.Scoping.{Captures, over, scope_seen}

over_take : (p : Captures) (names : List Named) (i : ℕ) (n : Named) (around : Fields) → i < length names → n ≡ get_or names i n → over p (take (suc i) names) around ≡ field n.name (seen p n.value) (over p (take i names) around)
over_take p [] i n around lt is = absurd (omega (arith, lt))
over_take p (m ∷ rest) zero n around lt is = rw is refl
over_take p (m ∷ rest) (suc i) n around lt is = over_take p rest i n (field m.name (seen p m.value) around) (omega (arith, lt)) is

front_here : (name : List ℕ) (n : List ℕ) (v : Value) (rest : Fields) → same_text n name ≡ true → value_at name (field n v rest) ≡ v
front_here name n v rest e = ap (λ b. or_undefined (elim b [ true ↦ Some v | false ↦ found name rest ])) e

front_later : (name : List ℕ) (n : List ℕ) (v : Value) (rest : Fields) → same_text n name ≡ false → value_at name (field n v rest) ≡ value_at name rest
front_later name n v rest e = ap (λ b. or_undefined (elim b [ true ↦ Some v | false ↦ found name rest ])) e

module _ (p : Captures) (name : List ℕ) (names : List Named) (j i : ℕ) (n : Named) (is : n ≡ get_or names i n) (lt : i < length names) (next : j ≡ suc i) where
  pub value_here : same_text n.name name ≡ true → value_at name (scope_seen p (take j names)) ≡ seen p n.value
  value_here e = rw next (ap (value_at name) (over_take p names i n end lt is) ∙ front_here name n.name (seen p n.value) (over p (take i names) end) e)

  pub value_later : same_text n.name name ≡ false → value_at name (scope_seen p (take j names)) ≡ value_at name (scope_seen p (take i names))
  value_later e = rw next (ap (value_at name) (over_take p names i n end lt is) ∙ front_later name n.name (seen p n.value) (over p (take i names) end) e)

pub if_ok : {A E : Type 0} (P Q : A → Type 0) (r : Result A E) → ((a : A) → P a → Q a) → IfOk r P → IfOk r Q
if_ok P Q (Ok a) k h = k a h
if_ok P Q (Err e) k h = h

-- ---- whether a name is in scope

has_here : (name : List ℕ) (n : List ℕ) (v : Value) (rest : Fields) → same_text n name ≡ true → has_field name (field n v rest) ≡ true
has_here name n v rest e = ap (λ b. elim b [ true ↦ true | false ↦ has_field name rest ]) e

has_later : (name : List ℕ) (n : List ℕ) (v : Value) (rest : Fields) → same_text n name ≡ false → has_field name (field n v rest) ≡ has_field name rest
has_later name n v rest e = ap (λ b. elim b [ true ↦ true | false ↦ has_field name rest ]) e

module _ (p : Captures) (name : List ℕ) (names : List Named) (j i : ℕ) (n : Named) (is : n ≡ get_or names i n) (lt : i < length names) (next : j ≡ suc i) where
  pub name_here : same_text n.name name ≡ true → has_field name (scope_seen p (take j names)) ≡ true
  name_here e = rw next (ap (has_field name) (over_take p names i n end lt is) ∙ has_here name n.name (seen p n.value) (over p (take i names) end) e)

  pub name_later : same_text n.name name ≡ false → has_field name (scope_seen p (take j names)) ≡ has_field name (scope_seen p (take i names))
  name_later e = rw next (ap (has_field name) (over_take p names i n end lt is) ∙ has_later name n.name (seen p n.value) (over p (take i names) end) e)

-- ---- more names

pub over_more : (p : Captures) (names : List Named) (n : Named) (around : Fields) → over p (names ++ n ∷ []) around ≡ field n.name (seen p n.value) (over p names around)
over_more p [] n around = refl
over_more p (m ∷ rest) n around = over_more p rest n (field m.name (seen p m.value) around)

-- ---- a name is given a value

replaced_here : (name : List ℕ) (n : List ℕ) (w v : Value) (rest : Fields) → same_text n name ≡ true → replaced name w (field n v rest) ≡ field n w rest
replaced_here name n w v rest e = ap (λ b. elim b [ true ↦ field n w rest | false ↦ field n v (replaced name w rest) ]) e

replaced_later : (name : List ℕ) (n : List ℕ) (w v : Value) (rest : Fields) → same_text n name ≡ false → replaced name w (field n v rest) ≡ field n v (replaced name w rest)
replaced_later name n w v rest e = ap (λ b. elim b [ true ↦ field n w rest | false ↦ field n v (replaced name w rest) ]) e

-- none of these has the name
abbrev pub Passes : List ℕ → List Named → Type 0
Passes name later = (p : Captures) (w : Value) (around : Fields) → replaced name w (over p later around) ≡ over p later (replaced name w around)

over_split : (p : Captures) (names : List Named) (i : ℕ) (n : Named) (around : Fields) → i < length names → n ≡ get_or names i n → over p names around ≡ over p (drop (suc i) names) (field n.name (seen p n.value) (over p (take i names) around))
over_split p [] i n around lt is = absurd (omega (arith, lt))
over_split p (m ∷ rest) zero n around lt is = rw is refl
over_split p (m ∷ rest) (suc i) n around lt is = over_split p rest i n (field m.name (seen p m.value) around) (omega (arith, lt)) is

over_set : (p : Captures) (names : List Named) (i : ℕ) (n : Named) (around : Fields) → i < length names → over p (set names i n) around ≡ over p (drop (suc i) names) (field n.name (seen p n.value) (over p (take i names) around))
over_set p [] i n around lt = absurd (omega (arith, lt))
over_set p (m ∷ rest) zero n around lt = refl
over_set p (m ∷ rest) (suc i) n around lt = over_set p rest i n (field m.name (seen p m.value) around) (omega (arith, lt))

drop_at : (names : List Named) (i : ℕ) (n : Named) → i < length names → n ≡ get_or names i n → drop i names ≡ n ∷ drop (suc i) names
drop_at names i n lt is = drop-cons names i n lt ∙ ap (λ y. y ∷ drop (suc i) names) (sym is)

pub passes_none : (name : List ℕ) → Passes name []
passes_none name p w around = refl

module _ (name : List ℕ) (names : List Named) (j i : ℕ) (n : Named) (is : n ≡ get_or names i n) (lt : i < length names) (next : j ≡ suc i) (later : Passes name (drop j names)) where
  pub passes_next : same_text n.name name ≡ false → Passes name (drop i names)
  passes_next e p w around = subst (λ xs. replaced name w (over p xs around) ≡ over p xs (replaced name w around)) (sym (drop_at names i n lt is))
      (subst (λ k. replaced name w (over p (drop k names) (field n.name (seen p n.value) around)) ≡ over p (drop k names) (field n.name (seen p n.value) (replaced name w around))) next
      (later p w (field n.name (seen p n.value) around) ∙ ap (over p (drop j names)) (replaced_later name n.name w (seen p n.value) around e)))

  pub assigned_here : (p : Captures) (m : Named) → same_text n.name name ≡ true → m.name ≡ n.name → scope_seen p (set names i m) ≡ replaced name (seen p m.value) (scope_seen p names)
  assigned_here p m e same =
      over_set p names i m end lt
      ∙ ap (λ t. over p (drop (suc i) names) (field t (seen p m.value) (over p (take i names) end))) same
      ∙ ap (over p (drop (suc i) names)) (sym (replaced_here name n.name (seen p m.value) (seen p n.value) (over p (take i names) end) e))
      ∙ subst (λ k. over p (drop k names) (replaced name (seen p m.value) (field n.name (seen p n.value) (over p (take i names) end))) ≡ replaced name (seen p m.value) (over p (drop k names) (field n.name (seen p n.value) (over p (take i names) end)))) next
      (sym (later p (seen p m.value) (field n.name (seen p n.value) (over p (take i names) end))))
      ∙ ap (replaced name (seen p m.value)) (sym (over_split p names i n end lt is))

pub get_same : (names : List Named) (i : ℕ) (a b : Named) → i < length names → get_or names i a ≡ get_or names i b
get_same [] i a b lt = absurd (omega (arith, lt))
get_same (m ∷ rest) zero a b lt = refl
get_same (m ∷ rest) (suc i) a b lt = get_same rest i a b (omega (arith, lt))

-- ---- names that are opened one after another

opened_both : (one other : List (List ℕ)) (f : Fields) → opened (one ++ other) f ≡ opened other (opened one f)
opened_both [] other f = refl
opened_both (n ∷ rest) other f = opened_both rest other (field n Undefined f)

-- the names of an item are opened, then those of the items behind it
opened_then : (one other both : List (List ℕ)) (before behind : Fields) → both ≡ one ++ other → behind ≡ opened one before → opened other behind ≡ opened both before
opened_then one other both before behind together next = ap (opened other) next ∙ (sym (opened_both one other before) ∙ ap {A = List (List ℕ)} (λ names. opened names before) (sym together))

longer_then : (one other both : List (List ℕ)) (now next all : ℕ) → both ≡ one ++ other → next ≡ now + length one → now + length both ≡ all → next + length other ≡ all
longer_then one other both now next all together e h =
    let l : length both ≡ length one + length other = ap {A = List (List ℕ)} (λ names. length names) together ∙ length-append one other in
    omega (arith, e, h, l)

item_first : {A : Type 0} (items : List A) (i : ℕ) (x : A) → i < length items → x ≡ get_or items i x → drop i items ≡ x ∷ drop (i + 1) items
item_first items i x lt is = drop-cons items i x lt ∙ (ap (λ y. y ∷ drop (suc i) items) (sym is) ∙ ap (λ k. x ∷ drop k items) (sym (add-one i)))

module _ (statements : List Stmt) (i : ℕ) (x : Stmt) (lt : i < length statements) (is : x ≡ get_or statements i x) where
  statement_first : declared_of (drop i statements) ≡ declared_by x ++ declared_of (drop (i + 1) statements)
  statement_first = ap {A = List Stmt} declared_of (item_first statements i x lt is)

  pub opened_next : (before behind : Fields) → behind ≡ opened (declared_by x) before → opened (declared_of (drop (i + 1) statements)) behind ≡ opened (declared_of (drop i statements)) before
  opened_next before behind next = opened_then (declared_by x) _ _ before behind statement_first next

  pub opened_longer : (now next all : ℕ) → next ≡ now + length (declared_by x) → now + length (declared_of (drop i statements)) ≡ all → next + length (declared_of (drop (i + 1) statements)) ≡ all
  opened_longer now next all e h = longer_then (declared_by x) _ _ now next all statement_first e h

module _ (params : List Pattern) (i : ℕ) (x : Pattern) (lt : i < length params) (is : x ≡ get_or params i x) where
  parameter_first : patterns_names (drop i params) ≡ pattern_names x ++ patterns_names (drop (i + 1) params)
  parameter_first = ap {A = List Pattern} patterns_names (item_first params i x lt is)

  pub parameter_next : (before behind : Fields) → behind ≡ opened (pattern_names x) before → opened (patterns_names (drop (i + 1) params)) behind ≡ opened (patterns_names (drop i params)) before
  parameter_next before behind next = opened_then (pattern_names x) _ _ before behind parameter_first next

  pub parameter_longer : (now next all : ℕ) → next ≡ now + length (pattern_names x) → now + length (patterns_names (drop i params)) ≡ all → next + length (patterns_names (drop (i + 1) params)) ≡ all
  parameter_longer now next all e h = longer_then (pattern_names x) _ _ now next all parameter_first e h

-- ---- names with values

pub zipped_end : (p : Captures) (names : List (List ℕ)) (values : List RValue) (i : ℕ) → min (length names) (length values) ≤ i → zipped (drop i names) (map (seen p) (drop i values)) ≡ end
zipped_end p [] values i le = rw (at_drop_all (λ (xs : List (List ℕ)). xs) [] i (omega arith)) refl
zipped_end p (t ∷ names) [] i le = rw (at_drop_all (λ (xs : List RValue). xs) [] i (omega arith)) (no_values (drop i (t ∷ names)))
  where
    no_values : (names : List (List ℕ)) → zipped names [] ≡ end
    no_values [] = refl
    no_values (t ∷ rest) = refl
zipped_end p (t ∷ names) (v ∷ values) zero le = absurd (omega (arith, le))
zipped_end p (t ∷ names) (v ∷ values) (suc i) le = zipped_end p names values i (omega (arith, le))

pub zipped_next : (p : Captures) (names : List (List ℕ)) (values : List RValue) (j i : ℕ) (t : List ℕ) (v : RValue) → i < length names → i < length values → t ≡ get_or names i t → v ≡ get_or values i v → j ≡ suc i
    → field t (seen p v) (zipped (drop j names) (map (seen p) (drop j values))) ≡ zipped (drop i names) (map (seen p) (drop i values))
zipped_next p names values j i t v a b ist isv next = rw next (
    ap (λ y. field y (seen p v) (zipped (drop (suc i) names) (map (seen p) (drop (suc i) values)))) ist
    ∙ ap (λ y. field (get_or names i t) (seen p y) (zipped (drop (suc i) names) (map (seen p) (drop (suc i) values)))) isv
    ∙ sym (ap (λ ns. zipped ns (map (seen p) (drop i values))) (drop-cons names i t a) ∙ ap (λ vs. zipped (get_or names i t ∷ drop (suc i) names) (map (seen p) vs)) (drop-cons values i v b)))

-- ---- names are closed

over_last : (p : Captures) (names : List Named) (i : ℕ) (around : Fields) → (lt : i < length names) → (m : Named) × (over p (take (suc i) names) around ≡ field m.name (seen p m.value) (over p (take i names) around))
over_last p [] i around lt = absurd (omega (arith, lt))
over_last p (m ∷ rest) zero around lt = (m, refl)
over_last p (m ∷ rest) (suc i) around lt = over_last p rest i (field m.name (seen p m.value) around) (omega (arith, lt))

closed_from : (p : Captures) (names : List Named) (n i : ℕ) → i ≤ length names → over p (take (i - n) names) end ≡ without_first n (over p (take i names) end)
closed_from p names zero i le = (let e : i - 0 ≡ i = omega arith in ap {A = ℕ} (λ k. over p (take k names) end) e)
closed_from p names (suc n) zero le = (let e : 0 - suc n ≡ 0 = omega arith in ap {A = ℕ} (λ k. over p (take k names) end) e)
closed_from p names (suc n) (suc i) le =
    (let e : suc i - suc n ≡ i - n = omega arith in ap {A = ℕ} (λ k. over p (take k names) end) e)
    ∙ closed_from p names n i (omega (arith, le))
    ∙ ap (without_first (suc n)) (sym ((over_last p names i end (omega (arith, le))).1))

pub closed_names : (p : Captures) (names : List Named) (n : ℕ) → scope_seen p (take (length names - n) names) ≡ without_first n (scope_seen p names)
closed_names p names n = closed_from p names n (length names) (omega arith) ∙ ap (λ all. without_first n (over p all end)) (take_all (length names) names (omega arith))

-- ---- the names of a block as a row

pub block_names : (all : List Stmt) → body_names (b.Block all) ≡ declared_of all
block_names all = declared_row all
