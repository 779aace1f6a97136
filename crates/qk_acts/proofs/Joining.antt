-- Texts that are joined one after another.
use Rattle.std.specs.Prelude.{OnOk, IfErr}
use Rattle.std.proofs.Common.{◌≡◌, ◌<◌, ◌+◌, ℕ, suc, List, [], ◌∷◌, ◌++◌, length, map, drop, get_or, nat_le, Bool, true, false, Some, None, Result, Ok, Err, refl, ap, ◌∙◌, sym, subst, arith, add-one}
use Rattle.std.proofs.lemmas.List.{append_assoc, append-nil, length-append}
use Rattle.std.proofs.lemmas.Bool.{false≢true}
use Rattle.std.proofs.Math.Seq.{drop-cons}
use Rattle.qk_ast.specs.Texts.{Text}
use Rattle.qk_meaning.specs.Value as M
use Rattle.qk_meaning.specs.Value.{Site}
use Rattle.qk_meaning.specs.World as W
use Rattle.qk_meaning.specs.Fault.{TextTooLong, TypeMismatch}
use Rattle.qk_meaning.specs.Texts.{joined}
use Rattle.qk_meaning.specs.Operators.{Answer, Is, Fails, is_nullish, is_primitive, text_of, short_text}
use Rattle.qk_meaning.specs.Doing.{Outcome, Doing, Gives, Stops, after, give, each, fault}
use Rattle.qk_meaning.specs.Running.{Running, answered}
use Rattle.qk_meaning.specs.Setting.{Setting}
use Rattle.qk_meaning.specs.Methods.{Join, joined_text, all_items, items_joined, method_called}
use Rattle.qk_value.specs.declared.value.Value.{Value}
use Rattle.qk_ops.specs.declared.stop.OpStop.{OpStop}
use Rattle.qk_ops.specs.Answering.{Gave}
use Rattle.qk_heap.specs.Told.{Told}
use Rattle.qk_code.specs.declared.stop.Stop.{Stop}
use Rattle.qk_code.specs.Stops.{stop_on}
use Rattle.qk_making.specs.Acting.{Acts, seen_in}
use Rattle.qk_making.proofs.Acting.{acts_then, acts_err, acts_same, acts_gives, acts_faults, acts_lost}
use Rattle.qk_ops.specs.Appending.{Appended, text_in as appended}
use Rattle.qk_acts.specs.Lists.{text_in, joined_on, joined_all}

-- ---- what is joined in one walk is what the meaning joins

-- the texts behind the first, each with what stands before it
following : Text → List Text → Text
following between [] = []
following between (t ∷ rest) = between ++ (t ++ following between rest)

joined_following : (between t : Text) (rest : List Text) → joined between (t ∷ rest) ≡ t ++ following between rest
unfolding following
joined_following between t [] = sym (append-nil t)
joined_following between t (u ∷ rest) = ap (λ x. t ++ (between ++ x)) (joined_following between u rest)

after_after : {A B C : Type 0} (outcome : Outcome Running A) (f : A → B) (next : B → Doing Running C) → after (after outcome (λ a. give (f a))) next ≡ after outcome (λ a. next (f a))
after_after (Gives a s) f next = refl
after_after (Stops why s) f next = refl

abbrev texts_of : List M.Value → Doing Running (List Text)
texts_of all = each (λ w. answered (joined_text w)) all

module _ (between : Text) where
  one_joined : (answer : Answer Text) (rest : List M.Value) (s : Running) (next : List Text → Doing Running M.Value) (told : Text → Answer M.Value)
      → ((t : Text) → after (texts_of rest s) (λ ts. next (t ∷ ts)) ≡ answered (told t) s)
      → after (after (answered answer s) (λ t s. after (texts_of rest s) (λ ts. give (t ∷ ts)))) next ≡ answered (elim answer [ Is t ↦ told t | Fails f ↦ Fails f ]) s
  one_joined (Is t) rest s next told h = after_after (texts_of rest s) (λ ts. t ∷ ts) next ∙ h t
  one_joined (Fails f) rest s next told h = refl

  on_joined : (so_far : Text) (all : List M.Value) (s : Running) → after (texts_of all s) (λ ts. answered (short_text (so_far ++ following between ts))) ≡ answered (joined_on between so_far all) s
  unfolding following
  on_joined so_far [] s = ap (λ t. answered (short_text t) s) (append-nil so_far)
  on_joined so_far (v ∷ rest) s =
      one_joined (joined_text v) rest s (λ ts. answered (short_text (so_far ++ following between ts))) (λ t. joined_on between (so_far ++ between ++ t) rest) (λ t.
      (λ i. after (texts_of rest s) (λ ts. answered (short_text (regrouped so_far t ts i)))) ∙ on_joined (so_far ++ between ++ t) rest s)
    where
      regrouped : (so_far t : Text) (ts : List Text) → so_far ++ (between ++ (t ++ following between ts)) ≡ (so_far ++ between ++ t) ++ following between ts
      regrouped so_far t ts = sym (append_assoc so_far between (t ++ following between ts)) ∙ sym (append_assoc (so_far ++ between) t (following between ts))

  all_joined : (all : List M.Value) (s : Running) → after (texts_of all s) (λ ts. answered (short_text (joined between ts))) ≡ answered (joined_all between all) s
  all_joined [] s = refl
  all_joined (v ∷ rest) s =
      one_joined (joined_text v) rest s (λ ts. answered (short_text (joined between ts))) (λ t. joined_on between t rest) (λ t.
      (λ i. after (texts_of rest s) (λ ts. answered (short_text (joined_following between t ts i)))) ∙ on_joined t rest s)

pub items_joined_is : (w : M.Value) (between : Text) (s : Running) → after (all_items w s) (λ all. answered (joined_all between all)) ≡ items_joined w between s
items_joined_is w between s = λ i. after (all_items w s) (λ all u. sym (all_joined between all u) i)

-- ---- the arguments

pub join_called : (here : Setting) (w : M.Value) (arguments : List M.Value) (t : Text) → Some t ≡ text_in arguments → method_called here Join w arguments ≡ items_joined w t
join_called here w [] t e = cc
join_called here w (v ∷ []) t e = one v e
  where
    one : (v : M.Value) → Some t ≡ text_in (v ∷ []) → method_called here Join w (v ∷ []) ≡ items_joined w t
    one (M.Words u) e = ap (items_joined w) (cc)
    one _ e = cc
join_called here w (u ∷ (v ∷ rest)) t e = several u e
  where
    several : (u : M.Value) → Some t ≡ text_in (u ∷ (v ∷ rest)) → method_called here Join w (u ∷ (v ∷ rest)) ≡ items_joined w t
    several (M.Words u) e = cc
    several _ e = cc

pub join_refused : (here : Setting) (w : M.Value) (arguments : List M.Value) → None ≡ text_in arguments → method_called here Join w arguments ≡ fault TypeMismatch
join_refused here w [] e = refl
join_refused here w (v ∷ []) e = one v e
  where
    one : (v : M.Value) → None ≡ text_in (v ∷ []) → method_called here Join w (v ∷ []) ≡ fault TypeMismatch
    one (M.Words u) e = cc
    one _ e = refl
join_refused here w (u ∷ (v ∷ rest)) e = several u
  where
    several : (u : M.Value) → method_called here Join w (u ∷ (v ∷ rest)) ≡ fault TypeMismatch
    several (M.Words u) = refl
    several _ = refl

-- ---- the texts of items

pub plain_text : (v : M.Value) → is_nullish v ≡ false → joined_text v ≡ text_of v
plain_text v e = ap (λ b. elim b as (λ x. Answer Text) [ true ↦ Is [] | false ↦ text_of v ]) e

one_text : (Text → Answer M.Value) → Answer Text → Answer M.Value
one_text told answer = elim answer [ Is t ↦ told t | Fails f ↦ Fails f ]

told_alike : (answer : Answer Text) (f g : Text → Answer M.Value) → ((t : Text) → f t ≡ g t) → one_text f answer ≡ one_text g answer
unfolding one_text
told_alike (Is t) f g h = h t
told_alike (Fails e) f g h = refl

-- an item has no text
no_text : {A : Type 0} (view : A → M.Value) (answer : Answer Text) (told : Text → Answer M.Value) (e : OpStop) → Gave {B = Text} (λ t. t) answer (Err e) → Gave view (one_text told answer) (Err e)
unfolding one_text
no_text view answer told (OpStop.Fault f) h = ap (one_text told) h
no_text view answer told OpStop.Memory h = tt

not_appended : (answer : Answer Text) (old new : Text) (e : OpStop) → Appended answer old new (Err e) → Gave {B = Text} (λ t. t) answer (Err e)
not_appended answer old new (OpStop.Fault f) h = h.0
not_appended answer old new OpStop.Memory h = tt

-- ---- the walk

module _ (between : Text) where
  went_on : Text → List M.Value → Answer Text → Answer M.Value
  went_on so_far rest answer = elim answer [ Is t ↦ joined_on between (so_far ++ between ++ t) rest | Fails f ↦ Fails f ]

  -- a text that was appended
  next_joined : (so_far amid new : Text) (v : M.Value) (rest : List M.Value) → amid ≡ so_far ++ between → Appended (joined_text v) amid new (Ok tt) → joined_on between so_far (v ∷ rest) ≡ joined_on between new rest
  unfolding went_on
  next_joined so_far amid new v rest is h = ap (went_on so_far rest) h.0 ∙ ap (λ t. joined_on between (t ++ appended (joined_text v)) rest) (sym is) ∙ ap (λ t. joined_on between t rest) (sym h.1)

  module _ (item : (Site → List Text) → M.Value) (so_far amid new : Text) (r : Result (Unit {0}) OpStop) (is : amid ≡ so_far ++ between) (h : (names : Site → List Text) → Appended (joined_text (item names)) amid new r) where
    pub next_goes : OnOk r ((names : Site → List Text) (rest : List M.Value) → joined_on between so_far (item names ∷ rest) ≡ joined_on between new rest)
    next_goes = by r h
      where
        by : (r : Result (Unit {0}) OpStop) → ((names : Site → List Text) → Appended (joined_text (item names)) amid new r) → OnOk r ((names : Site → List Text) (rest : List M.Value) → joined_on between so_far (item names ∷ rest) ≡ joined_on between new rest)
        by (Ok u) h = λ names rest. next_joined so_far amid new (item names) rest is (h names)
        by (Err e) h = tt

  pub next_stops : (item : (Site → List Text) → M.Value) (old new : Text) (r : Result (Unit {0}) OpStop) → ((names : Site → List Text) → Appended (joined_text (item names)) old new r)
      → IfErr r (λ e. (names : Site → List Text) → Gave {B = Text} (λ t. t) (joined_text (item names)) (Err e))
  next_stops item old new (Ok u) h = tt
  next_stops item old new (Err e) h = λ names. not_appended (joined_text (item names)) old new e (h names)

  too_long : (t : Text) → 1048576 < length t → short_text t ≡ Fails TextTooLong
  too_long t h = ap (λ b. elim b as (λ x. Answer M.Value) [ true ↦ Is (M.Words t) | false ↦ Fails TextTooLong ]) long
    where
      long : nat_le (length t) 1048576 ≡ false
      long = grind (arith, h)

  -- of texts that are too long it doesn't matter which one it is
  both_long : (t u : Text) (all : List M.Value) → 1048576 < length t → 1048576 < length u → joined_on between t all ≡ joined_on between u all
  unfolding one_text
  both_long t u [] h k = too_long t h ∙ sym (too_long u k)
  both_long t u (v ∷ rest) h k = told_alike (joined_text v) (λ x. joined_on between (t ++ between ++ x) rest) (λ x. joined_on between (u ++ between ++ x) rest) (λ x.
      both_long (t ++ between ++ x) (u ++ between ++ x) rest (omega (arith, h, length-append (t ++ between) x, length-append t between)) (omega (arith, k, length-append (u ++ between) x, length-append u between)))

  has_text : (b : Bool) (answer : Answer Text) → elim answer [ Is t ↦ true | Fails f ↦ false ] ≡ true → (t : Text) × (elim b as (λ x. Answer Text) [ true ↦ Is [] | false ↦ answer ] ≡ Is t)
  has_text true answer e = ([], refl)
  has_text false (Is t) e = (t, refl)
  has_text false (Fails f) e = absurd (false≢true e)

  -- a text that is too long already, and an item that has a text
  pub long_joined : (so_far : Text) (v : M.Value) (rest : List M.Value) → 1048576 < length so_far → is_primitive v ≡ true → joined_on between so_far (v ∷ rest) ≡ joined_on between so_far rest
  unfolding went_on
  long_joined so_far v rest h e =
      let has : (t : Text) × (joined_text v ≡ Is t) = has_text (is_nullish v) (text_of v) e in
      ap (went_on so_far rest) has.1 ∙ both_long (so_far ++ between ++ has.0) so_far rest (omega (arith, h, length-append (so_far ++ between) has.0, length-append so_far between)) h

  -- ---- all items

  pub none_joined : {A : Type 0} (seen : A → M.Value) (items : List A) → length items ≡ 0 → joined_all between (map seen items) ≡ short_text []
  none_joined seen [] e = refl
  none_joined seen (x ∷ xs) e = absurd (omega (arith, e))

  pub first_joined : {A : Type 0} (seen : A → M.Value) (items rest : List A) (first : A) (old new : Text) → items ≡ first ∷ rest → old ≡ [] → Appended (joined_text (seen first)) old new (Ok tt)
      → joined_on between new (map seen rest) ≡ joined_all between (map seen items)
  unfolding one_text
  first_joined seen items rest first old new is none h =
      ap (λ t. joined_on between t (map seen rest)) (h.1 ∙ ap (λ t. t ++ appended (joined_text (seen first))) none)
      ∙ sym (ap (λ xs. joined_all between (map seen xs)) is ∙ ap (one_text (λ t. joined_on between t (map seen rest))) h.0)

  pub first_stops : {A B : Type 0} (view : B → M.Value) (seen : A → M.Value) (items rest : List A) (first : A) (old new : Text) (e : OpStop) (r : Result B OpStop) → r ≡ Err e → items ≡ first ∷ rest → Appended (joined_text (seen first)) old new (Err e)
      → Gave view (joined_all between (map seen items)) r
  unfolding one_text
  first_stops view seen items rest first old new e r stopped is h =
      subst (λ q. Gave view (joined_all between (map seen items)) q) (sym stopped)
      (subst (λ xs. Gave view (joined_all between (map seen xs)) (Err e)) (sym is) (no_text view (joined_text (seen first)) (λ t. joined_on between t (map seen rest)) e (not_appended (joined_text (seen first)) old new e h)))

  module _ {A : Type 0} (seen : A → M.Value) (rest : List A) (i : ℕ) (item : A) (within : i < length rest) (is : item ≡ get_or rest i item) where
    from_here : map seen (drop i rest) ≡ seen item ∷ map seen (drop (i + 1) rest)
    from_here = ap (map seen) (drop-cons rest i item within ∙ ap (λ x. x ∷ drop (suc i) rest) (sym is)) ∙ ap (λ k. seen item ∷ map seen (drop k rest)) (sym (add-one i))

    pub item_joined : (old new : Text) (all : Answer M.Value) → ((rest : List M.Value) → joined_on between old (seen item ∷ rest) ≡ joined_on between new rest)
        → joined_on between old (map seen (drop i rest)) ≡ all → joined_on between new (map seen (drop (i + 1) rest)) ≡ all
    item_joined old new all goes so_far = sym (goes (map seen (drop (i + 1) rest))) ∙ ap (joined_on between old) (sym from_here) ∙ so_far

    pub item_stops : {B : Type 0} (view : B → M.Value) (old : Text) (all : Answer M.Value) (e : OpStop) (r : Result B OpStop) → r ≡ Err e → Gave {B = Text} (λ t. t) (joined_text (seen item)) (Err e)
        → joined_on between old (map seen (drop i rest)) ≡ all → Gave view all r
    unfolding one_text
    item_stops view old all e r stopped h so_far =
        subst (λ q. Gave view all q) (sym stopped)
        (subst (λ a. Gave view a (Err e)) (ap (joined_on between old) (sym from_here) ∙ so_far) (no_text view (joined_text (seen item)) (λ t. joined_on between (old ++ between ++ t) (map seen (drop (i + 1) rest))) e h))

-- ---- `join`

-- the result, with the stop of running
abbrev pub as_stop : {A : Type 0} → Result A OpStop → Result A Stop
as_stop (Ok a) = Ok a
as_stop (Err e) = Err (stop_on e)

-- an answer is given
pub acts_answered : {A B : Type 0} (seen : A → B) (answer : Answer B) (objects : List W.Object) (told : List Told → Type 0) (q : Result A OpStop) (r : Result A Stop) → r ≡ as_stop q → Gave seen answer q → Acts seen (answered answer) objects told r objects told
acts_answered seen answer objects told (Ok a) r is h = acts_gives seen (answered answer) objects told r a is (λ s e. ap (λ x. answered x s) h)
acts_answered seen answer objects told (Err (OpStop.Fault f)) r is h = acts_faults seen (answered answer) objects told r f is (λ s e. ap (λ x. answered x s) h)
acts_answered seen answer objects told (Err OpStop.Memory) r is h = acts_lost seen (answered answer) objects objects told told r is

module _ (here : Setting) (w : M.Value) (arguments : List M.Value) (t : Text) (given : Some t ≡ text_in arguments) (objects : List W.Object) (told amid : List Told → Type 0) where
  joins : Doing Running M.Value
  joins = λ s. after (all_items w s) (λ all. answered (joined_all t all))

  is_join : (s : Running) → joins s ≡ method_called here Join w arguments s
  unfolding joins
  is_join s = items_joined_is w t s ∙ ap (λ m. m s) (sym (join_called here w arguments t given))

  pub join_stops : (e : Stop) (r : Result Value Stop) → r ≡ Err e → Acts (map (seen_in here)) (all_items w) objects told (Err e) objects amid → Acts (seen_in here) (method_called here Join w arguments) objects told r objects amid
  unfolding joins
  join_stops e r stopped h =
      acts_same (seen_in here) joins (method_called here Join w arguments) objects objects told amid r (λ s same. is_join s)
      (acts_err (map (seen_in here)) (seen_in here) (all_items w) (λ all. answered (joined_all t all)) objects objects told amid r e stopped h)

  pub join_gives : (all xs : List Value) (u : Text) (q : Result Value OpStop) (r : Result Value Stop) → r ≡ as_stop q → xs ≡ all → u ≡ t → Acts (map (seen_in here)) (all_items w) objects told (Ok all) objects amid
      → Gave (seen_in here) (joined_all u (map (seen_in here) xs)) q → Acts (seen_in here) (method_called here Join w arguments) objects told r objects amid
  unfolding joins
  join_gives all xs u q r is same alike h k =
      acts_same (seen_in here) joins (method_called here Join w arguments) objects objects told amid r (λ s same. is_join s)
      (acts_then (map (seen_in here)) (seen_in here) (all_items w) (λ all. answered (joined_all t all)) objects objects objects told amid amid all r h (acts_answered (seen_in here) (joined_all t (map (seen_in here) all)) objects amid q r is (subst (λ a. Gave (seen_in here) a q) (λ i. joined_all (alike i) (map (seen_in here) (same i))) k)))
