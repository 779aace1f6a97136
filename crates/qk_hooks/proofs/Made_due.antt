-- What a changed location makes due.
use Rattle.std.proofs.Common.{◌≡◌, ◌≤◌, ◌<◌, ◌+◌, ◌||◌, ◌++◌, ℕ, zero, suc, Bool, true, false, List, [], ◌∷◌, length, take, drop, set, get_or, map, refl, ap, ◌∙◌, sym, subst, arith, le_trans}
use Rattle.std.specs.List.{list_any}
use Rattle.std.proofs.lemmas.List.{length-append, drop_all, append-nil, take_all}
use Rattle.qk_ast.specs.Texts.{Text}
use Rattle.qk_meaning.specs.Value.{Site}
use Rattle.qk_meaning.specs.World as W
use Rattle.qk_meaning.specs.Places.{same_location}
use Rattle.qk_meaning.specs.Settling.{is_due}
use Rattle.qk_meaning.proofs.Due.{due_over_more}
use Rattle.qk_heap.specs.declared.location.Loc.{Loc}
use Rattle.qk_heap.specs.Seen.{loc_seen}
use Rattle.qk_hooks.specs.declared.state.Task.{Task}
use Rattle.qk_hooks.specs.declared.state.Hook.{Hook}
use Rattle.qk_hooks.specs.declared.state.Instance.{Instance}
use Rattle.qk_hooks.specs.Standing.{IsTask, AreHooks, IsInstance, AreInstances}
use Rattle.qk_hooks.specs.Marking.{hook_marked, task_marked, IsMarked, AreMarked}

or_none : (b : Bool) → (b || false) ≡ b
or_none true = refl
or_none false = refl

-- what isn't tracked makes nothing due
pub stays_due : (l : Loc) (task : Task) → list_any (λ m. same_location (loc_seen l) (loc_seen m)) task.tracks.items ≡ false → Hook.Task task ≡ Hook.Task (task_marked l task)
stays_due l task e = ap (λ b. Hook.Task (record task { due = b })) (sym (ap (λ b. task.due || b) e ∙ or_none task.due))

-- a vector that got all its items anew has these
pub refilled : {X : Type 0} (n : ℕ) (written old : List X) → length old ≡ n → length written ≡ length old → take n (written ++ drop (length written) old) ≡ written
refilled n written old same e =
    ap (λ more. take n (written ++ more)) (drop_all (length written) old (omega (arith, e)))
    ∙ ap (take n) (append-nil written)
    ∙ take_all n written (omega (arith, e, same))

-- an item is written behind those that were
item_marks : {X : Type 0} (f : X → X) (old : List X) (i : ℕ) (x y : X) → i < length old → x ≡ get_or (map f (take i old) ++ drop i old) i x → y ≡ f x
    → set (map f (take i old) ++ drop i old) i y ≡ map f (take (suc i) old) ++ drop (suc i) old
item_marks f [] i x y h is e = absurd (omega (arith, h))
item_marks f (o ∷ old) zero x y h is e = ap (λ z. z ∷ old) (e ∙ ap f is)
item_marks f (o ∷ old) (suc i) x y h is e = ap (λ l. f o ∷ l) (item_marks f old i x y (omega (arith, h)) is e)

pub all_items_mark : {X : Type 0} (f : X → X) (old now : List X) (i : ℕ) (x y : X) → now ≡ map f (take i old) ++ drop i old → i < length old → x ≡ get_or now i x → y ≡ f x → set now i y ≡ map f (take (i + 1) old) ++ drop (i + 1) old
all_items_mark f old now i x y so h is e =
    let next : suc i ≡ i + 1 = omega arith in
    ap (λ l. set l i y) so ∙ item_marks f old i x y h (is ∙ ap (λ l. get_or l i x) so) e ∙ ap (λ n. map f (take n old) ++ drop n old) next

-- an instance is marked behind those that are
one_marks : (l : Loc) (old now : List Instance) (i : ℕ) (x y : Instance) → i < length old → AreMarked l (take i old) (take i now) → drop i now ≡ drop i old → x ≡ get_or now i x → IsMarked l x y
    → AreMarked l (take (suc i) old) (take (suc i) (set now i y)) × (drop (suc i) (set now i y) ≡ drop (suc i) old)
one_marks l [] now i x y h done left is marks = absurd (omega (arith, h))
one_marks l (o ∷ old) [] zero x y h done left is marks = absurd (omega (arith, ap length left))
one_marks l (o ∷ old) (n ∷ now) zero x y h done left is marks = ((subst (λ z. IsMarked l z y) (is ∙ ap (λ z. get_or z 0 n) left) marks, tt), ap (drop 1) left)
one_marks l (o ∷ old) [] (suc i) x y h done left is marks = elim done [ ]
one_marks l (o ∷ old) (n ∷ now) (suc i) x y h done left is marks =
    let rest : AreMarked l (take (suc i) old) (take (suc i) (set now i y)) × (drop (suc i) (set now i y) ≡ drop (suc i) old) = one_marks l old now i x y (omega (arith, h)) done.1 left is marks in
    ((done.0, rest.0), rest.1)

pub all_marked : (l : Loc) (old now : List Instance) (i : ℕ) (x y : Instance) → i < length old → AreMarked l (take i old) (take i now) → drop i now ≡ drop i old → x ≡ get_or now i x → IsMarked l x y
    → AreMarked l (take (i + 1) old) (take (i + 1) (set now i y)) × (drop (i + 1) (set now i y) ≡ drop (i + 1) old)
all_marked l old now i x y h done left is marks =
    let next : suc i ≡ i + 1 = omega arith in
    subst (λ n. AreMarked l (take n old) (take n (set now i y)) × (drop n (set now i y) ≡ drop n old)) next (one_marks l old now i x y h done left is marks)

module _ (names : Site → List Text) (log : List W.Loc) (l : Loc) where
  abbrev after : List W.Loc
  after = log ++ (loc_seen l ∷ [])

  longer : (n : ℕ) (xs ys : List W.Loc) → n ≤ length xs → n ≤ length (xs ++ ys)
  longer n xs ys h = le_trans h (subst (λ k. length xs ≤ k) (sym (length-append xs ys)) (omega arith))

  task_marks : (task : Task) (m : W.Task) → IsTask names log task m → IsTask names after (task_marked l task) m
  task_marks task m is =
      record {
        run = is.run;
        tracked = is.tracked;
        began = longer m.began log (loc_seen l ∷ []) is.began;
        due =
            due_over_more log (loc_seen l ∷ []) m is.began
            ∙ ap (λ b. is_due log m || b) (or_none (list_any (same_location (loc_seen l)) m.tracked))
            ∙ ap (λ b. b || list_any (same_location (loc_seen l)) m.tracked) is.due
            ∙ ap (λ b. task.due || b) (is.tracked (loc_seen l));
      }

  hooks_mark : (hooks : List Hook) (meant : List W.Hook) → AreHooks names log hooks meant → AreHooks names after (map (hook_marked l) hooks) meant
  hooks_mark [] [] are = tt
  hooks_mark (Hook.Value v ∷ hooks) (W.Kept w ∷ meant) are = (are.0, hooks_mark hooks meant are.1)
  hooks_mark (Hook.Provider id v ∷ hooks) (W.Provided other w ∷ meant) are = (are.0, hooks_mark hooks meant are.1)
  hooks_mark (Hook.Task task ∷ hooks) (W.Tasked m ∷ meant) are = (task_marks task m are.0, hooks_mark hooks meant are.1)
  hooks_mark [] (m ∷ meant) are = elim are [ ]
  hooks_mark (h ∷ hooks) [] are = elim are [ ]
  hooks_mark (Hook.Value v ∷ hooks) (W.Provided other w ∷ meant) are = absurd are.0
  hooks_mark (Hook.Value v ∷ hooks) (W.Tasked m ∷ meant) are = absurd are.0
  hooks_mark (Hook.Provider id v ∷ hooks) (W.Kept w ∷ meant) are = absurd are.0
  hooks_mark (Hook.Provider id v ∷ hooks) (W.Tasked m ∷ meant) are = absurd are.0
  hooks_mark (Hook.Task task ∷ hooks) (W.Kept w ∷ meant) are = absurd are.0
  hooks_mark (Hook.Task task ∷ hooks) (W.Provided other w ∷ meant) are = absurd are.0

  instance_marks : (before now : Instance) (m : W.Instance) → IsMarked l before now → IsInstance names log before m → IsInstance names after now m
  instance_marks before now m marks is =
      rw marks.is (record {
        path = is.path;
        component = is.component;
        props = is.props;
        hooks = rw marks.marked (hooks_mark before.hooks.items m.hooks is.hooks);
        view = is.view;
        reads = is.reads;
      })

  pub all_mark : (before now : List Instance) (meant : List W.Instance) → AreMarked l before now → AreInstances names log before meant → AreInstances names after now meant
  all_mark [] [] [] marks are = tt
  all_mark [] [] (m ∷ meant) marks are = elim are [ ]
  all_mark (b ∷ before) (n ∷ now) [] marks are = elim are [ ]
  all_mark [] (n ∷ now) meant marks are = elim marks [ ]
  all_mark (b ∷ before) [] meant marks are = elim marks [ ]
  all_mark (b ∷ before) (n ∷ now) (m ∷ meant) marks are = (instance_marks b n m marks.0 are.0, all_mark before now meant marks.1 are.1)
