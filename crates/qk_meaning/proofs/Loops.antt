-- The turns of a `while`: every bound on them that isn't below the turns that are left gives the same.
use Rattle.qk_meaning.specs.Setting.{captures}
use Rattle.std.specs.Prelude.{◌≡◌, refl, ℕ, zero, suc, ◌≤◌, Bool, true, false}
use Rattle.std.proofs.Common.{sym, ◌∙◌, arith}
use Rattle.qk_ast.specs.Names.{declared_in}
use Rattle.qk_meaning.specs.Value.{Value}
use Rattle.qk_meaning.specs.Operators.{is_true}
use Rattle.qk_meaning.specs.Doing.{Outcome, Gives, Stops, Ends, Doing, ◌>>=◌, after, give, chosen, ended}
use Rattle.qk_meaning.specs.Running.{Running, turn_of}
use Rattle.qk_meaning.specs.References.{valued}
use Rattle.qk_meaning.specs.Flow.{Flow, Onward, Broke, Continued, Returned, scoped, then_next, one_turn, repeated, looped}
use Rattle.qk_meaning.specs.Evaluation.{refer, all_ran}
use Rattle.qk_meaning.specs.Laws_of_code as Of_code
use Rattle.qk_meaning.specs.Laws_of_code.{Spends, Spends_in}
use Rattle.qk_meaning.proofs.Running_laws as L
use Rattle.qk_meaning.proofs.Turns as Turns
use Rattle.qk_meaning.proofs.Turns.{At_most, None_more, left_in}
use Rattle.qk_meaning.proofs.Meanings as Meanings

-- the two ways of saying that no turns are gained
none_more_of : {A : Type 0} (m : Doing Running A) → Spends m → None_more A m m
none_more_of {A} m p s = go (m s) refl
  where
    go : (o : Outcome Running A) → m s ≡ o → At_most left_in s.turns o
    go (Gives a u) e = p s u a e
    go (Stops why u) e = tt

module _ (condition : Doing Running Value) (turn : Doing Running Flow) (c : None_more Value condition condition) (b : None_more Flow turn turn) where
  next_alike : (flow : Flow) (one other : Doing Running Flow) (s : Running) → one s ≡ other s → then_next flow one s ≡ then_next flow other s
  next_alike Onward one other s e = e
  next_alike Continued one other s e = e
  next_alike Broke one other s e = refl
  next_alike (Returned v) one other s e = refl

  -- behind a turn that leaves at most so many
  behind_alike : (most : ℕ) (o : Outcome Running Flow) (one other : Doing Running Flow) → At_most left_in most o → ((s : Running) → s.turns ≤ most → one s ≡ other s)
      → after o (λ flow. then_next flow one) ≡ after o (λ flow. then_next flow other)
  behind_alike most (Gives flow u) one other h e = next_alike flow one other u (e u h)
  behind_alike most (Stops why u) one other h e = refl

  -- a turn and what comes behind it, where both go on alike with fewer turns
  turn_alike : (s : Running) (one other : Doing Running Flow) (k : ℕ) → ((u : Running) → suc u.turns ≤ k → one u ≡ other u)
      → after (turn_of k s) (λ u. ◌>>=◌ turn (λ flow. then_next flow one)) ≡ after (turn_of k s) (λ u. ◌>>=◌ turn (λ flow. then_next flow other))
  turn_alike s one other zero e = refl
  turn_alike s one other (suc k) e = behind_alike k (turn (record s { turns = k })) one other (b (record s { turns = k })) (λ u h. e u (omega (arith, h)))

  -- without a turn left the bound decides nothing
  ended_alike : (v : Value) (next : Doing Running Flow) (s : Running) → s.turns ≡ 0 → chosen (is_true v) ended (give Onward) s ≡ chosen (is_true v) (one_turn turn next) (give Onward) s
  ended_alike v next s z = go (is_true v)
    where
      no_turn : (n : ℕ) → n ≡ 0 → Stops Ends s ≡ after (turn_of n s) (λ u. ◌>>=◌ turn (λ flow. then_next flow next))
      no_turn zero z = refl
      no_turn (suc n) z = absurd (omega (arith, z))

      go : (t : Bool) → chosen t ended (give Onward) s ≡ chosen t (one_turn turn next) (give Onward) s
      go true = no_turn s.turns z
      go false = refl

  chosen_alike : (t : Bool) (one other : Doing Running Flow) (s : Running) → one s ≡ other s → chosen t one (give Onward) s ≡ chosen t other (give Onward) s
  chosen_alike true one other s e = e
  chosen_alike false one other s e = refl

  -- behind the condition
  from_condition : (most : ℕ) (o : Outcome Running Value) (one other : Value → Doing Running Flow) → At_most left_in most o → ((v : Value) (u : Running) → u.turns ≤ most → one v u ≡ other v u) → after o one ≡ after o other
  from_condition most (Gives v u) one other h e = e v u h
  from_condition most (Stops why u) one other h e = refl

  pub bounds_alike : (n m : ℕ) (s : Running) → s.turns ≤ n → s.turns ≤ m → repeated n condition turn s ≡ repeated m condition turn s
  bounds_alike zero zero s h k = refl
  bounds_alike zero (suc m) s h k =
      from_condition s.turns (condition s) (λ v. chosen (is_true v) ended (give Onward)) (λ v. chosen (is_true v) (one_turn turn (repeated m condition turn)) (give Onward)) (c s)
      (λ v u l. ended_alike v (repeated m condition turn) u (omega (arith, h, l)))
  bounds_alike (suc n) zero s h k =
      from_condition s.turns (condition s) (λ v. chosen (is_true v) (one_turn turn (repeated n condition turn)) (give Onward)) (λ v. chosen (is_true v) ended (give Onward)) (c s)
      (λ v u l. sym (ended_alike v (repeated n condition turn) u (omega (arith, k, l))))
  bounds_alike (suc n) (suc m) s h k =
      from_condition s.turns (condition s) (λ v. chosen (is_true v) (one_turn turn (repeated n condition turn)) (give Onward)) (λ v. chosen (is_true v) (one_turn turn (repeated m condition turn)) (give Onward)) (c s)
      (λ v u l. chosen_alike (is_true v) (one_turn turn (repeated n condition turn)) (one_turn turn (repeated m condition turn)) u
      (turn_alike u (repeated n condition turn) (repeated m condition turn) u.turns (λ x j. bounds_alike n m x (omega (arith, h, l, j)) (omega (arith, k, l, j)))))

  -- the first turn, and the same again
  pub unfolds : (s : Running) → looped condition turn s ≡ ◌>>=◌ condition (λ v. chosen (is_true v) (one_turn turn (looped condition turn)) (give Onward)) s
  unfolds s =
      bounds_alike s.turns (suc s.turns) s (omega arith) (omega arith)
      ∙ from_condition s.turns (condition s) (λ v. chosen (is_true v) (one_turn turn (repeated s.turns condition turn)) (give Onward)) (λ v. chosen (is_true v) (one_turn turn (looped condition turn)) (give Onward)) (c s)
      (λ v u l. chosen_alike (is_true v) (one_turn turn (repeated s.turns condition turn)) (one_turn turn (looped condition turn)) u
      (turn_alike u (repeated s.turns condition turn) (looped condition turn) u.turns (λ x j. bounds_alike s.turns x.turns x (omega (arith, l, j)) (omega arith))))

pub while_unfolds : Of_code.WhileUnfolds
while_unfolds here spends condition span body s =
    let E : Meanings.Enter_alike None_more here.enter here.enter = λ mode running f arguments. none_more_of (here.enter mode running f arguments) (spends.calls mode running f arguments) in
    let C : (a : ℕ) (f : Value) → None_more Value (here.computed a f) (here.computed a f) = λ a f. none_more_of (here.computed a f) (spends.computeds a f) in
    unfolds (valued here (refer condition here)) (scoped (declared_in body) (all_ran body here))
    (Meanings.valued_lem None_more (Turns.laws (captures here)) Turns.by_hooks here (Turns.named (captures here)) here.enter here.computed E C {m' = refer condition here} (Meanings.refers None_more (Turns.laws (captures here)) Turns.by_hooks here (Turns.named (captures here)) here.enter here.computed E C condition))
    (L.scopes None_more (Turns.laws (captures here)) (declared_in body) {m' = all_ran body here} (Meanings.all_run None_more (Turns.laws (captures here)) Turns.by_hooks here (Turns.named (captures here)) here.enter here.computed E C body))
    s
