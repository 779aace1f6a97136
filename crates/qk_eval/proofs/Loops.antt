-- Loops: what a run over a list is, from a run of each of its members.
use Rattle.std.proofs.Common.{pos, ◌≡◌, ◌<◌, ◌≤◌, ◌+◌, ◌-◌, ℕ, suc, zero, List, [], ◌∷◌, ◌++◌, length, drop, get_or, Bool, true, false, Result, Ok, Err, refl, ap, ◌∙◌, sym, subst, arith, add-one}
use Rattle.std.proofs.Math.Seq.{drop-cons}
use Rattle.std.proofs.lemmas.List.{at_drop_all, append-nil}
use Rattle.qk_ast.specs.declared.Form.{Form}
use Rattle.qk_ast.specs.declared.Stmt.{Stmt}
use Rattle.qk_ast.specs.Texts.{Text}
use Rattle.qk_meaning.specs.Value as M
use Rattle.qk_meaning.specs.Value.{Fields}
use Rattle.qk_meaning.specs.Program.{Program, captures_in}
use Rattle.qk_meaning.specs.Operators.{is_true}
use Rattle.qk_meaning.specs.Doing.{Gives, Stops, Doing, after, chosen, give, ◌>>=◌}
use Rattle.qk_meaning.specs.Running.{Running}
use Rattle.qk_meaning.specs.Setting.{Setting}
use Rattle.qk_meaning.specs.Flow as F
use Rattle.qk_meaning.specs.Flow.{flow_value, unless_left}
use Rattle.qk_meaning.specs.Evaluation.{ran}
use Rattle.qk_meaning.specs.In_order.{statements_ran}
use Rattle.qk_meaning.proofs.Running_laws as L
use Rattle.qk_meaning.proofs.Growth.{Adding, laws}
use Rattle.qk_value.specs.declared.value.Value.{Value}
use Rattle.qk_value.specs.declared.value.Addr.{Addr}
use Rattle.qk_code.specs.declared.func.Func.{Func}
use Rattle.qk_code.specs.declared.mode.Mode.{Mode}
use Rattle.qk_code.specs.declared.stop.Stop.{Stop}
use Rattle.qk_code.specs.declared.stop.Stop.TheVariants.{Ended, Memory}
use Rattle.qk_code.specs.World.{World, state}
use Rattle.qk_code.specs.Ran.{Ran}
use Rattle.qk_code.proofs.Runs.{ran_then, ran_err, ran_same, ran_gives, ran_lost}
use Rattle.qk_eval.specs.declared.flow.Flow.{Flow}
use Rattle.qk_eval.specs.Placing.{setting_so}
use Rattle.qk_eval.specs.Seeing.{value_seen, values_seen, flow_seen, nothing}
use Rattle.qk_eval.proofs.Growing.{gives, bind}
use Rattle.qk_base.specs.Left.{Left}
use Rattle.qk_meaning.specs.Doing.{Ends, each, ended}
use Rattle.qk_meaning.specs.Running.{take_turn}
use Rattle.qk_meaning.specs.Flow.{looped, repeated, repeated_for, one_turn, then_next}
use Rattle.qk_eval.specs.Seeing.{fields_seen}
use Rattle.qk_eval.specs.Lists.{each_after, behind}
use Rattle.qk_eval.proofs.Forms.{each_first, each_next}
use Rattle.qk_eval.proofs.Growing.{statements_add}
use Rattle.qk_code.proofs.Runs.{ran_turn, ran_no_turn, ran_ends}

-- the list from a place on
pub cons_at : {X : Type 0} (all : List X) (i : ℕ) (x : X) → i < length all → x ≡ get_or all i x → drop i all ≡ x ∷ drop (i + 1) all
cons_at all i x lt is = drop-cons all i x lt ∙ (ap (λ y. y ∷ drop (suc i) all) (sym is) ∙ ap (λ k. x ∷ drop k all) (sym (add-one i)))

pub seen_more : (p : Program) (xs : List Value) (x : Value) → values_seen p (xs ++ x ∷ []) ≡ values_seen p xs ++ value_seen p x ∷ []
seen_more p [] x = refl
seen_more p (y ∷ rest) x = ap (λ all. value_seen p y ∷ all) (seen_more p rest x)

pub texts_more : (p : Program) (xs : List Text) (x : Text) → xs ++ x ∷ [] ≡ xs ++ x ∷ []
texts_more p xs x = refl

pub fields_more : (p : Program) (xs : List (Text × Value)) (x : Text × Value) → fields_seen p (xs ++ x ∷ []) ≡ behind (fields_seen p xs) (M.field x.0 (value_seen p x.1) M.end)
fields_more p [] x = refl
fields_more p (y ∷ rest) x = ap (M.field y.0 (value_seen p y.1)) (fields_more p rest x)

-- a callback is called with an item and its index
abbrev pub item_called : Setting → M.Value → (ℕ × M.Value) → Doing Running M.Value
item_called here f e = here.enter here.mode here.running f (e.1 ∷ M.Int (pos e.0) ∷ [])

any_ends : (names : M.Site → List Text) → Adding F.Flow ended ended
any_ends names = (laws names).ends {A = F.Flow} ended

any_turn : (names : M.Site → List Text) → Adding (Unit {0}) take_turn take_turn
any_turn names = (laws names).turn

module _ (form : Form) (hooked : Bool) (given : Program → Type 0) where
  -- ---- what is given of each

  module _ {X Y Y' : Type 0} (f : Program → X → Doing Running Y') (sy : Program → Y → Y') (seen' : Program → List Y → List Y') (more : (p : Program) (ys : List Y) (y : Y) → seen' p (ys ++ y ∷ []) ≡ seen' p ys ++ sy p y ∷ [])
      (adds : (p : Program) (x : X) → Adding Y' (f p x) (f p x)) where
    pub each_begin : (all : List X) (done : List Y) (w v : World) (r : Result (List Y) Stop) → ((p : Program) → seen' p done ≡ []) → Ran form hooked given seen' (λ p. each_after (f p) (seen' p done) all) w r v → Ran form hooked given seen' (λ p. each (f p) all) w r v
    each_begin all done w v r none h = ran_same form hooked given seen' _ _ w v r (λ p g past. ap (λ so_far. each_after (f p) so_far all (state hooked p past w)) (none p) ∙ each_first (f p) all (state hooked p past w)) h

    module _ (all : List X) (i : ℕ) (x : X) (done : List Y) (w v : World) (r : Result (List Y) Stop) where
      from_next : (u : World) → i < length all → x ≡ get_or all i x → Ran form hooked given seen' (λ p s. after (f p x s) (λ b. each_after (f p) (seen' p done ++ b ∷ []) (drop (i + 1) all))) w r u → Ran form hooked given seen' (λ p. each_after (f p) (seen' p done) (drop i all)) w r u
      from_next u lt is h =
          subst (λ xs. Ran form hooked given seen' (λ p. each_after (f p) (seen' p done) xs) w r u) (sym (cons_at all i x lt is))
          (ran_same form hooked given seen' _ _ w u r (λ p g past. each_next (f p) (seen' p done) x (drop (i + 1) all) (state hooked p past w)) h)

      pub each_step : (u : World) (y : Y) (done' : List Y) → i < length all → x ≡ get_or all i x → done' ≡ done ++ y ∷ [] → Ran form hooked given sy (λ p. f p x) w (Ok y) v
          → Ran form hooked given seen' (λ p. each_after (f p) (seen' p done') (drop (i + 1) all)) v r u → Ran form hooked given seen' (λ p. each_after (f p) (seen' p done) (drop i all)) w r u
      each_step u y done' lt is pushed h k =
          from_next u lt is
          (ran_then form hooked given sy seen' (λ p. f p x) (λ p b. each_after (f p) (seen' p done ++ b ∷ []) (drop (i + 1) all)) w v u y r h
          (ran_same form hooked given seen' _ _ v u r (λ p g past. ap (λ d. each_after (f p) d (drop (i + 1) all) (state hooked p past v)) (ap (seen' p) pushed ∙ more p done y)) k))

      pub each_err : (why : Stop) → i < length all → x ≡ get_or all i x → r ≡ Err why → Ran form hooked given sy (λ p. f p x) w (Err why) v → Ran form hooked given seen' (λ p. each_after (f p) (seen' p done) (drop i all)) w r v
      each_err why lt is stopped h =
          from_next v lt is
          (ran_err form hooked given sy seen' (λ p. f p x) (λ p b. each_after (f p) (seen' p done ++ b ∷ []) (drop (i + 1) all)) w v r why stopped
          (λ p b. bind (each (f p) (drop (i + 1) all)) (λ bs. give ((seen' p done ++ b ∷ []) ++ bs)) (L.eaches Adding (laws (captures_in p)) {f = f p} {f' = f p} (adds p) (drop (i + 1) all)) (λ bs. gives ((seen' p done ++ b ∷ []) ++ bs))) h)

      -- memory runs out behind one
      pub each_memory : (y : Y) → i < length all → x ≡ get_or all i x → r ≡ Err Memory → Ran form hooked given sy (λ p. f p x) w (Ok y) v → Ran form hooked given seen' (λ p. each_after (f p) (seen' p done) (drop i all)) w r v
      each_memory y lt is stopped h =
          from_next v lt is (ran_then form hooked given sy seen' (λ p. f p x) (λ p b. each_after (f p) (seen' p done ++ b ∷ []) (drop (i + 1) all)) w v v y r h (ran_lost form hooked given seen' _ v r stopped))

    pub each_end : (all : List X) (i : ℕ) (done : List Y) (w : World) → length all ≤ i → Ran form hooked given seen' (λ p. each_after (f p) (seen' p done) (drop i all)) w (Ok done) w
    each_end all i done w le =
        subst (λ xs. Ran form hooked given seen' (λ p. each_after (f p) (seen' p done) xs) w (Ok done) w) (sym (at_drop_all (λ xs. xs) all i le))
        (ran_gives form hooked given seen' _ w done (λ p g past. ap (λ vs. Gives vs (state hooked p past w)) (append-nil (seen' p done))))

  -- ---- each member of a list, from what the one before it gave

  module _ {X Y Y' : Type 0} (one : Program → X → Y' → Doing Running Y') (rest : Program → List X → Y' → Doing Running Y') (sy : Program → Y → Y')
      (ends : (p : Program) (y : Y') → rest p [] y ≡ give y) (goes_on : (p : Program) (x : X) (xs : List X) (y : Y') → rest p (x ∷ xs) y ≡ ◌>>=◌ (one p x y) (rest p xs)) (adds : (p : Program) (xs : List X) (y : Y') → Adding Y' (rest p xs y) (rest p xs y)) where
    module _ (all : List X) (i : ℕ) (x : X) (at : Y) (w v : World) (r : Result Y Stop) where
      from_one : (u : World) → i < length all → x ≡ get_or all i x → Ran form hooked given sy (λ p s. after (one p x (sy p at) s) (rest p (drop (i + 1) all))) w r u → Ran form hooked given sy (λ p. rest p (drop i all) (sy p at)) w r u
      from_one u lt is h =
          subst (λ xs. Ran form hooked given sy (λ p. rest p xs (sy p at)) w r u) (sym (cons_at all i x lt is))
          (ran_same form hooked given sy _ _ w u r (λ p g past. sym (ap (λ m. m (state hooked p past w)) (goes_on p x (drop (i + 1) all) (sy p at)))) h)

      pub fold_step : (u : World) (next : Y) → i < length all → x ≡ get_or all i x → Ran form hooked given sy (λ p. one p x (sy p at)) w (Ok next) v
          → Ran form hooked given sy (λ p. rest p (drop (i + 1) all) (sy p next)) v r u → Ran form hooked given sy (λ p. rest p (drop i all) (sy p at)) w r u
      fold_step u next lt is h k = from_one u lt is (ran_then form hooked given sy sy (λ p. one p x (sy p at)) (λ p. rest p (drop (i + 1) all)) w v u next r h k)

      pub fold_err : (why : Stop) → i < length all → x ≡ get_or all i x → r ≡ Err why → Ran form hooked given sy (λ p. one p x (sy p at)) w (Err why) v → Ran form hooked given sy (λ p. rest p (drop i all) (sy p at)) w r v
      fold_err why lt is stopped h = from_one v lt is (ran_err form hooked given sy sy (λ p. one p x (sy p at)) (λ p. rest p (drop (i + 1) all)) w v r why stopped (λ p y. adds p (drop (i + 1) all) y) h)

    pub fold_end : (all : List X) (i : ℕ) (at : Y) (w : World) → length all ≤ i → Ran form hooked given sy (λ p. rest p (drop i all) (sy p at)) w (Ok at) w
    fold_end all i at w le =
        subst (λ xs. Ran form hooked given sy (λ p. rest p xs (sy p at)) w (Ok at) w) (sym (at_drop_all (λ xs. xs) all i le)) (ran_gives form hooked given sy _ w at (λ p g past. ap (λ m. m (state hooked p past w)) (ends p (sy p at))))

  -- ---- a turn of a loop

  module _ (turn next : Program → Doing Running F.Flow) (w : World) where
    pub turn_stuck : (r : Result Flow Stop) → r ≡ Err Ended → w.left.turns ≡ 0 → Ran form hooked given flow_seen (λ p. one_turn (turn p) (next p)) w r w
    turn_stuck r is none = ran_no_turn form hooked given flow_seen (λ p. ◌>>=◌ (turn p) (λ flow. then_next flow (next p))) w r is none

    module _ (left : Left) (has : 0 < w.left.turns) (took : left ≡ record w.left { turns = w.left.turns - 1 }) where
      from_turn : (r : Result Flow Stop) (u : World) → Ran form hooked given flow_seen (λ p s. after (turn p s) (λ flow. then_next flow (next p))) (record w { left = left }) r u → Ran form hooked given flow_seen (λ p. one_turn (turn p) (next p)) w r u
      from_turn r u h =
          ran_then form hooked given nothing flow_seen (λ p. take_turn) (λ p x. ◌>>=◌ (turn p) (λ flow. then_next flow (next p))) w (record w { left = left }) u tt r (ran_turn form hooked given w left has took) h

      pub turn_err : (v : World) (r : Result Flow Stop) (why : Stop) → r ≡ Err why → ((p : Program) → Adding F.Flow (next p) (next p)) → Ran form hooked given flow_seen turn (record w { left = left }) (Err why) v → Ran form hooked given flow_seen (λ p. one_turn (turn p) (next p)) w r v
      turn_err v r why is adds h =
          from_turn r v (ran_err form hooked given flow_seen flow_seen turn (λ p flow. then_next flow (next p)) (record w { left = left }) v r why is
          (λ p flow. L.then_nexts Adding (laws (captures_in p)) flow {next = next p} {next' = next p} (adds p)) h)

      -- the loop is left
      pub turn_left : (v : World) (flow flow' : Flow) → ((p : Program) (s : Running) → then_next (flow_seen p flow) (next p) s ≡ Gives (flow_seen p flow') s) → Ran form hooked given flow_seen turn (record w { left = left }) (Ok flow) v → Ran form hooked given flow_seen (λ p. one_turn (turn p) (next p)) w (Ok flow') v
      turn_left v flow flow' leaves h =
          from_turn (Ok flow') v (ran_then form hooked given flow_seen flow_seen turn (λ p flow. then_next flow (next p)) (record w { left = left }) v v flow (Ok flow') h
          (ran_gives form hooked given flow_seen (λ p. then_next (flow_seen p flow) (next p)) v flow' (λ p g past. leaves p (state hooked p past v))))

      -- the next turn comes
      pub turn_on : (v u : World) (r : Result Flow Stop) (flow : Flow) → ((p : Program) (s : Running) → next p s ≡ then_next (flow_seen p flow) (next p) s) → Ran form hooked given flow_seen turn (record w { left = left }) (Ok flow) v → Ran form hooked given flow_seen next v r u → Ran form hooked given flow_seen (λ p. one_turn (turn p) (next p)) w r u
      turn_on v u r flow goes h k =
          from_turn r u (ran_then form hooked given flow_seen flow_seen turn (λ p flow. then_next flow (next p)) (record w { left = left }) v u flow r h
          (ran_same form hooked given flow_seen next (λ p. then_next (flow_seen p flow) (next p)) v u r (λ p g past. goes p (state hooked p past v)) k))

  -- ---- a `while`

  module _ (condition : Program → Doing Running M.Value) (turn : Program → Doing Running F.Flow) (adds : (p : Program) → Adding F.Flow (turn p) (turn p)) (conditions : (p : Program) → Adding M.Value (condition p) (condition p)) where
    abbrev behind_condition : (k : ℕ) → Program → M.Value → Doing Running F.Flow
    behind_condition zero p v = chosen (is_true v) ended (give F.Onward)
    behind_condition (suc n) p v = chosen (is_true v) (one_turn (turn p) (repeated n (condition p) (turn p))) (give F.Onward)

    unfolds : (k : ℕ) (p : Program) (s : Running) → after (condition p s) (behind_condition k p) ≡ repeated k (condition p) (turn p) s
    unfolds zero p s = refl
    unfolds (suc n) p s = refl

    pub repeated_adds : (k : ℕ) (p : Program) → Adding F.Flow (repeated k (condition p) (turn p)) (repeated k (condition p) (turn p))
    repeated_adds zero p = bind (condition p) (behind_condition zero p) (conditions p) (λ v. L.choose Adding (laws (captures_in p)) (is_true v) {m = ended} {m' = ended} {n = give F.Onward} {n' = give F.Onward} (any_ends (captures_in p)) (gives F.Onward))
    repeated_adds (suc n) p =
        let next : Doing Running F.Flow = repeated n (condition p) (turn p) in
        bind (condition p) (behind_condition (suc n) p) (conditions p)
        (λ v. L.choose Adding (laws (captures_in p)) (is_true v) {m = one_turn (turn p) next} {m' = one_turn (turn p) next} {n = give F.Onward} {n' = give F.Onward}
        (bind take_turn (λ x. ◌>>=◌ (turn p) (λ flow. then_next flow next)) (any_turn (captures_in p))
        (λ x. bind (turn p) (λ flow. then_next flow next) (adds p) (λ flow. L.then_nexts Adding (laws (captures_in p)) flow {next = next} {next' = next} (repeated_adds n p)))) (gives F.Onward))

    behind_adds : (k : ℕ) (p : Program) (v : M.Value) → Adding F.Flow (behind_condition k p v) (behind_condition k p v)
    behind_adds zero p v = L.choose Adding (laws (captures_in p)) (is_true v) {m = ended} {m' = ended} {n = give F.Onward} {n' = give F.Onward} (any_ends (captures_in p)) (gives F.Onward)
    behind_adds (suc n) p v =
        let next : Doing Running F.Flow = repeated n (condition p) (turn p) in
        L.choose Adding (laws (captures_in p)) (is_true v) {m = one_turn (turn p) next} {m' = one_turn (turn p) next} {n = give F.Onward} {n' = give F.Onward}
        (bind take_turn (λ x. ◌>>=◌ (turn p) (λ flow. then_next flow next)) (any_turn (captures_in p))
        (λ x. bind (turn p) (λ flow. then_next flow next) (adds p) (λ flow. L.then_nexts Adding (laws (captures_in p)) flow {next = next} {next' = next} (repeated_adds n p)))) (gives F.Onward)

    pub while_err : (k : ℕ) (w v : World) (r : Result Flow Stop) (why : Stop) → r ≡ Err why → Ran form hooked given value_seen condition w (Err why) v → Ran form hooked given flow_seen (λ p. repeated k (condition p) (turn p)) w r v
    while_err k w v r why is h =
        ran_same form hooked given flow_seen _ _ w v r (λ p g past. unfolds k p (state hooked p past w)) (ran_err form hooked given value_seen flow_seen condition (behind_condition k) w v r why is (behind_adds k) h)

    goes_on_so : (k : ℕ) (w v u : World) (x : Value) (r : Result Flow Stop) → Ran form hooked given value_seen condition w (Ok x) v → Ran form hooked given flow_seen (λ p. behind_condition k p (value_seen p x)) v r u → Ran form hooked given flow_seen (λ p. repeated k (condition p) (turn p)) w r u
    goes_on_so k w v u x r h next =
        ran_same form hooked given flow_seen _ _ w u r (λ p g past. unfolds k p (state hooked p past w)) (ran_then form hooked given value_seen flow_seen condition (behind_condition k) w v u x r h next)

    done_so : (k : ℕ) (p : Program) (v : M.Value) (s : Running) → is_true v ≡ false → behind_condition k p v s ≡ Gives F.Onward s
    done_so zero p v s is = rw is refl
    done_so (suc n) p v s is = rw is refl

    pub while_done : (k : ℕ) (w v : World) (x : Value) → ((p : Program) → is_true (value_seen p x) ≡ false) → Ran form hooked given value_seen condition w (Ok x) v → Ran form hooked given flow_seen (λ p. repeated k (condition p) (turn p)) w (Ok Flow.Onward) v
    while_done k w v x not h = goes_on_so k w v v x (Ok Flow.Onward) h (ran_gives form hooked given flow_seen _ v Flow.Onward (λ p g past. done_so k p (value_seen p x) (state hooked p past v) (not p)))

    goes_so : (n : ℕ) (p : Program) (v : M.Value) (s : Running) → is_true v ≡ true → one_turn (turn p) (repeated n (condition p) (turn p)) s ≡ behind_condition (suc n) p v s
    goes_so n p v s is = rw is refl

    pub while_goes : (k : ℕ) (w v u : World) (x : Value) (r : Result Flow Stop) → 0 < k → ((p : Program) → is_true (value_seen p x) ≡ true) → Ran form hooked given value_seen condition w (Ok x) v
        → Ran form hooked given flow_seen (λ p. one_turn (turn p) (repeated (k - 1) (condition p) (turn p))) v r u → Ran form hooked given flow_seen (λ p. repeated k (condition p) (turn p)) w r u
    while_goes zero w v u x r some holds h next = absurd (omega (arith, some))
    while_goes (suc n) w v u x r some holds h next =
        goes_on_so (suc n) w v u x r h (ran_same form hooked given flow_seen (λ p. one_turn (turn p) (repeated n (condition p) (turn p))) _ v u r (λ p g past. goes_so n p (value_seen p x) (state hooked p past v) (holds p))
        (subst (λ (k : ℕ). Ran form hooked given flow_seen (λ p. one_turn (turn p) (repeated k (condition p) (turn p))) v r u) (omega arith) next))

    ends_so : (p : Program) (v : M.Value) (s : Running) → is_true v ≡ true → behind_condition zero p v s ≡ Stops Ends s
    ends_so p v s is = rw is refl

    pub while_ends : (k : ℕ) (w v : World) (x : Value) (r : Result Flow Stop) → r ≡ Err Ended → ((p : Program) → is_true (value_seen p x) ≡ true) → v.left.turns ≡ 0 → Ran form hooked given value_seen condition w (Ok x) v
        → Ran form hooked given flow_seen (λ p. repeated k (condition p) (turn p)) w r v
    while_ends zero w v x r is holds none h = goes_on_so zero w v v x r h (ran_ends form hooked given flow_seen _ v r is (λ p g past. ends_so p (value_seen p x) (state hooked p past v) (holds p)))
    while_ends (suc n) w v x r is holds none h =
        goes_on_so (suc n) w v v x r h
        (ran_same form hooked given flow_seen (λ p. one_turn (turn p) (repeated n (condition p) (turn p))) _ v v r (λ p g past. goes_so n p (value_seen p x) (state hooked p past v) (holds p)) (turn_stuck turn (λ p. repeated n (condition p) (turn p)) v r is none))

  -- ---- a `for`

  module _ (turn : Program → M.Value → Doing Running F.Flow) (items : List Value) (i : ℕ) where
    pub for_from : (x : Value) (w u : World) (r : Result Flow Stop) → i < length items → x ≡ get_or items i x → Ran form hooked given flow_seen (λ p. one_turn (turn p (value_seen p x)) (repeated_for (turn p) (values_seen p (drop (i + 1) items)))) w r u
        → Ran form hooked given flow_seen (λ p. repeated_for (turn p) (values_seen p (drop i items))) w r u
    for_from x w u r lt is h = subst (λ xs. Ran form hooked given flow_seen (λ p. repeated_for (turn p) (values_seen p xs)) w r u) (sym (cons_at items i x lt is)) h

    pub for_end : (w : World) → length items ≤ i → Ran form hooked given flow_seen (λ p. repeated_for (turn p) (values_seen p (drop i items))) w (Ok Flow.Onward) w
    for_end w le =
        subst (λ xs. Ran form hooked given flow_seen (λ p. repeated_for (turn p) (values_seen p xs)) w (Ok Flow.Onward) w) (sym (at_drop_all (λ xs. xs) items i le)) (ran_gives form hooked given flow_seen _ w Flow.Onward (λ p g past. refl))

  -- ---- statements

  module _ (func : Func) (mode : Mode) (running : List Addr) (levels : ℕ) where
    abbrev set : Program → Setting
    set p = setting_so func mode running levels p

    module _ (all : List Stmt) (i : ℕ) (x : Stmt) (w v : World) (r : Result Flow Stop) where
      pub statements_step : (u : World) (flow : Flow) → i < length all → x ≡ get_or all i x → flow ≡ Flow.Onward → Ran form hooked given flow_seen (λ p. ran x (set p)) w (Ok flow) v
          → Ran form hooked given flow_seen (λ p. statements_ran (set p) (drop (i + 1) all)) v r u → Ran form hooked given flow_seen (λ p. statements_ran (set p) (drop i all)) w r u
      statements_step u flow lt is on h k =
          subst (λ xs. Ran form hooked given flow_seen (λ p. statements_ran (set p) xs) w r u) (sym (cons_at all i x lt is))
          (ran_then form hooked given flow_seen flow_seen (λ p. ran x (set p)) (λ p f. unless_left f (statements_ran (set p) (drop (i + 1) all))) w v u flow r h (rw on k))

      pub statements_err : (why : Stop) → i < length all → x ≡ get_or all i x → r ≡ Err why → Ran form hooked given flow_seen (λ p. ran x (set p)) w (Err why) v → Ran form hooked given flow_seen (λ p. statements_ran (set p) (drop i all)) w r v
      statements_err why lt is stopped h =
          subst (λ xs. Ran form hooked given flow_seen (λ p. statements_ran (set p) xs) w r v) (sym (cons_at all i x lt is))
          (ran_err form hooked given flow_seen flow_seen (λ p. ran x (set p)) (λ p f. unless_left f (statements_ran (set p) (drop (i + 1) all))) w v r why stopped
          (λ p f. L.unless_lefts Adding (laws (captures_in p)) f {next = statements_ran (set p) (drop (i + 1) all)} {next' = statements_ran (set p) (drop (i + 1) all)} (statements_add func mode running levels p (drop (i + 1) all))) h)

      pub statements_left : (flow : Flow) → r ≡ Ok flow → i < length all → x ≡ get_or all i x → (flow ≡ Flow.Onward → ⊥) → Ran form hooked given flow_seen (λ p. ran x (set p)) w (Ok flow) v → Ran form hooked given flow_seen (λ p. statements_ran (set p) (drop i all)) w r v
      statements_left flow rs lt is not h =
          rw rs (subst (λ xs. Ran form hooked given flow_seen (λ p. statements_ran (set p) xs) w (Ok flow) v) (sym (cons_at all i x lt is))
          (ran_then form hooked given flow_seen flow_seen (λ p. ran x (set p)) (λ p f. unless_left f (statements_ran (set p) (drop (i + 1) all))) w v v flow (Ok flow) h
          (ran_gives form hooked given flow_seen _ v flow (λ p g past. left_is p flow (statements_ran (set p) (drop (i + 1) all)) (state hooked p past v) not))))
        where
          left_is : (p : Program) (flow : Flow) (next : Doing Running F.Flow) (s : Running) → (flow ≡ Flow.Onward → ⊥) → unless_left (flow_seen p flow) next s ≡ Gives (flow_seen p flow) s
          left_is p Flow.Onward next s not = absurd (not refl)
          left_is p Flow.Broke next s not = refl
          left_is p Flow.Continued next s not = refl
          left_is p (Flow.Returned v) next s not = refl

    pub statements_end : (all : List Stmt) (i : ℕ) (w : World) → length all ≤ i → Ran form hooked given flow_seen (λ p. statements_ran (set p) (drop i all)) w (Ok Flow.Onward) w
    statements_end all i w le =
        subst (λ xs. Ran form hooked given flow_seen (λ p. statements_ran (set p) xs) w (Ok Flow.Onward) w) (sym (at_drop_all (λ xs. xs) all i le)) (ran_gives form hooked given flow_seen _ w Flow.Onward (λ p g past. refl))
