-- Names get their values: fields of records, parameters, members.
use Rattle.std.proofs.Common.{pos, ◌≡◌, ◌<◌, ◌≤◌, ◌+◌, ℕ, suc, zero, List, [], ◌∷◌, ◌++◌, length, drop, get_or, Bool, Some, None, Result, Ok, Err, refl, ap, ◌∙◌, sym, subst, add-one}
use Rattle.std.specs.Prelude.{map}
use Rattle.std.proofs.lemmas.List.{at_drop_all, append-nil}
use Rattle.qk_ast.specs.declared.Form.{Form}
use Rattle.qk_ast.specs.declared.Pattern.{Pattern}
use Rattle.qk_ast.specs.Texts.{Text}
use Rattle.qk_meaning.specs.Value as M
use Rattle.qk_meaning.specs.Value.{Fields}
use Rattle.qk_meaning.specs.Parts.{replaced}
use Rattle.qk_meaning.specs.Program.{Program}
use Rattle.qk_meaning.specs.Doing.{Gives, after, give, ◌>>◌}
use Rattle.qk_meaning.specs.Running.{Running, assigned}
use Rattle.qk_meaning.specs.Setting.{Setting, called_anew}
use Rattle.qk_meaning.specs.References.{read}
use Rattle.qk_meaning.specs.Evaluation.{entering}
use Rattle.qk_meaning.specs.In_order.{value_in}
use Rattle.qk_meaning.proofs.Rows.{after_same}
use Rattle.qk_value.specs.declared.value.Value.{Value, Fun as Function}
use Rattle.qk_value.specs.declared.value.Fun.{Fun}
use Rattle.qk_value.specs.declared.value.Addr.{Addr}
use Rattle.qk_value.specs.View.{seen}
use Rattle.qk_code.specs.declared.func.Func.{Func}
use Rattle.qk_code.specs.declared.mode.Mode.{Mode}
use Rattle.qk_code.specs.declared.stop.Stop.{Stop}
use Rattle.qk_code.specs.declared.stop.Stop.TheVariants.{Memory}
use Rattle.qk_code.specs.Modes.{mode_seen}
use Rattle.qk_code.specs.World.{World, state}
use Rattle.qk_code.specs.Ran.{Ran}
use Rattle.qk_code.proofs.Runs.{ran_then, ran_err, ran_same, ran_known, ran_gives, ran_lost, ran_moved}
use Rattle.qk_eval.specs.Placing.{setting_so, addresses}
use Rattle.qk_eval.specs.Seeing.{value_seen, values_seen, nothing}
use Rattle.qk_eval.proofs.Growing.{gives, bind}
use Rattle.qk_ast.specs.declared.Field.{Field}
use Rattle.qk_meaning.specs.Parts.{nth}
use Rattle.qk_meaning.specs.References.{bound, fields_bound, all_bound}
use Rattle.qk_meaning.specs.In_order.{fields_in}
use Rattle.qk_eval.specs.Seeing.{fields_seen}
use Rattle.qk_eval.specs.Lists.{each_after, fields_after, behind}
use Rattle.qk_eval.proofs.Steps.{none_there}
use Rattle.qk_eval.proofs.Loops.{cons_at, fields_more, seen_more, item_called}
use Rattle.std.specs.Prelude.{slice_get}
use Rattle.qk_meaning.specs.Methods.{numbered, called_on_each}
use Rattle.qk_meaning.proofs.Rows.{after_after, after_give}
use Rattle.qk_eval.proofs.Forms.{each_first, each_next}
use Rattle.qk_eval.proofs.Growing.{each_adds, fields_add, all_bound_add, fields_bound_add, item_adds, assigned_adds}

behind_one : (so_far : Fields) (name : Text) (v : M.Value) (more : Fields) → behind (behind so_far (M.field name v M.end)) more ≡ behind so_far (M.field name v more)
behind_one M.end name v more = refl
behind_one (M.field n w rest) name v more = ap (M.field n w) (behind_one rest name v more)

fields_next : (here : Setting) (so_far : Fields) (f : Field) (rest : List Field) (s : Running) → after (value_in here f.value s) (λ v. fields_after here (behind so_far (M.field f.key v M.end)) rest) ≡ fields_after here so_far (f ∷ rest) s
fields_next here so_far f rest s =
    after_same (value_in here f.value s) _ _ (λ v u. after_same (fields_in here rest u) _ _ (λ fs t. ap (λ all. Gives all t) (behind_one so_far f.key v fs)) ∙ sym (after_after (fields_in here rest u) _ _))
    ∙ sym (after_after (value_in here f.value s) _ _)

next_items : (vs : List M.Value) (i : ℕ) → drop 1 (drop i vs) ≡ drop (i + 1) vs
next_items vs i = by vs i ∙ ap (λ k. drop k vs) (sym (add-one i))
  where
    by : (vs : List M.Value) (i : ℕ) → drop 1 (drop i vs) ≡ drop (suc i) vs
    by [] zero = refl
    by [] (suc i) = refl
    by (v ∷ vs) zero = refl
    by (v ∷ vs) (suc i) = by vs i

-- the value at a place of a list that is read from there on
module _ (names : _) where
  pub first_there : (vs : List Value) (i : ℕ) (v : Value) → slice_get vs i ≡ Some v → nth (drop i (map (seen names) vs)) 0 ≡ seen names v
  first_there [] zero v is = absurd (none_there None v refl is)
  first_there [] (suc i) v is = absurd (none_there None v refl is)
  first_there (x ∷ vs) zero v is = ap (λ o. elim o [ None ↦ seen names v | Some y ↦ seen names y ]) is
  first_there (x ∷ vs) (suc i) v is = first_there vs i v is

  pub none_behind : (vs : List Value) (i : ℕ) → slice_get vs i ≡ None → nth (drop i (map (seen names) vs)) 0 ≡ M.Undefined
  none_behind [] zero is = refl
  none_behind [] (suc i) is = refl
  none_behind (x ∷ vs) zero is = absurd (none_there (Some x) x is refl)
  none_behind (x ∷ vs) (suc i) is = none_behind vs i is

module _ (form : Form) (hooked : Bool) (given : Program → Type 0) (func : Func) (mode : Mode) (running : List Addr) (levels : ℕ) where
  abbrev set : Program → Setting
  set p = setting_so func mode running levels p

  -- ---- the values of fields

  pub fields_begin : (all : List Field) (done : List (Text × Value)) (w v : World) (r : Result (List (Text × Value)) Stop) → done ≡ [] → Ran form hooked given fields_seen (λ p. fields_after (set p) (fields_seen p done) all) w r v → Ran form hooked given fields_seen (λ p. fields_in (set p) all) w r v
  fields_begin all done w v r none h = ran_same form hooked given fields_seen _ _ w v r (λ p g past. ap (λ d. fields_after (set p) (fields_seen p d) all (state hooked p past w)) none ∙ after_give (fields_in (set p) all (state hooked p past w))) h

  module _ (all : List Field) (i : ℕ) (x : Field) (done : List (Text × Value)) (w v : World) (r : Result (List (Text × Value)) Stop) where
    from_field : (u : World) → i < length all → x ≡ get_or all i x → Ran form hooked given fields_seen (λ p s. after (value_in (set p) x.value s) (λ b. fields_after (set p) (behind (fields_seen p done) (M.field x.key b M.end)) (drop (i + 1) all))) w r u
        → Ran form hooked given fields_seen (λ p. fields_after (set p) (fields_seen p done) (drop i all)) w r u
    from_field u lt is h =
        subst (λ xs. Ran form hooked given fields_seen (λ p. fields_after (set p) (fields_seen p done) xs) w r u) (sym (cons_at all i x lt is))
        (ran_same form hooked given fields_seen _ _ w u r (λ p g past. fields_next (set p) (fields_seen p done) x (drop (i + 1) all) (state hooked p past w)) h)

    pub fields_step : (u : World) (y : Value) (done' : List (Text × Value)) → i < length all → x ≡ get_or all i x → done' ≡ done ++ (x.key, y) ∷ [] → Ran form hooked given value_seen (λ p. value_in (set p) x.value) w (Ok y) v
        → Ran form hooked given fields_seen (λ p. fields_after (set p) (fields_seen p done') (drop (i + 1) all)) v r u → Ran form hooked given fields_seen (λ p. fields_after (set p) (fields_seen p done) (drop i all)) w r u
    fields_step u y done' lt is pushed h k =
        from_field u lt is
        (ran_then form hooked given value_seen fields_seen (λ p. value_in (set p) x.value) (λ p b. fields_after (set p) (behind (fields_seen p done) (M.field x.key b M.end)) (drop (i + 1) all)) w v u y r h
        (ran_same form hooked given fields_seen _ _ v u r (λ p g past. ap (λ d. fields_after (set p) d (drop (i + 1) all) (state hooked p past v)) (ap (fields_seen p) pushed ∙ fields_more p done (x.key, y))) k))

    pub fields_err : (why : Stop) → i < length all → x ≡ get_or all i x → r ≡ Err why → Ran form hooked given value_seen (λ p. value_in (set p) x.value) w (Err why) v → Ran form hooked given fields_seen (λ p. fields_after (set p) (fields_seen p done) (drop i all)) w r v
    fields_err why lt is stopped h =
        from_field v lt is
        (ran_err form hooked given value_seen fields_seen (λ p. value_in (set p) x.value) (λ p b. fields_after (set p) (behind (fields_seen p done) (M.field x.key b M.end)) (drop (i + 1) all)) w v r why stopped
        (λ p b. bind (fields_in (set p) (drop (i + 1) all)) (λ fs. give (behind (behind (fields_seen p done) (M.field x.key b M.end)) fs)) (fields_add func mode running levels p (drop (i + 1) all)) (λ fs. gives (behind (behind (fields_seen p done) (M.field x.key b M.end)) fs))) h)

    pub fields_memory : (y : Value) → i < length all → x ≡ get_or all i x → r ≡ Err Memory → Ran form hooked given value_seen (λ p. value_in (set p) x.value) w (Ok y) v → Ran form hooked given fields_seen (λ p. fields_after (set p) (fields_seen p done) (drop i all)) w r v
    fields_memory y lt is stopped h =
        from_field v lt is (ran_then form hooked given value_seen fields_seen (λ p. value_in (set p) x.value) (λ p b. fields_after (set p) (behind (fields_seen p done) (M.field x.key b M.end)) (drop (i + 1) all)) w v v y r h (ran_lost form hooked given fields_seen _ v r stopped))

  pub fields_end : (all : List Field) (i : ℕ) (done : List (Text × Value)) (w : World) → length all ≤ i → Ran form hooked given fields_seen (λ p. fields_after (set p) (fields_seen p done) (drop i all)) w (Ok done) w
  fields_end all i done w le =
      subst (λ xs. Ran form hooked given fields_seen (λ p. fields_after (set p) (fields_seen p done) xs) w (Ok done) w) (sym (at_drop_all (λ xs. xs) all i le))
      (ran_gives form hooked given fields_seen _ w done (λ p g past. ap (λ vs. Gives vs (state hooked p past w)) (behind_end (fields_seen p done))))
    where
      behind_end : (fs : Fields) → behind fs M.end ≡ fs
      behind_end M.end = refl
      behind_end (M.field n v rest) = ap (M.field n v) (behind_end rest)

  -- ---- a callback is called with each item

  module _ (f : Program → M.Value) (items : List Value) (i : ℕ) (x : Value) (done : List Value) (w v : World) (r : Result (List Value) Stop) where
    from_item : (u : World) → i < length items → x ≡ get_or items i x
        → Ran form hooked given values_seen (λ p s. after (item_called (set p) (f p) (i, value_seen p x) s) (λ b. each_after (item_called (set p) (f p)) (values_seen p done ++ b ∷ []) (numbered (i + 1) (values_seen p (drop (i + 1) items))))) w r u
        → Ran form hooked given values_seen (λ p. each_after (item_called (set p) (f p)) (values_seen p done) (numbered i (values_seen p (drop i items)))) w r u
    from_item u lt is h =
        subst (λ xs. Ran form hooked given values_seen (λ p. each_after (item_called (set p) (f p)) (values_seen p done) (numbered i (values_seen p xs))) w r u) (sym (cons_at items i x lt is))
        (subst (λ k. Ran form hooked given values_seen (λ p. each_after (item_called (set p) (f p)) (values_seen p done) ((i, value_seen p x) ∷ numbered k (values_seen p (drop (i + 1) items)))) w r u) (add-one i)
        (ran_same form hooked given values_seen _ _ w u r (λ p g past. each_next (item_called (set p) (f p)) (values_seen p done) (i, value_seen p x) (numbered (i + 1) (values_seen p (drop (i + 1) items))) (state hooked p past w)) h))

    pub items_step : (u : World) (y : Value) (done' : List Value) → i < length items → x ≡ get_or items i x → done' ≡ done ++ y ∷ [] → Ran form hooked given value_seen (λ p. item_called (set p) (f p) (i, value_seen p x)) w (Ok y) v
        → Ran form hooked given values_seen (λ p. each_after (item_called (set p) (f p)) (values_seen p done') (numbered (i + 1) (values_seen p (drop (i + 1) items)))) v r u
        → Ran form hooked given values_seen (λ p. each_after (item_called (set p) (f p)) (values_seen p done) (numbered i (values_seen p (drop i items)))) w r u
    items_step u y done' lt is pushed h k =
        from_item u lt is
        (ran_then form hooked given value_seen values_seen (λ p. item_called (set p) (f p) (i, value_seen p x)) (λ p b. each_after (item_called (set p) (f p)) (values_seen p done ++ b ∷ []) (numbered (i + 1) (values_seen p (drop (i + 1) items)))) w v u y r h
        (ran_same form hooked given values_seen _ _ v u r (λ p g past. ap (λ d. each_after (item_called (set p) (f p)) d (numbered (i + 1) (values_seen p (drop (i + 1) items))) (state hooked p past v)) (ap (values_seen p) pushed ∙ seen_more p done y)) k))

    pub items_err : (why : Stop) → i < length items → x ≡ get_or items i x → r ≡ Err why → Ran form hooked given value_seen (λ p. item_called (set p) (f p) (i, value_seen p x)) w (Err why) v
        → Ran form hooked given values_seen (λ p. each_after (item_called (set p) (f p)) (values_seen p done) (numbered i (values_seen p (drop i items)))) w r v
    items_err why lt is stopped h =
        from_item v lt is
        (ran_err form hooked given value_seen values_seen (λ p. item_called (set p) (f p) (i, value_seen p x)) (λ p b. each_after (item_called (set p) (f p)) (values_seen p done ++ b ∷ []) (numbered (i + 1) (values_seen p (drop (i + 1) items)))) w v r why stopped
        (λ p b. each_adds func mode running levels p (item_called (set p) (f p)) (item_adds func mode running levels p (f p)) (values_seen p done ++ b ∷ []) (numbered (i + 1) (values_seen p (drop (i + 1) items)))) h)

    pub items_memory : (y : Value) → i < length items → x ≡ get_or items i x → r ≡ Err Memory → Ran form hooked given value_seen (λ p. item_called (set p) (f p) (i, value_seen p x)) w (Ok y) v
        → Ran form hooked given values_seen (λ p. each_after (item_called (set p) (f p)) (values_seen p done) (numbered i (values_seen p (drop i items)))) w r v
    items_memory y lt is stopped h =
        from_item v lt is
        (ran_then form hooked given value_seen values_seen (λ p. item_called (set p) (f p) (i, value_seen p x)) (λ p b. each_after (item_called (set p) (f p)) (values_seen p done ++ b ∷ []) (numbered (i + 1) (values_seen p (drop (i + 1) items)))) w v v y r h (ran_lost form hooked given values_seen _ v r stopped))

  pub items_begin : (f : Program → M.Value) (items done : List Value) (w v : World) (r : Result (List Value) Stop) → done ≡ [] → Ran form hooked given values_seen (λ p. each_after (item_called (set p) (f p)) (values_seen p done) (numbered 0 (values_seen p items))) w r v
      → Ran form hooked given values_seen (λ p. called_on_each (set p) (f p) (values_seen p items)) w r v
  items_begin f items done w v r none h =
      ran_same form hooked given values_seen _ _ w v r
      (λ p g past. ap {A = List Value} (λ d. each_after (item_called (set p) (f p)) (values_seen p d) (numbered 0 (values_seen p items)) (state hooked p past w)) none ∙ each_first (item_called (set p) (f p)) (numbered 0 (values_seen p items)) (state hooked p past w)) h

  -- the function is entered with an item and its index
  pub ran_item : (i : ℕ) (n : _) (f : Fun) (x x' : Value) (arguments : List Value) (w v : World) (r : Result Value Stop) → arguments ≡ x' ∷ (Value.Int n ∷ []) → x' ≡ x → n ≡ pos i
      → Ran form hooked (λ p. Unit {0}) value_seen (λ p. entering p called_anew levels (mode_seen mode) (addresses running) (value_seen p (Function f)) (values_seen p arguments)) w r v
      → Ran form hooked given value_seen (λ p. item_called (set p) (value_seen p (Function f)) (i, value_seen p x)) w r v
  ran_item i n f x x' arguments w v r is same index h =
      ran_known form hooked given (λ p. Unit {0}) value_seen _ w v r (λ files more k. tt)
      (ran_same form hooked (λ p. Unit {0}) value_seen _ _ w v r (λ p g past. ap {A = List M.Value} (λ vs. entering p called_anew levels (mode_seen mode) (addresses running) (value_seen p (Function f)) vs (state hooked p past w)) (seen_so p)) h)
    where
      seen_so : (p : Program) → values_seen p arguments ≡ value_seen p x ∷ (M.Int (pos i) ∷ [])
      seen_so p = ap (values_seen p) is ∙ ap {A = Value} (λ y. value_seen p y ∷ (M.Int n ∷ [])) same ∙ ap (λ m. value_seen p x ∷ (M.Int m ∷ [])) index

  pub items_end : (f : Program → M.Value) (items : List Value) (i : ℕ) (done : List Value) (w : World) → length items ≤ i → Ran form hooked given values_seen (λ p. each_after (item_called (set p) (f p)) (values_seen p done) (numbered i (values_seen p (drop i items)))) w (Ok done) w
  items_end f items i done w le =
      subst (λ xs. Ran form hooked given values_seen (λ p. each_after (item_called (set p) (f p)) (values_seen p done) (numbered i (values_seen p xs))) w (Ok done) w) (sym (at_drop_all (λ xs. xs) items i le))
      (ran_gives form hooked given values_seen _ w done (λ p g past. ap (λ vs. Gives vs (state hooked p past w)) (append-nil (values_seen p done))))

  -- ---- parameters

  module _ (patterns : List Pattern) (arguments : List Value) (i : ℕ) (x : Pattern) (y : Value) (w v : World) (r : Result (Unit {0}) Stop) (there : (p : Program) → nth (drop i (values_seen p arguments)) 0 ≡ value_seen p y) where
    from_pattern : (u : World) → i < length patterns → x ≡ get_or patterns i x → Ran form hooked given nothing (λ p s. after (bound (set p) x (value_seen p y) s) (λ b. all_bound (set p) (drop (i + 1) patterns) (drop (i + 1) (values_seen p arguments)))) w r u
        → Ran form hooked given nothing (λ p. all_bound (set p) (drop i patterns) (drop i (values_seen p arguments))) w r u
    from_pattern u lt is h =
        subst (λ xs. Ran form hooked given nothing (λ p. all_bound (set p) xs (drop i (values_seen p arguments))) w r u) (sym (cons_at patterns i x lt is))
        (ran_same form hooked given nothing _ (λ p. all_bound (set p) (x ∷ drop (i + 1) patterns) (drop i (values_seen p arguments))) w u r
        (λ p g past. ap (λ z. after (bound (set p) x z (state hooked p past w)) (λ b. all_bound (set p) (drop (i + 1) patterns) (drop (i + 1) (values_seen p arguments)))) (sym (there p))
        ∙ ap (λ zs. after (bound (set p) x (nth (drop i (values_seen p arguments)) 0) (state hooked p past w)) (λ b. all_bound (set p) (drop (i + 1) patterns) zs)) (sym (next_items (values_seen p arguments) i))) h)

    pub patterns_step : (u : World) → i < length patterns → x ≡ get_or patterns i x → Ran form hooked given nothing (λ p. bound (set p) x (value_seen p y)) w (Ok tt) v
        → Ran form hooked given nothing (λ p. all_bound (set p) (drop (i + 1) patterns) (drop (i + 1) (values_seen p arguments))) v r u → Ran form hooked given nothing (λ p. all_bound (set p) (drop i patterns) (drop i (values_seen p arguments))) w r u
    patterns_step u lt is h k = from_pattern u lt is (ran_then form hooked given nothing nothing (λ p. bound (set p) x (value_seen p y)) (λ p b. all_bound (set p) (drop (i + 1) patterns) (drop (i + 1) (values_seen p arguments))) w v u tt r h k)

    pub patterns_err : (why : Stop) → i < length patterns → x ≡ get_or patterns i x → r ≡ Err why → Ran form hooked given nothing (λ p. bound (set p) x (value_seen p y)) w (Err why) v → Ran form hooked given nothing (λ p. all_bound (set p) (drop i patterns) (drop i (values_seen p arguments))) w r v
    patterns_err why lt is stopped h =
        from_pattern v lt is (ran_err form hooked given nothing nothing (λ p. bound (set p) x (value_seen p y)) (λ p b. all_bound (set p) (drop (i + 1) patterns) (drop (i + 1) (values_seen p arguments))) w v r why stopped
        (λ p b. all_bound_add func mode running levels p (drop (i + 1) patterns) (drop (i + 1) (values_seen p arguments))) h)

  pub patterns_end : (patterns : List Pattern) (arguments : List Value) (i : ℕ) (w : World) → length patterns ≤ i → Ran form hooked given nothing (λ p. all_bound (set p) (drop i patterns) (drop i (values_seen p arguments))) w (Ok tt) w
  patterns_end patterns arguments i w le =
      subst (λ xs. Ran form hooked given nothing (λ p. all_bound (set p) xs (drop i (values_seen p arguments))) w (Ok tt) w) (sym (at_drop_all (λ xs. xs) patterns i le)) (ran_gives form hooked given nothing _ w tt (λ p g past. refl))

  -- ---- members

  module _ (names : List Text) (i : ℕ) (x : Text) (object : Value) (w v : World) (r : Result (Unit {0}) Stop) where
    from_member : (u : World) → i < length names → x ≡ get_or names i x → Ran form hooked given nothing (λ p s. after (read (set p) (value_seen p object) (M.Words x) s) (λ y. ◌>>◌ (assigned x y) (fields_bound (set p) (drop (i + 1) names) (value_seen p object)))) w r u
        → Ran form hooked given nothing (λ p. fields_bound (set p) (drop i names) (value_seen p object)) w r u
    from_member u lt is h = subst (λ xs. Ran form hooked given nothing (λ p. fields_bound (set p) xs (value_seen p object)) w r u) (sym (cons_at names i x lt is)) h

    pub members_step : (u : World) (y : Value) (scope : Program → Fields) → i < length names → x ≡ get_or names i x → Ran form hooked given value_seen (λ p. read (set p) (value_seen p object) (M.Words x)) w (Ok y) v
        → ((p : Program) → scope p ≡ replaced x (value_seen p y) (v.scope p)) → Ran form hooked given nothing (λ p. fields_bound (set p) (drop (i + 1) names) (value_seen p object)) (record v { scope = scope }) r u
        → Ran form hooked given nothing (λ p. fields_bound (set p) (drop i names) (value_seen p object)) w r u
    members_step u y scope lt is h assigns k =
        from_member u lt is
        (ran_then form hooked given value_seen nothing (λ p. read (set p) (value_seen p object) (M.Words x)) (λ p z. ◌>>◌ (assigned x z) (fields_bound (set p) (drop (i + 1) names) (value_seen p object))) w v u y r h
        (ran_moved form hooked given nothing (λ p. fields_bound (set p) (drop (i + 1) names) (value_seen p object)) (λ p. ◌>>◌ (assigned x (value_seen p y)) (fields_bound (set p) (drop (i + 1) names) (value_seen p object))) v u scope r
        (λ p g past. ap {A = Fields} (λ l. fields_bound (set p) (drop (i + 1) names) (value_seen p object) (record (state hooked p past v) { locals = l })) (assigns p)) k))

    pub members_err : (why : Stop) → i < length names → x ≡ get_or names i x → r ≡ Err why → Ran form hooked given value_seen (λ p. read (set p) (value_seen p object) (M.Words x)) w (Err why) v → Ran form hooked given nothing (λ p. fields_bound (set p) (drop i names) (value_seen p object)) w r v
    members_err why lt is stopped h =
        from_member v lt is (ran_err form hooked given value_seen nothing (λ p. read (set p) (value_seen p object) (M.Words x)) (λ p z. ◌>>◌ (assigned x z) (fields_bound (set p) (drop (i + 1) names) (value_seen p object))) w v r why stopped
        (λ p z. bind {A = Unit {0}} (assigned x z) (λ u. fields_bound (set p) (drop (i + 1) names) (value_seen p object)) (assigned_adds func mode running levels p x z) (λ u. fields_bound_add func mode running levels p (drop (i + 1) names) (value_seen p object))) h)

  pub members_end : (names : List Text) (i : ℕ) (object : Value) (w : World) → length names ≤ i → Ran form hooked given nothing (λ p. fields_bound (set p) (drop i names) (value_seen p object)) w (Ok tt) w
  members_end names i object w le =
      subst (λ xs. Ran form hooked given nothing (λ p. fields_bound (set p) xs (value_seen p object)) w (Ok tt) w) (sym (at_drop_all (λ xs. xs) names i le)) (ran_gives form hooked given nothing _ w tt (λ p g past. refl))
