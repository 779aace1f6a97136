-- Hook calls are answered alike.
use Rattle.qk_meaning.specs.Doing.{Doing}
use Rattle.std.specs.Prelude.{◌≡◌, refl, Bool, true, false, List, ◌∷◌, Option}
use Rattle.std.proofs.Common.{subst}
use Rattle.qk_ast.specs.Texts.{same_text}
use Rattle.qk_meaning.specs.Value.{Text, Value, Values, Fields}
use Rattle.qk_meaning.specs.World.{Object, Step, Hook, Provided, Instance, Loc}
use Rattle.qk_meaning.specs.Places.{is_above}
use Rattle.qk_meaning.specs.Parts.{or_else}
use Rattle.qk_meaning.specs.Happening.{The_task, Hook_kind, Signal_hook, Store_hook, Computed_hook, Task_hook, Provider_hook, Context_hook, Hook_answer}
use Rattle.qk_meaning.specs.Running.{Effect, Hooking, Again, Told, is_outside, Running}
use Rattle.qk_meaning.specs.Trace.{tracked_in}
use Rattle.qk_meaning.specs.Setting.{Setting}
use Rattle.qk_meaning.specs.Hooks.{thawed, thawed_items, thawed_fields, provided, context, one_more as one_hook_more, hook_made, kept_hook, is_list_or_record, signal_made, store_made, computed_made, words_of, value_provided, context_found, answer_at_mount, gave, all_made, answer_to, answer_told, task_run, given_so, answered_hook, hook_called}
use Rattle.qk_meaning.specs.Ties.{Ties, Apart, Stands, undefined, null, truth, int, words, ref, items, fields, elem, closure, by_symbol, lifted, All_stand, none_stand, item_stands, Fields_stand, end_stands, field_stands, Found_stands, both_none, both_some, Pairwise, no_more, one_more, Object_stands, plain, array, signal, computed, Loc_stands}
use Rattle.qk_meaning.specs.Worlds_stand.{Start, Hooks_stand, both_kept, both_provided, both_tasks, Instances_stand}
use Rattle.qk_meaning.specs.Alike.{Reach, Hook_answers_stand, gives_value, runs_task, gives_nothing, refuses, both_hooked, Hookings_stand, both_outside, both_mounting, both_again, both_told}
use Rattle.qk_alike.proofs.Doing_laws.{Relation, Done, done, Settings_stand, Laws}
use Rattle.qk_alike.proofs.Lists.{nths, appends}
use Rattle.qk_alike.proofs.Steps as S
use Rattle.qk_alike.proofs.Told.{tracks_alike, tasks_alike}

-- ---- what is tracked in a doing

pub record Tracked_stand (t : Ties) {A B : Type 0} (R : A → B → Type 0) (x : A × List Loc) (y : B × List Loc) : Type 0 where
  pub given : R x.0 y.0
  pub tracked : Pairwise (Loc_stands t) x.1 y.1

pub tracks_lem : {t : Ties} {b : Start} {K : Relation} (laws : Laws t b K) → {r : Reach} {A B : Type 0} {R : A → B → Type 0} {m : Doing Running A} {m' : Doing Running B} → K r A B R m m'
    → K r _ _ (Tracked_stand t R) (tracked_in m) (tracked_in m')
tracks_lem laws p = laws.bind (S.tells_apart laws p) (λ run run' k. laws.gives (record { given = k.given; tracked = tracks_alike k.happened }))

module _ {t : Ties} where
  or_elses : {o o' u u' : Option Value} → Found_stands t o o' → Found_stands t u u' → Found_stands t (or_else o u) (or_else o' u')
  or_elses both_none k = k
  or_elses (both_some h) k = both_some h

  chosen_values : {o o' u u' : Option Value} (c : Bool) → Found_stands t o o' → Found_stands t u u' → Found_stands t (elim c as (λ x. Option Value) [ true ↦ o | false ↦ u ]) (elim c as (λ x. Option Value) [ true ↦ o' | false ↦ u' ])
  chosen_values true h k = h
  chosen_values false h k = k

  same_words : {v v' : Value} → Stands t v v' → words_of v ≡ words_of v'
  same_words undefined = refl
  same_words null = refl
  same_words truth = refl
  same_words int = refl
  same_words words = refl
  same_words (ref k) = refl
  same_words (items k) = refl
  same_words (fields k) = refl
  same_words (elem s f k) = refl
  same_words (closure l m n k) = refl
  same_words (by_symbol l m k) = refl
  same_words (lifted l m k) = refl

  lists_or_records : {v v' : Value} → Stands t v v' → is_list_or_record v ≡ is_list_or_record v'
  lists_or_records undefined = refl
  lists_or_records null = refl
  lists_or_records truth = refl
  lists_or_records int = refl
  lists_or_records words = refl
  lists_or_records (ref k) = refl
  lists_or_records (items k) = refl
  lists_or_records (fields k) = refl
  lists_or_records (elem s f k) = refl
  lists_or_records (closure l m n k) = refl
  lists_or_records (by_symbol l m k) = refl
  lists_or_records (lifted l m k) = refl

-- ---- contexts

module _ {t : Ties} {b : Start} where
  provides : {hooks hooks' : List Hook} (id : Text) → Pairwise (Hooks_stand t b) hooks hooks' → Found_stands t (provided id hooks) (provided id hooks')
  provides id no_more = both_none
  provides id (one_more (both_kept h) rest) = provides id rest
  provides id (one_more (both_tasks h) rest) = provides id rest
  provides id (one_more (both_provided {id = i} h) rest) = chosen_values (same_text i id) (or_elses (provides id rest) (both_some h)) (provides id rest)

  contexts : {all all' : List Instance} (id : Text) (path : List Step) → Pairwise (Instances_stand t b) all all' → Found_stands t (context id path all) (context id path all')
  contexts id path no_more = both_none
  contexts id path (one_more {a = i} {b = j} {rest = rest} {more = rest'} h hs) =
      subst (λ p. Found_stands t (context id path (i ∷ rest)) (elim (is_above p path) as (λ x. Option Value) [ true ↦ or_else (context id path rest') (provided id j.hooks) | false ↦ context id path rest' ])) h.path
      (chosen_values (is_above i.path path) (or_elses (contexts id path hs) (provides id h.hooks)) (contexts id path hs))

  -- ---- one hook more

  more_hooks : {x y : Hook} → Hooks_stand t b x y → {h h' : Hooking} → Hookings_stand t b h h' → Hookings_stand t b (one_hook_more x h) (one_hook_more y h')
  more_hooks k both_outside = both_outside
  more_hooks k (both_mounting i h) = both_mounting i (appends h (one_more k no_more))
  more_hooks k (both_again h) = both_again h
  more_hooks k (both_told h) = both_told h

  outsides : {h h' : Hooking} → Hookings_stand t b h h' → is_outside h ≡ is_outside h'
  outsides both_outside = refl
  outsides (both_mounting i h) = refl
  outsides (both_again h) = refl
  outsides (both_told h) = refl

  given_later : {x y : Hook} → Hooks_stand t b x y → Hook_answers_stand t (gave x) (gave y)
  given_later (both_kept h) = gives_value h
  given_later (both_provided h) = gives_nothing
  given_later (both_tasks h) = gives_nothing

  provider_hook : {id id' : Text} {v v' : Value} → id ≡ id' → Stands t v v' → Hooks_stand t b (Provided id v) (Provided id' v')
  provider_hook {id = id} {v = v} {v' = v'} e h = subst (λ i. Hooks_stand t b (Provided id v) (Provided i v')) e (both_provided h)

  found_context : {all all' : List Instance} {id id' : Text} (path : List Step) → id ≡ id' → Pairwise (Instances_stand t b) all all' → Found_stands t (context id path all) (context id' path all')
  found_context {all} {all'} {id} {id'} path e h = subst (λ i. Found_stands t (context id path all) (context i path all')) e (contexts id path h)

module _ {t : Ties} (apart : Apart t) {b : Start} {K : Relation} {here here' : Setting} (w : Settings_stand t b K here here') where
  open w use {laws, facts, entering}
  open w.laws use {gives, bind, log_lengths, hookings, hooks, notes, makes}

  mutual
    thaws : {r : Reach} {v v' : Value} → Stands t v v' → K r _ _ (Stands t) (thawed v) (thawed v')
    thaws (items h) = bind (thaws_items h) (λ vs vs' k. S.made_objects laws (array k))
    thaws (fields h) = bind (thaws_fields h) (λ vs vs' k. S.made_objects laws (plain k))
    thaws undefined = gives undefined
    thaws null = gives null
    thaws truth = gives truth
    thaws int = gives int
    thaws words = gives words
    thaws (ref k) = gives (ref k)
    thaws (elem s f k) = gives (elem s f k)
    thaws (closure l m n k) = gives (closure l m n k)
    thaws (by_symbol l m k) = gives (by_symbol l m k)
    thaws (lifted l m k) = gives (lifted l m k)

    thaws_items : {r : Reach} {v v' : Values} → All_stand t v v' → K r _ _ (All_stand t) (thawed_items v) (thawed_items v')
    thaws_items none_stand = gives none_stand
    thaws_items (item_stands h hs) = bind (thaws h) (λ x y k. bind (thaws_items hs) (λ xs ys ks. gives (item_stands k ks)))

    thaws_fields : {r : Reach} {f f' : Fields} → Fields_stand t f f' → K r _ _ (Fields_stand t) (thawed_fields f) (thawed_fields f')
    thaws_fields end_stands = gives end_stands
    thaws_fields (field_stands h hs) = bind (thaws h) (λ x y k. bind (thaws_fields hs) (λ xs ys ks. gives (field_stands k ks)))

  hook_made_lem : {r : Reach} {x y : Hook} → Hooks_stand t b x y → K r _ _ Done (hook_made x) (hook_made y)
  hook_made_lem {x = x} {y = y} h = hooks (one_hook_more x) (one_hook_more y) (λ old old' k. more_hooks h k)

  kept_hook_lem : {r : Reach} {v v' : Value} → Stands t v v' → K r _ _ (Hook_answers_stand t) (kept_hook v) (kept_hook v')
  kept_hook_lem h = bind (hook_made_lem (both_kept h)) (λ x y d. gives (gives_value h))

  signal_lem : {r : Reach} {v v' : Value} → Stands t v v' → K r _ _ (Hook_answers_stand t) (signal_made v) (signal_made v')
  signal_lem h = bind (thaws h) (λ x y k. bind (S.made_objects laws (signal k)) (λ x y k. kept_hook_lem k))

  store_lem : {r : Reach} {v v' : Value} → Stands t v v' → K r _ _ (Hook_answers_stand t) (store_made v) (store_made v')
  store_lem h = bind (thaws h) (λ x y k. kept_hook_lem k)

  computed_lem : {r : Reach} {v v' : Value} → Stands t v v' → K r _ _ (Hook_answers_stand t) (computed_made v) (computed_made v')
  computed_lem h = bind (S.made_objects laws (computed h)) (λ x y k. kept_hook_lem k)

  provided_lem : {r : Reach} {id id' : Text} {v v' : Value} → id ≡ id' → Stands t v v' → K r _ _ (Hook_answers_stand t) (value_provided id v) (value_provided id' v')
  provided_lem {r} {id} {id'} {v} {v'} e h = bind (hook_made_lem (provider_hook e h)) (λ x y d. gives gives_nothing)

  context_found_lem : {r : Reach} {o o' : Option Value} → Found_stands t o o' → K r _ _ (Hook_answers_stand t) (context_found o) (context_found o')
  context_found_lem both_none = gives refuses
  context_found_lem (both_some h) = kept_hook_lem h

  answer_at_mount_lem : {r : Reach} (kind : Hook_kind) {all all' : List Value} (path : List Step) {before before' : List Instance} → Pairwise (Stands t) all all' → Pairwise (Instances_stand t b) before before' →
      K r _ _ (Hook_answers_stand t) (answer_at_mount kind all path before) (answer_at_mount kind all' path before')
  answer_at_mount_lem Signal_hook path h i = signal_lem (nths 0 h)
  answer_at_mount_lem Store_hook path h i = S.choose laws (lists_or_records (nths 0 h)) (store_lem (nths 0 h)) (gives refuses)
  answer_at_mount_lem Computed_hook path h i = computed_lem (nths 0 h)
  answer_at_mount_lem Task_hook path h i = gives (runs_task (nths 0 h))
  answer_at_mount_lem Provider_hook path h i = provided_lem (same_words (nths 0 h)) (nths 1 h)
  answer_at_mount_lem Context_hook path h i = context_found_lem (found_context path (same_words (nths 0 h)) i)

  all_made_lem : {r : Reach} {all all' : List Object} → Pairwise (Object_stands t) all all' → K r _ _ Done (all_made all) (all_made all')
  all_made_lem no_more = gives done
  all_made_lem (one_more h rest) = bind (makes h) (λ x y k. all_made_lem rest)

  answer_to_lem : {r : Reach} (kind : Hook_kind) {all all' : List Value} → Pairwise (Stands t) all all' → {h h' : Hooking} → Hookings_stand t b h h' → K r _ _ (Hook_answers_stand t) (answer_to kind all h) (answer_to kind all' h')
  answer_to_lem kind hs both_outside = gives gives_nothing
  answer_to_lem kind hs (both_mounting {path = path} i h) = answer_at_mount_lem kind path hs i
  answer_to_lem kind hs (both_again no_more) = gives gives_nothing
  answer_to_lem kind hs (both_again (one_more {rest = rest} {more = rest'} h rests)) = bind (hooks (λ x. Again rest) (λ x. Again rest') (λ x y k. both_again rests)) (λ x y d. gives (given_later h))
  answer_to_lem kind hs (both_told no_more) = gives gives_nothing
  answer_to_lem kind hs (both_told (one_more {rest = rest} {more = rest'} h rests)) =
      bind (hooks (λ x. Told rest) (λ x. Told rest') (λ x y k. both_told rests)) (λ x y d. bind (all_made_lem h.made) (λ x y d. gives h.answer))

  task_run_lem : {r : Reach} {f f' : Value} → Stands t f f' → K r _ _ (Stands t) (task_run here f) (task_run here' f')
  task_run_lem {f = f} {f' = f'} h =
      bind log_lengths (λ n n' at. bind (S.unhooks laws (S.as_parts laws The_task (tracks_lem laws (entering.enters Effect w.running h no_more)))) (λ run run' k.
      bind (hook_made_lem (both_tasks (tasks_alike apart (record { run = f; tracked = run.1; began = n }) (record { run = f'; tracked = run'.1; began = n' }) h k.tracked at))) (λ x y d. gives undefined)))

  given_so_lem : {r : Reach} {x y : Hook_answer} → Hook_answers_stand t x y → K r _ _ (Stands t) (given_so here x) (given_so here' y)
  given_so_lem (gives_value h) = gives h
  given_so_lem (runs_task h) = task_run_lem h
  given_so_lem gives_nothing = gives undefined
  given_so_lem refuses = S.faults laws _

  answer_told_lem : {r : Reach} (kind : Hook_kind) {all all' : List Value} → Pairwise (Stands t) all all' → {h h' : Hooking} → Hookings_stand t b h h' → K r _ _ (Hook_answers_stand t) (answer_told kind all h) (answer_told kind all' h')
  answer_told_lem kind h o = bind (S.makes_apart laws apart (answer_to_lem kind h o)) (λ x y k. bind (notes (both_hooked {kind = kind} h (record { answer = k.given; made = k.made }))) (λ u u' d. gives k.given))

  answered_hook_lem : {r : Reach} (kind : Hook_kind) {all all' : List Value} → Pairwise (Stands t) all all' → K r _ _ (Hook_answers_stand t) (answered_hook kind all) (answered_hook kind all')
  answered_hook_lem kind h = bind hookings (λ old old' o. S.choose laws (outsides o) (gives gives_nothing) (answer_told_lem kind h o))

  pub hook_called_lem : {r : Reach} (kind : Hook_kind) {all all' : List Value} → Pairwise (Stands t) all all' → K r _ _ (Stands t) (hook_called here kind all) (hook_called here' kind all')
  hook_called_lem kind h = bind (answered_hook_lem kind h) (λ x y k. given_so_lem k)
