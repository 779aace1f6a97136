-- Instances are executed alike.
use Rattle.std.specs.Prelude.{◌≡◌, refl, ℕ, Bool, true, false, List, [], ◌∷◌, ◌++◌, length}
use Rattle.std.proofs.Common.{sym, ap, subst}
use Rattle.qk_ast.specs.Names.{is_listed}
use Rattle.qk_meaning.specs.Value.{Shown, Value, Fields, none, end}
use Rattle.qk_meaning.specs.World.{Object, Read, Hook}
use Rattle.qk_meaning.specs.Same.{same}
use Rattle.qk_meaning.specs.Parts.{packed, picked}
use Rattle.qk_meaning.specs.Writing.{Becoming}
use Rattle.qk_meaning.specs.Props.{props_log}
use Rattle.qk_alike.specs.Meanings_stand.{Becomings_stand, both_become, both_stay}
use Rattle.qk_meaning.specs.Program.{Program, captures_in}
use Rattle.qk_meaning.specs.Doing.{asked, Doing}
use Rattle.qk_meaning.specs.Happening.{Happening, The_task, The_track}
use Rattle.qk_meaning.specs.Running.{Pure, Hooking, Outside, becomes_so, Running}
use Rattle.qk_meaning.specs.Trace.{locs_of, own_reads_from, read_in}
use Rattle.qk_meaning.specs.Setting.{Computed_reading}
use Rattle.qk_meaning.specs.Evaluation.{entering}
use Rattle.qk_meaning.specs.Execution.{function_of, Execution, made_hooks, fields_of, finished, execution, props_become, props_set}
use Rattle.qk_meaning.specs.Ties.{Ties, Paired, Apart, Shown_as, an_element, a_fragment, a_slot, a_component, a_symbol, own_symbol, Stands, undefined, ref, closure, by_symbol, lifted, All_stand, none_stand, Fields_stand, end_stands, Object_stands, plain, array, signal, computed, Pairwise, no_more, one_more, props, Loc_stands}
use Rattle.qk_meaning.specs.Worlds_stand.{Start, Locs_alike, Hooks_stand}
use Rattle.qk_meaning.specs.Alike.{Reach, Happenings_stand, both_read, both_act, both_log, both_print, both_entered, both_used, both_began, both_left, both_hooked, both_computing, both_computed, both_took, Hookings_stand, both_outside}
use Rattle.qk_alike.proofs.Doing_laws.{Relation, Done, Laws, Enterings_stand}
use Rattle.qk_alike.proofs.Lists.{appends}
use Rattle.qk_alike.proofs.Steps as S
use Rattle.qk_alike.proofs.Told.{locations_alike}
use Rattle.qk_alike.proofs.Objects.{child_faults}
use Rattle.qk_session_alike.proofs.Props_set.{Sames_agree, after_stand, log_stands}

-- ---- what was read

locs_apart : (all more : List Read) → locs_of (all ++ more) ≡ locs_of all ++ locs_of more
locs_apart [] more = refl
locs_apart (r ∷ all) more = ap (λ l. r.loc ∷ l) (locs_apart all more)

took : {t : Ties} (reads reads' more more' : List Read) → Pairwise (Loc_stands t) (locs_of reads) (locs_of reads') → Pairwise (Loc_stands t) (locs_of more) (locs_of more') → Pairwise (Loc_stands t) (locs_of (reads ++ more)) (locs_of (reads' ++ more'))
took {t} reads reads' more more' l k = subst (λ x. Pairwise (Loc_stands t) x (locs_of (reads' ++ more'))) (sym (locs_apart reads more)) (subst (λ x. Pairwise (Loc_stands t) (locs_of reads ++ locs_of more) x) (sym (locs_apart reads' more')) (appends l k))

module _ {t : Ties} {b : Start} where
  own_alike : {all all' : List Happening} (inside : Bool) → Pairwise (Happenings_stand t b) all all' → Pairwise (Loc_stands t) (locs_of (own_reads_from inside all)) (locs_of (own_reads_from inside all'))
  own_alike inside no_more = no_more
  own_alike true (one_more (both_read h at) rest) = own_alike true rest
  own_alike false (one_more (both_read h at) rest) = one_more h (own_alike false rest)
  own_alike true (one_more (both_took h k l) rest) = own_alike true rest
  own_alike false (one_more {rest = rs} {more = rs'} (both_took {reads = reads} {reads' = reads'} h k l) rest) = took reads reads' (own_reads_from false rs) (own_reads_from false rs') l (own_alike false rest)
  own_alike true (one_more (both_act h) rest) = own_alike true rest
  own_alike false (one_more (both_act h) rest) = own_alike false rest
  own_alike true (one_more (both_log h) rest) = own_alike true rest
  own_alike false (one_more (both_log h) rest) = own_alike false rest
  own_alike true (one_more both_print rest) = own_alike true rest
  own_alike false (one_more both_print rest) = own_alike false rest
  own_alike true (one_more (both_entered h) rest) = own_alike true rest
  own_alike false (one_more (both_entered h) rest) = own_alike false rest
  own_alike true (one_more both_used rest) = own_alike true rest
  own_alike false (one_more both_used rest) = own_alike false rest
  own_alike true (one_more (both_hooked h k) rest) = own_alike true rest
  own_alike false (one_more (both_hooked h k) rest) = own_alike false rest
  own_alike true (one_more (both_computing h) rest) = own_alike true rest
  own_alike false (one_more (both_computing h) rest) = own_alike false rest
  own_alike true (one_more (both_computed h k) rest) = own_alike true rest
  own_alike false (one_more (both_computed h k) rest) = own_alike false rest
  own_alike true (one_more (both_began {part = The_track}) rest) = own_alike true rest
  own_alike false (one_more (both_began {part = The_track}) rest) = own_alike false rest
  own_alike true (one_more (both_began {part = The_task}) rest) = own_alike true rest
  own_alike false (one_more (both_began {part = The_task}) rest) = own_alike true rest
  own_alike true (one_more (both_left {part = The_track}) rest) = own_alike true rest
  own_alike false (one_more (both_left {part = The_track}) rest) = own_alike false rest
  own_alike true (one_more (both_left {part = The_task}) rest) = own_alike false rest
  own_alike false (one_more (both_left {part = The_task}) rest) = own_alike false rest

-- ---- the function of a component

pub functions_stand : {t : Ties} {x y : Shown} → Shown_as t.sites x y → Stands t (function_of x) (function_of y)
functions_stand an_element = undefined
functions_stand a_fragment = undefined
functions_stand a_slot = undefined
functions_stand {t} (a_component {site = site} h c _) = closure h (λ name k. sym (ap (is_listed name) c)) (λ name k. sym (ap (is_listed name) c)) (subst (λ ns. All_stand t (packed (picked ns end)) (packed (picked ns end))) (sym c) none_stand)
functions_stand {t} (a_symbol {site = site} h c) = by_symbol h (λ name k. sym (ap (is_listed name) c)) (subst (λ ns. All_stand t (packed (picked ns end)) none) (sym c) none_stand)
functions_stand (own_symbol h c) = lifted h (sym (ap length c)) none_stand

-- ---- executions

pub record Executions_stand (t : Ties) (b : Start) (e f : Execution) : Type 0 where
  pub view : Stands t e.view f.view
  pub hooks : Pairwise (Hooks_stand t b) e.hooks f.hooks
  pub reads : Locs_alike t (locs_of e.reads) (locs_of f.reads)

fields_there_of : {t : Ties} {o o' : Object} → Object_stands t o o' → Fields_stand t (fields_of o) (fields_of o')
fields_there_of (plain h) = end_stands
fields_there_of (array h) = end_stands
fields_there_of (signal h) = end_stands
fields_there_of (computed h) = end_stands
fields_there_of (props h) = h

props_become_alike : {t : Ties} (alike alike' : Value → Value → Bool) → Sames_agree t alike alike' → {given given' : Fields} {o o' : Object} → Object_stands t o o' → Fields_stand t given given' → Becomings_stand t (props_become alike given o) (props_become alike' given' o')
props_become_alike alike alike' sames (props h) g = both_become (props (after_stand alike alike' sames h g))
props_become_alike alike alike' sames (plain h) g = both_become (plain h)
props_become_alike alike alike' sames (array h) g = both_become (array h)
props_become_alike alike alike' sames (signal h) g = both_become (signal h)
props_become_alike alike alike' sames (computed h) g = both_become (computed h)

-- values that were given, and what was read for them
pub record Read_stand (t : Ties) (x : Value × List Read) (y : Value × List Read) : Type 0 where
  pub given : Stands t x.0 y.0
  pub reads : Pairwise (Loc_stands t) (locs_of x.1) (locs_of y.1)

-- what else is asked
pub record Asks_more (t : Ties) (b : Start) (K : Relation) : Type 0 where
  pub made_hooks_now : {r : Reach} → K r (List Hook) (List Hook) (Pairwise (Hooks_stand t b)) (asked (λ s. made_hooks s.hooking)) (asked (λ s. made_hooks s.hooking))

module _ {t : Ties} (apart : Apart t) {b : Start} {K : Relation} (laws : Laws t b K) (more : Asks_more t b K) (P Q : Program) (computed : Computed_reading) (levels : ℕ)
    (E : Enterings_stand t K (entering P computed levels) (entering Q computed levels)) (sames : Sames_agree t (same (captures_in P)) (same (captures_in Q))) where
  open laws use {gives, bind, heaps, hooks, replaces, logs}
  open more use {made_hooks_now}

  reads_lem : {r : Reach} {m m' : Doing Running Value} → K r Value Value (Stands t) m m' → K r _ _ (Read_stand t) (read_in m) (read_in m')
  reads_lem p = bind (S.tells_apart laws p) (λ run run' h. gives (record { given = h.given; reads = own_alike false h.happened }))

  finished_lem : {r : Reach} {run run' : Value × List Read} → Read_stand t run run' → K r _ _ (Executions_stand t b) (finished run) (finished run')
  finished_lem h = bind (S.unless_same laws (child_faults h.given)) (λ x y d. bind made_hooks_now (λ hs hs' k. bind (hooks (λ x. Outside) (λ x. Outside) (λ x y k. both_outside)) (λ x y d.
      gives (record { view = h.given; hooks = k; reads = locations_alike apart h.reads }))))

  pub execution_lem : {r : Reach} {old old' : Hooking} {x y : Shown} {p q : ℕ} → Hookings_stand t b old old' → Shown_as t.sites x y → Paired t.pairing p q → K r _ _ (Executions_stand t b) (execution P computed levels old x p) (execution Q computed levels old' y q)
  execution_lem {old = old} {old' = old'} o s p =
      bind (hooks (λ h. old) (λ h. old') (λ x y k. o)) (λ x y d. bind (reads_lem (E.enters Pure no_more (functions_stand s) (one_more (ref p) no_more))) (λ run run' h. finished_lem h))

  becomes_lem : {r : Reach} {x y : ℕ} {given given' : Fields} {old old' : Object} {o o' : Becoming} → Paired t.pairing x y → Fields_stand t given given' → Object_stands t old old' → Becomings_stand t o o' →
      K r _ _ Done (becomes_so x (λ old new. props_log (same (captures_in P)) x (fields_of old) given) old o) (becomes_so y (λ old new. props_log (same (captures_in Q)) y (fields_of old) given') old' o')
  becomes_lem p g h (both_become k) = bind (replaces p k) (λ x y d. logs (log_stands _ _ sames p (fields_there_of h) g))
  becomes_lem p g h both_stay = S.faults laws _

  pub props_set_lem : {r : Reach} {x y : ℕ} {given given' : Fields} → Paired t.pairing x y → Fields_stand t given given' → K r _ _ Done (props_set P computed levels x given) (props_set Q computed levels y given')
  props_set_lem {x = x} {y = y} p g = bind heaps (λ h h' hs. becomes_lem p g (hs.there x y p) (props_become_alike _ _ sames (hs.there x y p) g))
