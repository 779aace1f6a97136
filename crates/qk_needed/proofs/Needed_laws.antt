-- What keeps the laws of code and sessions keeps the needed manner too: computeds that are called only where they must be, and passes that keep instances.
use Rattle.std.specs.Prelude.{◌≡◌, List, refl, ℕ, Bool, false, Option, Some, None, find}
use Rattle.qk_meaning.specs.Value.{Value}
use Rattle.qk_meaning.specs.World.{Instance}
use Rattle.qk_meaning.specs.Places.{same_path}
use Rattle.qk_meaning.specs.Program.{Program, captures_in}
use Rattle.qk_meaning.specs.Running.{Running, Kept_run, keeps_run}
use Rattle.qk_meaning.specs.World.{Read}
use Rattle.qk_meaning.specs.Doing.{Doing, asked}
use Rattle.qk_meaning.specs.Trace.{read_in}
use Rattle.qk_meaning.specs.Evaluation.{entering}
use Rattle.qk_meaning.specs.Expansion.{Met}
use Rattle.qk_needed.specs.Needed.{kept_of, taken_told, taken_or_called, called_if_needed, kept_or_mounted, keep_or_mount}
use Rattle.qk_meaning.proofs.Running_laws.{Relation, Laws, Hook_laws, Hooking_laws}
use Rattle.qk_meaning.proofs.Meanings.{Enter_alike, Reads_alike, calls_anew}
use Rattle.qk_meaning.proofs.Session_laws as S
use Rattle.qk_meaning.proofs.Session_laws.{Session_relation, Session_laws}

-- what a relation keeps besides the laws of code: what is kept of computeds is looked at and grows alike, and what a run reads is found out
pub record Kept_laws (K : Relation) : Type 1 where
  pub asks_kept : (a : ℕ) → K (Option Kept_run) (asked (kept_of a)) (asked (kept_of a))
  pub keeps : (k : Kept_run) → K (Unit {0}) (keeps_run k) (keeps_run k)
  pub finds : {m m' : Doing Running Value} → K Value m m' → K (Value × List Read) (read_in m) (read_in m')

-- a computed whose value is kept is read alike too
pub calls_if_needed : (K : Relation) → Laws K → Hook_laws K → Kept_laws K → Reads_alike K called_if_needed
calls_if_needed K laws hook_laws kept_laws enter enter' E under_way a f = laws.bind (kept_laws.asks_kept a) (λ kept. go kept)
  where
    go : (o : Option Kept_run) → K Value (taken_or_called enter under_way a f o) (taken_or_called enter' under_way a f o)
    go None =
        laws.bind (kept_laws.finds (calls_anew K hook_laws enter enter' E under_way a f)) (λ run.
        laws.bind (kept_laws.keeps (record { of = a; value = run.0; reads = run.1 })) (λ u. laws.gives run.0))
    go (Some k) = laws.bind (laws.tells (taken_told a k) (λ s t h r k. refl) (λ s. refl)) (λ u. laws.gives k.value)

module _ (R : Relation) (laws : Laws R) (hooking_laws : Hooking_laws R) (K : Session_relation) (session_laws : Session_laws R K)
    (keeps : Instance → Running → Bool) (ignores : (i : Instance) (s : Running) (t : ℕ) → keeps i (record s { turns = t }) ≡ keeps i s)
    (program : Program) (of_program : laws.names ≡ captures_in program) (levels levels' : ℕ) (E : Enter_alike R (entering program called_if_needed levels) (entering program called_if_needed levels')) where
  open session_laws use {bind, asks, runs_so}

  kept_alike : (o : Option Instance) (met : Met) → K Value (kept_or_mounted keeps program levels o met) (kept_or_mounted keeps program levels' o met)
  kept_alike (Some i) met =
      bind (runs_so (S.sets_props R laws hooking_laws K session_laws program of_program called_if_needed levels levels' E i.props met.fields)) (λ u. bind (asks (λ w. keeps i w.running) (λ w t. ignores i w.running t)) (λ kept.
      S.choose R laws hooking_laws K session_laws kept (S.stand R laws hooking_laws K session_laws false i) (S.runs_again R laws hooking_laws K session_laws program of_program called_if_needed levels levels' E i met)))
  kept_alike None met = S.mounts R laws hooking_laws K session_laws program of_program called_if_needed levels levels' E met

  -- and so is what is met in a pass
  pub visits : (met : Met) → K Value (keep_or_mount keeps program levels met) (keep_or_mount keeps program levels' met)
  visits met = bind (asks (λ w. w.instances) (λ w t. refl)) (λ before. kept_alike (find (λ i. same_path i.path met.path) before) met)
