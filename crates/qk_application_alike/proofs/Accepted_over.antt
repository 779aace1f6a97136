-- The modules of an application that is accepted over files are accepted.
use Rattle.std.specs.Prelude.{◌≡◌, refl, ℕ, zero, suc, ◌<◌, Bool, true, false, List, [], ◌∷◌, map, All, IsTrue, slice_index_or, Result, Ok, Err}
use Rattle.std.proofs.Common.{sym, ◌∙◌, ap, subst, arith}
use Rattle.qk_ast.specs.Framework.{is_module_name}
use Rattle.qk_ast.specs.Sources.{Named_module}
use Rattle.qk_ast.specs.Application.{Breach, application_breaches}
use Rattle.qk_store.specs.Answers.{Answer}
use Rattle.qk_store.specs.Files.{Files}
use Rattle.qk_modules.specs.declared.modules.Modules.{Modules}
use Rattle.qk_modules.specs.declared.fault.GatherFault.{GatherFault}
use Rattle.qk_modules.specs.Gathering.{Read_module, named, IsFront, Ends, all, unexported, refused, want, GathersOver}
use Rattle.qk_application.specs.declared.application.Application.{Application}
use Rattle.qk_application.specs.declared.fault.ApplicationFault.{ApplicationFault}
use Rattle.qk_application.specs.Accepting.{named_module, breaches_of, application_of, Judges, kept, misnamed, misplaced, want as unjudged, Decides, AcceptsOver}
use Rattle.qk_meaning.specs.Setting.{called_anew}
use Rattle.qk_alike.proofs.Agree.{called_anew_alike}
use Rattle.qk_alike.proofs.Sames.{not_both}
use Rattle.qk_source_alike.specs.Accepted.{Derived, Accepted}
use Rattle.qk_source_alike.proofs.Accepted_rules.{accepted_agree, accepted_apps_stand, accepted_events_agree, accepted_runs_agree, accepted_scripts_agree}
use Rattle.qk_application_alike.specs.Laws.{modules_of, ties_of, ApplicationsAgree, ApplicationEventsAgree, ApplicationRunsAgree, ApplicationScriptsAgree}

mapped_all : {X Y : Type 0} (f : X → Y) (P : Y → Type 0) (xs : List X) → All (λ x. P (f x)) xs → All P (map f xs)
mapped_all f P [] h k d l = absurd (nothing k l)
  where
    nothing : (n : ℕ) → n < 0 → ⊥
    nothing n l = omega (arith, l)
mapped_all f P (x ∷ xs) h zero d l = h 0 x (omega arith)
mapped_all f P (x ∷ xs) h (suc k) d l = mapped_all f P xs (λ n e m. h (suc n) e (omega (arith, m))) k d (omega (arith, l))

read_accepted : (read : List Read_module) → IsFront read → application_breaches (map named_module (map named read)) ≡ [] → Accepted (map named_module (map named read))
read_accepted read front e = record {
  names = mapped_all named_module (λ m. IsTrue (is_module_name m.0)) (map named read) (mapped_all named (λ m. IsTrue (is_module_name m.name)) read front.names);
  derived = mapped_all named_module (λ m. Derived m.1) (map named read) (mapped_all named (λ m. Derived m.module) read (λ k d l. record { bytes = (slice_index_or read k d).text; derives = front.derived k d l }));
  kept = e;
}

abbrev is_ok : {T E : Type 0} → Result T E → Bool
is_ok (Ok x) = true
is_ok (Err e) = false

abbrev list_in : Result Modules GatherFault → List Named_module
list_in (Ok modules) = map named_module modules.list
list_in (Err fault) = []

abbrev modules_in : Result Application ApplicationFault → List Named_module
modules_in (Ok a) = modules_of a
modules_in (Err fault) = []

not_ok : {T E C : Type 0} (r : Result T E) {x : T} → is_ok r ≡ false → r ≡ Ok x → C
not_ok r f e = absurd (not_both (sym (ap is_ok e) ∙ f))

ended : (read : List Read_module) (last : List Answer) (result : Result Modules GatherFault) → Ends read last result → IsFront read → (gathered : Modules) → result ≡ Ok gathered → breaches_of gathered ≡ [] → Accepted (map named_module gathered.list)
ended read _ _ (all whole none) front gathered p e = subst Accepted (ap list_in p) (read_accepted read front (subst (λ l. application_breaches l ≡ []) (sym (ap list_in p)) e))
ended read _ _ (unexported {m = m} {name = name} whole some) front gathered p e = not_ok _ refl p
ended read last _ (refused {fault = fault} next turn) front gathered p e = not_ok _ refl p
ended read _ _ want front gathered p e = not_ok _ refl p

judged : (breaches : List Breach) (value : Application) (result : Result Application ApplicationFault) → Judges breaches value result → (a : Application) → result ≡ Ok a → (breaches ≡ []) × (modules_of value ≡ modules_of a)
judged breaches value _ (kept e) a p = (e, ap modules_in p)
judged breaches value _ (misnamed e) a p = not_ok _ refl p
judged breaches value _ (misplaced e) a p = not_ok _ refl p
judged breaches value _ unjudged a p = not_ok _ refl p

pub accepted_over : (files : Files) (a : Application) → AcceptsOver files (Ok a) → Accepted (modules_of a)
accepted_over files a h = go h.gathered h.gathers h.decides
  where
    go : (gathered : Result Modules GatherFault) → GathersOver files gathered → Decides gathered (Ok a) → Accepted (modules_of a)
    go (Ok modules) g d = let j = judged (breaches_of modules) (application_of modules) (Ok a) d a refl in subst Accepted j.1 (ended g.read g.last (Ok modules) g.ends g.front modules refl j.0)
    go (Err fault) g d = absurd (not_both (ap is_ok d))

pub applications_agree : ApplicationsAgree
applications_agree files a h pairing one b =
    (accepted_agree (modules_of a) (accepted_over files a h) pairing one b called_anew (called_anew_alike (ties_of a pairing) b), accepted_apps_stand (modules_of a) (accepted_over files a h) pairing)

pub application_scripts_agree : ApplicationScriptsAgree
application_scripts_agree files a h = accepted_scripts_agree (modules_of a) (accepted_over files a h)

pub application_events_agree : ApplicationEventsAgree
application_events_agree files a h = accepted_events_agree (modules_of a) (accepted_over files a h)

pub application_runs_agree : ApplicationRunsAgree
application_runs_agree files a h = accepted_runs_agree (modules_of a) (accepted_over files a h)
