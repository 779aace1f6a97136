-- Over the same files one thing is answered.
use Rattle.std.proofs.Common.{◌≡◌, refl, sym, ap, ◌∙◌, subst, List, [], ◌∷◌, inl, inr}
use Rattle.std.specs.Prelude.{Result, Ok, Err, Option, Some}
use Rattle.qk_ast.specs.Application.{Breach, Of_names, Of_places}
use Rattle.qk_store.specs.Files.{Files}
use Rattle.qk_store.specs.Answers.{Answer}
use Rattle.qk_modules.specs.declared.modules.Modules.{Modules}
use Rattle.qk_modules.specs.declared.fault.GatherFault.{GatherFault}
use Rattle.qk_modules.specs.Gathering.{GathersOver}
use Rattle.qk_modules.specs.Laws as gathering
use Rattle.qk_modules.proofs.Excluded.{one_gathering, gathered_or_refused, gathers_over}
use Rattle.qk_modules.proofs.OneFault.{one_fault}
use Rattle.qk_application.specs.declared.application.Application.{Application}
use Rattle.qk_application.specs.declared.fault.ApplicationFault.{ApplicationFault}
use Rattle.qk_application.specs.declared.fault.ApplicationFault.TheVariants.{Naming, Placing, Memory}
use Rattle.qk_application.specs.Accepting.{Judges, misnamed, misplaced, want, fault_of, breaches_of, application_of, Decides, Accepts, AcceptsOver}
use Rattle.qk_application.specs.Laws.{IsFailure, OneApplication, AcceptedOrRefused, OneRefusal}
use Rattle.qk_application.proofs.Judged.{none_broken}

-- what is accepted was gathered, and is the application of its modules
no_fault : (a : Application) (fault : ApplicationFault) → ◌≡◌ {A = Result Application ApplicationFault} (Ok a) (Err fault) → ⊥
no_fault a fault h = cc

same_fault : (f g : ApplicationFault) → ◌≡◌ {A = Result Application ApplicationFault} (Err f) (Err g) → f ≡ g
same_fault f g h = cc

none_first : (b : Breach) (rest : List Breach) → [] ≡ b ∷ rest → ⊥
none_first b rest h = cc

pub accepted_is : (gathered : Result Modules GatherFault) (a : Application) → Decides gathered (Ok a) → (modules : Modules) × (gathered ≡ Ok modules) × (breaches_of modules ≡ []) × (a ≡ application_of modules)
accepted_is (Ok modules) a h = let is = none_broken a h in (modules, refl, is.0, is.1)
accepted_is (Err fault) a h = absurd (no_fault a (fault_of fault) h)

pub one_application : OneApplication
one_application files a b x y =
    let p = accepted_is x.gathered a x.decides in
    let q = accepted_is y.gathered b y.decides in
    let same = one_gathering files p.0 q.0 (subst (GathersOver files) p.1 x.gathers) (subst (GathersOver files) q.1 y.gathers) in
    p.3 ∙ ap application_of same ∙ sym q.3

-- where nothing is broken memory may run out
only_want : (modules : Modules) (fault : ApplicationFault) → breaches_of modules ≡ [] → Judges (breaches_of modules) (application_of modules) (Err fault) → IsFailure fault
only_want modules fault none (misnamed e) = absurd (none_first _ _ (sym none ∙ e))
only_want modules fault none (misplaced e) = absurd (none_first _ _ (sym none ∙ e))
only_want modules fault none want = inr refl

of_gathering : (fault : ApplicationFault) (why : GatherFault) → fault ≡ fault_of why → gathering.IsFailure why → IsFailure fault
of_gathering fault why e (inl failed) = inl (e ∙ ap fault_of failed)
of_gathering fault why e (inr wanting) = inr (e ∙ ap fault_of wanting)

refused_is : (files : Files) (modules : Modules) (gathered : Result Modules GatherFault) (fault : ApplicationFault) → GathersOver files (Ok modules) → breaches_of modules ≡ [] → GathersOver files gathered → Decides gathered (Err fault) → IsFailure fault
refused_is files modules (Ok others) fault gathers none over h =
    let same = one_gathering files modules others gathers over in
    only_want others fault (subst (λ m. breaches_of m ≡ []) same none) h
refused_is files modules (Err why) fault gathers none over h = of_gathering fault why (same_fault fault (fault_of why) h) (gathered_or_refused files modules why gathers over)

pub accepted_or_refused : AcceptedOrRefused
accepted_or_refused files a fault x y =
    let p = accepted_is x.gathered a x.decides in
    refused_is files p.0 y.gathered fault (subst (GathersOver files) p.1 x.gathers) p.2 y.gathers y.decides

-- ---- one refusal

-- the refusal for the first of these
first_of : List Breach → ApplicationFault
first_of [] = Memory
first_of (Of_names m b ∷ rest) = Naming m b.kind b.name
first_of (Of_places m b ∷ rest) = Placing m b.kind b.name

is_first : {T : Type 0} (breaches : List Breach) (value : T) (fault : ApplicationFault) → Judges breaches value (Err fault) → ¬ IsFailure fault → fault ≡ first_of breaches
unfolding first_of
is_first breaches value fault (misnamed e) own = ap first_of (sym e)
is_first breaches value fault (misplaced e) own = ap first_of (sym e)
is_first breaches value fault want own = absurd (own (inr refl))

-- a fault of gathering is one's own where the application's is
own_gathering : (fault : ApplicationFault) (why : GatherFault) → fault ≡ fault_of why → ¬ IsFailure fault → ¬ gathering.IsFailure why
own_gathering fault why e own failure = own (of_gathering fault why e failure)

by_gathered : (files : Files) (x y : Result Modules GatherFault) (f g : ApplicationFault) → GathersOver files x → GathersOver files y → Decides x (Err f) → Decides y (Err g) → ¬ IsFailure f → ¬ IsFailure g → f ≡ g
by_gathered files (Ok a) (Ok b) f g x y h k own other =
    is_first (breaches_of a) (application_of a) f h own
    ∙ ap (λ m. first_of (breaches_of m)) (one_gathering files a b x y)
    ∙ sym (is_first (breaches_of b) (application_of b) g k other)
by_gathered files (Ok a) (Err why) f g x y h k own other =
    absurd (own_gathering g why (same_fault g (fault_of why) k) other (gathered_or_refused files a why x y))
by_gathered files (Err why) (Ok b) f g x y h k own other =
    absurd (own_gathering f why (same_fault f (fault_of why) h) own (gathered_or_refused files b why y x))
by_gathered files (Err why) (Err again) f g x y h k own other =
    let e = same_fault f (fault_of why) h in
    let d = same_fault g (fault_of again) k in
    e ∙ ap fault_of (one_fault files why again x y (own_gathering f why e own) (own_gathering g again d other)) ∙ sym d

pub one_refusal : OneRefusal
one_refusal files f g x y own other = by_gathered files x.gathered y.gathered f g x.gathers y.gathers x.decides y.decides own other

-- a store that tells its files
pub accepts_over : (files : Files) (before after : Option (List Answer)) (result : Result Application ApplicationFault) → Accepts (Some files) before after result → AcceptsOver files result
accepts_over files before after result h = record { gathered = h.gathered; gathers = gathers_over files before after h.gathered h.gathers; decides = h.decides }
