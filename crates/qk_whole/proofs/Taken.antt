-- An application that was accepted is taken.
use Rattle.std.specs.Prelude.{◌≡◌, refl, zero, suc, Bool, true, false, ◌||◌, List, [], ◌∷◌, ◌++◌, map, All, Contains, IsTrue, Option, Result, Ok, Err}
use Rattle.std.proofs.Common.{sym, ◌∙◌, ap, subst, arith}
use Rattle.std.proofs.lemmas.Bool.{false≢true}
use Rattle.std.proofs.lemmas.List.Elements.{All-cons, All-nil, All-head, All-tail, All-map, All-weaker}
use Rattle.std.proofs.lemmas.Slice.Eq.{bytes_eq-Decides}
use Rattle.qk_ast.specs.declared.Form.TheVariants.{Source}
use Rattle.qk_ast.specs.declared.Import.{Import}
use Rattle.qk_ast.specs.Application.{Breach}
use Rattle.qk_ast.specs.Derives.{Derives}
use Rattle.qk_ast.specs.Framework.{framework, is_module_name}
use Rattle.qk_ast.specs.Names.{is_listed, each_once}
use Rattle.qk_ast.specs.Sources.{Named_module, is_module_source}
use Rattle.qk_ast.specs.Texts.{Text, same_text}
use Rattle.qk_store.specs.Answers.{Answer}
use Rattle.qk_store.specs.Files.{Files}
use Rattle.qk_modules.specs.declared.fault.GatherFault.{GatherFault}
use Rattle.qk_modules.specs.declared.modules.Modules.{Modules}
use Rattle.qk_modules.specs.declared.modules.NamedModule.{NamedModule}
use Rattle.qk_modules.specs.Gathering.{Read_module, named as named_by_read, sources_in, all_sources, source_of, root, IsWhole, IsFront, Ends, all, unexported, refused, want, Gathers}
use Rattle.qk_modules.proofs.Sourcing.{is_source_of}
use Rattle.qk_application.specs.declared.application.Application.{Application}
use Rattle.qk_application.specs.declared.fault.ApplicationFault.{ApplicationFault}
use Rattle.qk_application.specs.Accepting.{named_module, breaches_of, application_of, Judges, kept, misnamed, misplaced, want as unjudged, Decides, Accepts}
use Rattle.qk_source_alike.specs.Accepted.{Derived}
use Rattle.qk_source_alike.proofs.Membership.{nothing_in, first_in, later_in}
use Rattle.qk_whole.specs.Taking.{IsSource, IsAccepted}

all_from : {A : Type 0} (P : A → Type 0) (xs : List A) → ((x : A) → Contains xs x → P x) → All P xs
all_from P [] h = All-nil P
all_from P (x ∷ xs) h = All-cons P x xs (h x (first_in x xs)) (all_from P xs (λ y c. h y (later_in x xs y c)))

-- ---- sources

listed_front : (t : Text) (xs ys : List Text) → is_listed t xs ≡ true → is_listed t (xs ++ ys) ≡ true
listed_front t [] ys h = absurd (false≢true h)
listed_front t (x ∷ xs) ys h = go (same_text x t) (listed_front t xs ys) h
  where
    go : (b : Bool) → (is_listed t xs ≡ true → is_listed t (xs ++ ys) ≡ true) → elim b as (λ y. Bool) [ true ↦ true | false ↦ is_listed t xs ] ≡ true → elim b as (λ y. Bool) [ true ↦ true | false ↦ is_listed t (xs ++ ys) ] ≡ true
    go true k e = refl
    go false k e = k e

listed_behind : (t : Text) (xs ys : List Text) → is_listed t ys ≡ true → is_listed t (xs ++ ys) ≡ true
listed_behind t [] ys h = h
listed_behind t (x ∷ xs) ys h = go (same_text x t) (listed_behind t xs ys h)
  where
    go : (b : Bool) → is_listed t (xs ++ ys) ≡ true → elim b as (λ y. Bool) [ true ↦ true | false ↦ is_listed t (xs ++ ys) ] ≡ true
    go true k = refl
    go false k = k

itself_listed : (t : Text) (xs : List Text) → is_listed t (t ∷ xs) ≡ true
itself_listed t xs = ap (λ b. elim b as (λ y. Bool) [ true ↦ true | false ↦ is_listed t xs ]) ((bytes_eq-Decides t t).1 refl)

abbrev behind : Bool → Text → List Text → List Text
behind b x xs = elim b [ true ↦ xs | false ↦ x ∷ xs ]

in_sources : (imports : List Import) (i : Import) → Contains imports i → same_text i.from framework ≡ false → is_listed i.from (sources_in imports) ≡ true
in_sources [] i c h = nothing_in i c
in_sources (j ∷ imports) i (zero, l, e) h = subst (λ (x : Import). is_listed i.from (behind (same_text x.from framework) x.from (sources_in imports)) ≡ true) (sym e)
    (ap (λ b. is_listed i.from (behind b i.from (sources_in imports))) h ∙ itself_listed i.from (sources_in imports))
in_sources (j ∷ imports) i (suc n, l, e) h = go (same_text j.from framework) (in_sources imports i (n, omega (arith, l), e) h)
  where
    go : (b : Bool) → is_listed i.from (sources_in imports) ≡ true → is_listed i.from (behind b j.from (sources_in imports)) ≡ true
    go true k = k
    go false k = listed_behind i.from (j.from ∷ []) (sources_in imports) k

in_all : (ms : List NamedModule) (m : NamedModule) (t : Text) → Contains ms m → is_listed t (sources_in m.module.imports) ≡ true → is_listed t (all_sources ms) ≡ true
in_all [] m t c h = nothing_in m c
in_all (n ∷ ms) m t (zero, l, e) h = listed_front t (sources_in n.module.imports) (all_sources ms) (ap (λ (x : NamedModule). is_listed t (sources_in x.module.imports)) e ∙ h)
in_all (n ∷ ms) m t (suc k, l, e) h = listed_behind t (sources_in n.module.imports) (all_sources ms) (in_all ms m t (k, omega (arith, l), e) h)

-- what is listed stays listed once
once : (t : Text) (xs seen : List Text) → is_listed t seen ≡ false → is_listed t xs ≡ true → is_listed t (each_once seen xs) ≡ true
once t [] seen h k = absurd (false≢true k)
once t (x ∷ xs) seen h k = go (same_text x t) refl (is_listed x seen) refl k (once t xs seen h) (λ c. once t xs (x ∷ seen) (ap (λ b. elim b as (λ y. Bool) [ true ↦ true | false ↦ is_listed t seen ]) c ∙ h))
  where
    go : (c : Bool) → same_text x t ≡ c → (b : Bool) → is_listed x seen ≡ b → elim c as (λ y. Bool) [ true ↦ true | false ↦ is_listed t xs ] ≡ true
        → (is_listed t xs ≡ true → is_listed t (each_once seen xs) ≡ true) → (same_text x t ≡ false → is_listed t xs ≡ true → is_listed t (each_once (x ∷ seen) xs) ≡ true)
        → is_listed t (elim b as (λ y. List Text) [ true ↦ each_once seen xs | false ↦ x ∷ each_once (x ∷ seen) xs ]) ≡ true
    go true p true q k f g = absurd (false≢true (sym h ∙ ap (λ n. is_listed n seen) (sym ((bytes_eq-Decides x t).0 p)) ∙ q))
    go true p false q k f g = ap (λ c. elim c as (λ y. Bool) [ true ↦ true | false ↦ is_listed t (each_once (x ∷ seen) xs) ]) p
    go false p true q k f g = f k
    go false p false q k f g = ap (λ c. elim c as (λ y. Bool) [ true ↦ true | false ↦ is_listed t (each_once (x ∷ seen) xs) ]) p ∙ g p k

-- a source that is listed is that of a module
listed_good : (read : List Read_module) → All (λ m. IsTrue (is_module_name m.name)) read → (t : Text) → is_listed t (map (λ m. source_of m.name) read) ≡ true → is_module_source t ≡ true
listed_good [] names t h = absurd (false≢true h)
listed_good (m ∷ read) names t h = go (same_text (source_of m.name) t) refl (listed_good read (All-tail (λ m. IsTrue (is_module_name m.name)) m read names) t) h
  where
    go : (b : Bool) → same_text (source_of m.name) t ≡ b → (is_listed t (map (λ m. source_of m.name) read) ≡ true → is_module_source t ≡ true)
        → elim b as (λ y. Bool) [ true ↦ true | false ↦ is_listed t (map (λ m. source_of m.name) read) ] ≡ true → is_module_source t ≡ true
    go true e k h = ap is_module_source (sym ((bytes_eq-Decides (source_of m.name) t).0 e)) ∙ is_source_of m.name (All-head (λ m. IsTrue (is_module_name m.name)) m read names)
    go false e k h = k h

or_true : (b c : Bool) → (b ≡ false → c ≡ true) → (b || c) ≡ true
or_true true c h = refl
or_true false c h = h refl

module _ (read : List Read_module) (front : IsFront read) (whole : IsWhole read) where
  abbrev ms : List NamedModule
  ms = map named_by_read read

  source_good : (m : NamedModule) → Contains (map named_by_read read) m → (i : Import) → Contains m.module.imports i → IsSource i.from
  source_good m c i d = or_true (same_text i.from framework) (is_module_source i.from) (λ e. listed_good read front.names i.from
      (ap (is_listed i.from) whole ∙ once i.from (source_of root ∷ all_sources (map named_by_read read)) [] refl (listed_behind i.from (source_of root ∷ []) (all_sources (map named_by_read read)) (in_all (map named_by_read read) m i.from c (in_sources m.module.imports i d e)))))

  sources : All (λ m. All (λ i. IsSource i.from) m.module.imports) (map named_by_read read)
  sources = all_from (λ (m : NamedModule). All (λ i. IsSource i.from) m.module.imports) (map named_by_read read) (λ m c. all_from (λ (i : Import). IsSource i.from) m.module.imports (source_good m c))

  derived : (m : Read_module) → Derives Source m.text m.tree → Derived m.tree
  derived m d = record { bytes = m.text; derives = d }

  pub read_taken : breaches_of (record { list = map named_by_read read }) ≡ [] → IsAccepted (application_of (record { list = map named_by_read read }))
  read_taken e = record {
    modules = record {
      names = All-map (λ (x : Named_module). IsTrue (is_module_name x.0)) named_module (map named_by_read read) (All-map (λ (x : NamedModule). IsTrue (is_module_name x.name)) named_by_read read front.names);
      derived = All-map (λ (x : Named_module). Derived x.1) named_module (map named_by_read read) (All-map (λ (x : NamedModule). Derived x.module) named_by_read read
          (All-weaker (λ (m : Read_module). Derives Source m.text m.tree) (λ m. Derived m.tree) derived read front.derived));
      kept = e;
    };
    sources = sources;
    names = refl;
  }

-- ---- answers

abbrev is_ok : {T E : Type 0} → Result T E → Bool
is_ok (Ok x) = true
is_ok (Err e) = false

not_ok : {T E C : Type 0} (r : Result T E) {x : T} → is_ok r ≡ false → r ≡ Ok x → C
not_ok r f e = absurd (false≢true (sym f ∙ ap is_ok e))

abbrev or_none : Result Modules GatherFault → Modules
or_none (Ok modules) = modules
or_none (Err fault) = record { list = [] }

abbrev or_nothing : Application → Result Application ApplicationFault → Application
or_nothing a (Ok b) = b
or_nothing a (Err fault) = a

ended : (read : List Read_module) (last : List Answer) (result : Result Modules GatherFault) → Ends read last result → IsFront read → (gathered : Modules) → result ≡ Ok gathered → breaches_of gathered ≡ [] → IsAccepted (application_of gathered)
ended read _ _ (all whole none) front gathered p e = subst (λ m. IsAccepted (application_of m)) (ap or_none p) (read_taken read front whole (ap breaches_of (ap or_none p) ∙ e))
ended read _ _ (unexported {m = m} {name = name} whole some) front gathered p e = not_ok _ refl p
ended read last _ (refused {fault = fault} next turn) front gathered p e = not_ok _ refl p
ended read _ _ want front gathered p e = not_ok _ refl p

judged : (breaches : List Breach) (value : Application) (result : Result Application ApplicationFault) → Judges breaches value result → (a : Application) → result ≡ Ok a → (breaches ≡ []) × (value ≡ a)
judged breaches value _ (kept e) a p = (e, ap (or_nothing value) p)
judged breaches value _ (misnamed e) a p = not_ok _ refl p
judged breaches value _ (misplaced e) a p = not_ok _ refl p
judged breaches value _ unjudged a p = not_ok _ refl p

-- what `accept` gives is taken
pub taken : (files : Option Files) (before after : Option (List Answer)) (a : Application) → Accepts files before after (Ok a) → IsAccepted a
taken files before after a h = go h.gathered h.gathers h.decides
  where
    go : (gathered : Result Modules GatherFault) → Gathers files before after gathered → Decides gathered (Ok a) → IsAccepted a
    go (Ok modules) g d = let j = judged (breaches_of modules) (application_of modules) (Ok a) d a refl in subst IsAccepted j.1 (ended g.read g.last (Ok modules) g.ends g.front modules refl j.0)
    go (Err fault) g d = absurd (false≢true (sym (ap is_ok d)))
