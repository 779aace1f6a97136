-- Over the same files an application is refused by one fault of its own.
use Rattle.std.specs.Prelude.{◌≡◌, ◌⊎◌, refl, ℕ, ◌≤◌, true, false, List, [], ◌∷◌, ◌++◌, map, length, All, Some, Result, Ok, Err}
use Rattle.std.proofs.Common.{ap, sym, subst, ◌∙◌, inl, inr}
use Rattle.std.proofs.lemmas.Bool.{false≢true}
use Rattle.std.proofs.lemmas.List.Elements.{All-head}
use Rattle.qk_ast.specs.declared.Form.TheVariants.{Source}
use Rattle.qk_ast.specs.Texts.{Text}
use Rattle.qk_ast.specs.Sources.{source_module, is_module_source}
use Rattle.qk_store.specs.Files.{Files}
use Rattle.qk_store.specs.Answers.{Content, gone, too_long, bytes, reading, Answer}
use Rattle.qk_parse.specs.declared.parse.ParseFault.{ParseFault}
use Rattle.qk_parse.specs.declared.parse.ParseFault.TheVariants as parse
use Rattle.qk_parse.proofs.Parses.{derived_utf8}
use Rattle.qk_modules.specs.declared.modules.NamedModule.{NamedModule}
use Rattle.qk_modules.specs.declared.modules.Modules.{Modules}
use Rattle.qk_modules.specs.declared.fault.GatherFault.{GatherFault}
use Rattle.qk_modules.specs.declared.fault.GatherFault.TheVariants.{ExportMissing, Parse}
use Rattle.qk_modules.specs.Places.{place_of, beginning}
use Rattle.qk_modules.specs.Gathering.{file_of, source_of, Read_module, named, IsWhole, IsNext, read_as, read_of, IsTold, first_missing, absence, RefusedText, not_utf8, unparsed, too_many, want, RefusedTurn, no_source, no_file, long, text, failed, want_behind, Ends, all, unexported, refused}
use Rattle.qk_modules.specs.Laws.{OneFault, IsFailure}
use Rattle.qk_modules.proofs.Alike.{IsRead, last_told, Standing, same, first_on, second_on}
use Rattle.qk_modules.proofs.Excluded.{whole_not_next, derived_none, turn_fails, fewer, source_is_one, stand_over}
use Rattle.qk_modules.proofs.OneParseFault.{one_parse_fault}

-- ---- one refusal of a text

text_one : (before : ℕ) (name t : Text) (f g : GatherFault) → ¬ IsFailure f → ¬ IsFailure g → RefusedText before name t f → RefusedText before name t g → f ≡ g
text_one before name t f g n m (not_utf8 a) (not_utf8 b) = refl
text_one before name t f g n m (not_utf8 a) (unparsed utf8 why none known) = absurd (a utf8)
text_one before name t f g n m (not_utf8 a) (too_many {m = tree} many d) = absurd (a (derived_utf8 Source t tree d))
text_one before name t f g n m (unparsed utf8 why none known) (not_utf8 b) = absurd (b utf8)
text_one before name t f g n m (unparsed {fault = x} utf8 why none known) (unparsed {fault = y} utf8' why' none' known') =
    ap (λ (z : ParseFault). Parse name z (place_of t z)) (one_parse_fault Source t x y known known' why why')
text_one before name t f g n m (unparsed {fault = x} utf8 why none known) (too_many {m = tree} many d) = absurd (derived_none t tree x known none d)
text_one before name t f g n m (too_many {m = tree} many d) (not_utf8 b) = absurd (b (derived_utf8 Source t tree d))
text_one before name t f g n m (too_many {m = tree} many d) (unparsed {fault = y} utf8 why none known) = absurd (derived_none t tree y known none d)
text_one before name t f g n m (too_many many d) (too_many many' d') = refl
text_one before name t f g n m want other = absurd (n (inr refl))
text_one before name t f g n m one want = absurd (m (inr refl))

-- ---- one refusal at a turn

-- the refusal of a module by what its file holds
abbrev ByContent : List NamedModule → (source : Text) → Content → GatherFault → Type 0
ByContent modules source gone fault = fault ≡ absence modules source
ByContent modules source too_long fault = fault ≡ Parse (source_module source) parse.TooLong beginning
ByContent modules source (bytes t) fault = RefusedText (length modules) (source_module source) t fault

content_one : (modules : List NamedModule) (source : Text) (found : Content) (f g : GatherFault) → ¬ IsFailure f → ¬ IsFailure g → ByContent modules source found f → ByContent modules source found g → f ≡ g
content_one modules source gone f g n m h k = h ∙ sym k
content_one modules source too_long f g n m h k = h ∙ sym k
content_one modules source (bytes t) f g n m h k = text_one (length modules) (source_module source) t f g n m h k

module _ (files : Files) (modules : List NamedModule) (source : Text) where
  abbrev its_file : Content
  its_file = reading (files (file_of (source_module source))) 1048576

  -- the refusal is decided by the source, and by its file
  abbrev Decided : GatherFault → Type 0
  Decided fault = ((is_module_source source ≡ false) × (fault ≡ absence modules source)) ⊎ ((is_module_source source ≡ true) × ByContent modules source its_file fault)

  found_there : (found : Content) (fault : GatherFault) → All (IsTold files) (read_as (source_module source) found ∷ []) → ByContent modules source found fault → ByContent modules source its_file fault
  found_there found fault told h = subst (λ c. ByContent modules source c fault) (All-head (IsTold files) (read_as (source_module source) found) [] told) h

  decided : (last : List Answer) (fault : GatherFault) → RefusedTurn modules source last fault → ¬ IsFailure fault → All (IsTold files) last → Decided fault
  decided last fault (no_source none) n told = inl (none, refl)
  decided last fault (no_file good) n told = inr (good, found_there gone (absence modules source) told refl)
  decided last fault (long good) n told = inr (good, found_there too_long (Parse (source_module source) parse.TooLong beginning) told refl)
  decided last fault (text {t = t} {fault = f} good why) n told = inr (good, found_there (bytes t) f told why)
  decided last fault failed n told = absurd (n (inl refl))
  decided last fault want n told = absurd (n (inr refl))
  decided last fault (want_behind found good) n told = absurd (n (inr refl))

  decided_one : (f g : GatherFault) → ¬ IsFailure f → ¬ IsFailure g → Decided f → Decided g → f ≡ g
  decided_one f g n m (inl h) (inl k) = h.1 ∙ sym k.1
  decided_one f g n m (inl h) (inr k) = absurd (false≢true (sym h.0 ∙ k.0))
  decided_one f g n m (inr h) (inl k) = absurd (false≢true (sym k.0 ∙ h.0))
  decided_one f g n m (inr h) (inr k) = content_one modules source its_file f g n m h.1 k.1

  turn_one : (last last' : List Answer) (f g : GatherFault) → ¬ IsFailure f → ¬ IsFailure g → RefusedTurn modules source last f → RefusedTurn modules source last' g → All (IsTold files) last → All (IsTold files) last' → f ≡ g
  turn_one last last' f g n m h k told told' = decided_one f g n m (decided last f h n told) (decided last' g k m told')

-- ---- one end

-- an imported name isn't exported, or a turn is refused
abbrev Unexported : List Read_module → GatherFault → Type 0
Unexported read fault = (p : Text × Text) × IsWhole read × (first_missing (map named read) ≡ Some p) × (fault ≡ ExportMissing p.0 p.1)

abbrev AtTurn : List Read_module → List Answer → GatherFault → Type 0
AtTurn read last fault = (source : Text) × IsNext read source × RefusedTurn (map named read) source last fault

abbrev Refusal : List Read_module → List Answer → Result Modules GatherFault → Type 0
Refusal read last (Ok a) = Unit {0}
Refusal read last (Err fault) = ¬ IsFailure fault → Unexported read fault ⊎ AtTurn read last fault

refusal : (read : List Read_module) (last : List Answer) (result : Result Modules GatherFault) → Ends read last result → Refusal read last result
refusal read last result (all whole exported) = tt
refusal read last result (unexported {m = m} {name = name} whole missing) = λ n. inl ((m, name), whole, missing, refl)
refusal read last result (refused {source = source} next why) = λ n. inr (source, next, why)
refusal read last result want = λ n. absurd (n (inr refl))

same_pair : (p q : Text × Text) → Some p ≡ Some q → p ≡ q
same_pair p q h = cc

module _ (files : Files) (f g : GatherFault) (n : ¬ IsFailure f) (m : ¬ IsFailure g) where
  -- behind the same modules
  same_one : (a : List Read_module) (last last' : List Answer) → Unexported a f ⊎ AtTurn a last f → Unexported a g ⊎ AtTurn a last' g → All (IsTold files) last → All (IsTold files) last' → f ≡ g
  same_one a last last' (inl h) (inl k) told told' =
      h.3 ∙ ap (λ (p : Text × Text). ExportMissing p.0 p.1) (same_pair h.0 k.0 (sym h.2 ∙ k.2)) ∙ sym k.3
  same_one a last last' (inl h) (inr k) told told' = absurd (whole_not_next a k.0 h.1 k.1)
  same_one a last last' (inr h) (inl k) told told' = absurd (whole_not_next a h.0 k.1 h.1)
  same_one a last last' (inr h) (inr k) told told' =
      let e : k.0 ≡ h.0 = source_is_one k.0 h.0 (sym k.1 ∙ h.1) in
      turn_one files (map named a) h.0 last last' f g n m h.2 (subst (λ (s : Text). RefusedTurn (map named a) s last' g) e k.2) told told'

-- one that was read on from isn't refused
not_refused : (files : Files) (fault : GatherFault) → ¬ IsFailure fault → (a b more : List Read_module) (m : Read_module) (last : List Answer) → a ≡ b ++ m ∷ more → length a ≤ 256 → IsNext b (source_of m.name) → IsRead files m
    → Unexported b fault ⊎ AtTurn b last fault → All (IsTold files) last → ⊥
not_refused files fault n a b more m last e few next read (inl h) told = whole_not_next b (source_of m.name) h.1 next
not_refused files fault n a b more m last e few next read (inr h) told =
    n (turn_fails files m read h.0 (source_is_one h.0 (source_of m.name) (sym h.1 ∙ next)) (map named b) last fault (fewer a b more m e few) h.2 told)

module _ (files : Files) (f g : GatherFault) (n : ¬ IsFailure f) (m : ¬ IsFailure g) (a b : List Read_module) (few_a : length a ≤ 256) (few_b : length b ≤ 256) where
  ends_one : (last last' : List Answer) → Standing files [] a b → Unexported a f ⊎ AtTurn a last f → Unexported b g ⊎ AtTurn b last' g → All (IsTold files) last → All (IsTold files) last' → f ≡ g
  ends_one last last' (same e) h k told told' =
      same_one files f g n m b last last' (subst (λ l. Unexported l f ⊎ AtTurn l last f) e h) k told told'
  ends_one last last' (first_on {m = x} more e next read) h k told told' = absurd (not_refused files g m a b more x last' e few_a next read k told')
  ends_one last last' (second_on {m = x} more e next read) h k told told' = absurd (not_refused files f n b a more x last e few_b next read h told)

pub one_fault : OneFault
one_fault files f g p q n m =
    let stand = stand_over files (Err f) (Err g) p q in
    let few_p = p.front.few in
    let few_q = q.front.few in
    ends_one files f g n m p.read q.read few_p few_q p.last q.last stand
    (refusal p.read p.last (Err f) p.ends n) (refusal q.read q.last (Err g) q.ends m)
    (last_told files (map read_of p.read) p.last p.told) (last_told files (map read_of q.read) q.last q.told)
