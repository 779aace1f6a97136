-- The ways in which a gathering over the same files ends exclude one another.
use Rattle.std.specs.Prelude.{◌≡◌, ◌<◌, ◌≤◌, refl, ℕ, ◌+◌, true, false, List, [], ◌∷◌, ◌++◌, map, length, All, Option, Some, None, Result, Ok, Err}
use Rattle.std.specs.Str.{IsUtf8}
use Rattle.std.proofs.Common.{ap, sym, subst, ◌∙◌, arith, inl, inr}
use Rattle.std.proofs.lemmas.Bool.{false≢true}
use Rattle.std.proofs.lemmas.List.{length-map, length-append}
use Rattle.std.proofs.lemmas.List.Elements.{All-head}
use Rattle.std.proofs.lemmas.Option.{slice_get_within}
use Rattle.qk_ast.specs.declared.Form.TheVariants.{Source}
use Rattle.qk_ast.specs.declared.Module.{Module}
use Rattle.qk_ast.specs.Derives.{Derives}
use Rattle.qk_ast.specs.Texts.{Text}
use Rattle.qk_ast.specs.Sources.{source_module, is_module_source}
use Rattle.qk_store.specs.Files.{Files}
use Rattle.qk_store.specs.Answers.{Content, gone, too_long, bytes, reading, Answer}
use Rattle.qk_parse.specs.declared.parse.ParseFault.{ParseFault}
use Rattle.qk_parse.specs.declared.parse.ParseFault.TheVariants as parse
use Rattle.qk_parse.specs.Parsing.{NoneDerived}
use Rattle.qk_modules.specs.declared.modules.NamedModule.{NamedModule}
use Rattle.qk_modules.specs.declared.modules.Modules.{Modules}
use Rattle.qk_modules.specs.declared.fault.GatherFault.{GatherFault}
use Rattle.qk_modules.specs.Gathering.{file_of, source_of, listed, Read_module, named, IsWhole, IsNext, read_as, read_of, IsTold, first_missing, RefusedText, not_utf8, unparsed, too_many, want, RefusedTurn, no_source, no_file, long, text, failed, want_behind, Ends, all, unexported, refused, Gathers, GathersOver}
use Rattle.qk_modules.specs.Laws.{OneGathering, GatheredOrRefused, IsFailure}
use Rattle.qk_modules.proofs.Sourcing.{module_of_source, is_source_of}
use Rattle.qk_modules.proofs.Alike.{IsRead, are_read, last_told, bytes_is, Standing, same, first_on, second_on, standing}

-- ---- the next of the list, and that there is none

pub whole_not_next : (read : List Read_module) (source : Text) → IsWhole read → IsNext read source → ⊥
whole_not_next read source whole next =
    let within : length read < length (listed (map named read)) = slice_get_within (listed (map named read)) (length read) source next in
    let many : length read ≡ length (listed (map named read)) = sym (length-map read (λ m. source_of m.name)) ∙ ap length whole in
    omega (arith, within, many)

pub source_is_one : (a b : Text) → Some a ≡ Some b → a ≡ b
source_is_one a b h = cc

-- ---- the turn of a module that was read isn't refused

not_gone : (t : Text) → gone ≡ bytes t → ⊥
not_gone t h = cc

not_long : (t : Text) → too_long ≡ bytes t → ⊥
not_long t h = cc

pub derived_none : (t : Text) (m : Module) (fault : ParseFault) → ¬ (fault ≡ parse.Memory) → NoneDerived Source t fault → Derives Source t m → ⊥
derived_none t m parse.TooLong known none d = none m d
derived_none t m (parse.Lexical at) known none d = none m d
derived_none t m (parse.Syntax at) known none d = none m d
derived_none t m (parse.TooDeep at) known none d = none m d
derived_none t m parse.Memory known none d = absurd (known refl)

module _ (files : Files) (m : Read_module) (read : IsRead files m) where
  text_fails : (before : ℕ) (name t : Text) (fault : GatherFault) → t ≡ m.text → before < 256 → RefusedText before name t fault → IsFailure fault
  text_fails before name t fault e few (not_utf8 none) = absurd (none (subst IsUtf8 (sym e) read.utf8))
  text_fails before name t fault e few (unparsed {fault = f} utf8 why none known) = absurd (derived_none t m.tree f known none (subst (λ (t : Text). Derives Source t m.tree) (sym e) read.derived))
  text_fails before name t fault e few (too_many many d) = absurd (omega (arith, few, many))
  text_fails before name t fault e few want = inr refl

  module _ (source : Text) (its : source ≡ source_of m.name) where
    good : is_module_source source ≡ true
    good = ap is_module_source its ∙ is_source_of m.name read.name

    name_is : source_module source ≡ m.name
    name_is = ap source_module its ∙ module_of_source m.name read.name

    found_is : (found : Content) → All (IsTold files) (read_as (source_module source) found ∷ []) → found ≡ bytes m.text
    found_is found told =
        All-head (IsTold files) (read_as (source_module source) found) [] told
        ∙ ap (λ (n : Text). reading (files (file_of n)) 1048576) name_is
        ∙ sym read.told

    pub turn_fails : (modules : List NamedModule) (last : List Answer) (fault : GatherFault) → length modules < 256 → RefusedTurn modules source last fault → All (IsTold files) last → IsFailure fault
    turn_fails modules last fault few (no_source none) told = absurd (false≢true (sym none ∙ good))
    turn_fails modules last fault few (no_file of_module) told = absurd (not_gone m.text (found_is gone told))
    turn_fails modules last fault few (long of_module) told = absurd (not_long m.text (found_is too_long told))
    turn_fails modules last fault few (text {t = t} of_module why) told = text_fails (length modules) (source_module source) t fault (bytes_is t m.text (found_is (bytes t) told)) few why
    turn_fails modules last fault few failed told = inl refl
    turn_fails modules last fault few want told = inr refl
    turn_fails modules last fault few (want_behind found of_module) told = inr refl

-- ---- how gatherings end

-- an answer is that of the modules that were read
abbrev IsAll : List Read_module → Result Modules GatherFault → Type 0
IsAll read (Ok a) = IsWhole read × (first_missing (map named read) ≡ None) × (a ≡ record { list = map named read })
IsAll read (Err fault) = Unit {0}

is_all : (read : List Read_module) (last : List Answer) (result : Result Modules GatherFault) → Ends read last result → IsAll read result
is_all read last result (all whole exported) = (whole, exported, refl)
is_all read last result (unexported whole missing) = tt
is_all read last result (refused next why) = tt
is_all read last result want = tt

abbrev Fails : Result Modules GatherFault → Type 0
Fails (Ok a) = Unit {0}
Fails (Err fault) = IsFailure fault

none_some : (p : Text × Text) → None ≡ Some p → ⊥
none_some p h = cc

pub fewer : (a b more : List Read_module) (m : Read_module) → a ≡ b ++ m ∷ more → length a ≤ 256 → length (map named b) < 256
fewer a b more m e few =
    let many : length a ≡ length (b ++ m ∷ more) = ap length e in
    let parts : length (b ++ m ∷ more) ≡ length b + length (m ∷ more) = length-append b (m ∷ more) in
    let named_many : length (map named b) ≡ length b = length-map b named in
    omega (arith, many, parts, named_many, few)

module _ (files : Files) (a : List Read_module) (few : length a ≤ 256) (whole : IsWhole a) (exported : first_missing (map named a) ≡ None) where
  refused_fails : (b : List Read_module) (source : Text) (last : List Answer) (fault : GatherFault) → Standing files [] a b → IsNext b source → RefusedTurn (map named b) source last fault → All (IsTold files) last → IsFailure fault
  refused_fails b source last fault (same e) next why told = absurd (whole_not_next b source (subst IsWhole e whole) next)
  refused_fails b source last fault (first_on {m = m} more e next_one read) next why told =
      turn_fails files m read source (source_is_one source (source_of m.name) (sym next ∙ next_one)) (map named b) last fault (fewer a b more m e few) why told
  refused_fails b source last fault (second_on {m = m} more e next_one read) next why told = absurd (whole_not_next a (source_of m.name) whole next_one)

  not_unexported : (b : List Read_module) (p : Text × Text) → Standing files [] a b → IsWhole b → first_missing (map named b) ≡ Some p → ⊥
  not_unexported b p (same e) whole_b missing = none_some p (sym exported ∙ ap (λ l. first_missing (map named l)) e ∙ missing)
  not_unexported b p (first_on {m = m} more e next read) whole_b missing = whole_not_next b (source_of m.name) whole_b next
  not_unexported b p (second_on {m = m} more e next read) whole_b missing = whole_not_next a (source_of m.name) whole next

  ends_fail : (b : List Read_module) (last : List Answer) (result : Result Modules GatherFault) → Standing files [] a b → Ends b last result → All (IsTold files) last → Fails result
  ends_fail b last result stand (all whole_b exported_b) told = tt
  ends_fail b last result stand (unexported {m = m} {name = name} whole_b missing) told = absurd (not_unexported b (m, name) stand whole_b missing)
  ends_fail b last result stand (refused {source = source} {last = last_b} {fault = fault} next why) told = refused_fails b source last_b fault stand next why told
  ends_fail b last result stand want told = inr refl

-- ---- the laws

pub stand_over : (files : Files) (one two : Result Modules GatherFault) (g : GathersOver files one) (h : GathersOver files two) → Standing files [] g.read h.read
stand_over files one two g h =
    standing files [] g.read h.read g.front.turns h.front.turns (are_read files g.read g.last g.front g.told) (are_read files h.read h.last h.front h.told)

pub gathered_or_refused : GatheredOrRefused
gathered_or_refused files a fault g h =
    let ended = is_all g.read g.last (Ok a) g.ends in
    ends_fail files g.read g.front.few ended.0 ended.1 h.read h.last (Err fault) (stand_over files (Ok a) (Err fault) g h) h.ends (last_told files (map read_of h.read) h.last h.told)

same_read : (files : Files) (a b : List Read_module) → Standing files [] a b → IsWhole a → IsWhole b → a ≡ b
same_read files a b (same e) whole_a whole_b = e
same_read files a b (first_on {m = m} more e next read) whole_a whole_b = absurd (whole_not_next b (source_of m.name) whole_b next)
same_read files a b (second_on {m = m} more e next read) whole_a whole_b = absurd (whole_not_next a (source_of m.name) whole_a next)

abbrev modules_of : List Read_module → Modules
modules_of read = record { list = map named read }

pub one_gathering : OneGathering
one_gathering files a b g h =
    let ended_a = is_all g.read g.last (Ok a) g.ends in
    let ended_b = is_all h.read h.last (Ok b) h.ends in
    ended_a.2 ∙ ap modules_of (same_read files g.read h.read (stand_over files (Ok a) (Ok b) g h) ended_a.0 ended_b.0) ∙ sym ended_b.2

-- ---- what a store that tells its files gathers

pub gathers_over : (files : Files) (before after : Option (List Answer)) (result : Result Modules GatherFault) → Gathers (Some files) before after result → GathersOver files result
gathers_over files before after result g = record { read = g.read; last = g.last; front = g.front; told = g.told files refl; ends = g.ends }
