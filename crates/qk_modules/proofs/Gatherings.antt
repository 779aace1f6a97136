-- A gathering on its way: the modules that were read, their list, and the answers of the store so far.
use Rattle.std.specs.Prelude.{◌≡◌, refl, ℕ, ◌+◌, ◌<◌, ◌≤◌, Bool, true, false, IsTrue, List, [], ◌∷◌, ◌++◌, map, length, take, All, Option, Some, None, slice_get, Result, Ok, Err}
use Rattle.std.specs.Option.{option_map}
use Rattle.std.specs.Str.{IsUtf8}
use Rattle.std.proofs.Common.{ap, sym, subst, ◌∙◌, arith, add-one, zero, suc, get_or, nat_lt, ◌⊎◌, inl, inr}
use Rattle.std.proofs.lemmas.List.{append-nil, append_assoc, length-map, length_push}
use Rattle.std.proofs.lemmas.List.Elements.{All-append, All-nil}
use Rattle.std.proofs.lemmas.List.{take-append-le, take_all}
use Rattle.std.proofs.Math.Seq.{take-suc}
use Rattle.std.proofs.lemmas.Option.{slice_get_within, get_or_from_slice_get, slice_get-get_or}
use Rattle.qk_ast.specs.declared.Form.TheVariants.{Source}
use Rattle.qk_ast.specs.Derives.{Derives}
use Rattle.qk_ast.specs.Texts.{Text}
use Rattle.qk_ast.specs.Names.{each_once}
use Rattle.qk_ast.specs.Framework.{is_module_name}
use Rattle.qk_ast.specs.Sources.{source_module, is_module_source}
use Rattle.qk_store.specs.Files.{Files}
use Rattle.qk_store.specs.Answers.{bytes, Answer}
use Rattle.qk_modules.specs.declared.modules.NamedModule.{NamedModule}
use Rattle.qk_modules.specs.declared.modules.Modules.{Modules}
use Rattle.qk_modules.specs.declared.fault.GatherFault.{GatherFault}
use Rattle.qk_modules.specs.declared.fault.GatherFault.TheVariants.{Memory}
use Rattle.qk_modules.specs.Gathering.{root, source_of, sources_in, all_sources, listed, Read_module, named, IsFront, InTurn, IsWhole, IsNext, read_as, read_of, IsTold, RefusedTurn, Ends, all, unexported, refused, want, behind, Gathers, first_missing}
use Rattle.qk_modules.specs.Listing.{with_imports}
use Rattle.qk_modules.specs.Turns.{Turns}
use Rattle.qk_modules.specs.Exporting as set
use Rattle.qk_modules.proofs.Sourcing.{source_is, source_names}
use Rattle.qk_modules.proofs.Listed.{grows, each_once_both, by_import}

pub record Gathering (files : Option Files) (before after : Option (List Answer)) (modules : List NamedModule) (listing : List Text) : Type 0 where
  pub read : List Read_module
  pub front : IsFront read
  pub first : map (λ m. source_of m.name) read ≡ take (length read) (listed (map named read))
  pub are : map named read ≡ modules
  pub lists : listing ≡ listed (map named read)
  pub answered : after ≡ option_map (behind (map read_of read)) before
  pub told : (told : Files) → files ≡ Some told → All (IsTold told) (map read_of read)

-- ---- the list, with a module more

all_more : (modules : List NamedModule) (m : NamedModule) → all_sources (modules ++ m ∷ []) ≡ all_sources modules ++ sources_in m.module.imports
all_more [] m = append-nil (sources_in m.module.imports)
all_more (n ∷ modules) m = ap (λ l. sources_in n.module.imports ++ l) (all_more modules m) ∙ sym (append_assoc (sources_in n.module.imports) (all_sources modules) (sources_in m.module.imports))

listed_grows : (modules : List NamedModule) (m : NamedModule) → with_imports (listed modules) m.module.imports ≡ listed (modules ++ m ∷ [])
listed_grows modules m =
    by_import (listed modules) m.module.imports
    ∙ each_once_both (source_of root ∷ all_sources modules) (sources_in m.module.imports)
    ∙ ap (λ l. each_once [] (source_of root ∷ l)) (sym (all_more modules m))

map_more : {A B : Type 0} (f : A → B) (l : List A) (x : A) → map f (l ++ x ∷ []) ≡ map f l ++ f x ∷ []
map_more f [] x = refl
map_more f (y ∷ l) x = ap (λ r. f y ∷ r) (map_more f l x)

-- a front of a list that goes on, with the next of it
take_next : (n : ℕ) (l more : List Text) (x : Text) → slice_get l n ≡ Some x → take (n + 1) (l ++ more) ≡ take n l ++ x ∷ []
take_next n l more x h =
    let within : n < length l = slice_get_within l n x h in
    take-append-le (n + 1) l more (omega (arith, within))
    ∙ rw (add-one, take-suc l n x within, get_or_from_slice_get l n x x h) refl

-- one more was read at its turn
in_turn_more : (before others : List Read_module) (m : Read_module) → InTurn before others → IsNext (before ++ others) (source_of m.name) → InTurn before (others ++ m ∷ [])
in_turn_more before [] m h next = (subst (λ l. IsNext l (source_of m.name)) (append-nil before) next, tt)
in_turn_more before (o ∷ others) m h next =
    (h.0, in_turn_more (before ++ o ∷ []) others m h.1 (subst (λ l. IsNext l (source_of m.name)) (sym (append_assoc before (o ∷ []) others)) next))

-- ---- the beginning

at_begin : (answers : Option (List Answer)) → answers ≡ option_map (behind []) answers
at_begin None = refl
at_begin (Some past) = ap Some (sym (append-nil past))

pub none_read : (files : Option Files) (answers : Option (List Answer)) → Gathering files answers answers [] (source_of root ∷ [])
none_read files answers = record {
  read = [];
  front = record { turns = tt; names = All-nil _; utf8 = All-nil _; derived = All-nil _; few = omega arith };
  first = refl;
  are = refl;
  lists = refl;
  answered = at_begin answers;
  told = λ told e. All-nil _;
}

-- ---- a turn

behind_both : (one two : List Answer) (o : Option (List Answer)) → option_map (behind two) (option_map (behind one) o) ≡ option_map (behind (one ++ two)) o
behind_both one two None = refl
behind_both one two (Some past) = ap Some (append_assoc past one two)

All-one : {A : Type 0} (P : A → Type 0) (x : A) → P x → All P (x ∷ [])
All-one P x h zero d within = h
All-one P x h (suc k) d within = absurd (omega (arith, within))

module _ (files : Option Files) (before between after : Option (List Answer)) (modules : List NamedModule) (listing : List Text) (source : Text)
    (so_far : Gathering files before between modules listing) (next : slice_get listing (length modules) ≡ Some source) where
  as_many : length modules ≡ length so_far.read
  as_many = ap length (sym so_far.are) ∙ length-map so_far.read named

  is_next : IsNext so_far.read source
  is_next = ap (λ l. slice_get l (length so_far.read)) (sym so_far.lists) ∙ ap (λ n. slice_get listing n) (sym as_many) ∙ next

  refused_now : (fault : GatherFault) → Turns files between after modules source (Err fault) → Gathers files before after (Err fault)
  refused_now fault turn = record {
    read = so_far.read;
    last = turn.last;
    front = so_far.front;
    answered = turn.answered ∙ ap (option_map (behind turn.last)) so_far.answered ∙ behind_both (map read_of so_far.read) turn.last before;
    told = λ told e. All-append (IsTold told) (map read_of so_far.read) turn.last (so_far.told told e) (turn.told told e);
    ends = refused is_next (subst (λ l. RefusedTurn l source turn.last fault) (sym so_far.are) turn.comes);
  }

  pub turn_refused : (fault : GatherFault) (result : Result Modules GatherFault) → result ≡ Err fault → Turns files between after modules source (Err fault) → Gathers files before after result
  turn_refused fault result e turn = subst (Gathers files before after) (sym e) (refused_now fault turn)

  module _ (m : NamedModule) (turn : Turns files between after modules source (Ok m)) where
    abbrev text_read : Text
    text_read = turn.comes.0

    abbrev last_read : Read_module
    last_read = record { name = m.name; text = text_read; tree = m.module }

    abbrev read_more : List Read_module
    read_more = so_far.read ++ last_read ∷ []

    named_more : map named read_more ≡ modules ++ m ∷ []
    named_more = map_more named so_far.read last_read ∙ ap (λ l. l ++ m ∷ []) so_far.are

    name_is : m.name ≡ source_module source
    name_is = turn.comes.3.0

    named_good : is_module_source source ≡ true
    named_good = turn.comes.2

    answers_more : map read_of read_more ≡ map read_of so_far.read ++ turn.last
    answers_more = map_more read_of so_far.read last_read ∙ ap (λ l. map read_of so_far.read ++ l) (ap (λ (n : Text). read_as n (bytes text_read) ∷ []) name_is ∙ sym turn.comes.1)

    source_now : source_of m.name ≡ source
    source_now = ap source_of name_is ∙ sym (source_is source named_good)

    abbrev newer : List Text
    newer = each_once (listed (map named so_far.read)) (sources_in m.module.imports)

    list_more : listed (map named read_more) ≡ listed (map named so_far.read) ++ newer
    list_more =
        ap listed (map_more named so_far.read last_read)
        ∙ sym (listed_grows (map named so_far.read) m)
        ∙ by_import (listed (map named so_far.read)) m.module.imports
        ∙ grows (listed (map named so_far.read)) (listed (map named so_far.read)) (sources_in m.module.imports) (λ t. refl)

    first_more : map (λ r. source_of r.name) read_more ≡ take (length read_more) (listed (map named read_more))
    first_more =
        map_more (λ r. source_of r.name) so_far.read last_read
        ∙ ap (λ l. l ++ source_of m.name ∷ []) so_far.first
        ∙ ap (λ (s : Text). take (length so_far.read) (listed (map named so_far.read)) ++ s ∷ []) source_now
        ∙ sym (take_next (length so_far.read) (listed (map named so_far.read)) newer source is_next)
        ∙ ap (λ n. take n (listed (map named so_far.read) ++ newer)) (sym (length_push so_far.read last_read))
        ∙ ap (λ l. take (length read_more) l) (sym list_more)

    few_more : length read_more ≤ 256
    few_more = rw length_push (omega (arith, as_many, turn.comes.3.3))

    front_more : IsFront read_more
    front_more = record {
      turns = in_turn_more [] so_far.read last_read so_far.front.turns (subst (IsNext so_far.read) (sym source_now) is_next);
      names = All-append (λ r. IsTrue (is_module_name r.name)) so_far.read (last_read ∷ []) so_far.front.names (All-one (λ (r : Read_module). IsTrue (is_module_name r.name)) last_read (ap is_module_name name_is ∙ source_names source named_good));
      utf8 = All-append (λ r. IsUtf8 r.text) so_far.read (last_read ∷ []) so_far.front.utf8 (All-one (λ (r : Read_module). IsUtf8 r.text) last_read turn.comes.3.1);
      derived = All-append (λ r. Derives Source r.text r.tree) so_far.read (last_read ∷ []) so_far.front.derived (All-one (λ (r : Read_module). Derives Source r.text r.tree) last_read turn.comes.3.2);
      few = few_more;
    }

    pub turn_taken : Gathering files before after (modules ++ m ∷ []) (with_imports listing m.module.imports)
    turn_taken = record {
      read = read_more;
      front = front_more;
      first = first_more;
      are = named_more;
      lists = ap (λ l. with_imports l m.module.imports) (so_far.lists ∙ ap listed so_far.are) ∙ listed_grows modules m ∙ ap listed (sym named_more);
      answered = turn.answered ∙ ap (option_map (behind turn.last)) so_far.answered ∙ behind_both (map read_of so_far.read) turn.last before ∙ ap (λ l. option_map (behind l) before) (sym answers_more);
      told = λ told e. subst (All (IsTold told)) (sym answers_more) (All-append (IsTold told) (map read_of so_far.read) turn.last (so_far.told told e) (turn.told told e));
    }

-- ---- the end

not_none : (t : Text) → None ≡ Some t → ⊥
not_none t h = cc

none_left : (l : List Text) (n : ℕ) → slice_get l n ≡ None → length l ≤ n
none_left l n h = by (nat_lt n (length l)) refl
  where
    by : (b : Bool) → nat_lt n (length l) ≡ b → length l ≤ n
    by true e = absurd (not_none (get_or l n []) (sym h ∙ slice_get-get_or l n [] (grind (arith, e))))
    by false e = grind (arith, e)

no_fault : (fault : GatherFault) → None ≡ Some fault → ⊥
no_fault fault h = cc

some_one : (a b : GatherFault) → Some a ≡ Some b → a ≡ b
some_one a b h = cc

module _ (files : Option Files) (before after : Option (List Answer)) (modules : List NamedModule) (listing : List Text)
    (so_far : Gathering files before after modules listing) where
  nothing_more : (result : Result Modules GatherFault) → Ends so_far.read [] result → Gathers files before after result
  nothing_more result e = record {
    read = so_far.read;
    last = [];
    front = so_far.front;
    answered = so_far.answered ∙ ap (λ l. option_map (behind l) before) (sym (append-nil (map read_of so_far.read)));
    told = λ told k. subst (All (IsTold told)) (sym (append-nil (map read_of so_far.read))) (so_far.told told k);
    ends = e;
  }

  pub gathers_want : (result : Result Modules GatherFault) → result ≡ Err Memory → Gathers files before after result
  gathers_want result e = nothing_more result (subst (Ends so_far.read []) (sym e) want)

  module _ (ended : slice_get listing (length modules) ≡ None) where
    whole : IsWhole so_far.read
    whole =
        so_far.first
        ∙ take_all (length so_far.read) (listed (map named so_far.read))
        (subst (λ l. length l ≤ length so_far.read) so_far.lists (subst (λ n. length listing ≤ n) (ap length (sym so_far.are) ∙ length-map so_far.read named) (none_left listing (length modules) ended)))

    pub gathers_all : (result : Result Modules GatherFault) → result ≡ Ok (record { list = modules }) → first_missing modules ≡ None → Gathers files before after result
    gathers_all result e h =
        nothing_more result (subst (Ends so_far.read []) (ap (λ l. Ok (record { list = l })) so_far.are ∙ sym e) (all whole (ap first_missing so_far.are ∙ h)))

    some_fault : (o : Option (Text × Text)) (fault : GatherFault) → option_map set.unexported o ≡ Some fault → (p : Text × Text) × (o ≡ Some p) × (fault ≡ set.unexported p)
    some_fault None fault h = absurd (no_fault fault h)
    some_fault (Some p) fault h = (p, refl, sym (some_one (set.unexported p) fault h))

    pub gathers_unexported : (fault : GatherFault) (result : Result Modules GatherFault) → result ≡ Err fault → (option_map set.unexported (first_missing modules) ≡ Some fault) ⊎ (fault ≡ Memory) → Gathers files before after result
    gathers_unexported fault result e (inl h) =
        let found = some_fault (first_missing modules) fault h in
        nothing_more result (subst (Ends so_far.read []) (sym (e ∙ ap Err found.2)) (unexported whole (ap first_missing so_far.are ∙ found.1)))
    gathers_unexported fault result e (inr h) = gathers_want result (e ∙ ap Err h)

-- the same gathering, by other names of its parts
pub as_told : (files : Option Files) (before after : Option (List Answer)) (modules these : List NamedModule) (listing names : List Text)
    → these ≡ modules → names ≡ listing → Gathering files before after modules listing → Gathering files before after these names
as_told files before after modules these listing names e f h = subst (λ l. Gathering files before after these l) (sym f) (subst (λ m. Gathering files before after m listing) (sym e) h)

-- whose turn it is, and that none is left, by the place that was looked up
pub next_there : (listing : List Text) (n k : ℕ) (source : Text) → n ≡ k → Some source ≡ slice_get listing n → slice_get listing k ≡ Some source
next_there listing n k source e h = ap (slice_get listing) (sym e) ∙ sym h

pub none_there : (listing : List Text) (n k : ℕ) → n ≡ k → None ≡ slice_get listing n → slice_get listing k ≡ None
none_there listing n k e h = ap (slice_get listing) (sym e) ∙ sym h

pub turn_as_told : (these files : Option Files) (between after : Option (List Answer)) (lent modules : List NamedModule) (source : Text) (result : Result NamedModule GatherFault)
    → these ≡ files → lent ≡ modules → Turns these between after lent source result → Turns files between after modules source result
turn_as_told these files between after lent modules source result e f h = subst (λ t. Turns t between after modules source result) e (subst (λ m. Turns these between after m source result) f h)
