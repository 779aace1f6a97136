-- What was read decides a value: words for two evaluations of the same function with the same arguments in two heaps.
use Rattle.std.specs.Prelude.{ℕ, true, false, List, [], ◌∷◌, ◌++◌, ⊤, ◌≡◌}
use Rattle.qk_meaning.specs.Value.{Text, Value}
use Rattle.qk_meaning.specs.World.{Object, Plain, Array, Signal, Computed, Props, Loc}
use Rattle.qk_meaning.specs.Heap.{is_made, object_at}
use Rattle.qk_meaning.specs.Standing.{stands_at}
use Rattle.qk_meaning.specs.Program.{Program}
use Rattle.qk_meaning.specs.Doing.{Outcome, Gives, Stops, Faults, Ends}
use Rattle.qk_meaning.specs.Happening.{Happening, Did_read, Entered, Used, Computing, Computed_so, Began, Left, Hooked, Hook_kind, Answered, Which, Part}
use Rattle.qk_meaning.specs.Running.{Running, Mode, Effect, Pure, Track, Hooking, Outside, Mounting, Again, Told}
use Rattle.qk_meaning.specs.Setting.{called_anew, is_running}
use Rattle.qk_meaning.specs.Evaluation.{entering}

-- objects of one kind; a computed's function never changes, so it belongs to the kind
pub data One_kind : Object → Object → Type 0 where
  two_plain : {f g : _} → One_kind (Plain f) (Plain g)
  two_arrays : {v w : _} → One_kind (Array v) (Array w)
  two_signals : {v w : _} → One_kind (Signal v) (Signal w)
  one_computed : {f : _} → One_kind (Computed f) (Computed f)
  two_props : {f g : _} → One_kind (Props f) (Props g)

-- where an object was made in the first heap one of its kind was made in the second
abbrev pub Kinds_agree : List Object → List Object → Type 0
Kinds_agree heap heap' = (a : ℕ) → is_made heap a ≡ true → (is_made heap' a ≡ true) × One_kind (object_at heap a) (object_at heap' a)

-- at the locations that are read stands the same in both heaps, and no computed that runs is one of these
abbrev pub Agree_on : List ℕ → List Object → List Object → List Happening → Type 0
Agree_on outer heap heap' [] = ⊤
Agree_on outer heap heap' (Did_read r ∷ rest) = (stands_at heap r.loc ≡ stands_at heap' r.loc) × Agree_on outer heap heap' rest
Agree_on outer heap heap' (Computing a ∷ rest) = (is_running a outer ≡ false) × Agree_on outer heap heap' rest
Agree_on outer heap heap' (_ ∷ rest) = Agree_on outer heap heap' rest

-- the same happened, one by one; the lengths of the logs count for nothing
pub data Same_news : List Happening → List Happening → Type 0 where
  no_news : Same_news [] []
  both_read : {l : Loc} {n m : ℕ} {rest more : List Happening} → Same_news rest more → Same_news (Did_read (record { loc = l; at = n }) ∷ rest) (Did_read (record { loc = l; at = m }) ∷ more)
  both_enter : {which : Which} {rest more : List Happening} → Same_news rest more → Same_news (Entered which ∷ rest) (Entered which ∷ more)
  both_use : {file name : Text} {rest more : List Happening} → Same_news rest more → Same_news (Used file name ∷ rest) (Used file name ∷ more)
  both_begin_computed : {a : ℕ} {rest more : List Happening} → Same_news rest more → Same_news (Computing a ∷ rest) (Computing a ∷ more)
  both_end_computed : {a : ℕ} {v : Value} {rest more : List Happening} → Same_news rest more → Same_news (Computed_so a v ∷ rest) (Computed_so a v ∷ more)
  both_call_hook : {kind : Hook_kind} {arguments : List Value} {answered : Answered} {rest more : List Happening} → Same_news rest more → Same_news (Hooked kind arguments answered ∷ rest) (Hooked kind arguments answered ∷ more)
  both_begin : {part : Part} {rest more : List Happening} → Same_news rest more → Same_news (Began part ∷ rest) (Began part ∷ more)
  both_leave : {part : Part} {rest more : List Happening} → Same_news rest more → Same_news (Left part ∷ rest) (Left part ∷ more)

-- no hooks are made: no component is executed, or one is executed again
abbrev pub Makes_none : Hooking → Type 0
Makes_none Outside = ⊤
Makes_none (Mounting path before so_far) = ⊥
Makes_none (Again left) = ⊤
Makes_none (Told answers) = ⊥

-- a mode in which nothing is written
abbrev pub Writes_nothing : Mode → Type 0
Writes_nothing Effect = ⊥
Writes_nothing Pure = ⊤
Writes_nothing Track = ⊤

-- A second evaluation does what a first one did, or ends for its budget: what it gives is the same, the heap stays, and the same happens.
pub record Repeats (A : Type 0) (t : Running) (a b : A) (t' : Running) (news : List Happening) : Type 0 where
  pub same_value : b ≡ a
  pub heap_stays : t'.heap ≡ t.heap
  pub log_stays : t'.log ≡ t.log
  pub more : List Happening
  pub trace_grows : t'.trace ≡ t.trace ++ more
  pub same_news : Same_news news more

abbrev pub Repeats_or_ends : {A : Type 0} → Running → A → List Happening → Outcome Running A → Type 0
Repeats_or_ends t a news (Stops (Faults f) t') = ⊥
Repeats_or_ends t a news (Stops Ends t') = ⊤
Repeats_or_ends {A} t a news (Gives b t') = Repeats A t a b t' news

-- What was read decides a value. Where the call of a function gives a value in a mode in which nothing is written, and no hooks are made, then in a heap that has its objects, of the same kinds, and in which
-- the same stands at all that was read the same call gives that value, and reads and enters the same, unless it ends for its budget; also where other computeds are under way, as long
-- as none of them was run in the first call.
abbrev pub ReadsDecide : Type 0
ReadsDecide =
    (program : Program) (levels levels' : ℕ) (mode : Mode) (under_way under_way' : List ℕ) (f : Value) (arguments : List Value) (s s' t : Running) (v : Value) (news : List Happening) →
    Writes_nothing mode → Makes_none s.hooking → t.hooking ≡ s.hooking → Kinds_agree s.heap t.heap →
    entering program called_anew levels mode under_way f arguments s ≡ Gives v s' → s'.trace ≡ s.trace ++ news → Agree_on under_way' s.heap t.heap news →
    Repeats_or_ends t v news (entering program called_anew levels' mode under_way' f arguments t)
