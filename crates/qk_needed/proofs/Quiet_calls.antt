-- A call in a mode in which nothing is written leaves the heap and the log, and tells of each read that it was made at the length of the log.
use Rattle.std.specs.Prelude.{◌≡◌, refl, ℕ, zero, suc, Bool, true, false, List, [], ◌∷◌, ◌++◌, length, Option, Some, None, ⊤}
use Rattle.std.proofs.Common.{sym, ap, subst, ◌∙◌}
use Rattle.std.proofs.lemmas.List.{append_assoc, append-nil}
use Rattle.qk_meaning.specs.Value.{Value, Fields}
use Rattle.qk_meaning.specs.World.{Object, Plain, Array, Signal, Computed, Props, Loc, Read}
use Rattle.qk_meaning.specs.Heap.{object_at}
use Rattle.qk_meaning.specs.Program.{Program}
use Rattle.qk_meaning.specs.Fault.{ComputedCycle}
use Rattle.qk_meaning.specs.Doing.{chosen, fault, Doing, Outcome, Gives, Stops, ◌>>=◌, ◌>>◌, after, give}
use Rattle.qk_meaning.specs.Happening.{Happening, Did_read, Entered, Used, Computing, Computed_so, Took, Began, Left, Hook_kind, Hook_answer, Gives_nothing}
use Rattle.qk_meaning.specs.Running.{Running, Mode, Kept_run, is_outside, take_turn, turn_of, noted, reads_at, locations_read, locals_become}
use Rattle.qk_meaning.specs.Hooks.{answered_hook}
use Rattle.qk_meaning.specs.Setting.{Entering, Computed_reading, called_anew, is_running}
use Rattle.qk_meaning.specs.Evaluation.{entering}
use Rattle.qk_meaning.specs.Flow.{within}
use Rattle.qk_needed.specs.Needed.{kept_of, read_now, run_kept, taken_or_called, called_if_needed}
use Rattle.qk_meaning.proofs.Answering.{outside_is}
use Rattle.qk_needed.proofs.Found.{found_in}
use Rattle.qk_needed.proofs.Repeating.{behind_hook, told_hook, answer_so, runs_none, left_none, answered_so}
use Rattle.qk_needed.specs.Deciding.{One_kind, two_plain, two_arrays, two_signals, one_computed, two_props, Makes_none, Writes_nothing}
use Rattle.qk_needed.proofs.Repeating_laws.{Own, Relation, Laws, Runs_none}
use Rattle.qk_needed.proofs.Repeating_code as Code

-- these reads were made where the log had this length
abbrev pub All_at : ℕ → List Read → Type 0
All_at n [] = ⊤
All_at n (r ∷ rest) = (r.at ≡ n) × All_at n rest

-- each read was made where the log had this length
abbrev pub Told_at : ℕ → List Happening → Type 0
Told_at n [] = ⊤
Told_at n (Did_read r ∷ rest) = (r.at ≡ n) × Told_at n rest
Told_at n (Took a v reads ∷ rest) = All_at n reads × Told_at n rest
Told_at n (_ ∷ rest) = Told_at n rest

told_both : (n : ℕ) (news more : List Happening) → Told_at n news → Told_at n more → Told_at n (news ++ more)
told_both n [] more p q = q
told_both n (Did_read r ∷ rest) more p q = (p.0, told_both n rest more p.1 q)
told_both n (Took a v reads ∷ rest) more p q = (p.0, told_both n rest more p.1 q)
told_both n (_ ∷ rest) more p q = told_both n rest more p q

pub read_now_at : (n m : ℕ) (reads : List Read) → m ≡ n → All_at n (read_now m reads)
read_now_at n m [] e = tt
read_now_at n m (r ∷ rest) e = (e, read_now_at n m rest e)

reads_told : (n m : ℕ) (locs : List Loc) → m ≡ n → Told_at n (reads_at m locs)
reads_told n m [] e = tt
reads_told n m (l ∷ rest) e = (e, reads_told n m rest e)

one_kind : (o : Object) → One_kind o o
one_kind (Plain f) = two_plain
one_kind (Array v) = two_arrays
one_kind (Signal v) = two_signals
one_kind (Computed f) = one_computed
one_kind (Props f) = two_props

module _ (G : List Object) (log0 : List Loc) where
  pub record At_rest (s : Running) : Type 0 where
    pub heap : s.heap ≡ G
    pub log : s.log ≡ log0
    pub no_hooks : Makes_none s.hooking

  pub record Rests (s s' : Running) : Type 0 where
    pub rest : At_rest s'
    pub news : List Happening
    pub told : s'.trace ≡ s.trace ++ news
    pub at : Told_at (length log0) news

  abbrev pub Left_at_rest : {A : Type 0} → Running → Outcome Running A → Type 0
  Left_at_rest s (Gives a s') = Rests s s'
  Left_at_rest s (Stops why s') = ⊤

  abbrev pub Quiet : Relation
  Quiet L A m m' = (s : Running) → At_rest s → Left_at_rest s (m s)

  still : (s s' : Running) → At_rest s' → s'.trace ≡ s.trace → Rests s s'
  still s s' r e = record { rest = r; news = []; told = e ∙ sym (append-nil s.trace); at = tt }

  binds : {A B : Type 0} (m : Doing Running A) (f : A → Doing Running B) → ((s : Running) → At_rest s → Left_at_rest s (m s)) → ((a : A) (s : Running) → At_rest s → Left_at_rest s (f a s))
      → (s : Running) → At_rest s → Left_at_rest s (after (m s) f)
  binds {A} {B} m f p q s i = go (m s) (p s i)
    where
      go : (o : Outcome Running A) → Left_at_rest s o → Left_at_rest s (after o f)
      go (Stops why u) g = tt
      go (Gives a s1) g = go_on (f a s1) (q a s1 g.rest)
        where
          go_on : (o : Outcome Running B) → Left_at_rest s1 o → Left_at_rest s o
          go_on (Stops why u) h = tt
          go_on (Gives b s2) h = record { rest = h.rest; news = g.news ++ h.news; told = h.told ∙ (ap (λ x. x ++ h.news) g.told ∙ append_assoc s.trace g.news h.news); at = told_both (length log0) g.news h.news g.at h.at }

  turning : (s : Running) → At_rest s → Left_at_rest s (take_turn s)
  turning s i = go s.turns
    where
      go : (n : ℕ) → Left_at_rest s (turn_of n s)
      go zero = tt
      go (suc n) = still s (record s { turns = n }) (record { heap = i.heap; log = i.log; no_hooks = i.no_hooks }) refl

  noting : (h : Happening) → Told_at (length log0) (h ∷ []) → (s : Running) → At_rest s → Left_at_rest s (noted h s)
  noting h t s i = record { rest = record { heap = i.heap; log = i.log; no_hooks = i.no_hooks }; news = h ∷ []; told = refl; at = t }

  reading : {A : Type 0} (locs : List Loc) (a : A) (s : Running) → At_rest s → Left_at_rest s (◌>>◌ (locations_read locs) (give a) s)
  reading locs a s i = record { rest = record { heap = i.heap; log = i.log; no_hooks = i.no_hooks }; news = reads_at (length s.log) locs; told = refl; at = reads_told (length log0) (length s.log) locs (ap length i.log) }

  within_names : {A : Type 0} (names : Fields) (m : Doing Running A) → ((s : Running) → At_rest s → Left_at_rest s (m s)) → (s : Running) → At_rest s → Left_at_rest s (within names m s)
  within_names {A} names m p s i = go (m (record s { locals = names })) (p (record s { locals = names }) (record { heap = i.heap; log = i.log; no_hooks = i.no_hooks }))
    where
      go : (o : Outcome Running A) → Left_at_rest (record s { locals = names }) o → Left_at_rest s (after o (λ a. ◌>>=◌ (locals_become (λ old. s.locals)) (λ u. give a)))
      go (Stops why u) g = tt
      go (Gives a s1) g = record { rest = record { heap = g.rest.heap; log = g.rest.log; no_hooks = g.rest.no_hooks }; news = g.news; told = g.told; at = g.at }

  computing : {A : Type 0} (m : Doing Running A) (a : ℕ) → ((s : Running) → At_rest s → Left_at_rest s (m s)) → (s : Running) → At_rest s → Left_at_rest s (◌>>◌ (noted (Computing a)) m s)
  computing m a p = binds (noted (Computing a)) (λ u. m) (noting (Computing a) tt) (λ u. p)

  given_so : {B : Type 0} (kind : Hook_kind) (arguments : List Value) (f : Hook_answer → Doing Running B) → ((a : Hook_answer) → Runs_none a → (s : Running) → At_rest s → Left_at_rest s (f a s))
      → (s : Running) → At_rest s → is_outside s.hooking ≡ false → Left_at_rest s (◌>>=◌ (answered_hook kind arguments) f s)
  given_so {B} kind arguments f p s i o =
      subst (λ x. Left_at_rest s (after x f)) (sym (answered_so [] G G log0 kind arguments s.hooking i.no_hooks o s refl))
      (go (f (answer_so [] G G log0 s.hooking) s1) (p (answer_so [] G G log0 s.hooking) (runs_none [] G G log0 s.hooking) s1 (record { heap = append-nil s.heap ∙ i.heap; log = i.log; no_hooks = left_none [] G G log0 s.hooking i.no_hooks })))
    where
      s1 : Running
      s1 = behind_hook [] G G log0 kind arguments s.hooking s

      go : (x : Outcome Running B) → Left_at_rest (behind_hook [] G G log0 kind arguments s.hooking s) x → Left_at_rest s x
      go (Stops why u) g = tt
      go (Gives b u) g = record { rest = g.rest; news = told_hook [] G G log0 kind arguments s.hooking ∷ g.news; told = g.told ∙ append_assoc s.trace (told_hook [] G G log0 kind arguments s.hooking ∷ []) g.news; at = g.at }

  answering : {B : Type 0} (kind : Hook_kind) (arguments : List Value) (f : Hook_answer → Doing Running B) → ((a : Hook_answer) → Runs_none a → (s : Running) → At_rest s → Left_at_rest s (f a s))
      → (s : Running) → At_rest s → Left_at_rest s (◌>>=◌ (answered_hook kind arguments) f s)
  answering {B} kind arguments f p s i = by_outside (is_outside s.hooking) refl
    where
      by_outside : (b : Bool) → is_outside s.hooking ≡ b → Left_at_rest s (◌>>=◌ (answered_hook kind arguments) f s)
      by_outside true o = subst (λ x. Left_at_rest s (after x f)) (sym (outside_is kind arguments s o)) (p Gives_nothing tt s i)
      by_outside false o = given_so kind arguments f p s i o

  pub laws : Laws [] G G Quiet
  laws =
      record {
        gives = λ a s i. still s s i refl;
        stops = λ why m s i. tt;
        ends = λ p. p;
        bind = λ {L} {A} {B} {m} {m'} {f} {f'} p q. binds m f p q;
        turn = turning;
        enters = λ which. noting (Entered which) tt;
        computes = λ {L} {A} {m} {m'} a b test p. computing m a p;
        computed = λ a v. noting (Computed_so a v) tt;
        uses = λ file name. noting (Used file name) tt;
        hook_answers = λ {L} {B} kind arguments {f} {f'} p. answering kind arguments f (λ a q. p a q);
        begins = λ part. noting (Began part) tt;
        leaves = λ part. noting (Left part) tt;
        looks = λ {L} {B} f f' p s i. subst (λ h. Left_at_rest s (f h s)) (sym i.heap) (p s i);
        reads = λ locs locs' a a' p. reading locs a;
        sees = λ p s i. p s.locals s i;
        sets = λ f s i. still s (record s { locals = f s.locals }) (record { heap = i.heap; log = i.log; no_hooks = i.no_hooks }) refl;
        withins = λ {L} {A} names {m} {m'} p. within_names names m p;
        shared = λ p. p;
        hooks = λ p s i. p s.hooking i.no_hooks s i;
        sets_hooks = λ h q s i. still s (record s { hooking = h }) (record { heap = i.heap; log = i.log; no_hooks = q }) refl;
        by_turns = λ p s i. p s.turns s.turns s i;
      }

  abbrev pub Calls_quietly : Entering → Type 0
  Calls_quietly enter = (mode : Mode) → Writes_nothing mode → (running : List ℕ) (f : Value) (arguments : List Value) → Quiet Own Value (enter mode running f arguments) (enter mode running f arguments)

  -- computeds are read so, where functions are entered so; a read of one that is under way is a cycle
  abbrev pub Reads_quietly : Computed_reading → Type 0
  Reads_quietly computed =
      (enter : Entering) → Calls_quietly enter → (running : List ℕ) (a : ℕ) (f : Value)
      → Quiet Own Value (chosen (is_running a running) (fault ComputedCycle) (computed enter running a f)) (chosen (is_running a running) (fault ComputedCycle) (computed enter running a f))

  anew : (enter : Entering) → Calls_quietly enter → (running : List ℕ) (a : ℕ) (f : Value) → Quiet Own Value (called_anew enter running a f) (called_anew enter running a f)
  anew enter E running a f =
      computing (Code.behind [] G G Quiet laws enter enter (λ mode q r r' under g arguments. E mode q r g arguments) enter running a f) a
      (Code.run_behind [] G G Quiet laws enter enter (λ mode q r r' under g arguments. E mode q r g arguments) running running (λ b p o. p) a f)

  by_cycle : (computed : Computed_reading) (enter : Entering) (running : List ℕ) (a : ℕ) (f : Value) → Quiet Own Value (computed enter running a f) (computed enter running a f)
      → (b : Bool) → Quiet Own Value (chosen b (fault ComputedCycle) (computed enter running a f)) (chosen b (fault ComputedCycle) (computed enter running a f))
  by_cycle computed enter running a f p true s i = tt
  by_cycle computed enter running a f p false s i = p s i

  pub anew_quietly : Reads_quietly called_anew
  anew_quietly enter E running a f = by_cycle called_anew enter running a f (anew enter E running a f) (is_running a running)

  needed_so : (enter : Entering) → Calls_quietly enter → (running : List ℕ) (a : ℕ) (f : Value) → Quiet Own Value (called_if_needed enter running a f) (called_if_needed enter running a f)
  needed_so enter E running a f s i = kept_so (kept_of a s) s i
    where
      kept_so : (o : Option Kept_run) → Quiet Own Value (taken_or_called enter running a f o) (taken_or_called enter running a f o)
      kept_so (Some k) t r =
          record { rest = record { heap = r.heap; log = r.log; no_hooks = r.no_hooks }; news = Took a k.value (read_now (length t.log) k.reads) ∷ []; told = refl; at = (read_now_at (length log0) (length t.log) k.reads (ap length r.log), tt) }
      kept_so None t r = go (called_anew enter running a f t) (anew enter E running a f t r)
        where
          go : (o : Outcome Running Value) → Left_at_rest t o → Left_at_rest t (after (found_in (length t.trace) o) (run_kept a))
          go (Stops why u) g = tt
          go (Gives v s1) g = record { rest = record { heap = g.rest.heap; log = g.rest.log; no_hooks = g.rest.no_hooks }; news = g.news; told = g.told; at = g.at }

  pub if_needed_quietly : Reads_quietly called_if_needed
  if_needed_quietly enter E running a f = by_cycle called_if_needed enter running a f (needed_so enter E running a f) (is_running a running)

  pub calls : (computed : Computed_reading) → Reads_quietly computed → (program : Program) (d : ℕ) → Calls_quietly (entering program computed d)
  calls computed C program zero mode q running f arguments = λ s i. tt
  calls computed C program (suc d) mode q running f arguments =
      Code.enters_with [] G G Quiet laws (λ a m. (m, one_kind (object_at G a))) program computed computed (entering program computed d) (entering program computed d)
      (λ r r' under a g. C (entering program computed d) (calls computed C program d) r a g) (λ m p r r' under. calls computed C program d m p r) mode q running running (λ b p o. p) f arguments
