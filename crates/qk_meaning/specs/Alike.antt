-- When a state in which code runs, an outcome or a doing of one reading stands for one of another, under fixed ties and from two logs on.
use Rattle.std.specs.Prelude.{◌≡◌, ℕ, Bool, true, false, List, [], ◌∷◌}
use Rattle.qk_ast.specs.Names.{is_listed, around}
use Rattle.qk_meaning.specs.Value.{Text, Site, Value, Fields, field}
use Rattle.qk_meaning.specs.World.{Loc, Read, Step, Hook, Instance}
use Rattle.qk_meaning.specs.Fault.{Fault}
use Rattle.qk_meaning.specs.Parts.{has_field, found}
use Rattle.qk_meaning.specs.Doing.{Outcome, Gives, Stops, Why, Doing}
use Rattle.qk_meaning.specs.Happening.{Which, At_site, Of_symbol, Part, Hook_kind, Hook_answer, Gives_value, Runs_task, Gives_nothing, Refuses, Answered, Happening, Did_read, Did_act, Did_log, Did_print, Entered, Used, Began, Left, Hooked, Computing, Computed_so, Took}
use Rattle.qk_meaning.specs.Running.{Running, Hooking, Outside, Mounting, Again, Told}
use Rattle.qk_meaning.specs.Trace.{locs_of}
use Rattle.qk_meaning.specs.Ties.{Ties, Paired, Stands, Found_stands, Pairwise, Object_stands, Loc_stands}
use Rattle.qk_meaning.specs.Worlds_stand.{Heaps_stand, Start, At, Logs_stand, Hooks_stand, Instances_stand}

-- ---- names

-- the names that code at a place may use: those declared around it in its function, the latest first;
-- those that its function uses and doesn't declare, and those of them that it captures
pub record Reach : Type 0 where
  pub own : List Text
  pub free : List Text
  pub captured : List Text

abbrev pub deeper : List Text → Reach → Reach
deeper names r = record { own = around names r.own; free = r.free; captured = r.captured }

abbrev pub is_reached : Reach → Text → Bool
is_reached r name = elim (is_listed name r.own) [ true ↦ true | false ↦ is_listed name r.free ]

abbrev pub is_local : Reach → Text → Bool
is_local r name = elim (is_listed name r.own) [ true ↦ true | false ↦ is_listed name r.captured ]

-- the scope around a function, on both sides: the names that the function uses mean the same, and the captured ones of them alone are there
pub record Scopes_stand (t : Ties) (free captured : List Text) (f g : Fields) : Type 0 where
  pub alike : (name : Text) → is_listed name free ≡ true → Found_stands t (found name f) (found name g)
  pub held : (name : Text) → is_listed name free ≡ true → has_field name f ≡ is_listed name captured

-- the names of the function under way: those declared in it stand one by one, around them the scope
pub data Locals_stand (t : Ties) (free captured : List Text) : List Text → Fields → Fields → Type 0 where
  outer_names : {f g : Fields} → Scopes_stand t free captured f g → Locals_stand t free captured [] f g
  own_name : {name : Text} {v w : Value} {names : List Text} {f g : Fields} → Stands t v w → Locals_stand t free captured names f g → Locals_stand t free captured (name ∷ names) (field name v f) (field name w g)

-- ---- what has happened

pub data Whichs_stand (t : Ties) : Which → Which → Type 0 where
  both_sites : {site : Site} → t.sites.stays site ≡ true → Whichs_stand t (At_site site) (At_site (t.sites.other site))
  site_and_symbol : {site : Site} → t.sites.lifts site ≡ true → Whichs_stand t (At_site site) (Of_symbol (t.sites.symbol site))
  both_symbols : {symbol : Text} → t.sites.symbols ≡ true → Whichs_stand t (Of_symbol symbol) (Of_symbol symbol)

pub data Hook_answers_stand (t : Ties) : Hook_answer → Hook_answer → Type 0 where
  gives_value : {v w : Value} → Stands t v w → Hook_answers_stand t (Gives_value v) (Gives_value w)
  runs_task : {v w : Value} → Stands t v w → Hook_answers_stand t (Runs_task v) (Runs_task w)
  gives_nothing : Hook_answers_stand t Gives_nothing Gives_nothing
  refuses : {f : Fault} → Hook_answers_stand t (Refuses f) (Refuses f)

-- one answer, and objects made for it that stand for one another one by one
pub record Answers_stand (t : Ties) (a b : Answered) : Type 0 where
  pub answer : Hook_answers_stand t a.answer b.answer
  pub made : Pairwise (Object_stands t) a.made b.made

-- a name of a root is used on both sides, in whichever file its code stands there
pub data Happenings_stand (t : Ties) (b : Start) : Happening → Happening → Type 0 where
  both_read : {l m : Loc} {n n' : ℕ} → Loc_stands t l m → At b n n' → Happenings_stand t b (Did_read (record { loc = l; at = n })) (Did_read (record { loc = m; at = n' }))
  both_act : {x y : ℕ} → Paired t.pairing x y → Happenings_stand t b (Did_act x) (Did_act y)
  both_log : {l m : Loc} → Loc_stands t l m → Happenings_stand t b (Did_log l) (Did_log m)
  both_print : {line : Text} → Happenings_stand t b (Did_print line) (Did_print line)
  both_entered : {w w' : Which} → Whichs_stand t w w' → Happenings_stand t b (Entered w) (Entered w')
  both_used : {file file' name : Text} → Happenings_stand t b (Used file name) (Used file' name)
  both_began : {part : Part} → Happenings_stand t b (Began part) (Began part)
  both_left : {part : Part} → Happenings_stand t b (Left part) (Left part)
  both_hooked : {kind : Hook_kind} {vs ws : List Value} {x y : Answered} → Pairwise (Stands t) vs ws → Answers_stand t x y → Happenings_stand t b (Hooked kind vs x) (Hooked kind ws y)
  both_computing : {x y : ℕ} → Paired t.pairing x y → Happenings_stand t b (Computing x) (Computing y)
  both_computed : {x y : ℕ} {v w : Value} → Paired t.pairing x y → Stands t v w → Happenings_stand t b (Computed_so x v) (Computed_so y w)
  both_took : {x y : ℕ} {v w : Value} {reads reads' : List Read} → Paired t.pairing x y → Stands t v w → Pairwise (Loc_stands t) (locs_of reads) (locs_of reads') →
      Happenings_stand t b (Took x v reads) (Took y w reads')

-- ---- states and outcomes

pub data Hookings_stand (t : Ties) (b : Start) : Hooking → Hooking → Type 0 where
  both_outside : Hookings_stand t b Outside Outside
  both_mounting : {path : List Step} {before before' : List Instance} {so_far so_far' : List Hook} → Pairwise (Instances_stand t b) before before' → Pairwise (Hooks_stand t b) so_far so_far' →
      Hookings_stand t b (Mounting path before so_far) (Mounting path before' so_far')
  both_again : {rest rest' : List Hook} → Pairwise (Hooks_stand t b) rest rest' → Hookings_stand t b (Again rest) (Again rest')
  both_told : {rest rest' : List Answered} → Pairwise (Answers_stand t) rest rest' → Hookings_stand t b (Told rest) (Told rest')

-- what is left of running behind it, whether it gave or stopped
pub record Left_stands (t : Ties) (b : Start) (s s' : Running) : Type 0 where
  pub heap : Heaps_stand t s.heap s'.heap
  pub log : Logs_stand t b s.log s'.log
  pub lines : s.lines ≡ s'.lines
  pub turns : s.turns ≡ s'.turns
  pub trace : Pairwise (Happenings_stand t b) s.trace s'.trace

-- states in which code at a place runs
pub record Running_stands (t : Ties) (b : Start) (r : Reach) (s s' : Running) : Type 0 where
  pub left : Left_stands t b s s'
  pub locals : Locals_stand t r.free r.captured r.own s.locals s'.locals
  pub hooking : Hookings_stand t b s.hooking s'.hooking

-- both give, and what they give and leave is related; or both stop alike, and what they leave is related
pub data Agree (t : Ties) (b : Start) (r : Reach) {A B : Type 0} (R : A → B → Type 0) : Outcome Running A → Outcome Running B → Type 0 where
  both_give : {x : A} {y : B} {s s' : Running} → R x y → Running_stands t b r s s' → Agree t b r R (Gives x s) (Gives y s')
  both_stop : {why : Why} {s s' : Running} → Left_stands t b s s' → Agree t b r R (Stops why s) (Stops why s')

-- from states that stand for one another the doings agree
abbrev pub Doings_stand : Ties → Start → Reach → (A B : Type 0) → (A → B → Type 0) → Doing Running A → Doing Running B → Type 0
Doings_stand t b r A B R m m' = (s s' : Running) → Running_stands t b r s s' → Agree t b r R (m s) (m' s')
