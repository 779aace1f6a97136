-- What the listener does.
use Rattle.std.specs.Prelude.{◌≡◌, ℕ, suc, ℤ, pos, ◌+ℤ◌, ◌-ℤ◌, Bool, true, false, List, [], ◌∷◌, ◌++◌, length, codes}
use Rattle.qk_meaning.specs.Value.{Text, Site, Value, Int, Ref, end, field}
use Rattle.std.proofs.Common.{ap}
use Rattle.qk_meaning.specs.World.{Key, Props, Signal, Loc, Prop}
use Rattle.qk_ast.specs.Texts.{same_text}
use Rattle.qk_meaning.specs.Parts.{value_at, found, has_field}
use Rattle.qk_meaning.specs.Same.{same_integer}
use Rattle.qk_meaning.specs.Program.{Program, Code}
use Rattle.qk_meaning.specs.Doing.{Gives}
use Rattle.qk_meaning.specs.Happening.{At_site, Happening, Did_read, Did_act, Did_log, Entered}
use Rattle.qk_meaning.specs.Running.{Running, Effect, Outside}
use Rattle.qk_meaning.specs.Setting.{called_anew, Entering, Setting, captures}
use Rattle.qk_meaning.specs.Changes.{changed_in}
use Rattle.qk_meaning.specs.Operators.{safe, Is}
use Rattle.qk_meaning.specs.Evaluation.{entered}
use Rattle.qk_first.specs.Counter.{moved}
use Rattle.qk_first.proofs.Texts.{text_own}
use Rattle.qk_first.proofs.Words.{root, bump}

abbrev pub value_in : ℕ → Loc
value_in a = record { address = a; key = Prop (codes "value") }

-- the code of the listener
abbrev pub listener_code : Text → Bool → Code
listener_code n up = record { file = root; captures = n ∷ []; task = false; params = []; body = bump up n }

module _ (p : Program) (enter : Entering) (n : Text) where
  own : same_text n n ≡ true
  own = text_own n

  abbrev pub here : Setting
  here = record { program = p; enter = enter; computed = called_anew enter []; mode = Effect; running = []; file = root; tracks = false }

  abbrev pub counting : ℤ → List Loc → List Text → ℕ → List Happening → Running
  counting v log lines turns trace = record { heap = Props end ∷ Signal (Int v) ∷ []; log = log; lines = lines; turns = turns; trace = trace; locals = end; hooking = Outside; kept = [] }

  has_own : (v : Value) → has_field n (field n v end) ≡ true
  has_own v = rw (own, has_field)

  value_own : (v : Value) → value_at n (field n v end) ≡ v
  value_own v = rw (own, value_at, found)

  logs : (v w : ℤ) → same_integer v w ≡ false → changed_in (captures here) (Signal (Int v)) (Signal (Int w)) ≡ Prop (codes "value") ∷ []
  logs v w differs = ap entry differs
    where
      entry : Bool → List Key
      entry true = []
      entry false = Prop (codes "value") ∷ []

  up_counts : (site : Site) (arguments : List Value) (v : ℤ) (log : List Loc) (lines : List Text) (turns : ℕ)
      → safe (v +ℤ pos 1) ≡ Is (Int (v +ℤ pos 1)) → same_integer v (v +ℤ pos 1) ≡ false
      → entered (At_site site) (listener_code n true) here (field n (Ref 1) end) arguments (counting v log lines (suc turns) [])
      ≡ Gives (Int v) (counting (v +ℤ pos 1) (log ++ value_in 1 ∷ []) lines turns (Entered (At_site site) ∷ Did_read (record { loc = value_in 1; at = length log }) ∷ Did_act 1 ∷ Did_log (value_in 1) ∷ []))
  up_counts site arguments v log lines turns stays differs = rw (has_own (Ref 1), value_own (Ref 1), stays, logs v (v +ℤ pos 1) differs)

  down_counts : (site : Site) (arguments : List Value) (v : ℤ) (log : List Loc) (lines : List Text) (turns : ℕ)
      → safe (v -ℤ pos 1) ≡ Is (Int (v -ℤ pos 1)) → same_integer v (v -ℤ pos 1) ≡ false
      → entered (At_site site) (listener_code n false) here (field n (Ref 1) end) arguments (counting v log lines (suc turns) [])
      ≡ Gives (Int v) (counting (v -ℤ pos 1) (log ++ value_in 1 ∷ []) lines turns (Entered (At_site site) ∷ Did_read (record { loc = value_in 1; at = length log }) ∷ Did_act 1 ∷ Did_log (value_in 1) ∷ []))
  down_counts site arguments v log lines turns stays differs = rw (has_own (Ref 1), value_own (Ref 1), stays, logs v (v -ℤ pos 1) differs)

  pub counts : (up : Bool) (site : Site) (arguments : List Value) (v : ℤ) (log : List Loc) (lines : List Text) (turns : ℕ)
      → safe (moved up v) ≡ Is (Int (moved up v)) → same_integer v (moved up v) ≡ false
      → entered (At_site site) (listener_code n up) here (field n (Ref 1) end) arguments (counting v log lines (suc turns) [])
      ≡ Gives (Int v) (counting (moved up v) (log ++ value_in 1 ∷ []) lines turns (Entered (At_site site) ∷ Did_read (record { loc = value_in 1; at = length log }) ∷ Did_act 1 ∷ Did_log (value_in 1) ∷ []))
  counts true site arguments v log lines turns stays differs = up_counts site arguments v log lines turns stays differs
  counts false site arguments v log lines turns stays differs = down_counts site arguments v log lines turns stays differs
