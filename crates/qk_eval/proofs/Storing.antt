-- What is stored under a local name, what is marked, and when a name is no tracker.
use Rattle.std.proofs.Common.{◌≡◌, ℕ, List, [], ◌∷◌, ◌&&◌, Bool, true, false, Result, Ok, refl, ap, ◌∙◌}
use Rattle.qk_ast.specs.declared.Form.{Form}
use Rattle.qk_ast.specs.Texts.{Text}
use Rattle.qk_meaning.specs.Value.{Fields}
use Rattle.qk_meaning.specs.Parts.{replaced}
use Rattle.qk_meaning.specs.Program.{Program, captures_in}
use Rattle.qk_meaning.specs.Doing.{Gives, give}
use Rattle.qk_meaning.specs.Running.{answered}
use Rattle.qk_meaning.specs.Setting.{Setting}
use Rattle.qk_meaning.specs.References as Refs
use Rattle.qk_meaning.specs.References.{stored}
use Rattle.qk_meaning.specs.Calls.{The_mark, call, marked}
use Rattle.qk_value.specs.declared.value.Value.{Value}
use Rattle.qk_value.specs.declared.value.Addr.{Addr}
use Rattle.qk_heap.specs.declared.object.Object.{Object}
use Rattle.qk_heap.specs.Seen.{heap_seen}
use Rattle.qk_code.specs.declared.func.Func.{Func}
use Rattle.qk_code.specs.declared.mode.Mode.{Mode}
use Rattle.qk_code.specs.declared.stop.Stop.{Stop}
use Rattle.qk_code.specs.World.{World, state}
use Rattle.qk_code.specs.Ran.{Ran}
use Rattle.qk_code.proofs.Runs.{ran_moved, ran_gives}
use Rattle.qk_making.specs.Acting.{Leaves, seen_in}
use Rattle.qk_making.proofs.Acting.{acts_left}
use Rattle.qk_eval.specs.Placing.{setting_so}
use Rattle.qk_eval.specs.Seeing.{value_seen, values_seen, nothing}
use Rattle.qk_eval.proofs.Acted.{ran_acts}
use Rattle.qk_eval.proofs.Hooking.{ran_call_mark}

pub not_first : (a b : Bool) → a ≡ false → (a && b) ≡ false
not_first a b not = rw not refl

pub not_second : (a b : Bool) → b ≡ false → (a && b) ≡ false
not_second true b not = not
not_second false b not = refl

module _ (form : Form) (hooked : Bool) (given : Program → Type 0) where
  -- a local name is given a value
  pub ran_stored : (set : Program → Setting) (w : World) (name : Text) (x x' : Value) (scope : Program → Fields) → x' ≡ x → ((p : Program) → scope p ≡ replaced name (value_seen p x') (w.scope p))
      → Ran form hooked given nothing (λ p. stored (set p) (Refs.Local name) (value_seen p x)) w (Ok tt) (record w { scope = scope })
  ran_stored set w name x x' scope same is =
      ran_moved form hooked given nothing (λ p. give tt) _ w (record w { scope = scope }) scope _
      (λ p g past. ap {A = Fields} (λ l. Gives tt (record (state hooked p past w) { locals = l })) (is p ∙ ap (λ y. replaced name (value_seen p y) (w.scope p)) same))
      (ran_gives form hooked given nothing (λ p. give tt) (record w { scope = scope }) tt (λ p g past. refl))

  module _ (func : Func) (mode : Mode) (running : List Addr) (levels : ℕ) where
    abbrev set : Program → Setting
    set p = setting_so func mode running levels p

    -- one value is marked
    pub ran_marked : (objects : List Object) (w : World) (vs : List Value) (f : Value) (r : Result Value Stop) → ((p : Program) → w.heap p ≡ heap_seen (captures_in p) objects) → vs ≡ f ∷ []
        → ((here : Setting) → Leaves (seen_in here) (answered (marked (seen_in here f))) r)
        → Ran form hooked given value_seen (λ p. call (set p) The_mark (values_seen p vs)) w r (record w { heap = λ p. heap_seen (captures_in p) objects })
    ran_marked objects w vs f r heap one h =
        ran_call_mark form hooked given func mode running levels w (record w { heap = λ p. heap_seen (captures_in p) objects }) vs f r one
        (ran_acts form hooked given value_seen (λ p. answered (marked (value_seen p f))) objects objects w w.told r heap (λ p. acts_left _ _ _ w.told r (λ s same. h (set p) s)))
