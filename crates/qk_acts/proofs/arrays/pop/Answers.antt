use Rattle.std.proofs.Common.{rules, refl, sym, ap, ◌∙◌, List, []}
use Rattle.qk_ast.specs.Texts.{Text}
use Rattle.qk_meaning.specs.Value as M
use Rattle.qk_meaning.specs.Value.{Site}
use Rattle.qk_meaning.specs.Doing.{Doing}
use Rattle.qk_meaning.specs.Running.{Running}
use Rattle.qk_meaning.specs.Setting.{captures}
use Rattle.qk_value.specs.declared.fault.Fault.TheVariants.{TypeMismatch}
use Rattle.qk_making.specs.Acting.{seen_in}
use Rattle.qk_making.proofs.Acting.{acts_faults, acts_lost}
use Rattle.qk_acts.proofs.Changing.{made_at, acts_open, acts_shut}
use Rattle.qk_acts.proofs.Objects.{array_held}
use Rattle.qk_acts.proofs.Array_changes.{is_none, not_none, not_popped, acts_not_popped, acts_popped}
use Rattle.qk_acts.proofs.arrays.pop.Goals as goal

pub returns-in_err-a : goal.returns-in_err-a
returns-in_err-a g c = λ here mode_is. acts_shut here c.args.mode mode_is c.args.heap.now c.args.v.now (seen_in here) _ _ _ _ (search rules) c.in_err-a.ensures

pub returns-then-not-is_empty : goal.returns-then-not-is_empty
returns-then-not-is_empty g c = λ here mode_is.
    acts_open here c.args.mode mode_is c.args.heap.now c.args.v.now (seen_in here) _ _ _ c.in_ok-a.a _ _ c.in_ok-a.ensures
    (acts_faults (seen_in here) _ _ _ _ TypeMismatch refl (λ s same. ap (λ (m : Doing Running M.Value). m s) (not_popped here (seen_in here c.args.v.now) c.args.arguments.now (not_none c.args.arguments.now (sym c.if-not-is_empty.true ∙ c.is_empty.ensures)))))

pub returns-then-not-holds_array : goal.returns-then-not-holds_array
returns-then-not-holds_array g c = λ here mode_is.
    acts_open here c.args.mode mode_is c.args.heap.now c.args.v.now (seen_in here) _ _ _ c.in_ok-a.a _ _ c.in_ok-a.ensures
    (acts_not_popped here c.args.mode mode_is c.args.heap.now c.args.v.now c.in_ok-a.a c.in_ok-a.ensures (g.H.Watch.stands_for c.args.host.now) _ c.args.arguments.now refl (is_none c.args.arguments.now (sym c.if-not-is_empty.false ∙ c.is_empty.ensures)) (sym (c.holds_array.ensures (captures here)) ∙ c.if-not-holds_array.true))

pub read_whole-requires : goal.read_whole-requires
read_whole-requires g c = made_at c.args.mode c.args.heap.now c.args.v.now c.in_ok-a.a c.in_ok-a.ensures

pub returns-in_err-read_whole : goal.returns-in_err-read_whole
returns-in_err-read_whole g c = λ here mode_is. acts_lost _ _ _ _ _ _ _ (search rules)

pub pop-requires-clause-made : goal.pop-requires-clause-made
pop-requires-clause-made g c = made_at c.args.mode c.args.heap.now c.args.v.now c.in_ok-a.a c.in_ok-a.ensures

pub pop-requires-clause-array : goal.pop-requires-clause-array
pop-requires-clause-array g c = let none : Site → List Text = λ s. [] in array_held none c.args.heap.now c.in_ok-a.a.0 (sym (c.holds_array.ensures none) ∙ c.if-not-holds_array.false)

pub returns-in_err-pop : goal.returns-in_err-pop
returns-in_err-pop g c = λ here mode_is. acts_lost _ _ _ _ _ _ _ (search rules)

pub returns : goal.returns
returns g c = λ here mode_is.
    acts_open here c.args.mode mode_is c.args.heap.now c.args.v.now (seen_in here) _ _ _ c.in_ok-a.a _ _ c.in_ok-a.ensures
    (acts_popped here c.args.mode mode_is c.args.heap.now c.args.v.now c.in_ok-a.a c.in_ok-a.ensures g.H.Watch.stands_for c.args.host.now c.read_whole.new.w c.pop.new.w c.pop.new.self (sym (c.holds_array.ensures (captures here)) ∙ c.if-not-holds_array.false) (c.in_ok-read_whole.ensures.told (captures here))
    c.in_ok-pop.field-0 c.args.arguments.now _ refl (is_none c.args.arguments.now (sym c.if-not-is_empty.false ∙ c.is_empty.ensures)) (c.in_ok-pop.ensures.became (captures here)) (c.in_ok-pop.ensures.given (captures here)))
