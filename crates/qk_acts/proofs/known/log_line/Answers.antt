use Rattle.std.proofs.Common.{rules, refl, ap, sym, ◌∙◌}
use Rattle.qk_meaning.specs.Value as M
use Rattle.qk_meaning.specs.Doing.{Doing}
use Rattle.qk_meaning.specs.Running.{Running}
use Rattle.qk_meaning.specs.Setting.{captures, is_effect}
use Rattle.qk_value.specs.declared.fault.Fault.TheVariants.{TypeMismatch}
use Rattle.qk_heap.specs.Seen.{heap_seen}
use Rattle.qk_making.specs.Acting.{seen_in}
use Rattle.qk_making.proofs.Acting.{acts_faults, acts_lost}
use Rattle.qk_acts.proofs.Known_calls.{in_effect, not_in_effect, not_logged, acts_logged, acts_unlogged, acts_unfit}
use Rattle.qk_acts.proofs.known.log_line.Goals as goal

pub returns-in_default : goal.returns-in_default
returns-in_default g c = λ objects here mode_is. acts_faults (seen_in here) _ _ _ _ TypeMismatch refl (λ s same. ap (λ (m : Doing Running M.Value). m s) (not_logged here c.args.arguments.now (search rules)))

pub returns-then-ne : goal.returns-then-ne
returns-then-ne g c = λ objects here mode_is. acts_unfit here c.in-Some.v.now (heap_seen (captures here) objects) (g.H.Watch.stands_for c.args.host.now) c.args.arguments.now _ refl (search rules) (ap is_effect mode_is ∙ not_in_effect c.args.mode (sym c.if-ne.true ∙ c.ne.ensures))

pub returns-in_err-line : goal.returns-in_err-line
returns-in_err-line g c = λ objects here mode_is. acts_unlogged here c.in-Some.v.now (heap_seen (captures here) objects) (g.H.Watch.stands_for c.args.host.now) c.args.arguments.now _ c.in_err-line.field-0.0 (search rules) (search rules) (ap is_effect mode_is ∙ in_effect c.args.mode (sym c.if-ne.false ∙ c.ne.ensures)) (c.in_err-line.ensures (captures here))

pub returns-in_err-line-2 : goal.returns-in_err-line-2
returns-in_err-line-2 g c = λ objects here mode_is. acts_lost _ _ _ _ _ _ _ (search rules)

pub returns : goal.returns
returns g c = λ objects here mode_is. acts_logged here c.in-Some.v.now c.in_ok-line.line (heap_seen (captures here) objects) (g.H.Watch.stands_for c.args.host.now) _ c.args.arguments.now (search rules) (ap is_effect mode_is ∙ in_effect c.args.mode (sym c.if-ne.false ∙ c.ne.ensures)) (c.in_ok-line.ensures (captures here)) c.in_ok-line-2.ensures.told
