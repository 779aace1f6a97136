use Rattle.std.proofs.Common.{◌≤◌, ℕ, ◌+◌, ◌*◌, max, drop, Result, List}
use Rattle.qk_ast.specs.Texts.{Text}
use Rattle.qk_value.specs.declared.value.Value.{Value, Fun as Function}
use Rattle.qk_code.specs.declared.stop.Stop.{Stop}
use Rattle.qk_base.specs.Left.{Left}
use Rattle.qk_meaning.specs.Value.{Fields}
use Rattle.qk_meaning.specs.World.{Object}
use Rattle.qk_meaning.specs.Program.{Program}
use Rattle.qk_meaning.specs.Doing.{each}
use Rattle.qk_meaning.specs.Flow.{repeated, repeated_for}
use Rattle.qk_meaning.specs.Methods.{called_on_each, numbered}
use Rattle.qk_meaning.specs.References.{all_bound, fields_bound}
use Rattle.qk_meaning.specs.Evaluation.{ran}
use Rattle.qk_meaning.specs.In_order.{value_in, values_in, hole_text, fields_in, operands_chained, links_followed, statements_ran, block_ran}
use Rattle.qk_ast.specs.declared.Expr.TheVariants as ex
use Rattle.qk_ast.specs.declared.Stmt.TheVariants as st
use Rattle.qk_code.specs.World.{world}
use Rattle.qk_code.specs.Ran.{Ran}
use Rattle.qk_eval.specs.declared.reference.Reference.{Reference}
use Rattle.qk_eval.specs.declared.flow.Flow.{Flow}
use Rattle.qk_eval.specs.Placing.{setting, known}
use Rattle.qk_eval.specs.Standing.{standing, with_scope}
use Rattle.qk_eval.specs.Seeing.{value_seen, values_seen, fields_seen, texts_seen, reference_seen, flow_seen, nothing}
use Rattle.qk_eval.specs.Lists.{each_after, fields_after, turn_ran, each_ran}
use Rattle.qk_eval.proofs.Loops.{item_called}
use denote.Param.Weighed.{most}
use Rattle.qk_ast.specs.declared.Expr.{size-Expr}
use Rattle.qk_ast.specs.declared.Field.{size-Field}
use Rattle.qk_ast.specs.declared.Operand.{size-Operand}
use Rattle.qk_ast.specs.declared.Link.{size-Link}
use Rattle.qk_ast.specs.declared.Stmt.{size-Stmt}
use Rattle.qk_ast.specs.declared.Body.{size-Body}
use Rattle.qk_ast.specs.declared.Arrow.{size-Arrow}
use Rattle.qk_ast.specs.declared.Jsx.{size-Jsx}
use Rattle.qk_eval.proofs.evaluation.+evaluate.Given as goal

-- the levels below a place count most, then the depth of what is evaluated
abbrev order : ℕ → ℕ → ℕ → ℕ
order levels size rank = 16 * (levels * 1000001 + size) + rank

abbrev pub decreases-value : goal.decreases-value
decreases-value g l = order l.here.now.levels (size-Expr l.e.now) 4

abbrev pub decreases-refer : goal.decreases-refer
decreases-refer g l = order l.here.now.levels (size-Expr l.e.now) 5

abbrev pub decreases-name_value : goal.decreases-name_value
decreases-name_value g l = order l.here.now.levels 0 4

abbrev pub decreases-post_value : goal.decreases-post_value
decreases-post_value g l = order l.here.now.levels (max (size-Expr l.head.now) (most (λ x. size-Link x) l.links.now)) 7

abbrev pub decreases-chain_value : goal.decreases-chain_value
decreases-chain_value g l = order l.here.now.levels (max (size-Expr l.first.now) (most (λ x. size-Operand x) l.rest.now)) 6

abbrev pub decreases-list_value : goal.decreases-list_value
decreases-list_value g l = order l.here.now.levels (most (λ x. size-Expr x) l.items.now) 7

abbrev pub decreases-record_value : goal.decreases-record_value
decreases-record_value g l = order l.here.now.levels (most (λ x. size-Field x) l.fields.now) 7

abbrev pub decreases-field_values : goal.decreases-field_values
decreases-field_values g l = order l.here.now.levels (most (λ x. size-Field x) l.fields.now) 6

abbrev pub decreases-template_value : goal.decreases-template_value
decreases-template_value g l = order l.here.now.levels (most (λ x. size-Expr x) l.holes.now) 7

abbrev pub decreases-hole_texts : goal.decreases-hole_texts
decreases-hole_texts g l = order l.here.now.levels (most (λ x. size-Expr x) l.holes.now) 6

abbrev pub decreases-unary_value : goal.decreases-unary_value
decreases-unary_value g l = order l.here.now.levels (size-Expr l.e.now) 6

abbrev pub decreases-chain_one : goal.decreases-chain_one
decreases-chain_one g l = order l.here.now.levels (size-Operand l.operand.now) 5

abbrev pub decreases-cond_value : goal.decreases-cond_value
decreases-cond_value g l = order l.here.now.levels (max (size-Expr l.condition.now) (max (size-Expr l.then.now) (size-Expr l.otherwise.now))) 6

abbrev pub decreases-assign : goal.decreases-assign
decreases-assign g l = order l.here.now.levels (max (size-Expr l.target.now) (size-Expr l.e.now)) 7

abbrev pub decreases-old_value : goal.decreases-old_value
decreases-old_value g l = order l.here.now.levels 0 4

abbrev pub decreases-step : goal.decreases-step
decreases-step g l = order l.here.now.levels (size-Expr l.target.now) 6

abbrev pub decreases-known_value : goal.decreases-known_value
decreases-known_value g l = order l.here.now.levels (most (λ x. size-Expr x) l.arguments.now) 7

abbrev pub decreases-jsx_value : goal.decreases-jsx_value
decreases-jsx_value g l = order l.here.now.levels (size-Jsx l.jsx.now) 6

abbrev pub decreases-refer_post : goal.decreases-refer_post
decreases-refer_post g l = order l.here.now.levels (max (size-Expr l.head.now) (most (λ x. size-Link x) l.links.now)) 6

abbrev pub decreases-follow : goal.decreases-follow
decreases-follow g l = order l.here.now.levels (most (λ x. size-Link x) l.links.now) 5

abbrev pub decreases-follow_link : goal.decreases-follow_link
decreases-follow_link g l = order l.here.now.levels (size-Link l.link.now) 4

abbrev pub decreases-follow_name : goal.decreases-follow_name
decreases-follow_name g l = order l.here.now.levels 0 4

abbrev pub decreases-follow_key : goal.decreases-follow_key
decreases-follow_key g l = order l.here.now.levels (size-Expr l.key.now) 6

abbrev pub decreases-follow_call : goal.decreases-follow_call
decreases-follow_call g l = order l.here.now.levels (most (λ x. size-Expr x) l.arguments.now) 8

abbrev pub decreases-callee : goal.decreases-callee
decreases-callee g l = order l.here.now.levels 0 4

abbrev pub decreases-member_callee : goal.decreases-member_callee
decreases-member_callee g l = order l.here.now.levels 0 3

abbrev pub decreases-call_of : goal.decreases-call_of
decreases-call_of g l = order l.here.now.levels (most (λ x. size-Expr x) l.arguments.now) 7

abbrev pub decreases-lifted : goal.decreases-lifted
decreases-lifted g l = order l.here.now.levels (most (λ x. size-Expr x) l.arguments.now) 6

abbrev pub decreases-values : goal.decreases-values
decreases-values g l = order l.here.now.levels (most (λ x. size-Expr x) l.all.now) 6

abbrev pub decreases-call : goal.decreases-call
decreases-call g l = order l.here.now.levels 0 6

abbrev pub decreases-call_value : goal.decreases-call_value
decreases-call_value g l = order l.here.now.levels 0 1

abbrev pub decreases-call_method : goal.decreases-call_method
decreases-call_method g l = order l.here.now.levels 0 5

abbrev pub decreases-map : goal.decreases-map
decreases-map g l = order l.here.now.levels 0 4

abbrev pub decreases-filter : goal.decreases-filter
decreases-filter g l = order l.here.now.levels 0 4

abbrev pub decreases-call_on_each : goal.decreases-call_on_each
decreases-call_on_each g l = order l.here.now.levels 0 3

abbrev pub decreases-call_hook : goal.decreases-call_hook
decreases-call_hook g l = order l.here.now.levels 0 5

abbrev pub decreases-run_task : goal.decreases-run_task
decreases-run_task g l = order l.here.now.levels 0 4

abbrev pub decreases-call_tracker : goal.decreases-call_tracker
decreases-call_tracker g l = order l.here.now.levels 0 5

abbrev pub decreases-track : goal.decreases-track
decreases-track g l = order l.here.now.levels 0 4

abbrev pub decreases-enter_value : goal.decreases-enter_value
decreases-enter_value g l = order l.here.now.levels 0 3

abbrev pub decreases-value_of : goal.decreases-value_of
decreases-value_of g l = order l.here.now.levels 0 3

abbrev pub decreases-held : goal.decreases-held
decreases-held g l = order l.here.now.levels 0 3

abbrev pub decreases-read : goal.decreases-read
decreases-read g l = order l.here.now.levels 0 2

abbrev pub decreases-computed : goal.decreases-computed
decreases-computed g l = order l.here.now.levels 0 1

abbrev pub decreases-bind_parameters : goal.decreases-bind_parameters
decreases-bind_parameters g l = order l.here.now.levels 0 6

abbrev pub decreases-bind_all : goal.decreases-bind_all
decreases-bind_all g l = order l.here.now.levels 0 5

abbrev pub decreases-bind : goal.decreases-bind
decreases-bind g l = order l.here.now.levels 0 4

abbrev pub decreases-bind_fields : goal.decreases-bind_fields
decreases-bind_fields g l = order l.here.now.levels 0 3

abbrev pub decreases-inside : goal.decreases-inside
decreases-inside g l = order l.here.now.levels (size-Arrow l.here.now.func.now.arrow) 8

abbrev pub decreases-body : goal.decreases-body
decreases-body g l = order l.here.now.levels (size-Body l.b.now) 4

abbrev pub decreases-run_all : goal.decreases-run_all
decreases-run_all g l = order l.here.now.levels (most (λ x. size-Stmt x) l.statements.now) 5

abbrev pub decreases-run : goal.decreases-run
decreases-run g l = order l.here.now.levels (size-Stmt l.statement.now) 4

abbrev pub decreases-run_do : goal.decreases-run_do
decreases-run_do g l = order l.here.now.levels (size-Expr l.e.now) 6

abbrev pub decreases-run_delete : goal.decreases-run_delete
decreases-run_delete g l = order l.here.now.levels (size-Expr l.target.now) 6

abbrev pub decreases-run_const : goal.decreases-run_const
decreases-run_const g l = order l.here.now.levels (size-Expr l.e.now) 6

abbrev pub decreases-run_let : goal.decreases-run_let
decreases-run_let g l = order l.here.now.levels (size-Expr l.e.now) 6

abbrev pub decreases-run_return : goal.decreases-run_return
decreases-run_return g l = order l.here.now.levels (goal.size-run_return g l) 6

abbrev pub decreases-run_if : goal.decreases-run_if
decreases-run_if g l = order l.here.now.levels (max (size-Expr l.condition.now) (max (most (λ x. size-Stmt x) l.then.now) (most (λ x. size-Stmt x) l.otherwise.now))) 7

abbrev pub decreases-run_while : goal.decreases-run_while
decreases-run_while g l = order l.here.now.levels (max (size-Expr l.condition.now) (most (λ x. size-Stmt x) l.statements.now)) 8

abbrev pub decreases-run_for : goal.decreases-run_for
decreases-run_for g l = order l.here.now.levels (max (size-Expr l.e.now) (most (λ x. size-Stmt x) l.statements.now)) 9

abbrev pub decreases-run_each : goal.decreases-run_each
decreases-run_each g l = order l.here.now.levels (most (λ x. size-Stmt x) l.statements.now) 8

abbrev pub decreases-run_turn : goal.decreases-run_turn
decreases-run_turn g l = order l.here.now.levels (most (λ x. size-Stmt x) l.statements.now) 7

abbrev pub decreases-run_block : goal.decreases-run_block
decreases-run_block g l = order l.here.now.levels (most (λ x. size-Stmt x) l.statements.now) 6

abbrev pub decreases-enter : goal.decreases-enter
decreases-enter g l = order l.levels 0 0

abbrev pub decreases-enter_arrow : goal.decreases-enter_arrow
decreases-enter_arrow g l = order l.levels (size-Arrow l.func.now.arrow) 9

abbrev pub decreases-run_while-loop-v : goal.decreases-run_while-loop-v
decreases-run_while-loop-v g l = l.machine.meter.turns

abbrev pub invariant-follow-loop-link : goal.invariant-follow-loop-link
invariant-follow-loop-link g l =
    (r : Result (Reference) Stop) (code : g.row.C.Denot) (left : Left) (heap : Program → List Object) (scope : Program → Fields) (host : g.row.H.Denot)
    → Ran g.C.Code.form l.here.hooked (known l.here) reference_seen (λ p. links_followed (setting l.here p) (drop l.link-index l.links) (reference_seen p l.at)) (standing (g.C.Code.sources l.code) (g.C.Code.counts l.code) (g.C.Code.asked l.code) l.machine l.scope.names.items (g.H.Watch.stands_for l.host)) r (world (g.C.Code.sources code) (g.C.Code.counts code) (g.C.Code.asked code) left heap scope (g.H.Watch.stands_for host))
    → Ran g.C.Code.form l.here.hooked (known l.here) reference_seen (λ p. links_followed (setting l.here p) l.links (reference_seen p l.fn.r)) (standing (g.C.Code.sources l.fn.code) (g.C.Code.counts l.fn.code) (g.C.Code.asked l.fn.code) l.fn.machine l.fn.scope.names.items (g.H.Watch.stands_for l.fn.host)) r (world (g.C.Code.sources code) (g.C.Code.counts code) (g.C.Code.asked code) left heap scope (g.H.Watch.stands_for host))

abbrev pub invariant-values-loop-e : goal.invariant-values-loop-e
invariant-values-loop-e g l =
    (r : Result (List Value) Stop) (code : g.row.C.Denot) (left : Left) (heap : Program → List Object) (scope : Program → Fields) (host : g.row.H.Denot)
    → Ran g.C.Code.form l.here.hooked (known l.here) values_seen (λ p. each_after (value_in (setting l.here p)) (values_seen p l.done) (drop l.e-index l.all)) (standing (g.C.Code.sources l.code) (g.C.Code.counts l.code) (g.C.Code.asked l.code) l.machine l.scope.names.items (g.H.Watch.stands_for l.host)) r (world (g.C.Code.sources code) (g.C.Code.counts code) (g.C.Code.asked code) left heap scope (g.H.Watch.stands_for host))
    → Ran g.C.Code.form l.here.hooked (known l.here) values_seen (λ p. values_in (setting l.here p) l.all) (standing (g.C.Code.sources l.fn.code) (g.C.Code.counts l.fn.code) (g.C.Code.asked l.fn.code) l.fn.machine l.fn.scope.names.items (g.H.Watch.stands_for l.fn.host)) r (world (g.C.Code.sources code) (g.C.Code.counts code) (g.C.Code.asked code) left heap scope (g.H.Watch.stands_for host))

abbrev pub invariant-hole_texts-loop-hole : goal.invariant-hole_texts-loop-hole
invariant-hole_texts-loop-hole g l =
    (r : Result (List Text) Stop) (code : g.row.C.Denot) (left : Left) (heap : Program → List Object) (scope : Program → Fields) (host : g.row.H.Denot)
    → Ran g.C.Code.form l.here.hooked (known l.here) texts_seen (λ p. each_after (hole_text (setting l.here p)) (texts_seen p l.texts) (drop l.hole-index l.holes)) (standing (g.C.Code.sources l.code) (g.C.Code.counts l.code) (g.C.Code.asked l.code) l.machine l.scope.names.items (g.H.Watch.stands_for l.host)) r (world (g.C.Code.sources code) (g.C.Code.counts code) (g.C.Code.asked code) left heap scope (g.H.Watch.stands_for host))
    → Ran g.C.Code.form l.here.hooked (known l.here) texts_seen (λ p. each (hole_text (setting l.here p)) l.holes) (standing (g.C.Code.sources l.fn.code) (g.C.Code.counts l.fn.code) (g.C.Code.asked l.fn.code) l.fn.machine l.fn.scope.names.items (g.H.Watch.stands_for l.fn.host)) r (world (g.C.Code.sources code) (g.C.Code.counts code) (g.C.Code.asked code) left heap scope (g.H.Watch.stands_for host))

abbrev pub invariant-field_values-loop-field : goal.invariant-field_values-loop-field
invariant-field_values-loop-field g l =
    (r : Result (List (Text × Value)) Stop) (code : g.row.C.Denot) (left : Left) (heap : Program → List Object) (scope : Program → Fields) (host : g.row.H.Denot)
    → Ran g.C.Code.form l.here.hooked (known l.here) fields_seen (λ p. fields_after (setting l.here p) (fields_seen p l.done) (drop l.field-index l.fields)) (standing (g.C.Code.sources l.code) (g.C.Code.counts l.code) (g.C.Code.asked l.code) l.machine l.scope.names.items (g.H.Watch.stands_for l.host)) r (world (g.C.Code.sources code) (g.C.Code.counts code) (g.C.Code.asked code) left heap scope (g.H.Watch.stands_for host))
    → Ran g.C.Code.form l.here.hooked (known l.here) fields_seen (λ p. fields_in (setting l.here p) l.fields) (standing (g.C.Code.sources l.fn.code) (g.C.Code.counts l.fn.code) (g.C.Code.asked l.fn.code) l.fn.machine l.fn.scope.names.items (g.H.Watch.stands_for l.fn.host)) r (world (g.C.Code.sources code) (g.C.Code.counts code) (g.C.Code.asked code) left heap scope (g.H.Watch.stands_for host))

abbrev pub invariant-chain_value-loop-operand : goal.invariant-chain_value-loop-operand
invariant-chain_value-loop-operand g l =
    (r : Result (Value) Stop) (code : g.row.C.Denot) (left : Left) (heap : Program → List Object) (scope : Program → Fields) (host : g.row.H.Denot)
    → Ran g.C.Code.form l.here.hooked (known l.here) value_seen (λ p. operands_chained (setting l.here p) (drop l.operand-index l.rest) (value_seen p l.v)) (standing (g.C.Code.sources l.code) (g.C.Code.counts l.code) (g.C.Code.asked l.code) l.machine l.scope.names.items (g.H.Watch.stands_for l.host)) r (world (g.C.Code.sources code) (g.C.Code.counts code) (g.C.Code.asked code) left heap scope (g.H.Watch.stands_for host))
    → Ran g.C.Code.form l.here.hooked (known l.here) value_seen (λ p. value_in (setting l.here p) (ex.Chain l.first l.rest)) (standing (g.C.Code.sources l.fn.code) (g.C.Code.counts l.fn.code) (g.C.Code.asked l.fn.code) l.fn.machine l.fn.scope.names.items (g.H.Watch.stands_for l.fn.host)) r (world (g.C.Code.sources code) (g.C.Code.counts code) (g.C.Code.asked code) left heap scope (g.H.Watch.stands_for host))

abbrev pub invariant-call_on_each-loop-i : goal.invariant-call_on_each-loop-i
invariant-call_on_each-loop-i g l =
    (outer : Program → Fields) (r : Result (List Value) Stop) (code : g.row.C.Denot) (left : Left) (heap : Program → List Object) (scope : Program → Fields) (host : g.row.H.Denot)
    → Ran g.C.Code.form l.here.hooked (known l.here) values_seen (λ p. each_after (item_called (setting l.here p) (value_seen p (Function l.f))) (values_seen p l.results) (numbered l.i (values_seen p (drop l.i l.items)))) (with_scope (g.C.Code.sources l.code) (g.C.Code.counts l.code) (g.C.Code.asked l.code) l.machine outer (g.H.Watch.stands_for l.host)) r (world (g.C.Code.sources code) (g.C.Code.counts code) (g.C.Code.asked code) left heap scope (g.H.Watch.stands_for host))
    → Ran g.C.Code.form l.here.hooked (known l.here) values_seen (λ p. called_on_each (setting l.here p) (value_seen p (Function l.f)) (values_seen p l.items)) (with_scope (g.C.Code.sources l.fn.code) (g.C.Code.counts l.fn.code) (g.C.Code.asked l.fn.code) l.fn.machine outer (g.H.Watch.stands_for l.fn.host)) r (world (g.C.Code.sources code) (g.C.Code.counts code) (g.C.Code.asked code) left heap scope (g.H.Watch.stands_for host))

abbrev pub invariant-bind_all-loop-i : goal.invariant-bind_all-loop-i
invariant-bind_all-loop-i g l =
    (r : Result (Unit {0}) Stop) (code : g.row.C.Denot) (left : Left) (heap : Program → List Object) (scope : Program → Fields) (host : g.row.H.Denot)
    → Ran g.C.Code.form l.here.hooked (known l.here) nothing (λ p. all_bound (setting l.here p) (drop l.i l.patterns) (drop l.i (values_seen p l.given))) (standing (g.C.Code.sources l.code) (g.C.Code.counts l.code) (g.C.Code.asked l.code) l.machine l.scope.names.items (g.H.Watch.stands_for l.host)) r (world (g.C.Code.sources code) (g.C.Code.counts code) (g.C.Code.asked code) left heap scope (g.H.Watch.stands_for host))
    → Ran g.C.Code.form l.here.hooked (known l.here) nothing (λ p. all_bound (setting l.here p) l.patterns (values_seen p l.given)) (standing (g.C.Code.sources l.fn.code) (g.C.Code.counts l.fn.code) (g.C.Code.asked l.fn.code) l.fn.machine l.fn.scope.names.items (g.H.Watch.stands_for l.fn.host)) r (world (g.C.Code.sources code) (g.C.Code.counts code) (g.C.Code.asked code) left heap scope (g.H.Watch.stands_for host))

abbrev pub invariant-bind_fields-loop-name : goal.invariant-bind_fields-loop-name
invariant-bind_fields-loop-name g l =
    (r : Result (Unit {0}) Stop) (code : g.row.C.Denot) (left : Left) (heap : Program → List Object) (scope : Program → Fields) (host : g.row.H.Denot)
    → Ran g.C.Code.form l.here.hooked (known l.here) nothing (λ p. fields_bound (setting l.here p) (drop l.name-index l.names) (value_seen p l.v)) (standing (g.C.Code.sources l.code) (g.C.Code.counts l.code) (g.C.Code.asked l.code) l.machine l.scope.names.items (g.H.Watch.stands_for l.host)) r (world (g.C.Code.sources code) (g.C.Code.counts code) (g.C.Code.asked code) left heap scope (g.H.Watch.stands_for host))
    → Ran g.C.Code.form l.here.hooked (known l.here) nothing (λ p. fields_bound (setting l.here p) l.names (value_seen p l.v)) (standing (g.C.Code.sources l.fn.code) (g.C.Code.counts l.fn.code) (g.C.Code.asked l.fn.code) l.fn.machine l.fn.scope.names.items (g.H.Watch.stands_for l.fn.host)) r (world (g.C.Code.sources code) (g.C.Code.counts code) (g.C.Code.asked code) left heap scope (g.H.Watch.stands_for host))

abbrev pub invariant-run_all-loop-statement : goal.invariant-run_all-loop-statement
invariant-run_all-loop-statement g l =
    (r : Result (Flow) Stop) (code : g.row.C.Denot) (left : Left) (heap : Program → List Object) (scope : Program → Fields) (host : g.row.H.Denot)
    → Ran g.C.Code.form l.here.hooked (known l.here) flow_seen (λ p. statements_ran (setting l.here p) (drop l.statement-index l.statements)) (standing (g.C.Code.sources l.code) (g.C.Code.counts l.code) (g.C.Code.asked l.code) l.machine l.scope.names.items (g.H.Watch.stands_for l.host)) r (world (g.C.Code.sources code) (g.C.Code.counts code) (g.C.Code.asked code) left heap scope (g.H.Watch.stands_for host))
    → Ran g.C.Code.form l.here.hooked (known l.here) flow_seen (λ p. statements_ran (setting l.here p) l.statements) (standing (g.C.Code.sources l.fn.code) (g.C.Code.counts l.fn.code) (g.C.Code.asked l.fn.code) l.fn.machine l.fn.scope.names.items (g.H.Watch.stands_for l.fn.host)) r (world (g.C.Code.sources code) (g.C.Code.counts code) (g.C.Code.asked code) left heap scope (g.H.Watch.stands_for host))

abbrev pub invariant-run_each-loop-item : goal.invariant-run_each-loop-item
invariant-run_each-loop-item g l =
    (r : Result (Flow) Stop) (code : g.row.C.Denot) (left : Left) (heap : Program → List Object) (scope : Program → Fields) (host : g.row.H.Denot)
    → Ran g.C.Code.form l.here.hooked (known l.here) flow_seen (λ p. repeated_for (turn_ran (setting l.here p) l.name l.statements) (values_seen p (drop l.item-index l.items))) (standing (g.C.Code.sources l.code) (g.C.Code.counts l.code) (g.C.Code.asked l.code) l.machine l.scope.names.items (g.H.Watch.stands_for l.host)) r (world (g.C.Code.sources code) (g.C.Code.counts code) (g.C.Code.asked code) left heap scope (g.H.Watch.stands_for host))
    → Ran g.C.Code.form l.here.hooked (known l.here) flow_seen (λ p. each_ran (setting l.here p) l.name l.statements (values_seen p l.items)) (standing (g.C.Code.sources l.fn.code) (g.C.Code.counts l.fn.code) (g.C.Code.asked l.fn.code) l.fn.machine l.fn.scope.names.items (g.H.Watch.stands_for l.fn.host)) r (world (g.C.Code.sources code) (g.C.Code.counts code) (g.C.Code.asked code) left heap scope (g.H.Watch.stands_for host))

abbrev pub invariant-run_while-loop-v : goal.invariant-run_while-loop-v
invariant-run_while-loop-v g l =
    (k : ℕ) × (l.machine.meter.turns ≤ k) × ((r : Result (Flow) Stop) (code : g.row.C.Denot) (left : Left) (heap : Program → List Object) (scope : Program → Fields) (host : g.row.H.Denot)
    → Ran g.C.Code.form l.here.hooked (known l.here) flow_seen (λ p. repeated k (value_in (setting l.here p) l.condition) (block_ran (setting l.here p) l.statements)) (standing (g.C.Code.sources l.code) (g.C.Code.counts l.code) (g.C.Code.asked l.code) l.machine l.scope.names.items (g.H.Watch.stands_for l.host)) r (world (g.C.Code.sources code) (g.C.Code.counts code) (g.C.Code.asked code) left heap scope (g.H.Watch.stands_for host))
    → Ran g.C.Code.form l.here.hooked (known l.here) flow_seen (λ p. ran (st.While l.condition l.statements) (setting l.here p)) (standing (g.C.Code.sources l.fn.code) (g.C.Code.counts l.fn.code) (g.C.Code.asked l.fn.code) l.fn.machine l.fn.scope.names.items (g.H.Watch.stands_for l.fn.host)) r (world (g.C.Code.sources code) (g.C.Code.counts code) (g.C.Code.asked code) left heap scope (g.H.Watch.stands_for host)))
