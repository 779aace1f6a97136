mod Forms
mod Operands
mod Links
mod Calls
mod Hooks
mod Names
mod Statements
mod Turns
use Rattle.qk_eval.proofs.evaluation.+evaluate.Answers.Forms as Forms
use Rattle.qk_eval.proofs.evaluation.+evaluate.Answers.Operands as Operands
use Rattle.qk_eval.proofs.evaluation.+evaluate.Answers.Links as Links
use Rattle.qk_eval.proofs.evaluation.+evaluate.Answers.Calls as Calls
use Rattle.qk_eval.proofs.evaluation.+evaluate.Answers.Hooks as Hooks
use Rattle.qk_eval.proofs.evaluation.+evaluate.Answers.Names as Names
use Rattle.qk_eval.proofs.evaluation.+evaluate.Answers.Statements as Statements
use Rattle.qk_eval.proofs.evaluation.+evaluate.Answers.Turns as Turns
use Rattle.qk_eval.proofs.evaluation.+evaluate.Goals as goal

pub follow_name-returns-in_err-object : goal.follow_name-returns-in_err-object
follow_name-returns-in_err-object = Links.follow_name-returns-in_err-object

pub follow_name-returns-in_err-share : goal.follow_name-returns-in_err-share
follow_name-returns-in_err-share = Links.follow_name-returns-in_err-share

pub follow_name-returns : goal.follow_name-returns
follow_name-returns = Links.follow_name-returns

pub follow_key-returns-in_err-object : goal.follow_key-returns-in_err-object
follow_key-returns-in_err-object = Links.follow_key-returns-in_err-object

pub follow_key-returns-in_err-key : goal.follow_key-returns-in_err-key
follow_key-returns-in_err-key = Links.follow_key-returns-in_err-key

pub follow_key-returns : goal.follow_key-returns
follow_key-returns = Links.follow_key-returns

pub follow_link-returns-in-Call : goal.follow_link-returns-in-Call
follow_link-returns-in-Call = Links.follow_link-returns-in-Call

pub follow_call-returns-in_err-c : goal.follow_call-returns-in_err-c
follow_call-returns-in_err-c = Links.follow_call-returns-in_err-c

pub follow_call-returns-in_err-v : goal.follow_call-returns-in_err-v
follow_call-returns-in_err-v = Links.follow_call-returns-in_err-v

pub follow_call-returns : goal.follow_call-returns
follow_call-returns = Links.follow_call-returns

pub callee-returns-in-Of : goal.callee-returns-in-Of
callee-returns-in-Of = Links.callee-returns-in-Of

pub callee-returns-in-Tracker : goal.callee-returns-in-Tracker
callee-returns-in-Tracker = Links.callee-returns-in-Tracker

pub callee-returns-in_err-v-in-Local : goal.callee-returns-in_err-v-in-Local
callee-returns-in_err-v-in-Local = Links.callee-returns-in_err-v-in-Local

pub callee-returns-in_ok-v-in-Local : goal.callee-returns-in_ok-v-in-Local
callee-returns-in_ok-v-in-Local = Links.callee-returns-in_ok-v-in-Local

pub value_of-returns-in-Of : goal.value_of-returns-in-Of
value_of-returns-in-Of = Links.value_of-returns-in-Of

pub value_of-returns-in-Member : goal.value_of-returns-in-Member
value_of-returns-in-Member = Links.value_of-returns-in-Member

pub value_of-returns-in_err-value-in-Local : goal.value_of-returns-in_err-value-in-Local
value_of-returns-in_err-value-in-Local = Links.value_of-returns-in_err-value-in-Local

pub value_of-returns-in-Local : goal.value_of-returns-in-Local
value_of-returns-in-Local = Links.value_of-returns-in-Local

pub value_of-returns-in-Tracker : goal.value_of-returns-in-Tracker
value_of-returns-in-Tracker = Links.value_of-returns-in-Tracker

pub value_of-returns : goal.value_of-returns
value_of-returns = Links.value_of-returns

pub read-returns-in_err-v : goal.read-returns-in_err-v
read-returns-in_err-v = Links.read-returns-in_err-v

pub read-returns-in-Runs : goal.read-returns-in-Runs
read-returns-in-Runs = Links.read-returns-in-Runs

pub read-returns-in_err-tell_read-in-Found : goal.read-returns-in_err-tell_read-in-Found
read-returns-in_err-tell_read-in-Found = Links.read-returns-in_err-tell_read-in-Found

pub read-returns-in_ok-tell_read-in-Found : goal.read-returns-in_ok-tell_read-in-Found
read-returns-in_ok-tell_read-in-Found = Links.read-returns-in_ok-tell_read-in-Found

pub computed-returns-then-is_under_way : goal.computed-returns-then-is_under_way
computed-returns-then-is_under_way = Links.computed-returns-then-is_under_way

pub computed-returns-in_err-running : goal.computed-returns-in_err-running
computed-returns-in_err-running = Links.computed-returns-in_err-running

pub computed-returns-in-Some : goal.computed-returns-in-Some
computed-returns-in-Some = Links.computed-returns-in-Some

pub computed-returns-in_err-began : goal.computed-returns-in_err-began
computed-returns-in_err-began = Links.computed-returns-in_err-began

pub computed-returns-in_err-finished : goal.computed-returns-in_err-finished
computed-returns-in_err-finished = Links.computed-returns-in_err-finished

pub computed-returns : goal.computed-returns
computed-returns = Links.computed-returns

pub enter-returns-then-levels-eq0 : goal.enter-returns-then-levels-eq0
enter-returns-then-levels-eq0 = Hooks.enter-returns-then-levels-eq0

pub enter-returns-then-not-take : goal.enter-returns-then-not-take
enter-returns-then-not-take = Hooks.enter-returns-then-not-take

pub body-returns-in_err-flow-in-Block : goal.body-returns-in_err-flow-in-Block
body-returns-in_err-flow-in-Block = Names.body-returns-in_err-flow-in-Block

pub body-returns-in_ok-flow-in-Block : goal.body-returns-in_ok-flow-in-Block
body-returns-in_ok-flow-in-Block = Names.body-returns-in_ok-flow-in-Block

pub body-returns-in-Value : goal.body-returns-in-Value
body-returns-in-Value = Names.body-returns-in-Value

pub run_all-loop-statement-init : goal.run_all-loop-statement-init
run_all-loop-statement-init = Statements.run_all-loop-statement-init

pub run_all-returns-in_err-flow : goal.run_all-returns-in_err-flow
run_all-returns-in_err-flow = Statements.run_all-returns-in_err-flow

pub run_all-returns-in_default : goal.run_all-returns-in_default
run_all-returns-in_default = Statements.run_all-returns-in_default

pub run_all-loop-statement-preserved : goal.run_all-loop-statement-preserved
run_all-loop-statement-preserved = Statements.run_all-loop-statement-preserved

pub run_all-returns : goal.run_all-returns
run_all-returns = Statements.run_all-returns

pub run_let-returns-in_err-v : goal.run_let-returns-in_err-v
run_let-returns-in_err-v = Statements.run_let-returns-in_err-v

pub run_let-returns : goal.run_let-returns
run_let-returns = Statements.run_let-returns

pub run_do-returns : goal.run_do-returns
run_do-returns = Statements.run_do-returns

pub run_return-returns-in-None : goal.run_return-returns-in-None
run_return-returns-in-None = Statements.run_return-returns-in-None

pub run_return-returns-in_err-v-in-Some : goal.run_return-returns-in_err-v-in-Some
run_return-returns-in_err-v-in-Some = Statements.run_return-returns-in_err-v-in-Some

pub run_return-returns-in_ok-v-in-Some : goal.run_return-returns-in_ok-v-in-Some
run_return-returns-in_ok-v-in-Some = Statements.run_return-returns-in_ok-v-in-Some

pub run-returns-in-Let : goal.run-returns-in-Let
run-returns-in-Let = Statements.run-returns-in-Let

pub run-returns-in-Const : goal.run-returns-in-Const
run-returns-in-Const = Statements.run-returns-in-Const

pub run-returns-in-If : goal.run-returns-in-If
run-returns-in-If = Statements.run-returns-in-If

pub run-returns-in-Block : goal.run-returns-in-Block
run-returns-in-Block = Statements.run-returns-in-Block

pub run-returns-in-Break : goal.run-returns-in-Break
run-returns-in-Break = Statements.run-returns-in-Break

pub run-returns-in-Continue : goal.run-returns-in-Continue
run-returns-in-Continue = Statements.run-returns-in-Continue

pub run_if-returns-in_err-v : goal.run_if-returns-in_err-v
run_if-returns-in_err-v = Statements.run_if-returns-in_err-v

pub run_if-returns-then-truthy : goal.run_if-returns-then-truthy
run_if-returns-then-truthy = Statements.run_if-returns-then-truthy

pub run_if-returns : goal.run_if-returns
run_if-returns = Statements.run_if-returns

pub run_block-returns-in_err-count : goal.run_block-returns-in_err-count
run_block-returns-in_err-count = Statements.run_block-returns-in_err-count

pub run_block-returns-in_err-flow : goal.run_block-returns-in_err-flow
run_block-returns-in_err-flow = Statements.run_block-returns-in_err-flow

pub run_block-returns : goal.run_block-returns
run_block-returns = Statements.run_block-returns

pub computed-returns-in_err-known : goal.computed-returns-in_err-known
computed-returns-in_err-known = Links.computed-returns-in_err-known

pub computed-returns-in_err-v : goal.computed-returns-in_err-v
computed-returns-in_err-v = Links.computed-returns-in_err-v

pub values-loop-e-init : goal.values-loop-e-init
values-loop-e-init = Operands.values-loop-e-init

pub values-returns-in_err-v : goal.values-returns-in_err-v
values-returns-in_err-v = Operands.values-returns-in_err-v

pub values-returns-in_err-push : goal.values-returns-in_err-push
values-returns-in_err-push = Operands.values-returns-in_err-push

pub values-loop-e-preserved : goal.values-loop-e-preserved
values-loop-e-preserved = Operands.values-loop-e-preserved

pub values-returns : goal.values-returns
values-returns = Operands.values-returns

pub follow-loop-link-init : goal.follow-loop-link-init
follow-loop-link-init = Links.follow-loop-link-init

pub follow-returns-in_err-at : goal.follow-returns-in_err-at
follow-returns-in_err-at = Links.follow-returns-in_err-at

pub follow-loop-link-preserved : goal.follow-loop-link-preserved
follow-loop-link-preserved = Links.follow-loop-link-preserved

pub follow-returns : goal.follow-returns
follow-returns = Links.follow-returns

pub field_values-loop-field-init : goal.field_values-loop-field-init
field_values-loop-field-init = Forms.field_values-loop-field-init

pub field_values-returns-in_err-v : goal.field_values-returns-in_err-v
field_values-returns-in_err-v = Forms.field_values-returns-in_err-v

pub field_values-returns-in_err-share : goal.field_values-returns-in_err-share
field_values-returns-in_err-share = Forms.field_values-returns-in_err-share

pub field_values-returns-in_err-push : goal.field_values-returns-in_err-push
field_values-returns-in_err-push = Forms.field_values-returns-in_err-push

pub field_values-loop-field-preserved : goal.field_values-loop-field-preserved
field_values-loop-field-preserved = Forms.field_values-loop-field-preserved

pub field_values-returns : goal.field_values-returns
field_values-returns = Forms.field_values-returns

pub run_do-returns-in_err-_v : goal.run_do-returns-in_err-_v
run_do-returns-in_err-_v = Statements.run_do-returns-in_err-_v

pub hole_texts-loop-hole-init : goal.hole_texts-loop-hole-init
hole_texts-loop-hole-init = Forms.hole_texts-loop-hole-init

pub hole_texts-returns-in_err-v : goal.hole_texts-returns-in_err-v
hole_texts-returns-in_err-v = Forms.hole_texts-returns-in_err-v

pub hole_texts-returns-in_err-text_of : goal.hole_texts-returns-in_err-text_of
hole_texts-returns-in_err-text_of = Forms.hole_texts-returns-in_err-text_of

pub hole_texts-returns-in_err-push : goal.hole_texts-returns-in_err-push
hole_texts-returns-in_err-push = Forms.hole_texts-returns-in_err-push

pub hole_texts-loop-hole-preserved : goal.hole_texts-loop-hole-preserved
hole_texts-loop-hole-preserved = Forms.hole_texts-loop-hole-preserved

pub hole_texts-returns : goal.hole_texts-returns
hole_texts-returns = Forms.hole_texts-returns

pub held-returns-in_err-share-in-Of : goal.held-returns-in_err-share-in-Of
held-returns-in_err-share-in-Of = Links.held-returns-in_err-share-in-Of

pub held-returns-in_ok-share-in-Of : goal.held-returns-in_ok-share-in-Of
held-returns-in_ok-share-in-Of = Links.held-returns-in_ok-share-in-Of

pub held-returns-in-Member : goal.held-returns-in-Member
held-returns-in-Member = Links.held-returns-in-Member

pub held-returns-in_err-value-in-Local : goal.held-returns-in_err-value-in-Local
held-returns-in_err-value-in-Local = Links.held-returns-in_err-value-in-Local

pub held-returns-in_ok-value-in-Local : goal.held-returns-in_ok-value-in-Local
held-returns-in_ok-value-in-Local = Links.held-returns-in_ok-value-in-Local

pub held-returns-in-Tracker : goal.held-returns-in-Tracker
held-returns-in-Tracker = Links.held-returns-in-Tracker

pub held-returns-in-Framework : goal.held-returns-in-Framework
held-returns-in-Framework = Links.held-returns-in-Framework

pub callee-returns-in-Member : goal.callee-returns-in-Member
callee-returns-in-Member = Links.callee-returns-in-Member

pub callee-returns-in-Framework : goal.callee-returns-in-Framework
callee-returns-in-Framework = Links.callee-returns-in-Framework

pub member_callee-returns-in-Some : goal.member_callee-returns-in-Some
member_callee-returns-in-Some = Links.member_callee-returns-in-Some

pub member_callee-returns-in_err-v-in-None : goal.member_callee-returns-in_err-v-in-None
member_callee-returns-in_err-v-in-None = Links.member_callee-returns-in_err-v-in-None

pub member_callee-returns-in_ok-v-in-None : goal.member_callee-returns-in_ok-v-in-None
member_callee-returns-in_ok-v-in-None = Links.member_callee-returns-in_ok-v-in-None

pub call_of-returns-in-Qrl : goal.call_of-returns-in-Qrl
call_of-returns-in-Qrl = Calls.call_of-returns-in-Qrl

pub call_of-returns-in_err-given : goal.call_of-returns-in_err-given
call_of-returns-in_err-given = Calls.call_of-returns-in_err-given

pub call_of-returns : goal.call_of-returns
call_of-returns = Calls.call_of-returns

pub call-returns-in-Value : goal.call-returns-in-Value
call-returns-in-Value = Calls.call-returns-in-Value

pub call-returns-in-Method : goal.call-returns-in-Method
call-returns-in-Method = Calls.call-returns-in-Method

pub call-returns-in-Hook : goal.call-returns-in-Hook
call-returns-in-Hook = Calls.call-returns-in-Hook

pub call-returns-in-Tracker : goal.call-returns-in-Tracker
call-returns-in-Tracker = Calls.call-returns-in-Tracker

pub call-returns-in-Dollar : goal.call-returns-in-Dollar
call-returns-in-Dollar = Calls.call-returns-in-Dollar

pub call-returns-in-Mark : goal.call-returns-in-Mark
call-returns-in-Mark = Calls.call-returns-in-Mark

pub call-returns-in-Qrl : goal.call-returns-in-Qrl
call-returns-in-Qrl = Calls.call-returns-in-Qrl

pub call_value-returns-in_default : goal.call_value-returns-in_default
call_value-returns-in_default = Calls.call_value-returns-in_default

pub call_value-returns : goal.call_value-returns
call_value-returns = Calls.call_value-returns

pub call_method-returns-in-Map : goal.call_method-returns-in-Map
call_method-returns-in-Map = Calls.call_method-returns-in-Map

pub call_method-returns-in-Filter : goal.call_method-returns-in-Filter
call_method-returns-in-Filter = Calls.call_method-returns-in-Filter

pub call_method-returns-in-Slice : goal.call_method-returns-in-Slice
call_method-returns-in-Slice = Calls.call_method-returns-in-Slice

pub call_method-returns-in-Join : goal.call_method-returns-in-Join
call_method-returns-in-Join = Calls.call_method-returns-in-Join

pub call_method-returns-in-Push : goal.call_method-returns-in-Push
call_method-returns-in-Push = Calls.call_method-returns-in-Push

pub call_method-returns-in-Pop : goal.call_method-returns-in-Pop
call_method-returns-in-Pop = Calls.call_method-returns-in-Pop

pub call_method-returns-in-Splice : goal.call_method-returns-in-Splice
call_method-returns-in-Splice = Calls.call_method-returns-in-Splice

pub call_method-returns-in-Includes : goal.call_method-returns-in-Includes
call_method-returns-in-Includes = Calls.call_method-returns-in-Includes

pub call_method-returns-in-StartsWith : goal.call_method-returns-in-StartsWith
call_method-returns-in-StartsWith = Calls.call_method-returns-in-StartsWith

pub run_delete-returns-in_err-r : goal.run_delete-returns-in_err-r
run_delete-returns-in_err-r = Statements.run_delete-returns-in_err-r

pub run_delete-returns-in_err-remove : goal.run_delete-returns-in_err-remove
run_delete-returns-in_err-remove = Statements.run_delete-returns-in_err-remove

pub run_delete-returns : goal.run_delete-returns
run_delete-returns = Statements.run_delete-returns

pub run_const-returns-in-Scope : goal.run_const-returns-in-Scope
run_const-returns-in-Scope = Statements.run_const-returns-in-Scope

pub run_const-returns-in_err-v : goal.run_const-returns-in_err-v
run_const-returns-in_err-v = Statements.run_const-returns-in_err-v

pub run_const-returns-in_err-bind : goal.run_const-returns-in_err-bind
run_const-returns-in_err-bind = Statements.run_const-returns-in_err-bind

pub run_const-returns : goal.run_const-returns
run_const-returns = Statements.run_const-returns

pub run-returns-in-Delete : goal.run-returns-in-Delete
run-returns-in-Delete = Statements.run-returns-in-Delete

pub run-returns-in-Do : goal.run-returns-in-Do
run-returns-in-Do = Statements.run-returns-in-Do

pub run-returns-in-Return : goal.run-returns-in-Return
run-returns-in-Return = Statements.run-returns-in-Return

pub run-returns-in-While : goal.run-returns-in-While
run-returns-in-While = Statements.run-returns-in-While

pub run-returns-in-ForOf : goal.run-returns-in-ForOf
run-returns-in-ForOf = Statements.run-returns-in-ForOf

pub run_for-returns-in_err-v : goal.run_for-returns-in_err-v
run_for-returns-in_err-v = Turns.run_for-returns-in_err-v

pub run_for-returns-in_err-items : goal.run_for-returns-in_err-items
run_for-returns-in_err-items = Turns.run_for-returns-in_err-items

pub run_for-returns : goal.run_for-returns
run_for-returns = Turns.run_for-returns

pub map-returns-in_default : goal.map-returns-in_default
map-returns-in_default = Calls.map-returns-in_default

pub map-returns-in_err-items : goal.map-returns-in_err-items
map-returns-in_err-items = Calls.map-returns-in_err-items

pub map-returns-in_err-results : goal.map-returns-in_err-results
map-returns-in_err-results = Calls.map-returns-in_err-results

pub map-returns : goal.map-returns
map-returns = Calls.map-returns

pub filter-returns-in_default : goal.filter-returns-in_default
filter-returns-in_default = Calls.filter-returns-in_default

pub filter-returns-in_err-items : goal.filter-returns-in_err-items
filter-returns-in_err-items = Calls.filter-returns-in_err-items

pub filter-returns-in_err-results : goal.filter-returns-in_err-results
filter-returns-in_err-results = Calls.filter-returns-in_err-results

pub filter-returns-in_err-kept : goal.filter-returns-in_err-kept
filter-returns-in_err-kept = Calls.filter-returns-in_err-kept

pub filter-returns : goal.filter-returns
filter-returns = Calls.filter-returns

pub call_on_each-loop-i-init : goal.call_on_each-loop-i-init
call_on_each-loop-i-init = Calls.call_on_each-loop-i-init

pub call_on_each-returns-in_err-share : goal.call_on_each-returns-in_err-share
call_on_each-returns-in_err-share = Calls.call_on_each-returns-in_err-share

pub call_on_each-returns-in_err-v : goal.call_on_each-returns-in_err-v
call_on_each-returns-in_err-v = Calls.call_on_each-returns-in_err-v

pub call_on_each-returns-in_err-push : goal.call_on_each-returns-in_err-push
call_on_each-returns-in_err-push = Calls.call_on_each-returns-in_err-push

pub call_on_each-loop-i-preserved : goal.call_on_each-loop-i-preserved
call_on_each-loop-i-preserved = Calls.call_on_each-loop-i-preserved

pub call_on_each-returns : goal.call_on_each-returns
call_on_each-returns = Calls.call_on_each-returns

pub call_hook-returns-then-not-here : goal.call_hook-returns-then-not-here
call_hook-returns-then-not-here = Hooks.call_hook-returns-then-not-here

pub call_hook-returns-in_err-v : goal.call_hook-returns-in_err-v
call_hook-returns-in_err-v = Hooks.call_hook-returns-in_err-v

pub call_hook-returns-in-Value : goal.call_hook-returns-in-Value
call_hook-returns-in-Value = Hooks.call_hook-returns-in-Value

pub call_hook-returns-in-Nothing : goal.call_hook-returns-in-Nothing
call_hook-returns-in-Nothing = Hooks.call_hook-returns-in-Nothing

pub call_hook-returns-in-RunTask : goal.call_hook-returns-in-RunTask
call_hook-returns-in-RunTask = Hooks.call_hook-returns-in-RunTask

pub run_task-returns-in_err-enter : goal.run_task-returns-in_err-enter
run_task-returns-in_err-enter = Hooks.run_task-returns-in_err-enter

pub run_task-returns-in_err-_v : goal.run_task-returns-in_err-_v
run_task-returns-in_err-_v = Hooks.run_task-returns-in_err-_v

pub run_task-returns : goal.run_task-returns
run_task-returns = Hooks.run_task-returns

pub call_tracker-returns-in_default : goal.call_tracker-returns-in_default
call_tracker-returns-in_default = Hooks.call_tracker-returns-in_default

pub call_tracker-returns : goal.call_tracker-returns
call_tracker-returns = Hooks.call_tracker-returns

pub track-returns-in_err-enter : goal.track-returns-in_err-enter
track-returns-in_err-enter = Hooks.track-returns-in_err-enter

pub track-returns-in_err-v : goal.track-returns-in_err-v
track-returns-in_err-v = Hooks.track-returns-in_err-v

pub track-returns : goal.track-returns
track-returns = Hooks.track-returns

pub enter_value-returns-then-here-eq0 : goal.enter_value-returns-then-here-eq0
enter_value-returns-then-here-eq0 = Hooks.enter_value-returns-then-here-eq0

pub enter_value-returns-in-Fun : goal.enter_value-returns-in-Fun
enter_value-returns-in-Fun = Hooks.enter_value-returns-in-Fun

pub enter_value-returns-in_default : goal.enter_value-returns-in_default
enter_value-returns-in_default = Hooks.enter_value-returns-in_default

pub enter-returns-in_err-func-in-Symbol : goal.enter-returns-in_err-func-in-Symbol
enter-returns-in_err-func-in-Symbol = Hooks.enter-returns-in_err-func-in-Symbol

pub enter-returns-in_err-func-in-Plain : goal.enter-returns-in_err-func-in-Plain
enter-returns-in_err-func-in-Plain = Hooks.enter-returns-in_err-func-in-Plain

pub enter-returns-then-len-captured : goal.enter-returns-then-len-captured
enter-returns-then-len-captured = Hooks.enter-returns-then-len-captured

pub enter-returns-in_ok-func-in-Symbol : goal.enter-returns-in_ok-func-in-Symbol
enter-returns-in_ok-func-in-Symbol = Hooks.enter-returns-in_ok-func-in-Symbol

pub enter-returns-else-len-captured : goal.enter-returns-else-len-captured
enter-returns-else-len-captured = Hooks.enter-returns-else-len-captured

pub enter_arrow-returns-in_err-scope : goal.enter_arrow-returns-in_err-scope
enter_arrow-returns-in_err-scope = Hooks.enter_arrow-returns-in_err-scope

pub enter_arrow-returns : goal.enter_arrow-returns
enter_arrow-returns = Hooks.enter_arrow-returns

pub inside-returns-in_err-open_own : goal.inside-returns-in_err-open_own
inside-returns-in_err-open_own = Names.inside-returns-in_err-open_own

pub inside-returns-in_err-bind_parameters : goal.inside-returns-in_err-bind_parameters
inside-returns-in_err-bind_parameters = Names.inside-returns-in_err-bind_parameters

pub inside-returns : goal.inside-returns
inside-returns = Names.inside-returns

pub bind_parameters-returns-then-tracks : goal.bind_parameters-returns-then-tracks
bind_parameters-returns-then-tracks = Names.bind_parameters-returns-then-tracks

pub bind_parameters-returns : goal.bind_parameters-returns
bind_parameters-returns = Names.bind_parameters-returns

pub bind_all-loop-i-init : goal.bind_all-loop-i-init
bind_all-loop-i-init = Names.bind_all-loop-i-init

pub bind_all-returns-in_err-v : goal.bind_all-returns-in_err-v
bind_all-returns-in_err-v = Names.bind_all-returns-in_err-v

pub bind_all-returns-in_err-bind : goal.bind_all-returns-in_err-bind
bind_all-returns-in_err-bind = Names.bind_all-returns-in_err-bind

pub bind_all-loop-i-preserved : goal.bind_all-loop-i-preserved
bind_all-loop-i-preserved = Names.bind_all-loop-i-preserved

pub bind_all-returns : goal.bind_all-returns
bind_all-returns = Names.bind_all-returns

pub bind-returns-in-Name : goal.bind-returns-in-Name
bind-returns-in-Name = Names.bind-returns-in-Name

pub bind-returns-in-Fields : goal.bind-returns-in-Fields
bind-returns-in-Fields = Names.bind-returns-in-Fields

pub bind-returns-in-Scope : goal.bind-returns-in-Scope
bind-returns-in-Scope = Names.bind-returns-in-Scope

pub bind_fields-loop-name-init : goal.bind_fields-loop-name-init
bind_fields-loop-name-init = Names.bind_fields-loop-name-init

pub bind_fields-returns-in_err-share : goal.bind_fields-returns-in_err-share
bind_fields-returns-in_err-share = Names.bind_fields-returns-in_err-share

pub bind_fields-returns-in_err-w : goal.bind_fields-returns-in_err-w
bind_fields-returns-in_err-w = Names.bind_fields-returns-in_err-w

pub bind_fields-loop-name-preserved : goal.bind_fields-loop-name-preserved
bind_fields-loop-name-preserved = Names.bind_fields-loop-name-preserved

pub bind_fields-returns : goal.bind_fields-returns
bind_fields-returns = Names.bind_fields-returns

pub run_while-loop-v-init : goal.run_while-loop-v-init
run_while-loop-v-init = Turns.run_while-loop-v-init

pub run_while-returns-in_err-v : goal.run_while-returns-in_err-v
run_while-returns-in_err-v = Turns.run_while-returns-in_err-v

pub run_while-returns-then-not-goes_on : goal.run_while-returns-then-not-goes_on
run_while-returns-then-not-goes_on = Turns.run_while-returns-then-not-goes_on

pub run_while-returns-then-not-take : goal.run_while-returns-then-not-take
run_while-returns-then-not-take = Turns.run_while-returns-then-not-take

pub run_while-returns-in_err-flow : goal.run_while-returns-in_err-flow
run_while-returns-in_err-flow = Turns.run_while-returns-in_err-flow

pub run_while-returns-in-Some : goal.run_while-returns-in-Some
run_while-returns-in-Some = Turns.run_while-returns-in-Some

pub run_while-loop-v-preserved : goal.run_while-loop-v-preserved
run_while-loop-v-preserved = Turns.run_while-loop-v-preserved

pub run_each-loop-item-init : goal.run_each-loop-item-init
run_each-loop-item-init = Turns.run_each-loop-item-init

pub run_each-returns-then-not-take : goal.run_each-returns-then-not-take
run_each-returns-then-not-take = Turns.run_each-returns-then-not-take

pub run_each-returns-in_err-flow : goal.run_each-returns-in_err-flow
run_each-returns-in_err-flow = Turns.run_each-returns-in_err-flow

pub run_each-returns-in-Some : goal.run_each-returns-in-Some
run_each-returns-in-Some = Turns.run_each-returns-in-Some

pub run_each-loop-item-preserved : goal.run_each-loop-item-preserved
run_each-loop-item-preserved = Turns.run_each-loop-item-preserved

pub run_each-returns : goal.run_each-returns
run_each-returns = Turns.run_each-returns

pub run_turn-returns-in_err-share : goal.run_turn-returns-in_err-share
run_turn-returns-in_err-share = Turns.run_turn-returns-in_err-share

pub run_turn-returns-in_err-push : goal.run_turn-returns-in_err-push
run_turn-returns-in_err-push = Turns.run_turn-returns-in_err-push

pub run_turn-returns-in_err-flow : goal.run_turn-returns-in_err-flow
run_turn-returns-in_err-flow = Turns.run_turn-returns-in_err-flow

pub run_turn-returns : goal.run_turn-returns
run_turn-returns = Turns.run_turn-returns

pub lifted-returns-in_default : goal.lifted-returns-in_default
lifted-returns-in_default = Calls.lifted-returns-in_default

pub lifted-returns-in_err-captured : goal.lifted-returns-in_err-captured
lifted-returns-in_err-captured = Calls.lifted-returns-in_err-captured

pub lifted-returns : goal.lifted-returns
lifted-returns = Calls.lifted-returns

pub old_value-returns-in-Set : goal.old_value-returns-in-Set
old_value-returns-in-Set = Operands.old_value-returns-in-Set

pub value-returns-in-Undefined : goal.value-returns-in-Undefined
value-returns-in-Undefined = Forms.value-returns-in-Undefined

pub value-returns-in-Null : goal.value-returns-in-Null
value-returns-in-Null = Forms.value-returns-in-Null

pub value-returns-in-Bool : goal.value-returns-in-Bool
value-returns-in-Bool = Forms.value-returns-in-Bool

pub value-returns-in-Int : goal.value-returns-in-Int
value-returns-in-Int = Forms.value-returns-in-Int

pub value-returns-in_err-share-in-Text : goal.value-returns-in_err-share-in-Text
value-returns-in_err-share-in-Text = Forms.value-returns-in_err-share-in-Text

pub value-returns-in_ok-share-in-Text : goal.value-returns-in_ok-share-in-Text
value-returns-in_ok-share-in-Text = Forms.value-returns-in_ok-share-in-Text

pub value-returns-in-Name : goal.value-returns-in-Name
value-returns-in-Name = Forms.value-returns-in-Name

pub value-returns-in-List : goal.value-returns-in-List
value-returns-in-List = Forms.value-returns-in-List

pub value-returns-in-Record : goal.value-returns-in-Record
value-returns-in-Record = Forms.value-returns-in-Record

pub value-returns-in-Template : goal.value-returns-in-Template
value-returns-in-Template = Forms.value-returns-in-Template

pub value-returns-in-Unary : goal.value-returns-in-Unary
value-returns-in-Unary = Forms.value-returns-in-Unary

pub value-returns-in-Chain : goal.value-returns-in-Chain
value-returns-in-Chain = Forms.value-returns-in-Chain

pub value-returns-in-Cond : goal.value-returns-in-Cond
value-returns-in-Cond = Forms.value-returns-in-Cond

pub value-returns-in-Post : goal.value-returns-in-Post
value-returns-in-Post = Forms.value-returns-in-Post

pub value-returns-in-Assign : goal.value-returns-in-Assign
value-returns-in-Assign = Forms.value-returns-in-Assign

pub value-returns-in-Step : goal.value-returns-in-Step
value-returns-in-Step = Forms.value-returns-in-Step

pub value-returns-in-Known : goal.value-returns-in-Known
value-returns-in-Known = Forms.value-returns-in-Known

pub value-returns-in-Arrow : goal.value-returns-in-Arrow
value-returns-in-Arrow = Forms.value-returns-in-Arrow

pub value-returns-in-Jsx : goal.value-returns-in-Jsx
value-returns-in-Jsx = Forms.value-returns-in-Jsx

pub name_value-returns-in_err-r : goal.name_value-returns-in_err-r
name_value-returns-in_err-r = Forms.name_value-returns-in_err-r

pub name_value-returns : goal.name_value-returns
name_value-returns = Forms.name_value-returns

pub post_value-returns-in_err-r : goal.post_value-returns-in_err-r
post_value-returns-in_err-r = Forms.post_value-returns-in_err-r

pub post_value-returns : goal.post_value-returns
post_value-returns = Forms.post_value-returns

pub refer-returns-in-Name : goal.refer-returns-in-Name
refer-returns-in-Name = Forms.refer-returns-in-Name

pub refer-returns-in-Post : goal.refer-returns-in-Post
refer-returns-in-Post = Forms.refer-returns-in-Post

pub refer-returns-in_err-v-in_default : goal.refer-returns-in_err-v-in_default
refer-returns-in_err-v-in_default = Forms.refer-returns-in_err-v-in_default

pub refer-returns-in_ok-v-in_default : goal.refer-returns-in_ok-v-in_default
refer-returns-in_ok-v-in_default = Forms.refer-returns-in_ok-v-in_default

pub cond_value-returns-in_err-v : goal.cond_value-returns-in_err-v
cond_value-returns-in_err-v = Forms.cond_value-returns-in_err-v

pub cond_value-returns-then-truthy : goal.cond_value-returns-then-truthy
cond_value-returns-then-truthy = Forms.cond_value-returns-then-truthy

pub cond_value-returns : goal.cond_value-returns
cond_value-returns = Forms.cond_value-returns

pub list_value-returns-in_err-all : goal.list_value-returns-in_err-all
list_value-returns-in_err-all = Forms.list_value-returns-in_err-all

pub list_value-returns : goal.list_value-returns
list_value-returns = Forms.list_value-returns

pub record_value-returns-in_err-all : goal.record_value-returns-in_err-all
record_value-returns-in_err-all = Forms.record_value-returns-in_err-all

pub record_value-returns : goal.record_value-returns
record_value-returns = Forms.record_value-returns

pub template_value-returns-in_err-texts : goal.template_value-returns-in_err-texts
template_value-returns-in_err-texts = Forms.template_value-returns-in_err-texts

pub template_value-returns-in_err-text : goal.template_value-returns-in_err-text
template_value-returns-in_err-text = Forms.template_value-returns-in_err-text

pub template_value-returns-in_err-short_text : goal.template_value-returns-in_err-short_text
template_value-returns-in_err-short_text = Forms.template_value-returns-in_err-short_text

pub template_value-returns : goal.template_value-returns
template_value-returns = Forms.template_value-returns

pub unary_value-returns-in_err-v : goal.unary_value-returns-in_err-v
unary_value-returns-in_err-v = Forms.unary_value-returns-in_err-v

pub unary_value-returns-in_err-unary : goal.unary_value-returns-in_err-unary
unary_value-returns-in_err-unary = Forms.unary_value-returns-in_err-unary

pub unary_value-returns : goal.unary_value-returns
unary_value-returns = Forms.unary_value-returns

pub jsx_value-returns-in_err-shown : goal.jsx_value-returns-in_err-shown
jsx_value-returns-in_err-shown = Forms.jsx_value-returns-in_err-shown

pub jsx_value-returns-in_err-attributes : goal.jsx_value-returns-in_err-attributes
jsx_value-returns-in_err-attributes = Forms.jsx_value-returns-in_err-attributes

pub jsx_value-returns-in_err-children : goal.jsx_value-returns-in_err-children
jsx_value-returns-in_err-children = Forms.jsx_value-returns-in_err-children

pub jsx_value-returns : goal.jsx_value-returns
jsx_value-returns = Forms.jsx_value-returns

pub known_value-returns-in_err-given : goal.known_value-returns-in_err-given
known_value-returns-in_err-given = Operands.known_value-returns-in_err-given

pub known_value-returns : goal.known_value-returns
known_value-returns = Operands.known_value-returns

pub chain_value-returns-in_err-v : goal.chain_value-returns-in_err-v
chain_value-returns-in_err-v = Operands.chain_value-returns-in_err-v

pub chain_value-loop-operand-init : goal.chain_value-loop-operand-init
chain_value-loop-operand-init = Operands.chain_value-loop-operand-init

pub chain_value-returns-in_err-v-2 : goal.chain_value-returns-in_err-v-2
chain_value-returns-in_err-v-2 = Operands.chain_value-returns-in_err-v-2

pub chain_value-loop-operand-preserved : goal.chain_value-loop-operand-preserved
chain_value-loop-operand-preserved = Operands.chain_value-loop-operand-preserved

pub chain_value-returns : goal.chain_value-returns
chain_value-returns = Operands.chain_value-returns

pub assign-returns-in_err-r : goal.assign-returns-in_err-r
assign-returns-in_err-r = Operands.assign-returns-in_err-r

pub assign-returns-in_err-old : goal.assign-returns-in_err-old
assign-returns-in_err-old = Operands.assign-returns-in_err-old

pub assign-returns-in_err-v : goal.assign-returns-in_err-v
assign-returns-in_err-v = Operands.assign-returns-in_err-v

pub assign-returns-in_err-new : goal.assign-returns-in_err-new
assign-returns-in_err-new = Operands.assign-returns-in_err-new

pub assign-returns-in_err-store : goal.assign-returns-in_err-store
assign-returns-in_err-store = Operands.assign-returns-in_err-store

pub assign-returns : goal.assign-returns
assign-returns = Operands.assign-returns

pub step-returns-in_err-r : goal.step-returns-in_err-r
step-returns-in_err-r = Operands.step-returns-in_err-r

pub step-returns-in_err-old : goal.step-returns-in_err-old
step-returns-in_err-old = Operands.step-returns-in_err-old

pub step-returns-in_err-new : goal.step-returns-in_err-new
step-returns-in_err-new = Operands.step-returns-in_err-new

pub step-returns-in_err-store : goal.step-returns-in_err-store
step-returns-in_err-store = Operands.step-returns-in_err-store

pub step-returns : goal.step-returns
step-returns = Operands.step-returns

pub chain_one-returns-then-decides : goal.chain_one-returns-then-decides
chain_one-returns-then-decides = Operands.chain_one-returns-then-decides

pub chain_one-returns-in_err-w : goal.chain_one-returns-in_err-w
chain_one-returns-in_err-w = Operands.chain_one-returns-in_err-w

pub chain_one-returns-in_err-binary : goal.chain_one-returns-in_err-binary
chain_one-returns-in_err-binary = Operands.chain_one-returns-in_err-binary

pub chain_one-returns : goal.chain_one-returns
chain_one-returns = Operands.chain_one-returns

pub refer_post-returns-in_err-r : goal.refer_post-returns-in_err-r
refer_post-returns-in_err-r = Links.refer_post-returns-in_err-r

pub refer_post-returns : goal.refer_post-returns
refer_post-returns = Links.refer_post-returns
