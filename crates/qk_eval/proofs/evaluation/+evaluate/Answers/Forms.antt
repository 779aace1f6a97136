-- The answers of the cycle: forms of expressions.
use Rattle.std.proofs.Common.{rules, arith, refl, ℕ, sym, ◌∙◌, ap, true, false, subst}
use Rattle.std.specs.Prelude.{List, Ok, Err}
use Rattle.qk_ast.specs.declared.Jsx.{out-Jsx}
use Rattle.qk_meaning.specs.Value as M
use Rattle.qk_meaning.specs.Program.{captures_in}
use Rattle.qk_meaning.specs.In_order.{hole_text}
use Rattle.qk_meaning.specs.Operators.{Answer, is_true, unary, short_text, text_of}
use Rattle.qk_meaning.specs.Making.{made_list, made_record, filled}
use Rattle.qk_meaning.specs.Parts.{packed}
use Rattle.qk_making.specs.Marking.{markup_made}
use Rattle.qk_value.specs.declared.value.Value.{Value}
use Rattle.qk_ops.specs.Answering.{Gave}
use Rattle.qk_code.specs.Stops.{stop_on}
use Rattle.qk_eval.specs.Placing.{setting}
use Rattle.qk_eval.specs.Seeing.{value_seen, texts_seen, text_seen, fields_seen, shown_seen}
use Rattle.qk_eval.proofs.Growing.{quiet, hole_adds, answer_adds, made_list_adds, made_record_adds, reference_adds, chosen_adds, markup_adds, children_add, jsx_adds}
use Rattle.qk_code.proofs.Runs.{ran_then, ran_err, ran_gives, ran_value, ran_lost}
use Rattle.qk_eval.proofs.Steps.{ran_chosen}
use Rattle.qk_eval.proofs.Loops.{texts_more, each_begin, each_step, each_err, each_memory, each_end}
use Rattle.qk_eval.proofs.Binding.{fields_begin, fields_step, fields_err, fields_memory, fields_end}
use Rattle.qk_eval.proofs.Expressions.{to_settled, to_cond, to_list, to_record, to_template, to_unary, to_jsx, ran_answer, ran_answer_err}
use Rattle.qk_eval.proofs.Acted.{ran_left, ran_made}
use Rattle.std.specs.Prelude.{map}
use Rattle.qk_meaning.specs.Setting.{captures}
use Rattle.qk_value.specs.View.{seen_fields, shown_by}
use Rattle.qk_making.specs.Acting.{seen_in}
use Rattle.qk_eval.proofs.evaluation.+evaluate.Goals as goal

pub field_values-loop-field-init : goal.field_values-loop-field-init
field_values-loop-field-init g t c = λ r code left heap scope host k. fields_begin _ _ _ c.args.here.now.func.now c.args.here.now.mode c.args.here.now.running.now c.args.here.now.levels c.args.fields.now _ _ _ r c.new-done.ensures k

pub field_values-returns-in_err-v : goal.field_values-returns-in_err-v
field_values-returns-in_err-v g t c = c.loop-field.invariant _ _ _ _ _ _ (fields_err _ _ _ c.args.here.now.func.now c.args.here.now.mode c.args.here.now.running.now c.args.here.now.levels c.args.fields.now _ _ _ _ _ _ _ c.loop-field-test.true c.field-item.is (search rules) c.in_err-v.ensures)

pub field_values-returns-in_err-share : goal.field_values-returns-in_err-share
field_values-returns-in_err-share g t c = c.loop-field.invariant _ _ _ _ _ _ (fields_memory _ _ _ c.args.here.now.func.now c.args.here.now.mode c.args.here.now.running.now c.args.here.now.levels c.args.fields.now _ _ _ _ _ _ _ c.loop-field-test.true c.field-item.is (search rules) c.in_ok-v.ensures)

pub field_values-returns-in_err-push : goal.field_values-returns-in_err-push
field_values-returns-in_err-push g t c = c.loop-field.invariant _ _ _ _ _ _ (fields_memory _ _ _ c.args.here.now.func.now c.args.here.now.mode c.args.here.now.running.now c.args.here.now.levels c.args.fields.now _ _ _ _ _ _ _ c.loop-field-test.true c.field-item.is (search rules) c.in_ok-v.ensures)

pub field_values-loop-field-preserved : goal.field_values-loop-field-preserved
field_values-loop-field-preserved g t c = λ r code left heap scope host k. c.loop-field.invariant r code left heap scope host (fields_step _ _ _ c.args.here.now.func.now c.args.here.now.mode c.args.here.now.running.now c.args.here.now.levels c.args.fields.now _ _ _ _ _ _ _ _ _ c.loop-field-test.true c.field-item.is (search rules) c.in_ok-v.ensures k)

pub field_values-returns : goal.field_values-returns
field_values-returns g t c = c.loop-field.invariant _ _ _ _ _ _ (fields_end _ _ _ c.args.here.now.func.now c.args.here.now.mode c.args.here.now.running.now c.args.here.now.levels c.args.fields.now c.loop-field.field-index _ _ (omega arith))

pub hole_texts-loop-hole-init : goal.hole_texts-loop-hole-init
hole_texts-loop-hole-init g t c = λ r code left heap scope host k. each_begin _ _ _ (λ p. hole_text (setting c.args.here.now p)) text_seen texts_seen texts_more (λ p x. hole_adds c.args.here.now.func.now c.args.here.now.mode c.args.here.now.running.now c.args.here.now.levels p x) c.args.holes.now _ _ _ r (λ p. c.new-texts.ensures) k

pub hole_texts-returns-in_err-v : goal.hole_texts-returns-in_err-v
hole_texts-returns-in_err-v g t c = c.loop-hole.invariant _ _ _ _ _ _ (each_err _ _ _ (λ p. hole_text (setting c.args.here.now p)) text_seen texts_seen texts_more (λ p x. hole_adds c.args.here.now.func.now c.args.here.now.mode c.args.here.now.running.now c.args.here.now.levels p x) c.args.holes.now _ _ _ _ _ _ c.in_err-v.field-0.0 c.loop-hole-test.true c.hole-item.is (search rules) (ran_err _ _ _ _ _ _ _ _ _ _ c.in_err-v.field-0.0 (search rules) (λ p x. answer_adds c.args.here.now.func.now c.args.here.now.mode c.args.here.now.running.now c.args.here.now.levels p (text_of x)) c.in_err-v.ensures))

pub hole_texts-returns-in_err-text_of : goal.hole_texts-returns-in_err-text_of
hole_texts-returns-in_err-text_of g t c = c.loop-hole.invariant _ _ _ _ _ _ (each_err _ _ _ (λ p. hole_text (setting c.args.here.now p)) text_seen texts_seen texts_more (λ p x. hole_adds c.args.here.now.func.now c.args.here.now.mode c.args.here.now.running.now c.args.here.now.levels p x) c.args.holes.now _ _ _ _ _ _ (stop_on c.in_err-text_of.field-0.0) c.loop-hole-test.true c.hole-item.is (search rules) (ran_then _ _ _ _ _ _ _ _ _ _ _ _ c.in_ok-v.ensures (ran_answer_err _ _ _ text_seen (λ p. text_of (value_seen p c.in_ok-v.v)) _ _ c.in_err-text_of.field-0.0 refl (λ p. c.in_err-text_of.ensures (captures_in p)))))

pub hole_texts-returns-in_err-push : goal.hole_texts-returns-in_err-push
hole_texts-returns-in_err-push g t c = c.loop-hole.invariant _ _ _ _ _ _ (each_memory _ _ _ (λ p. hole_text (setting c.args.here.now p)) text_seen texts_seen texts_more (λ p x. hole_adds c.args.here.now.func.now c.args.here.now.mode c.args.here.now.running.now c.args.here.now.levels p x) c.args.holes.now _ _ _ _ _ _ _ c.loop-hole-test.true c.hole-item.is (search rules) (ran_then _ _ _ _ _ _ _ _ _ _ _ _ c.in_ok-v.ensures (ran_answer _ _ _ text_seen (λ p. text_of (value_seen p c.in_ok-v.v)) _ _ (λ p. c.in_ok-text_of.ensures (captures_in p)))))

pub hole_texts-loop-hole-preserved : goal.hole_texts-loop-hole-preserved
hole_texts-loop-hole-preserved g t c = λ r code left heap scope host k. c.loop-hole.invariant r code left heap scope host (each_step _ _ _ (λ p. hole_text (setting c.args.here.now p)) text_seen texts_seen texts_more (λ p x. hole_adds c.args.here.now.func.now c.args.here.now.mode c.args.here.now.running.now c.args.here.now.levels p x) c.args.holes.now _ _ _ _ _ _ _ _ _ c.loop-hole-test.true c.hole-item.is (search rules) (ran_then _ _ _ _ _ _ _ _ _ _ _ _ c.in_ok-v.ensures (ran_answer _ _ _ text_seen (λ p. text_of (value_seen p c.in_ok-v.v)) _ _ (λ p. c.in_ok-text_of.ensures (captures_in p)))) k)

pub hole_texts-returns : goal.hole_texts-returns
hole_texts-returns g t c = c.loop-hole.invariant _ _ _ _ _ _ (each_end _ _ _ (λ p. hole_text (setting c.args.here.now p)) text_seen texts_seen texts_more (λ p x. hole_adds c.args.here.now.func.now c.args.here.now.mode c.args.here.now.running.now c.args.here.now.levels p x) c.args.holes.now c.loop-hole.hole-index _ _ (omega arith))

pub value-returns-in-Undefined : goal.value-returns-in-Undefined
value-returns-in-Undefined g t c = rw c.in-Undefined.is (ran_gives _ _ _ _ _ _ _ (λ p k past. refl))

pub value-returns-in-Null : goal.value-returns-in-Null
value-returns-in-Null g t c = rw c.in-Null.is (ran_gives _ _ _ _ _ _ _ (λ p k past. refl))

pub value-returns-in-Bool : goal.value-returns-in-Bool
value-returns-in-Bool g t c = rw c.in-Bool.is (ran_gives _ _ _ _ _ _ _ (λ p k past. refl))

pub value-returns-in-Int : goal.value-returns-in-Int
value-returns-in-Int g t c = rw c.in-Int.is (ran_value _ _ _ _ _ _ _ (Value.Int c.in-Int.n) (search rules) (λ p k past. refl))

pub value-returns-in_err-share-in-Text : goal.value-returns-in_err-share-in-Text
value-returns-in_err-share-in-Text g t c = ran_lost _ _ _ _ _ _ _ (search rules)

pub value-returns-in_ok-share-in-Text : goal.value-returns-in_ok-share-in-Text
value-returns-in_ok-share-in-Text g t c = rw c.in-Text.is (ran_value _ _ _ _ _ _ _ (Value.Text c.in-Text.t) (ap (λ (x : List ℕ). Value.Text x) c.in_ok-share-in-Text.ensures) (λ p k past. refl))

pub value-returns-in-Name : goal.value-returns-in-Name
value-returns-in-Name g t c = rw c.in-Name.is c.name_value.ensures

pub value-returns-in-List : goal.value-returns-in-List
value-returns-in-List g t c = rw c.in-List.is (rw c.as_slice.ensures at c.list_value.ensures)

pub value-returns-in-Record : goal.value-returns-in-Record
value-returns-in-Record g t c = rw c.in-Record.is (rw c.as_slice-in-Record.ensures at c.record_value.ensures)

pub value-returns-in-Template : goal.value-returns-in-Template
value-returns-in-Template g t c = rw c.in-Template.is c.template_value.ensures

pub value-returns-in-Unary : goal.value-returns-in-Unary
value-returns-in-Unary g t c = rw c.in-Unary.is (rw c.get.ensures at c.unary_value.ensures)

pub value-returns-in-Chain : goal.value-returns-in-Chain
value-returns-in-Chain g t c = rw c.in-Chain.is (rw c.as_slice-in-Chain.ensures at c.chain_value.ensures)

pub value-returns-in-Cond : goal.value-returns-in-Cond
value-returns-in-Cond g t c = rw c.in-Cond.is c.cond_value.ensures

pub value-returns-in-Post : goal.value-returns-in-Post
value-returns-in-Post g t c = rw c.in-Post.is (rw c.as_slice-in-Post.ensures at c.post_value.ensures)

pub value-returns-in-Assign : goal.value-returns-in-Assign
value-returns-in-Assign g t c = rw c.in-Assign.is c.assign.ensures

pub value-returns-in-Step : goal.value-returns-in-Step
value-returns-in-Step g t c = rw c.in-Step.is (rw c.get-in-Step.ensures at c.step.ensures)

pub value-returns-in-Known : goal.value-returns-in-Known
value-returns-in-Known g t c = rw c.in-Known.is (rw c.as_slice-in-Known.ensures at c.known_value.ensures)

pub value-returns-in-Arrow : goal.value-returns-in-Arrow
value-returns-in-Arrow g t c = rw c.in-Arrow.is (rw c.get-in-Arrow.ensures at c.arrow_value.ensures)

pub value-returns-in-Jsx : goal.value-returns-in-Jsx
value-returns-in-Jsx g t c = rw c.in-Jsx.is (rw c.get-in-Jsx.ensures at c.jsx_value.ensures)

pub name_value-returns-in_err-r : goal.name_value-returns-in_err-r
name_value-returns-in_err-r g t c = ran_err _ _ _ _ _ _ _ _ _ _ _ (search rules) (λ p x. reference_adds c.args.here.now.func.now c.args.here.now.mode c.args.here.now.running.now c.args.here.now.levels p x) c.in_err-r.ensures

pub name_value-returns : goal.name_value-returns
name_value-returns g t c = ran_then _ _ _ _ _ _ _ _ _ _ _ _ c.in_ok-r.ensures c.value_of.ensures

pub post_value-returns-in_err-r : goal.post_value-returns-in_err-r
post_value-returns-in_err-r g t c = ran_err _ _ _ _ _ _ _ _ _ _ _ (search rules) (λ p x. reference_adds c.args.here.now.func.now c.args.here.now.mode c.args.here.now.running.now c.args.here.now.levels p x) c.in_err-r.ensures

pub post_value-returns : goal.post_value-returns
post_value-returns g t c = ran_then _ _ _ _ _ _ _ _ _ _ _ _ c.in_ok-r.ensures c.value_of.ensures

pub refer-returns-in-Name : goal.refer-returns-in-Name
refer-returns-in-Name g t c = rw c.in-Name.is c.named.ensures

pub refer-returns-in-Post : goal.refer-returns-in-Post
refer-returns-in-Post g t c = rw c.in-Post.is (rw c.as_slice.ensures at c.refer_post.ensures)

pub refer-returns-in_err-v-in_default : goal.refer-returns-in_err-v-in_default
refer-returns-in_err-v-in_default g t c = to_settled _ _ _ (setting c.args.here.now) _ _ _ c.args.e.now c.in_default.not-Name c.in_default.not-Post (ran_err _ _ _ _ _ _ _ _ _ _ _ (search rules) (λ p x. quiet) c.in_err-v-in_default.ensures)

pub refer-returns-in_ok-v-in_default : goal.refer-returns-in_ok-v-in_default
refer-returns-in_ok-v-in_default g t c = to_settled _ _ _ (setting c.args.here.now) _ _ _ c.args.e.now c.in_default.not-Name c.in_default.not-Post (ran_then _ _ _ _ _ _ _ _ _ _ _ _ c.in_ok-v-in_default.ensures (ran_gives _ _ _ _ _ _ _ (λ p k past. refl)))

pub cond_value-returns-in_err-v : goal.cond_value-returns-in_err-v
cond_value-returns-in_err-v g t c = to_cond _ _ _ (setting c.args.here.now) _ _ _ c.args.condition.now c.args.then.now c.args.otherwise.now (ran_err _ _ _ _ _ _ _ _ _ _ _ (search rules) (λ p x. chosen_adds c.args.here.now.func.now c.args.here.now.mode c.args.here.now.running.now c.args.here.now.levels p (is_true x) c.args.then.now c.args.otherwise.now) (rw c.get.ensures at c.in_err-v.ensures))

pub cond_value-returns-then-truthy : goal.cond_value-returns-then-truthy
cond_value-returns-then-truthy g t c = to_cond _ _ _ (setting c.args.here.now) _ _ _ c.args.condition.now c.args.then.now c.args.otherwise.now (ran_then _ _ _ _ _ _ _ _ _ _ _ _ (rw c.get.ensures at c.in_ok-v.ensures) (ran_chosen _ _ _ (setting c.args.here.now) _ _ _ c.in_ok-v.v c.args.then.now c.args.otherwise.now true (λ n. sym c.if-truthy.true ∙ c.truthy.ensures n) (rw c.get-then-truthy.ensures at c.value-then-truthy.ensures)))

pub cond_value-returns : goal.cond_value-returns
cond_value-returns g t c = to_cond _ _ _ (setting c.args.here.now) _ _ _ c.args.condition.now c.args.then.now c.args.otherwise.now (ran_then _ _ _ _ _ _ _ _ _ _ _ _ (rw c.get.ensures at c.in_ok-v.ensures) (ran_chosen _ _ _ (setting c.args.here.now) _ _ _ c.in_ok-v.v c.args.then.now c.args.otherwise.now false (λ n. sym c.if-truthy.false ∙ c.truthy.ensures n) (rw c.get-2.ensures at c.value-2.ensures)))

pub list_value-returns-in_err-all : goal.list_value-returns-in_err-all
list_value-returns-in_err-all g t c = to_list _ _ _ (setting c.args.here.now) _ _ _ c.args.items.now (ran_err _ _ _ _ _ _ _ _ _ _ _ (search rules) (λ p x. made_list_adds c.args.here.now.func.now c.args.here.now.mode c.args.here.now.running.now c.args.here.now.levels p x) c.in_err-all.ensures)

pub list_value-returns : goal.list_value-returns
list_value-returns g t c = to_list _ _ _ (setting c.args.here.now) _ _ _ c.args.items.now (ran_then _ _ _ _ _ _ _ _ _ _ _ _ c.in_ok-all.ensures (ran_made _ _ _ c.args.here.now.func.now c.args.here.now.mode c.args.here.now.running.now c.args.here.now.levels seen_in (λ here. made_list here (map (seen_in here) c.in_ok-all.all)) _ _ _ _ (λ p. refl) c.make_list.ensures))

pub record_value-returns-in_err-all : goal.record_value-returns-in_err-all
record_value-returns-in_err-all g t c = to_record _ _ _ (setting c.args.here.now) _ _ _ c.args.fields.now (ran_err _ _ _ _ _ _ _ _ _ _ _ (search rules) (λ p x. made_record_adds c.args.here.now.func.now c.args.here.now.mode c.args.here.now.running.now c.args.here.now.levels p x) c.in_err-all.ensures)

pub record_value-returns : goal.record_value-returns
record_value-returns g t c = to_record _ _ _ (setting c.args.here.now) _ _ _ c.args.fields.now (ran_then _ _ _ _ _ _ _ _ _ _ _ _ c.in_ok-all.ensures (ran_made _ _ _ c.args.here.now.func.now c.args.here.now.mode c.args.here.now.running.now c.args.here.now.levels seen_in (λ here. made_record here (seen_fields (captures here) c.in_ok-all.all)) _ _ _ _ (λ p. refl) (rw c.as_slice.ensures at c.make_record.ensures)))

pub template_value-returns-in_err-texts : goal.template_value-returns-in_err-texts
template_value-returns-in_err-texts g t c = to_template _ _ _ (setting c.args.here.now) _ _ _ c.args.parts.now c.args.holes.now (ran_err _ _ _ _ _ _ _ _ _ _ _ (search rules) (λ p x. answer_adds c.args.here.now.func.now c.args.here.now.mode c.args.here.now.running.now c.args.here.now.levels p (short_text (filled c.args.parts.now x))) (rw c.as_slice.ensures at c.in_err-texts.ensures))

pub template_value-returns-in_err-text : goal.template_value-returns-in_err-text
template_value-returns-in_err-text g t c = to_template _ _ _ (setting c.args.here.now) _ _ _ c.args.parts.now c.args.holes.now (ran_then _ _ _ _ _ _ _ _ _ _ _ _ (rw c.as_slice.ensures at c.in_ok-texts.ensures) (ran_lost _ _ _ _ _ _ _ (search rules)))

pub template_value-returns-in_err-short_text : goal.template_value-returns-in_err-short_text
template_value-returns-in_err-short_text g t c = to_template _ _ _ (setting c.args.here.now) _ _ _ c.args.parts.now c.args.holes.now (ran_then _ _ _ _ _ _ _ _ _ _ _ _ (rw c.as_slice.ensures at c.in_ok-texts.ensures) (ran_answer_err _ _ _ value_seen (λ p. short_text (filled c.args.parts.now c.in_ok-texts.texts)) _ _ c.in_err-short_text.field-0.0 (search rules) (λ p. subst (λ (a : Answer M.Value). Gave (value_seen p) a (Err c.in_err-short_text.field-0.0)) (rw (c.as_slice-2.ensures, c.as_slice-3.ensures) at c.in_ok-text.ensures) (c.in_err-short_text.ensures (captures_in p)))))

pub template_value-returns : goal.template_value-returns
template_value-returns g t c = to_template _ _ _ (setting c.args.here.now) _ _ _ c.args.parts.now c.args.holes.now (ran_then _ _ _ _ _ _ _ _ _ _ _ _ (rw c.as_slice.ensures at c.in_ok-texts.ensures) (ran_answer _ _ _ value_seen (λ p. short_text (filled c.args.parts.now c.in_ok-texts.texts)) _ _ (λ p. subst (λ (a : Answer M.Value). Gave (value_seen p) a (Ok c.in_ok-short_text.field-0)) (rw (c.as_slice-2.ensures, c.as_slice-3.ensures) at c.in_ok-text.ensures) (c.in_ok-short_text.ensures (captures_in p)))))

pub unary_value-returns-in_err-v : goal.unary_value-returns-in_err-v
unary_value-returns-in_err-v g t c = to_unary _ _ _ (setting c.args.here.now) _ _ _ c.args.operator c.args.e.now (ran_err _ _ _ _ _ _ _ _ _ _ _ (search rules) (λ p x. answer_adds c.args.here.now.func.now c.args.here.now.mode c.args.here.now.running.now c.args.here.now.levels p (unary c.args.operator x)) c.in_err-v.ensures)

pub unary_value-returns-in_err-unary : goal.unary_value-returns-in_err-unary
unary_value-returns-in_err-unary g t c = to_unary _ _ _ (setting c.args.here.now) _ _ _ c.args.operator c.args.e.now (ran_then _ _ _ _ _ _ _ _ _ _ _ _ c.in_ok-v.ensures (ran_answer_err _ _ _ value_seen (λ p. unary c.args.operator (value_seen p c.in_ok-v.v)) _ _ c.in_err-unary.field-0.0 (search rules) (λ p. c.in_err-unary.ensures (captures_in p))))

pub unary_value-returns : goal.unary_value-returns
unary_value-returns g t c = to_unary _ _ _ (setting c.args.here.now) _ _ _ c.args.operator c.args.e.now (ran_then _ _ _ _ _ _ _ _ _ _ _ _ c.in_ok-v.ensures (ran_answer _ _ _ value_seen (λ p. unary c.args.operator (value_seen p c.in_ok-v.v)) _ _ (λ p. c.in_ok-unary.ensures (captures_in p))))

pub jsx_value-returns-in_err-shown : goal.jsx_value-returns-in_err-shown
jsx_value-returns-in_err-shown g t c = to_jsx _ _ _ (setting c.args.here.now) _ _ _ c.args.jsx.now (ran_err _ _ _ _ _ _ _ _ _ _ _ (search rules) (λ p x. jsx_adds c.args.here.now.func.now c.args.here.now.mode c.args.here.now.running.now c.args.here.now.levels p (out-Jsx c.args.jsx.now).attrs x (out-Jsx c.args.jsx.now).children) (c.in_err-shown.ensures _))

pub jsx_value-returns-in_err-attributes : goal.jsx_value-returns-in_err-attributes
jsx_value-returns-in_err-attributes g t c = to_jsx _ _ _ (setting c.args.here.now) _ _ _ c.args.jsx.now (ran_then _ _ _ _ _ _ _ _ _ _ _ _ (c.in_ok-shown.ensures _) (ran_err _ _ _ _ _ _ _ _ _ _ _ (search rules) (λ p x. children_add c.args.here.now.func.now c.args.here.now.mode c.args.here.now.running.now c.args.here.now.levels p (shown_seen p c.in_ok-shown.shown) x (out-Jsx c.args.jsx.now).children) (rw c.as_slice.ensures at c.in_err-attributes.ensures)))

pub jsx_value-returns-in_err-children : goal.jsx_value-returns-in_err-children
jsx_value-returns-in_err-children g t c = to_jsx _ _ _ (setting c.args.here.now) _ _ _ c.args.jsx.now (ran_then _ _ _ _ _ _ _ _ _ _ _ _ (c.in_ok-shown.ensures _) (ran_then _ _ _ _ _ _ _ _ _ _ _ _ (rw c.as_slice.ensures at c.in_ok-attributes.ensures) (ran_err _ _ _ _ _ _ _ _ _ _ _ (search rules) (λ p x. markup_adds c.args.here.now.func.now c.args.here.now.mode c.args.here.now.running.now c.args.here.now.levels p (shown_seen p c.in_ok-shown.shown) (fields_seen p c.in_ok-attributes.attributes) (packed x)) (rw c.as_slice-2.ensures at c.in_err-children.ensures))))

pub jsx_value-returns : goal.jsx_value-returns
jsx_value-returns g t c = to_jsx _ _ _ (setting c.args.here.now) _ _ _ c.args.jsx.now (ran_then _ _ _ _ _ _ _ _ _ _ _ _ (c.in_ok-shown.ensures _) (ran_then _ _ _ _ _ _ _ _ _ _ _ _ (rw c.as_slice.ensures at c.in_ok-attributes.ensures) (ran_then _ _ _ _ _ _ _ _ _ _ _ _ (rw c.as_slice-2.ensures at c.in_ok-children.ensures) (ran_left _ _ _ c.args.here.now.func.now c.args.here.now.mode c.args.here.now.running.now c.args.here.now.levels seen_in (λ here. markup_made here (shown_by c.in_ok-shown.shown) (seen_fields (captures here) c.in_ok-attributes.attributes) (packed (map (seen_in here) c.in_ok-children.children))) _ _ (rw c.as_slice-3.ensures at c.make_markup.ensures)))))
