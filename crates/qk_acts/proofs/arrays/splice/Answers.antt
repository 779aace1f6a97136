use mir.Val.{SFits}
use Rattle.std.proofs.Common.{rules, refl, sym, ap, subst, ◌∙◌, List, [], w64, to_z, of_z}
use Rattle.std.proofs.lemmas.Int.{to_z-of_z}
use Rattle.std.specs.Prelude.{map}
use Rattle.qk_ast.specs.Texts.{Text}
use Rattle.qk_meaning.specs.Value as M
use Rattle.qk_meaning.specs.Value.{Site}
use Rattle.qk_meaning.specs.Heap.{object_at}
use Rattle.qk_meaning.specs.Methods.{object_items}
use Rattle.qk_meaning.specs.Making.{made_list}
use Rattle.qk_meaning.specs.Doing.{Doing}
use Rattle.qk_meaning.specs.Running.{Running}
use Rattle.qk_meaning.specs.Setting.{captures}
use Rattle.qk_value.specs.declared.fault.Fault.TheVariants.{TypeMismatch}
use Rattle.qk_heap.specs.Seen.{heap_seen}
use Rattle.qk_heap.specs.Cutting.{spliced_from, cut_from}
use Rattle.qk_heap.specs.Becoming.{HeapBecame}
use Rattle.qk_making.specs.Acting.{Makes, seen_in}
use Rattle.qk_making.proofs.Acting.{acts_faults, acts_lost}
use Rattle.qk_acts.proofs.Changing.{made_at, acts_open, acts_shut}
use Rattle.qk_acts.proofs.Objects.{array_held}
use Rattle.qk_acts.proofs.Array_changes.{not_spliced, acts_not_spliced, acts_spliced}
use Rattle.qk_acts.proofs.arrays.splice.Goals as goal

pub returns-in_err-a : goal.returns-in_err-a
returns-in_err-a g c = λ here mode_is. acts_shut here c.args.mode mode_is c.args.heap.now c.args.v.now (seen_in here) _ _ _ _ (search rules) c.in_err-a.ensures

pub returns-in_default : goal.returns-in_default
returns-in_default g c = λ here mode_is.
    acts_open here c.args.mode mode_is c.args.heap.now c.args.v.now (seen_in here) _ _ _ c.in_ok-a.a _ _ c.in_ok-a.ensures
    (acts_faults (seen_in here) _ _ _ _ TypeMismatch refl (λ s same. ap (λ (m : Doing Running M.Value). m s) (not_spliced here (seen_in here c.args.v.now) (map (seen_in here) c.args.arguments.now) (sym (c.two_integers.ensures (captures here)) ∙ (search rules)))))

pub returns-then-not-holds_array : goal.returns-then-not-holds_array
returns-then-not-holds_array g c = λ here mode_is.
    acts_open here c.args.mode mode_is c.args.heap.now c.args.v.now (seen_in here) _ _ _ c.in_ok-a.a _ _ c.in_ok-a.ensures
    (acts_not_spliced here c.args.mode mode_is c.args.heap.now c.args.v.now c.in_ok-a.a c.in_ok-a.ensures (g.H.Watch.stands_for c.args.host.now) _ c.args.arguments.now c.in-Some.start c.in-Some.count refl (sym (c.in-Some.ensures (captures here))) (sym (c.holds_array.ensures (captures here)) ∙ c.if-not-holds_array.true))

pub read_whole-requires : goal.read_whole-requires
read_whole-requires g c = made_at c.args.mode c.args.heap.now c.args.v.now c.in_ok-a.a c.in_ok-a.ensures

pub returns-in_err-read_whole : goal.returns-in_err-read_whole
returns-in_err-read_whole g c = λ here mode_is. acts_lost _ _ _ _ _ _ _ (search rules)

pub splice-requires-clause-made : goal.splice-requires-clause-made
splice-requires-clause-made g c = made_at c.args.mode c.args.heap.now c.args.v.now c.in_ok-a.a c.in_ok-a.ensures

pub splice-requires-clause-array : goal.splice-requires-clause-array
splice-requires-clause-array g c = let none : Site → List Text = λ s. [] in array_held none c.args.heap.now c.in_ok-a.a.0 (sym (c.holds_array.ensures none) ∙ c.if-not-holds_array.false)

pub returns-in_err-cut : goal.returns-in_err-cut
returns-in_err-cut g c = λ here mode_is. acts_lost _ _ _ _ _ _ _ (search rules)

pub returns-in_err-builder_of : goal.returns-in_err-builder_of
returns-in_err-builder_of g c = λ here mode_is. acts_lost _ _ _ _ _ _ _ (search rules)

pub returns : goal.returns
returns g c = λ here mode_is.
    let start_fits : SFits w64 c.in-Some.start = search rules in
    let count_fits : SFits w64 c.in-Some.count = search rules in
    let start = to_z-of_z w64 c.in-Some.start start_fits in
    let count = to_z-of_z w64 c.in-Some.count count_fits in
    acts_open here c.args.mode mode_is c.args.heap.now c.args.v.now (seen_in here) _ _ _ c.in_ok-a.a _ _ c.in_ok-a.ensures
    (acts_spliced here c.args.mode mode_is c.args.heap.now c.args.v.now c.in_ok-a.a c.in_ok-a.ensures g.H.Watch.stands_for c.args.host.now c.read_whole.new.w c.splice.new.w c.splice.new.self (sym (c.holds_array.ensures (captures here)) ∙ c.if-not-holds_array.false) (c.in_ok-read_whole.ensures.told (captures here))
    c.in-Some.start c.in-Some.count c.in_ok-cut.cut.items c.args.arguments.now _ c.make_list.new.heap (sym (c.in-Some.ensures (captures here)))
    (subst (λ k. HeapBecame g.H.Watch.stands_for (captures here) c.in_ok-a.a.0 (spliced_from (object_items (object_at (heap_seen (captures here) c.args.heap.now) c.in_ok-a.a.0)) k c.in-Some.count) c.args.heap.now c.splice.new.self c.read_whole.new.w c.splice.new.w) start
    (subst (λ k. HeapBecame g.H.Watch.stands_for (captures here) c.in_ok-a.a.0 (spliced_from (object_items (object_at (heap_seen (captures here) c.args.heap.now) c.in_ok-a.a.0)) (to_z w64 (of_z w64 c.in-Some.start)) k) c.args.heap.now c.splice.new.self c.read_whole.new.w c.splice.new.w) count
    (c.in_ok-cut.ensures.became (captures here))))
    (c.in_ok-cut.ensures.given (captures here) ∙ ap (λ k. cut_from (object_items (object_at (heap_seen (captures here) c.args.heap.now) c.in_ok-a.a.0)) k (to_z w64 (of_z w64 c.in-Some.count))) start ∙ ap (λ k. cut_from (object_items (object_at (heap_seen (captures here) c.args.heap.now) c.in_ok-a.a.0)) c.in-Some.start k) count)
    (subst (λ all. Makes (seen_in here) (made_list here (map (seen_in here) all)) (heap_seen (captures here) c.splice.new.self) c.make_list.result (heap_seen (captures here) c.make_list.new.heap)) c.in_ok-builder_of.ensures (c.make_list.ensures here mode_is)))
