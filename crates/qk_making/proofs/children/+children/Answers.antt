use Rattle.std.specs.Prelude.{List, []}
use Rattle.std.proofs.Common.{◌≡◌, ◌∙◌, ap, sym, Err, rules}
use Rattle.qk_meaning.specs.Markup as meaning
use Rattle.qk_value.specs.declared.value.Value.{Value}
use Rattle.qk_value.specs.View.{seen, seen_all}
use Rattle.qk_value.proofs.Viewing.{seen-List, seen-Elem}
use Rattle.qk_making.proofs.Sequences.{child_fails, key_fails, child_passes}
use Rattle.qk_making.proofs.Trying.{tried_as, tried_so}
use Rattle.qk_making.proofs.children.+children.Goals as goal

pub try_child-returns-in-List : goal.try_child-returns-in-List
try_child-returns-in-List t c = λ names. tried_so
    (meaning.sequence_fault (seen_all names c.as_slice.result.now) []) (meaning.child_fault (seen names c.args.child.now)) c.try_children.result
    (ap meaning.child_fault (ap (seen names) c.in-List.is ∙ seen-List names c.in-List.items) ∙ ap (λ (all : List Value). meaning.sequence_fault (seen_all names all) []) (sym c.as_slice.ensures))
    (c.try_children.ensures names)

pub try_child-returns-in-Elem : goal.try_child-returns-in-Elem
try_child-returns-in-Elem t c = λ names. ap meaning.child_fault (ap (seen names) c.in-Elem.is ∙ seen-Elem names _)

pub try_children-returns-in_err-try_child : goal.try_children-returns-in_err-try_child
try_children-returns-in_err-try_child t c =
    let failed : c.from_residual.result ≡ Err c.in_err-try_child.field-0.0 = search rules in
    λ names. tried_as _ c.in_err-try_child.field-0.0 c.from_residual.result failed
    (child_fails names c.args.children.now c.loop-child.child-index _ c.loop-child-test.true c.child-item.is c.loop-child.keys _ c.in_err-try_child.field-0.0 (c.loop-child.invariant names) (c.in_err-try_child.ensures names))

pub try_children-returns-in_err-try_key : goal.try_children-returns-in_err-try_key
try_children-returns-in_err-try_key t c =
    let failed : c.from_residual-in_err-try_key.result ≡ Err c.in_err-try_key.field-0.0 = search rules in
    λ names. tried_as _ c.in_err-try_key.field-0.0 c.from_residual-in_err-try_key.result failed
    (key_fails names c.args.children.now c.loop-child.child-index _ c.loop-child-test.true c.child-item.is c.loop-child.keys _ c.in_err-try_key.field-0.0 (c.loop-child.invariant names) (c.in_ok-try_child.ensures names) (c.in_err-try_key.ensures.tried names))

pub try_children-loop-child-preserved : goal.try_children-loop-child-preserved
try_children-loop-child-preserved t c = λ names.
    child_passes names c.args.children.now c.loop-child.child-index _ c.loop-child-test.true c.child-item.is c.loop-child.keys _ (c.in_ok-try_child.ensures names) (c.in_ok-try_key.ensures.tried names) (c.in_ok-try_key.ensures.added names)
    ∙ c.loop-child.invariant names
