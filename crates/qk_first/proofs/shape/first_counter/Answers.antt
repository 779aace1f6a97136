use Rattle.std.proofs.Common.{[], ◌∷◌, IsTrue, ap, sym, ◌∙◌, subst}
use Rattle.std.proofs.lemmas.Bool.{false≢true}
use Rattle.qk_first.specs.Shape.{HasFirstShape, is_import, app_of}
use Rattle.qk_first.specs.Kept.{SignalStands}
use Rattle.qk_first.proofs.Found.{both_some, refuted, unless_some}
use Rattle.qk_first.proofs.Composed.{composed}
use Rattle.qk_first.proofs.Decomposed.{imports_are, items_are, of_a_kind, told, told_element}
use Rattle.qk_first.proofs.shape.first_counter.Goals as goal

pub returns-in_err-names-clause-none : goal.returns-in_err-names-clause-none
returns-in_err-names-clause-none c = refuted _ (HasFirstShape c.args.tree.now) (λ shape. c.in_err-names.ensures.whole _ (imports_are c.args.tree.now shape))

pub returns-in_err-signal-clause-none : goal.returns-in_err-signal-clause-none
returns-in_err-signal-clause-none c = refuted _ (HasFirstShape c.args.tree.now) (λ shape.
    let is = c.in_ok-statements.ensures.whole _ (items_are c.args.tree.now shape) in
    of_a_kind shape.text c.in_ok-statements.field-0.now ⊥ is c.in_err-signal.ensures.whole c.in_err-signal.ensures.whole_alone)

pub returns-then-fits-clause-none : goal.returns-then-fits-clause-none
returns-then-fits-clause-none c = unless_some _ (HasFirstShape c.args.tree.now) (λ shape.
    let f = shape.text in
    let is = c.in_ok-statements.ensures.whole _ (items_are c.args.tree.now shape) in
    let t = told f shape.fits c.in_ok-signal.signal c.in_ok-signal.jsx.now c.in_ok-statements.field-0.now is c.in_ok-signal.ensures.whole c.in_ok-signal.ensures.whole_alone in
    c.element.ensures.whole _ _ _ _ (told_element f shape.fits c.in_ok-signal.signal c.in_ok-signal.jsx.now t))

pub returns-then-fits-clause-kept : goal.returns-then-fits-clause-kept
returns-then-fits-clause-kept c =
    let fit = c.fits.ensures.0 c.if-fits.true in
    let m = c.args.tree.now in
    let signal = c.in_ok-signal.signal in
    let items = c.in_ok-statements.ensures.found ∙ ap (λ ss. app_of ss ∷ []) c.in_ok-signal.ensures.found in
    both_some c.element.result _ _ _
    (λ kept e first. composed m c.in_ok-names.names.now c.in_ok-signal.jsx.now kept c.in_ok-names.ensures.found fit.0 signal items fit.1 e first)
    c.element.ensures.found c.element.ensures.initial

pub returns-else-fits-clause-none : goal.returns-else-fits-clause-none
returns-else-fits-clause-none c = λ shape.
    let names = c.in_ok-names.ensures.whole _ (imports_are c.args.tree.now shape) in
    let is = c.in_ok-statements.ensures.whole _ (items_are c.args.tree.now shape) in
    let t = told shape.text shape.fits c.in_ok-signal.signal c.in_ok-signal.jsx.now c.in_ok-statements.field-0.now is c.in_ok-signal.ensures.whole c.in_ok-signal.ensures.whole_alone in
    let import = subst (λ ns. IsTrue (is_import ns)) (sym names) shape.fits.qwik in
    let stands = subst (λ ns. SignalStands ns c.in_ok-signal.signal) (sym names) t.stands in
    false≢true (sym c.if-fits.false ∙ c.fits.ensures.1 (import, stands))
