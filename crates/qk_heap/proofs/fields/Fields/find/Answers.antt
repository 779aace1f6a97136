use Rattle.std.proofs.Common.{◌≡◌, sym, subst, slice_get, Some}
use Rattle.qk_heap.proofs.Entries.{named_there}
use Rattle.qk_heap.proofs.fields.Fields.find.Goals as goal

pub returns-clause-place : goal.returns-clause-place
returns-clause-place c =
    subst (λ l. slice_get l c.in_ok-at.at ≡ Some (c.args.name.now, c.in_ok-at.v.now)) c.self.view_is
    (named_there c.args.name.now c.in_ok-at.field-0-1.now c.in_ok-at.v.now c.self.inside.map.entries c.in_ok-at.at (sym c.in_ok-at.ensures.key) c.in_ok-at.ensures.entry)
