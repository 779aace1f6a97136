use Rattle.std.proofs.Common.{sym, ◌∙◌, ap, take, subst}
use Rattle.std.proofs.lemmas.List.{take-map}
use Rattle.qk_ast.specs.NamePlaces.{names_of, HoldPlaces}
use Rattle.qk_ast.proofs.NameSets.{hold_front}
use Rattle.qk_ast.proofs.name_set.NameSet.cut.Goals as goal

pub invariant_of-self : goal.invariant_of-self
invariant_of-self c =
    subst (HoldPlaces c.self.inside.places) (take-map (λ name. name.now) c.args.len c.self.inside.names.items ∙ sym (ap names_of c.truncate.ensures.items))
    (hold_front c.self.inside.places (names_of c.self.inside.names.items) c.args.len c.self.invariant)

pub returns : goal.returns
returns c = ap names_of c.truncate.ensures.items ∙ sym (take-map (λ name. name.now) c.args.len c.self.inside.names.items) ∙ ap (take c.args.len) c.self.view_is
