use Rattle.std.proofs.Common.{sym, ◌∙◌, ap}
use Rattle.std.specs.Option.{option_copied}
use Rattle.qk_ast.specs.Names.{is_listed}
use Rattle.qk_ast.specs.NamePlaces.{names_of}
use Rattle.qk_ast.proofs.NameSets.{has_none, has_past, has_there, name_in, name_past}
use Rattle.qk_ast.proofs.name_set.NameSet.has.Goals as goal

pub returns-in_default : goal.returns-in_default
returns-in_default c = has_none c.self.inside.places (names_of c.self.inside.names.items) c.args.name.now c.self.invariant (sym c.get.ensures.value ∙ ap option_copied c.in_default.is)
    ∙ ap (is_listed c.args.name.now) c.self.view_is

pub returns-in-Some-get : goal.returns-in-Some-get
returns-in-Some-get c = c.eq.ensures
    ∙ has_there c.self.inside.places (names_of c.self.inside.names.items) c.args.name.now c.in-Some-get.there.now.now c.in-Some.place.now c.self.invariant (sym c.get.ensures.value ∙ ap option_copied c.in-Some.is)
    (name_in c.deref.result.now c.self.inside.names.items c.in-Some.place.now c.in-Some-get.there c.deref.ensures.value c.in-Some-get.ensures.lookup)
    ∙ ap (is_listed c.args.name.now) c.self.view_is

pub returns-in-None : goal.returns-in-None
returns-in-None c = has_past c.self.inside.places (names_of c.self.inside.names.items) c.args.name.now c.in-Some.place.now c.self.invariant (sym c.get.ensures.value ∙ ap option_copied c.in-Some.is)
    (name_past c.deref.result.now c.self.inside.names.items c.in-Some.place.now c.deref.ensures.value c.in-None.ensures.lookup)
    ∙ ap (is_listed c.args.name.now) c.self.view_is
