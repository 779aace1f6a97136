use Rattle.std.proofs.Common.{arith, sym, ◌∙◌, ap, ◌≡◌, Some, length, subst, [], ◌∷◌, false}
use Rattle.std.proofs.lemmas.List.{map-append, length-map}
use Rattle.std.specs.BTreeMap.{UpdatesBy}
use Rattle.std.specs.Ordering.{nat_cmp}
use Rattle.std.specs.Cmp.Lexicographic.{slice_cmp}
use Rattle.qk_ast.specs.Names.{is_listed}
use Rattle.qk_ast.specs.NamePlaces.{names_of, HoldPlaces}
use Rattle.qk_ast.proofs.NameSets.{hold_still, hold_more}
use Rattle.qk_ast.proofs.name_set.NameSet.add.Goals as goal

pub invariant_of-self-in_err-push : goal.invariant_of-self-in_err-push
invariant_of-self-in_err-push c =
    let names = names_of c.self.inside.names.items in
    let absent : is_listed c.args.name.now names ≡ false = ap (is_listed c.args.name.now) c.self.view_is ∙ sym c.has.ensures ∙ c.if-has.false in
    let at : c.len.result ≡ length names = omega (arith, c.len.ensures, c.self.inside.names.ok.0, length-map c.self.inside.names.items (λ name. name.now)) in
    subst (HoldPlaces c.insert.new.self) (sym (ap names_of (c.in_err-push.ensures.items)))
    (hold_still c.self.inside.places c.insert.new.self names c.args.name.now c.self.invariant absent
    (subst (λ n. UpdatesBy (λ x y. slice_cmp nat_cmp x.now y.now) (λ k. slice_cmp nat_cmp c.args.name.now k.now) c.self.inside.places c.insert.new.self (Some n)) at c.in_ok-insert.ensures.updates))

pub invariant_of-self-2 : goal.invariant_of-self-2
invariant_of-self-2 c =
    let names = names_of c.self.inside.names.items in
    let absent : is_listed c.args.name.now names ≡ false = ap (is_listed c.args.name.now) c.self.view_is ∙ sym c.has.ensures ∙ c.if-has.false in
    let at : c.len.result ≡ length names = omega (arith, c.len.ensures, c.self.inside.names.ok.0, length-map c.self.inside.names.items (λ name. name.now)) in
    subst (HoldPlaces c.insert.new.self) (sym (ap names_of c.in_ok-push.ensures.items ∙ map-append (λ name. name.now) c.self.inside.names.items (c.args.name ∷ [])))
    (hold_more c.self.inside.places c.insert.new.self names c.args.name.now c.self.invariant absent
    (subst (λ n. UpdatesBy (λ x y. slice_cmp nat_cmp x.now y.now) (λ k. slice_cmp nat_cmp c.args.name.now k.now) c.self.inside.places c.insert.new.self (Some n)) at c.in_ok-insert.ensures.updates))
