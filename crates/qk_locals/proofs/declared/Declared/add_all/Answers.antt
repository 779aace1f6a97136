use Rattle.std.proofs.Common.{[], ◌∷◌, refl, sym, ap, ◌∙◌}
use Rattle.qk_ast.specs.Scopes.{kind_in, declared_as}
use Rattle.qk_locals.specs.Meanings.{kind_of}
use Rattle.qk_locals.specs.Declaring.{declared_at, first_of}
use Rattle.qk_locals.proofs.Declarations.{declared_next, declared_last}
use Rattle.qk_locals.proofs.declared.Declared.add_all.Goals as goal

pub loop-name-preserved : goal.loop-name-preserved
loop-name-preserved c = λ q. let kind = kind_of c.args.kind in
    declared_next (declared_as kind) (λ name. declared_as kind (name ∷ [])) (λ x xs. refl) q (declared_at c.loop-name.self q) (declared_at c.add.new.self q)
    c.args.names.now c.loop-name.name-index c.name-item.result c.loop-name-test.true c.name-item.is
    (c.in_ok-add.ensures q ∙ ap (λ name. first_of (declared_at c.loop-name.self q) (kind_in q (declared_as kind (name ∷ [])))) c.as_str.ensures)
    ∙ c.loop-name.invariant q

pub returns : goal.returns
returns c = λ q. sym (declared_last (declared_as (kind_of c.args.kind)) refl q (declared_at c.loop-name.self q) c.args.names.now c.loop-name.name-index c.loop-name-test.false)
    ∙ c.loop-name.invariant q
