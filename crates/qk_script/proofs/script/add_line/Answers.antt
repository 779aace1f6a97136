use Rattle.std.proofs.Common.{rules, map, ◌≡◌, ◌∷◌, [], ap, sym, ◌∙◌, subst}
use Rattle.std.proofs.lemmas.List.{map-append, nil_from_length}
use Rattle.std.specs.Prelude.{IfSome}
use Rattle.qk_script.specs.Script.{IsItem, spelling}
use Rattle.qk_script.specs.Answer.{item_of}
use Rattle.qk_script.proofs.Items.{adds_none, adds_one}
use Rattle.qk_script.proofs.script.add_line.Goals as goal

pub returns-then-is_empty-clause-added : goal.returns-then-is_empty-clause-added
returns-then-is_empty-clause-added c told = adds_none c.args.line.now _ (sym c.line_content-content.ensures ∙ nil_from_length _ (search rules))

pub returns-in_ok-push-in-Some-clause-added : goal.returns-in_ok-push-in-Some-clause-added
returns-in_ok-push-in-Some-clause-added c told =
    let some = subst (λ o. IfSome o (λ i. IsItem (item_of i) × (c.line_content-content.result.now ≡ spelling (item_of i)))) c.in-Some.is c.in_ok-item.ensures.some in
    adds_one c.args.line.now (item_of c.in-Some.item) _ _ some.0 (sym c.line_content-content.ensures ∙ some.1)
    (ap (map item_of) c.in_ok-push-in-Some.ensures.items ∙ map-append item_of c.args.items.now.items (c.in-Some.item ∷ []))
