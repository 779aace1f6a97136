use Rattle.std.proofs.Common.{ap, sym, ◌∙◌}
use Rattle.qk_meaning.specs.Roots.{place_of}
use Rattle.qk_whole.specs.Items.{argument_in}
use Rattle.qk_whole.proofs.Item_rows.{place_itself}
use Rattle.qk_whole.proofs.roots.place_of.Goals as goal

pub returns-in-Some-Arrow : goal.returns-in-Some-Arrow
returns-in-Some-Arrow c = let x = c.in-Some-Arrow in
    let is = rw x.is at x.field-0-is in
    ap (λ a. a.place) c.get.ensures ∙ sym (place_itself x.arrow) ∙ ap place_of (sym is) ∙ ap (λ o. place_of (argument_in o)) (sym x.is)
