use Rattle.std.specs.Prelude.{List, map, length, ◌≤◌}
use Rattle.std.proofs.Common.{◌∙◌, ap, sym, arith}
use Rattle.qk_meaning.specs.Making as making
use Rattle.qk_value.specs.declared.value.Value.{Value}
use Rattle.qk_value.specs.declared.value.Value.TheVariants as v
use Rattle.qk_making.specs.Acting.{seen_in}
use Rattle.qk_making.proofs.Items.{list_fixed}
use Rattle.qk_making.proofs.Making.{so_meant}
use Rattle.qk_making.proofs.lists.fixed_list.Goals as goal

pub returns : goal.returns
returns c =
    let few : length c.args.items ≤ 65536 = omega (arith, c.len.ensures, c.if-len-gt-MOST.false) in
    λ here mode. so_meant
    (seen_in here) _ (making.made_list here (map (seen_in here) c.args.items)) c.fixed.result
    (list_fixed here c.args.items few mode ∙ ap (λ (vs : List Value). making.made here (seen_in here (v.List vs))) (sym c.in_ok-into_list.ensures))
    (c.fixed.ensures here)
