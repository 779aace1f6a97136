use Rattle.std.specs.Prelude.{List, map, length, ◌≤◌}
use Rattle.std.proofs.Common.{◌≡◌, ◌∙◌, ap, sym, subst, Ok}
use Rattle.qk_meaning.specs.World as W
use Rattle.qk_meaning.specs.Making as making
use Rattle.qk_meaning.specs.Running.{made_object}
use Rattle.qk_meaning.specs.Setting.{captures}
use Rattle.qk_value.specs.declared.value.Value.{Value}
use Rattle.qk_value.specs.declared.value.Value.TheVariants as v
use Rattle.qk_value.specs.View.{seen_all}
use Rattle.qk_heap.specs.declared.object.Object.{Object}
use Rattle.qk_heap.specs.Seen.{object_seen, heap_seen}
use Rattle.qk_making.specs.Acting.{seen_in}
use Rattle.qk_making.proofs.Items.{list_as_object}
use Rattle.qk_making.proofs.Making.{one_made, so_made}
use Rattle.qk_making.proofs.lists.make_array.Goals as goal

pub returns : goal.returns
returns c =
    let is : c.in-Some.items ≡ c.args.items = c.in-Some.ensures.given ∙ c.into_vec.ensures in
    let few : length c.args.items ≤ 65536 = subst (λ (vs : List Value). length vs ≤ 65536) c.into_vec.ensures c.in-Some.ensures.few in
    λ here effect. so_made
    (seen_in here) (made_object (object_seen (captures here) (Object.Array c.in-Some.items))) (making.made_list here (map (seen_in here) c.args.items)) (heap_seen (captures here) c.args.heap.now) (Ok (v.Ref c.in_ok-address.address)) (heap_seen (captures here) c.make.new.self)
    (list_as_object here c.args.items few effect ∙ ap (λ (vs : List Value). made_object (W.Array (seen_all (captures here) vs))) (sym is))
    (one_made here (Object.Array c.in-Some.items) c.args.heap.now c.make.new.self c.in_ok-address.address c.in_ok-address.ensures.next c.in_ok-address.ensures.made)
