use Rattle.std.proofs.Common.{ap, sym, Ok}
use Rattle.qk_meaning.specs.Value.{Fields, end}
use Rattle.qk_meaning.specs.World as W
use Rattle.qk_meaning.specs.Parts.{in_listing_order}
use Rattle.qk_meaning.specs.Running.{made_object}
use Rattle.qk_meaning.specs.Setting.{captures}
use Rattle.qk_value.specs.declared.value.Value.TheVariants as v
use Rattle.qk_value.specs.View.{seen_fields}
use Rattle.qk_heap.specs.declared.object.Object.{Object}
use Rattle.qk_heap.specs.Seen.{object_seen, heap_seen}
use Rattle.qk_making.specs.Acting.{seen_in}
use Rattle.qk_making.proofs.Making.{one_made, so_made}
use Rattle.qk_making.proofs.records.make_plain.Goals as goal

pub returns : goal.returns
returns c = λ here. so_made
    (seen_in here) (made_object (object_seen (captures here) (Object.Plain c.in_ok-held.held))) (made_object (W.Plain (in_listing_order end (seen_fields (captures here) c.args.fields.now)))) (heap_seen (captures here) c.args.heap.now) (Ok (v.Ref c.in_ok-address.address)) (heap_seen (captures here) c.make.new.self)
    (ap (λ (fs : Fields). made_object (W.Plain fs)) (sym (c.in_ok-held.ensures (captures here))))
    (one_made here (Object.Plain c.in_ok-held.held) c.args.heap.now c.make.new.self c.in_ok-address.address c.in_ok-address.ensures.next c.in_ok-address.ensures.made)
