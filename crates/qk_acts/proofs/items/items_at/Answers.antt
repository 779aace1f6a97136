use Rattle.std.specs.Prelude.{map}
use Rattle.std.proofs.Common.{refl, ◌∙◌, rules}
use Rattle.qk_meaning.specs.Value as M
use Rattle.qk_meaning.specs.Setting.{captures}
use Rattle.qk_meaning.specs.Methods.{all_items}
use Rattle.qk_heap.specs.Seen.{heap_seen}
use Rattle.qk_making.specs.Acting.{seen_in}
use Rattle.qk_making.proofs.Acting.{acts_lost}
use Rattle.qk_acts.proofs.Taken.{no_items, items_read, array_there, array_made, no_array}
use Rattle.qk_acts.proofs.items.items_at.Goals as goal

pub returns-in_default : goal.returns-in_default
returns-in_default g c = λ here. no_items here (heap_seen (captures here) c.args.heap.now) (g.H.Watch.stands_for c.args.host.now) (M.Ref c.args.a.0) _ refl (no_array (captures here) c.args.heap.now c.args.a.0 c.in_default.ensures)

pub read_whole-requires : goal.read_whole-requires
read_whole-requires g c = array_made c.args.heap.now c.args.a.0 c.in-Some.items.now c.in-Some.ensures

pub returns-in_err-read_whole : goal.returns-in_err-read_whole
returns-in_err-read_whole g c = λ here. acts_lost (map (seen_in here)) (all_items (M.Ref c.args.a.0)) _ _ _ _ _ (search rules)

pub returns-in_err-all : goal.returns-in_err-all
returns-in_err-all g c = λ here. acts_lost (map (seen_in here)) (all_items (M.Ref c.args.a.0)) _ _ _ _ _ (search rules)

pub returns-in_err-into_list : goal.returns-in_err-into_list
returns-in_err-into_list g c = λ here. acts_lost (map (seen_in here)) (all_items (M.Ref c.args.a.0)) _ _ _ _ _ (search rules)

pub returns : goal.returns
returns g c = λ here.
    items_read here (heap_seen (captures here) c.args.heap.now) (g.H.Watch.stands_for c.args.host.now) c.args.a.0 c.in-Some.items.now c.in_ok-into_list.field-0 _ (g.H.Watch.stands_for c.read_whole.new.w)
    (array_there (captures here) c.args.heap.now c.args.a.0 c.in-Some.items.now c.in-Some.ensures) refl (c.in_ok-into_list.ensures ∙ c.in_ok-all.ensures ∙ c.as_slice.ensures.now) (c.in_ok-read_whole.ensures.told (captures here))
