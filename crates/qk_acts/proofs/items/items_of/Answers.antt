use Rattle.std.specs.Prelude.{map}
use Rattle.std.proofs.Common.{refl, sym, ap, subst, rules}
use Rattle.qk_meaning.specs.Setting.{captures}
use Rattle.qk_meaning.specs.Methods.{is_list, all_items}
use Rattle.qk_value.proofs.Viewing.{seen-Elem}
use Rattle.qk_heap.specs.Seen.{heap_seen}
use Rattle.qk_making.specs.Acting.{Acts, seen_in}
use Rattle.qk_making.proofs.Acting.{acts_lost}
use Rattle.qk_acts.proofs.Taken.{items_shared, not_listed, function_not_listed}
use Rattle.qk_acts.proofs.items.items_of.Goals as goal

pub returns-in_err-share-in-List : goal.returns-in_err-share-in-List
returns-in_err-share-in-List g c = λ here. acts_lost (map (seen_in here)) (all_items (seen_in here c.args.v.now)) _ _ _ _ _ (search rules)

pub returns-in_ok-share-in-List : goal.returns-in_ok-share-in-List
returns-in_ok-share-in-List g c = λ here.
    items_shared here (heap_seen (captures here) c.args.heap.now) (g.H.Watch.stands_for c.args.host.now) c.args.v.now c.in-List.items c.in_ok-share-in-List.field-0 _ c.in-List.is refl c.in_ok-share-in-List.ensures

pub returns-in-Ref : goal.returns-in-Ref
returns-in-Ref g c = λ here.
    subst (λ v. Acts (map (seen_in here)) (all_items (seen_in here v)) (heap_seen (captures here) c.args.heap.now) (g.H.Watch.stands_for c.args.host.now) c.items_at.result (heap_seen (captures here) c.args.heap.now) (g.H.Watch.stands_for c.items_at.new.host)) (sym c.in-Ref.is)
    (c.items_at.ensures here)

pub returns-in-Undefined : goal.returns-in-Undefined
returns-in-Undefined g c = λ here. not_listed here (heap_seen (captures here) c.args.heap.now) (g.H.Watch.stands_for c.args.host.now) c.args.v.now _ c.in-Undefined.is refl

pub returns-in-Null : goal.returns-in-Null
returns-in-Null g c = λ here. not_listed here (heap_seen (captures here) c.args.heap.now) (g.H.Watch.stands_for c.args.host.now) c.args.v.now _ c.in-Null.is refl

pub returns-in-Bool : goal.returns-in-Bool
returns-in-Bool g c = λ here. not_listed here (heap_seen (captures here) c.args.heap.now) (g.H.Watch.stands_for c.args.host.now) c.args.v.now _ c.in-Bool.is refl

pub returns-in-Int : goal.returns-in-Int
returns-in-Int g c = λ here. not_listed here (heap_seen (captures here) c.args.heap.now) (g.H.Watch.stands_for c.args.host.now) c.args.v.now _ c.in-Int.is refl

pub returns-in-Text : goal.returns-in-Text
returns-in-Text g c = λ here. not_listed here (heap_seen (captures here) c.args.heap.now) (g.H.Watch.stands_for c.args.host.now) c.args.v.now _ c.in-Text.is refl

pub returns-in-Record : goal.returns-in-Record
returns-in-Record g c = λ here. not_listed here (heap_seen (captures here) c.args.heap.now) (g.H.Watch.stands_for c.args.host.now) c.args.v.now _ c.in-Record.is refl

pub returns-in-Elem : goal.returns-in-Elem
returns-in-Elem g c = λ here.
    not_listed here (heap_seen (captures here) c.args.heap.now) (g.H.Watch.stands_for c.args.host.now) c.args.v.now _ c.in-Elem.is (ap (is_list (heap_seen (captures here) c.args.heap.now)) (seen-Elem (captures here) c.in-Elem.field-0))

pub returns-in-Fun : goal.returns-in-Fun
returns-in-Fun g c = λ here.
    not_listed here (heap_seen (captures here) c.args.heap.now) (g.H.Watch.stands_for c.args.host.now) c.args.v.now _ c.in-Fun.is (function_not_listed (captures here) (heap_seen (captures here) c.args.heap.now) c.in-Fun.field-0)
