use Rattle.std.specs.Prelude.{[], None}
use Rattle.std.proofs.Common.{ap, sym, ◌∙◌}
use Rattle.qk_meaning.specs.World as W
use Rattle.qk_meaning.specs.Parts.{listed, value_at}
use Rattle.qk_meaning.specs.Heap.{Found, at_name, read_list, read_member}
use Rattle.qk_value.specs.View.{seen, seen_all, seen_fields}
use Rattle.qk_value.proofs.Viewing.{seen-List, seen-Record, seen-Elem}
use Rattle.qk_heap.specs.Seen.{heap_seen}
use Rattle.qk_acts.specs.Looking.{item_location, key_location}
use Rattle.qk_acts.proofs.Looked.{reads_same}
use Rattle.qk_acts.proofs.reading.look_up.Goals as goal

pub returns-in-Record : goal.returns-in-Record
returns-in-Record c = reads_same _ _ c.look_in_record.result (λ captured.
    ap (λ fields. at_name (λ t. Found (value_at t (seen_fields captured fields)) []) (seen captured c.args.key.now)) c.as_slice.ensures
    ∙ ap (λ w. read_member (heap_seen captured c.args.heap.now) w (seen captured c.args.key.now)) (sym (ap (seen captured) c.in-Record.is ∙ seen-Record captured c.in-Record.fields))) c.look_in_record.ensures

pub returns-in-List : goal.returns-in-List
returns-in-List c = reads_same _ _ c.look_in_list.result (λ captured.
    ap (λ items. read_list (listed (seen_all captured items)) (item_location None) (key_location None W.Length) (seen captured c.args.key.now)) c.as_slice-in-List.ensures
    ∙ ap (λ w. read_member (heap_seen captured c.args.heap.now) w (seen captured c.args.key.now)) (sym (ap (seen captured) c.in-List.is ∙ seen-List captured c.in-List.items))) c.look_in_list.ensures

pub returns-in-Ref : goal.returns-in-Ref
returns-in-Ref c = reads_same _ _ c.look_at_address.result (λ captured. ap (λ v. read_member (heap_seen captured c.args.heap.now) (seen captured v) (seen captured c.args.key.now)) (sym c.in-Ref.is)) c.look_at_address.ensures

pub returns-in-Elem : goal.returns-in-Elem
returns-in-Elem c = λ captured. ap (λ w. read_member (heap_seen captured c.args.heap.now) w (seen captured c.args.key.now)) (ap (seen captured) c.in-Elem.is ∙ seen-Elem captured c.in-Elem.field-0)
