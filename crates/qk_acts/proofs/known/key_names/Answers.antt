use Rattle.std.proofs.Common.{rules, refl, sym, ap, ◌∙◌, [], map}
use Rattle.qk_meaning.specs.Parts.{names_of}
use Rattle.qk_meaning.specs.Operators.{Is}
use Rattle.qk_meaning.specs.Methods.{keys_in}
use Rattle.qk_meaning.specs.Setting.{captures}
use Rattle.qk_value.specs.View.{seen, seen_fields}
use Rattle.qk_heap.specs.Seen.{heap_seen}
use Rattle.qk_code.proofs.Runs.{goes_none}
use Rattle.qk_making.specs.Acting.{seen_in}
use Rattle.qk_making.proofs.Acting.{acts_lost}
use Rattle.qk_acts.proofs.Known_calls.{acts_keys, acts_no_keys, keys_of_record, keys_of_function, keys_of_element}
use Rattle.qk_acts.proofs.known.key_names.Goals as goal

pub returns-in_err-field_names-in-Record : goal.returns-in_err-field_names-in-Record
returns-in_err-field_names-in-Record g c = λ here. acts_lost _ _ _ _ _ _ _ (search rules)

pub returns-in_ok-field_names-in-Record : goal.returns-in_ok-field_names-in-Record
returns-in_ok-field_names-in-Record g c = λ here.
    let objects = heap_seen (captures here) c.args.heap.now in
    acts_keys here (seen_in here c.args.v.now) objects (names_of (seen_fields (captures here) c.as_slice.result.now)) [] _ _ _
    (ap (λ x. keys_in objects (seen (captures here) x)) c.in-Record.is ∙ keys_of_record objects (captures here) c.in-Record.fields ∙ ap (λ l. Is (names_of (seen_fields (captures here) l), [])) (sym c.as_slice.ensures))
    (c.in_ok-field_names-in-Record.ensures (captures here)) (goes_none _)

pub returns-in-Ref : goal.returns-in-Ref
returns-in-Ref g c = λ here. rw c.in-Ref.is (c.object_names.ensures here)

pub returns-in-Undefined : goal.returns-in-Undefined
returns-in-Undefined g c = λ here. let objects = heap_seen (captures here) c.args.heap.now in acts_no_keys here (seen_in here c.args.v.now) objects (map (seen_in here)) _ _ refl (ap (λ x. keys_in objects (seen (captures here) x)) c.in-Undefined.is)

pub returns-in-Null : goal.returns-in-Null
returns-in-Null g c = λ here. let objects = heap_seen (captures here) c.args.heap.now in acts_no_keys here (seen_in here c.args.v.now) objects (map (seen_in here)) _ _ refl (ap (λ x. keys_in objects (seen (captures here) x)) c.in-Null.is)

pub returns-in-Bool : goal.returns-in-Bool
returns-in-Bool g c = λ here. let objects = heap_seen (captures here) c.args.heap.now in acts_no_keys here (seen_in here c.args.v.now) objects (map (seen_in here)) _ _ refl (ap (λ x. keys_in objects (seen (captures here) x)) c.in-Bool.is)

pub returns-in-Int : goal.returns-in-Int
returns-in-Int g c = λ here. let objects = heap_seen (captures here) c.args.heap.now in acts_no_keys here (seen_in here c.args.v.now) objects (map (seen_in here)) _ _ refl (ap (λ x. keys_in objects (seen (captures here) x)) c.in-Int.is)

pub returns-in-Text : goal.returns-in-Text
returns-in-Text g c = λ here. let objects = heap_seen (captures here) c.args.heap.now in acts_no_keys here (seen_in here c.args.v.now) objects (map (seen_in here)) _ _ refl (ap (λ x. keys_in objects (seen (captures here) x)) c.in-Text.is)

pub returns-in-List : goal.returns-in-List
returns-in-List g c = λ here. let objects = heap_seen (captures here) c.args.heap.now in acts_no_keys here (seen_in here c.args.v.now) objects (map (seen_in here)) _ _ refl (ap (λ x. keys_in objects (seen (captures here) x)) c.in-List.is)

pub returns-in-Elem : goal.returns-in-Elem
returns-in-Elem g c = λ here.
    let objects = heap_seen (captures here) c.args.heap.now in
    acts_no_keys here (seen_in here c.args.v.now) objects (map (seen_in here)) _ _ refl (ap (λ x. keys_in objects (seen (captures here) x)) c.in-Elem.is ∙ keys_of_element objects (captures here) c.in-Elem.field-0)

pub returns-in-Fun : goal.returns-in-Fun
returns-in-Fun g c = λ here.
    let objects = heap_seen (captures here) c.args.heap.now in
    acts_no_keys here (seen_in here c.args.v.now) objects (map (seen_in here)) _ _ refl (ap (λ x. keys_in objects (seen (captures here) x)) c.in-Fun.is ∙ keys_of_function objects (captures here) c.in-Fun.field-0)
