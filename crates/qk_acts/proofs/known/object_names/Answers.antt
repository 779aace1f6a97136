use Rattle.std.proofs.Common.{◌≡◌, rules, refl, sym, ap, ◌∙◌, None, [], ◌∷◌, map}
use Rattle.qk_meaning.specs.Value as M
use Rattle.qk_meaning.specs.World.{Keys}
use Rattle.qk_meaning.specs.Setting.{captures}
use Rattle.qk_heap.specs.Seen.{heap_seen}
use Rattle.qk_heap.specs.Names.{object_names}
use Rattle.qk_making.specs.Acting.{seen_in}
use Rattle.qk_making.proofs.Acting.{acts_lost}
use Rattle.qk_acts.proofs.Objects.{none_made, was_made, seen_there}
use Rattle.qk_acts.proofs.Known_calls.{acts_keys, acts_no_keys, keys_made, keys_lacking, keys_unmade}
use Rattle.qk_acts.proofs.known.object_names.Goals as goal

pub returns-in_default : goal.returns-in_default
returns-in_default g c = λ here.
    let objects = heap_seen (captures here) c.args.heap.now in
    acts_no_keys here (M.Ref c.args.a.0) objects (map (seen_in here)) _ _ refl (keys_unmade objects c.args.a.0 (none_made (captures here) c.args.heap.now c.args.a.0 (search rules)))

pub returns-in_err-names : goal.returns-in_err-names
returns-in_err-names g c = λ here. acts_lost _ _ _ _ _ _ _ (search rules)

pub returns-in_default-2 : goal.returns-in_default-2
returns-in_default-2 g c = λ here.
    let objects = heap_seen (captures here) c.args.heap.now in
    let none : c.in_ok-names.field-0 ≡ None = search rules in
    acts_no_keys here (M.Ref c.args.a.0) objects (map (seen_in here)) _ _ refl
    (keys_lacking objects c.args.a.0 (was_made (captures here) c.args.heap.now c.args.a.0 c.in-Some.object.now (sym c.in-Some.ensures))
    (ap object_names (seen_there (captures here) c.args.heap.now c.args.a.0 c.in-Some.object.now (sym c.in-Some.ensures)) ∙ sym (rw none at (c.in_ok-names.ensures (captures here)))))

pub returns-in_err-read : goal.returns-in_err-read
returns-in_err-read g c = λ here. acts_lost _ _ _ _ _ _ _ (search rules)

pub returns-in_err-text_values : goal.returns-in_err-text_values
returns-in_err-text_values g c = λ here. acts_lost _ _ _ _ _ _ _ (search rules)

pub returns : goal.returns
returns g c = λ here.
    let objects = heap_seen (captures here) c.args.heap.now in
    acts_keys here (M.Ref c.args.a.0) objects c.in-Some-2.names.items (record { address = c.args.a.0; key = Keys } ∷ []) _ _ _
    (keys_made objects c.args.a.0 c.in-Some-2.names.items (was_made (captures here) c.args.heap.now c.args.a.0 c.in-Some.object.now (sym c.in-Some.ensures))
    (ap object_names (seen_there (captures here) c.args.heap.now c.args.a.0 c.in-Some.object.now (sym c.in-Some.ensures)) ∙ sym (rw c.in-Some-2.is at (c.in_ok-names.ensures (captures here)))))
    (c.in_ok-text_values.ensures (captures here)) c.in_ok-read.ensures.told
