use Rattle.std.specs.Prelude.{◌≡◌, pos}
use Rattle.std.specs.Option.{option_map}
use Rattle.std.proofs.Common.{sym, ap, ◌∙◌, w64}
use Rattle.std.proofs.lemmas.Int.{to_z-of_z}
use Rattle.qk_meaning.specs.Parts.{listed, nth, or_undefined}
use Rattle.qk_meaning.specs.Heap.{Found, at_index}
use Rattle.qk_value.specs.View.{seen, seen_all}
use Rattle.qk_acts.specs.Looking.{item_location}
use Rattle.qk_acts.proofs.Looked.{got, item_there, index_found, no_index}
use Rattle.qk_acts.proofs.reading.look_at_index.Goals as goal

pub returns-in_default : goal.returns-in_default
returns-in_default c = λ captured. no_index (listed (seen_all captured c.args.items.now)) c.args.array c.args.n (λ index e. c.in_default.ensures.none index (to_z-of_z w64 c.args.n c.ranges.n ∙ e))

pub returns : goal.returns
returns c = λ captured.
    let is : c.args.n ≡ pos c.in-Some.index = sym (to_z-of_z w64 c.args.n c.ranges.n) ∙ c.in-Some.ensures.some in
    let given : seen captured c.in_ok-v.v ≡ nth (listed (seen_all captured c.args.items.now)) c.in-Some.index =
    c.in_ok-v.ensures captured ∙ ap (λ r. or_undefined (option_map (seen captured) r)) (got c.args.items.now c.in-Some.index c.get.result c.get.ensures.lookup) ∙ item_there captured c.args.items.now c.in-Some.index in
    ap (λ n. Found (at_index (listed (seen_all captured c.args.items.now)) n) (item_location c.args.array n)) is
    ∙ index_found (listed (seen_all captured c.args.items.now)) c.args.array c.in-Some.index c.in-Some.ensures.small
    ∙ (λ i. Found (sym given i) (sym c.location.ensures i))
