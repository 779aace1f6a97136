use Rattle.std.specs.Prelude.{◌≡◌, true, length, pos, codes}
use Rattle.std.proofs.Common.{ap, sym, ◌∙◌, subst, arith, rules, w64, to_z, of_z}
use Rattle.std.proofs.lemmas.Int.{to_z_pos}
use Rattle.qk_ast.specs.Texts.{same_text}
use Rattle.qk_meaning.specs.Value as M
use Rattle.qk_meaning.specs.World as W
use Rattle.qk_meaning.specs.Parts.{listed}
use Rattle.qk_meaning.specs.Heap.{Found}
use Rattle.qk_value.specs.View.{seen, seen_all}
use Rattle.qk_acts.specs.Looking.{item_location, key_location}
use Rattle.qk_acts.proofs.Looked.{list_named, listed_count, is_equal, index_read}
use Rattle.qk_acts.proofs.reading.look_in_list.Goals as goal

pub returns-in-Some : goal.returns-in-Some
returns-in-Some c = λ captured.
    let named : same_text c.in-Some.name.now (codes "length") ≡ true = subst (λ t. same_text t (codes "length") ≡ true) c.as_str.ensures (is_equal _ (sym c.if-ne.false ∙ c.ne.ensures)) in
    let count : pos (length (listed (seen_all captured c.args.items.now))) ≡ to_z w64 (length c.args.items.now) = ap pos (listed_count captured c.args.items.now) ∙ sym (to_z_pos w64 (length c.args.items.now) (omega arith)) in
    list_named (listed (seen_all captured c.args.items.now)) (item_location c.args.array) (key_location c.args.array W.Length) (seen captured c.args.key.now) c.in-Some.name.now true (c.in-Some.ensures captured) named
    ∙ (λ i. Found (M.Int (count i)) (sym c.location.ensures i))

pub returns-in-Some-as_int : goal.returns-in-Some-as_int
returns-in-Some-as_int c = index_read c.args.items.now c.args.array c.args.key.now c.in-Some-as_int.n (to_z w64 (of_z w64 c.in-Some-as_int.n)) c.look_at_index.result (search rules) c.in-Some-as_int.ensures c.look_at_index.ensures
