use Rattle.std.specs.BTreeMap.{get_by_text}
use Rattle.std.specs.Option.{is_some}
use Rattle.std.specs.Prelude.{List, ℕ}
use Rattle.std.proofs.Common.{ap, sym, ◌∙◌}
use Rattle.qk_whole.proofs.Tables_grow.{none_there, put_there}
use Rattle.qk_whole.proofs.firsts.put.Goals as goal

pub returns-in_ok-insert : goal.returns-in_ok-insert
returns-in_ok-insert g c =
    let table = c.args.table.now in
    let fresh = none_there (get_by_text table c.args.name.now) (ap (λ (t : List ℕ). is_some (get_by_text table t)) (sym c.as_str.ensures) ∙ sym c.contains_key.ensures ∙ c.if-not-contains_key.true) in
    put_there c.args.name.now c.args.value table c.insert.new.self c.in_ok-from_str.field-0 (c.in_ok-from_str.ensures.ok ∙ c.as_str-then-not-contains_key.ensures) c.in_ok-insert.ensures.updates fresh
