use Rattle.std.proofs.Common.{arith, sym, ap, ◌≡◌, ◌∙◌}
use Rattle.std.specs.Option.{is_some}
use Rattle.qk_rules.specs.Root_table.{kind_at, earlier_of, item_kinds}
use Rattle.qk_rules.specs.Tables.{named_of, table_at}
use Rattle.qk_rules.proofs.Module_tables.{module_again, module_entered, holds_still, named_more, cut_back}
use Rattle.qk_rules.proofs.kinds.Kinds.put.Goals as goal

pub invariant_of-self-then-contains_key : goal.invariant_of-self-then-contains_key
invariant_of-self-then-contains_key c =
    let pairs = c.self.inside.modules.items in
    let key : c.as_bytes-key.result.now ≡ c.args.name.now = c.as_bytes-key.ensures.value ∙ c.as_str.ensures in
    module_again c.self.inside.tables (named_of pairs) (named_of c.push.new.self.items) c.args.name.now c.args.m.now c.self.invariant
    (ap (λ t. is_some (table_at c.self.inside.tables t)) (sym key) ∙ sym c.contains_key.ensures ∙ c.if-contains_key.true)
    (named_more pairs c.push.new.self.items (c.args.name, c.args.m) c.in_ok-push.ensures.items)

pub invariant_of-self-in-Ok : goal.invariant_of-self-in-Ok
invariant_of-self-in-Ok c =
    let pairs = c.self.inside.modules.items in
    module_entered c.self.inside.tables c.insert.new.self (named_of pairs) (named_of c.push-2.new.self.items) c.as_bytes-key.result.now c.args.name.now c.args.m.now c.new-table.result c.add_items.new.self
    (c.as_bytes-key.ensures.value ∙ c.as_str.ensures) c.self.invariant (sym c.contains_key.ensures ∙ c.if-contains_key.false) c.new-table.ensures
    (λ q. c.in_ok-add_items.ensures q ∙ ap (λ items. earlier_of (kind_at c.new-table.result q) (item_kinds items q)) c.as_slice.ensures)
    (named_more pairs c.push-2.new.self.items (c.args.name, c.args.m) c.in_ok-push-2.ensures.items) c.in-Ok.ensures.updates

pub invariant_of-self-in-Err : goal.invariant_of-self-in-Err
invariant_of-self-in-Err c =
    let pairs = c.self.inside.modules.items in
    holds_still c.self.inside.tables c.insert.new.self (named_of pairs) (named_of c.truncate.new.self.items) c.self.invariant c.in-Err.ensures.err
    (ap named_of (cut_back pairs c.push-2.new.self.items c.truncate.new.self.items (c.args.name, c.args.m) c.len-before.result (omega (arith, c.len-before.ensures, c.self.inside.modules.ok.0)) c.in_ok-push-2.ensures.items c.truncate.ensures.items))
