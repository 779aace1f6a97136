use Rattle.std.proofs.Common.{refl, ap, ◌∙◌, ◌+◌, ◌||◌, ◌&&◌, drop}
use Rattle.qk_ast.specs.Texts.{same_text}
use Rattle.qk_modules.specs.Gathering.{exported_in}
use Rattle.qk_modules.specs.Exporting.{Pairs, has_pair}
use Rattle.qk_modules.proofs.Exporting_more.{item_entered, item_skipped}
use Rattle.qk_modules.proofs.exports.add_exports.Goals as goal
use Rattle.qk_modules.proofs.exports.add_exports.Goals.{then-item+in_ok-insert, else-item}

pub loop-item-preserved : goal.loop-item-preserved
loop-item-preserved c = λ m n.
    elim c.if-item.branch [
      | then-item+in_ok-insert w ↦
          ap (λ (set : Pairs). has_pair set m n || (same_text c.args.name.now m && exported_in (drop (c.loop-item.item-index + 1) c.args.items.now) n)) w.exports-is
          ∙ item_entered c.args.name.now c.args.items.now c.loop-item.item-index c.item-item.result c.loop-item-test.true c.item-item.is
          c.loop-item.exports w.insert.new.self (c.args.name, w.as_str.result) w.in_ok-insert.ensures.updates refl w.as_str.ensures w.if-item.true m n
          ∙ c.loop-item.invariant m n
      | else-item w ↦
          ap (λ (set : Pairs). has_pair set m n || (same_text c.args.name.now m && exported_in (drop (c.loop-item.item-index + 1) c.args.items.now) n)) w.exports-is
          ∙ item_skipped c.args.name.now c.args.items.now c.loop-item.item-index c.item-item.result c.loop-item-test.true c.item-item.is c.loop-item.exports w.if-item.false m n
          ∙ c.loop-item.invariant m n
    ]
