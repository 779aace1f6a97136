use Rattle.std.specs.Prelude.{string_bytes}
use Rattle.std.proofs.Common.{sym, ◌∙◌, arith}
use Rattle.qk_value.specs.View.{seen}
use Rattle.qk_acts.proofs.Joining.{long_joined, next_goes, next_stops}
use Rattle.qk_acts.proofs.lists.append_next.Goals as goal

pub returns-then-is_primitive-clause-goes_on : goal.returns-then-is_primitive-clause-goes_on
returns-then-is_primitive-clause-goes_on c = λ names rest.
    long_joined c.args.between.now (string_bytes c.args.to.now) (seen names c.args.item.now) rest (omega (arith, c.len.ensures)) (sym (c.is_primitive.ensures names) ∙ c.if-is_primitive.true)

pub returns-clause-goes_on : goal.returns-clause-goes_on
returns-clause-goes_on c = next_goes c.args.between.now (λ names. seen names c.args.item.now) (string_bytes c.args.to.now) (string_bytes c.push_str.new.self) (string_bytes c.append_item.new.to) c.append_item.result c.in-Ok.ensures.bytes c.append_item.ensures

pub returns-clause-stops : goal.returns-clause-stops
returns-clause-stops c = next_stops c.args.between.now (λ names. seen names c.args.item.now) (string_bytes c.push_str.new.self) (string_bytes c.append_item.new.to) c.append_item.result c.append_item.ensures
