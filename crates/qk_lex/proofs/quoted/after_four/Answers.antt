use Rattle.std.proofs.Common.{sym, ◌∙◌, rules}
use Rattle.qk_lex.proofs.EscapeLemmas.{four_end, four_bad, four_more, four_done}
use Rattle.qk_lex.proofs.quoted.after_four.Goals as goal

pub returns-in_default-clause-value : goal.returns-in_default-clause-value
returns-in_default-clause-value c = four_end c.loop.counter c.loop.number _ _ c.loop-test.true c.in_default.ensures.value c.loop.invariant.value

pub returns-in_default-hex_value-clause-value : goal.returns-in_default-hex_value-clause-value
returns-in_default-hex_value-clause-value c =
    four_bad c.loop.counter c.loop.number _ _ _ _ c.loop-test.true c.in-Some.ensures.value c.in_default-hex_value.ensures c.loop.invariant.value

pub loop-preserved : goal.loop-preserved
loop-preserved c = record {
  utf8 = search rules;
  value = four_more c.loop.counter c.loop.number _ _ _ _ _ _ c.loop-test.true c.in-Some.ensures.value c.in-Some-hex_value.ensures.0 c.in-Some-hex_value.ensures.1
      c.with_digit-number.ensures c.loop.invariant.value;
  within = search rules;
}

pub returns-else-is_scalar-clause-value : goal.returns-else-is_scalar-clause-value
returns-else-is_scalar-clause-value c =
    four_done c.loop.counter c.loop.number _ _ c.loop-test.false (sym c.is_scalar.ensures ∙ c.if-is_scalar.false) c.loop.invariant.value
