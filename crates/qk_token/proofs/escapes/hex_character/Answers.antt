use Rattle.std.proofs.Common.{◌∙◌, rules}
use Rattle.qk_token.proofs.Hex.{begins, value_stops, rest_stops, value_ends, rest_ends, goes_on}
use Rattle.qk_token.proofs.escapes.hex_character.Goals as goal

pub loop-init : goal.loop-init
loop-init c = record { utf8 = search rules; reading = begins _ _; within = search rules }

pub returns-in_default-clause-value : goal.returns-in_default-clause-value
returns-in_default-clause-value c = c.character.ensures ∙ value_stops _ _ _ _ _ c.loop.invariant.reading c.in_default.ensures.value

pub returns-in_default-clause-rest : goal.returns-in_default-clause-rest
returns-in_default-clause-rest c = rest_stops _ _ _ _ _ c.loop.invariant.reading c.in_default.ensures.value

pub returns-clause-value : goal.returns-clause-value
returns-clause-value c = c.character-2.ensures ∙ value_ends _ _ _ _ _ c.loop.invariant.reading c.loop-test.false

pub returns-clause-rest : goal.returns-clause-rest
returns-clause-rest c = rest_ends _ _ _ _ _ c.loop.invariant.reading c.loop-test.false

pub loop-preserved : goal.loop-preserved
loop-preserved c = record {
  utf8 = search rules;
  reading = goes_on _ _ _ _ _ _ _ _ c.loop.invariant.reading c.loop-test.true c.in-Some.ensures.value c.with_digit-number.ensures;
  within = search rules;
}
