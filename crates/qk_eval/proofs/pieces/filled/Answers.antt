use Rattle.std.specs.String.{string_bytes}
use Rattle.std.proofs.Common.{◌++◌, ◌∙◌, ap, arith}
use Rattle.qk_meaning.specs.Operators.{short_text}
use Rattle.std.proofs.lemmas.Option.{MatchOption-at_none}
use Rattle.qk_eval.proofs.Plain_steps.{all_filled, long_filled, hole_filled, part_filled, is_none}
use Rattle.qk_eval.proofs.pieces.filled.Goals as goal
use Rattle.qk_eval.proofs.pieces.filled.Goals.{in-Some+in_ok-push_str-2, in_default}

pub loop-i-preserved : goal.loop-i-preserved
loop-i-preserved c =
    let before = string_bytes c.loop-i.text in
    let one = string_bytes c.push_str.new.self in
    let first = c.in_ok-push_str.ensures.bytes ∙ ap (λ t. before ++ t) c.as_str.ensures in
    elim c.match-get.branch [
      | in-Some+in_ok-push_str-2 w ↦
          hole_filled c.args.parts.now c.args.holes.now c.loop-i.i _ c.loop-i-test.true c.index-parts-i.is before one (string_bytes c.match-get.text) _ w.in-Some.ensures.lookup.3.0 w.in-Some.ensures.lookup.1 first
          (ap string_bytes w.text-is ∙ (w.in_ok-push_str-2.ensures.bytes ∙ ap (λ t. one ++ t) w.as_str-in-Some.ensures))
          ∙ c.loop-i.invariant
      | in_default w ↦
          part_filled c.args.parts.now c.args.holes.now c.loop-i.i _ c.loop-i-test.true c.index-parts-i.is before (string_bytes c.match-get.text)
          (MatchOption-at_none _ _ (is_none c.get.result w.in_default.not-Some) c.get.ensures.lookup.3) (ap string_bytes w.text-is ∙ first)
          ∙ c.loop-i.invariant
    ]

pub returns-then-len-gt-MOST_BYTES : goal.returns-then-len-gt-MOST_BYTES
returns-then-len-gt-MOST_BYTES c = long_filled (string_bytes c.loop-i.text) _ _ (omega (arith, c.len.ensures)) c.loop-i.invariant

pub returns : goal.returns
returns c = ap short_text (all_filled (string_bytes c.loop-i.text) c.args.parts.now c.args.holes.now c.loop-i.i c.loop-i-test.false c.loop-i.invariant)
