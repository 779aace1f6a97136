use Rattle.std.proofs.Common.{◌≡◌, ◌∙◌, ◌+◌, ◌-◌, ap, sym, rules, arith, length}
use Rattle.std.specs.Str.{chars, IsUtf8}
use Rattle.qk_lex.specs.Reading.{size}
use Rattle.qk_lex.specs.Steps.{next_of}
use Rattle.qk_lex.proofs.ReadingLemmas.{size_chars, no_characters, some_characters, finished, refused_there, reads_on, stops_on}
use Rattle.qk_lex.proofs.reading.tokens.Goals as goal

pub returns-then-is_empty-clause-listed : goal.returns-then-is_empty-clause-listed
returns-then-is_empty-clause-listed c =
    finished (length c.args.text.now) c.loop-front.regions c.loop-front.before_jsx (chars c.loop-front.rest.now) (chars c.args.text.now) _ c.loop-front.found.items
    (sym (size_chars c.args.text.now c.utf8.text)) c.loop-front.invariant.reads (c.past_gap-front.ensures.gap c.loop-front.regions (sym c.innermost.ensures)).0
    (no_characters c.past_gap-front.result.now (sym c.is_empty.ensures ∙ c.if-is_empty.true))

pub returns-in_default-clause-refused : goal.returns-in_default-clause-refused
returns-in_default-clause-refused c =
    let front_size = size_chars c.past_gap-front.result.now c.past_gap-front.utf8 in
    let place : c.saturating_sub-start.result + size (chars c.past_gap-front.result.now) ≡ length c.args.text.now =
    omega (arith, front_size, c.saturating_sub-start.ensures, c.past_gap-front.ensures.within, c.loop-front.invariant.within) in
    refused_there (length c.args.text.now) c.loop-front.regions c.loop-front.before_jsx (chars c.loop-front.rest.now) (chars c.args.text.now) _ c.saturating_sub-start.result
    (sym (size_chars c.args.text.now c.utf8.text)) c.loop-front.invariant.stops (c.past_gap-front.ensures.gap c.loop-front.regions (sym c.innermost.ensures))
    (some_characters c.past_gap-front.result.now c.past_gap-front.utf8 (sym c.is_empty.ensures ∙ c.if-is_empty.false))
    (c.in_default.ensures.value c.loop-front.regions (sym c.innermost-in-loop-front.ensures)) place

pub loop-front-preserved : goal.loop-front-preserved
loop-front-preserved c =
    let front_size = size_chars c.past_gap-front.result.now c.past_gap-front.utf8 in
    let rest_size = size_chars c.loop-front.rest.now c.loop-front.invariant.utf8 in
    let after_utf8 : IsUtf8 c.in-Some.token.rest.now = search rules in
    let after_size = size_chars c.in-Some.token.rest.now after_utf8 in
    let gap = c.past_gap-front.ensures.gap c.loop-front.regions (sym c.innermost.ensures) in
    let token = c.in-Some.ensures.value c.loop-front.regions (sym c.innermost-in-loop-front.ensures) in
    record {
      utf8 = after_utf8;
      reads = reads_on (length c.args.text.now) c.loop-front.regions c.loop-front.before_jsx (chars c.loop-front.rest.now) (chars c.args.text.now) _ (next_of c.in-Some.token) c.follow.new.self
          c.loop-front.found.items c.push.new.self.items c.saturating_sub-start.result c.saturating_sub.result c.loop-front.invariant.reads gap.0 token
          (omega (arith, rest_size, c.loop-front.invariant.within)) (c.saturating_sub-start.ensures ∙ ap (λ n. length c.args.text.now - n) (sym front_size))
          (c.saturating_sub.ensures ∙ ap (λ n. length c.args.text.now - n) (sym after_size)) c.in_ok-follow.ensures c.in_ok-push.ensures.items;
      stops = stops_on (length c.args.text.now) c.loop-front.regions c.loop-front.before_jsx (chars c.loop-front.rest.now) (chars c.args.text.now) _ (next_of c.in-Some.token) c.follow.new.self
          c.loop-front.invariant.stops gap.0 token c.in_ok-follow.ensures;
      within = search rules;
    }
