use Rattle.qk_lex.proofs.ScanLemmas.{first_ascii, boundary_ascii, no_characters}
use Rattle.qk_lex.proofs.scan.split_first.Goals as goal

pub range_from-requires : goal.range_from-requires
range_from-requires c = λ _. boundary_ascii c.args.text.now c.as_bytes.result.now c.utf8.text c.as_bytes.ensures.value c.in-len1-up.len_at_least c.if-first-lt128.true

pub returns-in-empty-clause-value : goal.returns-in-empty-clause-value
returns-in-empty-clause-value c = no_characters c.args.text.now c.as_bytes.result.now c.as_bytes.ensures.value c.in-empty.len_below

pub returns-then-first-lt128-clause-value : goal.returns-then-first-lt128-clause-value
returns-then-first-lt128-clause-value c =
    first_ascii c.args.text.now c.as_bytes.result.now c.range_from.result.now c.utf8.text c.as_bytes.ensures.value c.in-len1-up.len_at_least c.if-first-lt128.true c.range_from.ensures.value
