use Rattle.std.proofs.Common.{◌≡◌, length}
use Rattle.qk_reading.specs.Ahead.{finds_arrow, At_pattern}
use Rattle.qk_token.specs.Seen.{scan_of}
use Rattle.qk_token.specs.View.{tokens_of}
use Rattle.qk_token.proofs.ahead.finds_arrow.Given as goal

abbrev pub invariant-loop-tokens : goal.invariant-loop-tokens
invariant-loop-tokens l = finds_arrow At_pattern (tokens_of l.fn.tokens) ≡ finds_arrow (scan_of l.scan) (tokens_of l.tokens)

abbrev pub decreases-loop-tokens : goal.decreases-loop-tokens
decreases-loop-tokens l = length l.tokens
