use Rattle.std.proofs.Common.{drop}
use Rattle.qk_token.proofs.Lexing.{Going}
use Rattle.qk_token.proofs.listed.lex.Given as goal

abbrev pub invariant-loop-token : goal.invariant-loop-token
invariant-loop-token l = Going l.text l.token-items (drop l.token-index l.token-items) l.tokens.items
