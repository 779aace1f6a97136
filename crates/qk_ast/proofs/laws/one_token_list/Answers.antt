use Rattle.qk_ast.proofs.laws.one_token_list.Goals as goal
use Rattle.qk_ast.proofs.OneTokenList as law

pub returns : goal.returns
returns c = law.one_token_list
