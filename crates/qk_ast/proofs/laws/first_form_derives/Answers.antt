use Rattle.qk_ast.proofs.laws.first_form_derives.Goals as goal
use Rattle.qk_ast.proofs.FirstDerives as law

pub returns : goal.returns
returns c = law.first_derives
