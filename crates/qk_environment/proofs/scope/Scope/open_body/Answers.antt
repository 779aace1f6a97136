use Rattle.qk_environment.proofs.Scopes.{block_names}
use Rattle.qk_environment.proofs.scope.Scope.open_body.Goals as goal

pub returns-in-Block : goal.returns-in-Block
returns-in-Block c = rw (c.in-Block.is, block_names) (rw c.as_slice.ensures at c.open_declared.ensures)
