use Rattle.std.proofs.Common.{sym}
use Rattle.qk_ast.specs.Uses.{free_names}
use Rattle.qk_ast.proofs.Walks.{found_from_nothing}
use Rattle.qk_ast.proofs.free_names.found.Goals as goal

pub returns : goal.returns
returns c = let all = found_from_nothing c.new-walk.result c.arrow.new.self (free_names c.args.arrow.now.params c.args.arrow.now.body) c.new-walk.ensures.bound c.new-walk.ensures.seen c.new-walk.ensures.found c.in_ok-arrow.ensures in
    rw (sym all) c.into_found.ensures
