use Rattle.std.specs.Str.{chars}
use Rattle.qk_token.proofs.Ends.{before_is}
use Rattle.qk_token.proofs.front.without_last.Goals as goal

pub returns-in-Some : goal.returns-in-Some
returns-in-Some c = before_is (chars c.args.text.now) (chars c.in-Some.rest.now) _ c.in-Some.ensures.value
