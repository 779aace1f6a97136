use Rattle.std.specs.Str.{chars}
use Rattle.qk_token.proofs.Ends.{last_is}
use Rattle.qk_token.proofs.front.last_of.Goals as goal

pub returns-in-Some : goal.returns-in-Some
returns-in-Some c = last_is (chars c.args.text.now) _ c.in-Some.c c.in-Some.ensures.value
