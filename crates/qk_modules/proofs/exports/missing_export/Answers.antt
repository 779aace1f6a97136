use Rattle.std.proofs.Common.{true, false, sym, ◌∙◌}
use Rattle.qk_modules.proofs.Exporting_more.{missing_some, missing_none}
use Rattle.qk_modules.proofs.exports.missing_export.Goals as goal

pub returns-in-Some : goal.returns-in-Some
returns-in-Some c = missing_some c.in_ok-exports.exports c.args.modules.now _ c.in_ok-exports.ensures (sym c.in-Some.ensures)

pub returns-then-contains : goal.returns-then-contains
returns-then-contains c = sym (missing_none c.in_ok-exports.exports c.args.modules.now true c.in_ok-exports.ensures (sym c.in_default.ensures) (sym c.contains.ensures ∙ c.if-contains.true))

pub returns : goal.returns
returns c = sym (missing_none c.in_ok-exports.exports c.args.modules.now false c.in_ok-exports.ensures (sym c.in_default.ensures) (sym c.contains.ensures ∙ c.if-contains.false))
