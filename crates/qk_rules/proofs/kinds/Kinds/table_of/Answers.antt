use Rattle.std.proofs.Common.{sym, ap, ◌∙◌}
use Rattle.qk_ast.specs.Sources.{source_module}
use Rattle.qk_rules.specs.Tables.{named_of}
use Rattle.qk_rules.proofs.Module_tables.{source_says}
use Rattle.qk_rules.proofs.kinds.Kinds.table_of.Goals as goal

pub returns : goal.returns
returns c =
    source_says c.self.inside.tables (named_of c.self.inside.modules.items) c.args.self.now c.args.source.now c.source_module.result.now c.get.result c.self.invariant c.self.view_is
    (sym c.eq.ensures ∙ c.if-eq.false) (c.source_module.ensures ∙ ap source_module c.as_bytes.ensures.value) c.get.ensures.value
