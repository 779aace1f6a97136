-- The kind of a root's name, as the program keeps it.
use Rattle.qk_ast.specs.Placing.{Root_kind, A_component, A_context, Else}
use Rattle.qk_rules.specs.declared.items.RootKind.{RootKind}

abbrev pub root_kind_of : RootKind → Root_kind
root_kind_of RootKind.Component = A_component
root_kind_of RootKind.Context = A_context
root_kind_of RootKind.Other = Else
