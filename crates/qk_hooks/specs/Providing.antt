-- What hooks provide, and what an instance has of it.
use Rattle.std.specs.Prelude.{true, false, List, [], ◌∷◌, Option, Some, None}
use Rattle.qk_ast.specs.Texts.{Text, same_text}
use Rattle.qk_meaning.specs.World as W
use Rattle.qk_meaning.specs.Parts.{or_else}
use Rattle.qk_meaning.specs.Places.{is_above}
use Rattle.qk_value.specs.declared.value.Value.{Value}
use Rattle.qk_nodes.specs.Tree.{path_of}
use Rattle.qk_hooks.specs.declared.state.Hook.{Hook}
use Rattle.qk_hooks.specs.declared.state.Instance.{Instance}

abbrev pub provided : Text → List Hook → Option Value
provided id [] = None
provided id (Hook.Provider other v ∷ rest) = elim (same_text other id) [ true ↦ or_else (provided id rest) (Some v) | false ↦ provided id rest ]
provided id (_ ∷ rest) = provided id rest

abbrev pub context_of : Text → List W.Step → List Instance → Option Value
context_of id path [] = None
context_of id path (i ∷ rest) = elim (is_above (path_of i.path) path) [ true ↦ or_else (context_of id path rest) (provided id i.hooks.items) | false ↦ context_of id path rest ]
