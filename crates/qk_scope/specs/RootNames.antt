-- The names of a root's items that a use may mean.
use Rattle.std.specs.Prelude.{true, false, List, [], ◌∷◌}
use Rattle.qk_ast.specs.declared.Form.{Form}
use Rattle.qk_ast.specs.declared.Item.{Item}
use Rattle.qk_ast.specs.Texts.{Text}
use Rattle.qk_ast.specs.Names.{others_than}
use Rattle.qk_ast.specs.Mentions.{item_names}
use Rattle.qk_ast.specs.Naming.{is_segment}

-- a segment's own item is none of them
abbrev pub own_names : Form → Text → List Item → List Text
own_names form file items = elim (is_segment form file) [ true ↦ others_than (file ∷ []) (item_names items) | false ↦ item_names items ]
