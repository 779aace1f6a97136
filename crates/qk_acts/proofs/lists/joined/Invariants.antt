use Rattle.std.specs.Prelude.{List, map, drop, string_bytes}
use Rattle.std.proofs.Common.{◌≡◌}
use Rattle.qk_ast.specs.Texts as texts
use Rattle.qk_meaning.specs.Value.{Site}
use Rattle.qk_value.specs.View.{seen}
use Rattle.qk_acts.specs.Lists.{joined_on, joined_all}
use Rattle.qk_acts.proofs.lists.joined.Given as goal

-- with the items that are left it is the whole
abbrev pub invariant-loop-item : goal.invariant-loop-item
invariant-loop-item l = (names : Site → List texts.Text) → joined_on l.between (string_bytes l.text) (map (seen names) (drop l.item-index l.rest)) ≡ joined_all l.between (map (seen names) l.items)
