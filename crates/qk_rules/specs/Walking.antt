-- Where the walk stands.
use Rattle.qk_rules.specs.declared.walk.Walk.{Walk}
use Rattle.qk_rules.specs.Root_table.{kind_by}
use Rattle.qk_rules.specs.Parts.{Place}

unfoldable pub place : Walk → Place
place w = record { file = w.file.now; roots = kind_by w.roots; scopes = w.scopes }
