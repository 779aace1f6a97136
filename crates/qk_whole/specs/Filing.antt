-- What a module is to code, as it is told of its text.
use Rattle.std.specs.Prelude.{◌≡◌}
use Rattle.std.specs.BTreeMap.{get_by_text}
use Rattle.qk_ast.specs.Texts.{Text}
use Rattle.qk_ast.specs.Arrows.{item_arrows}
use Rattle.qk_modules.specs.declared.modules.NamedModule.{NamedModule}
use Rattle.qk_modules.specs.Importing.{imported}
use Rattle.qk_whole.specs.declared.known.Known.{Known}
use Rattle.qk_whole.specs.declared.files.File.{File}
use Rattle.qk_whole.specs.Telling.{Tells, AreOf}
use Rattle.qk_whole.specs.Items.{first_item, IsNamed}
use Rattle.qk_whole.specs.Origins.{origin_in}

pub record IsFileOf (m : NamedModule) (file : File) : Type 0 where
  pub known : Known
  pub tells : Tells known m
  pub functions : AreOf known (item_arrows m.module.items) file.functions.dollars file.functions.plains
  pub roots : (q : Text) → IsNamed known (get_by_text file.roots q) (first_item m.module.items q)
  pub origins : (q : Text) → get_by_text file.origins q ≡ origin_in (imported m.module.imports) q
