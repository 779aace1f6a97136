-- The symbols of dollar sites.
use Rattle.std.specs.Prelude.{◌≡◌, ℕ, ◌<◌, ◌≤◌, ◌++◌, Option, Some, None, if◌then◌else◌, IsTrue, codes}
use Rattle.qk_ast.specs.Characters.{number_after}
use Rattle.qk_ast.specs.Texts.{Text, decimal}
use Rattle.qk_ast.specs.Framework.{is_module_name, is_site_number}

-- a module's name, `_s`, and the number of a site there
abbrev pub symbol_text : Text → ℕ → Text
symbol_text name number = name ++ (codes "_s" ++ decimal number)

-- the text is the symbol of the site with that number in that module; sites are numbered from 1
pub record IsSymbolOf (name : Text) (number : ℕ) (text : Text) : Type 0 where
  pub named : IsTrue (is_module_name name)
  pub first : 0 < number
  pub last : number ≤ 4294967295
  pub spelled : text ≡ symbol_text name number

-- the number that these digits write, where they are the number of a site
abbrev pub site_number : Text → Option ℕ
site_number digits = if is_site_number digits then Some (number_after 10 0 digits) else None
