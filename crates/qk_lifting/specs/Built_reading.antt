-- What the reading of built files has for the symbols of an application.
use Rattle.std.specs.Prelude.{◌≡◌, ◌≤◌, false, List, [], ◌∷◌, ◌++◌, length, map, All, IsTrue, ⊤}
use Rattle.qk_ast.specs.Texts.{Text, same_text}
use Rattle.qk_ast.specs.Names.{scope_names}
use Rattle.qk_ast.specs.Framework.{is_module_name}
use Rattle.qk_ast.specs.Sources.{Named_module}
use Rattle.qk_ast.specs.Placing.{most_sites}
use Rattle.qk_ast.specs.Uses.{captures_of}
use Rattle.qk_meaning.specs.Program.{Code}
use Rattle.qk_meaning.specs.Index.{Index, is_for_task}
use Rattle.qk_meaning.specs.Readings.{built_program_of}
use Rattle.qk_lifting.specs.Lifting.{body_lifted}
use Rattle.qk_lifting.specs.Numbering.{body_numbered}
use Rattle.qk_lifting.specs.Segments.{Dollar_site, dollar_arrows, dollar_sites, reference_at, with_captures}
use Rattle.qk_lifting.specs.Files.{built_modules}

-- no module has that name
abbrev pub NoneNamed : Text → List Named_module → Type 0
NoneNamed name [] = ⊤
NoneNamed name (m ∷ rest) = (same_text m.0 name ≡ false) × NoneNamed name rest

-- names of modules, each once, and not too many dollar arrows
abbrev pub Apart : List Named_module → Type 0
Apart [] = ⊤
Apart (m ∷ rest) = IsTrue (is_module_name m.0) × (length (dollar_arrows m.1) ≤ most_sites) × NoneNamed m.0 rest × Apart rest

-- the code of a site in its segment: its captures, and its body lifted
abbrev pub site_code : Index → Named_module → Dollar_site → Code
site_code index m site = record {
  file = site.symbol;
  captures = captures_of site.arrow;
  task = is_for_task (index.kind_of site.symbol);
  params = site.arrow.params;
  body = body_numbered 1 (with_captures (captures_of site.arrow) (body_lifted (reference_at m.0 m.1) site.arrow.body));
}

-- what the built files of the modules have for a symbol
abbrev pub code_read : Index → List Named_module → Dollar_site → Code
code_read index modules site = (built_program_of index (built_modules modules)).lifted site.symbol

-- the reading of the built files has for each symbol the captures and the lifted body of its site
abbrev pub SymbolsAreSites : Type 0
SymbolsAreSites = (index : Index) (front : List Named_module) (m : Named_module) (behind : List Named_module) → Apart (front ++ m ∷ behind)
    → All (λ a. scope_names a.body ≡ []) (dollar_arrows m.1) → map (code_read index (front ++ m ∷ behind)) (dollar_sites m.0 m.1) ≡ map (site_code index m) (dollar_sites m.0 m.1)
