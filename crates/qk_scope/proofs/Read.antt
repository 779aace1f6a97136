-- A symbol is what can be read as one.
use Rattle.std.specs.Prelude.{◌≡◌, ℕ, List, false, Option, Some, None, IfSome, IfNone}
use Rattle.std.proofs.Common.{sym, is_some}
use Rattle.std.specs.Borrow.{Bor}
use Rattle.qk_ast.specs.Texts.{Text}
use Rattle.qk_ast.specs.Framework.{is_symbol}
use Rattle.qk_sites.specs.Symbols.{IsSymbolOf}
use Rattle.qk_sites.proofs.Spelled.{spelled_is}

pub read_or_none : (t : Text) (read : Option (Bor (List ℕ) × ℕ)) → IfSome read (λ site. IsSymbolOf site.0.now site.1 t) → IfNone read (is_symbol t ≡ false) → is_some read ≡ is_symbol t
read_or_none t None some none = sym none
read_or_none t (Some site) some none = sym (spelled_is site.0.now site.1 t some)
