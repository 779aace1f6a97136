-- The laws of symbols.
use Rattle.std.specs.Prelude.{◌≡◌, ℕ, false, Option, Some, IfSome, IfNone, IsTrue}
use Rattle.qk_ast.specs.Texts.{Text}
use Rattle.qk_ast.specs.Framework.{is_symbol}
use Rattle.qk_sites.specs.Symbols.{IsSymbolOf}

-- no two sites have one symbol
abbrev pub OneSite : Type 0
OneSite = (m n : Text) (i j : ℕ) (text : Text) → IsSymbolOf m i text → IsSymbolOf n j text → (m ≡ n) × (i ≡ j)

-- what a site's symbol is spelled like is a symbol
abbrev pub SpelledIsSymbol : Type 0
SpelledIsSymbol = (m : Text) (i : ℕ) (text : Text) → IsSymbolOf m i text → IsTrue (is_symbol text)

-- each symbol is that of a site
abbrev pub SymbolIsSpelled : Type 0
SymbolIsSpelled = (text : Text) → IsTrue (is_symbol text) → (m : Text) × (i : ℕ) × IsSymbolOf m i text

-- what is read of a site's symbol, as `read_symbol` reads, is that site
abbrev pub ReadsBack : Type 0
ReadsBack = (m : Text) (i : ℕ) (text : Text) (read : Option (Text × ℕ)) → IsSymbolOf m i text
    → IfSome read (λ site. IsSymbolOf site.0 site.1 text) → IfNone read (is_symbol text ≡ false) → read ≡ Some (m, i)
