-- How a function keeps which arrow it has.
use Rattle.std.specs.Prelude.{Bool, true, false}
use Rattle.qk_meaning.specs.Value.{Site}
use Rattle.qk_meaning.specs.Program.{symbol_of}
use Rattle.qk_value.specs.declared.value.FunCode.{FunCode}

-- a dollar arrow by its symbol, a plain one by its place
abbrev pub code_of_kind : (dollar : Bool) → Site → FunCode
code_of_kind true site = FunCode.Symbol (symbol_of site)
code_of_kind false site = FunCode.Plain site.file site.number

abbrev pub code_kept : Site → FunCode
code_kept site = code_of_kind site.dollar site
