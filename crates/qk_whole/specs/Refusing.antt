-- Refusals, and what they are for.
use Rattle.std.specs.Prelude.{◌≡◌, ℕ, List, Option, Some, None}
use Rattle.qk_ast.specs.declared.Form.TheVariants.{Source}
use Rattle.qk_ast.specs.Texts.{Text}
use Rattle.qk_meaning.specs.Roots.{root_of}
use Rattle.qk_modules.specs.declared.modules.NamedModule.{NamedModule}
use Rattle.qk_code.specs.declared.ask.Ask.{Ask}
use Rattle.qk_code.specs.declared.ask.Ask.TheVariants.{Body, Plain, Root}
use Rattle.qk_code.specs.declared.ask.Refusal.{Refusal}
use Rattle.qk_code.specs.declared.stop.CodeFault.{CodeFault}
use Rattle.qk_code.specs.declared.stop.CodeFault.TheVariants.{Missing, Memory}
use Rattle.qk_code.specs.Counts.{Counts}
use Rattle.qk_code.specs.Standing.{HasPlain}
use Rattle.qk_whole.specs.Taking.{named, sources_of}
use Rattle.qk_whole.specs.Holding.{HasSite, NoName}

-- the modules have nothing of what is asked for
abbrev pub Lacks : List NamedModule → Ask → Type 0
Lacks modules (Body symbol) = HasSite (named modules) symbol → ⊥
Lacks modules (Plain file number) = HasPlain Source (sources_of modules) file number → ⊥
Lacks modules (Root file name) = NoName (root_of (named modules) file name)

-- what was last asked for in vain they have not
abbrev pub Last_lacked : List NamedModule → Option Refusal → Type 0
Last_lacked modules None = Unit {0}
Last_lacked modules (Some refusal) = Lacks modules refusal.ask

-- nothing fails, for nothing is read
abbrev pub counted : (refusals : ℕ) → (last : Option Refusal) → Counts
counted refusals last = record { faults = 0; refusals = refusals; last = last }

-- this is missing, or memory ran out
abbrev pub Misses : Text → CodeFault → Type 0
Misses file (Missing missed) = missed ≡ file
Misses file Memory = Unit {0}
Misses file _ = ⊥
