-- What the last line says of an application that is refused: a kind, a module, and what is wrong there.
use Rattle.std.specs.Prelude.{◌++◌, Option, Some, None, codes}
use Rattle.qk_ast.specs.declared.ScopeKind.{ScopeKind}
use Rattle.qk_ast.specs.declared.ScopeKind.TheVariants as scope
use Rattle.qk_ast.specs.declared.RuleKind.{RuleKind}
use Rattle.qk_ast.specs.declared.RuleKind.TheVariants as rule
use Rattle.qk_parse.specs.declared.parse.ParseFault.{ParseFault}
use Rattle.qk_parse.specs.declared.parse.ParseFault.TheVariants as parse
use Rattle.qk_modules.specs.declared.place.Place.{Place}
use Rattle.qk_modules.specs.declared.fault.GatherFault.{GatherFault}
use Rattle.qk_modules.specs.declared.fault.GatherFault.TheVariants as gathering
use Rattle.qk_modules.specs.declared.fault.GatherFault.TheVariants.{RootMissing, ImportMissing, ExportMissing, NotUtf8, Parse, TooMany, Store}
use Rattle.qk_modules.specs.Gathering.{root}
use Rattle.qk_application.specs.declared.fault.ApplicationFault.{ApplicationFault}
use Rattle.qk_application.specs.declared.fault.ApplicationFault.TheVariants.{Gathering, Naming, Placing, Memory}
use Rattle.qk_meaning.specs.Value.{Text}
use Rattle.qk_meaning.specs.Output.{line}
use Rattle.qk_top.specs.Places.{place_text}

pub record Said : Type 0 where
  pub kind : Text
  pub «module» : Text
  pub what : Text

-- refused KIND MODULE WHAT
abbrev pub said_line : Said → Text
said_line said = line (codes "refused " ++ (said.kind ++ (codes " " ++ (said.module ++ (codes " " ++ said.what)))))

-- ---- kinds

abbrev pub scope_kind : ScopeKind → Text
scope_kind scope.UnknownName = codes "UnknownName"
scope_kind scope.DuplicateName = codes "DuplicateName"
scope_kind scope.LetCaptured = codes "LetCaptured"
scope_kind scope.ConstAssigned = codes "ConstAssigned"
scope_kind scope.EarlyUse = codes "EarlyUse"

abbrev pub rule_kind : RuleKind → Text
rule_kind rule.HookPlace = codes "HookPlace"
rule_kind rule.DollarArgument = codes "DollarArgument"
rule_kind rule.RootValue = codes "RootValue"
rule_kind rule.NotComponent = codes "NotComponent"
rule_kind rule.TagRefused = codes "TagRefused"
rule_kind rule.TooManySites = codes "TooManySites"

-- ---- faults

-- the root, of which nothing more is said
abbrev pub of_root : (kind : Text) → Said
of_root kind = record { kind = kind; «module» = root; what = codes "-" }

-- a module, and the place of what is wrong in its text
abbrev pub at_place : (kind : Text) → (m : Text) → Place → Said
at_place kind m place = record { kind = kind; «module» = m; what = place_text place.line place.column }

abbrev pub said_of_text : (m : Text) → ParseFault → Place → Option Said
said_of_text m parse.TooLong place = Some (at_place (codes "TooLong") m place)
said_of_text m (parse.Lexical at) place = Some (at_place (codes "Lexical") m place)
said_of_text m (parse.Syntax at) place = Some (at_place (codes "Syntax") m place)
said_of_text m (parse.TooDeep at) place = Some (at_place (codes "TooDeep") m place)
said_of_text m parse.Memory place = None

abbrev pub said_of_gathering : GatherFault → Option Said
said_of_gathering RootMissing = Some (of_root (codes "RootMissing"))
said_of_gathering (ImportMissing m source) = Some (record { kind = codes "ImportMissing"; «module» = m; what = source })
said_of_gathering (ExportMissing m name) = Some (record { kind = codes "ExportMissing"; «module» = m; what = name })
said_of_gathering (NotUtf8 m) = Some (record { kind = codes "NotUtf8"; «module» = m; what = codes "-" })
said_of_gathering (Parse m fault place) = said_of_text m fault place
said_of_gathering TooMany = Some (of_root (codes "TooMany"))
said_of_gathering Store = None
said_of_gathering gathering.Memory = None

-- Nothing is said where the store failed or memory ran out: then the application isn't refused.
abbrev pub said_of : ApplicationFault → Option Said
said_of (Gathering fault) = said_of_gathering fault
said_of (Naming m kind name) = Some (record { kind = scope_kind kind; «module» = m; what = name })
said_of (Placing m kind name) = Some (record { kind = rule_kind kind; «module» = m; what = name })
said_of Memory = None
