-- A computed that is read three times runs once.
use Rattle.std.specs.Prelude.{◌≡◌, refl, List, [], ◌∷◌, codes, true}
use Rattle.qk_ast.specs.declared.Module.{Module}
use Rattle.qk_ast.specs.declared.Bin.{Bin}
use Rattle.qk_ast.specs.Sources.{Named_module}
use Rattle.qk_meaning.specs.Run.{Line}
use Rattle.qk_meaning_rows.specs.Trees.{int, name, chain, post, dot, call, gives, block, plain, arrow, element, const, give_back, importing, item}
use Rattle.qk_meaning_rows.specs.Common.{usual, printed, lines_of}
use Rattle.qk_needed.proofs.Rows.Printed.{printed_needed, printed_needed_captured}

abbrev root_module : Module
root_module = record {
  imports = importing
      ("$" ∷ "Slot" ∷ "component$" ∷ "createContextId" ∷ "noSerialize" ∷ "useComputed$" ∷ "useContext" ∷ "useContextProvider" ∷ "useSignal" ∷ "useStore" ∷ "useTask$" ∷ []) "@builder.io/qwik" ∷ [];
  items = item true "App"
      (post (name "component$")
      (call (arrow 0 []
      (block (
      const (plain "s") (post (name "useSignal") (call (int 1 ∷ []) ∷ [])) ∷
      const (plain "c")
      (post (name "useComputed$")
      (call (arrow 1 [] (gives (chain (post (name "s") (dot "value" ∷ [])) ((Bin.Mul, int 2) ∷ []))) ∷ []) ∷ [])) ∷
      give_back (element "p" [] (post (name "c") (dot "value" ∷ []) ∷ post (name "c") (dot "value" ∷ []) ∷ post (name "c") (dot "value" ∷ []) ∷ [])) ∷
      [])) ∷ []) ∷ [])) ∷ [];
}

abbrev modules : List Named_module
modules = (codes "root", root_module) ∷ []

abbrev script : List Line
script = []

-- rendered whole
whole : printed modules usual script ≡ lines_of (
    codes "item 0" ∷
    codes "html <p>222</p>" ∷
    [])
whole = refl

-- only what is needed, in the reading with whole scopes
shown : printed_needed modules usual script ≡ lines_of (
    codes "item 0" ∷
    codes "html <p>222</p>" ∷
    [])
shown = refl

-- and in the reading with captured values
shown_captured : printed_needed_captured modules usual script ≡ lines_of (
    codes "item 0" ∷
    codes "html <p>222</p>" ∷
    [])
shown_captured = refl

-- with 2 turns
with_2 : printed_needed_captured modules (record { turns = 2; levels = 48 }) script ≡ lines_of (
    codes "item 0" ∷
    codes "html <p>222</p>" ∷
    [])
with_2 = refl

-- with 1 turn
with_1 : printed_needed_captured modules (record { turns = 1; levels = 48 }) script ≡ lines_of (
    codes "ended 0" ∷
    [])
with_1 = refl
