-- What the needed manner keeps takes no turn: a computed that is read thrice, a component that is mounted late, a counter.
use Rattle.std.specs.Prelude.{◌≡◌, refl, ℕ, true, List, [], ◌∷◌, codes}
use Rattle.qk_ast.specs.declared.Module.{Module}
use Rattle.qk_ast.specs.declared.Bin.{Bin}
use Rattle.qk_ast.specs.Sources.{Named_module}
use Rattle.qk_meaning.specs.Value.{Text}
use Rattle.qk_meaning.specs.Doing.{Outcome, Gives, Stops, Ends}
use Rattle.qk_meaning.specs.Readings.{program_of, captured_program_of}
use Rattle.qk_meaning.specs.Session.{Session}
use Rattle.qk_meaning.specs.Item.{Block}
use Rattle.qk_needed.specs.Needed_item.{needed_first_item}
use Rattle.qk_meaning_rows.specs.Trees.{int, name, chain, post, dot, call, gives, block, plain, arrow, element, const, give_back, importing, item}
use Rattle.qk_meaning_rows.proofs.Late_mount as Late_mount
use Rattle.qk_meaning_rows.specs.Clicked_counter as Counter

abbrev pub root_module : Module
root_module = record {
  imports = importing
      ("$" ∷ "Slot" ∷ "component$" ∷ "createContextId" ∷ "noSerialize" ∷ "useComputed$" ∷ "useContext" ∷ "useContextProvider" ∷ "useSignal" ∷ "useStore" ∷ "useTask$" ∷ []) "@builder.io/qwik" ∷ [];
  items = item true "App"
      (post (name "component$")
      (call (arrow 0 []
      (block (
      const (plain "s") (post (name "useSignal") (call (int 1 ∷ []) ∷ [])) ∷
      const (plain "c") (post (name "useComputed$") (call (arrow 1 [] (gives (chain (post (name "s") (dot "value" ∷ [])) ((Bin.Mul, int 2) ∷ []))) ∷ []) ∷ [])) ∷
      give_back (element "p" [] (post (name "c") (dot "value" ∷ []) ∷ post (name "c") (dot "value" ∷ []) ∷ post (name "c") (dot "value" ∷ []) ∷ [])) ∷
      [])) ∷ []) ∷ [])) ∷ [];
}

abbrev pub modules : List Named_module
modules = (codes "root", root_module) ∷ []

-- the HTML of a block, or why there is none
abbrev html_of : Outcome Session Block → Outcome (Unit {0}) Text
html_of (Gives block w) = Gives block.html tt
html_of (Stops why w) = Stops why tt

-- the first item with so many turns
abbrev first : List Named_module → ℕ → Outcome (Unit {0}) Text
first modules turns = html_of (needed_first_item (program_of modules) (record { turns = turns; levels = 48 }))

abbrev first_captured : List Named_module → ℕ → Outcome (Unit {0}) Text
first_captured modules turns = html_of (needed_first_item (captured_program_of modules) (record { turns = turns; levels = 48 }))

-- one run of the computed serves three reads
thrice_with_two_turns : first modules 2 ≡ Gives (codes "<p>222</p>") tt
thrice_with_two_turns = refl

thrice_with_two_turns_captured : first_captured modules 2 ≡ Gives (codes "<p>222</p>") tt
thrice_with_two_turns_captured = refl

thrice_with_one_turn : first modules 1 ≡ Stops Ends tt
thrice_with_one_turn = refl

-- the late component isn't executed again
late_with_four_turns : first Late_mount.modules 4 ≡ Gives (codes "<div><b>7</b><i>7</i></div>") tt
late_with_four_turns = refl

late_with_three_turns : first Late_mount.modules 3 ≡ Stops Ends tt
late_with_three_turns = refl

-- a second pass executes nothing
counter_with_one_turn : first Counter.modules 1 ≡ Gives (codes "<button id=\"b\">0</button>") tt
counter_with_one_turn = refl
