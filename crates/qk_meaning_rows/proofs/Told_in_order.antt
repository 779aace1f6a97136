-- The trace tells changes and lines in one order, and what was done before a fault stays done.
use Rattle.std.specs.Prelude.{◌≡◌, refl, pos, true, List, [], ◌∷◌, codes, None}
use Rattle.qk_ast.specs.declared.Bin.{Bin}
use Rattle.qk_ast.specs.declared.AssignOp.{AssignOp}
use Rattle.qk_ast.specs.declared.Known.{Known}
use Rattle.qk_ast.specs.declared.Stmt.{Stmt}
use Rattle.qk_ast.specs.Sources.{Named_module}
use Rattle.qk_meaning.specs.Value.{Int}
use Rattle.qk_meaning.specs.World.{World, Object, Signal, Loc, Prop}
use Rattle.qk_meaning.specs.Fault.{ZeroDivisor}
use Rattle.qk_meaning.specs.Heap.{object_at}
use Rattle.qk_meaning.specs.Doing.{Outcome, Gives, Stops, Faults, state_left}
use Rattle.qk_meaning.specs.Happening.{Happening, Did_act, Did_log, Did_print}
use Rattle.qk_meaning.specs.Readings.{program_of}
use Rattle.qk_meaning.specs.Session.{Session, world_of}
use Rattle.qk_meaning.specs.Item.{Block, first_item, event_item}
use Rattle.qk_meaning_rows.specs.Trees.{int, name, text, chain, post, dot, call, assign, known, block, plain, arrow, element, const, do_it, give_back, importing, item}
use Rattle.qk_meaning_rows.specs.Common.{usual}

-- a signal, and a button whose listener does this
abbrev modules : List Stmt → List Named_module
modules statements = (
  codes "root",
  record {
    imports = importing
        ("$" ∷ "Slot" ∷ "component$" ∷ "createContextId" ∷ "noSerialize" ∷ "useComputed$" ∷ "useContext" ∷ "useContextProvider" ∷ "useSignal" ∷ "useStore" ∷ "useTask$" ∷ []) "@builder.io/qwik" ∷ [];
    items = item true "App"
        (post (name "component$")
        (call (arrow 0 []
        (block (
        const (plain "s") (post (name "useSignal") (call (int 0 ∷ []) ∷ [])) ∷
        give_back (element "button" (("id", text "b") ∷ ("onClick$", arrow 1 [] (block statements)) ∷ []) []) ∷
        [])) ∷ []) ∷ [])) ∷ [];
  },
) ∷ []

abbrev first : List Stmt → World
first statements = world_of (state_left (first_item (program_of (modules statements)) usual))

-- the click behind the first render
abbrev clicked : List Stmt → Outcome Session Block
clicked statements = event_item (program_of (modules statements)) usual (first statements) (record { kind = codes "click"; id = codes "b"; value = None })

-- what is told of changes and lines
abbrev changes_and_lines : List Happening → List Happening
changes_and_lines [] = []
changes_and_lines (Did_act a ∷ rest) = Did_act a ∷ changes_and_lines rest
changes_and_lines (Did_log l ∷ rest) = Did_log l ∷ changes_and_lines rest
changes_and_lines (Did_print line ∷ rest) = Did_print line ∷ changes_and_lines rest
changes_and_lines (_ ∷ rest) = changes_and_lines rest

abbrev told_of : List Stmt → List Happening
told_of statements = changes_and_lines (state_left (clicked statements)).running.trace

-- `s.value = 1` and `console.log("a")`
abbrev one_set : Stmt
one_set = do_it (assign AssignOp.Set (post (name "s") (dot "value" ∷ [])) (int 1))

abbrev line_printed : Stmt
line_printed = do_it (known Known.Log (text "a" ∷ []))

-- the location of the signal's value
abbrev value_location : Loc
value_location = record { address = 1; key = Prop (codes "value") }

line_first : told_of (line_printed ∷ one_set ∷ []) ≡ Did_print (codes "a") ∷ Did_act 1 ∷ Did_log value_location ∷ []
line_first = refl

change_first : told_of (one_set ∷ line_printed ∷ []) ≡ Did_act 1 ∷ Did_log value_location ∷ Did_print (codes "a") ∷ []
change_first = refl

-- setting the same again changes nothing, and is told as an act
same_again : told_of (one_set ∷ one_set ∷ []) ≡ Did_act 1 ∷ Did_log value_location ∷ Did_act 1 ∷ []
same_again = refl

-- `const x = 1 % 0` behind a change
abbrev faulting : List Stmt
faulting = one_set ∷ const (plain "x") (chain (int 1) ((Bin.Rem, int 0) ∷ [])) ∷ []

abbrev stopped : Outcome Session Block → Outcome Object (List Loc)
stopped (Gives block w) = Gives w.running.log (object_at w.running.heap 1)
stopped (Stops why w) = Stops why (object_at w.running.heap 1)

change_stays : stopped (clicked faulting) ≡ Stops (Faults ZeroDivisor) (Signal (Int (pos 1)))
change_stays = refl

-- and it was heard
change_heard : told_of faulting ≡ Did_act 1 ∷ Did_log value_location ∷ []
change_heard = refl
