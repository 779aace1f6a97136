-- The counter that shows its number, as it is printed.
use Rattle.std.specs.Prelude.{◌≡◌, refl, true, List, [], ◌∷◌, ◌++◌, codes, Some, None}
use Rattle.qk_ast.specs.First.{First_text, Id, On_click, Shown, Selfclosing}
use Rattle.qk_ast.specs.Grammar.{Last_name, Next_name}
use Rattle.qk_meaning.specs.Value.{Text}
use Rattle.qk_meaning.specs.Item.{Event}
use Rattle.qk_first.specs.Counter.{counter_of, first_output}

abbrev lines_of : List Text → Text
lines_of [] = []
lines_of (w ∷ rest) = w ++ (10 ∷ lines_of rest)

abbrev shown : First_text
shown = record {
  imported = Next_name (codes "component$") (Last_name (codes "useSignal"));
  name = codes "n";
  initial = Some (codes "0");
  tag = codes "button";
  attributes = Id (codes "b") ∷ On_click true ∷ [];
  shape = Shown;
}

abbrev click : Text → Event
click id = record { kind = codes "click"; id = id; value = None }

-- a value changes nothing
abbrev clicked_with : Text → Event
clicked_with value = record { kind = codes "click"; id = codes "b"; value = Some value }

-- nothing hears an event of another kind
abbrev input : Event
input = record { kind = codes "input"; id = codes "b"; value = Some (codes "1") }

shown_printed : first_output (counter_of shown) (click (codes "b") ∷ click (codes "x") ∷ clicked_with (codes "7") ∷ input ∷ []) ≡ lines_of (
    codes "item 0" ∷
    codes "html <button id=\"b\">0</button>" ∷
    codes "item 1" ∷
    codes "html <button id=\"b\">1</button>" ∷
    codes "item 2" ∷
    codes "none" ∷
    codes "html <button id=\"b\">1</button>" ∷
    codes "item 3" ∷
    codes "html <button id=\"b\">2</button>" ∷
    codes "item 4" ∷
    codes "none" ∷
    codes "html <button id=\"b\">2</button>" ∷
    [])
shown_printed = refl

-- the element alone
abbrev alone : First_text
alone = record { imported = Last_name (codes "component$"); name = codes "n"; initial = None; tag = codes "p"; attributes = []; shape = Selfclosing }

alone_printed : first_output (counter_of alone) [] ≡ lines_of (codes "item 0" ∷ codes "html <p></p>" ∷ [])
alone_printed = refl
