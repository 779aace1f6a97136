-- The walk numbers arrows as the definition does: each kind from 1.
use Rattle.std.specs.Prelude.{◌≡◌, refl, ℕ, suc, Bool, true, false, not, List, [], ◌∷◌, ◌++◌, length, map}
use Rattle.std.proofs.Common.{sym, ◌∙◌, ap}
use Rattle.std.proofs.lemmas.List.{append_assoc, append-nil}
use Rattle.qk_ast.specs.declared.Form.{Form}
use Rattle.qk_ast.specs.declared.Form.TheVariants.{Source, Built}
use Rattle.qk_ast.specs.declared.Item.{Item}
use Rattle.qk_ast.specs.declared.Module.{Module}
use Rattle.qk_ast.specs.Texts.{Text}
use Rattle.qk_ast.specs.Names.{around}
use Rattle.qk_ast.specs.Arrows.{Unmarked, Found_arrow, arrows, item_arrows, is_dollar, same_kind, of_kind}
use Rattle.qk_node.specs.Nodes.{plain}
use Rattle.qk_node.specs.Growing.{tree}
use Rattle.qk_node.proofs.Same_arrows.{same_arrows}
use Rattle.qk_captures.specs.declared.walk.Walk.{Walk}
use Rattle.qk_captures.specs.Scoping.{in_scope}
use Rattle.qk_ast.specs.Arrows.{names_around, built_arrows}
use Rattle.qk_captures.specs.Capturing.{arrows_of, captured_after, captured_in}
use Rattle.qk_captures.specs.Walking.{note_of, noted, all_noted, one_more, count_of, captured, behind, items_found}
use Rattle.qk_captures.proofs.Scopes.{same_alone}
use Rattle.qk_captures.proofs.Alike.{notes, joined, alike}

one_behind : (kind : Bool) (before : List Found_arrow) (a : Found_arrow) → length (of_kind kind (before ++ a ∷ [])) ≡ one_more (same_kind kind (is_dollar a)) (length (of_kind kind before))
one_behind kind [] a = by (same_kind kind (is_dollar a))
  where
    by : (b : Bool) → ◌≡◌ {A = ℕ} (length {A = Found_arrow} (elim b [ true ↦ a ∷ [] | false ↦ [] ])) (one_more b 0)
    by true = refl
    by false = refl
one_behind kind (x ∷ before) a = by (same_kind kind (is_dollar x)) (same_kind kind (is_dollar a)) (one_behind kind before a)
  where
    by : (b c : Bool) → length (of_kind kind (before ++ a ∷ [])) ≡ one_more c (length (of_kind kind before))
        → ◌≡◌ {A = ℕ} (length {A = Found_arrow} (elim b [ true ↦ x ∷ of_kind kind (before ++ a ∷ []) | false ↦ of_kind kind (before ++ a ∷ []) ])) (one_more c (length {A = Found_arrow} (elim b [ true ↦ x ∷ of_kind kind before | false ↦ of_kind kind before ])))
    by true true h = ap suc h
    by true false h = ap suc h
    by false c h = h

count_is : (kind : Bool) (before : List Found_arrow) → count_of kind (length (of_kind true before)) (length (of_kind false before)) ≡ length (of_kind kind before)
count_is true before = refl
count_is false before = refl

-- the walk behind arrows that come after others
found_after : (found before : List Found_arrow) (w : Walk) → w.dollar ≡ length (of_kind true before) → w.plain ≡ length (of_kind false before)
    → (all_noted (map note_of found) w).found ≡ w.found ++ captured_after w.file.now before found
unfolding all_noted noted
found_after [] before w dollar plain = sym (append-nil w.found)
found_after (a ∷ rest) before w dollar plain = found_after rest (before ++ a ∷ []) (noted (note_of a) w)
    (ap (one_more (is_dollar a)) dollar ∙ sym (one_behind true before a)) (ap (one_more (not (is_dollar a))) plain ∙ sym (one_behind false before a))
    ∙ append_assoc w.found (captured w.file.now (count_of (is_dollar a) w.dollar w.plain) (note_of a) ∷ []) (captured_after w.file.now (before ++ a ∷ []) rest)
    ∙ ap (λ n. w.found ++ captured w.file.now n (note_of a) ∷ captured_after w.file.now (before ++ a ∷ []) rest)
    (ap (λ n. count_of (is_dollar a) n w.plain) dollar ∙ ap (count_of (is_dollar a) (length (of_kind true before))) plain ∙ count_is (is_dollar a) before)

items_row : (items : List Item) → items_found Source items [] ≡ item_arrows items
items_row [] = refl
items_row (i ∷ items) = ap (λ found. arrows i.init Unmarked [] ++ found) (items_row items)

-- in a built file the walk has the names around an item in the other order
built_row : (items : List Item) → notes (items_found Built items []) ≡ notes (built_arrows items)
built_row [] = refl
built_row (i ∷ items) = let names = names_around i.init in
    joined (arrows i.init Unmarked (around names [])) (arrows i.init Unmarked names) (items_found Built items []) (built_arrows items)
    (ap notes (sym (same_arrows i.init Unmarked (around names []))) ∙ alike (tree (plain i.init)) (around names []) names (same_alone names) ∙ ap notes (same_arrows i.init Unmarked names)) (built_row items)

row : (form : Form) (m : Module) → notes (items_found form m.items []) ≡ notes (arrows_of form m)
row Source m = ap notes (items_row m.items)
row Built m = built_row m.items

-- a walk that begins with nothing
pub found_from_nothing : (form : Form) (m : Module) (file : Text) (start done : Walk) → start.file.now ≡ file → in_scope start.scope ≡ [] → start.dollar ≡ 0 → start.plain ≡ 0 → start.found ≡ []
    → done ≡ behind (items_found form m.items) start → done.found ≡ captured_in form file m
unfolding behind
found_from_nothing form m file start done named scope dollar plain found walked = ap (λ w. w.found) walked
    ∙ ap (λ names. (all_noted (map note_of (items_found form m.items names)) start).found) scope
    ∙ ap (λ ns. (all_noted ns start).found) (row form m)
    ∙ found_after (arrows_of form m) [] start dollar plain
    ∙ ap (λ all. all ++ captured_after start.file.now [] (arrows_of form m)) found
    ∙ ap (λ name. captured_after name [] (arrows_of form m)) named
