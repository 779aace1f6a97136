-- What is noted of arrows is decided by which names are in scope, whatever the order in which they are listed.
use Rattle.std.specs.Prelude.{◌≡◌, refl, List, [], ◌∷◌, ◌++◌, map}
use Rattle.std.proofs.Common.{sym, ◌∙◌, ap}
use Rattle.std.proofs.lemmas.List.{map-append}
use Rattle.qk_ast.specs.declared.Expr.{Expr, more_of-Arrow}
use Rattle.qk_ast.specs.Texts.{Text}
use Rattle.qk_ast.specs.Names.{each_once}
use Rattle.qk_ast.specs.Arrows.{Found_arrow, is_dollar}
use Rattle.qk_ast.specs.Uses.{free_of}
use Rattle.qk_node.specs.Nodes.{Node, Value}
use Rattle.qk_node.specs.Growing.{Forest, none, more}
use Rattle.qk_node.specs.Found.{arrow_here, scope_inside, arrows_in}
use Rattle.qk_captures.specs.Walking.{Note, note_of}
use Rattle.qk_captures.proofs.Scopes.{Same, same_scope, same_those}

abbrev pub notes : List Found_arrow → List Note
notes found = map note_of found

pub both_noted : (a c : List Found_arrow) → notes (a ++ c) ≡ notes a ++ notes c
both_noted a c = map-append note_of a c

pub joined : (a b c d : List Found_arrow) → notes a ≡ notes b → notes c ≡ notes d → notes (a ++ c) ≡ notes (b ++ d)
joined a b c d h k = both_noted a c ∙ ap (λ ns. ns ++ notes c) h ∙ ap (λ ns. notes b ++ ns) k ∙ sym (both_noted b d)

note_alike : (a : Found_arrow) (s t : List Text) → Same s t → note_of (record a { scope = s }) ≡ note_of (record a { scope = t })
note_alike a s t h = ap (λ names. record { dollar = is_dollar a; names = each_once [] names }) (same_those (free_of a) s t h)

here_alike : (n : Node) (s t : List Text) → Same s t → notes (arrow_here n s) ≡ notes (arrow_here n t)
here_alike (Value (Expr.Arrow' _ (more_of-Arrow place params body _)) mark) s t h =
    ap (λ n. n ∷ []) (note_alike (record { place = place; scope = s; mark = mark; params = params; body = body }) s t h)
here_alike _ s t h = refl

pub alike : (f : Forest) (s t : List Text) → Same s t → notes (arrows_in f s) ≡ notes (arrows_in f t)
alike none s t h = refl
alike (more n inside behind) s t h = joined _ _ _ _ (here_alike n s t h) (joined _ _ _ _ (alike inside (scope_inside n s) (scope_inside n t) (same_scope n s t h)) (alike behind s t h))
