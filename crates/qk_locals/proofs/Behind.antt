-- A scope behind one statement more.
use Rattle.std.specs.Prelude.{◌≡◌, List, [], ◌∷◌, ◌++◌, map, flat_map}
use Rattle.std.proofs.Common.{sym, ◌∙◌, ap}
use Rattle.std.proofs.lemmas.List.{append_assoc, append-nil, map-append}
use Rattle.std.proofs.lemmas.List.Concat.{flat_map-append}
use Rattle.std.specs.Borrow.{Bor}
use Rattle.qk_ast.specs.declared.Stmt.{Stmt}
use Rattle.qk_ast.specs.Texts.{Text}
use Rattle.qk_ast.specs.Names.{patterns_names}
use Rattle.qk_ast.specs.declared.Pattern.{Pattern}
use Rattle.qk_ast.specs.Walking.{with_names}
use Rattle.qk_ast.specs.Scopes.{Scope, names_declared, behind}
use Rattle.qk_locals.specs.Layers.{behind_all}
use Rattle.qk_ast.proofs.NameSets.{with_both}

ended_more : (front : List Text) (ss : List Stmt) (s : Stmt) → front ++ flat_map names_declared (ss ++ s ∷ []) ≡ (front ++ flat_map names_declared ss) ++ names_declared s
ended_more front ss s = ap (λ names. front ++ names) (flat_map-append names_declared ss (s ∷ []) ∙ ap (λ names. flat_map names_declared ss ++ names) (append-nil (names_declared s)))
    ∙ sym (append_assoc front (flat_map names_declared ss) (names_declared s))

pub behind_none : (scope : Scope) → behind_all [] scope ≡ scope
behind_none scope = λ j. record { of_arrow = scope.of_arrow; declared = scope.declared; ended = append-nil scope.ended j }

pub behind_more : (scope : Scope) (ss : List (Bor Stmt)) (s : Bor Stmt) → behind_all (map (λ x. x.now) (ss ++ s ∷ [])) scope ≡ behind s.now (behind_all (map (λ x. x.now) ss) scope)
behind_more scope ss s = ap (λ all. behind_all all scope) (map-append (λ x. x.now) ss (s ∷ []))
    ∙ (λ j. record { of_arrow = scope.of_arrow; declared = scope.declared; ended = ended_more scope.ended (map (λ x. x.now) ss) s.now j })

-- the names whose declarations have ended, once those of one statement more are added
pub ended_behind : (scope : Scope) (ss : List (Bor Stmt)) (s : Bor Stmt) (old new : List Text) (all : List (Bor Stmt)) → old ≡ with_names [] (behind_all (map (λ x. x.now) ss) scope).ended
    → new ≡ with_names old (names_declared s.now) → all ≡ ss ++ s ∷ [] → new ≡ with_names [] (behind_all (map (λ x. x.now) all) scope).ended
ended_behind scope ss s old new all before later passed = later ∙ ap (λ names. with_names names (names_declared s.now)) before
    ∙ sym (with_both [] (behind_all (map (λ x. x.now) ss) scope).ended (names_declared s.now))
    ∙ ap (λ c. with_names [] c.ended) (sym (behind_more scope ss s))
    ∙ ap (λ passed. with_names [] (behind_all (map (λ x. x.now) passed) scope).ended) (sym passed)

-- the parameters' declarations, where no statement has passed
pub ended_at_begin : (params : List Pattern) (none names : List Text) (passed : List (Bor Stmt)) → none ≡ [] → names ≡ with_names none (patterns_names params) → passed ≡ []
    → names ≡ with_names [] (patterns_names params ++ flat_map names_declared (map (λ x. x.now) passed))
ended_at_begin params none names passed from later empty = later ∙ ap (λ n. with_names n (patterns_names params)) from
    ∙ ap (with_names []) (sym (append-nil (patterns_names params)))
    ∙ ap (λ ss. with_names [] (patterns_names params ++ flat_map names_declared (map (λ x. x.now) ss))) (sym empty)
