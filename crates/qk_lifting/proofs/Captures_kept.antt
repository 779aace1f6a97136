-- A lifted arrow captures what the arrow captures.
use Rattle.std.specs.Prelude.{◌≡◌, refl, ℕ, Bool, true, false, List, [], ◌∷◌, IsTrue, codes, ⊤}
use Rattle.std.proofs.Common.{sym, ◌∙◌, ap, subst, true≢false, inl, inr}
use Rattle.std.specs.Cmp.Lexicographic.{same_text as told_same}
use Rattle.qk_ast.specs.declared.Pattern.{Pattern}
use Rattle.qk_ast.specs.declared.Body.{Body}
use Rattle.qk_ast.specs.Texts.{Text, same_text}
use Rattle.qk_ast.specs.Framework.{is_taken}
use Rattle.qk_ast.specs.Names.{is_listed, around, others_than, patterns_names}
use Rattle.qk_ast.specs.Arrows as ast
use Rattle.qk_ast.specs.Arrows.{Mark, Found_arrow, body_arrows, inner_scope}
use Rattle.qk_ast.specs.Scopes.{is_track}
use Rattle.qk_ast.specs.Uses.{body_uses, free_names}
use Rattle.qk_names.specs.Laws.{IsTask}
use Rattle.qk_lifting.specs.References.{Reference}
use Rattle.qk_lifting.specs.Lifting.{body_lifted}
use Rattle.qk_lifting.specs.Laws.{Told, Clear, LiftingKeepsCaptures}
use Rattle.qk_lifting.proofs.Once.{renamed, Alike, undeclared, without, captures_alike}
use Rattle.qk_lifting.proofs.Uses_kept.{body}

abbrev AllTaken : List Text → Type 0
AllTaken [] = ⊤
AllTaken (n ∷ rest) = (is_taken n ≡ true) × AllTaken rest

listed_taken : (t : Text) (names : List Text) → AllTaken names → is_listed t names ≡ true → is_taken t ≡ true
listed_taken t [] h e = absurd (true≢false (sym e))
listed_taken t (n ∷ rest) h e = by (same_text n t) refl (listed_taken t rest h.1) e
  where
    by : (b : Bool) → same_text n t ≡ b → (is_listed t rest ≡ true → is_taken t ≡ true) → elim b [ true ↦ true | false ↦ is_listed t rest ] ≡ true → is_taken t ≡ true
    by true f k g = ap is_taken (sym (told_same n t (sym f))) ∙ h.0
    by false f k g = k g

renamed_taken : AllTaken renamed
renamed_taken = (refl, (refl, (refl, (refl, (refl, (refl, (refl, (refl, (refl, tt)))))))))

clear_of_renamed : (scope : List Text) → Clear scope → (t : Text) → is_listed t scope ≡ true → is_listed t renamed ≡ false
clear_of_renamed scope clear t h = by (is_listed t renamed) refl
  where
    by : (b : Bool) → is_listed t renamed ≡ b → b ≡ false
    by true e = absurd (true≢false (sym (listed_taken t renamed renamed_taken e) ∙ clear t h))
    by false e = refl

-- the one parameter of a task
abbrev is_none : List Pattern → Bool
is_none [] = true
is_none (p ∷ rest) = false

tracks : (p : Pattern) (rest : List Pattern) → IsTrue (is_track (p ∷ rest)) → patterns_names (p ∷ rest) ≡ codes "track" ∷ []
tracks (Pattern.Fields (name ∷ [])) [] h = ap (λ u. u ∷ []) (told_same name (codes "track") (sym h))
tracks (Pattern.Fields (name ∷ [])) (p ∷ rest) h = absurd (true≢false (sym h))
tracks (Pattern.Fields (name ∷ (other ∷ more))) rest h = absurd (true≢false (sym h))
tracks (Pattern.Fields []) rest h = absurd (true≢false (sym h))
tracks (Pattern.Name name) rest h = absurd (true≢false (sym h))
tracks (Pattern.Scope names) rest h = absurd (true≢false (sym h))

task_names : (p : Pattern) (rest : List Pattern) → IsTask (p ∷ rest) → patterns_names (p ∷ rest) ≡ codes "track" ∷ []
task_names p rest (inl e) = absurd (true≢false (sym (ap is_none e)))
task_names p rest (inr h) = tracks p rest h

alike : (refer : ℕ → Reference) (mark : Mark) (params : List Pattern) (x : Body) (scope : List Text) → (mark ≡ ast.Tasked → IsTask params) → Told refer (body_arrows x (inner_scope mark params scope))
    → Alike scope (free_names params (body_lifted refer x)) (free_names params x)
alike refer ast.Unmarked params x scope task told = undeclared (patterns_names params) (body refer x (around (patterns_names params) scope) told)
alike refer ast.Marked params x scope task told = undeclared (patterns_names params) (body refer x (around (patterns_names params) scope) told)
alike refer ast.Tasked [] x scope task told = undeclared [] (body refer x scope told)
alike refer ast.Tasked (p ∷ rest) x scope task told =
    subst (λ names. Alike scope (others_than names (body_uses (body_lifted refer x))) (others_than names (body_uses x))) (sym (task_names p rest (task refl)))
    (without (codes "track" ∷ []) (body refer x (others_than (codes "track" ∷ []) scope) told))

pub lifting_keeps_captures : LiftingKeepsCaptures
lifting_keeps_captures refer a told clear task = captures_alike a.scope (free_names a.params (body_lifted refer a.body)) (free_names a.params a.body) (clear_of_renamed a.scope clear) (alike refer a.mark a.params a.body a.scope task told)
