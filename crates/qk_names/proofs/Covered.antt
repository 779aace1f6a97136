-- The names around an arrow cover what is known among its scopes.
use Rattle.std.proofs.Common.{◌≡◌, refl, sym, ◌∙◌, ap, subst}
use Rattle.std.proofs.lemmas.Bool.{false≢true, or_cases, or_left, or_right}
use mathlib.Core.Logic.{◌⊎◌, inl, inr}
use Rattle.std.specs.Prelude.{Bool, true, false, not, ◌||◌, List, [], ◌∷◌, ◌++◌, None, codes}
use Rattle.qk_ast.specs.declared.Pattern.{Pattern}
use Rattle.qk_ast.specs.declared.Stmt.{Row_of-Stmt}
use Rattle.qk_ast.specs.declared.Body.{Body}
use Rattle.qk_ast.specs.Texts.{Text, same_text}
use Rattle.qk_ast.specs.Names.{is_listed, around, others_than, patterns_names, declared_in, body_names}
use Rattle.qk_ast.specs.Arrows.{Mark, Unmarked, Marked, Tasked, inner_scope}
use Rattle.qk_ast.specs.Scopes.{Kind, Constant, Tracker, Declaration, Scope, kind_in, is_track, parameter_kind, arrow_scope, block_scope, for_scope, declared_as, declarations, declarations_in}
use Rattle.qk_ast.specs.Spots.{Standing, standing_mark}
use Rattle.qk_names.specs.Laws.{IsTask}
use Rattle.qk_names.proofs.Bits.{text_is}
use Rattle.qk_names.proofs.Each.{no_item}
use Rattle.qk_names.proofs.Plain.{Plain_block, Plain_body}
use Rattle.qk_names.proofs.Listed.{or_listed, found_or, kind_as, kind_both, block_kind, body_kind, around_outer, around_names, or_behind}
use Rattle.qk_names.proofs.Known.{if_kind, is_tracker, seen, untracked, seen_out, untracked_out}

-- a mark and a standing agree on tasks
abbrev pub Agree : Mark → Standing → Type 0
Agree mark standing = mark ≡ Tasked → standing_mark standing ≡ Tasked

-- the one name of such parameters is `track`
tracked : (p : Pattern) (rest : List Pattern) → is_track (p ∷ rest) ≡ true → (t : Text) → is_listed t (patterns_names (p ∷ rest)) ≡ false → same_text (codes "track") t ≡ false
tracked (Pattern.Fields (name ∷ [])) [] e t n = subst (λ name. same_text name t ≡ false) (text_is name (codes "track") e) (unlisted (same_text name t) n)
  where
    unlisted : (b : Bool) → or_listed b false ≡ false → b ≡ false
    unlisted true h = h
    unlisted false h = h
tracked p rest e t n = absurd (false≢true e)

track_listed : (params : List Pattern) → is_track params ≡ true → (t : Text) → same_text (codes "track") t ≡ true → is_listed t (patterns_names params) ≡ true
track_listed (Pattern.Fields (name ∷ []) ∷ []) e t n = ap (λ b. or_listed b false) (ap (λ name. same_text name t) (text_is name (codes "track") e) ∙ n)
track_listed params e t n = absurd (false≢true e)

-- and it is the `track` of a task
tracker : (params : List Pattern) (x : Body) → is_track params ≡ true → (t : Text) → is_listed t (patterns_names params) ≡ true → (scopes : List Scope) → untracked t (arrow_scope Tasked params x ∷ scopes) ≡ true → ⊥
tracker (Pattern.Fields (name ∷ []) ∷ []) x e t h scopes u = by (same_text name (codes "track")) e (same_text name t) h u
  where
    by : (b : Bool) → b ≡ true → (c : Bool) → or_listed c false ≡ true
        → if_kind (found_or c (elim b [ true ↦ Tracker | false ↦ Constant ]) (kind_in t (declarations_in x))) (λ k. not (is_tracker k)) (untracked t scopes) ≡ true → ⊥
    by true e true h u = false≢true u
    by true e false h u = false≢true h
    by false e c h u = false≢true e
tracker params x e t h scopes u = absurd (false≢true e)

-- a name of the scope, or one of these
abbrev pub known : List Text → List Text → Text → Bool
known others scope t = is_listed t scope || is_listed t others

not_removed : (t x : Text) → same_text x t ≡ false → (scope : List Text) → is_listed t scope ≡ true → is_listed t (others_than (x ∷ []) scope) ≡ true
not_removed t x n [] h = h
not_removed t x n (y ∷ scope) h = by (same_text x y) refl (same_text y t) refl h (not_removed t x n scope)
  where
    by : (b : Bool) → same_text x y ≡ b → (c : Bool) → same_text y t ≡ c → or_listed c (is_listed t scope) ≡ true → (is_listed t scope ≡ true → is_listed t (others_than (x ∷ []) scope) ≡ true)
        → is_listed t (elim (or_listed b false) [ true ↦ others_than (x ∷ []) scope | false ↦ y ∷ others_than (x ∷ []) scope ]) ≡ true
    by true e true g h f = absurd (false≢true (sym n ∙ ap (λ z. same_text x z) (sym (text_is y t g)) ∙ e))
    by true e false g h f = f h
    by false e true g h f = ap (λ c. or_listed c (is_listed t (others_than (x ∷ []) scope))) g
    by false e false g h f = or_behind (same_text y t) (is_listed t (others_than (x ∷ []) scope)) (f h)

-- The root has these names, and those are known.
module _ (roots others : List Text) where
  abbrev pub Covers : (outer scopes : List Scope) → List Text → Type 0
  Covers outer scopes scope = (t : Text) → seen roots t outer ≡ true → untracked t scopes ≡ true → known others scope t ≡ true

  -- where these are declared too
  abbrev pub Covers_in : List Declaration → (outer scopes : List Scope) → List Text → Type 0
  Covers_in ds outer scopes scope = (t : Text) → (kind_in t ds ≡ None → seen roots t outer ≡ true) → untracked t scopes ≡ true → known others scope t ≡ true

  listed_known : (scope : List Text) (t : Text) → is_listed t scope ≡ true → known others scope t ≡ true
  listed_known scope t h = or_left (is_listed t scope) (is_listed t others) h

  -- a longer scope knows what the shorter one knows
  known_in : (scope longer : List Text) (t : Text) → (is_listed t scope ≡ true → is_listed t longer ≡ true) → known others scope t ≡ true → known others longer t ≡ true
  known_in scope longer t f h = by (or_cases (is_listed t scope) (is_listed t others) h)
    where
      by : (is_listed t scope ≡ true) ⊎ (is_listed t others ≡ true) → known others longer t ≡ true
      by (inl e) = listed_known longer t (f e)
      by (inr e) = or_right (is_listed t longer) (is_listed t others) e

  pub covers_statement : (own : Scope) (outer scopes : List Scope) (scope : List Text) → Covers_in own.declared outer scopes scope → Covers (own ∷ outer) scopes scope
  covers_statement own outer scopes scope f t h u = f t (λ k. seen_out roots t own outer k h) u

  pub covers_block : {m : _} (xs : Row_of-Stmt m) → Plain_block xs → (outer scopes : List Scope) (scope : List Text) → Covers outer scopes scope
      → Covers_in (declarations xs) outer (block_scope xs ∷ scopes) (around (declared_in xs) scope)
  covers_block xs q outer scopes scope f t h u = by (is_listed t (declared_in xs)) refl
    where
      by : (b : Bool) → is_listed t (declared_in xs) ≡ b → known others (around (declared_in xs) scope) t ≡ true
      by true e = listed_known (around (declared_in xs) scope) t (around_names t (declared_in xs) scope e)
      by false e = let k = block_kind xs q t e in
          known_in scope (around (declared_in xs) scope) t (around_outer t (declared_in xs) scope) (f t (h k) (untracked_out t (block_scope xs) scopes k u))

  -- behind the list of a `for`, and in it
  pub covers_for : (name : Text) (outer scopes : List Scope) (scope : List Text) → Covers outer scopes scope → Covers (for_scope (name ∷ []) name ∷ outer) (for_scope [] name ∷ scopes) (name ∷ scope)
  covers_for name outer scopes scope f t h u = by (same_text name t) refl h u
    where
      by : (b : Bool) → same_text name t ≡ b → if_kind (found_or b Constant None) (λ k. or_listed b false) (seen roots t outer) ≡ true
          → if_kind (found_or b Constant None) (λ k. not (is_tracker k)) (untracked t scopes) ≡ true → known others (name ∷ scope) t ≡ true
      by true e h u = listed_known (name ∷ scope) t (ap (λ b. or_listed b (is_listed t scope)) e)
      by false e h u = known_in scope (name ∷ scope) t (or_behind (same_text name t) (is_listed t scope)) (f t h u)

  pub covers_list : (name : Text) (outer scopes : List Scope) (scope : List Text) → Covers outer scopes scope → Covers (for_scope [] name ∷ outer) (for_scope [] name ∷ scopes) scope
  covers_list name outer scopes scope f t h u = by (same_text name t) h u
    where
      by : (b : Bool) → if_kind (found_or b Constant None) (λ k. false) (seen roots t outer) ≡ true
          → if_kind (found_or b Constant None) (λ k. not (is_tracker k)) (untracked t scopes) ≡ true → known others scope t ≡ true
      by true h u = absurd (false≢true h)
      by false h u = f t h u

  -- ---- in an arrow

  -- what isn't a parameter is still around
  still_around : (mark : Mark) (params : List Pattern) → (mark ≡ Tasked → IsTask params) → (t : Text) → is_listed t (patterns_names params) ≡ false
      → (scope : List Text) → is_listed t scope ≡ true → is_listed t (inner_scope mark params scope) ≡ true
  still_around Unmarked params task t n scope h = around_outer t (patterns_names params) scope h
  still_around Marked params task t n scope h = around_outer t (patterns_names params) scope h
  still_around Tasked [] task t n scope h = h
  still_around Tasked (p ∷ rest) task t n scope h = by (task refl)
    where
      by : IsTask (p ∷ rest) → is_listed t (others_than (codes "track" ∷ []) scope) ≡ true
      by (inl e) = no_item e
      by (inr e) = not_removed t (codes "track") (tracked p rest e t n) scope h

  -- a parameter is around, or it is the `track` of a task
  parameter_around : (mark : Mark) (standing : Standing) (params : List Pattern) (x : Body) → Agree mark standing → (mark ≡ Tasked → IsTask params) → (t : Text) → is_listed t (patterns_names params) ≡ true
      → (scopes : List Scope) → untracked t (arrow_scope (standing_mark standing) params x ∷ scopes) ≡ true → (scope : List Text) → is_listed t (inner_scope mark params scope) ≡ true
  parameter_around Unmarked standing params x a task t h scopes u scope = around_names t (patterns_names params) scope h
  parameter_around Marked standing params x a task t h scopes u scope = around_names t (patterns_names params) scope h
  parameter_around Tasked standing params x a task t h scopes u scope = by (task refl)
    where
      by : IsTask params → is_listed t (inner_scope Tasked params scope) ≡ true
      by (inl e) = absurd (false≢true (ap (λ ps. is_listed t (patterns_names ps)) (sym e) ∙ h))
      by (inr e) = absurd (tracker params x e t h scopes (subst (λ mark. untracked t (arrow_scope mark params x ∷ scopes) ≡ true) (a refl) u))

  pub covers_arrow : (mark : Mark) (standing : Standing) (params : List Pattern) (x : Body) → Plain_body x → Agree mark standing → (mark ≡ Tasked → IsTask params)
      → (outer scopes : List Scope) (scope : List Text) → Covers outer scopes scope
      → Covers_in (arrow_scope mark params x).declared outer (arrow_scope (standing_mark standing) params x ∷ scopes) (around (body_names x) (inner_scope mark params scope))
  covers_arrow mark standing params x q a task outer scopes scope f t h u = by (is_listed t (body_names x)) refl (is_listed t (patterns_names params)) refl
    where
      inside : List Text
      inside = inner_scope mark params scope

      nowhere : (kind : Kind) → is_listed t (body_names x) ≡ false → is_listed t (patterns_names params) ≡ false → kind_in t (declared_as kind (patterns_names params) ++ declarations_in x) ≡ None
      nowhere kind e g = kind_both t (declared_as kind (patterns_names params)) (declarations_in x) (kind_as kind t (patterns_names params) g) (body_kind x q t e)

      by : (b : Bool) → is_listed t (body_names x) ≡ b → (c : Bool) → is_listed t (patterns_names params) ≡ c → known others (around (body_names x) inside) t ≡ true
      by true e c g = listed_known (around (body_names x) inside) t (around_names t (body_names x) inside e)
      by false e true g = listed_known (around (body_names x) inside) t (around_outer t (body_names x) inside (parameter_around mark standing params x a task t g scopes u scope))
      by false e false g = known_in scope (around (body_names x) inside) t (λ l. around_outer t (body_names x) inside (still_around mark params task t g scope l))
          (f t (h (nowhere (parameter_kind mark params) e g)) (untracked_out t (arrow_scope (standing_mark standing) params x) scopes (nowhere (parameter_kind (standing_mark standing) params) e g) u))

-- ---- in a task that takes `track`

abbrev pub without_track : List Text → List Text
without_track names = others_than (codes "track" ∷ []) names

known_less : (others scope : List Text) (t : Text) → same_text (codes "track") t ≡ false → known others scope t ≡ true → known (without_track others) scope t ≡ true
known_less others scope t n h = by (or_cases (is_listed t scope) (is_listed t others) h)
  where
    by : (is_listed t scope ≡ true) ⊎ (is_listed t others ≡ true) → known (without_track others) scope t ≡ true
    by (inl e) = or_left (is_listed t scope) (is_listed t (without_track others)) e
    by (inr e) = or_right (is_listed t scope) (is_listed t (without_track others)) (not_removed t (codes "track") n others e)

-- what is known there is not `track` of the root
pub covers_task : (roots others : List Text) (mark : Mark) (standing : Standing) (params : List Pattern) (x : Body) → Agree mark standing → mark ≡ Tasked → is_track params ≡ true
    → (outer scopes : List Scope) (scope : List Text) → Covers_in roots others (arrow_scope mark params x).declared outer (arrow_scope (standing_mark standing) params x ∷ scopes) scope
    → Covers_in roots (without_track others) (arrow_scope mark params x).declared outer (arrow_scope (standing_mark standing) params x ∷ scopes) scope
covers_task roots others mark standing params x a tasked e outer scopes scope f t h u = by (same_text (codes "track") t) refl
  where
    by : (b : Bool) → same_text (codes "track") t ≡ b → known (without_track others) scope t ≡ true
    by true n = absurd (tracker params x e t (track_listed params e t n) scopes (subst (λ mark. untracked t (arrow_scope mark params x ∷ scopes) ≡ true) (a tasked) u))
    by false n = known_less others scope t n (f t h u)
