-- Which names are listed, and which are declared.
use Rattle.std.proofs.Common.{◌≡◌, refl, sym, ◌∙◌, ap}
use Rattle.std.proofs.lemmas.Bool.{false≢true, or_left, or_right}
use Rattle.std.specs.Prelude.{Bool, true, false, ◌||◌, List, [], ◌∷◌, ◌++◌, Option, Some, None}
use Rattle.qk_ast.specs.declared.Pattern.{Pattern}
use Rattle.qk_ast.specs.declared.Stmt.{Stmt, Row_of-Stmt, end_of-Stmt, more_of-Stmt}
use Rattle.qk_ast.specs.declared.Body.{Body, Block' as Body_block'}
use Rattle.qk_ast.specs.Texts.{Text, same_text}
use Rattle.qk_ast.specs.Names.{is_listed, around, others_than, those_of, each_once, declared_by, declared_in, body_names}
use Rattle.qk_ast.specs.Scopes.{Kind, Constant, Variable, Declaration, kind_in, declared_as, declarations_of, declarations, declarations_in}
use Rattle.qk_names.proofs.Bits.{text_is}
use Rattle.qk_names.proofs.Each.{Each, none, head, tail, ◌∷'◌}
use Rattle.qk_names.proofs.Plain.{Plain_block, Plain_body, Plain_statement}

-- a name is listed behind one more where it is that or listed
abbrev pub or_listed : Bool → Bool → Bool
or_listed b c = elim b [ true ↦ true | false ↦ c ]

pub or_behind : (b c : Bool) → c ≡ true → or_listed b c ≡ true
or_behind true c h = refl
or_behind false c h = h

abbrev kept_if : Bool → Text → List Text → List Text
kept_if b x rest = elim b [ true ↦ rest | false ↦ x ∷ rest ]

others_step : {P : Text → Type 0} (names : List Text) (x : Text) (rest : List Text) (b : Bool) → is_listed x names ≡ b → P x
    → Each (λ t. (is_listed t names ≡ false) × P t) rest → Each (λ t. (is_listed t names ≡ false) × P t) (kept_if b x rest)
others_step names x rest true e p h = h
others_step names x rest false e p h = (e, p) ∷' h

pub each_other : {P : Text → Type 0} (names xs : List Text) → Each P xs → Each (λ t. (is_listed t names ≡ false) × P t) (others_than names xs)
each_other names [] h = none
each_other names (x ∷ xs) h = others_step names x (others_than names xs) (is_listed x names) refl (head h) (each_other names xs (tail h))

-- ---- declared names

abbrev pub found_or : Bool → Kind → Option Kind → Option Kind
found_or b kind rest = elim b [ true ↦ Some kind | false ↦ rest ]

passed : (b c : Bool) (kind : Kind) (rest : Option Kind) → or_listed b c ≡ false → (c ≡ false → rest ≡ None) → found_or b kind rest ≡ None
passed true c kind rest h f = absurd (false≢true (sym h))
passed false c kind rest h f = f h

pub kind_as : (kind : Kind) (t : Text) (names : List Text) → is_listed t names ≡ false → kind_in t (declared_as kind names) ≡ None
kind_as kind t [] h = refl
kind_as kind t (n ∷ names) h = passed (same_text n t) (is_listed t names) kind (kind_in t (declared_as kind names)) h (kind_as kind t names)

abbrev is_found : Option Kind → Bool
is_found (Some kind) = true
is_found None = false

pub no_some : {C : Type 0} {kind : Kind} → Some kind ≡ None → C
no_some e = absurd (false≢true (sym (ap is_found e)))

both_pass : (b : Bool) (kind : Kind) (rest all : Option Kind) → found_or b kind rest ≡ None → (rest ≡ None → all ≡ None) → found_or b kind all ≡ None
both_pass true kind rest all h f = no_some h
both_pass false kind rest all h f = f h

pub kind_both : (t : Text) (ds es : List Declaration) → kind_in t ds ≡ None → kind_in t es ≡ None → kind_in t (ds ++ es) ≡ None
kind_both t [] es h g = g
kind_both t (d ∷ ds) es h g = both_pass (same_text d.name t) d.kind (kind_in t ds) (kind_in t (ds ++ es)) h (λ k. kind_both t ds es k g)

either_false : (b c : Bool) → or_listed b c ≡ false → (b ≡ false) × (c ≡ false)
either_false true c h = absurd (false≢true (sym h))
either_false false c h = (refl, h)

pub unlisted_both : (t : Text) (xs ys : List Text) → is_listed t (xs ++ ys) ≡ false → (is_listed t xs ≡ false) × (is_listed t ys ≡ false)
unlisted_both t [] ys h = (refl, h)
unlisted_both t (x ∷ xs) ys h =
    let e = either_false (same_text x t) (is_listed t (xs ++ ys)) h in
    let k = unlisted_both t xs ys e.1 in
    (ap (λ b. or_listed b (is_listed t xs)) e.0 ∙ k.0, k.1)

statement_kind : (x : Stmt) → Plain_statement x → (t : Text) → is_listed t (declared_by x) ≡ false → kind_in t (declarations_of x) ≡ None
statement_kind (Stmt.Const (Pattern.Name name) x) p t h = kind_as Constant t (name ∷ []) h
statement_kind (Stmt.Const (Pattern.Fields names) x) p t h = kind_as Constant t names h
statement_kind (Stmt.Const (Pattern.Scope names) x) p t h = absurd p.0
statement_kind (Stmt.Let name x) p t h = kind_as Variable t (name ∷ []) h
statement_kind x p t h = refl

pub block_kind : {m : _} (xs : Row_of-Stmt m) → Plain_block xs → (t : Text) → is_listed t (declared_in xs) ≡ false → kind_in t (declarations xs) ≡ None
block_kind end_of-Stmt p t h = refl
block_kind (more_of-Stmt x rest) p t h =
    let e = unlisted_both t (declared_by x) (declared_in rest) h in
    kind_both t (declarations_of x) (declarations rest) (statement_kind x p.0 t e.0) (block_kind rest p.1 t e.1)

pub body_kind : (x : Body) → Plain_body x → (t : Text) → is_listed t (body_names x) ≡ false → kind_in t (declarations_in x) ≡ None
body_kind (Body.Value' _ xs) p t h = refl
body_kind (Body_block' _ xs) p t h = block_kind xs p t h

-- ---- names around

pub around_outer : (t : Text) (names outer : List Text) → is_listed t outer ≡ true → is_listed t (around names outer) ≡ true
around_outer t [] outer h = h
around_outer t (n ∷ names) outer h = around_outer t names (n ∷ outer) (or_behind (same_text n t) (is_listed t outer) h)

pub around_names : (t : Text) (names outer : List Text) → is_listed t names ≡ true → is_listed t (around names outer) ≡ true
around_names t [] outer h = absurd (false≢true h)
around_names t (n ∷ names) outer h = by (same_text n t) refl h (around_names t names (n ∷ outer))
  where
    by : (b : Bool) → same_text n t ≡ b → or_listed b (is_listed t names) ≡ true → (is_listed t names ≡ true → is_listed t (around names (n ∷ outer)) ≡ true) → is_listed t (around names (n ∷ outer)) ≡ true
    by true e h f = around_outer t names (n ∷ outer) (ap (λ b. or_listed b (is_listed t outer)) e)
    by false e h f = f h

-- ---- names of use that are captured

abbrev also_if : Bool → Text → List Text → List Text
also_if c x rest = elim c [ true ↦ x ∷ rest | false ↦ rest ]

longer : (t x : Text) (c : Bool) (rest : List Text) → is_listed t rest ≡ true → is_listed t (also_if c x rest) ≡ true
longer t x true rest h = or_behind (same_text x t) (is_listed t rest) h
longer t x false rest h = h

-- a name that is listed in both is among those
pub among_those : (t : Text) (names xs : List Text) → is_listed t names ≡ true → is_listed t xs ≡ true → is_listed t (those_of names xs) ≡ true
among_those t names [] h g = absurd (false≢true g)
among_those t names (x ∷ xs) h g = by (same_text x t) refl g (among_those t names xs h)
  where
    by : (b : Bool) → same_text x t ≡ b → or_listed b (is_listed t xs) ≡ true → (is_listed t xs ≡ true → is_listed t (those_of names xs) ≡ true) → is_listed t (also_if (is_listed x names) x (those_of names xs)) ≡ true
    by true e g f = ap (λ c. is_listed t (also_if c x (those_of names xs))) (ap (λ y. is_listed y names) (text_is x t e) ∙ h) ∙ ap (λ b. or_listed b (is_listed t (those_of names xs))) e
    by false e g f = longer t x (is_listed x names) (those_of names xs) (f g)

abbrev once_if : Bool → List Text → Text → List Text → List Text
once_if b seen x xs = elim b [ true ↦ each_once seen xs | false ↦ x ∷ each_once (x ∷ seen) xs ]

-- each once
pub once : (t : Text) (seen xs : List Text) → is_listed t xs ≡ true → (is_listed t seen || is_listed t (each_once seen xs)) ≡ true
once t seen [] h = absurd (false≢true h)
once t seen (x ∷ xs) h = by (is_listed x seen) refl (same_text x t) refl h (once t seen xs) (once t (x ∷ seen) xs)
  where
    by : (b : Bool) → is_listed x seen ≡ b → (c : Bool) → same_text x t ≡ c → or_listed c (is_listed t xs) ≡ true
        → (is_listed t xs ≡ true → (is_listed t seen || is_listed t (each_once seen xs)) ≡ true)
        → (is_listed t xs ≡ true → (is_listed t (x ∷ seen) || is_listed t (each_once (x ∷ seen) xs)) ≡ true)
        → (is_listed t seen || is_listed t (once_if b seen x xs)) ≡ true
    by true e true c h f g = or_left (is_listed t seen) (is_listed t (each_once seen xs)) (ap (λ y. is_listed y seen) (sym (text_is x t c)) ∙ e)
    by true e false c h f g = f h
    by false e true c h f g = or_right (is_listed t seen) (is_listed t (x ∷ each_once (x ∷ seen) xs)) (ap (λ b. or_listed b (is_listed t (each_once (x ∷ seen) xs))) c)
    by false e false c h f g =
        ap (λ b. is_listed t seen || or_listed b (is_listed t (each_once (x ∷ seen) xs))) c ∙ ap (λ b. or_listed b (is_listed t seen) || is_listed t (each_once (x ∷ seen) xs)) (sym c) ∙ g h
