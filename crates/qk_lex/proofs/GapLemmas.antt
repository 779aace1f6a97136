-- What is skipped is a gap, and after it no blank and no comment begins.
use Rattle.std.specs.Prelude.{◌≡◌, refl, ℕ, Bool, true, false, not, ◌&&◌, ◌||◌, if◌then◌else◌, ◌==◌, [], ◌∷◌, ◌++◌, length, Some, None, codes}
use mathlib.Core.Path.{sym, ◌∙◌, ap, subst}
use mathlib.Core.Logic.{◌⊎◌, inl, inr}
use Rattle.std.proofs.lemmas.Bool.{false≢true}
use Rattle.qk_ast.specs.Characters.{Characters, begins_with, is_front, is_blank, run, after_run}
use Rattle.qk_ast.specs.Tokens.{Blank, Space, Line, Block, blank_spelling, has_no_end, is_blank_of}
use Rattle.qk_ast.proofs.FrontToken.{left, right, if_true}
use Rattle.qk_ast.proofs.Pieces.{heads, tails}
use Rattle.qk_lex.specs.declared.scan.Class.TheVariants as class
use Rattle.qk_lex.specs.Scan.{is_in}
use Rattle.qk_lex.specs.Gaps.{after_block, after_comment, after_blank, NoBlank, Gap}
use Rattle.qk_lex.proofs.Choices.{which, either_way, some_same, none_some, some_none, both, not_true, same_number, number_same, run_whole, run_every, run_ends}

-- ---- comments between `/*` and `*/`

-- an inside that may stand after a `*` or not, and then the end
abbrev pub Inside : Bool → Characters → Characters → Type 0
Inside star text rest = (inside : Characters) × ((star && is_front (codes "/") inside) ≡ false) × (has_no_end inside ≡ true) × (inside ++ (codes "*/" ++ rest) ≡ text)

pub slash_front : (star : Bool) (c : ℕ) (cs : Characters) → (star && (c == 47)) ≡ false → (star && is_front (codes "/") (c ∷ cs)) ≡ false
slash_front false c cs h = refl
slash_front true c cs h = elim (either_way (47 == c)) [
  | inl e ↦ absurd (false≢true (sym h ∙ (ap (λ d. d == 47) (sym (same_number 47 c e)) ∙ number_same 47)))
  | inr e ↦ ap (λ b. b && true) e
]

pub no_slash_front : (star : Bool) → (star && is_front (codes "/") []) ≡ false
no_slash_front true = refl
no_slash_front false = refl

pub block_found : (star : Bool) (text rest : Characters) → after_block star text ≡ Some rest → ((star ≡ true) × (text ≡ 47 ∷ rest)) ⊎ Inside star text rest
block_found star [] rest h = absurd (none_some h)
block_found star (c ∷ cs) rest h = elim (which (star && (c == 47)) (Some cs) (after_block (c == 42) cs) (Some rest) h) [
  | inl x ↦ inl (left star (c == 47) x.0, ap (λ d. d ∷ cs) (same_number c 47 (right star (c == 47) x.0)) ∙ ap (λ xs. 47 ∷ xs) (some_same x.1))
  | inr y ↦ elim (block_found (c == 42) cs rest y.1) [
    | inl z ↦ inr ([], no_slash_front star, refl, ap (λ d. d ∷ 47 ∷ rest) (sym (same_number c 42 z.0)) ∙ ap (λ xs. c ∷ xs) (sym z.1))
    | inr w ↦ inr (c ∷ w.0, slash_front star c w.0 y.0, both _ _ (not_true _ w.1) w.2, ap (λ xs. c ∷ xs) w.3)
  ]
]

pub block_none : (star : Bool) (text : Characters) → after_block star text ≡ None → (inside next : Characters) → inside ++ (codes "*/" ++ next) ≡ text → ⊥
block_none star [] h [] next e = false≢true (ap (λ t. begins_with (λ c. true) t) (sym e))
block_none star [] h (d ∷ ds) next e = false≢true (ap (λ t. begins_with (λ c. true) t) (sym e))
block_none star (c ∷ cs) h [] next e = elim (which (star && (c == 47)) (Some cs) (after_block (c == 42) cs) None h) [
  | inl x ↦ some_none x.1
  | inr y ↦ some_none (ap (λ b. after_block b (47 ∷ next)) (ap (λ d. d == 42) (heads e)) ∙ (ap (λ t. after_block (c == 42) t) (tails e) ∙ y.1))
]
block_none star (c ∷ cs) h (d ∷ ds) next e = elim (which (star && (c == 47)) (Some cs) (after_block (c == 42) cs) None h) [
  | inl x ↦ some_none x.1
  | inr y ↦ block_none (c == 42) cs y.1 ds next (tails e)
]

-- ---- one blank or comment

abbrev pub not_feed : ℕ → Bool
not_feed c = not (c == 10)

pub line_end : (next : Characters) → begins_with not_feed next ≡ false → (length next == 0 || is_front (10 ∷ []) next) ≡ true
line_end [] h = refl
line_end (c ∷ cs) h = elim (either_way (c == 10)) [
  | inl e ↦ subst (λ d. (length (d ∷ cs) == 0 || is_front (10 ∷ []) (d ∷ cs)) ≡ true) (sym (same_number c 10 e)) (or_last (length (10 ∷ cs) == 0))
  | inr e ↦ absurd (false≢true (sym h ∙ ap not e))
]
  where
    or_last : (b : Bool) → (b || true) ≡ true
    or_last true = refl
    or_last false = refl

abbrev pub OneBlank : Characters → Characters → Type 0
OneBlank text rest = (b : Blank) × (blank_spelling b rest ≡ text) × (is_blank_of b rest ≡ true)

pub comment_found : (text rest : Characters) → after_comment text ≡ Some rest → OneBlank (47 ∷ text) rest
comment_found [] rest h = absurd (none_some h)
comment_found (c ∷ cs) rest h = elim (which (c == 47) (Some (after_run (is_in class.Line) cs)) (if c == 42 then after_block false cs else None) (Some rest) h) [
  | inl x ↦ line x.0 (some_same x.1)
  | inr y ↦ elim (which (c == 42) (after_block false cs) None (Some rest) y.1) [
    | inl z ↦ elim (block_found false cs rest z.1) [
      | inl w ↦ absurd (false≢true w.0)
      | inr w ↦ (Block w.0, ap (λ xs. 47 ∷ 42 ∷ xs) w.3 ∙ ap (λ d. 47 ∷ d ∷ cs) (sym (same_number c 42 z.0)), w.2)
    ]
    | inr z ↦ absurd (none_some z.1)
  ]
]
  where
    line : (c == 47) ≡ true → after_run not_feed cs ≡ rest → OneBlank (47 ∷ c ∷ cs) rest
    line k e = (
      Line (run not_feed cs),
      ap (λ xs. 47 ∷ 47 ∷ xs) (ap (λ r. run not_feed cs ++ r) (sym e) ∙ run_whole not_feed cs) ∙ ap (λ d. 47 ∷ d ∷ cs) (sym (same_number c 47 k)),
      both _ _ (run_every not_feed cs) (line_end rest (ap (begins_with not_feed) (sym e) ∙ run_ends not_feed cs)),
    )

pub blank_found : (text rest : Characters) → after_blank text ≡ Some rest → OneBlank text rest
blank_found [] rest h = absurd (none_some h)
blank_found (c ∷ cs) rest h = elim (which (is_blank c) (Some cs) (if c == 47 then after_comment cs else None) (Some rest) h) [
  | inl x ↦ (Space c, ap (λ xs. c ∷ xs) (sym (some_same x.1)), x.0)
  | inr y ↦ elim (which (c == 47) (after_comment cs) None (Some rest) y.1) [
    | inl z ↦ subst (λ d. OneBlank (d ∷ cs) rest) (sym (same_number c 47 z.0)) (comment_found cs rest z.1)
    | inr z ↦ absurd (none_some z.1)
  ]
]

pub blank_none : (text : Characters) → after_blank text ≡ None → NoBlank text
blank_none text h b next e k = go b (subst (λ t. after_blank t ≡ None) (sym e) h) k
  where
    go : (b : Blank) → after_blank (blank_spelling b next) ≡ None → is_blank_of b next ≡ true → ⊥
    go (Space c) h k = some_none (sym (if_true _ _ k) ∙ h)
    go (Line t) h k = some_none h
    go (Block t) h k = block_none false (t ++ (codes "*/" ++ next)) h t next refl

-- ---- gaps

pub gap_more : (text more rest : Characters) → after_blank text ≡ Some more → Gap more rest → Gap text rest
gap_more text more rest h g =
    let one = blank_found text more h in
    record {
      gap = one.0 ∷ g.gap;
      spells = ap (blank_spelling one.0) g.spells ∙ one.1;
      blanks = both _ _ (subst (λ t. is_blank_of one.0 t ≡ true) (sym g.spells) one.2) g.blanks;
      ends = g.ends;
    }

pub gap_none : (text : Characters) → after_blank text ≡ None → Gap text text
gap_none text h = record { gap = []; spells = refl; blanks = refl; ends = blank_none text h }
