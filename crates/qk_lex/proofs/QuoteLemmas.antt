-- What is read as the pieces of a text or template is, and where none are read none stand.
use Rattle.std.specs.Prelude.{◌≡◌, refl, ℕ, true, false, not, ◌&&◌, ◌||◌, if◌then◌else◌, ◌==◌, List, [], ◌∷◌, Option, Some, None, codes, IsTrue}
use mathlib.Core.Path.{sym, ◌∙◌, ap, subst}
use mathlib.Core.Logic.{inl, inr}
use Rattle.std.proofs.lemmas.Bool.{false≢true}
use Rattle.qk_ast.specs.Characters.{Characters, begins_with, is_front}
use Rattle.qk_ast.specs.Tokens.{Piece, Plain, Escaped, Four, Braced, Return, Return_feed, piece_spelling, pieces_spelling, is_escape, is_text_piece, are_text_pieces, is_template_piece, are_template_pieces, Edge, Backquote, Hole, closing}
use Rattle.qk_ast.proofs.FrontToken.{left, right, is_not}
use Rattle.qk_ast.proofs.Pieces.{heads, plain_no_escape, text_piece_one, no_close, plain_template, template_piece_one, no_edge}
use Rattle.qk_lex.specs.Scan.{after_char}
use Rattle.qk_lex.specs.Quotes.{after_escape, after_text_piece, Closes, this_or, after_template_piece, after_hole, Ends}
use Rattle.qk_lex.proofs.Choices.{either_false, which, some_same, none_some, some_none, both, not_true, same_number, number_same, number_differs}
use Rattle.qk_lex.proofs.EscapeLemmas.{char_found, no_char, escape_found, escape_none}

-- ---- texts

-- one more piece before
pub text_step : (quote : ℕ) (p : Piece) (more text : Characters) → (quote == 92) ≡ false → is_text_piece quote p ≡ true → piece_spelling p more ≡ text
    → (found : Option Characters) → Closes quote more found → Closes quote text found
text_step quote p more text n h e None k = λ pieces next all s. none pieces next all s
  where
    none : (pieces : List Piece) (next : Characters) → IsTrue (are_text_pieces quote pieces) → pieces_spelling pieces (quote ∷ next) ≡ text → ⊥
    none [] next all s = no_close quote p next more n h (s ∙ sym e)
    none (q ∷ qs) next all s = k qs next (right (is_text_piece quote q) _ all) (text_piece_one quote q p _ more (left (is_text_piece quote q) _ all) h (s ∙ sym e)).1
text_step quote p more text n h e (Some rest) k =
    (p ∷ k.0, both _ _ h k.1, ap (piece_spelling p) k.2 ∙ e)

pub text_close : (quote : ℕ) (rest : Characters) → Closes quote (quote ∷ rest) (Some rest)
text_close quote rest = ([], refl, refl)

-- no piece and no quote begins the text
pub text_stuck : (quote : ℕ) (text : Characters) → ((next : Characters) → quote ∷ next ≡ text → ⊥) → ((p : Piece) (next : Characters) → is_text_piece quote p ≡ true → piece_spelling p next ≡ text → ⊥)
    → Closes quote text None
text_stuck quote text no_quote no_piece = λ pieces next all s. none pieces next all s
  where
    none : (pieces : List Piece) (next : Characters) → IsTrue (are_text_pieces quote pieces) → pieces_spelling pieces (quote ∷ next) ≡ text → ⊥
    none [] next all s = no_quote next s
    none (q ∷ qs) next all s = no_piece q _ (left (is_text_piece quote q) _ all) s

pub nothing_closes : (quote : ℕ) → Closes quote [] None
nothing_closes quote = text_stuck quote [] (λ next e. empty e) (λ p next h e. piece_empty p next e)
  where
    empty : {c : ℕ} {cs : Characters} → c ∷ cs ≡ [] → ⊥
    empty e = false≢true (sym (ap (λ t. begins_with (λ c. true) t) e))

    piece_empty : (p : Piece) (next : Characters) → piece_spelling p next ≡ [] → ⊥
    piece_empty (Plain c) next e = empty e
    piece_empty (Escaped c) next e = empty e
    piece_empty (Four ds) next e = empty e
    piece_empty (Braced ds) next e = empty e
    piece_empty Return next e = empty e
    piece_empty Return_feed next e = empty e

is_text_escape : (quote : ℕ) (p : Piece) → is_escape p ≡ true → is_text_piece quote p ≡ true
is_text_escape quote (Plain c) h = absurd (false≢true h)
is_text_escape quote (Escaped c) h = h
is_text_escape quote (Four ds) h = h
is_text_escape quote (Braced ds) h = h
is_text_escape quote Return h = h
is_text_escape quote Return_feed h = h

-- a piece that a backslash begins is an escape
text_piece_escapes : (quote : ℕ) (p : Piece) (next more : Characters) → is_text_piece quote p ≡ true → piece_spelling p next ≡ 92 ∷ more → is_escape p ≡ true
text_piece_escapes quote (Plain c) next more h e = absurd (false≢true (sym (plain_no_escape quote c h) ∙ ap (λ d. d == 92) (heads e)))
text_piece_escapes quote (Escaped c) next more h e = h
text_piece_escapes quote (Four ds) next more h e = h
text_piece_escapes quote (Braced ds) next more h e = h
text_piece_escapes quote Return next more h e = absurd (false≢true h)
text_piece_escapes quote Return_feed next more h e = absurd (false≢true h)

-- a piece that another character begins is that character
text_piece_plain : (quote c : ℕ) (p : Piece) (next more : Characters) → (c == 92) ≡ false → is_text_piece quote p ≡ true → piece_spelling p next ≡ c ∷ more → is_text_piece quote (Plain c) ≡ true
text_piece_plain quote c (Plain d) next more n h e = ap (λ x. is_text_piece quote (Plain x)) (sym (heads e)) ∙ h
text_piece_plain quote c (Escaped d) next more n h e = absurd (false≢true (sym n ∙ ap (λ x. x == 92) (sym (heads e))))
text_piece_plain quote c (Four ds) next more n h e = absurd (false≢true (sym n ∙ ap (λ x. x == 92) (sym (heads e))))
text_piece_plain quote c (Braced ds) next more n h e = absurd (false≢true (sym n ∙ ap (λ x. x == 92) (sym (heads e))))
text_piece_plain quote c Return next more n h e = absurd (false≢true h)
text_piece_plain quote c Return_feed next more n h e = absurd (false≢true h)

raw_is_none : (quote c : ℕ) → ((c == 10) || (c == 13)) ≡ true → is_text_piece quote (Plain c) ≡ true → ⊥
raw_is_none quote c r h =
    let a = is_not _ (right (not (c == quote) && not (c == 92)) _ (left (not (c == quote) && not (c == 92) && not (c == 10)) _ h)) in
    let b = is_not _ (right (not (c == quote) && not (c == 92) && not (c == 10)) _ h) in
    false≢true (sym (ap (λ x. x || (c == 13)) a ∙ b) ∙ r)

pub text_goes : (quote c : ℕ) (more rest : Characters) → (quote == 92) ≡ false → (c == quote) ≡ false → after_text_piece c more ≡ Some rest
    → (found : Option Characters) → Closes quote rest found → Closes quote (c ∷ more) found
text_goes quote c more rest n q h = elim (which (c == 92) (after_escape more) (if (c == 10) || (c == 13) then None else Some more) (Some rest) h) [
  | inl x ↦ escape (same_number c 92 x.0) (escape_found more rest x.1)
  | inr y ↦ elim (which ((c == 10) || (c == 13)) None (Some more) (Some rest) y.1) [
    | inl z ↦ absurd (none_some z.1)
    | inr z ↦ plain y.0 (either_false _ _ z.0) (some_same z.1)
  ]
]
  where
    escape : c ≡ 92 → (p : Piece) × (is_escape p ≡ true) × (piece_spelling p rest ≡ 92 ∷ more) → (found : Option Characters) → Closes quote rest found → Closes quote (c ∷ more) found
    escape e x = text_step quote x.0 rest (c ∷ more) n (is_text_escape quote x.0 x.1) (x.2 ∙ ap (λ d. d ∷ more) (sym e))

    plain : (c == 92) ≡ false → ((c == 10) ≡ false) × ((c == 13) ≡ false) → more ≡ rest → (found : Option Characters) → Closes quote rest found → Closes quote (c ∷ more) found
    plain b r e = text_step quote (Plain c) rest (c ∷ more) n (both _ _ (both _ _ (both _ _ (not_true _ q) (not_true _ b)) (not_true _ r.0)) (not_true _ r.1)) (ap (λ t. c ∷ t) (sym e))

pub text_stops : (quote c : ℕ) (more : Characters) → (c == quote) ≡ false → after_text_piece c more ≡ None → Closes quote (c ∷ more) None
text_stops quote c more q h = text_stuck quote (c ∷ more) (λ next e. false≢true (sym q ∙ (ap (λ d. d == quote) (sym (heads e)) ∙ number_same quote)))
    (λ p next k e. no_piece p next k e)
  where
    no_piece : (p : Piece) (next : Characters) → is_text_piece quote p ≡ true → piece_spelling p next ≡ c ∷ more → ⊥
    no_piece p next k e = elim (which (c == 92) (after_escape more) (if (c == 10) || (c == 13) then None else Some more) None h) [
      | inl x ↦
          let f : piece_spelling p next ≡ 92 ∷ more = e ∙ ap (λ d. d ∷ more) (same_number c 92 x.0) in
          escape_none more x.1 p next (text_piece_escapes quote p next more k f) f
      | inr y ↦ elim (which ((c == 10) || (c == 13)) None (Some more) None y.1) [
        | inl z ↦ raw_is_none quote c z.0 (text_piece_plain quote c p next more y.0 k e)
        | inr z ↦ some_none z.1
      ]
    ]

-- ---- the same, as the reading of a text meets them

pub at_quote : (quote c : ℕ) (text rest : Characters) → text ≡ c ∷ rest → c ≡ quote → Closes quote text (Some rest)
at_quote quote c text rest e k = subst (λ t. Closes quote t (Some rest)) (sym (e ∙ ap (λ d. d ∷ rest) k)) (text_close quote rest)

pub past_piece : (quote c : ℕ) (text more rest : Characters) → (quote == 92) ≡ false → text ≡ c ∷ more → (c ≡ quote → ⊥) → Some rest ≡ after_text_piece c more
    → (found : Option Characters) → Closes quote rest found → Closes quote text found
past_piece quote c text more rest n e k h = subst (λ t. (found : Option Characters) → Closes quote rest found → Closes quote t found) (sym e) (text_goes quote c more rest n (number_differs c quote k) (sym h))

pub at_no_piece : (quote c : ℕ) (text more : Characters) → text ≡ c ∷ more → (c ≡ quote → ⊥) → None ≡ after_text_piece c more → Closes quote text None
at_no_piece quote c text more e k h = subst (λ t. Closes quote t None) (sym e) (text_stops quote c more (number_differs c quote k) (sym h))

pub at_end : (quote : ℕ) (text : Characters) → text ≡ [] → Closes quote text None
at_end quote text e = subst (λ t. Closes quote t None) (sym e) (nothing_closes quote)

-- ---- templates

pub template_step : (p : Piece) (more text : Characters) → is_template_piece p more ≡ true → piece_spelling p more ≡ text → (found : Option (Edge × Characters)) → Ends more found → Ends text found
template_step p more text h e None k = λ pieces to next all s. none pieces to next all s
  where
    none : (pieces : List Piece) (to : Edge) (next : Characters) → IsTrue (are_template_pieces pieces (closing to next)) → pieces_spelling pieces (closing to next) ≡ text → ⊥
    none [] to next all s = no_edge to p next more h (s ∙ sym e)
    none (q ∷ qs) to next all s = k qs to next (right (is_template_piece q (pieces_spelling qs (closing to next))) _ all)
        (template_piece_one q p _ more (left (is_template_piece q (pieces_spelling qs (closing to next))) _ all) h (s ∙ sym e)).1
template_step p more text h e (Some found) k =
    (p ∷ k.0, both _ _ (subst (λ t. is_template_piece p t ≡ true) (sym k.2) h) k.1, ap (piece_spelling p) k.2 ∙ e)

pub template_close : (rest : Characters) → Ends (96 ∷ rest) (Some (Backquote, rest))
template_close rest = ([], refl, refl)

pub template_hole : (c : ℕ) (more rest : Characters) → after_hole c more ≡ Some rest → Ends (c ∷ more) (Some (Hole, rest))
template_hole c more rest h = elim (which (c == 36) (after_char 123 more) None (Some rest) h) [
  | inl x ↦ ([], refl, ap (λ t. 36 ∷ t) (sym (char_found 123 more rest x.1)) ∙ ap (λ d. d ∷ more) (sym (same_number c 36 x.0)))
  | inr x ↦ absurd (none_some x.1)
]

pub template_stuck : (text : Characters) → ((to : Edge) (next : Characters) → closing to next ≡ text → ⊥) → ((p : Piece) (next : Characters) → is_template_piece p next ≡ true → piece_spelling p next ≡ text → ⊥) → Ends text None
template_stuck text no_end no_piece = λ pieces to next all s. none pieces to next all s
  where
    none : (pieces : List Piece) (to : Edge) (next : Characters) → IsTrue (are_template_pieces pieces (closing to next)) → pieces_spelling pieces (closing to next) ≡ text → ⊥
    none [] to next all s = no_end to next s
    none (q ∷ qs) to next all s = no_piece q _ (left (is_template_piece q (pieces_spelling qs (closing to next))) _ all) s

empty_not : {c : ℕ} {cs : Characters} → c ∷ cs ≡ [] → ⊥
empty_not e = false≢true (sym (ap (λ t. begins_with (λ c. true) t) e))

piece_not_empty : (p : Piece) (next : Characters) → piece_spelling p next ≡ [] → ⊥
piece_not_empty (Plain c) next e = empty_not e
piece_not_empty (Escaped c) next e = empty_not e
piece_not_empty (Four ds) next e = empty_not e
piece_not_empty (Braced ds) next e = empty_not e
piece_not_empty Return next e = empty_not e
piece_not_empty Return_feed next e = empty_not e

edge_not_empty : (to : Edge) (next : Characters) → closing to next ≡ [] → ⊥
edge_not_empty Backquote next e = empty_not e
edge_not_empty Hole next e = empty_not e

pub nothing_ends : Ends [] None
nothing_ends = template_stuck [] (λ to next e. edge_not_empty to next e) (λ p next h e. piece_not_empty p next e)

is_template_escape : (p : Piece) (next : Characters) → is_escape p ≡ true → is_template_piece p next ≡ true
is_template_escape (Plain c) next h = absurd (false≢true h)
is_template_escape (Escaped c) next h = h
is_template_escape (Four ds) next h = h
is_template_escape (Braced ds) next h = h
is_template_escape Return next h = absurd (false≢true h)
is_template_escape Return_feed next h = absurd (false≢true h)

no_hole : (c : ℕ) (text : Characters) → after_hole c text ≡ None → ((c == 36) && is_front (codes "{") text) ≡ false
no_hole c text h = elim (which (c == 36) (after_char 123 text) None None h) [
  | inl x ↦ ap (λ b. b && is_front (codes "{") text) x.0 ∙ no_char 123 text x.1
  | inr x ↦ ap (λ b. b && is_front (codes "{") text) x.0
]

return_goes : (more rest : Characters) (o : Option Characters) → after_char 10 more ≡ o → this_or more o ≡ rest → (found : Option (Edge × Characters)) → Ends rest found → Ends (13 ∷ more) found
return_goes more rest None h e = template_step Return rest (13 ∷ more) (not_true _ (ap (λ t. is_front (10 ∷ []) t) (sym e) ∙ no_char 10 more h)) (ap (λ t. 13 ∷ t) (sym e))
return_goes more rest (Some next) h e = template_step Return_feed rest (13 ∷ more) refl (ap (λ t. 13 ∷ 10 ∷ t) (sym e) ∙ ap (λ t. 13 ∷ t) (sym (char_found 10 more next h)))

pub template_goes : (c : ℕ) (more rest : Characters) → (c == 96) ≡ false → after_hole c more ≡ None → after_template_piece c more ≡ Some rest
    → (found : Option (Edge × Characters)) → Ends rest found → Ends (c ∷ more) found
template_goes c more rest q n h = elim (which (c == 92) (after_escape more) (if c == 13 then Some (this_or more (after_char 10 more)) else Some more) (Some rest) h) [
  | inl x ↦ escape (same_number c 92 x.0) (escape_found more rest x.1)
  | inr y ↦ elim (which (c == 13) (Some (this_or more (after_char 10 more))) (Some more) (Some rest) y.1) [
    | inl z ↦ subst (λ d. (found : Option (Edge × Characters)) → Ends rest found → Ends (d ∷ more) found) (sym (same_number c 13 z.0)) (return_goes more rest (after_char 10 more) refl (some_same z.1))
    | inr z ↦ plain y.0 z.0 (some_same z.1)
  ]
]
  where
    escape : c ≡ 92 → (p : Piece) × (is_escape p ≡ true) × (piece_spelling p rest ≡ 92 ∷ more) → (found : Option (Edge × Characters)) → Ends rest found → Ends (c ∷ more) found
    escape e x = template_step x.0 rest (c ∷ more) (is_template_escape x.0 rest x.1) (x.2 ∙ ap (λ d. d ∷ more) (sym e))

    plain : (c == 92) ≡ false → (c == 13) ≡ false → more ≡ rest → (found : Option (Edge × Characters)) → Ends rest found → Ends (c ∷ more) found
    plain b r e = template_step (Plain c) rest (c ∷ more)
        (both _ _ (both _ _ (both _ _ (not_true _ q) (not_true _ b)) (not_true _ r)) (not_true _ (ap (λ t. (c == 36) && is_front (codes "{") t) (sym e) ∙ no_hole c more n))) (ap (λ t. c ∷ t) (sym e))

-- a piece that a backslash begins is an escape
template_piece_escapes : (p : Piece) (next more : Characters) → is_template_piece p next ≡ true → piece_spelling p next ≡ 92 ∷ more → is_escape p ≡ true
template_piece_escapes (Plain c) next more h e = absurd (false≢true (sym (plain_template c next h).1 ∙ ap (λ d. d == 92) (heads e)))
template_piece_escapes (Escaped c) next more h e = h
template_piece_escapes (Four ds) next more h e = h
template_piece_escapes (Braced ds) next more h e = h
template_piece_escapes Return next more h e = absurd (false≢true (ap (λ d. d == 92) (heads e)))
template_piece_escapes Return_feed next more h e = absurd (false≢true (ap (λ d. d == 92) (heads e)))

pub template_stops : (c : ℕ) (more : Characters) → after_template_piece c more ≡ None → Ends (c ∷ more) None
template_stops c more h = elim (which (c == 92) (after_escape more) (if c == 13 then Some (this_or more (after_char 10 more)) else Some more) None h) [
  | inl x ↦ subst (λ d. Ends (d ∷ more) None) (sym (same_number c 92 x.0)) (bad x.1)
  | inr y ↦ elim (which (c == 13) (Some (this_or more (after_char 10 more))) (Some more) None y.1) [
    | inl z ↦ absurd (some_none z.1)
    | inr z ↦ absurd (some_none z.1)
  ]
]
  where
    no_end : (to : Edge) (next : Characters) → closing to next ≡ 92 ∷ more → ⊥
    no_end Backquote next e = false≢true (ap (λ d. d == 92) (heads e))
    no_end Hole next e = false≢true (ap (λ d. d == 92) (heads e))

    bad : after_escape more ≡ None → Ends (92 ∷ more) None
    bad k = template_stuck (92 ∷ more) (λ to next e. no_end to next e) (λ p next t e. escape_none more k p next (template_piece_escapes p next more t e) e)

-- ---- the same, as the reading of a template meets them

pub at_backquote : (c : ℕ) (text rest : Characters) → text ≡ c ∷ rest → c ≡ 96 → Ends text (Some (Backquote, rest))
at_backquote c text rest e k = subst (λ t. Ends t (Some (Backquote, rest))) (sym (e ∙ ap (λ d. d ∷ rest) k)) (template_close rest)

pub at_hole : (c : ℕ) (text more rest : Characters) → text ≡ c ∷ more → Some rest ≡ after_hole c more → Ends text (Some (Hole, rest))
at_hole c text more rest e h = subst (λ t. Ends t (Some (Hole, rest))) (sym e) (template_hole c more rest (sym h))

pub past_template_piece : (c : ℕ) (text more rest : Characters) → text ≡ c ∷ more → (c ≡ 96 → ⊥) → None ≡ after_hole c more → Some rest ≡ after_template_piece c more
    → (found : Option (Edge × Characters)) → Ends rest found → Ends text found
past_template_piece c text more rest e k n h =
    subst (λ t. (found : Option (Edge × Characters)) → Ends rest found → Ends t found) (sym e) (template_goes c more rest (number_differs c 96 k) (sym n) (sym h))

pub at_no_template_piece : (c : ℕ) (text more : Characters) → text ≡ c ∷ more → None ≡ after_template_piece c more → Ends text None
at_no_template_piece c text more e h = subst (λ t. Ends t None) (sym e) (template_stops c more (sym h))

pub at_template_end : (text : Characters) → text ≡ [] → Ends text None
at_template_end text e = subst (λ t. Ends t None) (sym e) nothing_ends
