-- The pieces of a token are those that are read off its spelling.
use Rattle.std.specs.Prelude.{◌≡◌, refl, ℕ, suc, Bool, true, false, not, ◌&&◌, ◌==◌, List, [], ◌∷◌, ◌++◌, length, take, drop, Option, Some, None, codes}
use mathlib.Core.Path.{sym, ◌∙◌, ap}
use mathlib.Core.Logic.{inl, inr}
use Rattle.std.proofs.lemmas.Bool.{false≢true}
use Rattle.std.proofs.lemmas.List.{drop_at}
use Rattle.qk_ast.specs.Characters.{Characters, has, every, is_front, is_hex_digit, run, after_run}
use Rattle.qk_ast.specs.Tokens.{Piece, Plain, Escaped, Four, Braced, Return, Return_feed, pieces_spelling, is_escape, are_text_pieces, is_template_piece, are_template_pieces}
use Rattle.qk_ast.proofs.FrontToken.{left, right, is_not, if_true, if_false, run_found, after_found}
use Rattle.qk_ast.proofs.Pieces.{nat_is, no_brace}
use Rattle.qk_lex.specs.Scan.{after_char}
use Rattle.qk_lex.proofs.Choices.{either_way, same_number}
use Rattle.qk_lex.proofs.EscapeLemmas.{char_found, char_there}
use Rattle.qk_token.specs.Pieces.{first_piece, pieces_of, standing, by_digits, by_feed}
use Rattle.qk_token.proofs.PieceLemmas.{no_piece, one_piece}

-- ---- one piece

front_run : (p : ℕ → Bool) (ds next : Characters) → every p ds ≡ true → take (length ds) (run p (ds ++ next)) ≡ ds
front_run p [] next h = refl
front_run p (d ∷ ds) next h = ap (take (suc (length ds))) (if_true _ _ (left (p d) _ h)) ∙ ap (λ t. d ∷ t) (front_run p ds next (right (p d) _ h))

no_open_brace : (ds next : Characters) (o : Option Characters) → length ds ≡ 4 → every is_hex_digit ds ≡ true → after_char 123 (ds ++ next) ≡ o → o ≡ None
no_open_brace ds next None len hex e = refl
no_open_brace ds next (Some inside) len hex e = absurd (no_brace ds next inside len hex (char_found 123 (ds ++ next) inside e))

escaped_read : (c : ℕ) (next : Characters) → has c (codes "nrt\\'\"`$") ≡ true → first_piece 92 (c ∷ next) ≡ (Escaped c, next)
unfolding first_piece
escaped_read c next h = elim (either_way (c == 117)) [
  | inl e ↦ absurd (false≢true (ap (λ d. has d (codes "nrt\\'\"`$")) (sym (same_number c 117 e)) ∙ h))
  | inr e ↦ if_false _ _ e
]

four_read : (ds next : Characters) → is_escape (Four ds) ≡ true → first_piece 92 (117 ∷ (ds ++ next)) ≡ (Four ds, next)
unfolding first_piece
four_read ds next h =
    let both = left (length ds == 4 && every is_hex_digit ds) _ h in
    let len : length ds ≡ 4 = nat_is _ _ (left (length ds == 4) _ both) in
    let hex = right (length ds == 4) (every is_hex_digit ds) both in
    let here : take 4 (run is_hex_digit (ds ++ next)) ≡ ds = ap (λ n. take n (run is_hex_digit (ds ++ next))) (sym len) ∙ front_run is_hex_digit ds next hex in
    ap (by_digits (ds ++ next)) (no_open_brace ds next (after_char 123 (ds ++ next)) len hex refl)
    ∙ (ap (λ d. (standing (Four d), drop (length d) (ds ++ next))) here
    ∙ (ap (λ (p : Piece). (p, drop (length ds) (ds ++ next))) (if_true _ _ (right (length ds == 4 && every is_hex_digit ds) _ h))
    ∙ ap (λ (t : Characters). (Four ds, t)) (drop_at ds next (length ds) refl)))

braced_read : (ds next : Characters) → is_escape (Braced ds) ≡ true → first_piece 92 (117 ∷ 123 ∷ (ds ++ 125 ∷ next)) ≡ (Braced ds, next)
unfolding first_piece
braced_read ds next h =
    let hex = right (not (length ds == 0)) (every is_hex_digit ds) (left (not (length ds == 0) && every is_hex_digit ds) _ h) in
    ap (by_digits (123 ∷ (ds ++ 125 ∷ next))) (char_there 123 (ds ++ 125 ∷ next))
    ∙ (ap (λ d. (standing (Braced d), drop 1 (after_run is_hex_digit (ds ++ 125 ∷ next)))) (run_found is_hex_digit ds (125 ∷ next) hex refl)
    ∙ (ap (λ (p : Piece). (p, drop 1 (after_run is_hex_digit (ds ++ 125 ∷ next)))) (if_true _ _ (right (not (length ds == 0) && every is_hex_digit ds) _ h))
    ∙ ap (λ t. (Braced ds, drop 1 t)) (after_found is_hex_digit ds (125 ∷ next) hex refl)))

plain_read : (c : ℕ) (next : Characters) → (c == 92) ≡ false → (c == 13) ≡ false → first_piece c next ≡ (Plain c, next)
unfolding first_piece
plain_read c next h k = if_false _ _ h ∙ if_false _ _ k

return_read : (next : Characters) → after_char 10 next ≡ None → first_piece 13 next ≡ (Return, next)
unfolding first_piece
return_read next h = ap (by_feed next) h

feed_read : (next : Characters) → first_piece 13 (10 ∷ next) ≡ (Return_feed, next)
unfolding first_piece
feed_read next = refl

-- ---- all the pieces

then_read : (c : ℕ) (cs next : Characters) (p : Piece) (ps : List Piece) → first_piece c cs ≡ (p, next) → pieces_of next ≡ ps → pieces_of (c ∷ cs) ≡ p ∷ ps
then_read c cs next p ps h k = one_piece c cs ∙ (ap (λ q. q.0 ∷ pieces_of q.1) h ∙ ap (λ qs. p ∷ qs) k)

escape_read : (p : Piece) (ps : List Piece) → is_escape p ≡ true → pieces_of (pieces_spelling ps []) ≡ ps → pieces_of (pieces_spelling (p ∷ ps) []) ≡ p ∷ ps
escape_read (Plain c) ps h k = absurd (false≢true h)
escape_read (Escaped c) ps h k = then_read 92 _ _ _ ps (escaped_read c (pieces_spelling ps []) h) k
escape_read (Four ds) ps h k = then_read 92 _ _ _ ps (four_read ds (pieces_spelling ps []) h) k
escape_read (Braced ds) ps h k = then_read 92 _ _ _ ps (braced_read ds (pieces_spelling ps []) h) k
escape_read Return ps h k = absurd (false≢true h)
escape_read Return_feed ps h k = absurd (false≢true h)

pub text_read : (quote : ℕ) (ps : List Piece) → are_text_pieces quote ps ≡ true → pieces_of (pieces_spelling ps []) ≡ ps
text_read quote [] h = no_piece
text_read quote (Plain c ∷ ps) h =
    let plain = left (not (c == quote) && not (c == 92) && not (c == 10) && not (c == 13)) (are_text_pieces quote ps) h in
    then_read c _ _ _ ps (plain_read c (pieces_spelling ps []) (is_not _ (right (not (c == quote)) (not (c == 92)) (left (not (c == quote) && not (c == 92)) _ (left _ (not (c == 13)) plain)))) (is_not _ (right _ (not (c == 13)) plain)))
    (text_read quote ps (right _ (are_text_pieces quote ps) h))
text_read quote (Escaped c ∷ ps) h = escape_read (Escaped c) ps (left _ (are_text_pieces quote ps) h) (text_read quote ps (right _ (are_text_pieces quote ps) h))
text_read quote (Four ds ∷ ps) h = escape_read (Four ds) ps (left _ (are_text_pieces quote ps) h) (text_read quote ps (right _ (are_text_pieces quote ps) h))
text_read quote (Braced ds ∷ ps) h = escape_read (Braced ds) ps (left _ (are_text_pieces quote ps) h) (text_read quote ps (right _ (are_text_pieces quote ps) h))
text_read quote (Return ∷ ps) h = absurd (false≢true h)
text_read quote (Return_feed ∷ ps) h = absurd (false≢true h)

-- no line feed begins the pieces alone where none begins them with what follows
no_feed : (ps : List Piece) (next : Characters) → is_front (10 ∷ []) (pieces_spelling ps next) ≡ false → after_char 10 (pieces_spelling ps []) ≡ None
no_feed [] next h = refl
no_feed (Plain c ∷ ps) next h = elim (either_way (c == 10)) [
  | inl e ↦ absurd (false≢true (sym h ∙ ap (λ d. is_front (10 ∷ []) (d ∷ [])) (same_number c 10 e)))
  | inr e ↦ if_false _ _ e
]
no_feed (Escaped c ∷ ps) next h = refl
no_feed (Four ds ∷ ps) next h = refl
no_feed (Braced ds ∷ ps) next h = refl
no_feed (Return ∷ ps) next h = refl
no_feed (Return_feed ∷ ps) next h = refl

pub template_read : (ps : List Piece) (next : Characters) → are_template_pieces ps next ≡ true → pieces_of (pieces_spelling ps []) ≡ ps
template_read [] next h = no_piece
template_read (p ∷ ps) next h = by p (left (is_template_piece p (pieces_spelling ps next)) _ h) (template_read ps next (right (is_template_piece p (pieces_spelling ps next)) _ h))
  where
    by : (p : Piece) → is_template_piece p (pieces_spelling ps next) ≡ true → pieces_of (pieces_spelling ps []) ≡ ps → pieces_of (pieces_spelling (p ∷ ps) []) ≡ p ∷ ps
    by (Plain c) k r =
        let three = left (not (c == 96) && not (c == 92) && not (c == 13)) _ k in
        then_read c _ _ _ ps (plain_read c (pieces_spelling ps []) (is_not _ (right (not (c == 96)) (not (c == 92)) (left (not (c == 96) && not (c == 92)) _ three))) (is_not _ (right _ (not (c == 13)) three))) r
    by (Escaped c) k r = escape_read (Escaped c) ps k r
    by (Four ds) k r = escape_read (Four ds) ps k r
    by (Braced ds) k r = escape_read (Braced ds) ps k r
    by Return k r = then_read 13 _ _ _ ps (return_read (pieces_spelling ps []) (no_feed ps next (is_not _ k))) r
    by Return_feed k r = then_read 13 _ _ _ ps (feed_read (pieces_spelling ps [])) r
