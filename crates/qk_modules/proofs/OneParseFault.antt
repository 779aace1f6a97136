-- A text is refused by one fault of the parser, at one place.
use Rattle.std.specs.Prelude.{◌≡◌, refl, ℕ, ◌+◌, true, false, List, [], ◌∷◌, ◌++◌, chars, Option, Some, None, Result, Err, IsTrue}
use Rattle.std.proofs.Common.{ap, sym, subst, ◌∙◌, arith}
use Rattle.std.proofs.lemmas.Bool.{false≢true}
use Rattle.qk_ast.specs.declared.Form.{Form}
use Rattle.qk_ast.specs.declared.Module.{Module}
use Rattle.qk_ast.specs.Characters.{Characters}
use Rattle.qk_ast.specs.Tokens.{Token, spelling, Blank, gap_spelling, is_blank_of, are_blanks, is_gap, Around, Braces, In_hole, In_tag, In_end, Children, after, Written, End, Then, written, stands}
use Rattle.qk_ast.specs.Faults.{LexicalAt, NothingBegins, around_after, last_of}
use Rattle.qk_ast.specs.Derives.{deepest}
use Rattle.qk_ast.proofs.FrontToken.{left, right}
use Rattle.qk_ast.proofs.OneTagToken.{begins_gap, blank_begins, blank_one, gap_one}
use Rattle.qk_ast.proofs.OneTokenList.{Starts, starts, starts_end, something, token_one, gap_before, no_length, one_token_list}
use Rattle.qk_reading.specs.Input as input
use Rattle.qk_reading.specs.Reader.{read_module}
use Rattle.qk_lex.specs.declared.Token.{Token as Placed_token}
use Rattle.qk_lex.specs.Gaps.{NoBlank}
use Rattle.qk_lex.specs.Steps.{kind_of, is_jsx}
use Rattle.qk_lex.specs.Reading.{size, placed}
use Rattle.qk_token.specs.Lexed.{Listed, Lexes, starts_of, place_of}
use Rattle.qk_parse.specs.declared.parse.ParseFault.{ParseFault}
use Rattle.qk_parse.specs.declared.parse.ParseFault.TheVariants as parse
use Rattle.qk_parse.specs.Parsing.{FoundAt, Refused}

-- ---- the places of the tokens are decided by the text

gap_alike : (around : Around) (gap gap' : List Blank) (text text' : Characters) → IsTrue (is_gap around gap text) → IsTrue (is_gap around gap' text')
    → Starts around text → Starts around text' → gap_spelling gap text ≡ gap_spelling gap' text' → (gap ≡ gap') × (text ≡ text')
gap_alike [] gap gap' text text' h k a b e = gap_one gap gap' text text' h k a b e
gap_alike (Braces ∷ around) gap gap' text text' h k a b e = gap_one gap gap' text text' h k a b e
gap_alike (In_hole ∷ around) gap gap' text text' h k a b e = gap_one gap gap' text text' h k a b e
gap_alike (In_tag ∷ around) gap gap' text text' h k a b e = gap_one gap gap' text text' h k a b e
gap_alike (In_end ∷ around) gap gap' text text' h k a b e = gap_one gap gap' text text' h k a b e
gap_alike (Children ∷ around) [] [] text text' h k a b e = (refl, e)
gap_alike (Children ∷ around) (x ∷ gap) gap' text text' h k a b e = absurd (no_length x gap h)
gap_alike (Children ∷ around) [] (x ∷ gap') text text' h k a b e = absurd (no_length x gap' k)

abbrev behind_it : ℕ → List Blank → Token → ℕ
behind_it at gap t = at + size (gap_spelling gap []) + size (spelling t [])

abbrev placed_one : ℕ → List Blank → Token → Placed_token
placed_one at gap t = record { kind = kind_of t; jsx = is_jsx t; start = at + size (gap_spelling gap []); end = behind_it at gap t }

placed_alike : (w v : Written) (around : Around) (before : Option Token) (at : ℕ) → stands around before w [] → stands around before v [] → written w [] ≡ written v [] → placed at w ≡ placed at v
placed_alike (End gap) (End gap') around before at h k e = refl
placed_alike (End gap) (Then gap' t more) around before at h k e =
    absurd (something around before t (written more []) k.1 (gap_before around gap gap' [] (spelling t (written more [])) h k.0 (starts_end around) (starts around before t (written more []) k.1) e))
placed_alike (Then gap t more) (End gap') around before at h k e =
    absurd (something around before t (written more []) h.1 (gap_before around gap' gap [] (spelling t (written more [])) k h.0 (starts_end around) (starts around before t (written more []) h.1) (sym e)))
placed_alike (Then gap t more) (Then gap' u more') around before at h k e =
    let gaps = gap_alike around gap gap' (spelling t (written more [])) (spelling u (written more' [])) h.0 k.0
    (starts around before t (written more []) h.1) (starts around before u (written more' []) k.1) e in
    let both = token_one around before t u (written more []) (written more' []) h.1 k.1 gaps.1 in
    let rest = placed_alike more more' (after around t) (Some t) (behind_it at gap t) h.2 (subst (λ x. stands (after around x) (Some x) more' []) (sym both.0) k.2) both.1 in
    ap (λ l. placed_one at gap t ∷ l) rest
    ∙ ap (λ (g : List Blank). placed_one at g t ∷ placed (behind_it at g t) more') gaps.0
    ∙ ap (λ (x : Token). placed_one at gap' x ∷ placed (behind_it at gap' x) more') both.0

one_listed : (text : Characters) (a b : Listed) → Lexes text a → Lexes text b → a ≡ b
one_listed text a b of_a of_b =
    let tokens : a.tokens ≡ b.tokens = one_token_list text a.tokens b.tokens of_a.reads of_b.reads in
    let alike = placed_alike of_a.reads.written_as of_b.reads.written_as [] None 0 of_a.reads.stand of_b.reads.stand (of_a.reads.spells ∙ sym of_b.reads.spells) in
    let places : a.places ≡ b.places = of_a.places ∙ ap (λ (p : List Placed_token). starts_of p ++ size text ∷ []) alike ∙ sym of_b.places in
    λ j. record { tokens = tokens j; places = places j }

-- ---- a text stops in one place

stuck_both : (xs bs : List Blank) (rest next : Characters) → are_blanks xs rest ≡ true → are_blanks bs next ≡ true → NoBlank rest → NoBlank next → gap_spelling xs rest ≡ gap_spelling bs next → rest ≡ next
stuck_both [] [] rest next h k n m e = e
stuck_both [] (b ∷ bs) rest next h k n m e = absurd (n b (gap_spelling bs next) (sym e) (left (is_blank_of b (gap_spelling bs next)) _ k))
stuck_both (a ∷ xs) [] rest next h k n m e = absurd (m a (gap_spelling xs rest) e (left (is_blank_of a (gap_spelling xs rest)) _ h))
stuck_both (a ∷ xs) (b ∷ bs) rest next h k n m e =
    let here = blank_one a b (gap_spelling xs rest) (gap_spelling bs next) (left (is_blank_of a (gap_spelling xs rest)) _ h) (left (is_blank_of b (gap_spelling bs next)) _ k) e in
    stuck_both xs bs rest next (right (is_blank_of a (gap_spelling xs rest)) _ h) (right (is_blank_of b (gap_spelling bs next)) _ k) n m here.1

ends_alike : (around : Around) (gap gap' : List Blank) (rest next : Characters) → IsTrue (is_gap around gap rest) → IsTrue (is_gap around gap' next) → NoBlank rest → NoBlank next
    → gap_spelling gap rest ≡ gap_spelling gap' next → rest ≡ next
ends_alike [] gap gap' rest next h k n m e = stuck_both gap gap' rest next h k n m e
ends_alike (Braces ∷ around) gap gap' rest next h k n m e = stuck_both gap gap' rest next h k n m e
ends_alike (In_hole ∷ around) gap gap' rest next h k n m e = stuck_both gap gap' rest next h k n m e
ends_alike (In_tag ∷ around) gap gap' rest next h k n m e = stuck_both gap gap' rest next h k n m e
ends_alike (In_end ∷ around) gap gap' rest next h k n m e = stuck_both gap gap' rest next h k n m e
ends_alike (Children ∷ around) [] [] rest next h k n m e = e
ends_alike (Children ∷ around) (x ∷ gap) gap' rest next h k n m e = absurd (no_length x gap h)
ends_alike (Children ∷ around) [] (x ∷ gap') rest next h k n m e = absurd (no_length x gap' k)

gap_stuck : (xs bs : List Blank) (rest next : Characters) → are_blanks xs rest ≡ true → are_blanks bs next ≡ true → NoBlank rest → begins_gap next ≡ false → gap_spelling xs rest ≡ gap_spelling bs next → rest ≡ next
gap_stuck [] [] rest next h k n m e = e
gap_stuck [] (b ∷ bs) rest next h k n m e = absurd (n b (gap_spelling bs next) (sym e) (left (is_blank_of b (gap_spelling bs next)) _ k))
gap_stuck (a ∷ xs) [] rest next h k n m e = absurd (false≢true (sym m ∙ (ap begins_gap (sym e) ∙ blank_begins a (gap_spelling xs rest) (left (is_blank_of a (gap_spelling xs rest)) _ h))))
gap_stuck (a ∷ xs) (b ∷ bs) rest next h k n m e =
    let here = blank_one a b (gap_spelling xs rest) (gap_spelling bs next) (left (is_blank_of a (gap_spelling xs rest)) _ h) (left (is_blank_of b (gap_spelling bs next)) _ k) e in
    gap_stuck xs bs rest next (right (is_blank_of a (gap_spelling xs rest)) _ h) (right (is_blank_of b (gap_spelling bs next)) _ k) n m here.1

stuck_before : (around : Around) (gap gap' : List Blank) (rest text : Characters) → IsTrue (is_gap around gap rest) → IsTrue (is_gap around gap' text) → NoBlank rest → Starts around text
    → gap_spelling gap rest ≡ gap_spelling gap' text → rest ≡ text
stuck_before [] gap gap' rest text h k n m e = gap_stuck gap gap' rest text h k n m e
stuck_before (Braces ∷ around) gap gap' rest text h k n m e = gap_stuck gap gap' rest text h k n m e
stuck_before (In_hole ∷ around) gap gap' rest text h k n m e = gap_stuck gap gap' rest text h k n m e
stuck_before (In_tag ∷ around) gap gap' rest text h k n m e = gap_stuck gap gap' rest text h k n m e
stuck_before (In_end ∷ around) gap gap' rest text h k n m e = gap_stuck gap gap' rest text h k n m e
stuck_before (Children ∷ around) [] [] rest text h k n m e = e
stuck_before (Children ∷ around) (x ∷ gap) gap' rest text h k n m e = absurd (no_length x gap h)
stuck_before (Children ∷ around) [] (x ∷ gap') rest text h k n m e = absurd (no_length x gap' k)

rest_one : (w v : Written) (around : Around) (before : Option Token) (rest next : Characters) → stands around before w rest → stands around before v next
    → NothingBegins (around_after around w) (last_of before w) rest → NothingBegins (around_after around v) (last_of before v) next → written w rest ≡ written v next → rest ≡ next
rest_one (End gap) (End gap') around before rest next h k n m e = ends_alike around gap gap' rest next h k n.blank m.blank e
rest_one (End gap) (Then gap' t more) around before rest next h k n m e =
    absurd (n.token t (written more next) (sym (stuck_before around gap gap' rest (spelling t (written more next)) h k.0 n.blank (starts around before t (written more next) k.1) e)) k.1)
rest_one (Then gap t more) (End gap') around before rest next h k n m e =
    absurd (m.token t (written more rest) (sym (stuck_before around gap' gap next (spelling t (written more rest)) k h.0 m.blank (starts around before t (written more rest) h.1) (sym e))) h.1)
rest_one (Then gap t more) (Then gap' u more') around before rest next h k n m e =
    let after_gap = gap_before around gap gap' (spelling t (written more rest)) (spelling u (written more' next)) h.0 k.0
    (starts around before t (written more rest) h.1) (starts around before u (written more' next) k.1) e in
    let both = token_one around before t u (written more rest) (written more' next) h.1 k.1 after_gap in
    rest_one more more' (after around t) (Some t) rest next h.2 (subst (λ x. stands (after around x) (Some x) more' next) (sym both.0) k.2)
    n (subst (λ x. NothingBegins (around_after (after around x) more') (last_of (Some x) more') next) (sym both.0) m) both.1

one_lexical : (text : Characters) (at at' : ℕ) → LexicalAt text at → LexicalAt text at' → at ≡ at'
one_lexical text at at' l k =
    let e : size l.rest ≡ size k.rest = ap size (rest_one l.front k.front [] None l.rest k.rest l.stand k.stand l.stuck k.stuck (l.spells ∙ sym k.spells)) in
    let p : at + size l.rest ≡ size text = l.place in
    let q : at' + size k.rest ≡ size text = k.place in
    omega (arith, e, p, q)

-- ---- one fault

-- what the reader answers with a fault
abbrev answer_of : input.Fault → Result Module input.Fault
answer_of fault = Err fault

syntax_is : (n m : ℕ) → answer_of (input.Syntax n) ≡ answer_of (input.Syntax m) → n ≡ m
syntax_is n m h = cc

deep_is : (n m : ℕ) → answer_of (input.TooDeep n) ≡ answer_of (input.TooDeep m) → n ≡ m
deep_is n m h = cc

not_both : (n m : ℕ) → answer_of (input.Syntax n) ≡ answer_of (input.TooDeep m) → ⊥
not_both n m h = cc

module _ (form : Form) (text : List ℕ) where
  -- two faults that the reader answers to the text's tokens
  answers_alike : (fault fault' : ℕ → input.Fault) (at at' : ℕ) (a : FoundAt form fault text at) (b : FoundAt form fault' text at') → answer_of (fault a.left) ≡ answer_of (fault' b.left)
  answers_alike fault fault' at at' a b =
      sym a.answers ∙ ap (λ (l : Listed). read_module form (deepest form) l.tokens) (one_listed (chars text) a.found b.found a.lexes b.lexes) ∙ b.answers

  place_alike : (fault fault' : ℕ → input.Fault) (at at' : ℕ) (a : FoundAt form fault text at) (b : FoundAt form fault' text at') → a.left ≡ b.left → at ≡ at'
  place_alike fault fault' at at' a b e =
      a.place ∙ ap (λ n. place_of n a.found) e ∙ ap (place_of b.left) (one_listed (chars text) a.found b.found a.lexes b.lexes) ∙ sym b.place

  pub one_parse_fault : (f g : ParseFault) → ¬ (f ≡ parse.Memory) → ¬ (g ≡ parse.Memory) → Refused form text f → Refused form text g → f ≡ g
  one_parse_fault parse.TooLong parse.TooLong n m h k = refl
  one_parse_fault parse.TooLong (parse.Lexical b) n m h k = let short = k.0 in absurd (omega (arith, h, short))
  one_parse_fault parse.TooLong (parse.Syntax b) n m h k = let short = k.0 in absurd (omega (arith, h, short))
  one_parse_fault parse.TooLong (parse.TooDeep b) n m h k = let short = k.0 in absurd (omega (arith, h, short))
  one_parse_fault (parse.Lexical a) parse.TooLong n m h k = let short = h.0 in absurd (omega (arith, k, short))
  one_parse_fault (parse.Lexical a) (parse.Lexical b) n m h k = ap parse.Lexical (one_lexical (chars text) a b h.1 k.1)
  one_parse_fault (parse.Lexical a) (parse.Syntax b) n m h k = absurd (h.2 k.1.there.found.tokens k.1.there.lexes.reads)
  one_parse_fault (parse.Lexical a) (parse.TooDeep b) n m h k = absurd (h.2 k.1.there.found.tokens k.1.there.lexes.reads)
  one_parse_fault (parse.Syntax a) parse.TooLong n m h k = let short = h.0 in absurd (omega (arith, k, short))
  one_parse_fault (parse.Syntax a) (parse.Lexical b) n m h k = absurd (k.2 h.1.there.found.tokens h.1.there.lexes.reads)
  one_parse_fault (parse.Syntax a) (parse.Syntax b) n m h k =
      let e = syntax_is h.1.there.left k.1.there.left (answers_alike input.Syntax input.Syntax a b h.1.there k.1.there) in
      ap parse.Syntax (place_alike input.Syntax input.Syntax a b h.1.there k.1.there e)
  one_parse_fault (parse.Syntax a) (parse.TooDeep b) n m h k = absurd (not_both h.1.there.left k.1.there.left (answers_alike input.Syntax input.TooDeep a b h.1.there k.1.there))
  one_parse_fault (parse.TooDeep a) parse.TooLong n m h k = let short = h.0 in absurd (omega (arith, k, short))
  one_parse_fault (parse.TooDeep a) (parse.Lexical b) n m h k = absurd (k.2 h.1.there.found.tokens h.1.there.lexes.reads)
  one_parse_fault (parse.TooDeep a) (parse.Syntax b) n m h k = absurd (not_both k.1.there.left h.1.there.left (sym (answers_alike input.TooDeep input.Syntax a b h.1.there k.1.there)))
  one_parse_fault (parse.TooDeep a) (parse.TooDeep b) n m h k =
      let e = deep_is h.1.there.left k.1.there.left (answers_alike input.TooDeep input.TooDeep a b h.1.there k.1.there) in
      ap parse.TooDeep (place_alike input.TooDeep input.TooDeep a b h.1.there k.1.there e)
  one_parse_fault parse.Memory g n m h k = absurd (n refl)
  one_parse_fault f parse.Memory n m h k = absurd (m refl)
