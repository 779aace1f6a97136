-- What the parser answers, from what the lexer and the reader answer. The bytes are UTF-8, and the tokens are those of their characters.
use Rattle.std.specs.Prelude.{◌≡◌, ◌≢◌, refl, ℕ, suc, ◌≤◌, ◌<◌, List, [], ◌∷◌, length, chars, Ok, Err, IsTrue}
use Rattle.std.specs.Str.{IsUtf8, encode_utf8_all, all_scalars}
use mathlib.Core.Path.{sym, ◌∙◌, ap, subst}
use native.Mathlib.Omega.{arith}
use Rattle.std.proofs.lemmas.Str.{encodes-chars, chars-encodes, scalars-chars}
use Rattle.qk_ast.specs.declared.Form.{Form}
use Rattle.qk_ast.specs.declared.Form.TheVariants.{Source, Built}
use Rattle.qk_ast.specs.declared.Module.{Module}
use Rattle.qk_ast.specs.Tokens.{Token, Tokens}
use Rattle.qk_ast.specs.Derives.{Derives, Parses, longest, deepest}
use Rattle.qk_ast.proofs.OneTokenList.{one_token_list}
use Rattle.qk_reading.specs.Input as input
use Rattle.qk_reading.specs.Reader.{read_module}
use Rattle.qk_reading.specs.Laws.{ParsesWithin, ReadsTexts, FaultsExactly, SyntaxOnlyWhereNone, TooDeepOnlyWhereRaised, FaultsInside}
use Rattle.qk_lex.specs.declared.LexFault.{LexFault}
use Rattle.qk_lex.specs.declared.LexFault.TheVariants as lex
use Rattle.qk_lex.specs.Reading as lexing
use Rattle.qk_token.specs.declared.fault.Fault.{Fault}
use Rattle.qk_token.specs.declared.fault.Fault.TheVariants as read
use Rattle.qk_token.specs.declared.token.Token.{Token as Parser_token}
use Rattle.qk_token.specs.View.{tokens_of}
use Rattle.qk_token.specs.Reads.{fault_of}
use Rattle.qk_token.specs.Lexed.{Listed, Lexes, place_of}
use Rattle.qk_token.proofs.Counts.{fewer_tokens, fewer_characters}
use Rattle.qk_parse.specs.declared.parse.ParseFault.{ParseFault}
use Rattle.qk_parse.specs.declared.parse.ParseFault.TheVariants as parse
use Rattle.qk_parse.specs.Parsing.{FoundAt, Refused, NoneDerived, of_lex, placed}

scalars : (text : List ℕ) → IsUtf8 text → IsTrue (all_scalars (chars text))
scalars text u = scalars-chars text u

one_text : (characters text : List ℕ) → IsUtf8 text → IsTrue (all_scalars characters) → encode_utf8_all characters ≡ text → characters ≡ chars text
one_text characters text u a e = sym (chars-encodes characters a) ∙ ap (λ b. chars b) e

-- ---- what the reader answers to the tokens of a text

pub derived : ReadsTexts → (form : Form) (text : List ℕ) (ts : List Token) (m : Module) → IsUtf8 text → length text ≤ longest form → Tokens (chars text) ts → read_module form (deepest form) ts ≡ Ok m → Derives form text m
derived texts form text ts m u short read e =
    let k = encodes-chars text u in
    subst (λ b. Derives form b m) k ((texts form (chars text) ts m (scalars text u) (subst (λ b. length b ≤ longest form) (sym k) short) read).1 e)

abbrev Is_fault : Fault → Type 0
Is_fault read.Memory = ⊥
Is_fault (read.Syntax left) = Unit {0}
Is_fault (read.TooDeep left) = Unit {0}

syntax_is : (left : ℕ) → read.Syntax left ≢ read.Memory
syntax_is left e = subst (λ f. Is_fault f) e tt

deep_is : (left : ℕ) → read.TooDeep left ≢ read.Memory
deep_is left e = subst (λ f. Is_fault f) e tt

pub read_refused : FaultsExactly → SyntaxOnlyWhereNone → TooDeepOnlyWhereRaised → FaultsInside → (form : Form) (text : List ℕ) (found : Listed) (fault : Fault) → length text ≤ longest form → Lexes (chars text) found → (fault ≢ read.Memory → read_module form (deepest form) found.tokens ≡ Err (fault_of fault))
    → Refused form text (placed found fault)
read_refused exact nowhere deep inside form text found read.Memory short lexes h = tt
read_refused exact nowhere deep inside form text found (read.Syntax left) short lexes h =
    let e = h (syntax_is left) in
    let there : FoundAt form input.Syntax text (place_of left found) = record { found = found; lexes = lexes; left = left; within = (inside form (deepest form) left found.tokens).0 e; answers = e; place = refl } in
    (short, record { there = there; none = λ m p. nowhere form (deepest form) left found.tokens m e p })
read_refused exact nowhere deep inside form text found (read.TooDeep left) short lexes h =
    let e = h (deep_is left) in
    let raised = deep form (deepest form) left found.tokens e in
    let there : FoundAt form input.TooDeep text (place_of left found) = record { found = found; lexes = lexes; left = left; within = ((inside form (deepest form) left found.tokens).1 e).1; answers = e; place = refl } in
    (short, record { there = there; none = λ m p. (exact form (deepest form) found.tokens).0 (input.TooDeep left) e m p; raised = raised })

-- a fault stands at one of the tokens, or behind them
pub syntax_within : FaultsInside → (form : Form) (found : Listed) (fault : Fault) (left : ℕ) → (fault ≢ read.Memory → read_module form (deepest form) found.tokens ≡ Err (fault_of fault)) → fault ≡ read.Syntax left → left ≤ length found.tokens
syntax_within inside form found fault left h e =
    let k = subst (λ f. f ≢ read.Memory → read_module form (deepest form) found.tokens ≡ Err (fault_of f)) e h in
    (inside form (deepest form) left found.tokens).0 (k (syntax_is left))

pub deep_within : FaultsInside → (form : Form) (found : Listed) (fault : Fault) (left : ℕ) → (fault ≢ read.Memory → read_module form (deepest form) found.tokens ≡ Err (fault_of fault)) → fault ≡ read.TooDeep left → left ≤ length found.tokens
deep_within inside form found fault left h e =
    let k = subst (λ f. f ≢ read.Memory → read_module form (deepest form) found.tokens ≡ Err (fault_of f)) e h in
    ((inside form (deepest form) left found.tokens).1 (k (deep_is left))).1

-- ---- what the lexer answers

pub lex_refused : (form : Form) (text : List ℕ) (fault : LexFault) → length text ≤ longest form → lexing.Refused (chars text) fault → Refused form text (of_lex fault)
lex_refused form text (lex.Lexical at) short h = (short, h.0, h.1)
lex_refused form text lex.Memory short h = tt

pub tokens_count : (ts : List Parser_token) → length (tokens_of ts) ≡ length ts
tokens_count [] = refl
tokens_count (t ∷ ts) = ap (λ n. suc n) (tokens_count ts)

-- a text has no more tokens than bytes
pub few_tokens : (form : Form) (text : List ℕ) (found : Listed) → IsUtf8 text → length text ≤ longest form → Lexes (chars text) found → length found.tokens < 4294967296
few_tokens form text found u short lexes =
    let a = fewer_tokens (chars text) found.tokens lexes.reads in
    let b = fewer_characters (chars text) in
    let c : length (encode_utf8_all (chars text)) ≡ length text = ap length (encodes-chars text u) in
    omega (arith, a, b, c, short, within form)
  where
    within : (form : Form) → longest form ≤ 16777216
    within Source = omega arith
    within Built = omega arith

-- ---- a refused text derives no module

pub derived_utf8 : (form : Form) (text : List ℕ) (m : Module) → Derives form text m → IsUtf8 text
derived_utf8 form text m d = (d.characters, (d.scalars, d.encoded))

-- the tokens of a text that derives a module are those that were read of it
read_alike : (form : Form) (text : List ℕ) (m : Module) (ts : List Token) (d : Derives form text m) → Tokens (chars text) ts → d.tokens ≡ ts
read_alike form text m ts d read =
    one_token_list (chars text) d.tokens ts (subst (λ cs. Tokens cs d.tokens) (one_text d.characters text (derived_utf8 form text m d) d.scalars d.encoded) d.read) read

pub refused_none : (form : Form) (text : List ℕ) (fault : ParseFault) → Refused form text fault → NoneDerived form text fault
refused_none form text parse.TooLong h = λ m d. let short = d.short in omega (arith, h, short)
refused_none form text (parse.Lexical at) h = λ m d.
    h.2 d.tokens (subst (λ cs. Tokens cs d.tokens) (one_text d.characters text (derived_utf8 form text m d) d.scalars d.encoded) d.read)
refused_none form text (parse.Syntax at) h = λ m d.
    h.1.none m (subst (λ ts. Parses form ts m) (read_alike form text m h.1.there.found.tokens d h.1.there.lexes.reads) d.parse)
refused_none form text (parse.TooDeep at) h = λ m d.
    let within : ParsesWithin form (deepest form) d.tokens m = record { parse = d.parse; flat = d.flat } in
    h.1.none m (subst (λ ts. ParsesWithin form (deepest form) ts m) (read_alike form text m h.1.there.found.tokens d h.1.there.lexes.reads) within)
refused_none form text parse.Memory h = tt
