-- The token at the front of a text.
use Rattle.std.specs.Prelude.{◌≡◌, ℕ, ◌+◌, ◌-◌, ◌*◌, min, Bool, true, false, not, ◌&&◌, ◌||◌, if◌then◌else◌, ◌==◌, nat_lt, [], ◌∷◌, length, drop, chars, codes, Option, Some, None}
use Rattle.qk_ast.specs.Characters.{Characters, same, is_one_of, begins_with, is_digit, continues_name, after_run}
use Rattle.qk_ast.specs.Tokens as tokens
use Rattle.qk_ast.specs.Tokens.{Token, Around, Edge, Backquote, Hole, spelling, after, allows_jsx, reserved_words, continues_attribute}
use Rattle.qk_lex.specs.declared.Kind.{Kind}
use Rattle.qk_lex.specs.declared.Kind.TheVariants as kind
use Rattle.qk_lex.specs.declared.regions.Region.TheVariants as region
use Rattle.qk_lex.specs.declared.regions.Change.{Change}
use Rattle.qk_lex.specs.declared.regions.Change.TheVariants as change
use Rattle.qk_lex.specs.declared.step.Found.{Found}
use Rattle.qk_lex.specs.declared.tables.Signs.{Signs}
use Rattle.qk_lex.specs.declared.tables.Signs.TheVariants as signs
use Rattle.qk_lex.specs.Scan.{after_char}
use Rattle.qk_lex.specs.Quotes.{Closes, Ends}
use Rattle.qk_lex.specs.Tables.{sign_at}
use Rattle.qk_lex.specs.Regions.{changed}

-- a token's kind, whether it begins JSX or is the text of an attribute, what follows it, what it does to the regions, and whether a `<` of code after it begins JSX
pub record Next : Type 0 where
  pub kind : Kind
  pub jsx : Bool
  pub rest : Characters
  pub change : Change
  pub opens : Bool

abbrev pub next_of : Found → Next
next_of f = record { kind = f.kind; jsx = f.jsx; rest = chars f.rest.now; change = f.change; opens = f.before_jsx }

abbrev pub plain : Kind → Characters → Next
plain k rest = record { kind = k; jsx = false; rest = rest; change = change.Stay; opens = false }

-- ---- code

unfoldable pub word_next : Characters → Characters → Next
word_next word rest =
    if is_one_of word reserved_words then record { kind = kind.Reserved; jsx = false; rest = rest; change = change.Stay; opens = same word (codes "return") } else plain kind.Name rest

-- the greatest integer that an Int may write
abbrev pub greatest : ℕ
greatest = 9007199254740991

-- the number that the digits at the front write, after a number that stands before them; past the greatest it stays past it
abbrev pub number_at : ℕ → Characters → ℕ
number_at n [] = n
number_at n (c ∷ cs) = if is_digit c then number_at (min n 9007199254740992 * 10 + (c - 48)) cs else n

abbrev pub int_end : Characters → Characters → Option Next
int_end text rest = if begins_with continues_name rest || nat_lt greatest (number_at 0 text) then None else Some (plain kind.Int rest)

abbrev pub int_next : ℕ → Characters → Characters → Option Next
int_next first text more = if (first == 48) && begins_with is_digit more then None else int_end text (after_run is_digit more)

abbrev pub QuotedNext : ℕ → Characters → Option Next → Type 0
QuotedNext quote text None = Closes quote text None
QuotedNext quote text (Some next) = Closes quote text (Some next.rest) × (next ≡ plain kind.Text next.rest)

abbrev pub part_change : Edge → Edge → Change
part_change Backquote Hole = change.Enter region.Hole
part_change Hole Backquote = change.Leave
part_change from to = change.Stay

abbrev pub PartNext : Edge → Characters → Option Next → Type 0
PartNext from text None = Ends text None
PartNext from text (Some next) = (to : Edge) × Ends text (Some (to, next.rest)) × (next ≡ record { kind = kind.TemplatePart; jsx = false; rest = next.rest; change = part_change from to; opens = false })

abbrev pub begin_by : Characters → Option Characters → Next
begin_by more None = record { kind = kind.Punct; jsx = true; rest = more; change = change.Enter region.Tag; opens = false }
begin_by more (Some rest) = record { kind = kind.Punct; jsx = true; rest = rest; change = change.Enter region.Children; opens = false }

-- after the `<`
abbrev pub begin_next : Characters → Next
begin_next more = begin_by more (after_char 62 more)

abbrev pub opens_comment : Characters → Bool
opens_comment rest = begins_with (λ c. c == 47) rest || begins_with (λ c. c == 42) rest

abbrev pub code_change : Characters → Change
code_change sign = if same sign (codes "{") then change.Enter region.Braces else (if same sign (codes "}") then change.Leave else change.Stay)

abbrev pub sign_next : Characters → Characters → Change → Next
sign_next sign rest change = record { kind = kind.Punct; jsx = false; rest = rest; change = change; opens = allows_jsx (Some (tokens.Punct sign)) }

-- a sign of a table that the text begins with, and what follows it
abbrev pub sign_or_none : Characters → Characters → Option (Characters × Characters)
sign_or_none sign text = if length sign == 0 then None else Some (sign, drop (length sign) text)

unfoldable pub sign_of : Signs → Characters → Option (Characters × Characters)
sign_of table text = sign_or_none (sign_at table text) text

abbrev pub code_by : Option (Characters × Characters) → Option Next
code_by None = None
code_by (Some found) = if same found.0 (codes "/") && opens_comment found.1 then None else Some (sign_next found.0 found.1 (code_change found.0))

abbrev pub code_sign_next : Characters → Option Next
code_sign_next text = code_by (sign_of signs.Code text)

-- ---- tags, and the text between them

abbrev pub this_or_rest : Characters → Option Characters → Characters
this_or_rest rest None = rest
this_or_rest rest (Some more) = more

-- what follows the name of a tag or attribute, after its first letter
abbrev pub after_tag_name : Characters → Characters
after_tag_name text = this_or_rest (after_run continues_attribute text) (after_char 36 (after_run continues_attribute text))

abbrev pub attribute_or_none : Option Characters → Option Next
attribute_or_none None = None
attribute_or_none (Some rest) = Some (record { kind = kind.Text; jsx = true; rest = rest; change = change.Stay; opens = false })

abbrev pub attribute_next : ℕ → Characters → Option Next
attribute_next quote text = attribute_or_none (after_char quote (after_run (λ c. not (c == quote)) text))

abbrev pub tag_change : Characters → Change
tag_change sign = if same sign (codes "{") then change.Enter region.Braces else (if same sign (codes ">") then change.Turn region.Children
    else (if same sign (codes "/>") then change.Leave else change.Stay))

abbrev pub tag_by : Option (Characters × Characters) → Option Next
tag_by None = None
tag_by (Some found) = Some (sign_next found.0 found.1 (tag_change found.0))

abbrev pub tag_sign_next : Characters → Option Next
tag_sign_next text = tag_by (sign_of signs.Tag text)

abbrev pub child_change : Characters → Change
child_change sign = if same sign (codes "{") then change.Enter region.Braces else (if same sign (codes "</") then change.Turn region.End else change.Leave)

abbrev pub child_by : Option Next → Option (Characters × Characters) → Option Next
child_by other None = other
child_by other (Some found) = Some (sign_next found.0 found.1 (child_change found.0))

abbrev pub child_sign_next : ℕ → Characters → Characters → Option Next
child_sign_next first more text = child_by (if first == 60 then Some (begin_next more) else None) (sign_of signs.Child text)

-- ---- what it must be

abbrev pub kind_of : Token → Kind
kind_of (tokens.Name word) = kind.Name
kind_of (tokens.Reserved word) = kind.Reserved
kind_of (tokens.Int digits) = kind.Int
kind_of (tokens.Text quote pieces) = kind.Text
kind_of (tokens.Attribute quote inside) = kind.Text
kind_of (tokens.Template from pieces to) = kind.TemplatePart
kind_of (tokens.Punct sign) = kind.Punct
kind_of (tokens.Begin sign) = kind.Punct
kind_of (tokens.JsxText text) = kind.JsxText

-- The tokens that another token of their kind may be spelled like: what begins JSX, and the text of an attribute.
abbrev pub is_jsx : Token → Bool
is_jsx (tokens.Attribute quote inside) = true
is_jsx (tokens.Begin sign) = true
is_jsx _ = false

-- A token begins the text, and what is said of it holds. What may stand there is a predicate; around says what surrounds it.
pub record Begins (may : Option Token → Token → Characters → Type 0) (around : Around) (opens : Bool) (text : Characters) (next : Next) : Type 0 where
  pub token : Token
  pub spells : spelling token next.rest ≡ text
  pub stands : (before : Option Token) → allows_jsx before ≡ opens → may before token next.rest
  pub has_kind : kind_of token ≡ next.kind
  pub has_jsx : is_jsx token ≡ next.jsx
  pub leads : after around token ≡ changed next.change around
  pub opens_next : allows_jsx (Some token) ≡ next.opens

-- a token that may stand there begins the text; None where none does
abbrev pub Steps : (Option Token → Token → Characters → Type 0) → Around → Bool → Characters → Option Next → Type 0
Steps may around opens text (Some next) = Begins may around opens text next
Steps may around opens text None = (before : Option Token) → allows_jsx before ≡ opens → (t : Token) (rest : Characters) → may before t rest → spelling t rest ≡ text → ⊥

-- the same in each piece of code, in a template's hole or not
abbrev pub CodeSteps : Bool → Bool → Characters → Option Next → Type 0
CodeSteps hole opens text next = (around : Around) → tokens.is_code around ≡ true → tokens.in_hole around ≡ hole → Steps (tokens.is_code_token around) around opens text next
