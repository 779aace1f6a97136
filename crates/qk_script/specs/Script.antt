-- What a script is: the lines of its text, and the items that they spell.
use Rattle.std.specs.Prelude.{◌≡◌, ℕ, Bool, true, false, not, ◌&&◌, ◌==◌, List, [], ◌∷◌, ◌++◌, Option, Some, None, length, nat_le, IsTrue, codes}
use Rattle.std.specs.List.{list_all}
use Rattle.qk_ast.specs.Characters.{is_small_letter}
use Rattle.qk_meaning.specs.Value.{Text}
use Rattle.qk_meaning.specs.Run.{Line, Happens, Pauses}

-- a byte in front of the first of these lines
abbrev pub in_front : ℕ → List Text → List Text
in_front c [] = (c ∷ []) ∷ []
in_front c (first ∷ more) = (c ∷ first) ∷ more

-- The lines of a text. Each ends with a line feed; the last one needs none.
abbrev pub lines_of : Text → List Text
lines_of [] = []
lines_of (c ∷ text) = elim (c == 10) [ true ↦ [] ∷ lines_of text | false ↦ in_front c (lines_of text) ]

-- a line without its final carriage return
abbrev pub content : Text → Text
content [] = []
content (c ∷ []) = elim (c == 13) [ true ↦ [] | false ↦ c ∷ [] ]
content (c ∷ d ∷ line) = c ∷ content (d ∷ line)

-- the kind of an event: 1 to 32 small letters
abbrev pub is_kind : Text → Bool
is_kind kind = list_all is_small_letter kind && (nat_le 1 (length kind) && nat_le (length kind) 32)

abbrev pub has_no_space : Text → Bool
has_no_space text = list_all (λ b. not (b == 32)) text

-- the id at which an event happens: 1 to 256 bytes without a space
abbrev pub is_id : Text → Bool
is_id id = has_no_space id && (nat_le 1 (length id) && nat_le (length id) 256)

-- the value of an event, which may be empty
abbrev pub value_spelling : Option Text → Text
value_spelling None = []
value_spelling (Some value) = 32 ∷ value

-- `pause`, `EVENT ID` or `EVENT ID VALUE`
abbrev pub spelling : Line → Text
spelling Pauses = codes "pause"
spelling (Happens e) = e.kind ++ (32 ∷ (e.id ++ value_spelling e.value))

abbrev pub IsItem : Line → Type 0
IsItem Pauses = Unit {0}
IsItem (Happens e) = IsTrue (is_kind e.kind) × IsTrue (is_id e.id)

-- the line is the spelling of the item
abbrev pub Spells : Text → Line → Type 0
Spells line item = IsItem item × (content line ≡ spelling item)

-- a line of a script: it is empty, or spells an item
pub data IsLine (line : Text) : Type 0 where
  empty_line : content line ≡ [] → IsLine line
  item_line : (item : Line) → Spells line item → IsLine line

-- The lines spell these items, in order; an empty line is skipped.
pub data AreItems : List Text → List Line → Type 0 where
  no_lines : AreItems [] []
  skipped : {line : Text} {lines : List Text} {items : List Line} → content line ≡ [] → AreItems lines items → AreItems (line ∷ lines) items
  spelled : {line : Text} {item : Line} {lines : List Text} {items : List Line} → Spells line item → AreItems lines items → AreItems (line ∷ lines) (item ∷ items)

-- the text spells these items
abbrev pub TextSpells : Text → List Line → Type 0
TextSpells text items = AreItems (lines_of text) items

-- A text spells one list of items.
abbrev pub OneScript : Type 0
OneScript = (text : Text) (items others : List Line) → TextSpells text items → TextSpells text others → items ≡ others
