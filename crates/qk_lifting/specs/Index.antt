-- The text of the index, and the rules that an index keeps.
use Rattle.std.specs.Prelude.{◌≡◌, Bool, true, false, ◌&&◌, ◌==◌, List, [], ◌∷◌, ◌++◌, flat_map, length, codes, IsTrue}
use Rattle.qk_ast.specs.Texts.{Text, same_text, is_among, decimal}
use Rattle.qk_ast.specs.Framework.{is_symbol}
use Rattle.qk_lifting.specs.Ordering.{comes_before}
use Rattle.qk_lifting.specs.declared.AppIndex.{AppIndex}
use Rattle.qk_lifting.specs.declared.Entry.{Entry}
use Rattle.qk_lifting.specs.declared.SegmentKind.{SegmentKind}
use Rattle.qk_lifting.specs.declared.SegmentKind.TheVariants.{Component, Task, Computed, Fn}

-- ---- the text: compact JSON with sorted keys

abbrev pub kind_word : SegmentKind → Text
kind_word Component = codes "component"
kind_word Task = codes "task"
kind_word Computed = codes "computed"
kind_word Fn = codes "fn"

-- symbols and letters of hooks need no escapes
abbrev pub json_text : Text → Text
json_text t = codes "\"" ++ (t ++ codes "\"")

-- `"SYMBOL":["KIND",CAPTURES,"HOOKS"]`
abbrev pub entry_text : Entry → Text
entry_text e = json_text e.symbol ++ (codes ":[" ++ (json_text (kind_word e.kind) ++ (codes "," ++ (decimal e.captures ++ (codes "," ++ (json_text e.hooks ++ codes "]"))))))

abbrev pub entries_text : List Entry → Text
entries_text [] = []
entries_text (e ∷ rest) = entry_text e ++ flat_map (λ later. codes "," ++ entry_text later) rest

abbrev pub index_text : AppIndex → Text
index_text index = codes "{\"app\":" ++ (json_text index.app ++ (codes ",\"symbols\":{" ++ (entries_text index.symbols ++ codes "},\"version\":1}")))

-- ---- the rules

abbrev pub is_component : SegmentKind → Bool
is_component Component = true
is_component _ = false

abbrev pub is_letter : Text → Bool
is_letter t = is_among t (codes "s" ∷ codes "o" ∷ codes "m" ∷ codes "t" ∷ codes "x" ∷ codes "g" ∷ [])

abbrev pub are_letters : Text → Bool
are_letters [] = true
are_letters (c ∷ rest) = is_letter (c ∷ []) && are_letters rest

abbrev pub none : Text → Bool
none t = length t == 0

-- a component has no captures, and only a component has hooks
abbrev pub keeps_kind : Entry → Bool
keeps_kind e = elim e.kind [ Component ↦ (e.captures == 0) && are_letters e.hooks | _ ↦ none e.hooks ]

abbrev pub is_entry : Entry → Bool
is_entry e = is_symbol e.symbol && keeps_kind e

-- in the order of their bytes, each once
abbrev pub is_before : Entry → List Entry → Bool
is_before e [] = true
is_before e (next ∷ rest) = comes_before e.symbol next.symbol

abbrev pub are_entries : List Entry → Bool
are_entries [] = true
are_entries (e ∷ rest) = is_entry e && is_before e rest && are_entries rest

-- one of the entries is the component `App`
abbrev pub has_component : Text → List Entry → Bool
has_component app [] = false
has_component app (e ∷ rest) = elim (same_text e.symbol app) [ true ↦ is_component e.kind | false ↦ has_component app rest ]

abbrev pub is_index : AppIndex → Bool
is_index index = are_entries index.symbols && has_component index.app index.symbols

-- The bytes are those of this index.
pub record Indexes (bytes : Text) (index : AppIndex) : Type 0 where
  pub keeps : IsTrue (is_index index)
  pub written : index_text index ≡ bytes

-- ---- the entry of a symbol

abbrev pub no_entry : Entry
no_entry = record { symbol = []; kind = Fn; captures = 0; hooks = [] }

abbrev pub entry_in : List Entry → Text → Entry
entry_in [] symbol = no_entry
entry_in (e ∷ rest) symbol = elim (same_text e.symbol symbol) [ true ↦ e | false ↦ entry_in rest symbol ]

abbrev pub has_symbol : List Entry → Text → Bool
has_symbol [] symbol = false
has_symbol (e ∷ rest) symbol = elim (same_text e.symbol symbol) [ true ↦ true | false ↦ has_symbol rest symbol ]
