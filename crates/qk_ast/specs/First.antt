-- The first form of a module: the counter and its kin. Its parts are few, and it is written as a module of the whole grammar.
use Rattle.std.specs.Prelude.{◌≡◌, ◌≤◌, ℕ, Bool, true, false, not, ◌&&◌, nat_le, nat_lt, List, [], ◌∷◌, map, length, Option, Some, None, codes, IsTrue}
use Rattle.std.specs.Str.{encode_utf8_all, all_scalars}
use Rattle.qk_ast.specs.declared.Module.{Module}
use Rattle.qk_ast.specs.Characters.{Characters, is_one_of, every, is_small_letter, number_after}
use Rattle.qk_ast.specs.Tokens.{Piece, Written, Blank, written, tokens_of, stands, reserved_words}
use Rattle.qk_ast.specs.Grammar.{Names, Last_name, Last_comma, Next_name, Plain, No_binding, In_brackets, Free, Expression, Number, Named, Markup, Postfix, Function, Dot, Call, No_link, Only, Element, Closed, Open, Attributes, No_attribute, Set_text, Set_value, No_child, Value_child, Block_body, Step_body, Plain_step, Bump, Const, Return_step, Statements, No_statement, Then, Module_text}
use Rattle.qk_ast.specs.Spelling.{module_tokens}
use Rattle.qk_ast.specs.Tree.{module_tree}

-- no text stands twice
abbrev pub is_distinct : List Characters → Bool
is_distinct [] = true
is_distinct (text ∷ texts) = not (is_one_of text texts) && is_distinct texts

-- id="ID", and onClick$={() => NAME.value++} or with `--`
pub data First_attribute : Type 0 where
  Id : Characters → First_attribute
  On_click : Bool → First_attribute

-- What varies in a text of the first form: the imported names, the signal's name and first value where there is a State,
-- the tag, the attributes, and whether the element is `<.. />`, `<..></..>` or shows the signal.
pub data Shape : Type 0 where
  Selfclosing : Shape
  Empty : Shape
  Shown : Shape

pub record First_text : Type 0 where
  pub imported : Names
  pub name : Characters
  pub initial : Option Characters
  pub tag : Characters
  pub attributes : List First_attribute
  pub shape : Shape

-- ---- as a module of the grammar

-- NAME.value
abbrev pub value_of : Characters → Expression
value_of name = Postfix (Named name) (Dot (Free (codes "value"))) No_link

-- f(x)
abbrev pub called : Characters → Expression → Expression
called f x = Postfix (Named f) (Call (Only x)) No_link

abbrev pub attributes_of : Characters → List First_attribute → Attributes
attributes_of name [] = No_attribute
attributes_of name (Id id ∷ more) = Set_text (codes "id") 34 id (attributes_of name more)
attributes_of name (On_click up ∷ more) = Set_value (codes "onClick$") (Function (In_brackets No_binding) (Step_body (Bump (value_of name) up))) (attributes_of name more)

abbrev pub element_of : Shape → Characters → Characters → Attributes → Element
element_of Selfclosing name tag attributes = Closed tag attributes
element_of Empty name tag attributes = Open tag attributes No_child tag
element_of Shown name tag attributes = Open tag attributes (Value_child (value_of name) No_child) tag

abbrev pub block_of : Option Characters → Characters → Statements → Statements
block_of None name rest = rest
block_of (Some digits) name rest = Then (Const (Plain name) (called (codes "useSignal") (Number digits))) rest

abbrev pub module_of : First_text → Module_text
module_of f = record {
  imports = record { names = f.imported; quote = 34; source = map Piece.Plain (codes "@builder.io/qwik") } ∷ [];
  items = record {
    exported = true;
    name = codes "App";
    value = called (codes "component$") (Function (In_brackets No_binding) (Block_body
        (block_of f.initial f.name (Then (Return_step (Plain_step (Markup (element_of f.shape f.name f.tag (attributes_of f.name f.attributes))))) No_statement))));
  } ∷ [];
}

-- ---- its rules

abbrev pub names_of : Names → List Characters
names_of (Last_name a) = a ∷ []
names_of (Last_comma a) = a ∷ []
names_of (Next_name a more) = a ∷ names_of more

abbrev pub qwik_names : List Characters
qwik_names = map codes ("$" ∷ "Slot" ∷ "component$" ∷ "createContextId" ∷ "noSerialize" ∷ "useComputed$" ∷ "useContext" ∷ "useContextProvider" ∷ "useSignal" ∷ "useStore" ∷ "useTask$" ∷ [])

abbrev pub are_qwik_names : List Characters → Bool
are_qwik_names [] = true
are_qwik_names (a ∷ more) = is_one_of a qwik_names && are_qwik_names more

-- 1 to 8 letters a to z
abbrev pub is_short_word : Characters → Bool
is_short_word text = every is_small_letter text && nat_lt 0 (length text) && nat_le (length text) 8

abbrev pub attribute_fits : First_attribute → Bool
attribute_fits (Id id) = is_short_word id
attribute_fits (On_click up) = true

abbrev pub attributes_fit : List First_attribute → Bool
attributes_fit [] = true
attributes_fit (a ∷ more) = attribute_fits a && attributes_fit more

abbrev pub attribute_name : First_attribute → Characters
attribute_name (Id id) = codes "id"
attribute_name (On_click up) = codes "onClick$"

-- with a State the initial value is small and `useSignal` imported; without one nothing speaks of the signal
abbrev pub state_fits : Option Characters → List Characters → List First_attribute → Shape → Bool
state_fits (Some digits) names attributes shape = nat_le (number_after 10 0 digits) 1000000 && is_one_of (codes "useSignal") names
state_fits None names attributes Shown = false
state_fits None names attributes shape = not (is_one_of (codes "onClick$") (map attribute_name attributes))

abbrev pub first_tags : List Characters
first_tags = map codes ("button" ∷ "div" ∷ "p" ∷ [])

pub record Fits (f : First_text) : Type 0 where
  pub qwik : IsTrue (are_qwik_names (names_of f.imported) && is_distinct (names_of f.imported) && is_one_of (codes "component$") (names_of f.imported))
  pub named : IsTrue (is_short_word f.name && not (is_one_of f.name reserved_words) && not (is_one_of f.name (map codes ("console" ∷ "qrl" ∷ []))))
  pub tagged : IsTrue (is_one_of f.tag first_tags)
  pub attributed : IsTrue (attributes_fit f.attributes && is_distinct (map attribute_name f.attributes))
  pub state : IsTrue (state_fits f.initial (names_of f.imported) f.attributes f.shape)

-- no comments
abbrev pub is_only_space : List Blank → Bool
is_only_space [] = true
is_only_space (Blank.Space c ∷ more) = is_only_space more
is_only_space _ = false

abbrev pub has_no_comment : Written → Bool
has_no_comment (Written.End gap) = is_only_space gap
has_no_comment (Written.Then gap token rest) = is_only_space gap && has_no_comment rest

-- The bytes have the first form, and derive that module.
pub record HasFirstForm (bytes : List ℕ) (module' : Module) : Type 0 where
  pub characters : Characters
  pub scalars : IsTrue (all_scalars characters)
  pub encoded : encode_utf8_all characters ≡ bytes
  pub short : length bytes ≤ 65536
  pub writing : Written
  pub spells : written writing [] ≡ characters
  pub stand : stands [] None writing []
  pub plain : IsTrue (has_no_comment writing)
  pub text : First_text
  pub fits : Fits text
  pub read : tokens_of writing ≡ module_tokens (module_of text)
  pub means : module_tree (module_of text) ≡ module'
