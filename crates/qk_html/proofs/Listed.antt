-- The texts of what is left of a list: those of its first item and of the others.
use Rattle.std.specs.Prelude.{◌≡◌, refl, ◌+◌, ◌-◌, ◌<◌, ◌≤◌, ℕ, ◌==◌, Bool, false, List, [], ◌∷◌, ◌++◌, length, drop, get_or, slice_get, Option, Some, None}
use Rattle.std.proofs.Common.{◌∙◌, ap, arith}
use Rattle.qk_ast.specs.Texts.{ends_in_dollar}
use Rattle.qk_meaning.specs.Value.{Text, Site}
use Rattle.qk_meaning.specs.Html.{written, attribute_html, attributes_html, node_html, html}
use Rattle.qk_value.specs.declared.value.Value.{Value}
use Rattle.qk_value.specs.View.{seen, seen_fields}
use Rattle.qk_nodes.specs.declared.node.Node.{Node}
use Rattle.qk_nodes.specs.Tree.{node_of, nodes_of}
use Rattle.qk_html.proofs.Walking.{next_left, none_left}

pub next_byte : (one : ℕ → Text) (bytes : Text) (i b : ℕ) → i < length bytes → b ≡ get_or bytes i 0 → written one (drop i bytes) ≡ one b ++ written one (drop (i + 1) bytes)
next_byte one bytes i b lt is = ap (written one) (next_left bytes i b 0 lt is)

module _ (names : Site → List Text) where
  module _ (all : List (Text × Value)) (i : ℕ) where
    pub next_attribute : (x : Text × Value) → i < length all → x ≡ get_or all i x → attributes_html (seen_fields names (drop i all)) ≡ attribute_html x.0 (seen names x.1) ++ attributes_html (seen_fields names (drop (i + 1) all))
    next_attribute x lt is = ap (λ xs. attributes_html (seen_fields names xs)) (next_left all i x x lt is)

    pub no_attribute : length all ≤ i → attributes_html (seen_fields names (drop i all)) ≡ []
    no_attribute h = ap (λ xs. attributes_html (seen_fields names xs)) (none_left all i h)

  module _ (nodes : List Node) (i : ℕ) where
    pub next_node : (n : Node) → i < length nodes → n ≡ get_or nodes i n → html (nodes_of names (drop i nodes)) ≡ node_html (node_of names n) ++ html (nodes_of names (drop (i + 1) nodes))
    next_node n lt is = ap (λ ns. html (nodes_of names ns)) (next_left nodes i n n lt is)

    pub no_node : length nodes ≤ i → html (nodes_of names (drop i nodes)) ≡ []
    no_node h = ap (λ ns. html (nodes_of names ns)) (none_left nodes i h)

-- ---- a name ends in `$` where its last byte is one

abbrev pub is_dollar : Option ℕ → Bool
is_dollar None = false
is_dollar (Some byte) = byte == 36

at_end : (b : ℕ) (rest : Text) → is_dollar (slice_get (b ∷ rest) (length rest)) ≡ ends_in_dollar (b ∷ rest)
at_end b [] = refl
at_end b (c ∷ rest) = at_end c rest

pub last_dollar : (name : Text) → is_dollar (slice_get name (length name - 1)) ≡ ends_in_dollar name
last_dollar [] = refl
last_dollar (b ∷ rest) = let last : length (b ∷ rest) - 1 ≡ length rest = omega arith in
    ap (λ i. is_dollar (slice_get (b ∷ rest) i)) last ∙ at_end b rest
