-- The tokens of the printed writing, laid out with spaces, spell the text of the tree.
use Rattle.std.specs.Prelude.{◌≡◌, refl, ℕ, pos, Bool, true, false, not, if◌then◌else◌, List, [], ◌∷◌, ◌++◌, map, codes, flat_map}
use Rattle.std.proofs.Common.{ap, sym, subst}
use Rattle.std.proofs.lemmas.List.{append_assoc, append-nil}
use Rattle.std.specs.Fmt.{signed_decimal}
use Rattle.qk_ast.specs.declared.Tag.TheVariants as t
use Rattle.std.proofs.lemmas.Bool.{false≢true}
use Rattle.qk_ast.specs.declared.Bin.{Bin}
use Rattle.qk_ast.specs.declared.AssignOp.{AssignOp}
use Rattle.qk_ast.specs.declared.AssignOp.TheVariants as assign
use Rattle.qk_ast.specs.declared.Un.{Un}
use Rattle.qk_ast.specs.declared.Un.TheVariants as un
use Rattle.qk_ast.specs.declared.Bin.TheVariants as bin
use Rattle.qk_ast.specs.Characters.{Characters, number_after, begins_with, is_small_letter}
use Rattle.qk_ast.specs.Tokens.{Token}
use Rattle.qk_ast.specs.Tree.{bytes, tree, names_tree, binding_tree, bindings_tree, parameters_tree, tag_tree}
use Rattle.qk_print.specs.Letters.{Text, commas, braced, unless_bare}
use Rattle.qk_print.specs.Shapes.{is_right_side}
use Rattle.qk_print.specs.Printing.{expression_text, pattern_text, named_text, element_text}
use Rattle.qk_print.proofs.Standing_kept.{same_markup}
use Rattle.qk_print.proofs.Lines as lines
use Rattle.qk_print.proofs.Lines.{Line, ◌▹◌, no_field}
use Rattle.qk_print.proofs.Laying.{Lays_as, lays_nothing, lays_then, lays_so, lays_space}
use Rattle.qk_print.proofs.Lettering as x
use Rattle.qk_ast.specs.Grammar.{Names, Last_name, Last_comma, Next_name, Binding, Plain, Fields_of, Bindings, No_binding, Only_binding, Binding_comma, Parameters, Bare, In_brackets, Word, Free, Taken, Expression, Undefined, Null, Truth, Number, Quoted, Named, Whole, Holed, Bracketed, Listed, Recorded, Markup, Log, Keys, Str, Trunc, Postfix, Prefix, Chain, Choice, Function, Arguments, No_argument, Only, Comma, Field, Fields, No_field, Only_field, Field_comma, Attributes, Children, No_child, Text_child, Empty_child, Value_child, Element_child}
use Rattle.qk_print.proofs.Rewriting.{enclosed, as_right_side, is_marked_up, built_names, built_binding, then_bindings, built_bindings, built_parameters, then_arguments, then_fields, value_child, opened, built}
use Rattle.qk_ast.specs.Spelling.{Writing, ◌⨾◌, tokens, names_tokens, binding_tokens, bindings_tokens, parameters_tokens, word_tokens, un_sign, bin_sign, assign_sign, bump_sign, truth_word, scope_tokens, arguments_tokens, field_tokens, fields_tokens, element_tokens, attributes_tokens, children_tokens, comma, curly}

-- each number among the tokens is written as it is printed
abbrev pub Numbers : List Token → Type 0
Numbers [] = Unit {0}
Numbers (Token.Int digits ∷ ts) = (signed_decimal (pos (number_after 10 0 digits)) ≡ bytes digits) × Numbers ts
Numbers (token ∷ ts) = Numbers ts

infixr 55 ◌⊹◌
abbrev pub ◌⊹◌ : {l m : Line} {u v : Writing} {p q : Text} → Lays_as l u p → Lays_as m v q → Lays_as (l ▹ m) (u ⨾ v) (p ++ q)
(h ⊹ k) = lays_then _ _ _ _ h k

-- ---- numbers behind signs

pub un_numbers : (op : Un) (R : List Token) → Numbers (un_sign op R) → Numbers R
un_numbers un.Not R g = g
un_numbers un.Neg R g = g

pub bin_numbers : (op : Bin) (R : List Token) → Numbers (bin_sign op R) → Numbers R
bin_numbers bin.Or R g = g
bin_numbers bin.And R g = g
bin_numbers bin.Coalesce R g = g
bin_numbers bin.Same R g = g
bin_numbers bin.NotSame R g = g
bin_numbers bin.Less R g = g
bin_numbers bin.LessEq R g = g
bin_numbers bin.More R g = g
bin_numbers bin.MoreEq R g = g
bin_numbers bin.Add R g = g
bin_numbers bin.Sub R g = g
bin_numbers bin.Mul R g = g
bin_numbers bin.Rem R g = g

pub assign_numbers : (op : AssignOp) (R : List Token) → Numbers (assign_sign op R) → Numbers R
assign_numbers assign.Set R g = g
assign_numbers assign.Add R g = g
assign_numbers assign.Sub R g = g
assign_numbers assign.Mul R g = g

pub bump_numbers : (up : Bool) (R : List Token) → Numbers (bump_sign up R) → Numbers R
bump_numbers true R g = g
bump_numbers false R g = g

pub truth_numbers : (b : Bool) (R : List Token) → Numbers (truth_word b R) → Numbers R
truth_numbers true R g = g
truth_numbers false R g = g

pub word_numbers : (w : Word) (R : List Token) → Numbers (word_tokens w R) → Numbers R
word_numbers (Free a) R g = g
word_numbers (Taken a) R g = g

pub names_numbers : (ns : Names) (R : List Token) → Numbers (names_tokens ns R) → Numbers R
names_numbers (Last_name a) R g = g
names_numbers (Last_comma a) R g = g
names_numbers (Next_name a more) R g = names_numbers more R g

pub binding_numbers : (d : Binding) (R : List Token) → Numbers (binding_tokens d R) → Numbers R
binding_numbers (Plain a) R g = g
binding_numbers (Fields_of names) R g = names_numbers names (Token.Punct (codes "}") ∷ R) g

pub bindings_numbers : (bs : Bindings) (R : List Token) → Numbers (bindings_tokens bs R) → Numbers R
bindings_numbers No_binding R g = g
bindings_numbers (Only_binding d) R g = binding_numbers d R g
bindings_numbers (Binding_comma d more) R g = bindings_numbers more R (binding_numbers d (comma (bindings_tokens more R)) g)

pub parameters_numbers : (ps : Parameters) (R : List Token) → Numbers (parameters_tokens ps R) → Numbers R
parameters_numbers (Bare a) R g = g
parameters_numbers (In_brackets bs) R g = bindings_numbers bs (Token.Punct (codes ")") ∷ R) g

pub scope_numbers : (more : List Characters) (R : List Token) → Numbers (scope_tokens more R) → Numbers R
scope_numbers [] R g = g
scope_numbers (a ∷ more) R g = scope_numbers more R g

-- ---- brackets

pub lays_enclosed : (c : Bool) (y : Expression) (p : Text) → Lays_as (lines.line y) (tokens y) p → Lays_as (lines.line (enclosed c y)) (tokens (enclosed c y)) (unless_bare c p)
lays_enclosed true y p h = h
lays_enclosed false y p h = x.lays_open ⊹ (h ⊹ x.lays_close)

pub lays_by : (c d : Bool) (y : Expression) (p : Text) → c ≡ d → Lays_as (lines.line y) (tokens y) p → Lays_as (lines.line (enclosed d y)) (tokens (enclosed d y)) (unless_bare c p)
lays_by c d y p e h = lays_so _ _ _ (ap (λ f. unless_bare f p) (sym e)) (lays_enclosed d y p h)

pub right_side_laid : (op : AssignOp) (v : Expression) (n : ℕ) → Lays_as (lines.line (built v)) (tokens (built v)) (expression_text (tree n v)) → Lays_as (lines.line (as_right_side op (built v))) (tokens (as_right_side op (built v))) (unless_bare (is_right_side op (tree n v)) (expression_text (tree n v)))
right_side_laid assign.Set v n h = h
right_side_laid assign.Add v n h = lays_by _ _ (built v) _ (ap not (same_markup v n)) h
right_side_laid assign.Sub v n h = lays_by _ _ (built v) _ (ap not (same_markup v n)) h
right_side_laid assign.Mul v n h = lays_by _ _ (built v) _ (ap not (same_markup v n)) h

-- ---- commas

-- a list of texts is empty exactly where it is told to be
abbrev pub Matched : Bool → List Text → Type 0
Matched true [] = Unit {0}
Matched true (p ∷ ps) = ⊥
Matched false [] = ⊥
Matched false (p ∷ ps) = Unit {0}

pub commas_more : (p q : Text) (qs : List Text) → p ++ (codes ", " ++ commas (q ∷ qs)) ≡ commas (p ∷ q ∷ qs)
commas_more p q qs = ap (λ r. p ++ r) (sym (append_assoc (codes ", ") q _))

pub comma_space : Lays_as lines.comma comma (codes ", ")
comma_space = x.lays_comma ⊹ lays_space

abbrev pub no_argument : Arguments → Bool
no_argument No_argument = true
no_argument (Only y) = false
no_argument (Comma y ys) = false

pub then_arguments_laid : (y : Expression) (ys : Arguments) (p : Text) (ps : List Text) → Matched (no_argument ys) ps → Lays_as (lines.line y) (tokens y) p → Lays_as (lines.arguments_line ys) (arguments_tokens ys) (commas ps) → Lays_as (lines.arguments_line (then_arguments y ys)) (arguments_tokens (then_arguments y ys)) (commas (p ∷ ps))
then_arguments_laid y No_argument p [] m h k = lays_so _ _ _ (sym (append-nil p)) h
then_arguments_laid y No_argument p (q ∷ qs) m h k = absurd m
then_arguments_laid y (Only z) p [] m h k = absurd m
then_arguments_laid y (Only z) p (q ∷ qs) m h k = lays_so _ _ _ (commas_more p q qs) (h ⊹ (comma_space ⊹ k))
then_arguments_laid y (Comma z zs) p [] m h k = absurd m
then_arguments_laid y (Comma z zs) p (q ∷ qs) m h k = lays_so _ _ _ (commas_more p q qs) (h ⊹ (comma_space ⊹ k))

pub some_argument : (y : Expression) (ys : Arguments) → no_argument (then_arguments y ys) ≡ false
some_argument y No_argument = refl
some_argument y (Only z) = refl
some_argument y (Comma z zs) = refl

pub then_fields_laid : (f : Field) (fs : Fields) (p : Text) (ps : List Text) → Matched (no_field fs) ps → Lays_as (lines.field_line f) (field_tokens f) p → Lays_as (lines.fields_line fs) (fields_tokens fs) (commas ps) → Lays_as (lines.fields_line (then_fields f fs)) (fields_tokens (then_fields f fs)) (commas (p ∷ ps))
then_fields_laid f No_field p [] m h k = lays_so _ _ _ (sym (append-nil p)) h
then_fields_laid f No_field p (q ∷ qs) m h k = absurd m
then_fields_laid f (Only_field z) p [] m h k = absurd m
then_fields_laid f (Only_field z) p (q ∷ qs) m h k = lays_so _ _ _ (commas_more p q qs) (h ⊹ (comma_space ⊹ k))
then_fields_laid f (Field_comma z zs) p [] m h k = absurd m
then_fields_laid f (Field_comma z zs) p (q ∷ qs) m h k = lays_so _ _ _ (commas_more p q qs) (h ⊹ (comma_space ⊹ k))

pub some_field : (f : Field) (fs : Fields) → no_field (then_fields f fs) ≡ false
some_field f No_field = refl
some_field f (Only_field g) = refl
some_field f (Field_comma g gs) = refl

pub lays_braced : {l : Line} (c : Bool) (w : Writing) (ps : List Text) → Matched c ps → Lays_as l w (commas ps) → Lays_as (lines.braced c l) (curly w) (braced ps)
lays_braced true w [] m h = x.lays_brace ⊹ (lays_space ⊹ (h ⊹ x.lays_end_brace))
lays_braced true w (p ∷ ps) m h = absurd m
lays_braced false w [] m h = absurd m
lays_braced false w (p ∷ ps) m h = (x.lays_brace ⊹ lays_space) ⊹ (h ⊹ (lays_space ⊹ x.lays_end_brace))

-- ---- names and patterns

pub some_names : (ns : Names) → Matched false (names_tree ns)
some_names (Last_name c) = tt
some_names (Last_comma c) = tt
some_names (Next_name c cs) = tt

pub names_laid : (ns : Names) → Lays_as (lines.names_line (built_names ns)) (names_tokens (built_names ns)) (commas (names_tree ns))
names_laid (Last_name a) = lays_so _ _ _ (sym (append-nil (bytes a))) (x.lays_name a)
names_laid (Last_comma a) = lays_so _ _ _ (sym (append-nil (bytes a))) (x.lays_name a)
names_laid (Next_name a more) = more_names (names_tree more) (some_names more) (names_laid more)
  where
    more_names : (ps : List Text) → Matched false ps → Lays_as (lines.names_line (built_names more)) (names_tokens (built_names more)) (commas ps) → Lays_as (lines.names_line (Next_name a (built_names more))) (names_tokens (Next_name a (built_names more))) (commas (bytes a ∷ ps))
    more_names [] m k = absurd m
    more_names (q ∷ qs) m k = lays_so _ _ _ (commas_more (bytes a) q qs) (x.lays_name a ⊹ (comma_space ⊹ k))

pub binding_laid : (d : Binding) → Lays_as (lines.binding_line (built_binding d)) (binding_tokens (built_binding d)) (pattern_text (binding_tree d))
binding_laid (Plain a) = x.lays_name a
binding_laid (Fields_of names) = lays_braced false _ (names_tree names) (some_names names) (names_laid names)

abbrev pub no_binding : Bindings → Bool
no_binding No_binding = true
no_binding (Only_binding g) = false
no_binding (Binding_comma g gs) = false

pub then_bindings_laid : (d : Binding) (ds : Bindings) (p : Text) (ps : List Text) → Matched (no_binding ds) ps → Lays_as (lines.binding_line d) (binding_tokens d) p → Lays_as (lines.bindings_line ds) (bindings_tokens ds) (commas ps) → Lays_as (lines.bindings_line (then_bindings d ds)) (bindings_tokens (then_bindings d ds)) (commas (p ∷ ps))
then_bindings_laid d No_binding p [] m h k = lays_so _ _ _ (sym (append-nil p)) h
then_bindings_laid d No_binding p (q ∷ qs) m h k = absurd m
then_bindings_laid d (Only_binding z) p [] m h k = absurd m
then_bindings_laid d (Only_binding z) p (q ∷ qs) m h k = lays_so _ _ _ (commas_more p q qs) (h ⊹ (comma_space ⊹ k))
then_bindings_laid d (Binding_comma z zs) p [] m h k = absurd m
then_bindings_laid d (Binding_comma z zs) p (q ∷ qs) m h k = lays_so _ _ _ (commas_more p q qs) (h ⊹ (comma_space ⊹ k))

pub some_binding : (d : Binding) (ds : Bindings) → no_binding (then_bindings d ds) ≡ false
some_binding d No_binding = refl
some_binding d (Only_binding g) = refl
some_binding d (Binding_comma g gs) = refl

pub bindings_matched : (bs : Bindings) → Matched (no_binding (built_bindings bs)) (map pattern_text (bindings_tree bs))
bindings_matched No_binding = tt
bindings_matched (Only_binding d) = tt
bindings_matched (Binding_comma d more) = subst (λ c. Matched c (pattern_text (binding_tree d) ∷ map pattern_text (bindings_tree more))) (sym (some_binding (built_binding d) (built_bindings more))) tt

pub bindings_laid : (bs : Bindings) → Lays_as (lines.bindings_line (built_bindings bs)) (bindings_tokens (built_bindings bs)) (commas (map pattern_text (bindings_tree bs)))
bindings_laid No_binding = lays_nothing
bindings_laid (Only_binding d) = lays_so _ _ _ (sym (append-nil _)) (binding_laid d)
bindings_laid (Binding_comma d more) = then_bindings_laid (built_binding d) (built_bindings more) _ _ (bindings_matched more) (binding_laid d) (bindings_laid more)

pub parameters_laid : (ps : Parameters) → Lays_as (lines.parameters_line (built_parameters ps)) (parameters_tokens (built_parameters ps)) (codes "(" ++ (commas (map pattern_text (parameters_tree ps)) ++ codes ")"))
parameters_laid (Bare a) = x.lays_open ⊹ (lays_so _ _ _ (sym (append-nil (bytes a))) (x.lays_name a) ⊹ x.lays_close)
parameters_laid (In_brackets bs) = x.lays_open ⊹ (bindings_laid bs ⊹ x.lays_close)

-- ---- JSX

pub lays_child : (y : Expression) (cs : Children) (p q : Text) (c : Bool) → c ≡ is_marked_up y → Lays_as (lines.line y) (tokens y) p → Lays_as (lines.children_line cs) (children_tokens cs) q
    → Lays_as (lines.children_line (value_child y cs)) (children_tokens (value_child y cs)) ((elim c [ true ↦ p | false ↦ codes "{" ++ (p ++ codes "}") ]) ++ q)
lays_child Undefined cs p q true e h k = absurd (false≢true (sym e))
lays_child Undefined cs p q false e h k = (x.lays_brace ⊹ (h ⊹ x.lays_end_brace)) ⊹ k
lays_child Null cs p q true e h k = absurd (false≢true (sym e))
lays_child Null cs p q false e h k = (x.lays_brace ⊹ (h ⊹ x.lays_end_brace)) ⊹ k
lays_child (Truth a) cs p q true e h k = absurd (false≢true (sym e))
lays_child (Truth a) cs p q false e h k = (x.lays_brace ⊹ (h ⊹ x.lays_end_brace)) ⊹ k
lays_child (Number a) cs p q true e h k = absurd (false≢true (sym e))
lays_child (Number a) cs p q false e h k = (x.lays_brace ⊹ (h ⊹ x.lays_end_brace)) ⊹ k
lays_child (Quoted a b') cs p q true e h k = absurd (false≢true (sym e))
lays_child (Quoted a b') cs p q false e h k = (x.lays_brace ⊹ (h ⊹ x.lays_end_brace)) ⊹ k
lays_child (Named a) cs p q true e h k = absurd (false≢true (sym e))
lays_child (Named a) cs p q false e h k = (x.lays_brace ⊹ (h ⊹ x.lays_end_brace)) ⊹ k
lays_child (Whole a) cs p q true e h k = absurd (false≢true (sym e))
lays_child (Whole a) cs p q false e h k = (x.lays_brace ⊹ (h ⊹ x.lays_end_brace)) ⊹ k
lays_child (Holed a b' c') cs p q true e h k = absurd (false≢true (sym e))
lays_child (Holed a b' c') cs p q false e h k = (x.lays_brace ⊹ (h ⊹ x.lays_end_brace)) ⊹ k
lays_child (Bracketed a) cs p q true e h k = absurd (false≢true (sym e))
lays_child (Bracketed a) cs p q false e h k = (x.lays_brace ⊹ (h ⊹ x.lays_end_brace)) ⊹ k
lays_child (Listed a) cs p q true e h k = absurd (false≢true (sym e))
lays_child (Listed a) cs p q false e h k = (x.lays_brace ⊹ (h ⊹ x.lays_end_brace)) ⊹ k
lays_child (Recorded a) cs p q true e h k = absurd (false≢true (sym e))
lays_child (Recorded a) cs p q false e h k = (x.lays_brace ⊹ (h ⊹ x.lays_end_brace)) ⊹ k
lays_child (Markup a) cs p q true e h k = h ⊹ k
lays_child (Markup a) cs p q false e h k = absurd (false≢true e)
lays_child (Log a) cs p q true e h k = absurd (false≢true (sym e))
lays_child (Log a) cs p q false e h k = (x.lays_brace ⊹ (h ⊹ x.lays_end_brace)) ⊹ k
lays_child (Keys a) cs p q true e h k = absurd (false≢true (sym e))
lays_child (Keys a) cs p q false e h k = (x.lays_brace ⊹ (h ⊹ x.lays_end_brace)) ⊹ k
lays_child (Str a) cs p q true e h k = absurd (false≢true (sym e))
lays_child (Str a) cs p q false e h k = (x.lays_brace ⊹ (h ⊹ x.lays_end_brace)) ⊹ k
lays_child (Trunc a b') cs p q true e h k = absurd (false≢true (sym e))
lays_child (Trunc a b') cs p q false e h k = (x.lays_brace ⊹ (h ⊹ x.lays_end_brace)) ⊹ k
lays_child (Postfix a b' c') cs p q true e h k = absurd (false≢true (sym e))
lays_child (Postfix a b' c') cs p q false e h k = (x.lays_brace ⊹ (h ⊹ x.lays_end_brace)) ⊹ k
lays_child (Prefix a b') cs p q true e h k = absurd (false≢true (sym e))
lays_child (Prefix a b') cs p q false e h k = (x.lays_brace ⊹ (h ⊹ x.lays_end_brace)) ⊹ k
lays_child (Chain a b' c' d') cs p q true e h k = absurd (false≢true (sym e))
lays_child (Chain a b' c' d') cs p q false e h k = (x.lays_brace ⊹ (h ⊹ x.lays_end_brace)) ⊹ k
lays_child (Choice a b' c') cs p q true e h k = absurd (false≢true (sym e))
lays_child (Choice a b' c') cs p q false e h k = (x.lays_brace ⊹ (h ⊹ x.lays_end_brace)) ⊹ k
lays_child (Function a b') cs p q true e h k = absurd (false≢true (sym e))
lays_child (Function a b') cs p q false e h k = (x.lays_brace ⊹ (h ⊹ x.lays_end_brace)) ⊹ k

abbrev pub no_child : Children → Bool
no_child No_child = true
no_child (Text_child t cs) = false
no_child (Empty_child cs) = false
no_child (Value_child y cs) = false
no_child (Element_child y cs) = false

pub lays_opened : (tag : Characters) (as' : Attributes) (cs : Children) (ps qs : List Text) → Matched (no_child cs) qs → Lays_as (lines.attributes_line as') (attributes_tokens as') (flat_map (λ a. a) ps) → Lays_as (lines.children_line cs) (children_tokens cs) (flat_map (λ c. c) qs)
    → Lays_as (lines.element_line (opened tag as' cs)) (element_tokens (opened tag as' cs)) (named_text (bytes tag) ps qs)
lays_opened tag as' No_child ps [] m h k = x.lays_tag ⊹ (x.lays_name tag ⊹ (h ⊹ x.lays_tag_closed))
lays_opened tag as' No_child ps (q ∷ qs) m h k = absurd m
lays_opened tag as' (Text_child t cs) ps [] m h k = absurd m
lays_opened tag as' (Text_child t cs) ps (q ∷ qs) m h k = x.lays_tag ⊹ (x.lays_name tag ⊹ (h ⊹ (x.lays_tag_end ⊹ (k ⊹ (x.lays_tag_closing ⊹ (x.lays_name tag ⊹ x.lays_tag_end))))))
lays_opened tag as' (Empty_child cs) ps [] m h k = absurd m
lays_opened tag as' (Empty_child cs) ps (q ∷ qs) m h k = x.lays_tag ⊹ (x.lays_name tag ⊹ (h ⊹ (x.lays_tag_end ⊹ (k ⊹ (x.lays_tag_closing ⊹ (x.lays_name tag ⊹ x.lays_tag_end))))))
lays_opened tag as' (Value_child t cs) ps [] m h k = absurd m
lays_opened tag as' (Value_child t cs) ps (q ∷ qs) m h k = x.lays_tag ⊹ (x.lays_name tag ⊹ (h ⊹ (x.lays_tag_end ⊹ (k ⊹ (x.lays_tag_closing ⊹ (x.lays_name tag ⊹ x.lays_tag_end))))))
lays_opened tag as' (Element_child t cs) ps [] m h k = absurd m
lays_opened tag as' (Element_child t cs) ps (q ∷ qs) m h k = x.lays_tag ⊹ (x.lays_name tag ⊹ (h ⊹ (x.lays_tag_end ⊹ (k ⊹ (x.lays_tag_closing ⊹ (x.lays_name tag ⊹ x.lays_tag_end))))))

pub tag_is : (tag : Characters) (ps qs : List Text) → named_text (bytes tag) ps qs ≡ element_text (tag_tree tag) ps qs
tag_is tag ps qs = choose (begins_with is_small_letter tag)
  where
    choose : (c : Bool) → named_text (bytes tag) ps qs ≡ element_text (if c then t.Element (bytes tag) else t.Component (bytes tag)) ps qs
    choose true = refl
    choose false = refl
