-- The tree of a module of the first form.
use Rattle.std.specs.Prelude.{◌≡◌, refl, List, [], ◌∷◌, Option, Some, None, IsTrue, pos, ℤ}
use Rattle.std.specs.Str.{encode_utf8_all}
use Rattle.std.specs.Char.{encode_utf8}
use Rattle.std.proofs.Common.{ap, ◌∙◌}
use denote.Hole.Carrier.{hidden, roll}
use Rattle.qk_ast.specs.declared.Tag.{Tag}
use Rattle.qk_ast.specs.declared.Jsx.{Jsx, roll-Jsx}
use Rattle.qk_ast.specs.declared.Body.TheBlock.{shape-the_row-Expr-0, hidden-the_row-Expr-0, shape-the_row-Link-5, hidden-the_row-Link-5, shape-the_row-Arrow-6, hidden-the_row-Arrow-6, shape-the_row-Jsx-7, hidden-the_row-Jsx-7}
use Rattle.qk_ast.specs.Characters.{Characters, is_one_of, number_after}
use Rattle.qk_ast.specs.Grammar.{Names}
use Rattle.qk_ast.specs.Tree.{module_tree, names_tree, tag_tree, element_tree}
use Rattle.qk_ast.specs.JsxText.{decoded}
use Rattle.qk_ast.specs.First.{First_text, First_attribute, Id, On_click, Shape, Selfclosing, Empty, Shown, Fits, module_of, attributes_of, element_of, first_tags}
use Rattle.qk_meaning.specs.Value.{Text}
use Rattle.qk_first.specs.Counter.{is_shown}
use Rattle.qk_first.proofs.Words.{element_at, element, first_module}
use Rattle.qk_first.proofs.Texts.{among, left, word, IsWord, letters_bytes, letters_decoded}
use Rattle.qk_first.proofs.Listings.{Listing, listing, nothing, id_only, click_only, id_click, click_id}

-- a tag is an element's
pub tag_is : (tag : Characters) → IsTrue (is_one_of tag first_tags) → tag_tree tag ≡ Tag.Element tag
unfolding encode_utf8
tag_is tag h = among (λ t. tag_tree t ≡ Tag.Element t) tag first_tags h (refl, (refl, (refl, tt)))

-- the bytes of an id, as the tree has them
abbrev kept : Characters → Text
kept id = encode_utf8_all (decoded id)

kept_is : (id : Characters) → IsWord id → kept id ≡ id
kept_is id w = ap encode_utf8_all (letters_decoded id w.letters) ∙ letters_bytes id w.letters

abbrev keeps : List First_attribute → List First_attribute
keeps [] = []
keeps (Id id ∷ more) = Id (kept id) ∷ keeps more
keeps (On_click up ∷ more) = On_click up ∷ keeps more

keeps_is : {attributes : List First_attribute} → Listing attributes → keeps attributes ≡ attributes
keeps_is nothing = refl
keeps_is (id_only {id = id} w) = ap (λ i. Id i ∷ []) (kept_is id w)
keeps_is (click_only {up = up}) = refl
keeps_is (id_click {id = id} {up = up} w) = ap (λ i. Id i ∷ On_click up ∷ []) (kept_is id w)
keeps_is (click_id {up = up} {id = id} w) = ap (λ i. On_click up ∷ Id i ∷ []) (kept_is id w)

element_is : (shape : Shape) (n tag : Characters) {attributes : List First_attribute} → Listing attributes
    → element_tree 1 (element_of shape n tag (attributes_of n attributes)) ≡ element_at (tag_tree tag) (is_shown shape) (encode_utf8_all n) (keeps attributes)
unfolding shape-the_row-Expr-0 hidden-the_row-Expr-0 shape-the_row-Link-5 hidden-the_row-Link-5 shape-the_row-Arrow-6 hidden-the_row-Arrow-6 shape-the_row-Jsx-7 hidden-the_row-Jsx-7 roll-Jsx hidden roll encode_utf8
element_is Selfclosing n tag nothing = refl
element_is Selfclosing n tag (id_only w) = refl
element_is Selfclosing n tag click_only = refl
element_is Selfclosing n tag (id_click w) = refl
element_is Selfclosing n tag (click_id w) = refl
element_is Empty n tag nothing = refl
element_is Empty n tag (id_only w) = refl
element_is Empty n tag click_only = refl
element_is Empty n tag (id_click w) = refl
element_is Empty n tag (click_id w) = refl
element_is Shown n tag nothing = refl
element_is Shown n tag (id_only w) = refl
element_is Shown n tag click_only = refl
element_is Shown n tag (id_click w) = refl
element_is Shown n tag (click_id w) = refl

abbrev pub signal_of : Option Characters → Option ℤ
signal_of None = None
signal_of (Some digits) = Some (pos (number_after 10 0 digits))

written_module : (imported : Names) (n tag : Characters) (initial : Option Characters) (attributes : List First_attribute) (shape : Shape)
    → module_tree (module_of (record { imported = imported; name = n; initial = initial; tag = tag; attributes = attributes; shape = shape }))
    ≡ first_module (names_tree imported) (encode_utf8_all n) (signal_of initial) (element_tree 1 (element_of shape n tag (attributes_of n attributes)))
unfolding shape-the_row-Expr-0 hidden-the_row-Expr-0 shape-the_row-Link-5 hidden-the_row-Link-5 shape-the_row-Arrow-6 hidden-the_row-Arrow-6 shape-the_row-Jsx-7 hidden-the_row-Jsx-7 roll-Jsx hidden roll encode_utf8
written_module imported n tag None attributes shape = refl
written_module imported n tag (Some digits) attributes shape = refl

pub module_is : (f : First_text) → Fits f → module_tree (module_of f) ≡ first_module (names_tree f.imported) f.name (signal_of f.initial) (element (is_shown f.shape) f.name f.tag f.attributes)
module_is f fits =
    let w = word f.name (left _ _ (left _ _ fits.named)) in
    let l = listing f.attributes fits.attributed in
    written_module f.imported f.name f.tag f.initial f.attributes f.shape
    ∙ ap (λ (j : Jsx). first_module (names_tree f.imported) (encode_utf8_all f.name) (signal_of f.initial) j) (element_is f.shape f.name f.tag l)
    ∙ ap (λ (t : Tag). first_module (names_tree f.imported) (encode_utf8_all f.name) (signal_of f.initial) (element_at t (is_shown f.shape) (encode_utf8_all f.name) (keeps f.attributes))) (tag_is f.tag fits.tagged)
    ∙ ap (λ (n : Text). first_module (names_tree f.imported) n (signal_of f.initial) (element (is_shown f.shape) n f.tag (keeps f.attributes))) (letters_bytes f.name w.letters)
    ∙ ap (λ (a : List First_attribute). first_module (names_tree f.imported) f.name (signal_of f.initial) (element (is_shown f.shape) f.name f.tag a)) (keeps_is l)
