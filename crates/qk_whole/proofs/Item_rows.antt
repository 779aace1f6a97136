-- Items by the lists of their parts, and tables of their names as they grow.
use Rattle.std.specs.Prelude.{◌≡◌, refl, ℕ, zero, suc, ◌+◌, ◌<◌, Bool, true, false, List, [], ◌∷◌, length, take, Option, Some, None}
use Rattle.std.proofs.Common.{sym, ◌∙◌, ap, subst, arith, add-one}
use Rattle.std.proofs.Math.ListN.{get_or}
use denote.Hole.Carrier.{hidden, roll}
use Rattle.qk_ast.specs.declared.Arrow.{Arrow}
use Rattle.qk_ast.specs.declared.Body.TheOpen.{Link-F}
use Rattle.qk_ast.specs.declared.Body.TheBlock.{shape-the_row-Expr-0, hidden-the_row-Expr-0, hidden-the_row-Expr-2, hidden-the_row-Link-5, shape-the_row-Arrow-6, hidden-the_row-Arrow-6}
use Rattle.qk_ast.specs.declared.Expr.{Expr}
use Rattle.qk_ast.specs.declared.Expr.TheVariants as e
use Rattle.qk_ast.specs.declared.Item.{Item}
use Rattle.qk_ast.specs.declared.Link.{Link, out-Link, roll-Link, roll-out-Link}
use Rattle.qk_ast.specs.Texts.{Text, same_text}
use Rattle.qk_ast.specs.Sources.{Named_module}
use Rattle.qk_meaning.specs.Program.{Holds}
use Rattle.qk_meaning.specs.Roots as roots
use Rattle.qk_meaning.specs.Roots.{literal, place_of, called_item, item_root, first_argument}
use Rattle.qk_node.specs.Nodes.{Link_form}
use Rattle.qk_code.specs.declared.func.Root.{Root}
use Rattle.qk_whole.specs.declared.known.Known.{Known}
use Rattle.qk_whole.specs.Firsts.{earlier, one_named}
use Rattle.qk_whole.specs.Items.{first_item, first_of, first_in, IsCalled, IsRoot, IsNamed}

pub place_itself : (a : Arrow) → place_of (e.Arrow a) ≡ a.place
unfolding shape-the_row-Arrow-6 hidden-the_row-Arrow-6 hidden
place_itself a = refl

-- ---- calls

first_row : (xs : List Expr) → roots.first_of (hidden-the_row-Expr-2 xs) ≡ first_of xs
unfolding hidden-the_row-Expr-2 hidden
first_row [] = refl
first_row (x ∷ rest) = refl

abbrev first_by : Link_form → Expr
first_by (Link-F.Call xs) = first_of xs
first_by _ = Expr.Undefined

first_link : (l : Link_form) (rest : List Link) → first_argument (hidden-the_row-Link-5 (roll-Link l ∷ rest)) ≡ first_by l
unfolding hidden-the_row-Link-5 hidden roll-Link roll
first_link (Link-F.Call xs) rest = first_row xs
first_link _ rest = refl

pub first_links : (links : List Link) → first_argument (hidden-the_row-Link-5 links) ≡ first_in links
unfolding hidden-the_row-Link-5 hidden
first_links [] = refl
first_links (l ∷ rest) = ap (λ k. first_argument (hidden-the_row-Link-5 (k ∷ rest))) (sym (roll-out-Link l)) ∙ first_link (out-Link l) rest

pub item_called : (modules : List Named_module) (file callee : Text) (links : List Link) → item_root modules file (e.Post (e.Name callee) links) ≡ called_item modules file callee (first_in links)
unfolding shape-the_row-Expr-0 hidden-the_row-Expr-0 hidden
item_called modules file callee links = ap (called_item modules file callee) (first_links links)

pub called_root : (known : Known) (callee : Text) (links : List Link) (value : Expr) → value ≡ e.Post (e.Name callee) links → (r : Root) → IsCalled known callee (first_in links) r → IsRoot known value r
called_root known callee links value is (Root.Component symbol) h = (callee, links, is, h)
called_root known callee links value is (Root.Context id) h = (callee, links, is, h)
called_root known callee links value is (Root.Fn f) h = absurd h
called_root known callee links value is (Root.Literal v) h = absurd h

other_post : (modules : List Named_module) (file : Text) (head : Expr) (links : List Link) → ((t : Text) → head ≡ e.Name t → ⊥) → item_root modules file (e.Post head links) ≡ Holds (literal (e.Post head links))
unfolding shape-the_row-Expr-0 hidden-the_row-Expr-0 hidden
other_post modules file (Expr.Name t) links h = absurd (h t refl)
other_post modules file _ links h = refl

pub post_root : (head : Expr) (links : List Link) (value : Expr) → value ≡ e.Post head links → ((t : Text) → head ≡ e.Name t → ⊥) → (modules : List Named_module) (file : Text) → item_root modules file value ≡ Holds (literal value)
post_root head links value is h modules file = subst (λ x. item_root modules file x ≡ Holds (literal x)) (sym is) (other_post modules file head links h)

-- ---- tables

first_suc : (items : List Item) (i : ℕ) (x : Item) (q : Text) → i < length items → x ≡ get_or items i x → first_item (take (suc i) items) q ≡ earlier (first_item (take i items) q) (one_named x.name x q)
first_suc [] i x q l is = absurd (omega (arith, l))
first_suc (y ∷ items) zero x q l is = ap (λ z. one_named z.name z q) (sym is)
first_suc (y ∷ items) (suc i) x q l is = go (same_text y.name q) (first_suc items i x q (omega (arith, l)) is)
  where
    go : (b : Bool) → first_item (take (suc i) items) q ≡ earlier (first_item (take i items) q) (one_named x.name x q)
        → elim b as (λ z. Option Item) [ true ↦ Some y | false ↦ first_item (take (suc i) items) q ] ≡ earlier (elim b as (λ z. Option Item) [ true ↦ Some y | false ↦ first_item (take i items) q ]) (one_named x.name x q)
    go true h = refl
    go false h = h

first_more : (items : List Item) (i : ℕ) (x : Item) (q : Text) → i < length items → x ≡ get_or items i x → first_item (take (i + 1) items) q ≡ earlier (first_item (take i items) q) (one_named x.name x q)
first_more items i x q l is = ap (λ n. first_item (take n items) q) (add-one i) ∙ first_suc items i x q l is

named_both : (known : Known) (x : Item) (r : Root) (q : Text) (old : Option Root) (first : Option Item) → IsRoot known x.init r → IsNamed known old first → IsNamed known (earlier old (one_named x.name r q)) (earlier first (one_named x.name x q))
named_both known x r q (Some s) (Some i) k h = h
named_both known x r q (Some s) None k h = absurd h
named_both known x r q None (Some i) k h = absurd h
named_both known x r q None None k h = go (same_text x.name q)
  where
    go : (b : Bool) → IsNamed known (elim b as (λ z. Option Root) [ true ↦ Some r | false ↦ None ]) (elim b as (λ z. Option Item) [ true ↦ Some x | false ↦ None ])
    go true = k
    go false = tt

pub next_named : (known : Known) (items : List Item) (i : ℕ) (x : Item) (r : Root) (old new : Text → Option Root) → i < length items → x ≡ get_or items i x → IsRoot known x.init r
    → ((q : Text) → new q ≡ earlier (old q) (one_named x.name r q)) → ((q : Text) → IsNamed known (old q) (first_item (take i items) q)) → (q : Text) → IsNamed known (new q) (first_item (take (i + 1) items) q)
next_named known items i x r old new below here is put h q =
    subst (λ o. IsNamed known o (first_item (take (i + 1) items) q)) (sym (put q))
    (subst (IsNamed known (earlier (old q) (one_named x.name r q))) (sym (first_more items i x q below here)) (named_both known x r q (old q) (first_item (take i items) q) is (h q)))
