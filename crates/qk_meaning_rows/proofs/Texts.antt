-- Texts that are joined, filled, measured and searched.
use Rattle.std.specs.Prelude.{◌≡◌, refl, pos, true, false, [], ◌∷◌, codes}
use Rattle.qk_ast.specs.declared.Expr.{Expr}
use Rattle.qk_ast.specs.declared.Bin.{Bin}
use Rattle.qk_meaning.specs.Value.{Truth, Int, Words}
use Rattle.qk_meaning.specs.Fault.{NoProperty, NotText}
use Rattle.qk_meaning_rows.specs.Trees.{int, text, list_of, template, chain, post, dot, index, call}
use Rattle.qk_meaning_rows.proofs.Calls.{pure, is, fails}

-- `1 + 2 + "a"`
sum_before_a_text : pure (chain (int 1) ((Bin.Add, int 2) ∷ (Bin.Add, text "a") ∷ [])) ≡ is (Words (codes "3a"))
sum_before_a_text = refl

-- `"a" + 1 + 2`
sum_behind_a_text : pure (chain (text "a") ((Bin.Add, int 1) ∷ (Bin.Add, int 2) ∷ [])) ≡ is (Words (codes "a12"))
sum_behind_a_text = refl

-- `"😀".length`: two code units
length_in_code_units : pure (post (Expr.Text (240 ∷ 159 ∷ 152 ∷ 128 ∷ [])) (dot "length" ∷ [])) ≡ is (Int (pos 2))
length_in_code_units = refl

-- `` `a${null}b${true}` ``
filled_template : pure (template ("a" ∷ "b" ∷ "" ∷ []) (Expr.Null ∷ Expr.Bool true ∷ [])) ≡ is (Words (codes "anullbtrue"))
filled_template = refl

-- `` `${[]}${5 % 0}` ``: a hole is made a text before the next one is evaluated
first_hole_first : pure (template ("" ∷ "" ∷ "" ∷ []) (list_of [] ∷ chain (int 5) ((Bin.Rem, int 0) ∷ []) ∷ [])) ≡ fails NotText
first_hole_first = refl

-- `"abc".includes("bc")`
includes_a_piece : pure (post (text "abc") (dot "includes" ∷ call (text "bc" ∷ []) ∷ [])) ≡ is (Truth true)
includes_a_piece = refl

-- `"abc".startsWith("b")`
starts_with_another : pure (post (text "abc") (dot "startsWith" ∷ call (text "b" ∷ []) ∷ [])) ≡ is (Truth false)
starts_with_another = refl

-- `"abc"[0]`
text_without_indexes : pure (post (text "abc") (index (int 0) ∷ [])) ≡ fails NoProperty
text_without_indexes = refl
