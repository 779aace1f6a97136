-- Lists and records: cut, joined, their keys listed, compared.
use Rattle.std.specs.Prelude.{◌≡◌, refl, ℕ, zero, suc, pos, false, [], ◌∷◌, codes}
use Rattle.qk_ast.specs.declared.Expr.{Expr}
use Rattle.qk_ast.specs.declared.Bin.{Bin}
use Rattle.qk_ast.specs.declared.Un.{Un}
use Rattle.qk_ast.specs.declared.Known.{Known}
use Rattle.qk_meaning.specs.Value.{Value, Undefined, Truth, Int, Words, Items, none, item}
use Rattle.qk_meaning.specs.Fault.{Identity, TreeTooDeep, NotText}
use Rattle.qk_meaning.specs.Doing.{Stops, Ends}
use Rattle.qk_meaning_rows.specs.Trees.{int, name, text, list_of, record_of, unary, chain, post, dot, index, call, known, gives, plain, arrow, const, do_it, give_back}
use Rattle.qk_meaning_rows.proofs.Calls.{pure, pure_at, effect_block, is, fails}

-- `[1, 2, 3].slice(-2).join("-")`: a negative place is counted from the end
last_two_joined : pure (post (list_of (int 1 ∷ int 2 ∷ int 3 ∷ [])) (dot "slice" ∷ call (unary Un.Neg (int 2) ∷ []) ∷ dot "join" ∷ call (text "-" ∷ []) ∷ [])) ≡ is (Words (codes "2-3"))
last_two_joined = refl

-- `[1, 2].slice(5, -9).length`: both places are cut to the length
cut_to_the_length : pure (post (list_of (int 1 ∷ int 2 ∷ [])) (dot "slice" ∷ call (int 5 ∷ unary Un.Neg (int 9) ∷ []) ∷ dot "length" ∷ [])) ≡ is (Int (pos 0))
cut_to_the_length = refl

-- `[1, null, undefined, "a"].join(",")`
nothing_joined_as_empty : pure (post (list_of (int 1 ∷ Expr.Null ∷ Expr.Undefined ∷ text "a" ∷ [])) (dot "join" ∷ call (text "," ∷ []) ∷ [])) ≡ is (Words (codes "1,,,a"))
nothing_joined_as_empty = refl

-- `[[]].join(",")`
list_joined : pure (post (list_of (list_of [] ∷ [])) (dot "join" ∷ call (text "," ∷ []) ∷ [])) ≡ fails NotText
list_joined = refl

-- `Object.keys({ b: 1, "10": 2, "2": 3 }).join(",")`: array indexes come first, ascending
keys_in_listing_order : pure (post (known Known.Keys (record_of (("b", int 1) ∷ ("10", int 2) ∷ ("2", int 3) ∷ []) ∷ [])) (dot "join" ∷ call (text "," ∷ []) ∷ [])) ≡ is (Words (codes "2,10,b"))
keys_in_listing_order = refl

-- `[1, 2][2]`
past_the_end : pure (post (list_of (int 1 ∷ int 2 ∷ [])) (index (int 2) ∷ [])) ≡ is Undefined
past_the_end = refl

-- `[1, 2]["map"]((x) => x)`: a method is known by its key
method_by_its_key : pure (post (list_of (int 1 ∷ int 2 ∷ [])) (index (text "map") ∷ call (arrow 1 (plain "x" ∷ []) (gives (name "x")) ∷ []) ∷ [])) ≡ is (Items (item (Int (pos 1)) (item (Int (pos 2)) none)))
method_by_its_key = refl

-- `[1] === [1]`
two_lists_compared : pure (chain (list_of (int 1 ∷ [])) ((Bin.Same, list_of (int 1 ∷ [])) ∷ [])) ≡ fails Identity
two_lists_compared = refl

-- `[1] === 1`
list_and_integer_compared : pure (chain (list_of (int 1 ∷ [])) ((Bin.Same, int 1) ∷ [])) ≡ is (Truth false)
list_and_integer_compared = refl

-- `[1, 2].map((x) => x)` takes three turns and two levels, the arrow's own among them
abbrev two_mapped : Expr
two_mapped = post (list_of (int 1 ∷ int 2 ∷ [])) (dot "map" ∷ call (arrow 1 (plain "x" ∷ []) (gives (name "x")) ∷ []) ∷ [])

mapped_with_three_turns : pure_at (record { turns = 3; levels = 2 }) two_mapped ≡ is (Items (item (Int (pos 1)) (item (Int (pos 2)) none)))
mapped_with_three_turns = refl

mapped_with_two_turns : pure_at (record { turns = 2; levels = 2 }) two_mapped ≡ Stops Ends []
mapped_with_two_turns = refl

mapped_with_one_level : pure_at (record { turns = 3; levels = 1 }) two_mapped ≡ Stops Ends []
mapped_with_one_level = refl

-- `const a = [1, 2, 3]; const b = a.splice(-2, 9); return a.join("-") + "|" + b.join("-");`: what is cut out ends with the array
cut_out_to_the_end : effect_block (
    const (plain "a") (list_of (int 1 ∷ int 2 ∷ int 3 ∷ [])) ∷
    const (plain "b") (post (name "a") (dot "splice" ∷ call (unary Un.Neg (int 2) ∷ int 9 ∷ []) ∷ [])) ∷
    give_back (chain (post (name "a") (dot "join" ∷ call (text "-" ∷ []) ∷ [])) ((Bin.Add, text "|") ∷ (Bin.Add, post (name "b") (dot "join" ∷ call (text "-" ∷ []) ∷ [])) ∷ [])) ∷
    []) ≡ is (Words (codes "1|2-3"))
cut_out_to_the_end = refl

-- `const a = [1]; const n = a.push(5); a.pop(); a.pop(); return n + " " + a.pop();`: the new length, and nothing left
pushed_and_popped : effect_block (
    const (plain "a") (list_of (int 1 ∷ [])) ∷
    const (plain "n") (post (name "a") (dot "push" ∷ call (int 5 ∷ []) ∷ [])) ∷
    do_it (post (name "a") (dot "pop" ∷ call [] ∷ [])) ∷
    do_it (post (name "a") (dot "pop" ∷ call [] ∷ [])) ∷
    give_back (chain (name "n") ((Bin.Add, text " ") ∷ (Bin.Add, post (name "a") (dot "pop" ∷ call [] ∷ [])) ∷ [])) ∷
    []) ≡ is (Words (codes "2 undefined"))
pushed_and_popped = refl

-- lists in one another: 32 of them are as deep as a value may be
abbrev nested : ℕ → Expr
nested zero = int 1
nested (suc n) = list_of (nested n ∷ [])

abbrev nested_value : ℕ → Value
nested_value zero = Int (pos 1)
nested_value (suc n) = Items (item (nested_value n) none)

as_deep_as_may_be : pure (nested 32) ≡ is (nested_value 32)
as_deep_as_may_be = refl

one_level_deeper : pure (nested 33) ≡ fails TreeTooDeep
one_level_deeper = refl
