-- Symbols are what is spelled for sites.
use Rattle.std.proofs.Common.{Bor, Option, Some, None, ◌≡◌, ◌≢◌, ◌<◌, ◌≤◌, ◌^◌, ℕ, List, [], ◌∷◌, ◌++◌, refl, sym, ap, subst, ◌∙◌, arith, true, false, Bool, ◌&&◌, ◌==◌, length, get_or, codes}
use Rattle.std.proofs.lemmas.Bool.{false≢true}
use Rattle.std.specs.Option.{MatchOption, IfSome, IfNone}
use Rattle.std.proofs.lemmas.List.{append_assoc}
use Rattle.std.proofs.lemmas.Str.Pattern.{IsSplitOnceResult, split_parts}
use Rattle.std.specs.Fmt as fmt
use Rattle.std.proofs.lemmas.Fmt.{decimal_injective}
use Rattle.qk_ast.specs.Characters.{number_after}
use Rattle.qk_ast.specs.Texts.{Text, decimal}
use Rattle.qk_ast.specs.Framework.{is_module_name, is_site_number, before_bar, behind_bar, is_symbol}
use Rattle.qk_ast.proofs.FrontToken.{left, right}
use Rattle.qk_ast.proofs.Pieces.{nat_is}
use Rattle.qk_sites.specs.Symbols.{IsSymbolOf, symbol_text, site_number}
use Rattle.qk_sites.proofs.Decimals.{both, decimal_is, site_of_number, number_of_site, no_number, some_number}
use Rattle.qk_sites.proofs.Bars.{Barless, before_first_bar, behind_first_bar, behind_no_bar, joined, name_barless, barless}

-- what stands behind the bar is `s` and the number of a site
abbrev is_tail : Text → Bool
is_tail u = is_symbol (97 ∷ 95 ∷ u)

-- ---- of the two parts

never : (b : Bool) → (b && false) ≡ false
never true = refl
never false = refl

pub symbol_by_parts : (t m ds : Text) → Barless m → t ≡ m ++ 95 ∷ 115 ∷ ds → is_symbol t ≡ (is_module_name m && is_site_number ds)
symbol_by_parts t m ds h e = ap is_symbol e ∙ ap (λ u. is_module_name u && is_tail (behind_bar (m ++ 95 ∷ 115 ∷ ds))) (before_first_bar m (115 ∷ ds) h)
    ∙ ap (λ u. is_module_name m && is_tail u) (behind_first_bar m (115 ∷ ds) h)

pub no_bar : (t : Text) → Barless t → is_symbol t ≡ false
no_bar t h = ap (λ u. is_module_name (before_bar t) && is_tail u) (behind_no_bar t h) ∙ never (is_module_name (before_bar t))

tail_is : (u : Text) → is_tail u ≡ true → (ds : Text) × (u ≡ 115 ∷ ds) × (is_site_number ds ≡ true)
tail_is [] h = absurd (false≢true h)
tail_is (c ∷ cs) h = by (c == 115) refl h
  where
    by : (b : Bool) → (c == 115) ≡ b → is_site_number (elim b [ true ↦ cs | false ↦ [] ]) ≡ true → (ds : Text) × (c ∷ cs ≡ 115 ∷ ds) × (is_site_number ds ≡ true)
    by true e h = (cs, ap (λ x. x ∷ cs) (nat_is c 115 e), h)
    by false e h = absurd (false≢true h)

pub no_mark : (t m rest : Text) → Barless m → t ≡ m ++ 95 ∷ rest → ((ds : Text) → rest ≢ 115 ∷ ds) → is_symbol t ≡ false
no_mark t m rest h e other = ap is_symbol e ∙ ap (λ u. is_module_name (before_bar (m ++ 95 ∷ rest)) && is_tail u) (behind_first_bar m rest h) ∙ by (is_tail rest) refl
  where
    by : (b : Bool) → is_tail rest ≡ b → (is_module_name (before_bar (m ++ 95 ∷ rest)) && b) ≡ false
    by true f = absurd (let p = tail_is rest f in other p.0 p.1)
    by false f = never (is_module_name (before_bar (m ++ 95 ∷ rest)))

-- ---- the laws

pub spelled_is : (m : Text) (i : ℕ) (text : Text) → IsSymbolOf m i text → is_symbol text ≡ true
spelled_is m i text s = symbol_by_parts text m (decimal i) (name_barless m s.named) s.spelled ∙ both s.named (site_of_number i s.first s.last)

pub is_spelled : (text : Text) → is_symbol text ≡ true → (m : Text) × (i : ℕ) × IsSymbolOf m i text
is_spelled text h =
    let name = left (is_module_name (before_bar text)) _ h in
    let tail = tail_is (behind_bar text) (right (is_module_name (before_bar text)) _ h) in
    let site = number_of_site tail.0 tail.2 in (
      before_bar text,
      number_after 10 0 tail.0,
      record {
        named = name;
        first = site.low;
        last = site.high;
        spelled = joined text 115 tail.0 tail.1 ∙ ap (λ u. before_bar text ++ 95 ∷ u) (tail.1 ∙ ap (λ ds. 115 ∷ ds) (sym site.spelled));
      },
    )

same_before : (m : Text) (i : ℕ) (text : Text) → IsSymbolOf m i text → before_bar text ≡ m
same_before m i text s = ap before_bar s.spelled ∙ before_first_bar m (115 ∷ decimal i) (name_barless m s.named)

same_behind : (m : Text) (i : ℕ) (text : Text) → IsSymbolOf m i text → behind_bar text ≡ 115 ∷ decimal i
same_behind m i text s = ap behind_bar s.spelled ∙ behind_first_bar m (115 ∷ decimal i) (name_barless m s.named)

abbrev without_first : Text → Text
without_first [] = []
without_first (c ∷ cs) = cs

pub one : (m n : Text) (i j : ℕ) (text : Text) → IsSymbolOf m i text → IsSymbolOf n j text → (m ≡ n) × (i ≡ j)
one m n i j text s t = (sym (same_before m i text s) ∙ same_before n j text t, decimal_injective i j small_i small_j same)
  where
    small_i : i < 2 ^ 64
    small_i = let h = s.last in omega (arith, h)

    small_j : j < 2 ^ 64
    small_j = let h = t.last in omega (arith, h)

    same : fmt.decimal i ≡ fmt.decimal j
    same = sym (decimal_is i small_i) ∙ ap without_first (sym (same_behind m i text s) ∙ same_behind n j text t) ∙ decimal_is j small_j

-- ---- the text that is put together

pub put_together : (name : Text) (n : ℕ) → n < 2 ^ 64 → (name ++ codes "_s") ++ fmt.decimal n ≡ symbol_text name n
put_together name n h = append_assoc name (codes "_s") (fmt.decimal n) ∙ ap (λ ds. name ++ (codes "_s" ++ ds)) (sym (decimal_is n h))

-- ---- what is read

pub no_split : (t : Text) (r : Option (Bor (List ℕ) × Bor (List ℕ))) → IsSplitOnceResult 95 t r → r ≡ None → Barless t
no_split t r h e = barless t (let all = split_parts 95 t r h (omega arith) in subst (λ o. MatchOption o ((i : ℕ) → i < length t → get_or t i 0 ≢ 95) (λ x. (t ≡ x.0.now ++ (95 ∷ x.1.now)) × ((i : ℕ) → i < length x.0.now → get_or x.0.now i 0 ≢ 95))) e all)

pub split : (t : Text) (r : Option (Bor (List ℕ) × Bor (List ℕ))) (x : Bor (List ℕ) × Bor (List ℕ)) → IsSplitOnceResult 95 t r → r ≡ Some x → (t ≡ x.0.now ++ 95 ∷ x.1.now) × Barless x.0.now
split t r x h e = let all = split_parts 95 t r h (omega arith) in let both = subst (λ o. MatchOption o ((i : ℕ) → i < length t → get_or t i 0 ≢ 95) (λ x. (t ≡ x.0.now ++ (95 ∷ x.1.now)) × ((i : ℕ) → i < length x.0.now → get_or x.0.now i 0 ≢ 95))) e all in
    (both.0, barless x.0.now both.1)

pub if_none : {T : Type 0} {P : Type 0} (o : Option T) → P → IfNone o P
if_none None p = p
if_none (Some x) p = tt

-- behind the bar stands no `s`
pub no_s : (t : Text) (r : Option (Bor (List ℕ) × Bor (List ℕ))) (name rest : Bor (List ℕ)) → IsSplitOnceResult 95 t r → r ≡ Some (name, rest) → ((ds : Text) → rest.now ≢ 115 ∷ ds) → is_symbol t ≡ false
no_s t r name rest h e other = let both = split t r (name, rest) h e in no_mark t name.now rest.now both.1 both.0 other

-- both signs stand there
pub by_parts : (t : Text) (r : Option (Bor (List ℕ) × Bor (List ℕ))) (name rest : Bor (List ℕ)) (ds : Text) → IsSplitOnceResult 95 t r → r ≡ Some (name, rest) → rest.now ≡ 115 ∷ ds
    → (t ≡ name.now ++ 95 ∷ 115 ∷ ds) × (is_symbol t ≡ (is_module_name name.now && is_site_number ds))
by_parts t r name rest ds h e mark = let both = split t r (name, rest) h e in let whole = both.0 ∙ ap (λ u. name.now ++ 95 ∷ u) mark in
    (whole, symbol_by_parts t name.now ds both.1 whole)

pub no_name : (t name ds : Text) → is_symbol t ≡ (is_module_name name && is_site_number ds) → is_module_name name ≡ false → is_symbol t ≡ false
no_name t name ds h e = h ∙ ap (λ b. b && is_site_number ds) e

pub no_site : (t name ds : Text) → is_symbol t ≡ (is_module_name name && is_site_number ds) → site_number ds ≡ None → is_symbol t ≡ false
no_site t name ds h e = h ∙ ap (λ b. is_module_name name && b) (no_number ds e) ∙ never (is_module_name name)

pub read_site : (t name ds : Text) (n : ℕ) → t ≡ name ++ 95 ∷ 115 ∷ ds → is_module_name name ≡ true → site_number ds ≡ Some n → IsSymbolOf name n t
read_site t name ds n whole named h =
    let is = some_number ds n h in
    let site = number_of_site ds is.0 in
    record {
      named = named;
      first = subst (λ n. 0 < n) is.1 site.low;
      last = subst (λ n. n ≤ 4294967295) is.1 site.high;
      spelled = whole ∙ ap (λ ds. name ++ 95 ∷ 115 ∷ ds) (sym site.spelled ∙ ap decimal is.1);
    }

-- ---- a sign taken off the front

pub no_prefix : (u : Text) (r : Option (Bor (List ℕ))) → MatchOption r ((ds : Text) → u ≢ 115 ∷ ds) (λ x. u ≡ 115 ∷ x.now) → r ≡ None → (ds : Text) → u ≢ 115 ∷ ds
no_prefix u r h e = subst (λ o. MatchOption o ((ds : Text) → u ≢ 115 ∷ ds) (λ x. u ≡ 115 ∷ x.now)) e h

pub prefix : (u : Text) (r : Option (Bor (List ℕ))) (x : Bor (List ℕ)) → MatchOption r ((ds : Text) → u ≢ 115 ∷ ds) (λ x. u ≡ 115 ∷ x.now) → r ≡ Some x → u ≡ 115 ∷ x.now
prefix u r x h e = subst (λ o. MatchOption o ((ds : Text) → u ≢ 115 ∷ ds) (λ x. u ≡ 115 ∷ x.now)) e h

pub back : (m : Text) (i : ℕ) (text : Text) (read : Option (Text × ℕ)) → IsSymbolOf m i text → IfSome read (λ site. IsSymbolOf site.0 site.1 text) → IfNone read (is_symbol text ≡ false) → read ≡ Some (m, i)
back m i text None s some none = absurd (false≢true (sym none ∙ spelled_is m i text s))
back m i text (Some site) s some none = let same = one site.0 m site.1 i text some s in λ j. Some (same.0 j, same.1 j)
