-- Steps that need neither code nor host: parts and holes, values that are kept, names that are opened, the plain arrows of a root.
use Rattle.std.proofs.Math.Seq.{drop-cons}
use Rattle.std.specs.Prelude.{map, OnOk, IfOk}
use Rattle.std.proofs.Common.{◌≡◌, ◌<◌, ◌≤◌, ◌+◌, min, add-one, ℕ, suc, zero, Bool, true, false, List, [], ◌∷◌, ◌++◌, length, get_or, drop, Result, Ok, Err, Option, Some, None, refl, ap, ◌∙◌, sym, subst, arith, nat_le, length-append}
use Rattle.std.proofs.lemmas.List.{append_assoc, append-nil, at_drop_all}
use Rattle.qk_ast.specs.Names.{body_names, patterns_names}
use Rattle.qk_ast.specs.Texts.{Text}
use Rattle.qk_meaning.specs.Value as M
use Rattle.qk_meaning.specs.Value.{Fields, Undefined, field}
use Rattle.qk_meaning.specs.Making.{filled}
use Rattle.qk_meaning.specs.Fault.{TextTooLong}
use Rattle.qk_meaning.specs.Operators.{Answer, Is, Fails, short_text}
use Rattle.qk_meaning.specs.Methods.{kept}
use Rattle.qk_meaning.specs.Flow.{opened}
use Rattle.qk_meaning.specs.Setting.{has_tracker}
use Rattle.qk_meaning.specs.Evaluation.{own_names}
use Rattle.qk_meaning.specs.Program.{Program, Code, captures_in}
use Rattle.qk_meaning.specs.References.{root_reference, Of}
use Rattle.qk_value.specs.declared.value.Fun.{Fun}
use Rattle.qk_value.specs.declared.value.FunCode.{FunCode}
use Rattle.qk_value.specs.declared.value.Value.{Value}
use Rattle.qk_value.specs.declared.value.Value.TheVariants as v
use Rattle.qk_value.specs.View.{seen, seen_all, function, plain_site, plain_function}
use Rattle.qk_value.proofs.Viewing.{seen-Fun}
use Rattle.qk_code.specs.declared.func.Func.{Func}
use Rattle.qk_code.specs.Standing.{Is_arrow, known_at}

-- ---- what stands at a place of a list

at_place : {A : Type 0} (xs : List A) (i : ℕ) (x : A) → i < length xs → x ≡ get_or xs i x → drop i xs ≡ x ∷ drop (i + 1) xs
at_place xs i x lt is = drop-cons xs i x lt ∙ (ap (λ y. y ∷ drop (suc i) xs) (sym is) ∙ ap (λ k. x ∷ drop k xs) (sym (add-one i)))

past : {A : Type 0} (xs : List A) (i : ℕ) → length xs ≤ i → drop i xs ≡ []
past xs i le = at_drop_all (λ ys. ys) xs i le

pub is_none : {A : Type 0} (o : Option A) → ((x : A) → o ≡ Some x → ⊥) → o ≡ None
is_none None other = refl
is_none (Some x) other = absurd (other x refl)

pub if_ok : {A E : Type 0} {P Q : A → Type 0} (r : Result A E) → ((a : A) → P a → Q a) → IfOk r P → IfOk r Q
if_ok (Ok a) k h = k a h
if_ok (Err e) k h = h

-- ---- a template

pub all_filled : (before : Text) (parts holes : List Text) (i : ℕ) → length parts ≤ i → before ++ filled (drop i parts) (drop i holes) ≡ filled parts holes → before ≡ filled parts holes
all_filled before parts holes i le is = sym (append-nil before) ∙ ap {A = List Text} (λ ps. before ++ filled ps (drop i holes)) (sym (past parts i le)) ∙ is

too_long : (t : Text) → 1048576 < length t → short_text t ≡ Fails TextTooLong
too_long t h = ap (λ b. elim b as (λ x. Answer M.Value) [ true ↦ Is (M.Words t) | false ↦ Fails TextTooLong ]) long
  where
    long : nat_le (length t) 1048576 ≡ false
    long = grind (arith, h)

-- a text that is too long with and without what would come
pub long_filled : (before rest all : Text) → 1048576 < length before → before ++ rest ≡ all → short_text before ≡ short_text all
long_filled before rest all h is = too_long before h ∙ sym (too_long all (subst (λ t. 1048576 < length t) is (omega (arith, h, length-append before rest))))

module _ (parts holes : List Text) (i : ℕ) (part : Text) (lt : i < length parts) (is : part ≡ get_or parts i part) where
  abbrev after : Text
  after = filled (drop (i + 1) parts) (drop (i + 1) holes)

  with_part : filled (drop i parts) (drop i holes) ≡ filled (part ∷ drop (i + 1) parts) (drop i holes)
  with_part = ap {A = List Text} (λ ps. filled ps (drop i holes)) (at_place parts i part lt is)

  with_hole : (hole : Text) → i < length holes → hole ≡ get_or holes i hole → filled (drop i parts) (drop i holes) ≡ part ++ (hole ++ after)
  with_hole hole stands here = with_part ∙ ap {A = List Text} (filled (part ∷ drop (i + 1) parts)) (at_place holes i hole stands here)

  without_hole : length holes ≤ i → filled (drop i parts) (drop i holes) ≡ part ++ after
  without_hole le =
      with_part
      ∙ ap {A = List Text} (filled (part ∷ drop (i + 1) parts)) (past holes i le)
      ∙ ap {A = List Text} (λ hs. part ++ filled (drop (i + 1) parts) hs) (sym (past holes (i + 1) (omega (arith, le))))

  -- the part and its hole stand behind what was written before
  pub hole_filled : (before one both hole : Text) → i < length holes → hole ≡ get_or holes i hole → one ≡ before ++ part → both ≡ one ++ hole → both ++ after ≡ before ++ filled (drop i parts) (drop i holes)
  hole_filled before one both hole stands here first second =
      ap (λ t. t ++ after) (second ∙ ap (λ t. t ++ hole) first)
      ∙ append_assoc (before ++ part) hole after
      ∙ append_assoc before part (hole ++ after)
      ∙ ap (λ t. before ++ t) (sym (with_hole hole stands here))

  -- the part alone, behind the last hole
  pub part_filled : (before one : Text) → length holes ≤ i → one ≡ before ++ part → one ++ after ≡ before ++ filled (drop i parts) (drop i holes)
  part_filled before one le first = ap (λ t. t ++ after) first ∙ append_assoc before part after ∙ ap (λ t. before ++ t) (sym (without_hole le))

-- ---- values beside which a true value stands

-- those from a place on
abbrev kept_from : (Value → M.Value) → List Value → List Value → ℕ → List M.Value
kept_from see all flags i = kept (map see (drop i all)) (map see (drop i flags))

kept_nothing : (vs : List M.Value) → kept vs [] ≡ []
kept_nothing [] = refl
kept_nothing (v ∷ vs) = refl

none_kept : (see : Value → M.Value) (all flags : List Value) (i : ℕ) → i ≡ min (length all) (length flags) → kept_from see all flags i ≡ []
none_kept see [] flags i is = ap {A = List Value} (λ xs. kept (map see xs) (map see (drop i flags))) (past [] i (omega arith))
none_kept see (x ∷ all) [] i is = ap {A = List Value} (λ fs. kept (map see (drop i (x ∷ all))) (map see fs)) (past [] i (omega arith)) ∙ kept_nothing _
none_kept see (x ∷ all) (y ∷ flags) zero is = absurd (omega (arith, is))
none_kept see (x ∷ all) (y ∷ flags) (suc i) is = none_kept see all flags i (omega (arith, is))

pub all_kept : (see : Value → M.Value) (left all flags : List Value) (i : ℕ) → i ≡ min (length all) (length flags) → map see left ++ kept_from see all flags i ≡ kept (map see all) (map see flags) → map see left ≡ kept (map see all) (map see flags)
all_kept see left all flags i end is = sym (append-nil (map see left)) ∙ ap (λ rest. map see left ++ rest) (sym (none_kept see all flags i end)) ∙ is

-- ---- names that are opened one after another

opened_both : (one other : List Text) (names : Fields) → opened (one ++ other) names ≡ opened other (opened one names)
opened_both [] other names = refl
opened_both (n ∷ rest) other names = opened_both rest other (field n Undefined names)

-- the names of an arrow, first those of its parameters
pub own_opened : (code : Code) (before between behind : Fields) → has_tracker code ≡ false → between ≡ opened (patterns_names code.params) before → behind ≡ opened (body_names code.body) between → behind ≡ opened (own_names code) before
own_opened code before between behind not first second =
    second
    ∙ ap (opened (body_names code.body)) first
    ∙ sym (ap {A = Bool} (λ b. opened (elim b [ true ↦ body_names code.body | false ↦ patterns_names code.params ++ body_names code.body ]) before) not ∙ opened_both (patterns_names code.params) (body_names code.body) before)

-- the names of a task's arrow with the parameter `track`
pub task_opened : (code : Code) (before behind : Fields) → has_tracker code ≡ true → behind ≡ opened (body_names code.body) before → behind ≡ opened (own_names code) before
task_opened code before behind is all = all ∙ sym (ap {A = Bool} (λ b. opened (elim b [ true ↦ body_names code.body | false ↦ patterns_names code.params ++ body_names code.body ]) before) is)

pub on_ok : {E P Q : Type 0} (r : Result (Unit {0}) E) → (P → Q) → OnOk r P → OnOk r Q
on_ok (Ok u) k h = k h
on_ok (Err e) k h = h

-- ---- the plain arrows of a root

site_is : (s : M.Site) (file : Text) (number : ℕ) → s.file ≡ file → s.number ≡ number → s.dollar ≡ false → s ≡ plain_site file number
site_is s file number a b d = λ i. record { file = a i; number = b i; dollar = d i }

module _ (p : Program) (file name : Text) (f : Func) (h : Is_arrow p file name f) where
  abbrev site : M.Site
  site = p.site f.file f.arrow.place

  abbrev number : ℕ
  number = (known_at f f.arrow.place).site.number

  site_so : site ≡ plain_site f.file number
  site_so = site_is site f.file number (ap (λ s. s.file) (h.stands.knows.site f.arrow.place) ∙ h.stands.knows.file f.arrow.place) (ap (λ s. s.number) (h.stands.knows.site f.arrow.place)) h.plain

  captures_nothing : captures_in p (plain_site f.file number) ≡ []
  captures_nothing = subst (λ s. captures_in p s ≡ []) site_so (ap (λ c. c.captures) h.stands.is ∙ h.captures)

  -- a function of that arrow, with no values
  plain_seen : (g : Fun) → g.code ≡ FunCode.Plain f.file number → g.captures ≡ [] → g.hidden ≡ false → seen (captures_in p) (v.Fun g) ≡ M.Closure (plain_site f.file number) M.end false
  plain_seen g code none shown =
      seen-Fun (captures_in p) g
      ∙ ap (λ c. function (captures_in p) c (seen_all (captures_in p) g.captures) g.hidden) code
      ∙ ap {A = List Value} (λ vs. function (captures_in p) (FunCode.Plain f.file number) (seen_all (captures_in p) vs) g.hidden) none
      ∙ ap (λ b. function (captures_in p) (FunCode.Plain f.file number) M.none b) shown
      ∙ ap {A = List Text} (λ names. plain_function names f.file number M.none false) captures_nothing

  pub plain_is : (g : Fun) → g.code ≡ FunCode.Plain f.file number → g.captures ≡ [] → g.hidden ≡ false → root_reference (p.root file name) ≡ Of (seen (captures_in p) (v.Fun g))
  plain_is g code none shown = ap root_reference h.is ∙ ap (λ s. Of (M.Closure s M.end false)) site_so ∙ ap Of (sym (plain_seen g code none shown))
