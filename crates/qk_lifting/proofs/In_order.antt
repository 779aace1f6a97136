-- Entries that are put in order keep the order of an index.
use Rattle.std.specs.Prelude.{◌≡◌, refl, Bool, true, false, ◌&&◌, List, [], ◌∷◌}
use Rattle.std.proofs.Common.{sym, ◌∙◌, ap, true≢false}
use Rattle.std.proofs.lemmas.Cmp.{nat_list_cmp_total}
use Rattle.std.proofs.lemmas.Map.Text.{is_eq-slice_cmp}
use Rattle.std.specs.declared.cmp.Ordering.{Ordering}
use Rattle.std.specs.declared.cmp.Ordering.TheVariants.{Less, Equal, Greater}
use Rattle.std.specs.Ordering.{nat_cmp, is_lt, is_eq, ordering_reverse}
use Rattle.std.specs.Cmp.Lexicographic.{slice_cmp}
use Rattle.qk_ast.specs.Texts.{Text, same_text}
use Rattle.qk_lifting.specs.declared.Entry.{Entry}
use Rattle.qk_lifting.specs.Ordering.{comes_before}
use Rattle.qk_lifting.specs.Index.{is_entry, is_before, are_entries}
use Rattle.qk_lifting.specs.Files.{put_entry, entries_in_order}
use Rattle.qk_lifting.specs.Laws.{Others, EntriesAreInOrder}

-- of two texts that differ one comes before the other
comes_after : (t u : Text) → same_text t u ≡ false → comes_before t u ≡ false → comes_before u t ≡ true
comes_after t u differ not_before = ap is_lt (nat_list_cmp_total.antisymm u t) ∙ by (slice_cmp nat_cmp t u) not_before (is_eq-slice_cmp t u ∙ differ)
  where
    by : (o : Ordering) → is_lt o ≡ false → is_eq o ≡ false → is_lt (ordering_reverse o) ≡ true
    by Less e f = absurd (true≢false e)
    by Equal e f = absurd (true≢false f)
    by Greater e f = refl

both : (b c : Bool) → b ≡ true → c ≡ true → (b && c) ≡ true
both b c e f = ap (λ x. x && c) e ∙ f

left : (b c : Bool) → (b && c) ≡ true → b ≡ true
left true c h = refl
left false c h = absurd (true≢false (sym h))

right : (b c : Bool) → (b && c) ≡ true → c ≡ true
right true c h = h
right false c h = absurd (true≢false (sym h))

-- before what is put behind it
before_put : (f e : Entry) (rest : List Entry) → is_before f rest ≡ true → comes_before f.symbol e.symbol ≡ true → is_before f (put_entry e rest) ≡ true
before_put f e [] h g = g
before_put f e (x ∷ rest) h g = by (comes_before e.symbol x.symbol)
  where
    by : (b : Bool) → is_before f (elim b as (λ _. List Entry) [ true ↦ e ∷ x ∷ rest | false ↦ x ∷ put_entry e rest ]) ≡ true
    by true = g
    by false = h

put_keeps : (e : Entry) (xs : List Entry) → is_entry e ≡ true → Others e xs → are_entries xs ≡ true → are_entries (put_entry e xs) ≡ true
put_keeps e [] own others h = both _ _ (both _ _ own refl) refl
put_keeps e (f ∷ rest) own others h = by (comes_before e.symbol f.symbol) refl (put_keeps e rest own others.1 (right _ (are_entries rest) h))
  where
    first : is_entry f ≡ true
    first = left _ (is_before f rest) (left _ (are_entries rest) h)

    by : (b : Bool) → comes_before e.symbol f.symbol ≡ b → are_entries (put_entry e rest) ≡ true → are_entries (elim b as (λ _. List Entry) [ true ↦ e ∷ f ∷ rest | false ↦ f ∷ put_entry e rest ]) ≡ true
    by true lower more = both _ _ (both _ _ own lower) h
    by false lower more = both _ _ (both _ _ first (before_put f e rest (right (is_entry f) (is_before f rest) (left _ (are_entries rest) h)) (comes_after e.symbol f.symbol others.0 lower))) more

others_put : (e f : Entry) (xs : List Entry) → same_text e.symbol f.symbol ≡ false → Others e xs → Others e (put_entry f xs)
others_put e f [] g h = (g, tt)
others_put e f (x ∷ xs) g h = by (comes_before f.symbol x.symbol) (others_put e f xs g h.1)
  where
    by : (b : Bool) → Others e (put_entry f xs) → Others e (elim b as (λ _. List Entry) [ true ↦ f ∷ x ∷ xs | false ↦ x ∷ put_entry f xs ])
    by true more = (g, h)
    by false more = (h.0, more)

others_ordered : (e : Entry) (xs : List Entry) → Others e xs → Others e (entries_in_order xs)
others_ordered e [] h = tt
others_ordered e (x ∷ xs) h = others_put e x (entries_in_order xs) h.0 (others_ordered e xs h.1)

pub entries_are_in_order : EntriesAreInOrder
entries_are_in_order [] h = refl
entries_are_in_order (e ∷ xs) h = put_keeps e (entries_in_order xs) h.0 (others_ordered e xs h.1) (entries_are_in_order xs h.2)
