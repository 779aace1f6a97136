-- Lists, records, functions and JSX values are made alike.
use Rattle.std.specs.Prelude.{◌≡◌, refl, Bool, true, false, List, [], nat_le, codes}
use Rattle.std.proofs.Common.{ap, subst}
use Rattle.qk_ast.specs.declared.Tag.{Tag}
use Rattle.qk_ast.specs.Texts.{same_text}
use Rattle.qk_meaning.specs.Value.{Shown, Slot, Value, Fields}
use Rattle.qk_meaning.specs.Running.{Mode, Effect, Pure, Track}
use Rattle.qk_meaning.specs.Ties.{Ties, Shown_as, a_slot, a_fragment, an_element, Stands, items, fields, Fields_stand, Pairwise, plain, array}
use Rattle.qk_meaning.specs.Alike.{Reach, both_used}
use Rattle.qk_meaning.specs.Worlds_stand.{Start}
use Rattle.qk_meaning.specs.Setting.{Setting}
use Rattle.qk_meaning.specs.Making.{made, new_list, made_list, new_record, made_record, any_forbidden, root_shown, shown_of, tag_told, made_markup}
use Rattle.qk_meaning.specs.Methods.{all_items}
use Rattle.qk_alike.specs.Code_stands as C
use Rattle.qk_alike.proofs.Doing_laws.{Relation, Done, done, Settings_stand}
use Rattle.qk_alike.proofs.Lists.{lengths, packs, same_names, same_counts}
use Rattle.qk_alike.proofs.Steps as S

module _ {t : Ties} {b : Start} {K : Relation} {here here' : Setting} (w : Settings_stand t b K here here') where
  open w use {laws, facts}
  open w.laws use {gives, bind, heaps, reads, notes}

  pub made_lem : {r : Reach} {v v' : Value} → Stands t v v' → K r _ _ (Stands t) (made here v) (made here' v')
  made_lem h = S.choose laws (ap (λ n. nat_le n 65536) (facts.weights h)) (S.choose laws (ap (λ n. nat_le n 32) (facts.depths h)) (gives h) (S.faults laws _)) (S.faults laws _)

  pub all_items_lem : {r : Reach} {v v' : Value} → Stands t v v' → K r _ _ (Pairwise (Stands t)) (all_items v) (all_items v')
  all_items_lem h = bind heaps (λ x y k. S.choose laws (facts.lists k h) (bind (reads (facts.locations k h)) (λ a b d. gives (facts.items k h))) (S.faults laws _))

  new_list_lem : {r : Reach} (mode : Mode) {all all' : List Value} → Pairwise (Stands t) all all' → K r _ _ (Stands t) (new_list here mode all) (new_list here' mode all')
  new_list_lem Effect h = S.made_objects laws (array (packs h))
  new_list_lem Pure h = made_lem (items (packs h))
  new_list_lem Track h = made_lem (items (packs h))

  lists_of_mode : {r : Reach} {mode mode' : Mode} {all all' : List Value} → mode ≡ mode' → Pairwise (Stands t) all all' → K r _ _ (Stands t) (new_list here mode all) (new_list here' mode' all')
  lists_of_mode {r} {mode} {mode'} {all} {all'} e h = subst (λ m. K r _ _ (Stands t) (new_list here mode all) (new_list here' m all')) e (new_list_lem mode h)

  pub lists_made : {r : Reach} {all all' : List Value} → Pairwise (Stands t) all all' → K r _ _ (Stands t) (made_list here all) (made_list here' all')
  lists_made h = S.choose laws (ap (λ n. nat_le n 65536) (lengths h)) (lists_of_mode w.mode h) (S.faults laws _)

  new_record_lem : {r : Reach} (mode : Mode) {f g : Fields} → Fields_stand t f g → K r _ _ (Stands t) (new_record here mode f) (new_record here' mode g)
  new_record_lem Effect h = S.made_objects laws (plain h)
  new_record_lem Pure h = made_lem (fields h)
  new_record_lem Track h = made_lem (fields h)

  records_of_mode : {r : Reach} {mode mode' : Mode} {f g : Fields} → mode ≡ mode' → Fields_stand t f g → K r _ _ (Stands t) (new_record here mode f) (new_record here' mode' g)
  records_of_mode {r} {mode} {mode'} {f} {g} e h = subst (λ m. K r _ _ (Stands t) (new_record here mode f) (new_record here' m g)) e (new_record_lem mode h)

  pub records_made : {r : Reach} {f g : Fields} → Fields_stand t f g → K r _ _ (Stands t) (made_record here f) (made_record here' g)
  records_made h =
      S.choose laws (ap any_forbidden (same_names h)) (S.faults laws _) (S.choose laws (ap (λ n. nat_le n 65536) (same_counts h)) (records_of_mode w.mode (facts.listing h)) (S.faults laws _))

  shown_lem : {tag tag' : Tag} → C.Tags_stand here.program here'.program t.sites here.file here'.file tag tag' → Shown_as t.sites (shown_of here tag) (shown_of here' tag')
  shown_lem C.element_tags = an_element
  shown_lem C.fragment_tags = a_fragment
  shown_lem (C.component_tags {name = name} h) = go (same_text name (codes "Slot"))
    where
      go : (c : Bool) → Shown_as t.sites (elim c as (λ x. Shown) [ true ↦ Slot [] | false ↦ root_shown (here.program.root here.file name) ]) (elim c as (λ x. Shown) [ true ↦ Slot [] | false ↦ root_shown (here'.program.root here'.file name) ])
      go true = a_slot
      go false = h

  pub made_markup_lem : {r : Reach} {tag tag' : Tag} {f g : Fields} {all all' : List Value} → C.Tags_stand here.program here'.program t.sites here.file here'.file tag tag' → Fields_stand t f g → Pairwise (Stands t) all all' →
      K r _ _ (Stands t) (made_markup here tag f all) (made_markup here' tag' g all')
  made_markup_lem s h k = bind (S.unless_same laws (facts.markup_faults (shown_lem s) h (packs k))) (λ a b d. made_lem (facts.elements (shown_lem s) h (packs k)))

  -- a tag is told of before its attributes
  pub tag_told_lem : {r : Reach} {tag tag' : Tag} → C.Tags_stand here.program here'.program t.sites here.file here'.file tag tag' → K r _ _ Done (tag_told here tag) (tag_told here' tag')
  tag_told_lem C.element_tags = gives done
  tag_told_lem C.fragment_tags = gives done
  tag_told_lem (C.component_tags {name = name} h) = S.choose laws {c = same_text name (codes "Slot")} refl (gives done) (notes both_used)
