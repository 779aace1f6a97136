-- JSX values, put together of their parts.
use Rattle.std.specs.Prelude.{◌≡◌, refl, Bool, true, false, List, [], codes, map, Option, None, Result, Err}
use Rattle.std.proofs.Common.{sym, ◌∙◌, ap, subst, true≢false}
use Rattle.qk_meaning.specs.Value as M
use Rattle.qk_meaning.specs.Value.{Text, Site, Shown, Fields, Values, Element, Component, Lifted_component, Fragment, Slot}
use Rattle.qk_meaning.specs.Doing.{Doing}
use Rattle.qk_meaning.specs.Running.{Running}
use Rattle.qk_meaning.specs.Setting.{Setting, captures}
use Rattle.qk_meaning.specs.Making.{made}
use Rattle.qk_meaning.specs.Fault.{Fault}
use Rattle.qk_meaning.specs.Parts.{packed}
use Rattle.qk_meaning.specs.Markup.{attributes_fault, sequence_fault, then_if, is_element, element, key_among, slot_among, shown_attributes}
use Rattle.qk_value.specs.View.{seen_all, seen_element}
use Rattle.qk_value.specs.declared.value.Elem.{Elem}
use Rattle.qk_value.specs.declared.value.Value.{Value}
use Rattle.qk_value.specs.declared.value.Value.TheVariants as v
use Rattle.qk_value.proofs.Viewing.{seen-Elem}
use Rattle.qk_code.specs.declared.stop.Stop.{Stop}
use Rattle.qk_making.specs.Acting.{Leaves, seen_in}
use Rattle.qk_making.specs.Attributes.{text_under}
use Rattle.qk_making.specs.Marking.{markup_made}
use Rattle.qk_making.specs.Tags.{is_slot, slot_seen}
use Rattle.qk_making.specs.Trying.{Tried}
use Rattle.qk_making.proofs.Written_attributes.{slot_found, name_found}
use Rattle.qk_making.proofs.Items.{packed_seen}
use Rattle.qk_making.proofs.Making.{so_meant}
use Rattle.qk_making.proofs.Trying.{tried_first, then_failed, then_next, stops_there, goes_on}

-- ---- by the tag

pub of_slot : (shown : Shown) (attributes : Fields) (children : Values) → is_slot shown ≡ true → element shown attributes children ≡ slot_seen attributes
of_slot (Slot name) attributes children e = ap (λ t. M.Elem (Slot t) None [] M.end M.none) (name_found attributes)
of_slot (Element tag) attributes children e = absurd (true≢false (sym e))
of_slot (Component site) attributes children e = absurd (true≢false (sym e))
of_slot (Lifted_component symbol) attributes children e = absurd (true≢false (sym e))
of_slot Fragment attributes children e = absurd (true≢false (sym e))

by_parts : (shown : Shown) (attributes : Fields) (children : Values) → is_slot shown ≡ false
    → element shown attributes children ≡ M.Elem shown (key_among attributes) (slot_among attributes) (shown_attributes attributes) children
by_parts (Slot name) attributes children e = absurd (true≢false e)
by_parts (Element tag) attributes children e = refl
by_parts (Component site) attributes children e = refl
by_parts (Lifted_component symbol) attributes children e = refl
by_parts Fragment attributes children e = refl

pub of_parts : (shown : Shown) (attributes : Fields) (children : Values) (key : Option Text) (slot : Text) (others : Fields) (kept : Values) → is_slot shown ≡ false
    → key ≡ key_among attributes → slot ≡ text_under (codes "q:slot") attributes → others ≡ shown_attributes attributes → kept ≡ children
    → M.Elem shown key slot others kept ≡ element shown attributes children
of_parts shown attributes children key slot others kept e p q r t =
    (λ i. M.Elem shown (p i) ((q ∙ sym (slot_found attributes)) i) (r i) (t i)) ∙ sym (by_parts shown attributes children e)

-- ---- tried, then made

module _ (here : Setting) (shown : Shown) (element_tag : Bool) (tag : element_tag ≡ is_element shown) (attributes : Fields) (children given : List Value) (same : given ≡ children) where
  abbrev listed : Values
  listed = packed (map (seen_in here) children)

  abbrev meant : Doing Running M.Value
  meant = markup_made here shown attributes listed

  abbrev first : Option Fault
  first = attributes_fault (is_element shown) attributes

  abbrev last : Option Fault
  last = sequence_fault listed []

  attributes_tried : first ≡ attributes_fault element_tag attributes
  attributes_tried = ap (λ b. attributes_fault b attributes) (sym tag)

  children_seen : listed ≡ seen_all (captures here) given
  children_seen = packed_seen (captures here) children ∙ ap (seen_all (captures here)) (sym same)

  children_tried : last ≡ sequence_fault (seen_all (captures here) given) []
  children_tried = ap (λ all. sequence_fault all []) children_seen

  stops : (e : Stop) (result : Result Value Stop) → result ≡ Err e → Tried (then_if first last) (Err e) → Leaves (seen_in here) meant result
  stops e result is h = subst (λ r. Leaves (seen_in here) meant r) (sym is) (λ s. stops_there (seen_in here) (then_if first last) (made here (element shown attributes listed)) e s h)

  pub attributes_stop : (e : Stop) (result : Result Value Stop) → result ≡ Err e → Tried (attributes_fault element_tag attributes) (Err e) → Leaves (seen_in here) meant result
  attributes_stop e result is h = stops e result is (tried_first (attributes_fault element_tag attributes) (then_if first last) e (λ f failed. then_failed first last f (attributes_tried ∙ failed)) h)

  pub children_stop : (e : Stop) (result : Result Value Stop) → result ≡ Err e → attributes_fault element_tag attributes ≡ None → Tried (sequence_fault (seen_all (captures here) given) []) (Err e) → Leaves (seen_in here) meant result
  children_stop e result is passed h =
      stops e result is (tried_first (sequence_fault (seen_all (captures here) given) []) (then_if first last) e (λ f failed. then_next first last (attributes_tried ∙ passed) ∙ (children_tried ∙ failed)) h)

  pub element_made : (e : Elem) (result : Result Value Stop) → attributes_fault element_tag attributes ≡ None → sequence_fault (seen_all (captures here) given) [] ≡ None
      → seen_element (captures here) e ≡ element shown attributes (seen_all (captures here) children) → Leaves (seen_in here) (made here (seen_in here (v.Elem e))) result → Leaves (seen_in here) meant result
  element_made e result passed free is h =
      so_meant (seen_in here) (made here (seen_in here (v.Elem e))) meant result
      (goes_on {A = Value} (seen_in here) (then_if first last) (made here (element shown attributes listed)) (then_next first last (attributes_tried ∙ passed) ∙ (children_tried ∙ free))
      ∙ ap (λ all. made here (element shown attributes all)) (packed_seen (captures here) children)
      ∙ ap (made here) (sym (seen-Elem (captures here) e ∙ is))) h
