-- Records: their fields put one after another.
use Rattle.std.specs.Prelude.{◌≡◌, refl, ◌+◌, ◌<◌, ◌≤◌, ℕ, Bool, true, false, nat_le, List, length, drop, get_or, bytes_eq}
use Rattle.std.proofs.Common.{sym, ◌∙◌, ap, subst, true≢false}
use Rattle.indexmap.specs.IndexMap.{insert_entry}
use Rattle.qk_ast.specs.Texts.{same_text}
use Rattle.qk_meaning.specs.Value as M
use Rattle.qk_meaning.specs.Value.{Text, Site, Fields, end, field}
use Rattle.qk_meaning.specs.World as W
use Rattle.qk_meaning.specs.Fault.{NoProperty, ListTooLong}
use Rattle.qk_meaning.specs.Parts.{names_of, field_count, has_field, with_field, in_listing_order}
use Rattle.qk_meaning.specs.Doing.{Doing, chosen, fault}
use Rattle.qk_meaning.specs.Running.{Mode, Effect, Pure, Track, Running, made_object}
use Rattle.qk_meaning.specs.Setting.{Setting, captures, is_effect}
use Rattle.qk_meaning.specs.Making.{made, made_record, new_record, any_forbidden}
use Rattle.qk_value.specs.declared.value.Value.{Value}
use Rattle.qk_value.specs.View.{seen, seen_fields}
use Rattle.qk_heap.specs.Distinct.{Distinct}
use Rattle.qk_heap.proofs.Named.{turned, has_front}
use Rattle.qk_heap.proofs.Listing.{behind, listed_behind, distinct_replaced, listing_replaced}
use Rattle.qk_heap.proofs.Entries.{Entries, count_seen, put_there, put_new}
use Rattle.qk_making.proofs.Walking.{next_left}
use Rattle.qk_making.proofs.Items.{within, past}

-- ---- one field more, behind the others

has_behind : (n k : Text) (v : M.Value) (fs : Fields) → same_text k n ≡ false → has_field n fs ≡ false → has_field n (behind fs k v) ≡ false
has_behind n k v end e h = has_front k n v end false e
has_behind n k v (field m w rest) e h = by (same_text m n) refl (has_behind n k v rest e)
  where
    by : (b : Bool) → same_text m n ≡ b → (has_field n rest ≡ false → has_field n (behind rest k v) ≡ false) → has_field n (field m w (behind rest k v)) ≡ false
    by true f more = absurd (true≢false (sym (has_front m n w rest true f) ∙ h))
    by false f more = has_front m n w (behind rest k v) false f ∙ more (sym (has_front m n w rest false f) ∙ h)

distinct_behind : (k : Text) (v : M.Value) (fs : Fields) → Distinct fs → has_field k fs ≡ false → Distinct (behind fs k v)
distinct_behind k v end d h = (refl, tt)
distinct_behind k v (field n w rest) d h = by (same_text n k) refl (distinct_behind k v rest d.1)
  where
    by : (b : Bool) → same_text n k ≡ b → (has_field k rest ≡ false → Distinct (behind rest k v)) → Distinct (field n w (behind rest k v))
    by true f more = absurd (true≢false (sym (has_front n k w rest true f) ∙ h))
    by false f more = (has_behind n k v rest (turned n k false f) d.0, more (sym (has_front n k w rest false f) ∙ h))

module _ (names : Site → List Text) where
  abbrev pub listing : Entries → Fields
  listing es = in_listing_order end (seen_fields names es)

  put_distinct_by : (t : Text) (v : Value) (es : Entries) (b : Bool) → has_field t (seen_fields names es) ≡ b → Distinct (seen_fields names es) → Distinct (seen_fields names (insert_entry bytes_eq es t v))
  put_distinct_by t v es true e d = subst Distinct (sym (put_there names t v es e)) (distinct_replaced t (seen names v) (seen_fields names es) d)
  put_distinct_by t v es false e d = subst Distinct (sym (put_new names t v es e)) (distinct_behind t (seen names v) (seen_fields names es) d e)

  put_listed_by : (t : Text) (v : Value) (es : Entries) (b : Bool) → has_field t (seen_fields names es) ≡ b → Distinct (seen_fields names es) → listing (insert_entry bytes_eq es t v) ≡ with_field t (seen names v) (listing es)
  put_listed_by t v es true e d = ap (in_listing_order end) (put_there names t v es e) ∙ listing_replaced t (seen names v) (seen_fields names es) d e
  put_listed_by t v es false e d = ap (in_listing_order end) (put_new names t v es e) ∙ listed_behind end (seen_fields names es) t (seen names v)

  -- ---- walks over the fields as they are written

  module _ (fields : Entries) (i : ℕ) (x : Text × Value) (lt : i < length fields) (is : x ≡ get_or fields i x) where
    left : seen_fields names (drop i fields) ≡ field x.0 (seen names x.1) (seen_fields names (drop (i + 1) fields))
    left = ap (seen_fields names) (next_left fields i x lt is)

    -- the next field is put
    put_next : (t : Text) (v : Value) (done after : Fields) → t ≡ x.0 → v ≡ x.1 → after ≡ with_field t (seen names v) done
        → in_listing_order after (seen_fields names (drop (i + 1) fields)) ≡ in_listing_order done (seen_fields names (drop i fields))
    put_next t v done after name value e =
        ap (λ d. in_listing_order d (seen_fields names (drop (i + 1) fields))) (e ∙ λ j. with_field (name j) (seen names (value j)) done)
        ∙ ap (in_listing_order done) (sym left)

    pub held_next : (t : Text) (v : Value) (held after : Entries) → t ≡ x.0 → v ≡ x.1 → after ≡ insert_entry bytes_eq held t v → Distinct (seen_fields names held)
        → in_listing_order (listing after) (seen_fields names (drop (i + 1) fields)) ≡ in_listing_order (listing held) (seen_fields names (drop i fields))
    held_next t v held after name value e d =
        put_next t v (listing held) (listing after) name value (ap listing e ∙ put_listed_by t v held (has_field t (seen_fields names held)) refl d)

  pub held_distinct : (t : Text) (v : Value) (held after : Entries) → after ≡ insert_entry bytes_eq held t v → Distinct (seen_fields names held) → Distinct (seen_fields names after)
  held_distinct t v held after e d = subst (λ es. Distinct (seen_fields names es)) (sym e) (put_distinct_by t v held (has_field t (seen_fields names held)) refl d)

-- ---- what is made of them

module _ (here : Setting) (fields : Entries) where
  abbrev written : Fields
  written = seen_fields (captures here) fields

  abbrev listed : Fields
  listed = in_listing_order end written

  abbrev counted : Doing Running M.Value
  counted = chosen (nat_le (field_count written) 65536) (new_record here here.mode listed) (fault ListTooLong)

  allowed : any_forbidden (names_of written) ≡ false → made_record here written ≡ counted
  allowed e = ap (λ b. chosen b (fault NoProperty) counted) e

  pub too_many_fields : any_forbidden (names_of written) ≡ false → 65536 < length fields → made_record here written ≡ fault ListTooLong
  too_many_fields e h =
      allowed e
      ∙ ap (λ b. chosen b (new_record here here.mode listed) (fault ListTooLong)) (past (field_count written) 65536 (subst (λ n. 65536 < n) (sym (count_seen (captures here) fields)) h))

  few : any_forbidden (names_of written) ≡ false → length fields ≤ 65536 → made_record here written ≡ new_record here here.mode listed
  few e h =
      allowed e
      ∙ ap (λ b. chosen b (new_record here here.mode listed) (fault ListTooLong)) (within (field_count written) 65536 (subst (λ n. n ≤ 65536) (sym (count_seen (captures here) fields)) h))

  by_mode : (mode : Mode) → is_effect mode ≡ false → new_record here mode listed ≡ made here (M.Record listed)
  by_mode Effect e = absurd (true≢false e)
  by_mode Pure e = refl
  by_mode Track e = refl

  pub record_fixed : any_forbidden (names_of written) ≡ false → length fields ≤ 65536 → is_effect here.mode ≡ false → made_record here written ≡ made here (M.Record listed)
  record_fixed e h mode = few e h ∙ by_mode here.mode mode

  pub record_as_object : any_forbidden (names_of written) ≡ false → length fields ≤ 65536 → here.mode ≡ Effect → made_record here written ≡ made_object (W.Plain listed)
  record_as_object e h mode = few e h ∙ ap (λ m. new_record here m listed) mode
