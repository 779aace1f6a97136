-- Lists that are walked from the front on, while a text is written.
use Rattle.std.specs.Prelude.{◌≡◌, refl, ◌+◌, ◌<◌, ◌≤◌, ℕ, suc, List, [], ◌∷◌, ◌++◌, length, drop, get_or, Ok, Err}
use Rattle.std.proofs.Common.{sym, ◌∙◌, ap, subst, append_assoc, add-one, drop-cons}
use Rattle.std.proofs.lemmas.List.{at_drop_all}
use Rattle.qk_meaning.specs.Value.{Text}
use Rattle.qk_html.specs.declared.writing.HtmlFault.{HtmlFault}
use Rattle.qk_html.specs.Appends.{Appends}
use Rattle.qk_html.proofs.Appending.{Wrote, nothing_behind, nothing, both, stops}

module _ {A : Type 0} (xs : List A) (i : ℕ) where
  -- what is left begins with the item at this place
  pub next_left : (x d : A) → i < length xs → x ≡ get_or xs i d → drop i xs ≡ x ∷ drop (i + 1) xs
  next_left x d lt is = drop-cons xs i d lt ∙ (ap (λ y. y ∷ drop (suc i) xs) (sym is) ∙ ap (λ k. x ∷ drop k xs) (sym (add-one i)))

  pub none_left : length xs ≤ i → drop i xs ≡ []
  none_left h = at_drop_all (λ (ys : List A). ys) xs i h

-- behind `old` the text `whole` is being written; so far the buffer is `now`, and `left` is still to be written
pub record Left (most : ℕ) (old whole now left : Text) : Type 0 where
  pub done : Text
  pub same : done ++ left ≡ whole
  pub is_written : Appends done most old now (Ok tt)

pub begin : {most : ℕ} (old whole : Text) → Left most old whole old whole
begin old whole = record { done = []; same = refl; is_written = nothing old }

module _ {most : ℕ} {old whole now left : Text} (t rest : Text) (begins : left ≡ t ++ rest) (h : Left most old whole now left) where
  whole_is : h.done ++ (t ++ rest) ≡ whole
  whole_is = ap (λ x. h.done ++ x) (sym begins) ∙ h.same

  pub goes_on : {new : Text} → Appends t most now new (Ok tt) → Left most old whole new rest
  goes_on k = record {
    done = h.done ++ t;
    same = append_assoc h.done t rest ∙ whole_is;
    is_written = both h.is_written k;
  }

  pub ends_at : {new : Text} {r : Wrote} {f : HtmlFault} → r ≡ Err f → Appends t most now new (Err f) → Appends whole most old new r
  ends_at {new = new} {r = r} e k = subst (λ w. Appends w most old new r) whole_is (both h.is_written (stops rest e k))

pub finish : {most : ℕ} {old whole now left : Text} → left ≡ [] → Left most old whole now left → Appends whole most old now (Ok tt)
finish {most = most} {old = old} {now = now} e h = subst (λ w. Appends w most old now (Ok tt)) (sym (nothing_behind h.done) ∙ (ap (λ x. h.done ++ x) (sym e) ∙ h.same)) h.is_written
