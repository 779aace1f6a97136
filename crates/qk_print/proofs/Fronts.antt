-- Bytes that grow at their end keep their front.
use Rattle.std.specs.Prelude.{◌≡◌, refl, List, ℕ, [], ◌++◌, Result, Ok, Err, OnOk, OnErr}
use Rattle.std.proofs.Common.{ap, ◌∙◌, sym}
use Rattle.std.proofs.lemmas.List.{append_assoc, append-nil}
use Rattle.qk_print.specs.Growing.{Begins}

pub begins_same : {front bytes : List ℕ} → bytes ≡ front → Begins front bytes
begins_same h = record { rest = []; is = h ∙ sym (append-nil _) }

pub begins_with : {front bytes : List ℕ} (more : List ℕ) → bytes ≡ front ++ more → Begins front bytes
begins_with more h = record { rest = more; is = h }

pub begins_after : {front middle bytes : List ℕ} → Begins front middle → Begins middle bytes → Begins front bytes
begins_after {front = front} h k = record { rest = h.rest ++ k.rest; is = k.is ∙ ap (λ m. m ++ k.rest) h.is ∙ append_assoc front h.rest k.rest }

-- what holds whatever the answer holds after a failure
pub on_any_err : {A E P : Type 0} (r : Result A E) → P → OnErr r P
on_any_err (Ok a) p = search
on_any_err (Err e) p = search

-- a call that may end after what others began
pub begins_at_last : {A E : Type 0} {front middle : List ℕ} (bytes : List ℕ) (r : Result A E) → Begins front middle → OnErr r (Begins middle bytes) → OnErr r (Begins front bytes)
begins_at_last bytes (Ok a) h k = k
begins_at_last bytes (Err e) h k = begins_after h k

-- three calls one after another, the last of which may fail
pub after_two : {A E : Type 0} (r : Result A E) (front first second bytes a b c d e f : List ℕ) → first ≡ front ++ (a ++ (b ++ c)) → second ≡ first ++ (d ++ e)
    → OnOk r (bytes ≡ second ++ f) → OnOk r (bytes ≡ front ++ (a ++ (b ++ (c ++ (d ++ (e ++ f))))))
after_two (Ok x) front first second bytes a b c d e f h k l = l ∙ ap (λ m. m ++ f) k ∙ ap (λ m. (m ++ (d ++ e)) ++ f) h ∙ joined_up front a b c d e f
  where
    joined_up : (front a b c d e f : List ℕ) → ((front ++ (a ++ (b ++ c))) ++ (d ++ e)) ++ f ≡ front ++ (a ++ (b ++ (c ++ (d ++ (e ++ f)))))
    joined_up front a b c d e f = simp append_assoc refl
after_two (Err x) front first second bytes a b c d e f h k l = l
