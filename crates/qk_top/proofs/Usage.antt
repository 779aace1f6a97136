-- What is printed with the status of words that are no command.
use Rattle.std.proofs.Common.{◌≡◌, ℕ, ◌∙◌, sym, subst, arith, Option, refl}
use Rattle.qk_store.specs.Pieces.{IsPut}
use Rattle.qk_meaning.specs.Value.{Text}
use Rattle.qk_top.specs.declared.stop.Stop.{Stop}
use Rattle.qk_top.specs.declared.stop.Stop.TheVariants.{Usage, Script, Application, StoreFailed, SinkFailed, Memory}
use Rattle.qk_top.specs.Stops.{last_line_of, whole, in_part, in_want, Finishes}

unlike : (n : ℕ) {status : ℕ} {A : Type 0} → status ≡ n → status ≡ 1 → (n ≡ 1 → ⊥) → A
unlike n e one other = absurd (other (sym e ∙ one))

pub usage_put : (stop : Stop) (before between after : Option Text) (f g status : ℕ) → Finishes stop between after f g status → status ≡ 1 → (stop ≡ Usage → between ≡ before) → IsPut (last_line_of Usage) before after
usage_put SinkFailed before between after f g status ends one same = unlike 7 ends.0 one (λ e. omega (arith, e))
usage_put Usage before between after f g status (whole e put kept) one same = subst (λ b. IsPut (last_line_of Usage) b after) (same refl) put
usage_put Usage before between after f g status (in_part e front rose later) one same = unlike 7 e one (λ k. omega (arith, k))
usage_put Usage before between after f g status (in_want e stays kept) one same = unlike 8 e one (λ k. omega (arith, k))
usage_put (Script kind) before between after f g status (whole e put kept) one same = unlike 5 e one (λ k. omega (arith, k))
usage_put (Script kind) before between after f g status (in_part e front rose later) one same = unlike 7 e one (λ k. omega (arith, k))
usage_put (Script kind) before between after f g status (in_want e stays kept) one same = unlike 8 e one (λ k. omega (arith, k))
usage_put (Application kind) before between after f g status (whole e put kept) one same = unlike 2 e one (λ k. omega (arith, k))
usage_put (Application kind) before between after f g status (in_part e front rose later) one same = unlike 7 e one (λ k. omega (arith, k))
usage_put (Application kind) before between after f g status (in_want e stays kept) one same = unlike 8 e one (λ k. omega (arith, k))
usage_put StoreFailed before between after f g status (whole e put kept) one same = unlike 6 e one (λ k. omega (arith, k))
usage_put StoreFailed before between after f g status (in_part e front rose later) one same = unlike 7 e one (λ k. omega (arith, k))
usage_put StoreFailed before between after f g status (in_want e stays kept) one same = unlike 8 e one (λ k. omega (arith, k))
usage_put Memory before between after f g status (whole e put kept) one same = unlike 8 e one (λ k. omega (arith, k))
usage_put Memory before between after f g status (in_part e front rose later) one same = unlike 7 e one (λ k. omega (arith, k))
usage_put Memory before between after f g status (in_want e stays kept) one same = unlike 8 e one (λ k. omega (arith, k))
