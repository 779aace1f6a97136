-- A scope's statement is read in its two parts.
use Rattle.std.proofs.Common.{◌≡◌, refl, ℕ, Ok, Err}
use Rattle.qk_ast.specs.declared.Stmt.TheVariants as s
use Rattle.qk_ast.specs.declared.Pattern.TheVariants as p
use Rattle.qk_reading.specs.Input.{Input, Outcome, Reader, and_then, ◌>>◌, pure}
use Rattle.qk_reading.specs.Parts.{scope, scope_call}
use Rattle.qk_module.specs.ScopeParts.{scope_names, scope_word, scope_end}

then_then : {A B C : Type 0} (o : Outcome A) (f : A → Reader B) (g : B → Reader C) → and_then (and_then o f) g ≡ and_then o (λ x i. and_then (f x i) g)
then_then (Ok p) f g = refl
then_then (Err e) f g = refl

pub scope_parts : (room : ℕ) (i : Input) → scope room i ≡ and_then (scope_names room i) (λ xs. scope_end >> pure (s.Const (p.Scope xs) scope_call))
unfolding scope scope_names scope_word scope_end
scope_parts room i = simp then_then
