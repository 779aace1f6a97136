-- What an optional value says, and the item of a component.
use Rattle.std.specs.Prelude.{◌≡◌, Bool, true, List, Option, Some, None, IsSome, IfSome, IfNone, codes}
use Rattle.std.proofs.Common.{ap, ◌∙◌}
use Rattle.std.proofs.lemmas.Bool.{false≢true}
use Rattle.qk_ast.specs.declared.Item.{Item}
use Rattle.qk_ast.specs.declared.Expr.{Expr}
use Rattle.qk_ast.specs.declared.Stmt.{Stmt}
use Rattle.qk_meaning.specs.Value.{Text}
use Rattle.qk_first.specs.Shape.{app_of, block_of, call_of}

-- what follows of a value, of whatever value there is
pub if_some : {A : Type 0} (o : Option A) (P Q : A → Type 0) → ((a : A) → P a → Q a) → IfSome o P → IfSome o Q
if_some (Some a) P Q step h = step a h
if_some None P Q step h = tt

pub app_is : (item : Item) (x : Expr) (statements : List Stmt) → item.exported ≡ true → item.name ≡ codes "App" → item.init ≡ call_of (codes "component$") x → x ≡ block_of statements → item ≡ app_of statements
app_is item x statements exported name made block =
    ap (λ (b : Bool). record { exported = b; name = item.name; init = item.init }) exported
    ∙ ap (λ (n : Text). record { exported = true; name = n; init = item.init }) name
    ∙ ap (λ (i : Expr). record { exported = true; name = codes "App"; init = i }) made
    ∙ ap (λ (b : Expr). record { exported = true; name = codes "App"; init = call_of (codes "component$") b }) block

pub both_some : {A : Type 0} (o : Option A) (P Q R : A → Type 0) → ((a : A) → P a → Q a → R a) → IfSome o P → IfSome o Q → IfSome o R
both_some (Some a) P Q R step h k = step a h k
both_some None P Q R step h k = tt

-- what is refuted in any case is where there is no value
pub refuted : {A : Type 0} (o : Option A) (P : Type 0) → (P → ⊥) → IfNone o (¬ P)
refuted (Some a) P h = tt
refuted None P h = h

-- where a fact would give a value and there is none, the fact doesn't hold
pub unless_some : {A : Type 0} (o : Option A) (P : Type 0) → (P → IsSome o) → IfNone o (¬ P)
unless_some (Some a) P h = tt
unless_some None P h = λ p. false≢true (h p)
