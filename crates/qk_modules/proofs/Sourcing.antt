-- The module that a source names.
use Rattle.std.specs.Prelude.{◌≡◌, refl, ℕ, ◌==◌, Bool, true, false, ◌&&◌, ◌||◌, [], ◌∷◌, ◌++◌, Some, None, Option, codes, nat_lt, length}
use Rattle.std.proofs.Common.{ap, sym, subst, ◌∙◌}
use lib.Dec.{eqb→eq, T}
use Rattle.std.proofs.lemmas.Bool.{false≢true}
use Rattle.std.proofs.lemmas.List.{append_cancel_left, append_cancel_right}
use Rattle.qk_ast.specs.Characters.{every, is_small_letter, is_digit}
use Rattle.qk_ast.specs.Texts.{Text, same_text}
use Rattle.qk_ast.specs.Framework.{is_module_name}
use Rattle.qk_ast.specs.Sources.{up_to_dot, source_module, is_module_source}
use Rattle.qk_modules.specs.Gathering.{file_of, source_of, named_by}
use Rattle.qk_modules.proofs.Bits.{left, right, both, text_is, text_own, fails}

abbrev in_name : ℕ → Bool
in_name d = is_small_letter d || is_digit d

-- no letter and no digit is a dot
no_dot : (c : ℕ) → in_name c ≡ true → (c == 46) ≡ false
no_dot c h = fails (c == 46) (λ e. false≢true (sym (ap in_name (eqb→eq c 46 (subst T (sym e) tt))) ∙ h))

up_to_named : (cs rest : Text) → every in_name cs ≡ true → up_to_dot (cs ++ 46 ∷ rest) ≡ cs
up_to_named [] rest h = refl
up_to_named (c ∷ cs) rest h =
    ap (λ b. elim b as (λ _. Text) [ true ↦ [] | false ↦ c ∷ up_to_dot (cs ++ 46 ∷ rest) ]) (no_dot c (left (in_name c) (every in_name cs) h))
    ∙ ap (λ x. c ∷ x) (up_to_named cs rest (right (in_name c) (every in_name cs) h))

all_in_name : (name : Text) → is_module_name name ≡ true → every in_name name ≡ true
all_in_name [] h = refl
all_in_name (c ∷ cs) h =
    let front = left (is_small_letter c && every in_name cs) (nat_lt (length cs) 32) h in
    both (in_name c) (every in_name cs) (ap (λ b. b || is_digit c) (left (is_small_letter c) (every in_name cs) front)) (right (is_small_letter c) (every in_name cs) front)

pub module_of_source : (name : Text) → is_module_name name ≡ true → source_module (source_of name) ≡ name
module_of_source name h = up_to_named name (106 ∷ 115 ∷ 120 ∷ []) (all_in_name name h)

pub source_of_one : (a b : Text) → source_of a ≡ source_of b → a ≡ b
source_of_one a b h = append_cancel_right a b (codes ".jsx") (append_cancel_left (codes "./") (file_of a) (file_of b) h)

pub is_source_of : (name : Text) → is_module_name name ≡ true → is_module_source (source_of name) ≡ true
is_source_of name h =
    both (is_module_name (source_module (source_of name))) (same_text (source_of name) (source_of (source_module (source_of name))))
    (ap is_module_name (module_of_source name h) ∙ h)
    (ap (λ m. same_text (source_of name) (source_of m)) (module_of_source name h) ∙ text_own (source_of name))

-- what a source of a module is
pub source_is : (source : Text) → is_module_source source ≡ true → source ≡ source_of (source_module source)
source_is source h = text_is source (source_of (source_module source)) (right (is_module_name (source_module source)) (same_text source (source_of (source_module source))) h)

pub source_names : (source : Text) → is_module_source source ≡ true → is_module_name (source_module source) ≡ true
source_names source h = left (is_module_name (source_module source)) (same_text source (source_of (source_module source))) h

no_source_of : (base : Text) → is_module_name base ≡ false → is_module_source (source_of base) ≡ false
no_source_of base h =
    fails (is_module_source (source_of base))
    (λ e. false≢true (sym h ∙ ap is_module_name (source_of_one base (source_module (source_of base)) (source_is (source_of base) e)) ∙ source_names (source_of base) e))

pub named_is : (source base : Text) → source ≡ source_of base → is_module_name base ≡ true → Some base ≡ named_by source
named_is source base e h =
    sym (ap named_by e
    ∙ ap (λ b. elim b as (λ _. Option Text) [ true ↦ Some (source_module (source_of base)) | false ↦ None ]) (is_source_of base h)
    ∙ ap Some (module_of_source base h))

pub named_none : (source base : Text) → source ≡ source_of base → is_module_name base ≡ false → None ≡ named_by source
named_none source base e h =
    sym (ap named_by e
    ∙ ap (λ b. elim b as (λ _. Option Text) [ true ↦ Some (source_module (source_of base)) | false ↦ None ]) (no_source_of base h))
