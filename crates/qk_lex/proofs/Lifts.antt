-- What stands in a region is a token there.
use Rattle.std.specs.Prelude.{◌≡◌, refl, Bool, true, false, [], ◌∷◌, Option, Some, None}
use mathlib.Core.Path.{sym, ap, subst}
use Rattle.qk_ast.specs.Characters.{Characters}
use Rattle.qk_ast.specs.Tokens as tokens
use Rattle.qk_ast.specs.Tokens.{Around, Braces, In_hole, In_tag, In_end, Children, is_tag_token, is_end_token, is_child_token, is_token}
use Rattle.qk_lex.specs.Regions.{innermost}
use Rattle.qk_lex.specs.Steps.{Next, Steps, CodeSteps}
use Rattle.qk_lex.proofs.Choices.{some_same, some_none, none_some}

within : (region : tokens.Region) (around : Around) → innermost around ≡ Some region → (outer : Around) × (around ≡ region ∷ outer)
within region [] e = absurd (none_some e)
within region (r ∷ around) e = (around, ap (λ x. x ∷ around) (some_same e))

pub in_module : (around : Around) (opens : Bool) (text : Characters) (next : Option Next) → innermost around ≡ None → CodeSteps false opens text next → Steps (is_token around) around opens text next
in_module [] opens text next e k = k [] refl refl
in_module (r ∷ around) opens text next e k = absurd (some_none e)

pub in_braces : (around : Around) (opens : Bool) (text : Characters) (next : Option Next) → innermost around ≡ Some Braces → CodeSteps false opens text next → Steps (is_token around) around opens text next
in_braces around opens text next e k = let w = within Braces around e in subst (λ a. Steps (is_token a) a opens text next) (sym w.1) (k (Braces ∷ w.0) refl refl)

pub in_a_hole : (around : Around) (opens : Bool) (text : Characters) (next : Option Next) → innermost around ≡ Some In_hole → CodeSteps true opens text next → Steps (is_token around) around opens text next
in_a_hole around opens text next e k = let w = within In_hole around e in subst (λ a. Steps (is_token a) a opens text next) (sym w.1) (k (In_hole ∷ w.0) refl refl)

pub in_a_tag : (around : Around) (opens : Bool) (text : Characters) (next : Option Next) → innermost around ≡ Some In_tag
    → ((outer : Around) (opens : Bool) → Steps (λ _ t rest. is_tag_token t rest) (In_tag ∷ outer) opens text next) → Steps (is_token around) around opens text next
in_a_tag around opens text next e k = let w = within In_tag around e in subst (λ a. Steps (is_token a) a opens text next) (sym w.1) (k w.0 opens)

pub in_an_end : (around : Around) (opens : Bool) (text : Characters) (next : Option Next) → innermost around ≡ Some In_end
    → ((outer : Around) (opens : Bool) → Steps (λ _ t rest. is_end_token t rest) (In_end ∷ outer) opens text next) → Steps (is_token around) around opens text next
in_an_end around opens text next e k = let w = within In_end around e in subst (λ a. Steps (is_token a) a opens text next) (sym w.1) (k w.0 opens)

pub in_children : (around : Around) (opens : Bool) (text : Characters) (next : Option Next) → innermost around ≡ Some Children
    → ((outer : Around) (opens : Bool) → Steps (λ _ t rest. is_child_token t rest) (Children ∷ outer) opens text next) → Steps (is_token around) around opens text next
in_children around opens text next e k = let w = within Children around e in subst (λ a. Steps (is_token a) a opens text next) (sym w.1) (k w.0 opens)
