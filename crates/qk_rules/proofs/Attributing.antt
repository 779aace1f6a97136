-- An attribute of a tag, as it is tried.
use Rattle.std.specs.Prelude.{◌≡◌, true, false, not, List, [], ◌∷◌, ◌++◌, Option, Some, None, MatchOption, Result, Err, IfErr}
use Rattle.std.proofs.Common.{ap, sym, subst}
use Rattle.qk_ast.specs.declared.Tag.{Tag}
use Rattle.qk_ast.specs.declared.Field.{Field}
use Rattle.qk_ast.specs.declared.RuleKind.TheVariants.{TagRefused}
use Rattle.qk_ast.specs.Texts.{Text}
use Rattle.qk_ast.specs.Tags.{is_attribute}
use Rattle.qk_ast.specs.Placing.{Placing_breach, refuse_if}
use Rattle.qk_rules.specs.declared.fault.RuleFault.{RuleFault}
use Rattle.qk_rules.specs.declared.fault.RuleFault.TheVariants.{Refused, Memory}
use Rattle.qk_rules.specs.Checking.{Refuses, want}
use Rattle.qk_rules.specs.Parts.{attribute_breaches}
use Rattle.qk_rules.proofs.Answering.{by_form, refused_told}

-- what is known once an attribute was tried
abbrev Tried : Tag → Field → (earlier : List Text) → Option (List Text) → Type 0
Tried tag f earlier found = MatchOption found (is_attribute tag f.key f.value earlier ≡ false) (λ all. (is_attribute tag f.key f.value earlier ≡ true) × (all ≡ earlier ++ f.key ∷ []))

pub fits : (tag : Tag) (f : Field) (earlier : List Text) (found : Option (List Text)) (all : List Text) → Tried tag f earlier found → found ≡ Some all
    → (attribute_breaches tag f earlier ≡ []) × (all ≡ earlier ++ f.key ∷ [])
fits tag f earlier found all h e = let k = subst (Tried tag f earlier) e h in (ap (λ b. refuse_if (not b) TagRefused f.key) k.0, k.1)

pub misfits : (tag : Tag) (f : Field) (earlier : List Text) (found : Option (List Text)) (name : Text) → Tried tag f earlier found → found ≡ None → name ≡ f.key
    → Refuses (attribute_breaches tag f earlier) (Refused TagRefused name)
misfits tag f earlier found name h e same = let k = subst (Tried tag f earlier) e h in
    (by_form (ap (λ b. refuse_if (not b) TagRefused f.key) k) (refused_told f.key name TagRefused same)).comes

-- for want of memory
pub on_want : {T : Type 0} (all : List Placing_breach) (result : Result T RuleFault) → result ≡ Err Memory → IfErr result (λ fault. Refuses all fault)
on_want all result same = subst (λ r. IfErr r (λ fault. Refuses all fault)) (sym same) want
