use Rattle.std.proofs.Common.{◌∙◌, ap, Some}
use Rattle.qk_lex.specs.Regions.{region_of}
use Rattle.qk_lex.proofs.Lifts.{in_braces, in_a_hole, in_a_tag, in_an_end, in_children}
use Rattle.qk_lex.proofs.step.token_in.Goals as goal

pub returns-in-Braces-clause-value : goal.returns-in-Braces-clause-value
returns-in-Braces-clause-value c = λ around e. in_braces around c.args.before_jsx _ _ (e ∙ ap (λ r. Some (region_of r)) c.in-Braces.is) c.code_token.ensures.value

pub returns-in-Hole-clause-value : goal.returns-in-Hole-clause-value
returns-in-Hole-clause-value c = λ around e. in_a_hole around c.args.before_jsx _ _ (e ∙ ap (λ r. Some (region_of r)) c.in-Hole.is) c.code_token-in-Hole.ensures.value

pub returns-in-Tag-clause-value : goal.returns-in-Tag-clause-value
returns-in-Tag-clause-value c = λ around e. in_a_tag around c.args.before_jsx _ _ (e ∙ ap (λ r. Some (region_of r)) c.in-Tag.is) c.tag_token.ensures.value

pub returns-in-End-clause-value : goal.returns-in-End-clause-value
returns-in-End-clause-value c = λ around e. in_an_end around c.args.before_jsx _ _ (e ∙ ap (λ r. Some (region_of r)) c.in-End.is) c.end_token.ensures.value

pub returns-in-Children-clause-value : goal.returns-in-Children-clause-value
returns-in-Children-clause-value c = λ around e. in_children around c.args.before_jsx _ _ (e ∙ ap (λ r. Some (region_of r)) c.in-Children.is) c.child_token.ensures.value
