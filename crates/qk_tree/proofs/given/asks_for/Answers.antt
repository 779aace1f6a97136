use Rattle.std.proofs.Common.{◌∙◌, ap, sym}
use Rattle.qk_ast.specs.Texts.{same_text}
use Rattle.qk_meaning.specs.Expansion.{slot_of}
use Rattle.qk_value.specs.View.{seen}
use Rattle.qk_value.proofs.Viewing.{seen-Elem}
use Rattle.qk_tree.proofs.given.asks_for.Goals as goal

pub returns-in-Elem : goal.returns-in-Elem
returns-in-Elem c = λ names.
    c.is_same.ensures ∙ ap (λ e. same_text e.slot c.args.name.now) c.get.ensures ∙ ap (λ v. same_text (slot_of v) c.args.name.now) (sym (ap (seen names) c.in-Elem.is ∙ seen-Elem names c.in-Elem.element))
