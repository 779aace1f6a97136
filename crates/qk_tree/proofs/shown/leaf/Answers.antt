use Rattle.std.proofs.Common.{◌∙◌, ap, refl}
use Rattle.qk_meaning.specs.Expansion.{leaf}
use Rattle.qk_value.specs.View.{seen, seen_element}
use Rattle.qk_value.proofs.Viewing.{seen-Elem}
use Rattle.qk_nodes.specs.Tree.{nodes_of}
use Rattle.qk_tree.proofs.Steps.{shows_nothing, shows_no_text}
use Rattle.qk_tree.proofs.shown.leaf.Goals as goal

pub returns-in-Undefined : goal.returns-in-Undefined
returns-in-Undefined g c = λ names. (shows_nothing (seen names c.args.item.now) (nodes_of names c.args.out.now.items) (ap (λ v. leaf (seen names v) (tt {0})) c.in-Undefined.is), refl)

pub returns-in-Null : goal.returns-in-Null
returns-in-Null g c = λ names. (shows_nothing (seen names c.args.item.now) (nodes_of names c.args.out.now.items) (ap (λ v. leaf (seen names v) (tt {0})) c.in-Null.is), refl)

pub returns-in-Bool : goal.returns-in-Bool
returns-in-Bool g c = λ names. (shows_nothing (seen names c.args.item.now) (nodes_of names c.args.out.now.items) (ap (λ v. leaf (seen names v) (tt {0})) c.in-Bool.is), refl)

pub returns-in-Elem : goal.returns-in-Elem
returns-in-Elem g c = λ names.
    shows_no_text (seen names c.args.item.now) (seen_element names c.in-Elem.field-0) (nodes_of names c.args.out.now.items) (ap (seen names) c.in-Elem.is ∙ seen-Elem names c.in-Elem.field-0) refl
