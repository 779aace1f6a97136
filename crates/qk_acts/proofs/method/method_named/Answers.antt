use Rattle.std.proofs.Common.{◌∙◌, ap, sym}
use Rattle.qk_meaning.specs.Value as M
use Rattle.qk_meaning.specs.Heap.{object_at}
use Rattle.qk_meaning.specs.Methods as methods
use Rattle.qk_value.specs.View.{seen}
use Rattle.qk_value.proofs.Viewing.{seen-Elem}
use Rattle.qk_heap.specs.Seen.{heap_seen}
use Rattle.qk_acts.proofs.method.method_named.Goals as goal

pub returns-in-Ref : goal.returns-in-Ref
returns-in-Ref c = λ names.
    c.object_method.ensures names
    ∙ ap (methods.object_method (object_at (heap_seen names c.args.heap.now) c.in-Ref.a.0)) c.as_str-in-Ref.ensures
    ∙ ap (λ w. methods.method_of (heap_seen names c.args.heap.now) (seen names w) (M.Words c.args.name.now)) (sym c.in-Ref.is)

pub returns-in-Elem : goal.returns-in-Elem
returns-in-Elem c = λ names. ap (λ w. methods.method_of (heap_seen names c.args.heap.now) w (M.Words c.args.name.now)) (sym (ap (seen names) c.in-Elem.is ∙ seen-Elem names _))
