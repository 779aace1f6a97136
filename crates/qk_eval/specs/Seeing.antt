-- What the evaluator makes, as the meaning has it.
use Rattle.std.specs.Prelude.{List, map}
use Rattle.qk_meaning.specs.Value as M
use Rattle.qk_meaning.specs.Program.{Program, captures_in}
use Rattle.qk_meaning.specs.References as R
use Rattle.qk_meaning.specs.Flow as F
use Rattle.qk_meaning.specs.Calls as C
use Rattle.qk_value.specs.declared.value.Value.{Value}
use Rattle.qk_ast.specs.Texts.{Text}
use Rattle.qk_value.specs.declared.value.ElemTag.{ElemTag}
use Rattle.qk_value.specs.View.{seen, seen_fields, shown_by}
use Rattle.qk_code.specs.Hooks.{kind_seen}
use Rattle.qk_acts.specs.Naming.{method_seen}
use Rattle.qk_eval.specs.declared.reference.Reference.{Reference}
use Rattle.qk_eval.specs.declared.flow.Flow.{Flow}
use Rattle.qk_eval.specs.declared.callee.Callee.{Callee}

abbrev pub value_seen : Program → Value → M.Value
value_seen p v = seen (captures_in p) v

abbrev pub values_seen : Program → List Value → List M.Value
values_seen p vs = map (seen (captures_in p)) vs

abbrev pub reference_seen : Program → Reference → R.Reference
reference_seen p (Reference.Of v) = R.Of (value_seen p v)
reference_seen p (Reference.Member object key) = R.Member (value_seen p object) (value_seen p key)
reference_seen p (Reference.Local name) = R.Local name
reference_seen p Reference.Tracker = R.Tracker
reference_seen p (Reference.Framework name) = R.Framework_name name

abbrev pub flow_seen : Program → Flow → F.Flow
flow_seen p Flow.Onward = F.Onward
flow_seen p Flow.Broke = F.Broke
flow_seen p Flow.Continued = F.Continued
flow_seen p (Flow.Returned v) = F.Returned (value_seen p v)

abbrev pub callee_seen : Program → Callee → C.Callee
callee_seen p (Callee.Value v) = C.A_value (value_seen p v)
callee_seen p (Callee.Method m v) = C.A_method (method_seen m) (value_seen p v)
callee_seen p (Callee.Hook kind) = C.A_hook (kind_seen kind)
callee_seen p Callee.Tracker = C.The_tracker
callee_seen p Callee.Dollar = C.The_dollar
callee_seen p Callee.Mark = C.The_mark
callee_seen p Callee.Qrl = C.The_qrl

abbrev pub fields_seen : Program → List (Text × Value) → M.Fields
fields_seen p fields = seen_fields (captures_in p) fields

-- texts are as they are
abbrev pub text_seen : Program → Text → Text
text_seen p text = text

abbrev pub texts_seen : Program → List Text → List Text
texts_seen p texts = texts

abbrev pub shown_seen : Program → ElemTag → M.Shown
shown_seen p tag = shown_by tag

-- nothing is given
abbrev pub nothing : Program → Unit {0} → Unit {0}
nothing p u = u
