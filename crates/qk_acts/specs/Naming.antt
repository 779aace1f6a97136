-- Methods by their names.
use Rattle.std.specs.Prelude.{Bool, true, false}
use Rattle.qk_meaning.specs.Methods as M
use Rattle.qk_acts.specs.declared.method.Method.{Method}

abbrev pub method_seen : Method → M.Method
method_seen Method.Map = M.Map
method_seen Method.Filter = M.Filter
method_seen Method.Slice = M.Slice
method_seen Method.Join = M.Join
method_seen Method.Push = M.Push
method_seen Method.Pop = M.Pop
method_seen Method.Splice = M.Splice
method_seen Method.Includes = M.Includes
method_seen Method.StartsWith = M.Starts_with

-- the one method of texts or the other
abbrev pub text_method : (starts : Bool) → M.Method
text_method true = M.Starts_with
text_method false = M.Includes

-- nothing is given
abbrev pub nothing : {A : Type 0} → A → Unit {0} → Unit {0}
nothing a u = u
