-- Faults of reading, writing, deleting and calling, and which of two comes.
use Rattle.std.specs.Prelude.{◌≡◌, refl, [], ◌∷◌}
use Rattle.qk_ast.specs.declared.Expr.{Expr}
use Rattle.qk_ast.specs.declared.AssignOp.{AssignOp}
use Rattle.qk_ast.specs.declared.Bin.{Bin}
use Rattle.qk_ast.specs.declared.Known.{Known}
use Rattle.qk_ast.specs.declared.Stmt.{Stmt}
use Rattle.qk_meaning.specs.Fault.{TypeMismatch, NoProperty, NotCallable, IndexPastEnd, FixedWrite, RenderLog, DuplicateKey}
use Rattle.qk_meaning_rows.specs.Trees.{int, name, text, list_of, record_of, chain, post, dot, index, call, assign, known, plain, element, const, do_it}
use Rattle.qk_meaning_rows.proofs.Calls.{pure, pure_block, effect_block, fails}

-- `[].pop()`
list_popped : pure (post (list_of []) (dot "pop" ∷ call [] ∷ [])) ≡ fails FixedWrite
list_popped = refl

-- `[].pop(1)`: that it is a list comes before the number of arguments
list_popped_wrongly : pure (post (list_of []) (dot "pop" ∷ call (int 1 ∷ []) ∷ [])) ≡ fails FixedWrite
list_popped_wrongly = refl

-- `({ toString: 1 })`
key_that_no_value_has : pure (record_of (("toString", int 1) ∷ [])) ≡ fails NoProperty
key_that_no_value_has = refl

-- `({ toString: 1 < "a" })`: all fields are evaluated before the keys are tried
fields_before_keys : pure (record_of (("toString", chain (int 1) ((Bin.Less, text "a") ∷ [])) ∷ [])) ≡ fails TypeMismatch
fields_before_keys = refl

-- `console.log(1)`
line_in_a_render : pure (known Known.Log (int 1 ∷ [])) ≡ fails RenderLog
line_in_a_render = refl

-- `console.log([])`: the mode comes before the kind
list_logged_in_a_render : pure (known Known.Log (list_of [] ∷ [])) ≡ fails RenderLog
list_logged_in_a_render = refl

-- `[1](0)`
list_called : pure (post (list_of (int 1 ∷ [])) (call (int 0 ∷ []) ∷ [])) ≡ fails NotCallable
list_called = refl

-- `[1](1 < "a")`: arguments come before the kind of what is called
arguments_before_the_call : pure (post (list_of (int 1 ∷ [])) (call (chain (int 1) ((Bin.Less, text "a") ∷ []) ∷ []) ∷ [])) ≡ fails TypeMismatch
arguments_before_the_call = refl

-- `[1].slice(undefined)`: an argument that may be left out isn't `undefined`
slice_of_undefined : pure (post (list_of (int 1 ∷ [])) (dot "slice" ∷ call (Expr.Undefined ∷ []) ∷ [])) ≡ fails TypeMismatch
slice_of_undefined = refl

-- `const a = [1]; a[1] = 2; a[3] = 3;`
written_past_the_end : effect_block (
    const (plain "a") (list_of (int 1 ∷ [])) ∷
    do_it (assign AssignOp.Set (post (name "a") (index (int 1) ∷ [])) (int 2)) ∷
    do_it (assign AssignOp.Set (post (name "a") (index (int 3) ∷ [])) (int 3)) ∷
    []) ≡ fails IndexPastEnd
written_past_the_end = refl

-- `const a = [1]; a[0] -= "a";` in a render: the operator comes before the writing
operator_before_writing : pure_block (const (plain "a") (list_of (int 1 ∷ [])) ∷ do_it (assign AssignOp.Sub (post (name "a") (index (int 0) ∷ [])) (text "a")) ∷ []) ≡ fails TypeMismatch
operator_before_writing = refl

-- `const a = [1]; a[0] = 2;` in a render
fixed_list_written : pure_block (const (plain "a") (list_of (int 1 ∷ [])) ∷ do_it (assign AssignOp.Set (post (name "a") (index (int 0) ∷ [])) (int 2)) ∷ []) ≡ fails FixedWrite
fixed_list_written = refl

-- `const a = []; delete a["toString"];` and `const a = []; delete a[0];`: the key comes before the kind of object
array_key_deleted : effect_block (const (plain "a") (list_of []) ∷ Stmt.Delete (post (name "a") (index (text "toString") ∷ [])) ∷ []) ≡ fails NoProperty
array_key_deleted = refl

array_index_deleted : effect_block (const (plain "a") (list_of []) ∷ Stmt.Delete (post (name "a") (index (int 0) ∷ [])) ∷ []) ≡ fails TypeMismatch
array_index_deleted = refl

-- `<p><b key="1"/><i key={1}/>{{}}</p>`: children are tried by place, and a key is kept as text
key_given_twice : pure (element "p" [] (element "b" (("key", text "1") ∷ []) [] ∷ element "i" (("key", int 1) ∷ []) [] ∷ record_of [] ∷ [])) ≡ fails DuplicateKey
key_given_twice = refl

-- `<p onClick$={1}>{{}}</p>`: attributes are tried before children
attributes_before_children : pure (element "p" (("onClick$", int 1) ∷ []) (record_of [] ∷ [])) ≡ fails NotCallable
attributes_before_children = refl
