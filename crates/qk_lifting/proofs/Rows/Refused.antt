-- Files that are built files of the counter's index, and files that aren't.
use Rattle.std.specs.Prelude.{◌≡◌, refl, ℕ, true, false, Option, Some, None, [], ◌∷◌, codes}
use Prim.Native.String.{String}
use Rattle.qk_ast.specs.declared.Module.{Module}
use Rattle.qk_ast.specs.declared.Expr.{Expr}
use Rattle.qk_ast.specs.declared.Bin.{Bin}
use Rattle.qk_lifting.specs.declared.SegmentKind.{SegmentKind}
use Rattle.qk_lifting.specs.declared.SegmentKind.TheVariants.{Component, Fn}
use Rattle.qk_lifting.specs.declared.Entry.{Entry}
use Rattle.qk_lifting.specs.declared.AppIndex.{AppIndex}
use Rattle.qk_lifting.specs.Built_file.{Read_file}
use Rattle.qk_lifting.proofs.Rows.Keeping.{is_built}
use Rattle.qk_meaning_rows.specs.Trees.{int, name, text, list_of, chain, post, dot, call, step, gives, block, plain, scope, arrow, element, component, const, let_be, do_it, give_back, inner_block, importing, item}

abbrev entry : String → SegmentKind → ℕ → String → Entry
entry symbol kind captures hooks = record { symbol = codes symbol; kind = kind; captures = captures; hooks = codes hooks }

abbrev counter : AppIndex
counter = record { app = codes "root_s1"; symbols = entry "root_s1" Component 0 "s" ∷ entry "root_s2" Fn 1 "" ∷ [] }

abbrev read : String → Option Entry → Module → Read_file
read name entry code = record { name = codes name; entry = entry; code = code }

abbrev remainder_module : Module
remainder_module = record {
  imports = importing ("componentQrl" ∷ "qrl" ∷ []) "@builder.io/qwik" ∷ [];
  items = item true "App" (post (name "componentQrl") (call (post (name "qrl") (call (text "root_s1" ∷ list_of [] ∷ []) ∷ []) ∷ []) ∷ [])) ∷ [];
}

-- what remains of the counter
remainder : is_built counter [] (read "root" None remainder_module) ≡ true
remainder = refl

abbrev component_of_fn_module : Module
component_of_fn_module = record {
  imports = importing ("componentQrl" ∷ "qrl" ∷ []) "@builder.io/qwik" ∷ [];
  items = item true "App" (post (name "componentQrl") (call (post (name "qrl") (call (text "root_s2" ∷ list_of [] ∷ []) ∷ []) ∷ []) ∷ [])) ∷ [];
}

-- a component of a symbol that is none
component_of_fn : is_built counter [] (read "root" None component_of_fn_module) ≡ false
component_of_fn = refl

abbrev counted_down_module : Module
counted_down_module = record {
  imports = importing ("useLexicalScope" ∷ []) "@builder.io/qwik" ∷ [];
  items = item true "root_s2"
      (arrow 0 []
      (block (const (scope ("n" ∷ [])) (post (name "useLexicalScope") (call [] ∷ [])) ∷ give_back (step false (post (name "n") (dot "value" ∷ []))) ∷ []))) ∷ [];
}

-- another body under the same captures
counted_down : is_built counter [] (read "root_s2" (Some (entry "root_s2" Fn 1 "")) counted_down_module) ≡ true
counted_down = refl

abbrev captures_more_module : Module
captures_more_module = record {
  imports = importing ("useLexicalScope" ∷ []) "@builder.io/qwik" ∷ [];
  items = item true "root_s2"
      (arrow 0 []
      (block (
      const (scope ("n" ∷ "m" ∷ [])) (post (name "useLexicalScope") (call [] ∷ [])) ∷
      give_back (step true (post (name "n") (dot "value" ∷ []))) ∷
      []))) ∷ [];
}

-- more captures than the index has
captures_more : is_built counter [] (read "root_s2" (Some (entry "root_s2" Fn 1 "")) captures_more_module) ≡ false
captures_more = refl

abbrev other_segment_module : Module
other_segment_module = record {
  imports = importing ("qrl" ∷ "useSignal" ∷ []) "@builder.io/qwik" ∷ [];
  items = item true "root_s1"
      (arrow 0 []
      (block (
      const (plain "n") (post (name "useSignal") (call (int 0 ∷ []) ∷ [])) ∷
      give_back (element "button"
      (("id", text "b") ∷ ("onClick$", post (name "qrl") (call (text "root_s2" ∷ list_of (name "n" ∷ []) ∷ []) ∷ [])) ∷ []) (post (name "n") (dot "value" ∷ []) ∷ [])) ∷
      []))) ∷ [];
}

-- the other segment's text
other_segment : is_built counter [] (read "root_s2" (Some (entry "root_s2" Fn 1 "")) other_segment_module) ≡ false
other_segment = refl

abbrev not_exported_module : Module
not_exported_module = record {
  imports = importing ("useLexicalScope" ∷ []) "@builder.io/qwik" ∷ [];
  items = item false "root_s2"
      (arrow 0 []
      (block (const (scope ("n" ∷ [])) (post (name "useLexicalScope") (call [] ∷ [])) ∷ give_back (step true (post (name "n") (dot "value" ∷ []))) ∷ []))) ∷ [];
}

-- a segment that isn't exported
not_exported : is_built counter [] (read "root_s2" (Some (entry "root_s2" Fn 1 "")) not_exported_module) ≡ false
not_exported = refl

abbrev scope_inside_module : Module
scope_inside_module = record {
  imports = importing ("useLexicalScope" ∷ []) "@builder.io/qwik" ∷ [];
  items = item true "root_s2"
      (arrow 0 []
      (block (inner_block (const (scope ("n" ∷ [])) (post (name "useLexicalScope") (call [] ∷ [])) ∷ do_it (step true (post (name "n") (dot "value" ∷ []))) ∷ []) ∷ []))) ∷ [];
}

-- `useLexicalScope` in a block inside
scope_inside : is_built counter [] (read "root_s2" (Some (entry "root_s2" Fn 1 "")) scope_inside_module) ≡ false
scope_inside = refl

abbrev segment_module : Module
segment_module = record {
  imports = importing ("qrl" ∷ "useSignal" ∷ []) "@builder.io/qwik" ∷ [];
  items = item true "root_s1"
      (arrow 0 []
      (block (
      const (plain "n") (post (name "useSignal") (call (int 0 ∷ []) ∷ [])) ∷
      give_back (element "button"
      (("id", text "b") ∷ ("onClick$", post (name "qrl") (call (text "root_s2" ∷ list_of (name "n" ∷ []) ∷ []) ∷ [])) ∷ []) (post (name "n") (dot "value" ∷ []) ∷ [])) ∷
      []))) ∷ [];
}

-- the component's segment
segment : is_built counter [] (read "root_s1" (Some (entry "root_s1" Component 0 "s")) segment_module) ≡ true
segment = refl

abbrev captures_less_module : Module
captures_less_module = record {
  imports = importing ("qrl" ∷ "useSignal" ∷ []) "@builder.io/qwik" ∷ [];
  items = item true "root_s1"
      (arrow 0 []
      (block (
      const (plain "n") (post (name "useSignal") (call (int 0 ∷ []) ∷ [])) ∷
      give_back (element "button"
      (("id", text "b") ∷ ("onClick$", post (name "qrl") (call (text "root_s2" ∷ list_of [] ∷ []) ∷ [])) ∷ []) (post (name "n") (dot "value" ∷ []) ∷ [])) ∷
      []))) ∷ [];
}

-- a `qrl` with fewer captures
captures_less : is_built counter [] (read "root_s1" (Some (entry "root_s1" Component 0 "s")) captures_less_module) ≡ false
captures_less = refl

abbrev unknown_symbol_module : Module
unknown_symbol_module = record {
  imports = importing ("qrl" ∷ "useSignal" ∷ []) "@builder.io/qwik" ∷ [];
  items = item true "root_s1"
      (arrow 0 []
      (block (
      const (plain "n") (post (name "useSignal") (call (int 0 ∷ []) ∷ [])) ∷
      give_back (element "button"
      (("id", text "b") ∷ ("onClick$", post (name "qrl") (call (text "root_s3" ∷ list_of (name "n" ∷ []) ∷ []) ∷ [])) ∷ []) (post (name "n") (dot "value" ∷ []) ∷ [])) ∷
      []))) ∷ [];
}

-- a `qrl` of a symbol that the index lacks
unknown_symbol : is_built counter [] (read "root_s1" (Some (entry "root_s1" Component 0 "s")) unknown_symbol_module) ≡ false
unknown_symbol = refl

abbrev root_name_listed_module : Module
root_name_listed_module = record {
  imports = importing ("qrl" ∷ "useSignal" ∷ []) "@builder.io/qwik" ∷ [];
  items = item true "root_s1"
      (arrow 0 []
      (block (
      const (plain "n") (post (name "useSignal") (call (int 0 ∷ []) ∷ [])) ∷
      give_back (element "button"
      (("id", text "b") ∷ ("onClick$", post (name "qrl") (call (text "root_s2" ∷ list_of (name "useSignal" ∷ []) ∷ []) ∷ [])) ∷ []) (post (name "n") (dot "value" ∷ []) ∷ [])) ∷
      []))) ∷ [];
}

-- a `qrl` that lists what is no local
root_name_listed : is_built counter [] (read "root_s1" (Some (entry "root_s1" Component 0 "s")) root_name_listed_module) ≡ false
root_name_listed = refl

abbrev task_of_fn_module : Module
task_of_fn_module = record {
  imports = importing ("qrl" ∷ "useSignal" ∷ "useTaskQrl" ∷ []) "@builder.io/qwik" ∷ [];
  items = item true "root_s1"
      (arrow 0 []
      (block (
      const (plain "n") (post (name "useSignal") (call (int 0 ∷ []) ∷ [])) ∷
      do_it (post (name "useTaskQrl") (call (post (name "qrl") (call (text "root_s2" ∷ list_of (name "n" ∷ []) ∷ []) ∷ []) ∷ []) ∷ [])) ∷
      give_back (element "button" (("id", text "b") ∷ ("onClick$", Expr.Null) ∷ []) (post (name "n") (dot "value" ∷ []) ∷ [])) ∷
      []))) ∷ [];
}

-- a task of a symbol that is none
task_of_fn : is_built counter [] (read "root_s1" (Some (entry "root_s1" Component 0 "s")) task_of_fn_module) ≡ false
task_of_fn = refl

abbrev hook_left_out_module : Module
hook_left_out_module = record {
  imports = importing ("qrl" ∷ []) "@builder.io/qwik" ∷ [];
  items = item true "root_s1"
      (arrow 0 []
      (block (
      const (plain "n") (int 0) ∷
      give_back (element "button"
      (("id", text "b") ∷ ("onClick$", post (name "qrl") (call (text "root_s2" ∷ list_of (name "n" ∷ []) ∷ []) ∷ [])) ∷ []) (post (name "n") (dot "value" ∷ []) ∷ [])) ∷
      []))) ∷ [];
}

-- fewer hooks than the index has
hook_left_out : is_built counter [] (read "root_s1" (Some (entry "root_s1" Component 0 "s")) hook_left_out_module) ≡ false
hook_left_out = refl

abbrev hook_behind_let_module : Module
hook_behind_let_module = record {
  imports = importing ("qrl" ∷ "useSignal" ∷ []) "@builder.io/qwik" ∷ [];
  items = item true "root_s1"
      (arrow 0 []
      (block (
      let_be "k" (int 1) ∷
      const (plain "n") (post (name "useSignal") (call (int 0 ∷ []) ∷ [])) ∷
      give_back (element "button"
      (("id", text "b") ∷ ("onClick$", post (name "qrl") (call (text "root_s2" ∷ list_of (name "n" ∷ []) ∷ []) ∷ [])) ∷ []) (post (name "n") (dot "value" ∷ []) ∷ [])) ∷
      []))) ∷ [];
}

-- a hook behind a `let`
hook_behind_let : is_built counter [] (read "root_s1" (Some (entry "root_s1" Component 0 "s")) hook_behind_let_module) ≡ false
hook_behind_let = refl

abbrev arrow_as_listener_module : Module
arrow_as_listener_module = record {
  imports = importing ("useSignal" ∷ []) "@builder.io/qwik" ∷ [];
  items = item true "root_s1"
      (arrow 0 []
      (block (
      const (plain "n") (post (name "useSignal") (call (int 0 ∷ []) ∷ [])) ∷
      give_back (element "button" (("id", text "b") ∷ ("onClick$", arrow 1 [] (gives (int 1))) ∷ []) (post (name "n") (dot "value" ∷ []) ∷ [])) ∷
      []))) ∷ [];
}

-- an arrow as a listener
arrow_as_listener : is_built counter [] (read "root_s1" (Some (entry "root_s1" Component 0 "s")) arrow_as_listener_module) ≡ false
arrow_as_listener = refl

abbrev source_of_module_module : Module
source_of_module_module = record {
  imports = importing ("useLexicalScope" ∷ []) "@builder.io/qwik" ∷ importing ("x" ∷ []) "./root.jsx" ∷ [];
  items = item true "root_s2"
      (arrow 0 []
      (block (
      const (scope ("n" ∷ [])) (post (name "useLexicalScope") (call [] ∷ [])) ∷
      give_back (chain (post (name "n") (dot "value" ∷ [])) ((Bin.Add, name "x") ∷ [])) ∷
      []))) ∷ [];
}

-- a source that is no built file's
source_of_module : is_built counter [] (read "root_s2" (Some (entry "root_s2" Fn 1 "")) source_of_module_module) ≡ false
source_of_module = refl

abbrev asking_module : Module
asking_module = record {
  imports = importing ("useLexicalScope" ∷ []) "@builder.io/qwik" ∷ importing ("x" ∷ []) "./root.js" ∷ [];
  items = item true "root_s2"
      (arrow 0 []
      (block (
      const (scope ("n" ∷ [])) (post (name "useLexicalScope") (call [] ∷ [])) ∷
      give_back (chain (post (name "n") (dot "value" ∷ [])) ((Bin.Add, name "x") ∷ [])) ∷
      []))) ∷ [];
}

abbrev tagging_module : Module
tagging_module = record {
  imports = importing ("useLexicalScope" ∷ []) "@builder.io/qwik" ∷ importing ("X" ∷ []) "./root.js" ∷ [];
  items = item true "root_s2"
      (arrow 0 [] (block (const (scope ("n" ∷ [])) (post (name "useLexicalScope") (call [] ∷ [])) ∷ give_back (component "X" [] []) ∷ []))) ∷ [];
}

abbrev exporting_module : Module
exporting_module = record {
  imports = importing ("componentQrl" ∷ "qrl" ∷ []) "@builder.io/qwik" ∷ [];
  items =
      item true "x" (int 1) ∷
      item true "X" (arrow 0 [] (gives (int 2))) ∷
      item true "App" (post (name "componentQrl") (call (post (name "qrl") (call (text "root_s1" ∷ list_of [] ∷ []) ∷ []) ∷ []) ∷ [])) ∷
      [];
}

-- a name that what remains doesn't export, asked behind it and before it
asks_in_vain : is_built counter (read "root" None remainder_module ∷ []) (read "root_s2" (Some (entry "root_s2" Fn 1 "")) asking_module) ≡ false
asks_in_vain = refl

asked_in_vain : is_built counter (read "root_s2" (Some (entry "root_s2" Fn 1 "")) asking_module ∷ []) (read "root" None remainder_module) ≡ false
asked_in_vain = refl

-- one that it does
asks : is_built counter (read "root" None exporting_module ∷ []) (read "root_s2" (Some (entry "root_s2" Fn 1 "")) asking_module) ≡ true
asks = refl

asked : is_built counter (read "root_s2" (Some (entry "root_s2" Fn 1 "")) asking_module ∷ []) (read "root" None exporting_module) ≡ true
asked = refl

-- one that is no component there
tags_a_value : is_built counter (read "root" None exporting_module ∷ []) (read "root_s2" (Some (entry "root_s2" Fn 1 "")) tagging_module) ≡ false
tags_a_value = refl
