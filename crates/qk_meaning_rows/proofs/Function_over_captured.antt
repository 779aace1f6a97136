-- Plain functions of one site that differ in a captured value are not the same.
use Rattle.std.specs.Prelude.{◌≡◌, refl, true, List, [], ◌∷◌, codes, None}
use Rattle.qk_ast.specs.declared.Module.{Module}
use Rattle.qk_ast.specs.declared.Expr.{Expr}
use Rattle.qk_ast.specs.declared.Bin.{Bin}
use Rattle.qk_ast.specs.declared.AssignOp.{AssignOp}
use Rattle.qk_ast.specs.declared.Known.{Known}
use Rattle.qk_meaning.specs.Value.{Text}
use Rattle.qk_ast.specs.Sources.{Named_module}
use Rattle.qk_meaning.specs.Run.{Line, Happens}
use Rattle.qk_meaning_rows.specs.Trees.{int, name, text, list_of, record_of, chain, choice, post, dot, call, assign, known, gives, block, plain, fields, scope, arrow, element, component, const, do_it, give_back, importing, item}
use Rattle.qk_meaning_rows.specs.Common.{usual, printed, printed_captured, printed_built, lines_of}

abbrev pub root_module : Module
root_module = record {
  imports = importing ("component$" ∷ "useSignal" ∷ "useStore" ∷ "useTask$" ∷ []) "@builder.io/qwik" ∷ [];
  items =
      item true "C"
      (post (name "component$")
      (call (arrow 0 (plain "props" ∷ [])
      (gives (element "p" []
      (choice (post (name "props") (dot "s" ∷ dot "f" ∷ [])) (post (name "props") (dot "s" ∷ dot "f" ∷ call [] ∷ [])) (text "no") ∷ []))) ∷ []) ∷ [])) ∷
      item true "App"
      (post (name "component$")
      (call (arrow 1 []
      (block (
      const (plain "n") (post (name "useSignal") (call (int 0 ∷ []) ∷ [])) ∷
      const (plain "s") (post (name "useStore") (call (record_of (("f", Expr.Null) ∷ []) ∷ []) ∷ [])) ∷
      const (plain "v") (post (name "n") (dot "value" ∷ [])) ∷
      do_it (post (name "useTask$")
      (call (arrow 2 (fields ("track" ∷ []) ∷ [])
      (block (
      do_it (post (name "track") (call (arrow 3 [] (gives (post (name "s") (dot "f" ∷ []))) ∷ []) ∷ [])) ∷
      do_it (known Known.Log (text "f" ∷ [])) ∷
      [])) ∷ []) ∷ [])) ∷
      give_back (element "div" []
      (
      component "C" (("s", name "s") ∷ []) [] ∷
      element "button"
      (
      ("id", text "b") ∷ (
        "onClick$",
        arrow 4 []
            (block (
            do_it (assign AssignOp.Set (post (name "s") (dot "f" ∷ [])) (arrow 5 [] (gives (name "v")))) ∷
            do_it (assign AssignOp.Set (post (name "n") (dot "value" ∷ []))
            (chain (post (name "n") (dot "value" ∷ [])) ((Bin.Add, int 1) ∷ []))) ∷
            [])),
      ) ∷
      []) (post (name "n") (dot "value" ∷ []) ∷ []) ∷
      element "button"
      (
      ("id", text "c") ∷
      ("onClick$", arrow 6 [] (block (do_it (assign AssignOp.Set (post (name "s") (dot "f" ∷ [])) (arrow 7 [] (gives (name "v")))) ∷ []))) ∷
      []) [] ∷
      [])) ∷
      [])) ∷ []) ∷ [])) ∷
      [];
}

abbrev pub modules : List Named_module
modules = (codes "root", root_module) ∷ []

abbrev pub script : List Line
script = Happens (record { kind = codes "click"; id = codes "b"; value = None }) ∷ Happens (record { kind = codes "click"; id = codes "b"; value = None }) ∷ Happens (record { kind = codes "click"; id = codes "c"; value = None }) ∷ Happens (record { kind = codes "click"; id = codes "c"; value = None }) ∷ []

abbrev pub built_root : Module
built_root = record {
  imports = importing ("componentQrl" ∷ "qrl" ∷ []) "@builder.io/qwik" ∷ [];
  items =
      item true "C" (post (name "componentQrl") (call (post (name "qrl") (call (text "root_s1" ∷ list_of [] ∷ []) ∷ []) ∷ []) ∷ [])) ∷
      item true "App" (post (name "componentQrl") (call (post (name "qrl") (call (text "root_s2" ∷ list_of [] ∷ []) ∷ []) ∷ []) ∷ [])) ∷
      [];
}

abbrev pub built_root_s1 : Module
built_root_s1 = record {
  imports = [];
  items = item true "root_s1"
      (arrow 0 (plain "props" ∷ [])
      (gives (element "p" []
      (choice (post (name "props") (dot "s" ∷ dot "f" ∷ [])) (post (name "props") (dot "s" ∷ dot "f" ∷ call [] ∷ [])) (text "no") ∷ [])))) ∷ [];
}

abbrev pub built_root_s2 : Module
built_root_s2 = record {
  imports = importing ("qrl" ∷ "useSignal" ∷ "useStore" ∷ "useTaskQrl" ∷ []) "@builder.io/qwik" ∷ importing ("C" ∷ []) "./root.js" ∷ [];
  items = item true "root_s2"
      (arrow 0 []
      (block (
      const (plain "n") (post (name "useSignal") (call (int 0 ∷ []) ∷ [])) ∷
      const (plain "s") (post (name "useStore") (call (record_of (("f", Expr.Null) ∷ []) ∷ []) ∷ [])) ∷
      const (plain "v") (post (name "n") (dot "value" ∷ [])) ∷
      do_it (post (name "useTaskQrl") (call (post (name "qrl") (call (text "root_s3" ∷ list_of (name "s" ∷ []) ∷ []) ∷ []) ∷ []) ∷ [])) ∷
      give_back (element "div" []
      (
      component "C" (("s", name "s") ∷ []) [] ∷
      element "button"
      (
      ("id", text "b") ∷
      ("onClick$", post (name "qrl") (call (text "root_s4" ∷ list_of (name "s" ∷ name "v" ∷ name "n" ∷ []) ∷ []) ∷ [])) ∷
      []) (post (name "n") (dot "value" ∷ []) ∷ []) ∷
      element "button"
      (("id", text "c") ∷ ("onClick$", post (name "qrl") (call (text "root_s5" ∷ list_of (name "s" ∷ name "v" ∷ []) ∷ []) ∷ [])) ∷ []) [] ∷
      [])) ∷
      []))) ∷ [];
}

abbrev pub built_root_s3 : Module
built_root_s3 = record {
  imports = importing ("useLexicalScope" ∷ []) "@builder.io/qwik" ∷ [];
  items = item true "root_s3"
      (arrow 0 (fields ("track" ∷ []) ∷ [])
      (block (
      const (scope ("s" ∷ [])) (post (name "useLexicalScope") (call [] ∷ [])) ∷
      do_it (post (name "track") (call (arrow 1 [] (gives (post (name "s") (dot "f" ∷ []))) ∷ []) ∷ [])) ∷
      do_it (known Known.Log (text "f" ∷ [])) ∷
      []))) ∷ [];
}

abbrev pub built_root_s4 : Module
built_root_s4 = record {
  imports = importing ("useLexicalScope" ∷ []) "@builder.io/qwik" ∷ [];
  items = item true "root_s4"
      (arrow 0 []
      (block (
      const (scope ("s" ∷ "v" ∷ "n" ∷ [])) (post (name "useLexicalScope") (call [] ∷ [])) ∷
      do_it (assign AssignOp.Set (post (name "s") (dot "f" ∷ [])) (arrow 1 [] (gives (name "v")))) ∷
      do_it (assign AssignOp.Set (post (name "n") (dot "value" ∷ [])) (chain (post (name "n") (dot "value" ∷ [])) ((Bin.Add, int 1) ∷ []))) ∷
      []))) ∷ [];
}

abbrev pub built_root_s5 : Module
built_root_s5 = record {
  imports = importing ("useLexicalScope" ∷ []) "@builder.io/qwik" ∷ [];
  items = item true "root_s5"
      (arrow 0 []
      (block (
      const (scope ("s" ∷ "v" ∷ [])) (post (name "useLexicalScope") (call [] ∷ [])) ∷
      do_it (assign AssignOp.Set (post (name "s") (dot "f" ∷ [])) (arrow 1 [] (gives (name "v")))) ∷
      []))) ∷ [];
}

abbrev pub built : List Named_module
built = (codes "root", built_root) ∷ (codes "root_s1", built_root_s1) ∷ (codes "root_s2", built_root_s2) ∷ (codes "root_s3", built_root_s3) ∷ (codes "root_s4", built_root_s4) ∷ (codes "root_s5", built_root_s5) ∷ []

-- the symbols of kind task
abbrev pub tasks : List Text
tasks = codes "root_s3" ∷ []

-- what is printed, in the reading with whole scopes
shown : printed modules usual script ≡ lines_of (
    codes "item 0" ∷
    codes "log f" ∷
    codes "html <div><p>no</p><button id=\"b\">0</button><button id=\"c\"></button></div>" ∷
    codes "item 1" ∷
    codes "log f" ∷
    codes "html <div><p>0</p><button id=\"b\">1</button><button id=\"c\"></button></div>" ∷
    codes "item 2" ∷
    codes "log f" ∷
    codes "html <div><p>1</p><button id=\"b\">2</button><button id=\"c\"></button></div>" ∷
    codes "item 3" ∷
    codes "log f" ∷
    codes "html <div><p>2</p><button id=\"b\">2</button><button id=\"c\"></button></div>" ∷
    codes "item 4" ∷
    codes "html <div><p>2</p><button id=\"b\">2</button><button id=\"c\"></button></div>" ∷
    [])
shown = refl

-- the same in the reading with captured values
shown_captured : printed_captured modules usual script ≡ lines_of (
    codes "item 0" ∷
    codes "log f" ∷
    codes "html <div><p>no</p><button id=\"b\">0</button><button id=\"c\"></button></div>" ∷
    codes "item 1" ∷
    codes "log f" ∷
    codes "html <div><p>0</p><button id=\"b\">1</button><button id=\"c\"></button></div>" ∷
    codes "item 2" ∷
    codes "log f" ∷
    codes "html <div><p>1</p><button id=\"b\">2</button><button id=\"c\"></button></div>" ∷
    codes "item 3" ∷
    codes "log f" ∷
    codes "html <div><p>2</p><button id=\"b\">2</button><button id=\"c\"></button></div>" ∷
    codes "item 4" ∷
    codes "html <div><p>2</p><button id=\"b\">2</button><button id=\"c\"></button></div>" ∷
    [])
shown_captured = refl

-- the same of the built files
shown_built : printed_built tasks built usual script ≡ lines_of (
    codes "item 0" ∷
    codes "log f" ∷
    codes "html <div><p>no</p><button id=\"b\">0</button><button id=\"c\"></button></div>" ∷
    codes "item 1" ∷
    codes "log f" ∷
    codes "html <div><p>0</p><button id=\"b\">1</button><button id=\"c\"></button></div>" ∷
    codes "item 2" ∷
    codes "log f" ∷
    codes "html <div><p>1</p><button id=\"b\">2</button><button id=\"c\"></button></div>" ∷
    codes "item 3" ∷
    codes "log f" ∷
    codes "html <div><p>2</p><button id=\"b\">2</button><button id=\"c\"></button></div>" ∷
    codes "item 4" ∷
    codes "html <div><p>2</p><button id=\"b\">2</button><button id=\"c\"></button></div>" ∷
    [])
shown_built = refl
