-- What hooks answer: contexts by the nearest ancestor, a computed that reads itself, tasks that make themselves due.
use Rattle.std.specs.Prelude.{◌≡◌, refl, true, false, List, [], ◌∷◌, codes, None}
use Prim.Native.String.{String}
use Rattle.qk_ast.specs.declared.Expr.{Expr}
use Rattle.qk_ast.specs.declared.Item.{Item}
use Rattle.qk_ast.specs.declared.AssignOp.{AssignOp}
use Rattle.qk_ast.specs.declared.Known.{Known}
use Rattle.qk_ast.specs.Sources.{Named_module}
use Rattle.qk_meaning.specs.Run.{Line, Happens}
use Rattle.qk_meaning_rows.specs.Trees.{int, name, text, record_of, choice, post, dot, call, assign, step, known, gives, block, plain, fields, arrow, element, component, const, do_it, give_back, importing, item}
use Rattle.qk_meaning_rows.specs.Common.{usual, printed, lines_of}

-- an application of one module with these items
abbrev application : List Item → List Named_module
application items = (
  codes "root",
  record {
    imports = importing ("component$" ∷ "createContextId" ∷ "noSerialize" ∷ "useComputed$" ∷ "useContext" ∷ "useContextProvider" ∷ "useSignal" ∷ "useStore" ∷ "useTask$" ∷ []) "@builder.io/qwik" ∷ [];
    items = items;
  },
) ∷ []

-- a component whose arrow has this place
abbrev shows : String → Expr → Item
shows t e = item true t (post (name "component$") (call (e ∷ []) ∷ []))

-- the call of a name
abbrev calls : String → List Expr → Expr
calls t arguments = post (name t) (call arguments ∷ [])

abbrev value_of : String → Expr
value_of t = post (name t) (dot "value" ∷ [])

abbrev click : String → Line
click t = Happens (record { kind = codes "click"; id = codes t; value = None })

-- ---- contexts

-- `Mid` provides twice, and what it holds gets the later value; what stands beside it gets that of `App`
abbrev themes : List Named_module
themes = application (
    item true "Theme" (calls "createContextId" (text "theme" ∷ [])) ∷
    shows "Who" (arrow 0 [] (block (const (plain "t") (calls "useContext" (name "Theme" ∷ [])) ∷ give_back (element "u" [] (name "t" ∷ [])) ∷ []))) ∷
    shows "Mid" (arrow 1 [] (block (
    do_it (calls "useContextProvider" (name "Theme" ∷ text "b" ∷ [])) ∷
    do_it (calls "useContextProvider" (name "Theme" ∷ text "c" ∷ [])) ∷
    give_back (element "p" [] (component "Who" [] [] ∷ [])) ∷
    []))) ∷
    shows "App" (arrow 2 [] (block (
    do_it (calls "useContextProvider" (name "Theme" ∷ text "a" ∷ [])) ∷
    give_back (element "div" [] (component "Mid" [] [] ∷ component "Who" [] [] ∷ [])) ∷
    []))) ∷
    [])

nearest_and_last : printed themes usual [] ≡ lines_of (codes "item 0" ∷ codes "html <div><p><u>c</u></p><u>a</u></div>" ∷ [])
nearest_and_last = refl

-- an instance isn't its own ancestor
abbrev alone : List Named_module
alone = application (
    item true "Theme" (calls "createContextId" (text "theme" ∷ [])) ∷
    shows "App" (arrow 0 [] (block (
    do_it (calls "useContextProvider" (name "Theme" ∷ text "a" ∷ [])) ∷
    const (plain "t") (calls "useContext" (name "Theme" ∷ [])) ∷
    give_back (element "u" [] (name "t" ∷ [])) ∷
    []))) ∷
    [])

own_provider : printed alone usual [] ≡ lines_of (codes "item 0" ∷ codes "fault 0 NoContext" ∷ [])
own_provider = refl

-- ---- computeds

-- `const st = useStore({ c: null }); const c = useComputed$(() => st.c ? st.c.value : 0); useTask$(() => { st.c = c; });` and a render that reads `c.value`
abbrev cyclic : List Named_module
cyclic = application (
    shows "App" (arrow 0 [] (block (
    const (plain "st") (calls "useStore" (record_of (("c", Expr.Null) ∷ []) ∷ [])) ∷
    const (plain "c") (calls "useComputed$" (arrow 1 [] (gives (choice (post (name "st") (dot "c" ∷ [])) (post (name "st") (dot "c" ∷ dot "value" ∷ [])) (int 0))) ∷ [])) ∷
    do_it (calls "useTask$" (arrow 2 [] (block (do_it (assign AssignOp.Set (post (name "st") (dot "c" ∷ [])) (name "c")) ∷ [])) ∷ [])) ∷
    give_back (element "p" [] (value_of "c" ∷ [])) ∷
    []))) ∷
    [])

computed_reads_itself : printed cyclic usual [] ≡ lines_of (codes "item 0" ∷ codes "fault 0 ComputedCycle" ∷ [])
computed_reads_itself = refl

-- ---- tasks

-- a task that changes what it tracks is due again after each run
abbrev wakes_itself : List Named_module
wakes_itself = application (
    shows "App" (arrow 0 [] (block (
    const (plain "s") (calls "useSignal" (int 0 ∷ [])) ∷
    do_it (calls "useTask$" (arrow 1 (fields ("track" ∷ []) ∷ []) (block (do_it (calls "track" (arrow 2 [] (gives (value_of "s")) ∷ [])) ∷ do_it (step true (value_of "s")) ∷ [])) ∷ [])) ∷
    give_back (element "p" [] (value_of "s" ∷ [])) ∷
    []))) ∷
    [])

task_without_end : printed wakes_itself (record { turns = 20; levels = 48 }) [] ≡ lines_of (codes "ended 0" ∷ [])
task_without_end = refl

-- two tasks that track the signal `s`, which holds a function of one site; a click puts such a function there again, then the same one hidden
abbrev functions_written : List Named_module
functions_written = application (
    item false "f" (arrow 0 [] (gives (int 1))) ∷
    shows "App" (arrow 1 [] (block (
    const (plain "s") (calls "useSignal" (Expr.Null ∷ [])) ∷
    do_it (calls "useTask$" (arrow 2 [] (block (do_it (assign AssignOp.Set (value_of "s") (name "f")) ∷ [])) ∷ [])) ∷
    do_it (calls "useTask$" (arrow 3 (fields ("track" ∷ []) ∷ []) (block (do_it (calls "track" (arrow 4 [] (gives (value_of "s")) ∷ [])) ∷ do_it (known Known.Log (text "t" ∷ [])) ∷ [])) ∷ [])) ∷
    give_back (element "p" [] (
    element "b" (("id", text "b") ∷ ("onClick$", arrow 5 [] (block (do_it (assign AssignOp.Set (value_of "s") (name "f")) ∷ []))) ∷ []) [] ∷
    element "i" (("id", text "i") ∷ ("onClick$", arrow 6 [] (block (do_it (assign AssignOp.Set (value_of "s") (calls "noSerialize" (name "f" ∷ []))) ∷ []))) ∷ []) [] ∷
    [])) ∷
    []))) ∷
    [])

-- the same function written again makes no task due, and the hidden one does
same_functions : printed functions_written usual (click "b" ∷ click "i" ∷ click "i" ∷ []) ≡ lines_of (
    codes "item 0" ∷
    codes "log t" ∷
    codes "html <p><b id=\"b\"></b><i id=\"i\"></i></p>" ∷
    codes "item 1" ∷
    codes "html <p><b id=\"b\"></b><i id=\"i\"></i></p>" ∷
    codes "item 2" ∷
    codes "log t" ∷
    codes "html <p><b id=\"b\"></b><i id=\"i\"></i></p>" ∷
    codes "item 3" ∷
    codes "html <p><b id=\"b\"></b><i id=\"i\"></i></p>" ∷
    [])
same_functions = refl

-- a task is due by what it reads inside `track` alone: a click on what it reads outside wakes no one
abbrev reads_outside : List Named_module
reads_outside = application (
    shows "App" (arrow 0 [] (block (
    const (plain "s") (calls "useSignal" (int 0 ∷ [])) ∷
    do_it (calls "useTask$" (arrow 1 (fields ("track" ∷ []) ∷ []) (block (do_it (known Known.Log (value_of "s" ∷ [])) ∷ [])) ∷ [])) ∷
    give_back (element "b" (("id", text "b") ∷ ("onClick$", arrow 2 [] (gives (step true (value_of "s")))) ∷ []) []) ∷
    []))) ∷
    [])

untracked_read : printed reads_outside usual (click "b" ∷ []) ≡ lines_of (codes "item 0" ∷ codes "log 0" ∷ codes "html <b id=\"b\"></b>" ∷ codes "item 1" ∷ codes "html <b id=\"b\"></b>" ∷ [])
untracked_read = refl
