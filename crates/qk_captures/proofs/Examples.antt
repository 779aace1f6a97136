-- Small modules, and what their arrows capture.
use Rattle.std.specs.Prelude.{◌≡◌, refl, ℕ, true, false, List, [], ◌∷◌, codes, pos, Some}
use denote.Hole.Carrier.{hidden}
use Rattle.qk_ast.specs.declared.Body.TheBlock.{hidden-the_row-Expr-0, hidden-the_row-Link-5, hidden-the_row-Arrow-6}
use Rattle.qk_ast.specs.declared.Expr.{Expr}
use Rattle.qk_ast.specs.declared.Expr.TheVariants as e
use Rattle.qk_ast.specs.declared.Body.{Body}
use Rattle.qk_ast.specs.declared.Body.TheVariants as b
use Rattle.qk_ast.specs.declared.Link.TheVariants as l
use Rattle.qk_ast.specs.declared.Stmt.TheVariants as s
use Rattle.qk_ast.specs.declared.Form.TheVariants.{Source, Built}
use Rattle.qk_ast.specs.declared.Pattern.{Pattern}
use Rattle.qk_ast.specs.declared.Pattern.TheVariants as p
use Rattle.qk_ast.specs.declared.Module.{Module}
use Rattle.qk_ast.specs.Texts.{Text}
use Rattle.qk_captures.specs.declared.Captured.{Captured}
use Rattle.qk_captures.specs.Capturing.{captured_in}

abbrev arrow : List Pattern → Body → Expr
arrow params body = e.Arrow (record { place = 0; params = params; body = body })

abbrev call : Text → Expr → Expr
call name argument = e.Post (e.Name name) (l.Call (argument ∷ []) ∷ [])

abbrev one_item : Expr → Module
one_item x = record { imports = []; items = record { exported = true; name = codes "App"; init = x } ∷ [] }

abbrev file : Text
file = codes "root"

abbrev dollar_site : ℕ → List Text → Captured
dollar_site number names = record { site = record { «module» = file; number = number; dollar = true }; names = names }

abbrev plain_site : ℕ → List Text → Captured
plain_site number names = record { site = record { «module» = file; number = number; dollar = false }; names = names }

-- component$(() => { const s = useSignal(0); const t = 1; useTask$(({ track }) => { track(() => s); }); return () => [t, s, t, App]; })
abbrev component : Module
component = one_item (call (codes "component$") (arrow [] (b.Block (
    s.Const (p.Name (codes "s")) (call (codes "useSignal") (e.Int (pos 0)))
    ∷ s.Const (p.Name (codes "t")) (e.Int (pos 1))
    ∷ s.Do (call (codes "useTask$") (arrow (p.Fields (codes "track" ∷ []) ∷ []) (b.Block (s.Do (call (codes "track") (arrow [] (b.Value (e.Name (codes "s"))))) ∷ []))))
    ∷ s.Return (Some (arrow [] (b.Value (e.List (e.Name (codes "t") ∷ e.Name (codes "s") ∷ e.Name (codes "t") ∷ e.Name (codes "App") ∷ [])))))
    ∷ []))))

-- the component captures nothing, the task `s`, and the last arrow `t` and then `s`; `App` is no local
pub component_captures : captured_in Source file component ≡ dollar_site 1 [] ∷ dollar_site 2 (codes "s" ∷ []) ∷ plain_site 1 (codes "s" ∷ []) ∷ plain_site 2 (codes "t" ∷ codes "s" ∷ []) ∷ []
unfolding hidden-the_row-Expr-0 hidden hidden-the_row-Link-5 hidden-the_row-Arrow-6
component_captures = refl

-- (track) => [() => track, useTask$(({ track }) => () => track)]
abbrev with_task : Module
with_task = one_item (arrow (p.Name (codes "track") ∷ []) (b.Value (e.List (
    arrow [] (b.Value (e.Name (codes "track")))
    ∷ call (codes "useTask$") (arrow (p.Fields (codes "track" ∷ []) ∷ []) (b.Value (arrow [] (b.Value (e.Name (codes "track"))))))
    ∷ []))))

-- outside of the task `track` is a local, inside it is none
pub with_task_captures : captured_in Source file with_task ≡ plain_site 1 [] ∷ plain_site 2 (codes "track" ∷ []) ∷ dollar_site 1 [] ∷ plain_site 3 [] ∷ []
unfolding hidden-the_row-Expr-0 hidden hidden-the_row-Link-5 hidden-the_row-Arrow-6
with_task_captures = refl

-- () => { const [n] = useLexicalScope(); return () => n; }
abbrev segment : Module
segment = one_item (arrow [] (b.Block (
    s.Const (p.Scope (codes "n" ∷ [])) (e.Post (e.Name (codes "useLexicalScope")) (l.Call [] ∷ []))
    ∷ s.Return (Some (arrow [] (b.Value (e.Name (codes "n")))))
    ∷ [])))

-- in a built file `n` is a local around both arrows, and in a source around none
pub segment_captures : captured_in Built file segment ≡ plain_site 1 (codes "n" ∷ []) ∷ plain_site 2 (codes "n" ∷ []) ∷ []
unfolding hidden-the_row-Expr-0 hidden hidden-the_row-Link-5 hidden-the_row-Arrow-6
segment_captures = refl

pub source_captures : captured_in Source file segment ≡ plain_site 1 [] ∷ plain_site 2 [] ∷ []
unfolding hidden-the_row-Expr-0 hidden hidden-the_row-Link-5 hidden-the_row-Arrow-6
source_captures = refl
