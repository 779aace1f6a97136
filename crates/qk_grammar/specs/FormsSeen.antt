-- What the reader calls the parts of calls, links and templates that the code reads.
use Rattle.std.specs.Prelude.{ℕ, Bool, List, [], ◌∷◌, ◌++◌, Option, Some, None, codes}
use Rattle.std.specs.Option.{option_map}
use Rattle.qk_ast.specs.declared.Expr.{Expr}
use Rattle.qk_ast.specs.declared.Expr.TheVariants as e
use Rattle.qk_ast.specs.declared.Link.{Link}
use Rattle.qk_ast.specs.declared.Link.TheVariants as l
use Rattle.qk_ast.specs.declared.Known.{Known}
use Rattle.qk_ast.specs.declared.Known.TheVariants as known
use Rattle.qk_ast.specs.declared.Field.{Field}
use Rattle.qk_ast.specs.declared.Tag.{Tag}
use Rattle.qk_ast.specs.declared.Jsx.{roll-Jsx}
use Rattle.qk_ast.specs.Tree.{bytes}
use Rattle.qk_reading.specs.Input as input
use Rattle.qk_token.specs.Seen.{kind_of}
use Rattle.qk_grammar.specs.declared.lists.Args.{Args}
use Rattle.qk_grammar.specs.declared.links.LinkRead.{LinkRead}
use Rattle.qk_grammar.specs.declared.links.LinksRead.{LinksRead}
use Rattle.qk_grammar.specs.declared.holes.TemplatePart.{TemplatePart}
use Rattle.qk_grammar.specs.declared.holes.Filled.{Filled}
use Rattle.qk_grammar.specs.declared.jsx.Child.{Child}
use Rattle.qk_grammar.specs.declared.jsx.Child.TheVariants as child

abbrev pub args_of : Args → List Expr × Bool
args_of a = (a.items, a.comma)

abbrev pub link_of : Option LinkRead → Option (Link × input.Kind)
link_of found = option_map (λ (x : LinkRead). (x.link, kind_of x.kind)) found

abbrev pub links_of : LinksRead → List Link × input.Kind
links_of x = (x.links, kind_of x.kind)

abbrev pub part_of : TemplatePart → List ℕ × Bool
part_of x = (x.text, x.has_hole)

abbrev pub filled_of : Filled → List (List ℕ) × List Expr
filled_of x = (x.parts, x.values)

-- the name that a known call's name is or begins with, and the method that it ends with
abbrev pub object_of : Known → Expr
object_of known.Str = e.Name (bytes (codes "String"))
object_of known.Log = e.Name (bytes (codes "console"))
object_of known.Keys = e.Name (bytes (codes "Object"))
object_of known.Trunc = e.Name (bytes (codes "Math"))

abbrev pub method_of : Known → List Link
method_of known.Str = []
method_of known.Log = l.Prop (bytes (codes "log")) ∷ []
method_of known.Keys = l.Prop (bytes (codes "keys")) ∷ []
method_of known.Trunc = l.Prop (bytes (codes "trunc")) ∷ []

-- a call by that name that is one as any other
abbrev pub named_call : Known → List Expr → input.Head
named_call k args = input.headed (object_of k) input.Called (method_of k ++ l.Call args ∷ [])

abbrev pub child_of : Child → Option Expr
child_of child.Nothing = None
child_of (child.Value x) = Some x

abbrev pub element_of : Tag → List Field → List Expr → Expr
element_of tag attributes children = e.Jsx (roll-Jsx (record { tag = tag; attrs = attributes; children = children }))
