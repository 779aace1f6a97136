-- What the reader calls what the code reads.
use Rattle.std.specs.Prelude.{ℕ, Bool, List}
use Rattle.qk_ast.specs.declared.Pattern.{Pattern}
use Rattle.qk_ast.specs.Tree.{bytes}
use Rattle.qk_reading.specs.Input as input
use Rattle.qk_reading.specs.Input.{◌<$>◌}
use Rattle.qk_token.specs.Seen.{kind_of}
use Rattle.qk_grammar.specs.declared.read.Read.{Read}
use Rattle.qk_grammar.specs.declared.read.Head.{Head}
use Rattle.qk_grammar.specs.declared.parts.ArrowHead.{ArrowHead}
use Rattle.qk_grammar.specs.declared.read.Inner.{Inner}
use Rattle.qk_grammar.specs.declared.read.Inner.TheVariants as inner
use Rattle.qk_grammar.specs.declared.read.Group.{Group}
use Rattle.qk_grammar.specs.declared.read.Group.TheVariants as group

abbrev pub read_of : Read → input.Read
read_of r = input.reading r.tree (kind_of r.kind)

abbrev pub head_of : Head → input.Head
head_of h = input.headed h.tree (kind_of h.kind) h.links

abbrev pub inner_of : Inner → input.Inner
inner_of inner.Whole = input.Whole
inner_of inner.Tight = input.Tight
inner_of inner.Tagged = input.Tagged
inner_of inner.Untagged = input.Untagged

abbrev pub group_of : Group → input.Group
group_of (group.Braced looped) = input.Braced looped
group_of (group.Single looped) = input.Single looped
group_of (group.Otherwise looped) = input.Otherwise looped

abbrev pub arrow_head_of : ArrowHead → List Pattern × ℕ
arrow_head_of h = (h.params, h.place)

-- a name, as the tree keeps it
abbrev pub name_read : input.Reader (List ℕ)
name_read = bytes <$> input.name

-- without whether none or a comma was last
abbrev pub items_of : {A : Type 0} → input.Reader (List A × Bool) → input.Reader (List A)
items_of read = (λ found. found.0) <$> read
