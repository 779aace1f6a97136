-- The making of a JSX value, where it is known what its tag shows.
use Rattle.qk_meaning.specs.Value.{Shown, Value, Fields, Values}
use Rattle.qk_meaning.specs.Doing.{Doing, ◌>>◌}
use Rattle.qk_meaning.specs.Running.{Running, unless_fault}
use Rattle.qk_meaning.specs.Setting.{Setting}
use Rattle.qk_meaning.specs.Markup.{markup_fault, element}
use Rattle.qk_meaning.specs.Making.{made}

-- its attributes and children are tried, then the limits
abbrev pub markup_made : Setting → Shown → Fields → Values → Doing Running Value
markup_made here shown attributes children = ◌>>◌ (unless_fault (markup_fault shown attributes children)) (made here (element shown attributes children))
