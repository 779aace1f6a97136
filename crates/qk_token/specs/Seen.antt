-- What the reader calls the levels, kinds and places that the code has.
use Rattle.qk_ast.specs.Grammar as grammar
use Rattle.qk_reading.specs.Input as input
use Rattle.qk_reading.specs.Ahead as ahead
use Rattle.qk_token.specs.declared.ahead.Level.{Level}
use Rattle.qk_token.specs.declared.ahead.Level.TheVariants as level
use Rattle.qk_token.specs.declared.ahead.Kind.{Kind}
use Rattle.qk_token.specs.declared.ahead.Kind.TheVariants as kind
use Rattle.qk_token.specs.declared.ahead.Scan.{Scan}
use Rattle.qk_token.specs.declared.ahead.Scan.TheVariants as scan

abbrev pub level_of : Level → grammar.Level
level_of level.Or = grammar.Or_level
level_of level.Coalesce = grammar.Coalesce_level
level_of level.And = grammar.And_level
level_of level.Same = grammar.Same_level
level_of level.Order = grammar.Order_level
level_of level.Sum = grammar.Sum_level
level_of level.Product = grammar.Product_level

abbrev pub kind_of : Kind → input.Kind
kind_of kind.Loose = input.Loose
kind_of (kind.Chained level) = input.Chained (level_of level)
kind_of kind.Prefixed = input.Prefixed
kind_of kind.Called = input.Called
kind_of kind.Member = input.Member
kind_of kind.Bare = input.Bare
kind_of kind.Atomic = input.Atomic

abbrev pub scan_of : Scan → ahead.Scan
scan_of scan.AtPattern = ahead.At_pattern
scan_of scan.AfterPattern = ahead.After_pattern
scan_of scan.AtFirst = ahead.At_first
scan_of scan.AtNext = ahead.At_next
scan_of scan.AfterName = ahead.After_name
scan_of scan.AtArrow = ahead.At_arrow
