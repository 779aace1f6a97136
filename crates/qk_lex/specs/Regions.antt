-- The regions around a place, and what a token does to them.
use Rattle.std.specs.Prelude.{Bool, true, false, List, [], ◌∷◌, Option, Some, None}
use Rattle.qk_ast.specs.Tokens as tokens
use Rattle.qk_lex.specs.declared.regions.Region.{Region}
use Rattle.qk_lex.specs.declared.regions.Region.TheVariants as region
use Rattle.qk_lex.specs.declared.regions.Change.{Change}
use Rattle.qk_lex.specs.declared.regions.Change.TheVariants as change

abbrev pub region_of : Region → tokens.Region
region_of region.Braces = tokens.Braces
region_of region.Hole = tokens.In_hole
region_of region.Tag = tokens.In_tag
region_of region.End = tokens.In_end
region_of region.Children = tokens.Children

-- the regions, the innermost first, of a list that has it last; others stand around them
abbrev pub onto : List Region → tokens.Around → tokens.Around
onto [] around = around
onto (r ∷ rs) around = onto rs (region_of r ∷ around)

abbrev pub around_of : List Region → tokens.Around
around_of regions = onto regions []

abbrev pub innermost : tokens.Around → Option tokens.Region
innermost [] = None
innermost (region ∷ around) = Some region

-- blanks and comments stand everywhere but between the tags of an element
abbrev pub gaps_in : Option tokens.Region → Bool
gaps_in None = true
gaps_in (Some tokens.Children) = false
gaps_in (Some tokens.Braces) = true
gaps_in (Some tokens.In_hole) = true
gaps_in (Some tokens.In_tag) = true
gaps_in (Some tokens.In_end) = true

abbrev pub changed : Change → tokens.Around → tokens.Around
changed change.Stay around = around
changed (change.Enter r) around = region_of r ∷ around
changed change.Leave around = tokens.leave around
changed (change.Turn r) around = region_of r ∷ tokens.leave around
