-- The arrows that a walk meets: each with the mark of where it stands, whatever names are declared around it.
use Rattle.qk_ast.specs.declared.Arrow.{Arrow}
use Rattle.qk_ast.specs.Arrows.{Mark, Found_arrow}
use Rattle.qk_locals.specs.Meanings.{mark_of}
use Rattle.qk_whole.specs.declared.met.Met.{Met}

abbrev pub met_seen : Met → Arrow × Mark
met_seen m = (m.arrow, mark_of m.mark)

abbrev pub arrow_seen : Found_arrow → Arrow × Mark
arrow_seen a = (record { place = a.place; params = a.params; body = a.body }, a.mark)
