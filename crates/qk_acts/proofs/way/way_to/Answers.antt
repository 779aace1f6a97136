use Rattle.std.proofs.Common.{ap, ◌∙◌}
use Rattle.qk_meaning.specs.Writing.{in_the_way}
use Rattle.qk_meaning.specs.Setting.{is_effect}
use Rattle.qk_value.specs.View.{seen}
use Rattle.qk_value.proofs.Viewing.{seen-Elem}
use Rattle.qk_heap.specs.Seen.{heap_seen}
use Rattle.qk_code.specs.Modes.{mode_seen}
use Rattle.qk_acts.proofs.way.way_to.Goals as goal

pub returns-in-Elem : goal.returns-in-Elem
returns-in-Elem c = λ captured. ap (λ w. in_the_way (is_effect (mode_seen c.args.mode)) (heap_seen captured c.args.heap.now) w) (ap (seen captured) c.in-Elem.is ∙ seen-Elem captured c.in-Elem.field-0)
