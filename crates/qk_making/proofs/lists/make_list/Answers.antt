use Rattle.std.specs.Prelude.{map}
use Rattle.std.proofs.Common.{◌∙◌, ap}
use Rattle.qk_meaning.specs.Making as making
use Rattle.qk_meaning.specs.Setting.{captures, is_effect}
use Rattle.qk_heap.specs.Seen.{heap_seen}
use Rattle.qk_code.specs.declared.mode.Mode.{Mode}
use Rattle.qk_code.specs.Modes.{mode_seen}
use Rattle.qk_making.specs.Acting.{seen_in}
use Rattle.qk_making.proofs.Making.{none_made}
use Rattle.qk_making.proofs.lists.make_list.Goals as goal

pub returns-in-Pure : goal.returns-in-Pure
returns-in-Pure c = λ here mode. none_made
    (seen_in here) (making.made_list here (map (seen_in here) c.args.items)) (heap_seen (captures here) c.args.heap.now) c.fixed_list.result
    (c.fixed_list.ensures here (ap is_effect mode ∙ ap (λ (m : Mode). is_effect (mode_seen m)) c.in-Pure.is))

pub returns-in-Track : goal.returns-in-Track
returns-in-Track c = λ here mode. none_made
    (seen_in here) (making.made_list here (map (seen_in here) c.args.items)) (heap_seen (captures here) c.args.heap.now) c.fixed_list-in-Track.result
    (c.fixed_list-in-Track.ensures here (ap is_effect mode ∙ ap (λ (m : Mode). is_effect (mode_seen m)) c.in-Track.is))
