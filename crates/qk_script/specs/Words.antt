-- The words of a line that tells of an event.
use Rattle.std.specs.Option.{option_map}
use Rattle.qk_meaning.specs.Item.{Event}
use Rattle.qk_script.specs.declared.item.Words.{Words}

abbrev pub event_in : Words → Event
event_in w = record { kind = w.kind.now; id = w.id.now; value = option_map (λ v. v.now) w.value }
