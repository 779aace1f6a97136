-- Modes, and parts of an execution, as the meaning has them.
use Rattle.qk_meaning.specs.Running as R
use Rattle.qk_meaning.specs.Happening as H
use Rattle.qk_code.specs.declared.mode.Mode.{Mode}
use Rattle.qk_code.specs.declared.mode.Part.{Part}

abbrev pub mode_seen : Mode → R.Mode
mode_seen Mode.Effect = R.Effect
mode_seen Mode.Pure = R.Pure
mode_seen Mode.Track = R.Track

abbrev pub part_seen : Part → H.Part
part_seen Part.Task = H.The_task
part_seen Part.Track = H.The_track
