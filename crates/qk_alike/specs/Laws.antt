-- The laws of readings.
use Rattle.qk_meaning.specs.Program.{Program}
use Rattle.qk_meaning.specs.Setting.{Computed_reading, called_anew}
use Rattle.qk_meaning.specs.Ties.{Ties, Apart}
use Rattle.qk_meaning.specs.Worlds_stand.{Start}
use Rattle.qk_meaning.specs.Readings_agree.{Readings_agree}
use Rattle.qk_alike.specs.Code_stands.{Programs_stand}
use Rattle.qk_alike.specs.Computed_alike.{Computed_alike}

-- readings of programs whose functions stand for one another agree, however computeds are read, as long as they are read alike
abbrev pub ReadingsAgree : Type 0
ReadingsAgree = (t : Ties) (b : Start) (computed : Computed_reading) (one other : Program) → Apart t → Programs_stand one other t.sites → Computed_alike t b computed → Readings_agree t b computed one other

-- computeds whose functions are called at each read are read alike
abbrev pub CalledAnewAlike : Type 0
CalledAnewAlike = (t : Ties) (b : Start) → Computed_alike t b called_anew
