-- How often the calls of a code failed or were refused, and why.
use Rattle.std.specs.Prelude.{◌≡◌, ◌≤◌, ◌+◌, ◌-◌, ◌^◌, ℕ, min, List, [], ◌∷◌, Option, Some, None, Result, Ok, Err}
use Rattle.qk_code.specs.declared.ask.Ask.{Ask}
use Rattle.qk_code.specs.declared.ask.Refusal.{Refusal}
use Rattle.qk_code.specs.declared.stop.CodeFault.{CodeFault}
use Rattle.qk_code.specs.declared.stop.CodeFault.TheVariants.{Missing, Bad, Store, Memory}
use Rattle.qk_code.specs.declared.stop.Stop.{Stop}
use Rattle.qk_code.specs.declared.stop.Stop.TheVariants as S

pub record Counts : Type 0 where
  -- failed calls of the store
  pub faults : ℕ
  -- refused files
  pub refusals : ℕ
  -- what was last asked for in vain, and why
  pub last : Option Refusal

-- neither count falls
pub record Later (before after : Counts) : Type 0 where
  pub faults : before.faults ≤ after.faults
  pub refusals : before.refusals ≤ after.refusals

-- a count rose; one that stands at the counter's last value counts as one that rose
abbrev pub Rose : ℕ → ℕ → Type 0
Rose before after = min (before + 1) (2 ^ 64 - 1) ≤ after

-- this was asked for in vain last
abbrev pub In_vain : Counts → Ask → CodeFault → Type 0
In_vain after ask why = after.last ≡ Some (record { ask = ask; why = why })

-- a file is refused
pub record Refused (before after : Counts) (ask : Ask) (why : CodeFault) : Type 0 where
  pub rose : Rose before.refusals after.refusals
  pub last : In_vain after ask why
  pub faults : after.faults ≡ before.faults

-- the store failed
pub record Failed (before after : Counts) (ask : Ask) : Type 0 where
  pub rose : Rose before.faults after.faults
  pub last : In_vain after ask Store
  pub refusals : after.refusals ≡ before.refusals

-- why a code gives nothing of what it is asked for; want of memory raises no count
abbrev pub Because : Counts → Counts → Ask → CodeFault → Type 0
Because before after ask (Missing file) = Refused before after ask (Missing file)
Because before after ask (Bad file) = Refused before after ask (Bad file)
Because before after ask Store = Failed before after ask
Because before after ask Memory = after ≡ before

abbrev pub Cause : {A : Type 0} → Counts → Counts → Ask → Result A CodeFault → Type 0
Cause before after ask (Ok a) = after ≡ before
Cause before after ask (Err why) = Because before after ask why

-- what a call of a code, which asks for this, does to its counts
pub record CausedBy {A : Type 0} (before after : Counts) (ask : Ask) (result : Result A CodeFault) : Type 0 where
  pub later : Later before after
  pub cause : Cause before after ask result

-- the code gave nothing of what it was asked for
pub record Gave_nothing (before after : Counts) (why : CodeFault) : Type 0 where
  pub ask : Ask
  pub because : Because before after ask why

-- running stops by the code for its causes alone; its want of memory is told as want of memory, and never so
abbrev pub Stopped_by : Counts → Counts → CodeFault → Type 0
Stopped_by before after Memory = ⊥
Stopped_by before after why = Gave_nothing before after why

-- with every other result no count rose
abbrev pub HasCause : {A : Type 0} → Counts → Counts → Result A Stop → Type 0
HasCause before after (Err (S.Code why)) = Stopped_by before after why
HasCause before after _ = after ≡ before

-- what was asked for in vain, where running stopped for it; else nothing
abbrev pub asked_last : Option Refusal → List Ask
asked_last (Some refusal) = refusal.ask ∷ []
asked_last None = []

abbrev pub in_vain_by : Stop → Counts → List Ask
in_vain_by (S.Code why) counts = asked_last counts.last
in_vain_by _ counts = []

abbrev pub in_vain : {A : Type 0} → Result A Stop → Counts → List Ask
in_vain (Ok a) counts = []
in_vain (Err e) counts = in_vain_by e counts
