-- What a store answers to a read.
use Rattle.std.specs.Prelude.{ℕ, ◌≤◌, Option, Some, None, List, [], ◌∷◌, ◌++◌, length, nat_lt, string_bytes, if◌then◌else◌}
use Rattle.qk_store.specs.declared.found.Found.{Found}
use Rattle.qk_store.specs.declared.found.Found.TheVariants.{Gone, TooLong, Bytes}
use Rattle.qk_store.specs.declared.found.Seen.{Seen}

-- a `Found`, without where its bytes lie in memory
pub data Content : Type 0 where
  gone too_long : Content
  bytes : List ℕ → Content

abbrev pub content : Found → Content
content Gone = gone
content TooLong = too_long
content (Bytes b) = bytes b.items

-- what a read of at most so many bytes answers, by what stands under the name
abbrev pub reading : Option (List ℕ) → ℕ → Content
reading None most = gone
reading (Some file) most = if nat_lt most (length file) then too_long else bytes file

-- bytes that are answered are no more than were asked for
abbrev pub IsWithin : ℕ → Content → Type 0
IsWithin most (bytes b) = length b ≤ most
IsWithin most _ = Unit {0}

-- a `Seen`: the name that was read, the most that was asked for, and what was answered
pub record Answer : Type 0 where
  pub name : List ℕ
  pub most : ℕ
  pub found : Content

abbrev pub answer : Seen → Answer
answer s = record { name = string_bytes s.name; most = s.most; found = content s.found }

-- these answers, and this one behind them
abbrev pub with_answer : List ℕ → ℕ → Content → List Answer → List Answer
with_answer name most found past = past ++ record { name = name; most = most; found = found } ∷ []
