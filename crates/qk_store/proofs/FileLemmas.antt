-- What holds of files once one of them is written.
use Rattle.std.proofs.Common.{◌≡◌, ◌≢◌, inl, inr, Option, Some, None, cond, List, ℕ, bytes_eq, sym, ◌∙◌, ap}
use Rattle.std.proofs.lemmas.Bool.{cases_Bool}
use Rattle.std.specs.Option.{option_map}
use Rattle.qk_store.specs.Files.{Files, with_file, OthersStay}
use Rattle.qk_store.proofs.Names.{same_name, own_name}

-- the file itself
pub with_file-same : (name : List ℕ) (file : Option (List ℕ)) (files : Files) → with_file name file files name ≡ file
with_file-same name file files = ap (λ b. cond b file (files name)) (own_name name)

-- any other one
pub with_file-other : (name other : List ℕ) (file : Option (List ℕ)) (files : Files) → other ≢ name → with_file name file files other ≡ files other
with_file-other name other file files apart = elim (cases_Bool (bytes_eq other name)) [
  | inl same ↦ absurd (apart (same_name other name same))
  | inr different ↦ ap (λ b. cond b file (files other)) different
]

-- a file as it stands
pub with_file-own : (name : List ℕ) (files : Files) → files ≡ with_file name (files name) files
with_file-own name files i other =
    elim (cases_Bool (bytes_eq other name)) as (λ _. files other ≡ with_file name (files name) files other) [
      | inl same ↦ ap files (same_name other name same) ∙ sym (ap (λ b. cond b (files name) (files other)) same)
      | inr different ↦ sym (ap (λ b. cond b (files name) (files other)) different)
    ] i

-- where nothing changed, the others stay
pub others_kept : (name : List ℕ) (before after : Option Files) → after ≡ before → OthersStay name before after
others_kept name None after same = record { left = None; others = same }
others_kept name (Some files) after same = record { left = files name; others = same ∙ ap Some (with_file-own name files) }

-- where the file is written, they do
pub others_written : (name : List ℕ) (file : Option (List ℕ)) (before after : Option Files) → after ≡ option_map (with_file name file) before → OthersStay name before after
others_written name file before after written = record { left = file; others = written }
