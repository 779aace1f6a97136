-- The file whose bytes a read answers.
use Rattle.std.proofs.Common.{◌≡◌, ℕ, Bool, true, false, List, sym, ap, length, Option, Some, None}
use Rattle.std.specs.Prelude.{nat_lt, if◌then◌else◌}
use Rattle.qk_store.specs.Files.{Files}
use Rattle.qk_store.specs.Answers.{gone, too_long, bytes, reading}
use Rattle.qk_reprint.specs.Reprinting.{IsPrinted, Reprints}

chosen_bytes : (b : Bool) (file read : List ℕ) → bytes read ≡ (if b then too_long else bytes file) → read ≡ file
chosen_bytes true file read h = cc
chosen_bytes false file read h = cc

none_bytes : (read : List ℕ) → bytes read ≡ gone → ⊥
none_bytes read h = cc

bytes_is : (file : Option (List ℕ)) (most : ℕ) (read : List ℕ) → bytes read ≡ reading file most → file ≡ Some read
bytes_is None most read h = absurd (none_bytes read h)
bytes_is (Some file) most read h = ap Some (sym (chosen_bytes (nat_lt most (length file)) file read h))

pub of_file : (told : Files) (name source : List ℕ) (most : ℕ) (before after : Option (List ℕ)) → bytes source ≡ reading (told name) most → IsPrinted source before after → Reprints told name before after
of_file told name source most before after read printed = record { source = source; stands = bytes_is (told name) most source read; printed = printed }
