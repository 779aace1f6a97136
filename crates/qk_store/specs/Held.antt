-- Files that are kept in memory, one entry after another.
use Rattle.std.specs.Prelude.{ℕ, List, String, Vec, bytes_eq, string_bytes}
use Rattle.std.specs.List.{find}
use Rattle.std.specs.Option.{option_map}
use Rattle.std.specs.declared.alloc.Global.{Global}
use Rattle.qk_store.specs.Files.{Files}

-- the file of each name is the first entry of that name
abbrev pub held : List (String Global × Vec ℕ Global) → Files
held entries name = option_map (λ entry. entry.1.items) (find (λ entry. bytes_eq (string_bytes entry.0) name) entries)
