use Rattle.std.proofs.Common.{◌≡◌, drop}
use Rattle.qk_modules.specs.Listing.{with_imports}
use Rattle.qk_modules.proofs.listing.Listing.with_imports.Given as goal

abbrev pub invariant-loop-import : goal.invariant-loop-import
invariant-loop-import l = with_imports l.all (drop l.import-index l.imports) ≡ with_imports l.fn.self l.imports
