-- A function made in a listener, kept over pauses.
use Rattle.std.specs.Prelude.{◌≡◌, refl}
use Rattle.qk_meaning.specs.Program.{Program}
use Rattle.qk_meaning.specs.Page.{page}
use Rattle.qk_meaning_rows.proofs.Nested_dollar_functions.{script, built as files, tasks, page_shown}
use Rattle.qk_meaning_rows.specs.Common.{built, usual, printed_built}
use Rattle.qk_paused_rows.specs.Words.{last_state, printed_resuming}

abbrev program : Program
program = built tasks files

paged_again : page program (last_state program script) ≡ page_shown
paged_again = refl

resumed : printed_resuming program script ≡ printed_built tasks files usual script
resumed = refl
