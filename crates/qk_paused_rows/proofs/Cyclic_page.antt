-- A store that holds a function which calls itself through the store: its state script after the first render, and how it goes on behind a pause.
use Rattle.std.specs.Prelude.{◌≡◌, refl, true, [], ◌∷◌, codes}
use Rattle.qk_meaning.specs.Index.{For_component, For_function, For_task}
use Rattle.qk_meaning.specs.Program.{Program}
use Rattle.qk_meaning.specs.Page.{page}
use Rattle.qk_meaning_rows.proofs.Cyclic_store.{script, built as files, tasks, page_shown}
use Rattle.qk_meaning_rows.specs.Common.{built, lines_of}
use Rattle.qk_paused.specs.Entries.{App_index, A_store, A_task}
use Rattle.qk_paused.specs.Fits.{fits}
use Rattle.qk_paused_rows.specs.Words.{last_state, last_script, printed_resuming, told}

abbrev program : Program
program = built tasks files

abbrev index : App_index
index = record {
  app = codes "root_s1";
  entries = told (codes "root_s1") For_component 0 (A_store ∷ A_task ∷ []) ∷ told (codes "root_s2") For_task 1 [] ∷ told (codes "root_s3") For_function 1 [] ∷ told (codes "root_s4") For_function 1 [] ∷ [];
}

scripted : last_script program [] ≡ codes "{\"caps\":[[\"r\",1]],\"heap\":[[\"p\"],[\"o\",\"fact\",[\"f\",\"root_s3\",[\"r\",1]],\"out\",0]],\"inst\":[[\"root_s1\",0,[[\"v\",[\"r\",1]],[\"t\",[\"f\",\"root_s2\",[\"r\",1]],[]]],[\"e\",\"button\",null,\"\",[\"id\",\"b\",\"onClick$\",[\"f\",\"root_s4\",[\"r\",1]]],[0]],[[1,\"out\"]]]]}"
scripted = refl

fitting : fits index (last_state program []) ≡ true
fitting = refl

fitting_later : fits index (last_state program script) ≡ true
fitting_later = refl

paged_again : page program (last_state program script) ≡ page_shown
paged_again = refl

resumed : printed_resuming program script ≡ lines_of (
    codes "item 0" ∷
    codes "html <button id=\"b\">0</button>" ∷
    codes "item 1" ∷
    codes "paused" ∷
    codes "item 2" ∷
    codes "html <button id=\"b\">120</button>" ∷
    [])
resumed = refl
