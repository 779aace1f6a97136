-- What contracts see of the store and the sink for tests.
use Rattle.std.specs.Prelude.{List, ℕ, map}
use Rattle.qk_store.specs.declared.calls.Calls.{Calls}
use Rattle.qk_store.specs.declared.mem_store.MemStore.{MemStore}
use Rattle.qk_store.specs.declared.mem_sink.MemSink.{MemSink}
use Rattle.qk_store.specs.Files.{Files}
use Rattle.qk_store.specs.Held.{held}
use Rattle.qk_store.specs.Answers.{Answer, answer}

abbrev pub store_files : MemStore → Files
store_files s = held s.files.items

-- what each read was answered, the latest last
abbrev pub store_answers : MemStore → List Answer
store_answers s = map answer s.seen.items

-- which calls fail, how many were made, and how many failed
abbrev pub store_calls : MemStore → Calls
store_calls s = s.calls

abbrev pub sink_bytes : MemSink → List ℕ
sink_bytes s = s.bytes.items

abbrev pub sink_calls : MemSink → Calls
sink_calls s = s.calls
