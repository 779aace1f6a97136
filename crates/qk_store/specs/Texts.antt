-- How the faults of stores and sinks are printed.
use Rattle.std.specs.Prelude.{List, ℕ, codes}
use Rattle.qk_store.specs.declared.found.StoreFault.{StoreFault}
use Rattle.qk_store.specs.declared.found.StoreFault.TheVariants as store
use Rattle.qk_store.specs.declared.sink.SinkFault.{SinkFault}
use Rattle.qk_store.specs.declared.sink.SinkFault.TheVariants as sink

abbrev pub store_fault_text : StoreFault → List ℕ
store_fault_text store.Failed = codes "the store failed"
store_fault_text store.Memory = codes "out of memory"

abbrev pub sink_fault_text : SinkFault → List ℕ
sink_fault_text sink.Failed = codes "the sink failed"
sink_fault_text sink.Memory = codes "out of memory"
