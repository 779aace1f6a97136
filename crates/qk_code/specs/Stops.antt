-- The stops by a fault of the code, by a refusal of the heap and by a fault of an operator.
use Rattle.qk_heap.specs.declared.fault.HeapStop.{HeapStop}
use Rattle.qk_ops.specs.declared.stop.OpStop.{OpStop}
use Rattle.qk_code.specs.declared.stop.CodeFault.{CodeFault}
use Rattle.qk_code.specs.declared.stop.CodeFault.TheVariants as C
use Rattle.qk_code.specs.declared.stop.Stop.{Stop}
use Rattle.qk_code.specs.declared.stop.Stop.TheVariants.{Fault, Code, Memory}

-- want of memory is want of memory, wherever it was met
abbrev pub stop_by : CodeFault → Stop
stop_by (C.Missing file) = Code (C.Missing file)
stop_by (C.Bad file) = Code (C.Bad file)
stop_by C.Store = Code C.Store
stop_by C.Memory = Memory

abbrev pub stop_of : HeapStop → Stop
stop_of (HeapStop.Fault f) = Fault f
stop_of HeapStop.Memory = Memory

abbrev pub stop_on : OpStop → Stop
stop_on (OpStop.Fault f) = Fault f
stop_on OpStop.Memory = Memory
