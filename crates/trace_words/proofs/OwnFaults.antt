-- Whose fault a fault is.
use Rattle.std.proofs.Common.{Bool, true, false}
use Rattle.trace_words.specs.declared.fault.TraceFault.{TraceFault}
use Rattle.trace_words.specs.declared.fault.TraceFault.TheVariants.{BadLine, TooLong, ReadFailed, NoVmLine, NoMemory, Setup, WriteFailed}

-- neither the reader's fault nor the writer's
unfoldable pub is_own : TraceFault → Bool
is_own (BadLine n) = true
is_own (TooLong n) = true
is_own ReadFailed = false
is_own NoVmLine = true
is_own NoMemory = true
is_own (Setup s) = true
is_own WriteFailed = false
