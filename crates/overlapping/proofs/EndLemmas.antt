-- What is told of reads and writes
use Rattle.std.proofs.Common.{◌≡◌, List, ℕ, refl}
use Rattle.trace_io.specs.declared.fault.IoFault.{IoFault}
use Rattle.trace_io.specs.declared.fault.IoFault.TheVariants.{NoMemory}
use Rattle.orders_text.specs.declared.faults.HistoryFault.{HistoryFault}
use Rattle.orders_text.specs.declared.faults.HistoryFault.TheVariants.{Io}

-- which one it is of those that reading and writing have in common
pub io_of : HistoryFault → IoFault
io_of (Io f) = f
io_of f = NoMemory

pub io_back : (f : IoFault) → io_of (Io f) ≡ f
unfolding io_of
io_back f = refl
