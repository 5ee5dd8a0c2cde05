use Rattle.std.proofs.Common.{arith}
use Rattle.std.proofs.Math.Path.{fun_ext}
use Rattle.mmu.proofs.Valid.{over_pages}
use Rattle.mmu.proofs.cpu.CpuHardware.clear_tables.Goals as goal

pub returns-clause-table : goal.returns-clause-table
returns-clause-table g c = over_pages 68719476736 _ _ c.args.range (omega arith) c.clear.ensures.entries

pub returns-clause-tables : goal.returns-clause-tables
returns-clause-tables g c = fun_ext c.clear.ensures.tables
