use Rattle.std.proofs.Common.{Err, refl}
use Rattle.trace_io.specs.declared.fault.IoFault.TheVariants.{NoMemory}
use Rattle.trace_io.proofs.IoLemmas.{tells_want}
use Rattle.orders_text.specs.declared.faults.HistoryFault.TheVariants.{Io}
use Rattle.overlapping.proofs.EndLemmas.{io_back, io_of}
use Rattle.loosely.proofs.BesidesLemmas.{unmade}
use Rattle.word_audit.proofs.auditing.judge_so.Goals as goal

pub returns-in_default-clause-ends : goal.returns-in_default-clause-ends
returns-in_default-clause-ends g c = (
  Err (Io NoMemory),
  c.refuse_history.ensures.value,
  unmade _ c.args.manner.is_alone c.args.manner.any_place _,
  tells_want Io io_of io_back _ _ refl,
)

pub returns-in_default-new-clause-ends : goal.returns-in_default-new-clause-ends
returns-in_default-new-clause-ends g c = (
  Err (Io NoMemory),
  c.refuse_history-in_default-new.ensures.value,
  unmade _ c.args.manner.is_alone c.args.manner.any_place _,
  tells_want Io io_of io_back _ _ refl,
)

pub returns-in_default-new-2-clause-ends : goal.returns-in_default-new-2-clause-ends
returns-in_default-new-2-clause-ends g c = (
  Err (Io NoMemory),
  c.refuse_history-in_default-new-2.ensures.value,
  unmade _ c.args.manner.is_alone c.args.manner.any_place _,
  tells_want Io io_of io_back _ _ refl,
)
