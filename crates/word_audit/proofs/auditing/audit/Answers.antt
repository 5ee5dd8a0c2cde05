use Rattle.std.proofs.Common.{Err, refl}
use Rattle.trace_io.specs.declared.fault.IoFault.TheVariants.{NoMemory}
use Rattle.trace_io.proofs.IoLemmas.{tells_want}
use Rattle.audit_text.specs.declared.input.AuditFault.TheVariants.{Io}
use Rattle.audit_text.proofs.EndLemmas.{io_back, io_of}
use Rattle.overlapping.proofs.AuditLemmas.{unmade}
use Rattle.word_audit.proofs.auditing.audit.Goals as goal

pub returns-in_default-clause-ends : goal.returns-in_default-clause-ends
returns-in_default-clause-ends g c =
    (Err (Io NoMemory), c.refuse.ensures.value, unmade _ c.args.terms _, tells_want Io io_of io_back _ _ refl)

pub returns-in_default-new-clause-ends : goal.returns-in_default-new-clause-ends
returns-in_default-new-clause-ends g c =
    (Err (Io NoMemory), c.refuse-in_default-new.ensures.value, unmade _ c.args.terms _, tells_want Io io_of io_back _ _ refl)
