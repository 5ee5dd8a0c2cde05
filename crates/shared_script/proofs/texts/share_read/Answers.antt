use Rattle.std.proofs.Common.{refl}
use Rattle.trace_io.proofs.IoLemmas.{keeps_same}
use Rattle.shared_script.specs.Texts.{unrun, unwritten}
use Rattle.shared_script.proofs.TextLemmas.{fails_own, text_given}
use Rattle.shared_script.proofs.texts.share_read.Goals as goal

pub returns-in-Err-clause-ends : goal.returns-in-Err-clause-ends
returns-in-Err-clause-ends g c = unrun c.in-Err.ensures.fails (keeps_same _)

pub returns-in-Err-clause-write : goal.returns-in-Err-clause-write
returns-in-Err-clause-write g c = λ e. fails_own c.args.script.now _ c.in-Err.ensures.fails (cc)

pub returns-clause-ends : goal.returns-clause-ends
returns-clause-ends g c =
    unwritten refl _ (text_given _ _ _ _ c.declaration.ensures c.in-Ok.ensures.ran) c.in-Err-write_ran.ensures.wrote.front
