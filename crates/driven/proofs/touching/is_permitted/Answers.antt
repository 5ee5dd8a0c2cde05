use Rattle.machine_model.proofs.Words.{◌∙◌, sym}
use Rattle.core_steps.specs.State.{world}
use Rattle.driven.proofs.Served.{worded}
use Rattle.driven.proofs.touching.is_permitted.Goals as goal

pub returns-in-Some-clause-entry : goal.returns-in-Some-clause-entry
returns-in-Some-clause-entry g c = λ is.
    let w = world g.M.SlotRead.slots c.args.machine.now.engine in
    let q = worded (w.hardware.table c.args.core c.args.page) c.in-Some.word (sym c.entry.ensures ∙ c.in-Some.is) in
    (q.0, q.1, c.permits.ensures q.0 q.2 is)
