use Rattle.std.proofs.Common.{subst}
use Rattle.shared.specs.Cores.{Answers, CoreView}
use Rattle.shared.specs.declared.space.Answer.TheVariants as Answer
use Rattle.shared_script.proofs.tasks.call.Goals as goal

pub returns-in-Full-clause-full : goal.returns-in-Full-clause-full
returns-in-Full-clause-full g c = subst (λ (v : CoreView g.row.S.Denot). Answers g.S.Whole.state v c.args.request Answer.Full c.call.new.core) c.tries.invariant
    c.in-Full.ensures.answers
