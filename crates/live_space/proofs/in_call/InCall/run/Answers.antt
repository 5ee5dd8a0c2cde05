use Rattle.std.proofs.Common.{sym, subst}
use Rattle.slot_lock.specs.declared.plan.Plan.{Plan}
use Rattle.live_space.specs.Planned.{AnswersPlan, RanIn}
use Rattle.frames.specs.Files.{files_of}
use Rattle.live_space.specs.Doing.{Did}
use Rattle.live_space.proofs.Done.{touch_did}
use Rattle.live_space.proofs.Ended.{runs_after}
use Rattle.live_space.proofs.in_call.InCall.run.Goals as goal

pub returns-in-Touch-clause-runs : goal.returns-in-Touch-clause-runs
returns-in-Touch-clause-runs g c = runs_after _ _ _ _ c.step.ensures.goes c.touch.ensures.runs

pub returns-in-Touch-clause-answers : goal.returns-in-Touch-clause-answers
returns-in-Touch-clause-answers g c = subst (λ (p : Plan). RanIn (AnswersPlan p) c.touch.result) (sym c.in-Touch.is) c.touch.ensures.answers

pub returns-in-Touch-clause-did : goal.returns-in-Touch-clause-did
returns-in-Touch-clause-did g c =
    let files = files_of c.args.self.now.space.now.files in
    let seat = c.touch.new.self.seat.now in
    let held = c.touch.new.self.held in
    subst (λ (p : Plan). Did files p c.touch.result seat held) (sym c.in-Touch.is) (touch_did files c.in-Touch.touch c.touch.result seat held)
