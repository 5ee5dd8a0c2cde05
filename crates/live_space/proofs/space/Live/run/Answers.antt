use Rattle.std.proofs.Common.{◌≡◌, ◌⊎◌, Result, inr, refl, sym, subst, rules}
use Rattle.slot_lock.specs.declared.plan.Plan.{Plan}
use Rattle.vm_base.specs.declared.replies.Reply.{Reply}
use Rattle.vm_base.specs.declared.replies.Reply.TheVariants.{NoMemory}
use Rattle.seats.proofs.Growing.{grew_steps}
use Rattle.live_pages.proofs.Ending.{ends_with}
use Rattle.frames.specs.Files.{files_of}
use Rattle.live_space.specs.Doing.{DoneIf}
use Rattle.live_space.specs.Planned.{AnswersDecided}
use Rattle.live_space.proofs.space.Live.run.Goals as goal

pub returns-in-Ok-clause-answers : goal.returns-in-Ok-clause-answers
returns-in-Ok-clause-answers g c =
    subst (λ (r : Result Plan Reply). (c.go_on.result ≡ NoMemory) ⊎ AnswersDecided r c.go_on.result) (sym c.in-Ok.is) c.go_on.ensures.answers

pub returns-in-Ok-clause-did : goal.returns-in-Ok-clause-did
returns-in-Ok-clause-did g c =
    subst (λ (r : Result Plan Reply). DoneIf (files_of c.args.self.now.files) r c.go_on.new.seat c.go_on.result) (sym c.in-Ok.is) c.go_on.ensures.did

pub returns-in-Err : goal.returns-in-Err
returns-in-Err g c = record {
  ended = ends_with _ _ _ _ (grew_steps _ _ _ c.step-checked.ensures) c.answer.ensures (search rules);
  answers = subst (λ (r : Result Plan Reply). (c.in-Err.reply ≡ NoMemory) ⊎ AnswersDecided r c.in-Err.reply) (sym c.in-Err.is) (inr refl);
  did = subst (λ (r : Result Plan Reply). DoneIf (files_of c.args.self.now.files) r c.answer.new.seat c.in-Err.reply) (sym c.in-Err.is) tt;
}
