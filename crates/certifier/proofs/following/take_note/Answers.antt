use Rattle.machine_model.proofs.Words.{rules, refl, subst}
use Rattle.machine_model.specs.declared.event.Outcome.{Outcome}
use Rattle.core_steps.specs.Machine.{state}
use Rattle.certifier.specs.Following.{Leads}
use Rattle.certifier.proofs.following.take_note.Goals as goal

pub returns-then-not-is_same-clause-err : goal.returns-then-not-is_same-clause-err
returns-then-not-is_same-clause-err g c = (
  refl,
  refl,
  c.is_same.ensures.no (search rules),
  (state c.step.new.self, record { step = c.in-Ok.ensures.step; joins = c.in-Ok.ensures.joins; divides = c.in-Ok.ensures.divides }),
)

pub returns-clause-ok : goal.returns-clause-ok
returns-clause-ok g c = (
  c.answers.ensures.one,
  subst
      (λ (o : Outcome). Leads g.M.SlotMap.parts g.M.SlotMap.can_fold g.M.SlotMap.folds (state c.args.machine.now) c.args.note.now.event o
      (state c.step.new.self))
      (c.is_same.ensures.yes c.if-not-is_same.false)
      (record { step = c.in-Ok.ensures.step; joins = c.in-Ok.ensures.joins; divides = c.in-Ok.ensures.divides }),
)
