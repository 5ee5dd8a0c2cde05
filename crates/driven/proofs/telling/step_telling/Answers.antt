use Rattle.machine_model.proofs.Words.{subst, ap, ◌∙◌, is_some, true}
use Rattle.std.specs.Prelude.{◌≡◌}
use Rattle.core_steps.specs.State.{world}
use Rattle.real_mmu.specs.Fills.{due_in}
use Rattle.real_mmu.specs.Remembered.{own_range}
use Rattle.driven.specs.Telling.{told_by, fill_due, fill_made}
use Rattle.driven.proofs.Tellings.{step_tells, was_due}
use Rattle.driven.proofs.telling.step_telling.Goals as goal

pub returns : goal.returns
returns g c =
    let w = world g.M.SlotRead.slots c.args.machine.now.engine in
    let v = world g.M.SlotRead.slots c.step.new.self.engine in
    let fill = c.fill_made-fill.ensures ∙ ap (fill_made v) (c.fill_due-due.ensures.value ∙ ap (λ p. fill_due w (due_in p)) c.stand-again.ensures.value) in (
      told_by c.own_range-own.result c.fill_made-fill.result,
      step_tells w v c.args.core c.in-Ok.outcome (told_by c.own_range-own.result c.fill_made-fill.result) c.args.machine.now.reached c.in-Ok.ensures.step
          (c.own_range-own.ensures ∙ ap own_range c.stand-first.ensures.value) fill,
      c.join.ensures,
      λ h. was_due w v (due_in (w.calls.phase c.args.core)) (subst (λ f. is_some f ≡ true) fill h),
    )
