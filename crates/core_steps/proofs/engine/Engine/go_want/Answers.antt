use Rattle.machine_model.proofs.Words.{Some, inl, inr, refl, ap, ◌∙◌, rules, after_reply, NoFrame}
use Rattle.core_steps.specs.State.{world}
use Rattle.core_steps.proofs.engine.Engine.go_want.Goals as goal
use Rattle.core_steps.proofs.engine.Engine.go_want.Goals.{in-None, in-Some}

pub returns : goal.returns
returns g c = elim c.match-least_free.branch [
  | in-None w ↦ inl (
    search rules,
    (
      refl,
      rw w.self-is (w.reply.ensures
          ∙ ap (λ held. after_reply c.args.core (Some held) NoFrame (world g.M.SlotRead.slots c.args.self.now)) w.page_of_touch.ensures),
    ),
  )
  | in-Some w ↦ inr (
    w.in-Some.frame,
    record { free = search rules; least = search rules },
    (refl, search rules),
  )
]
