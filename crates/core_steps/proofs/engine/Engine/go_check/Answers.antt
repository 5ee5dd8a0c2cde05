use Rattle.machine_model.proofs.Words.{◌≡◌, ℕ, Ok, Result, refl, rules, sym, subst, ap, ◌∙◌, Reply, Request, Plan, to, after_check, after_plan, checked_by}
use Rattle.machine_model.proofs.Words.{World}
use Rattle.slot_lock.specs.declared.plan.Plan.TheVariants as PlanOf
use Rattle.core_steps.specs.State.{world}
use Rattle.core_steps.proofs.engine.Engine.go_check.Goals as goal
use Rattle.core_steps.proofs.engine.Engine.go_check.Goals.{in-Ok-Change, in-Ok-Touch, in-Ok-Place, in-Err}

-- the call goes on by what its arguments were checked to
planned : (w v : World) (c : ℕ) (request : Request) (r : Result Plan Reply) → r ≡ checked_by w.made c request → v ≡ after_plan c r w
    → v ≡ after_check c request w
planned w v c request r e h = subst (λ r. v ≡ after_plan c r w) e h

pub returns : goal.returns
returns g c = elim c.match-check.branch [
  | in-Ok-Change w ↦
      let e : c.check.result ≡ Ok (PlanOf.Change w.in-Ok-Change.change) = search rules in (
        refl,
        rw w.self-is (planned (world g.M.SlotRead.slots c.args.self.now) _ c.args.core c.args.request _ (sym e ∙ c.check.ensures.value)
            (w.go_to.ensures ∙ ap (λ p. to c.args.core p (world g.M.SlotRead.slots c.args.self.now)) w.locking.ensures)),
      )
  | in-Ok-Touch w ↦
      let e : c.check.result ≡ Ok (PlanOf.Touch w.in-Ok-Touch.touch) = search rules in (
        refl,
        rw w.self-is (planned (world g.M.SlotRead.slots c.args.self.now) _ c.args.core c.args.request _ (sym e ∙ c.check.ensures.value)
            w.go_to-in-Ok-Touch.ensures),
      )
  | in-Ok-Place w ↦
      let e : c.check.result ≡ Ok (PlanOf.Place w.in-Ok-Place.place) = search rules in (
        refl,
        rw w.self-is (planned (world g.M.SlotRead.slots c.args.self.now) _ c.args.core c.args.request _ (sym e ∙ c.check.ensures.value)
            (w.go_to-in-Ok-Place.ensures ∙ ap (λ p. to c.args.core p (world g.M.SlotRead.slots c.args.self.now)) w.placing.ensures)),
      )
  | in-Err w ↦ (
    refl,
    rw w.self-is (planned (world g.M.SlotRead.slots c.args.self.now) _ c.args.core c.args.request _ (sym w.in-Err.is ∙ c.check.ensures.value)
        w.reply.ensures),
  )
]
