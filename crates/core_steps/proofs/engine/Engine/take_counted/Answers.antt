use Rattle.machine_model.proofs.Words.{◌≡◌, ◌+◌, ◌<◌, ◌^◌, Some, true, arith, rules, refl, subst, event_limit, is_here, Took}
use Rattle.mmu.specs.declared.message.Took.TheVariants.{Clear, Invalidate, Idle}
use Rattle.machine_model.specs.declared.event.Event.TheVariants.{Take}
use Rattle.machine_model.specs.Translating.{TakesMessage}
use Rattle.std.proofs.Common.{nat_lt}
use Rattle.core_steps.specs.State.{world}
use Rattle.core_steps.specs.Telling.{taken_outcome, told_at}
use Rattle.core_steps.proofs.at_once.AtOnce.{less}
use Rattle.core_steps.proofs.rows.Rows.{counted, if_true}
use Rattle.core_steps.proofs.engine.Engine.take_counted.Goals as goal

-- what was asked for is told where it was done
told : (took asked : Took) → took ≡ asked → took ≡ told_at (taken_outcome took) asked
told (Clear range) asked h = h
told (Invalidate range) asked h = h
told Idle asked h = refl

pub returns : goal.returns
returns g c =
    let w = world g.M.SlotRead.slots c.args.self.now in
    let took = c.act_on_message.result in
    let below : w.calls.events + 1 < 2 ^ 64 = search rules in
    let here : is_here w.made (Some c.args.core) ≡ true = search rules in
    let acts = subst (λ t. TakesMessage (record w { calls = record w.calls { events = w.calls.events + 1 } }) c.args.core t (taken_outcome took)
    (world g.M.SlotRead.slots c.act_on_message.new.self)) c.act_on_message.ensures.asked c.act_on_message.ensures.acts in (
      taken_outcome took,
      if_true (nat_lt w.calls.events event_limit) _ _ (less w.calls.events event_limit (omega (arith, below)))
          (if_true (is_here w.made (Some c.args.core)) _ _ here (counted w _ (Take c.args.core) (taken_outcome took) acts)),
      told took _ c.act_on_message.ensures.asked,
    )
