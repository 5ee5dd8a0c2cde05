use Rattle.machine_model.proofs.Words.{∥∥₁_map, World, ℕ}
use Rattle.machine_model.specs.Sound.{IsReached}
use Rattle.machine_model.specs.declared.event.Event.TheVariants.{Take}
use Rattle.machine_model.proofs.SoundKept.{reached_step}
use Rattle.mmu.specs.declared.message.Took.{Took}
use Rattle.core_steps.specs.Machine.{state}
use Rattle.core_steps.specs.Telling.{TakesTold}
use Rattle.core_steps.proofs.Reached.{well, legal}
use Rattle.core_steps.proofs.machine.Machine.take.Goals as goal

taken : (w v : World) (core : ℕ) (took : Took) → ∥ IsReached w ∥₁ → TakesTold w core took v → ∥ IsReached v ∥₁
taken w v core took t h = ∥∥₁_map t (λ r. reached_step w v (Take core) h.0 r h.1)

pub take_counted-requires : goal.take_counted-requires
take_counted-requires g c = well _ c.args.self.now.reached

pub invariant_of-self : goal.invariant_of-self
invariant_of-self g c = record { reached = taken _ _ c.args.core c.take_counted.result c.args.self.now.reached c.take_counted.ensures }

pub returns-clause-legal : goal.returns-clause-legal
returns-clause-legal g c = legal _ (taken _ _ c.args.core c.take_counted.result c.args.self.now.reached c.take_counted.ensures)
