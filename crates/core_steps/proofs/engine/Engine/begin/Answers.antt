use Rattle.machine_model.proofs.Words.{inl, refl}
use Rattle.machine_model.specs.declared.event.Event.TheVariants.{Call}
use Rattle.core_steps.specs.State.{world}
use Rattle.core_steps.proofs.at_once.AtOnce.{not_begun}
use Rattle.core_steps.proofs.Reached.{well, kept_by}
use Rattle.core_steps.proofs.engine.Engine.begin.Goals as goal

pub step-requires : goal.step-requires
step-requires g c = well _ c.requires

pub returns-in-Stepped-clause-reached : goal.returns-in-Stepped-clause-reached
returns-in-Stepped-clause-reached g c = kept_by g.L.Ledger.keeps c.step.result _ _ (Call c.args.core c.args.request) c.step.ensures.step c.requires

pub returns-in_default-outcome : goal.returns-in_default-outcome
returns-in_default-outcome g c = record {
  starts = not_begun c.in-Ok.outcome (world g.M.SlotRead.slots c.args.self.now) (world g.M.SlotRead.slots c.step.new.self) c.args.core c.args.request
      c.in_default-outcome.not-Stepped c.in-Ok.ensures.step;
  divides = inl (c.in-Ok.outcome, c.in_default-outcome.not-Stepped, c.in-Ok.ensures.step, refl);
  reached = kept_by g.L.Ledger.keeps c.step.result _ _ (Call c.args.core c.args.request) c.step.ensures.step c.requires;
}
