use Rattle.core_steps.proofs.Reached.{well, kept_by, legal, sound_by}
use Rattle.core_steps.proofs.machine.Machine.step.Goals as goal

pub step-requires : goal.step-requires
step-requires g c = well _ c.args.self.now.reached

pub invariant_of-self : goal.invariant_of-self
invariant_of-self g c = record { reached = kept_by g.L.Ledger.keeps c.step.result _ _ c.args.event c.step.ensures.step c.args.self.now.reached }

pub returns-clause-sound : goal.returns-clause-sound
returns-clause-sound g c = sound_by g.L.Ledger.keeps c.step.result _ _ c.args.event c.step.ensures.step c.args.self.now.reached

pub returns-clause-legal : goal.returns-clause-legal
returns-clause-legal g c = legal _ (kept_by g.L.Ledger.keeps c.step.result _ _ c.args.event c.step.ensures.step c.args.self.now.reached)
