use Rattle.std.proofs.Common.{subst, sym}
use Rattle.machine_model.specs.Sound.{IsReached}
use Rattle.core_steps.specs.State.{world}
use Rattle.core_steps.proofs.Reached.{well}
use Rattle.core_steps.proofs.rows.Known.{is_at}
use Rattle.core_steps.proofs.at_once.AtOnce.{to_same}
use Rattle.core_steps.proofs.at_once.FaultAtOnce.{made_steps}
use Rattle.core_steps.proofs.engine.Engine.fault_at_once.Goals as goal

pub make_fault-reply-requires-clause-reached : goal.make_fault-reply-requires-clause-reached
make_fault-reply-requires-clause-reached g c =
    subst (λ x. ∥ IsReached x ∥₁) (sym (to_same (world g.M.SlotRead.slots c.args.self.now) c.args.core _ c.requires.at)) c.requires.reached

pub tried_to-requires : goal.tried_to-requires
tried_to-requires g c =
    (is_at (world g.M.SlotRead.slots c.args.self.now) c.args.core c.requires.here (well _ c.requires.reached) _ c.requires.at).goal

pub returns-clause-steps : goal.returns-clause-steps
returns-clause-steps g c =
    made_steps _ (world g.M.SlotRead.slots c.make_fault-reply.new.self) _ c.args.core c.args.touch c.make_fault-reply.result c.requires.at
    c.make_fault-reply.ensures (rw c.tried_to.ensures at c.go_to.ensures)
