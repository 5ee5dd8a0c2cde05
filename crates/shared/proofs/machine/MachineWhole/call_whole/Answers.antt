use Rattle.std.proofs.Common.{◌<◌, subst, sym}
use Rattle.machine_model.specs.World.{Made}
use Rattle.core_steps.specs.State.{world}
use Rattle.core_steps.proofs.Reached.{legal}
use Rattle.shared.proofs.InCalls.{call_made}
use Rattle.shared.proofs.Halting.{call_gives_up, call_settles}
use Rattle.shared.proofs.machine.MachineWhole.call_whole.Goals as goal

pub call_settled-requires-clause-here : goal.call_settled-requires-clause-here
call_settled-requires-clause-here g c =
    let made = call_made (world g.M.SlotRead.slots c.args.self.now.engine) c.args.core c.args.request c.in-Ok.finished
    (world g.M.SlotRead.slots c.call.new.self.engine) c.in-Ok.ensures.ends in
    subst (λ (m : Made). c.args.core < m.cores) (sym made) c.requires.here

pub returns-in-Ok-clause-ends : goal.returns-in-Ok-clause-ends
returns-in-Ok-clause-ends g c = (call_settles (world g.M.SlotRead.slots c.args.self.now.engine) c.args.core c.args.request c.in-Ok.finished
    (world g.M.SlotRead.slots c.call.new.self.engine) _ _ c.requires.here
    (legal _ c.args.self.now.reached) c.requires.calm c.in-Ok.ensures.ends c.call_settled.ensures.ends).0

pub returns-in-Ok-clause-made : goal.returns-in-Ok-clause-made
returns-in-Ok-clause-made g c = (call_settles (world g.M.SlotRead.slots c.args.self.now.engine) c.args.core c.args.request c.in-Ok.finished
    (world g.M.SlotRead.slots c.call.new.self.engine) _ _ c.requires.here
    (legal _ c.args.self.now.reached) c.requires.calm c.in-Ok.ensures.ends c.call_settled.ensures.ends).1

pub returns-in-Err-clause-ends : goal.returns-in-Err-clause-ends
returns-in-Err-clause-ends g c = (call_gives_up g.L.Ledger.keeps (world g.M.SlotRead.slots c.args.self.now.engine) c.args.core c.args.request
    (world g.M.SlotRead.slots c.call.new.self.engine) _ _
    (legal _ c.args.self.now.reached) c.requires.calm c.in-Err.ensures.err c.call_given_up.ensures.ends).0

pub returns-in-Err-clause-made : goal.returns-in-Err-clause-made
returns-in-Err-clause-made g c = (call_gives_up g.L.Ledger.keeps (world g.M.SlotRead.slots c.args.self.now.engine) c.args.core c.args.request
    (world g.M.SlotRead.slots c.call.new.self.engine) _ _
    (legal _ c.args.self.now.reached) c.requires.calm c.in-Err.ensures.err c.call_given_up.ensures.ends).1
