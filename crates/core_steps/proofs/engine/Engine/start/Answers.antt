use Rattle.machine_model.proofs.Words.{ap, rules, ◌∙◌, after_check}
use Rattle.core_steps.specs.OnePage.{later}
use Rattle.core_steps.specs.State.{world}
use Rattle.core_steps.proofs.at_once.Divided.{starts_undivided}
use Rattle.core_steps.proofs.at_once.FirstEvents.{begins_plainly, reply_room}
use Rattle.core_steps.proofs.engine.Engine.start.Goals as goal

pub returns-in-Some-clause-divides : goal.returns-in-Some-clause-divides
returns-in-Some-clause-divides g c =
    starts_undivided g.M.SlotMap.parts (world g.M.SlotRead.slots c.args.self.now) _ c.args.core c.args.request _ c.access_at_once.ensures.starts.0
    c.access_at_once.ensures.edges

pub go_check-requires-clause-room : goal.go_check-requires-clause-room
go_check-requires-clause-room g c =
    reply_room (world g.M.SlotRead.slots c.args.self.now) c.args.core c.args.request (search rules) _ c.number_call.ensures

pub returns : goal.returns
returns g c =
    let made =
    begins_plainly (world g.M.SlotRead.slots c.args.self.now) c.args.core c.args.request (search rules) _
    (c.go_check.ensures.1 ∙ ap (λ a. after_check c.args.core c.args.request (later 2 a)) c.number_call.ensures) g.M.SlotMap.parts in
    record { starts = made.0; divides = made.1; reached = made.2 }
