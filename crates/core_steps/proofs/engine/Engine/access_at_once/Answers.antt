use Rattle.machine_model.proofs.Words.{◌<◌, ◌∙◌, ap, arith, subst, sym, World}
use Rattle.core_steps.proofs.at_once.AtOnce.{passes_reached}
use Rattle.core_steps.proofs.at_once.FirstEvents.{called, ends, faults, goes_on}
use Rattle.core_steps.proofs.engine.Engine.access_at_once.Goals as goal

pub try_page-requires-clause-reached : goal.try_page-requires-clause-reached
try_page-requires-clause-reached g c = (called c.requires c.number_call.ensures).reached

pub returns-in-Some-clause-starts : goal.returns-in-Some-clause-starts
returns-in-Some-clause-starts g c = ends (called c.requires c.number_call.ensures) (rw c.in-Some.is at c.try_page.ensures) (omega arith)

pub make_fault-requires-clause-reached : goal.make_fault-requires-clause-reached
make_fault-requires-clause-reached g c =
    passes_reached (rw c.in_default.is at c.try_page.ensures) (called c.requires c.number_call.ensures).reached

pub locking-requires : goal.locking-requires
locking-requires g c = record { plan = (called c.requires c.number_call.ensures).at.plan; target = tt }

pub returns-in-None-clause-starts : goal.returns-in-None-clause-starts
returns-in-None-clause-starts g c =
    let made = faults c.in_default.is c.try_page.ensures c.make_fault.ensures in
    goes_on (called c.requires c.number_call.ensures) (rw c.in-None.is at made.0) made.1 _ (rw c.locking.ensures at c.go_to.ensures)

pub returns-in-Some-make_fault-clause-starts : goal.returns-in-Some-make_fault-clause-starts
returns-in-Some-make_fault-clause-starts g c =
    let made = faults c.in_default.is c.try_page.ensures c.make_fault.ensures in
    ends (called c.requires c.number_call.ensures) (rw c.in-Some-make_fault.is at made.0) made.1

pub number_call-requires-clause-here : goal.number_call-requires-clause-here
number_call-requires-clause-here g c = c.requires.start.here

pub number_call-requires-clause-room : goal.number_call-requires-clause-room
number_call-requires-clause-room g c = c.requires.start.begins.room

pub try_page-requires-clause-here : goal.try_page-requires-clause-here
try_page-requires-clause-here g c = subst (λ n. c.args.core < n) (sym (ap (λ (w : World). w.made.cores) c.number_call.ensures)) c.requires.start.here

pub make_fault-requires-clause-here : goal.make_fault-requires-clause-here
make_fault-requires-clause-here g c =
    subst (λ n. c.args.core < n) (sym (c.try_page.ensures.cores ∙ ap (λ (w : World). w.made.cores) c.number_call.ensures)) c.requires.start.here

pub go_to-requires : goal.go_to-requires
go_to-requires g c =
    subst (λ n. c.args.core < n) (sym (c.make_fault.ensures.passes.cores ∙ (c.try_page.ensures.cores ∙ ap (λ (w : World). w.made.cores) c.number_call.ensures)))
    c.requires.start.here

pub returns-in-Some-clause-edges : goal.returns-in-Some-clause-edges
returns-in-Some-clause-edges g c = c.try_page.ensures.edges ∙ ap (λ (w : World). w.slots.edge) c.number_call.ensures

pub returns-in-None-clause-edges : goal.returns-in-None-clause-edges
returns-in-None-clause-edges g c =
    ap (λ (w : World). w.slots.edge) c.go_to.ensures
    ∙ (c.make_fault.ensures.passes.edges ∙ (c.try_page.ensures.edges ∙ ap (λ (w : World). w.slots.edge) c.number_call.ensures))

pub returns-in-Some-make_fault-clause-edges : goal.returns-in-Some-make_fault-clause-edges
returns-in-Some-make_fault-clause-edges g c =
    c.make_fault.ensures.passes.edges ∙ (c.try_page.ensures.edges ∙ ap (λ (w : World). w.slots.edge) c.number_call.ensures)
