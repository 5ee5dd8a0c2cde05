use Rattle.machine_model.proofs.Words.{ℕ, ◌+◌, ◌<◌, ◌≤◌, ◌∙◌, after_finding, ap, arith, event_limit, locking, put_same, refl, subst, sym, None, Touch, World}
use Rattle.slot_lock.specs.declared.plan.Goal.TheVariants as To
use Rattle.slot_lock.specs.Slots.{IsFreeSlot}
use Rattle.machine_model.specs.Sound.{IsReached}
use Rattle.core_steps.specs.OnePage.{IsFault, Makes, after_settling, at_lock}
use Rattle.core_steps.specs.State.{world}
use Rattle.core_steps.proofs.at_once.AtOnce.{stands}
use Rattle.core_steps.proofs.engine.Engine.make_fault.Goals as goal

pub free_page-requires : goal.free_page-requires
free_page-requires g c = (stands (world g.M.SlotRead.slots c.args.self.now) c.args.core _ c.requires.here c.requires.reached).goal.plan.page

-- the access whose page is free has a fault there
faulted : (w : World) (core : ℕ) (touch : Touch) → core < w.made.cores → ∥ IsReached (at_lock core touch w) ∥₁ → IsFreeSlot w.slots touch.page
    → w.calls.events + 8 ≤ event_limit → IsFault (at_lock core touch w) core touch
faulted w core touch here reached alone room = record {
  reached = reached;
  here = here;
  phase = put_same w.calls.phase core (locking (To.Access touch));
  alone = alone;
  room = room;
}

-- no step is made
waits : (w : World) (core : ℕ) (touch : Touch) → Makes w core touch None w
waits w core touch = record {
  steps = 0;
  few = omega arith;
  passes = record { steps = refl; cores = refl; phases = refl; events = omega arith; edges = refl };
}

pub returns-in_default : goal.returns-in_default
returns-in_default g c = waits (world g.M.SlotRead.slots c.args.self.now) c.args.core c.args.touch

pub returns-in-Err : goal.returns-in-Err
returns-in-Err g c = c.fail_at_once.ensures

pub returns-then-not-room_for : goal.returns-then-not-room_for
returns-then-not-room_for g c =
    let w = world g.M.SlotRead.slots c.args.self.now in
    subst (Makes w c.args.core c.args.touch None) (sym c.room_for.ensures.same) (waits w c.args.core c.args.touch)

pub returns : goal.returns
returns g c =
    subst (λ w. Makes w c.args.core c.args.touch c.show_at_once.result (world g.M.SlotRead.slots c.show_at_once.new.self)) c.room_for.ensures.same
    c.show_at_once.ensures

pub returns-then-is_none : goal.returns-then-is_none
returns-then-is_none g c = c.want_at_once.ensures

pub returns-2 : goal.returns-2
returns-2 g c = waits (world g.M.SlotRead.slots c.args.self.now) c.args.core c.args.touch

pub find-settled-requires : goal.find-settled-requires
find-settled-requires g c = c.in-Some.ensures.some.info

pub fail_at_once-requires-clause-fault : goal.fail_at_once-requires-clause-fault
fail_at_once-requires-clause-fault g c =
    faulted (world g.M.SlotRead.slots c.args.self.now) c.args.core c.args.touch c.requires.here c.requires.reached c.in-Some.ensures.some.alone c.requires.room

pub fail_at_once-requires-clause-fails : goal.fail_at_once-requires-clause-fails
fail_at_once-requires-clause-fails g c = λ m.
    ap (λ s. after_finding c.args.core c.args.touch s m) (sym c.find-settled.ensures)
    ∙ (c.settled_to.ensures c.args.core m ∙ ap (λ r. after_settling c.args.core c.args.touch r m) c.in-Err.is)

pub show_at_once-requires-clause-fault : goal.show_at_once-requires-clause-fault
show_at_once-requires-clause-fault g c =
    subst (λ w. IsFault (at_lock c.args.core c.args.touch w) c.args.core c.args.touch) (sym c.room_for.ensures.same)
    (faulted (world g.M.SlotRead.slots c.args.self.now) c.args.core c.args.touch c.requires.here c.requires.reached c.in-Some.ensures.some.alone
    c.requires.room)

pub show_at_once-requires-clause-untold : goal.show_at_once-requires-clause-untold
show_at_once-requires-clause-untold g c = c.in-Some-source_of.ensures.untold

pub show_at_once-requires-clause-log : goal.show_at_once-requires-clause-log
show_at_once-requires-clause-log g c = c.room_for.ensures.room c.if-not-room_for.false

pub want_at_once-requires-clause-fault : goal.want_at_once-requires-clause-fault
want_at_once-requires-clause-fault g c =
    faulted (world g.M.SlotRead.slots c.args.self.now) c.args.core c.args.touch c.requires.here c.requires.reached c.in-Some.ensures.some.alone c.requires.room
