use Rattle.std.specs.Prelude.{IfOk}
use Rattle.machine_model.proofs.Words.{◌≡◌, ◌<◌, ◌∙◌, ℕ, Some, Ok, Err, Result, true, sym, ap, inr, arith, core_of, is_here, nat_tests, Made}
use Rattle.machine_model.specs.declared.event.Event.{Event}
use Rattle.machine_model.specs.declared.event.Outcome.{Outcome}
use Rattle.core_steps.specs.State.{world}
use Rattle.core_steps.proofs.engine.Engine.act.Goals as goal

-- a step that is no Fold says nothing of joins
nothing : {E : Type 0} (r : Result Outcome E) → IfOk r (λ o. Unit {0})
nothing (Ok o) = tt
nothing (Err e) = tt

-- the core of an event that is taken is one of the machine's
here : (made : Made) (e : Event) (core : ℕ) → core_of e ≡ Some core → is_here made (core_of e) ≡ true → core < made.cores
here made e core of is = let at : is_here made (Some core) ≡ true = ap (is_here made) (sym of) ∙ is in grind (arith, nat_tests)

pub call-requires : goal.call-requires
call-requires g c = here (world g.M.SlotRead.slots c.args.self.now).made c.args.event c.in-Call.core (ap core_of c.in-Call.is) c.requires.here

pub returns-in-Call-clause-row : goal.returns-in-Call-clause-row
returns-in-Call-clause-row g c = rw c.in-Call.is c.call.ensures

pub returns-in-Call-clause-joins : goal.returns-in-Call-clause-joins
returns-in-Call-clause-joins g c = rw c.in-Call.is tt

pub returns-in-Call-clause-divides : goal.returns-in-Call-clause-divides
returns-in-Call-clause-divides g c = rw c.in-Call.is tt

pub go-requires-clause-here : goal.go-requires-clause-here
go-requires-clause-here g c = here (world g.M.SlotRead.slots c.args.self.now).made c.args.event c.in-Go.core (ap core_of c.in-Go.is) c.requires.here

pub go-requires-clause-well : goal.go-requires-clause-well
go-requires-clause-well g c = c.requires.well

pub returns-in-Go-clause-row : goal.returns-in-Go-clause-row
returns-in-Go-clause-row g c = rw c.in-Go.is c.go.ensures.row

pub returns-in-Go-clause-joins : goal.returns-in-Go-clause-joins
returns-in-Go-clause-joins g c = rw c.in-Go.is (nothing c.go.result)

pub returns-in-Go-clause-divides : goal.returns-in-Go-clause-divides
returns-in-Go-clause-divides g c = rw c.in-Go.is c.go.ensures.divides

pub take_frame-requires : goal.take_frame-requires
take_frame-requires g c = record {
  here = here (world g.M.SlotRead.slots c.args.self.now).made c.args.event c.in-Frame.core (ap core_of c.in-Frame.is) c.requires.here;
  well = c.requires.well;
}

pub returns-in-Frame-clause-row : goal.returns-in-Frame-clause-row
returns-in-Frame-clause-row g c = rw c.in-Frame.is c.take_frame.ensures

pub returns-in-Frame-clause-joins : goal.returns-in-Frame-clause-joins
returns-in-Frame-clause-joins g c = rw c.in-Frame.is tt

pub returns-in-Frame-clause-divides : goal.returns-in-Frame-clause-divides
returns-in-Frame-clause-divides g c = rw c.in-Frame.is tt

pub guess-requires : goal.guess-requires
guess-requires g c = record {
  here = here (world g.M.SlotRead.slots c.args.self.now).made c.args.event c.in-Guess.core (ap core_of c.in-Guess.is) c.requires.here;
  well = c.requires.well;
}

pub returns-in-Guess-clause-row : goal.returns-in-Guess-clause-row
returns-in-Guess-clause-row g c = rw c.in-Guess.is c.guess.ensures

pub returns-in-Guess-clause-joins : goal.returns-in-Guess-clause-joins
returns-in-Guess-clause-joins g c = rw c.in-Guess.is tt

pub returns-in-Guess-clause-divides : goal.returns-in-Guess-clause-divides
returns-in-Guess-clause-divides g c = rw c.in-Guess.is tt

pub take_window-requires : goal.take_window-requires
take_window-requires g c = record {
  here = here (world g.M.SlotRead.slots c.args.self.now).made c.args.event c.in-Whole.core (ap core_of c.in-Whole.is) c.requires.here;
  well = c.requires.well;
}

pub returns-in-Whole-clause-row : goal.returns-in-Whole-clause-row
returns-in-Whole-clause-row g c = rw c.in-Whole.is c.take_window.ensures

pub returns-in-Whole-clause-joins : goal.returns-in-Whole-clause-joins
returns-in-Whole-clause-joins g c = rw c.in-Whole.is tt

pub returns-in-Whole-clause-divides : goal.returns-in-Whole-clause-divides
returns-in-Whole-clause-divides g c = rw c.in-Whole.is tt

pub take-requires : goal.take-requires
take-requires g c = record {
  here = here (world g.M.SlotRead.slots c.args.self.now).made c.args.event c.in-Take.core (ap core_of c.in-Take.is) c.requires.here;
  well = c.requires.well;
}

pub returns-in-Take-clause-row : goal.returns-in-Take-clause-row
returns-in-Take-clause-row g c = rw c.in-Take.is c.take.ensures

pub returns-in-Take-clause-joins : goal.returns-in-Take-clause-joins
returns-in-Take-clause-joins g c = rw c.in-Take.is tt

pub returns-in-Take-clause-divides : goal.returns-in-Take-clause-divides
returns-in-Take-clause-divides g c = rw c.in-Take.is tt

pub walk-requires : goal.walk-requires
walk-requires g c = record {
  here = here (world g.M.SlotRead.slots c.args.self.now).made c.args.event c.in-Walk.core (ap core_of c.in-Walk.is) c.requires.here;
  well = c.requires.well;
}

pub returns-in-Walk-clause-row : goal.returns-in-Walk-clause-row
returns-in-Walk-clause-row g c = rw c.in-Walk.is c.walk.ensures

pub returns-in-Walk-clause-joins : goal.returns-in-Walk-clause-joins
returns-in-Walk-clause-joins g c = rw c.in-Walk.is tt

pub returns-in-Walk-clause-divides : goal.returns-in-Walk-clause-divides
returns-in-Walk-clause-divides g c = rw c.in-Walk.is tt

pub evict-requires : goal.evict-requires
evict-requires g c = record {
  here = here (world g.M.SlotRead.slots c.args.self.now).made c.args.event c.in-Evict.core (ap core_of c.in-Evict.is) c.requires.here;
  well = c.requires.well;
}

pub returns-in-Evict-clause-row : goal.returns-in-Evict-clause-row
returns-in-Evict-clause-row g c = rw c.in-Evict.is c.evict.ensures

pub returns-in-Evict-clause-joins : goal.returns-in-Evict-clause-joins
returns-in-Evict-clause-joins g c = rw c.in-Evict.is tt

pub returns-in-Evict-clause-divides : goal.returns-in-Evict-clause-divides
returns-in-Evict-clause-divides g c = rw c.in-Evict.is tt

pub flush-requires : goal.flush-requires
flush-requires g c = record {
  here = here (world g.M.SlotRead.slots c.args.self.now).made c.args.event c.in-Flush.core (ap core_of c.in-Flush.is) c.requires.here;
  well = c.requires.well;
}

pub returns-in-Flush-clause-row : goal.returns-in-Flush-clause-row
returns-in-Flush-clause-row g c = rw c.in-Flush.is c.flush.ensures

pub returns-in-Flush-clause-joins : goal.returns-in-Flush-clause-joins
returns-in-Flush-clause-joins g c = rw c.in-Flush.is tt

pub returns-in-Flush-clause-divides : goal.returns-in-Flush-clause-divides
returns-in-Flush-clause-divides g c = rw c.in-Flush.is tt

pub review-requires : goal.review-requires
review-requires g c = record {
  here = here (world g.M.SlotRead.slots c.args.self.now).made c.args.event c.in-Review.core (ap core_of c.in-Review.is) c.requires.here;
  well = c.requires.well;
}

pub returns-in-Review-clause-row : goal.returns-in-Review-clause-row
returns-in-Review-clause-row g c = rw c.in-Review.is c.review.ensures

pub returns-in-Review-clause-joins : goal.returns-in-Review-clause-joins
returns-in-Review-clause-joins g c = rw c.in-Review.is tt

pub returns-in-Review-clause-divides : goal.returns-in-Review-clause-divides
returns-in-Review-clause-divides g c = rw c.in-Review.is tt

pub returns-in-Fold-clause-row : goal.returns-in-Fold-clause-row
returns-in-Fold-clause-row g c = rw c.in-Fold.is c.fold.ensures.row

pub returns-in-Fold-clause-joins : goal.returns-in-Fold-clause-joins
returns-in-Fold-clause-joins g c = rw c.in-Fold.is (inr c.fold.ensures.exact)

pub returns-in-Fold-clause-divides : goal.returns-in-Fold-clause-divides
returns-in-Fold-clause-divides g c = rw c.in-Fold.is tt

pub give_up-requires : goal.give_up-requires
give_up-requires g c = record {
  here = here (world g.M.SlotRead.slots c.args.self.now).made c.args.event c.in-GiveUp.core (ap core_of c.in-GiveUp.is) c.requires.here;
  well = c.requires.well;
}

pub returns-in-GiveUp-clause-row : goal.returns-in-GiveUp-clause-row
returns-in-GiveUp-clause-row g c = rw c.in-GiveUp.is c.give_up.ensures

pub returns-in-GiveUp-clause-joins : goal.returns-in-GiveUp-clause-joins
returns-in-GiveUp-clause-joins g c = rw c.in-GiveUp.is tt

pub returns-in-GiveUp-clause-divides : goal.returns-in-GiveUp-clause-divides
returns-in-GiveUp-clause-divides g c = rw c.in-GiveUp.is tt
