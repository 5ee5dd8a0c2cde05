-- The event of the machine that a core's action is.
use Rattle.std.specs.Prelude.{ℕ}
use Rattle.machine_model.specs.declared.event.Event.{Event}
use Rattle.machine_model.specs.declared.event.Event.TheVariants as Ev
use Rattle.trace_text.specs.declared.action.Action.{Action}
use Rattle.trace_text.specs.declared.action.Action.TheVariants.{Call, Go, Take, Flush, Review, GiveUp}
use Rattle.trace_text.specs.declared.action.Action.TheVariants.{Frame, Guess, Whole, Walk, Evict}

abbrev pub event_of : ℕ → Action → Event
event_of core (Call request) = Ev.Call core request
event_of core Go = Ev.Go core
event_of core Take = Ev.Take core
event_of core Flush = Ev.Flush core
event_of core Review = Ev.Review core
event_of core GiveUp = Ev.GiveUp core
event_of core (Frame frame) = Ev.Frame core frame
event_of core (Guess page) = Ev.Guess core page
event_of core Whole = Ev.Whole core
event_of core (Walk page) = Ev.Walk core page
event_of core (Evict page) = Ev.Evict core page
