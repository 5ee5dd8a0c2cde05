-- What becomes of a seat that does the tasks of its core
use Rattle.std.specs.Prelude.{◌≡◌, ℕ, ◌+◌, Bool, List, [], ◌∷◌, ◌++◌, Option, None, Some}
use Rattle.vm_base.specs.Plain.{mode_of}
use Rattle.frames.specs.Files.{files_of}
use Rattle.vm_base.specs.declared.replies.Reply.{Reply}
use Rattle.machine_model.specs.declared.event.Event.TheVariants as EventOf
use Rattle.seats.specs.Notes.{SeatView}
use Rattle.seats.specs.Growing.{OneCall}
use Rattle.live_space.specs.Answering.{AnswersFor}
use Rattle.live_space.specs.Calls.{IsIdle, LacksCall, LacksRoom, MayBegin}
use Rattle.live_space.specs.Counting.{NotesOneIf}
use Rattle.live_space.specs.Space.{LiveView}
use Rattle.live_space.specs.declared.fault.LiveFault.{LiveFault}
use Rattle.trace_words.specs.declared.script.Task.{Task}
use Rattle.trace_words.specs.declared.script.Task.TheVariants.{Call, Flush, Review}

-- a call that could begin was begun, and noted whole with a reply of its request; a flush or a review was noted, or
-- found nothing to do
abbrev pub Does : LiveView → SeatView → Task → SeatView → Type 0
Does l s (Call request) t = MayBegin l.share s × (t.begun ≡ s.begun + 1)
    × ((reply : Reply) × OneCall s request reply t × AnswersFor (λ file. mode_of (files_of l.files file)) s.core request reply)
Does l s Flush t = (is_noted : Bool) × NotesOneIf (EventOf.Flush s.core) s is_noted t
Does l s Review t = (is_noted : Bool) × NotesOneIf (EventOf.Review s.core) s is_noted t

-- the tasks were done, one after another
abbrev pub DoesAll : LiveView → SeatView → List Task → SeatView → Type 0
DoesAll l s [] t = t ≡ s
DoesAll l s (task ∷ tasks) t = (m : SeatView) × Does l s task m × DoesAll l m tasks t

-- why a seat can't begin a task
abbrev pub Lacks : ℕ → SeatView → Task → LiveFault → Type 0
Lacks share s (Call request) fault = LacksCall share s fault
Lacks share s Flush fault = LacksRoom 1 s fault
Lacks share s Review fault = LacksRoom 1 s fault

-- the tasks before one were done, and that one couldn't begin, so that nothing was noted for it
pub record Stops (live : LiveView) (s : SeatView) (tasks : List Task) (fault : LiveFault) (t : SeatView) : Type 0 where
  pub done : List Task
  pub next : Task
  pub rest : List Task
  pub are : tasks ≡ done ++ next ∷ rest
  pub before : SeatView
  pub does : DoesAll live s done before
  pub lacks : Lacks live.share before next fault
  pub idle : IsIdle before t

-- all tasks were done, or those before the fault
abbrev pub EndsAs : LiveView → SeatView → List Task → SeatView → Option LiveFault → Type 0
EndsAs l s tasks t None = DoesAll l s tasks t
EndsAs l s tasks t (Some fault) = Stops l s tasks fault t
