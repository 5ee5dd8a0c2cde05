-- One step of the machine, as a relation of the states before and after. Where the slot map may
-- choose, any choice is allowed.
use Rattle.std.specs.Prelude.{◌≡◌, ℕ, zero, suc, ◌-◌, ◌^◌, Bool, true, cond, nat_lt, length, List, []}
use Rattle.std.specs.Prelude.{◌∷◌, ◌++◌, Option, None, Some}
use Rattle.vm_base.specs.declared.requests.Request.{Request}
use Rattle.vm_base.specs.Functions.{put}
use Rattle.slot_lock.specs.Plan.{goal_range}
use Rattle.mmu.specs.Messages.{asked}
use Rattle.machine_model.specs.declared.phase.Phase.{Phase}
use Rattle.machine_model.specs.declared.phase.Phase.TheVariants as At
use Rattle.machine_model.specs.declared.event.Event.{Event}
use Rattle.machine_model.specs.declared.event.Event.TheVariants.{Call, Go, Frame, Guess, Whole, Take}
use Rattle.machine_model.specs.declared.event.Event.TheVariants.{Walk, Evict, Flush, Review, Fold}
use Rattle.machine_model.specs.declared.event.Event.TheVariants.{GiveUp}
use Rattle.machine_model.specs.declared.event.Outcome.{Outcome}
use Rattle.machine_model.specs.declared.event.Outcome.TheVariants.{Stepped, Answered, Full}
use Rattle.machine_model.specs.Events.{core_of}
use Rattle.machine_model.specs.World.{World, Made}
use Rattle.machine_model.specs.Actions.{Idles, Becomes, to}
use Rattle.machine_model.specs.Counting.{FlushesOnce, ReviewsOnce}
use Rattle.machine_model.specs.GivingUp.{GivesUp}
use Rattle.machine_model.specs.Locks.{LocksNext, UnlocksNext, Releases, FoldsAt}
use Rattle.machine_model.specs.Placing.{GuessesNext, GuessesThisRun, TakesWindow, FindsNext, GoesBack}
use Rattle.machine_model.specs.Placing.{CutsNext}
use Rattle.machine_model.specs.Changes.{after_check, DecidesNext, after_post, CommitsNext}
use Rattle.machine_model.specs.Accesses.{after_try, after_settle, TakesFrame, TakesThisFrame}
use Rattle.machine_model.specs.Accesses.{after_install}
use Rattle.machine_model.specs.Filling.{FillsFrame, after_copy_post, CopiesNext}
use Rattle.machine_model.specs.Translating.{TakesMessage, Walks, Evicts}

-- ---- Call

-- a call begins
abbrev pub after_call : ℕ → Request → World → World
after_call c request w = to c (At.Check request) (record w {
  calls = record w.calls {
    requests = w.calls.requests ++ request ∷ [];
    number = put w.calls.number c (suc (length w.calls.requests));
  };
})

-- a core has one call at a time; past the limit of calls none begins
abbrev pub Begins : World → ℕ → Request → Phase → Outcome → World → Type 0
Begins w c request At.Free o v =
    cond (nat_lt (length w.calls.requests) w.made.calls) (Becomes (after_call c request w) o v)
    ((o ≡ Full) × (v ≡ w))
Begins w c request _ o v = Idles w o v

-- ---- Go: a step of the call of core c, which is in this phase

-- a core's call makes its next step, by its phase
abbrev pub Goes : World → ℕ → Phase → Outcome → World → Type 0
Goes w c At.Free o v = Idles w o v
Goes w c (At.Check request) o v = Becomes (after_check c request w) o v
Goes w c (At.Lock goal cursor) o v = LocksNext w c goal cursor o v
Goes w c (At.Guess place) o v = GuessesNext w c place o v
Goes w c (At.Find place target) o v = FindsNext w c place target o v
Goes w c (At.Back place target held) o v = GoesBack w c place target held o v
Goes w c (At.Cut place target range) o v = CutsNext w c place target range o v
Goes w c (At.Decide change) o v = DecidesNext w c change o v
Goes w c (At.Post change shoot) o v = Becomes (after_post c change shoot w) o v
Goes w c (At.Acks goal change) o v = CommitsNext w c change (goal_range goal) o v
Goes w c (At.Unlock held reply) o v = UnlocksNext w c held reply o v
Goes w c (At.Answer reply) o v = (o ≡ Answered reply) × (v ≡ to c At.Free w)
Goes w c (At.Try touch) o v = Becomes (after_try c touch w) o v
Goes w c (At.Settle touch) o v = Becomes (after_settle c touch w) o v
Goes w c (At.Want touch old) o v = TakesFrame w c touch old o v
Goes w c (At.Fill touch frame) o v = FillsFrame w c touch frame o v
Goes w c (At.CopyPost touch frame) o v = Becomes (after_copy_post c touch frame w) o v
Goes w c (At.CopyAcks touch frame) o v = CopiesNext w c touch frame o v
Goes w c (At.Install touch) o v = Becomes (after_install c touch w) o v
Goes w c (At.Release touch) o v = Releases w c touch o v

-- ---- the step

-- what the event does, its core, if it has one, being one of the machine's
abbrev pub Acts : World → Event → Outcome → World → Type 0
Acts w (Call c request) o v = Begins w c request (w.calls.phase c) o v
Acts w (Go c) o v = Goes w c (w.calls.phase c) o v
Acts w (Frame c f) o v = TakesThisFrame w c (w.calls.phase c) f o v
Acts w (Guess c p) o v = GuessesThisRun w c (w.calls.phase c) p o v
Acts w (Whole c) o v = TakesWindow w c (w.calls.phase c) o v
Acts w (Take c) o v = TakesMessage w c (asked (w.hardware.inbox c)) o v
Acts w (Walk c p) o v = Walks w c p o v
Acts w (Evict c p) o v = Evicts w c p o v
Acts w (Flush c) o v = FlushesOnce w c o v
Acts w (Review c) o v = ReviewsOnce w c o v
Acts w (Fold p) o v = FoldsAt w p o v
Acts w (GiveUp c) o v = GivesUp w c (w.calls.phase c) o v

-- a core of this machine, or none at all
abbrev pub is_here : Made → Option ℕ → Bool
is_here made None = true
is_here made (Some c) = nat_lt c made.cores

-- one event more, whose number entries of the log have
abbrev pub with_event : World → World
with_event w = record w { calls = record w.calls { events = suc w.calls.events } }

-- so many events can be counted
abbrev pub event_limit : ℕ
event_limit = 2 ^ 64 - 1

-- From w the event may come to this outcome and leave v.
abbrev pub Step : World → Event → Outcome → World → Type 0
Step w e o v =
    cond (nat_lt w.calls.events event_limit)
    (cond (is_here w.made (core_of e)) (Acts (with_event w) e o v) (Idles (with_event w) o v))
    ((o ≡ Full) × (v ≡ w))

-- The events, in order, may come to these outcomes, one after another.
abbrev pub Run : World → List Event → List Outcome → World → Type 0
Run w [] [] v = v ≡ w
Run w (e ∷ es) (o ∷ os) v = (m : World) × Step w e o m × Run m es os v
Run w [] (o ∷ os) v = ⊥
Run w (e ∷ es) [] v = ⊥

-- n plain steps of the core's call lead from w to v
abbrev pub StepsTo : World → ℕ → ℕ → World → Type 0
StepsTo w core zero v = v ≡ w
StepsTo w core (suc n) v = (m : World) × StepsTo w core n m × Step m (Go core) Stepped v
