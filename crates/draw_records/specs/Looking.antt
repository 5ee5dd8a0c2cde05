-- What a recorder sees of a step
use Rattle.std.specs.Prelude.{ℕ, zero, suc, ◌&&◌, Bool, true, nat_lt, cond, List, Option, None, Some}
use Rattle.std.specs.Prelude.{slice_index_or, if◌then◌else◌}
use Rattle.vm_base.specs.Cores.{with_member}
use Rattle.vm_base.specs.declared.replies.Reply.{Reply}
use Rattle.mmu.specs.Inboxes.{awaited}
use Rattle.machine_model.specs.World.{World}
use Rattle.machine_model.specs.Events.{core_of}
use Rattle.machine_model.specs.declared.event.Event.{Event}
use Rattle.machine_model.specs.declared.event.Event.TheVariants.{Call, Go, Take}
use Rattle.machine_model.specs.declared.event.Event.TheVariants.{Walk, Evict, Flush, Review}
use Rattle.machine_model.specs.declared.event.Outcome.{Outcome}
use Rattle.machine_model.specs.declared.event.Outcome.TheVariants as To
use Rattle.machine_model.specs.declared.phase.Phase.{Phase}
use Rattle.machine_model.specs.declared.phase.Phase.TheVariants as At
use Rattle.draw_steps.specs.declared.moments.Deed.TheVariants as Of
use Rattle.draw_steps.specs.declared.moments.Moment.TheVariants.{Took}
use Rattle.draw_steps.specs.declared.moments.Pass.{Pass}
use Rattle.draw_steps.specs.declared.moments.Pass.TheVariants as In
use Rattle.draw_records.specs.Recording.{Recording, advanced, answered, begun, change_made, deed_done, noted, told_others}
use Rattle.draw_records.specs.declared.looking.Before.{Before}

-- ---- messages

-- the cores below a number that are in a set, as a set of cores
unfoldable pub cores_where : (ℕ → Bool) → ℕ → ℕ
cores_where s zero = 0
cores_where s (suc n) = cond (s n) (with_member (cores_where s n) n) (cores_where s n)

-- the cores that have not acknowledged the core's message yet
abbrev pub awaited_by : World → ℕ → ℕ
awaited_by w core = cores_where (awaited w.hardware.inbox core) 64

-- whether a core told others before another did, if there is another
abbrev pub told_before : List ℕ → ℕ → Option ℕ → Bool
told_before told core None = true
told_before told core (Some other) = nat_lt (slice_index_or told core 0) (slice_index_or told other 0)

-- of the cores below a number that await this one, the one that told first
unfoldable pub first_teller : World → List ℕ → ℕ → ℕ → Option ℕ
first_teller w told core zero = None
first_teller w told core (suc n) =
    let earlier = first_teller w told core n in
    if awaited w.hardware.inbox n core && told_before told n earlier then Some n else earlier

-- ---- before a step

-- where the core's call stands; a core that isn't there has none
abbrev pub phase_in : World → ℕ → Phase
phase_in w core = cond (nat_lt core w.made.cores) (w.calls.phase core) At.Free

-- of a call that goes on, where it stands; of a take, the core whose message is the oldest
abbrev pub looked : List ℕ → World → Event → Before
looked told w (Go core) = record { phase = phase_in w core; sender = None }
looked told w (Take core) = record { phase = At.Free; sender = first_teller w told core 64 }
looked told w _ = record { phase = At.Free; sender = None }

-- ---- what happened

-- a call that stood so went on to this state: its change is made once no core is awaited, and those that are awaited
-- behind the step that tells others were told
abbrev pub gone : Recording → ℕ → Phase → World → Recording
gone r core (At.Acks goal change) v = change_made r change
gone r core (At.Post change shoot) v = told_others r core (awaited_by v core)
gone r core (At.CopyPost touch frame) v = told_others r core (awaited_by v core)
gone r core _ v = r

-- the first take of a message, or the second, which acknowledges it
abbrev pub pass_of : World → ℕ → ℕ → Pass
pass_of v sender core = if awaited v.hardware.inbox sender core then In.First else In.Second

abbrev pub taken : Recording → ℕ → Option ℕ → World → Recording
taken r core None v = r
taken r core (Some sender) v = noted r (Took core sender (pass_of v sender core))

-- a plain step
abbrev pub stepped : Recording → Before → Event → World → Recording
stepped r before (Call core request) v = begun r core request
stepped r before (Go core) v = gone r core before.phase v
stepped r before (Take core) v = taken r core before.sender v
stepped r before (Walk core page) v = deed_done r core Of.Walk
stepped r before (Evict core page) v = deed_done r core Of.Evict
stepped r before (Flush core) v = deed_done r core Of.Flush
stepped r before (Review core) v = deed_done r core Of.Review
stepped r before _ v = r

-- a core that looked for a message had none
abbrev pub idled : Recording → Event → Recording
idled r (Take core) = deed_done r core Of.Idle
idled r _ = r

abbrev pub waited : Recording → Option ℕ → Recording
waited r None = r
waited r (Some core) = deed_done r core Of.Wait

abbrev pub replied : Recording → Option ℕ → Reply → Recording
replied r None reply = r
replied r (Some core) reply = answered r core reply

-- an event, of which this was seen before it, came to this outcome and this state
abbrev pub came : Recording → Before → Event → Outcome → World → Recording
came r before e To.Stepped v = stepped r before e v
came r before e (To.Wait blocker) v = waited r (core_of e)
came r before e To.Idle v = idled r e
came r before e (To.Answered reply) v = replied r (core_of e) reply
came r before e To.Full v = r

-- what a recorder is after a step from the one state by the event to the outcome and the other state
abbrev pub recorded : Recording → World → Event → Outcome → World → Recording
recorded r w e o v = came (advanced r v.made.cores) (looked r.told w e) e o v
