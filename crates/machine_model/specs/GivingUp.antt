-- A call that is given up for want of memory
use Rattle.std.specs.Prelude.{ℕ, ◌⊎◌, Bool, true, Option, None, Some, cond}
use Rattle.vm_base.specs.declared.replies.Reply.TheVariants.{NoMemory}
use Rattle.vm_base.specs.Functions.{put}
use Rattle.machine_model.specs.declared.phase.Phase.{Phase}
use Rattle.machine_model.specs.declared.phase.Phase.TheVariants.{CopyAcks}
use Rattle.machine_model.specs.declared.event.Outcome.{Outcome}
use Rattle.machine_model.specs.World.{World}
use Rattle.machine_model.specs.Actions.{Idles, Becomes, after_reply}
use Rattle.machine_model.specs.Changes.{AwaitsNobody, Awaits}
use Rattle.machine_model.specs.Holding.{still_held, taken_in, can_give_up}

-- a frame that a call took and no page has goes back
abbrev pub given_back : Option ℕ → (ℕ → Bool) → ℕ → Bool
given_back None is_free = is_free
given_back (Some f) is_free = put is_free f true

-- The call of core c is answered NoMemory once it has let go what it holds.
abbrev pub after_give_up : ℕ → Phase → World → World
after_give_up c phase w =
    after_reply c (still_held phase) NoMemory
    (record w { memory = record w.memory { is_free = given_back (taken_in phase) w.memory.is_free } })

-- a call whose copy is due can be given up where it awaits no other core
abbrev pub GivesUpCopy : World → ℕ → Phase → Outcome → World → Type 0
GivesUpCopy w c phase o v =
    (AwaitsNobody w.hardware c × Becomes (after_give_up c phase w) o v)
    ⊎ (((set : ℕ) × Awaits w.hardware c set) × Idles w o v)

-- a call that may be given up in this phase is; any other goes on
abbrev pub GivesUp : World → ℕ → Phase → Outcome → World → Type 0
GivesUp w c (CopyAcks touch frame) o v = GivesUpCopy w c (CopyAcks touch frame) o v
GivesUp w c phase o v = cond (can_give_up phase) (Becomes (after_give_up c phase w) o v) (Idles w o v)
