-- What is common to the steps of a call
use Rattle.std.specs.Prelude.{◌≡◌, ℕ, [], ◌∷◌, ◌++◌, Option, None, Some}
use Rattle.vm_base.specs.declared.page.PageRange.{PageRange}
use Rattle.vm_base.specs.declared.replies.Reply.{Reply}
use Rattle.vm_base.specs.Functions.{put}
use Rattle.vm_base.specs.declared.log.Entry.{Entry}
use Rattle.vm_base.specs.declared.log.Entry.TheVariants as EntryOf
use Rattle.machine_model.specs.declared.phase.Phase.{Phase}
use Rattle.machine_model.specs.declared.phase.Phase.TheVariants.{Unlock, Answer}
use Rattle.machine_model.specs.declared.event.Outcome.{Outcome}
use Rattle.machine_model.specs.declared.event.Outcome.TheVariants.{Stepped, Idle}
use Rattle.machine_model.specs.World.{World}

-- the event is not possible, and nothing changes
abbrev pub Idles : World → Outcome → World → Type 0
Idles w o v = (o ≡ Idle) × (v ≡ w)

-- a step to this state
abbrev pub Becomes : World → Outcome → World → Type 0
Becomes new o v = (o ≡ Stepped) × (v ≡ new)

-- the call of core c goes on in a phase
abbrev pub to : ℕ → Phase → World → World
to c phase w = record w { calls = record w.calls { phase = put w.calls.phase c phase } }

-- an entry of the log
abbrev pub with_entry : Entry → World → World
with_entry entry w = record w { calls = record w.calls { log = w.calls.log ++ entry ∷ [] } }

-- the entry that core c's call has this reply from the present event on
abbrev pub answer_entry : World → ℕ → Reply → Entry
answer_entry w c reply = EntryOf.Answer w.calls.events (w.calls.number c) c reply

-- the entry that core c's call has made a copy of its own for this page
abbrev pub detach_entry : World → ℕ → ℕ → Entry
detach_entry w c page = EntryOf.Detach w.calls.events (w.calls.number c) page

-- what is held is unlocked, and then the reply is handed out
abbrev pub let_go : Option PageRange → Reply → Phase
let_go None reply = Answer reply
let_go (Some held) reply = Unlock held reply

-- the call of core c, which holds this, has its reply from here on
abbrev pub after_reply : ℕ → Option PageRange → Reply → World → World
after_reply c held reply w = to c (let_go held reply) (with_entry (answer_entry w c reply) w)
