-- What one step adds to the numbers of a run
use Rattle.std.specs.Prelude.{ℕ, ◌+◌, ◌-◌, ◌^◌, ◌==◌, nat_lt, Bool, true, false, cond, min, max, Option}
use Rattle.std.specs.Prelude.{None, Some}
use Rattle.frames.specs.Bits.{count_below}
use Rattle.machine_model.specs.World.{World}
use Rattle.machine_model.specs.Events.{core_of}
use Rattle.machine_model.specs.declared.event.Event.{Event}
use Rattle.machine_model.specs.declared.event.Outcome.{Outcome}
use Rattle.machine_model.specs.declared.event.Outcome.TheVariants.{Answered}
use Rattle.machine_model.specs.declared.phase.Phase.{Phase}
use Rattle.machine_model.specs.declared.phase.Phase.TheVariants as At
use Rattle.mmu.specs.Inboxes.{awaited}
use Rattle.slot_lock.specs.declared.plan.Goal.TheVariants.{Access}
use Rattle.vm_base.specs.declared.replies.Reply.{Reply}
use Rattle.vm_base.specs.declared.replies.Reply.TheVariants as By
use Rattle.watched.specs.declared.look.Sight.{Sight}
use Rattle.watched.specs.declared.look.Stand.{Stand}
use Rattle.watched.specs.declared.look.Stand.TheVariants.{Trying, Locking, Filling, Installing, Elsewhere}
use Rattle.watched.specs.declared.summary.Replies.{Replies}
use Rattle.watched.specs.declared.summary.Summary.{Summary}

-- ---- what is seen

-- how far a call has come with an access
abbrev pub stand_of : Phase → Stand
stand_of (At.Try touch) = Trying
stand_of (At.Lock (Access touch) cursor) = Locking
stand_of (At.Fill touch frame) = Filling
stand_of (At.CopyAcks touch frame) = Filling
stand_of (At.Install touch) = Installing
stand_of _ = Elsewhere

-- likewise that of a core, if it is there
abbrev pub stand_in : World → ℕ → Stand
stand_in w core = cond (nat_lt core w.made.cores) (stand_of (w.calls.phase core)) Elsewhere

-- how many cores have not acknowledged the core's message yet
abbrev pub awaited_by : World → ℕ → ℕ
awaited_by w core = count_below (awaited w.hardware.inbox core) 64

-- how many frames are in use
abbrev pub in_use : World → ℕ
in_use w = w.made.frames - count_below w.memory.is_free w.made.frames

-- what is counted of a state
abbrev pub looked_at : World → Stand → ℕ → Sight
looked_at w stand awaited = record {
  stand = stand;
  awaited = awaited;
  others = w.made.cores - 1;
  in_use = in_use w;
  epoch = w.memory.counts.epoch;
}

-- what there is to see of the state, and of the core of a step, if it has one
abbrev pub looked : World → Option ℕ → Sight
looked w None = looked_at w Elsewhere 0
looked w (Some core) = looked_at w (stand_in w core) (awaited_by w core)

-- ---- what is counted

-- so many more, up to 2^64 - 1
abbrev pub more : ℕ → ℕ → ℕ
more count by = min (count + by) (2 ^ 64 - 1)

-- an access that its core's TLB and tables don't allow is to lock its page: it faults
abbrev pub is_fault : Stand → Stand → Bool
is_fault Trying Locking = true
is_fault _ _ = false

-- a page gets a frame: one of zeros, the one that caches its file page, or a copy
abbrev pub is_fill : Stand → Stand → Bool
is_fill Filling Installing = true
is_fill _ _ = false

-- the core awaited nobody, and now these: so many were told by one message
abbrev pub told : Sight → Sight → ℕ
told before after = cond (before.awaited == 0) after.awaited 0

-- one reply more
abbrev pub counted : Replies → Reply → Replies
counted r (By.Mapped address) = record r { mapped = more r.mapped 1 }
counted r By.Done = record r { done = more r.done 1 }
counted r (By.Byte byte) = record r { byte = more r.byte 1 }
counted r (By.Refused errno) = record r { refused = more r.refused 1 }
counted r (By.Segv code) = record r { segv = more r.segv 1 }
counted r By.Bus = record r { bus = more r.bus 1 }
counted r By.NoFrame = record r { no_frame = more r.no_frame 1 }
counted r By.NoMemory = record r { no_memory = more r.no_memory 1 }

-- an answered call counts for its reply
abbrev pub replies_after : Replies → Outcome → Replies
replies_after r (Answered reply) = counted r reply
replies_after r _ = r

-- ---- the numbers

abbrev pub nothing_counted : Summary
nothing_counted = record {
  replies = record { mapped = 0; done = 0; byte = 0; refused = 0; segv = 0; bus = 0; no_frame = 0; no_memory = 0 };
  faults = 0;
  fills = 0;
  shootdowns = 0;
  told = 0;
  others = 0;
  most_in_use = 0;
  epoch = 0;
}

-- what is added, by what was seen before the step, what it came to, and what is seen after it
abbrev pub added : Summary → Sight → Outcome → Sight → Summary
added s before o after = record {
  replies = replies_after s.replies o;
  faults = cond (is_fault before.stand after.stand) (more s.faults 1) s.faults;
  fills = cond (is_fill before.stand after.stand) (more s.fills 1) s.fills;
  shootdowns = cond (nat_lt 0 (told before after)) (more s.shootdowns 1) s.shootdowns;
  told = more s.told (told before after);
  others = more s.others (cond (nat_lt 0 (told before after)) after.others 0);
  most_in_use = max s.most_in_use after.in_use;
  epoch = after.epoch;
}

-- the numbers after a step from the one state by the event to the outcome and the other state
abbrev pub summed : Summary → World → Event → Outcome → World → Summary
summed s w e o v = added s (looked w (core_of e)) o (looked v (core_of e))
