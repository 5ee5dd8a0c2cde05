-- What becomes of an access whose page is held
use Rattle.std.specs.Prelude.{◌≡◌, ℕ, map, Option, None, Some}
use Rattle.vm_base.specs.declared.replies.Reply.{Reply}
use Rattle.vm_base.specs.declared.replies.Reply.TheVariants.{Segv, Bus as BusError, NoFrame}
use Rattle.vm_base.specs.declared.replies.SegvCode.TheVariants as Code
use Rattle.vm_base.specs.Plain.{File}
use Rattle.slot_lock.specs.declared.plan.Touch.{Touch}
use Rattle.vm_calls.specs.declared.fault.Settled.{Settled}
use Rattle.vm_calls.specs.declared.fault.Settled.TheVariants.{MapErr, AccErr, Bus, Has, Copies, Cached, Wants}
use Rattle.vm_calls.specs.Settling.{settled}
use Rattle.machine_model.specs.Accesses.{is_past_end}
use Rattle.live_levels.specs.declared.act.Act.{Act}
use Rattle.live_levels.specs.declared.act.Act.TheVariants.{Frame, Copy, Record}
use Rattle.live_levels.specs.Replay.{dated}
use Rattle.live_levels.specs.Slots.{changed}
use Rattle.live_tree.specs.Held.{HeldView}
use Rattle.live_tree.specs.Shown.{shown}
use Rattle.live_space.specs.declared.ending.Ending.{Ending}
use Rattle.live_space.specs.Planned.{EndsIn, IsGivenUp}

-- the access fails as is found at its page; or a frame is wanted, and none is free
abbrev pub FailsAs : Settled → Reply → Type 0
FailsAs MapErr reply = reply ≡ Segv Code.MapErr
FailsAs AccErr reply = reply ≡ Segv Code.AccErr
FailsAs Bus reply = reply ≡ BusError
FailsAs (Copies frame) reply = reply ≡ NoFrame
FailsAs Wants reply = reply ≡ NoFrame
FailsAs (Has frame) reply = ⊥
FailsAs (Cached frame) reply = ⊥

-- under some ticket each held slot got the change
abbrev pub Gets : Act → HeldView → HeldView → Type 0
Gets act h k = (ticket : ℕ) × (k ≡ record h { slots = map (λ s. changed s (dated ticket act)) h.slots })

-- the one, and then the other
abbrev pub GetsBoth : Act → Act → HeldView → HeldView → Type 0
GetsBoth one other h k = (m : HeldView) × Gets one h m × Gets other m k

-- some frame, or a copy in some frame, and then the core is recorded
abbrev pub GetsFrame : ℕ → HeldView → HeldView → Type 0
GetsFrame core h k = (frame : ℕ) × GetsBoth (Frame frame) (Record core) h k

abbrev pub GetsCopy : ℕ → HeldView → HeldView → Type 0
GetsCopy core h k = (frame : ℕ) × GetsBoth (Copy frame) (Record core) h k

-- the held page gets what the access wants: its copy, where it shows a frame that others have; its frame, where it has
-- none; and the core is recorded on it
abbrev pub Prepares : Settled → ℕ → HeldView → HeldView → Type 0
Prepares (Has frame) core h k = Gets (Record core) h k
Prepares (Copies frame) core h k = GetsCopy core h k
Prepares (Cached frame) core h k = GetsFrame core h k
Prepares Wants core h k = GetsFrame core h k
Prepares MapErr core h k = ⊥
Prepares AccErr core h k = ⊥
Prepares Bus core h k = ⊥

-- the call is given up, or the held slots are these now
abbrev pub GivesUpOr : (HeldView → Type 0) → Option Ending → HeldView → Type 0
GivesUpOr P None k = P k
GivesUpOr P (Some ending) k = IsGivenUp ending

-- the page gets a copy, where it shows a frame, and else a frame
abbrev pub GetsNew : Option ℕ → ℕ → HeldView → HeldView → Type 0
GetsNew None core h k = GetsFrame core h k
GetsNew (Some shown) core h k = GetsCopy core h k

-- it gets that, or no frame is free
abbrev pub GetsTaken : Option ℕ → ℕ → HeldView → Option Ending → HeldView → Type 0
GetsTaken shown core h None k = GetsNew shown core h k
GetsTaken shown core h (Some ending) k = EndsIn (λ reply. (reply ≡ NoFrame) × (k ≡ h)) ending

-- the access fails so, and the page stays, or it gets what it wants
abbrev pub ActsOn : Settled → ℕ → HeldView → Option Ending → HeldView → Type 0
ActsOn at core h None k = Prepares at core h k
ActsOn at core h (Some ending) k = EndsIn (λ reply. FailsAs at reply × (k ≡ h)) ending

-- what the access finds at its page, where this frame caches its file page
abbrev pub found : (ℕ → Option File) → Touch → HeldView → Option ℕ → Settled
found files touch h cached =
    settled ((shown h.slots).info touch.page) touch.access (is_past_end files ((shown h.slots).info touch.page)) cached

abbrev pub Settles : (ℕ → Option File) → Touch → ℕ → HeldView → Option Ending → HeldView → Type 0
Settles files touch core h ending k = (cached : Option ℕ) × ActsOn (found files touch h cached) core h ending k
