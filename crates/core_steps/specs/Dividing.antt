-- How a step of a call divides slots, by what the slot map says of the parts
use Rattle.std.specs.Prelude.{◌≡◌, ℕ, zero, suc, ◌⊎◌, Bool}
use Rattle.vm_base.specs.declared.page.PageRange.{PageRange}
use Rattle.slot_lock.specs.Plan.{goal_range}
use Rattle.slot_lock.specs.Slots.{Slots, Crosses, DividesAs, IsCrossed, IsCut, Locks, between}
use Rattle.slot_lock.specs.Slots.{crossed_edge}
use Rattle.machine_model.specs.declared.event.Event.{Event}
use Rattle.machine_model.specs.declared.event.Event.TheVariants.{Go}
use Rattle.machine_model.specs.declared.event.Outcome.{Outcome}
use Rattle.machine_model.specs.declared.event.Outcome.TheVariants.{Stepped}
use Rattle.machine_model.specs.declared.phase.Phase.{Phase}
use Rattle.machine_model.specs.declared.phase.Phase.TheVariants.{Lock, Cut}
use Rattle.machine_model.specs.Step.{Step}
use Rattle.machine_model.specs.World.{World}

-- the cursor's slot was divided where it crosses an edge of the pages from there on, or else it was
-- locked whole
abbrev pub LocksExactly : (PageRange → ℕ → ℕ → Bool) → Slots → ℕ → ℕ → ℕ → Slots → Type 0
LocksExactly parts s core cursor end t =
    (Crosses s cursor end × DividesAs parts s t (crossed_edge s (between cursor end)))
    ⊎ ((b : ℕ) × Locks s t core cursor end b)

-- the slot that crosses an edge of the range was divided there, or none crosses one
abbrev pub CutsExactly : (PageRange → ℕ → ℕ → Bool) → Slots → PageRange → Slots → Type 0
CutsExactly parts s range t =
    (IsCrossed s range × DividesAs parts s t (crossed_edge s range)) ⊎ (IsCut s range × (t ≡ s))

-- a step of the core's call, in this phase, that was made
abbrev pub GoesAsMap : (PageRange → ℕ → ℕ → Bool) → Slots → ℕ → Phase → Outcome → Slots → Type 0
GoesAsMap parts s core (Lock goal cursor) o t =
    o ≡ Stepped → LocksExactly parts s core cursor (goal_range goal).end t
GoesAsMap parts s core (Cut place target range) o t = o ≡ Stepped → CutsExactly parts s range t
GoesAsMap parts s core _ o t = Unit {0}

-- a step that locks or cuts divides a slot just where it crosses an edge, and as the map does
abbrev pub DividesAsMap : (PageRange → ℕ → ℕ → Bool) → World → Event → Outcome → World → Type 0
DividesAsMap parts w (Go core) o v =
    GoesAsMap parts w.slots core (w.calls.phase core) o v.slots
DividesAsMap parts w _ o v = Unit {0}

-- n plain steps of the core's call lead from w to v, each of which divides slots as the map does
abbrev pub StepsAsMap : (PageRange → ℕ → ℕ → Bool) → World → ℕ → ℕ → World → Type 0
StepsAsMap parts w core zero v = v ≡ w
StepsAsMap parts w core (suc n) v = (m : World) × StepsAsMap parts w core n m
    × Step m (Go core) Stepped v × DividesAsMap parts m (Go core) Stepped v
