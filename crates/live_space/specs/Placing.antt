-- Where a placed mapping goes among the pages that it holds
use Rattle.std.specs.Prelude.{◌≡◌, ℕ, ◌+◌, ◌*◌, ◌≤◌, ◌⊎◌}
use Rattle.vm_base.specs.declared.info.Meta.{Meta}
use Rattle.vm_base.specs.declared.page.PageRange.{PageRange}
use Rattle.vm_base.specs.declared.replies.Errno.{Errno}
use Rattle.vm_base.specs.declared.replies.Reply.{Reply}
use Rattle.vm_base.specs.declared.replies.Reply.TheVariants.{Mapped, Refused}
use Rattle.slot_lock.specs.declared.plan.Change.TheVariants.{Put}
use Rattle.slot_lock.specs.declared.plan.Place.{Place}
use Rattle.slot_lock.specs.declared.plan.Target.{Target}
use Rattle.slot_lock.specs.Plan.{IsTarget, target_range}
use Rattle.vm_calls.specs.declared.decision.Decision.{Decision}
use Rattle.vm_calls.specs.declared.decision.Decision.TheVariants.{Refuse, Act, Again}
use Rattle.vm_calls.specs.Decisions.{DecidesPlace}
use Rattle.live_tree.specs.Held.{HeldView}
use Rattle.live_tree.specs.Shown.{KeepsPages, shown}
use Rattle.seats.specs.Notes.{SeatView}
use Rattle.live_space.specs.Changing.{Made}
use Rattle.live_space.specs.InFlight.{HoldsJust}

-- the mapping's pages from this one on lie in its window
abbrev pub IsInWindow : Place → ℕ → Type 0
IsInWindow place first = (place.window.first ≤ first) × (first + place.count ≤ place.window.end)

-- what is changed, if anything is, lies in the range
abbrev pub IsInside : PageRange → Decision → Type 0
IsInside r (Act range shoot) = (r.first ≤ range.first) × (range.end ≤ r.end)
IsInside r (Refuse e) = Unit {0}
IsInside r Again = Unit {0}

-- the pages of the range were mapped so in the held slots, once these crossed no edge of it and had room, with all that
-- their pages had, and the core looks for the next room behind them
pub record Puts (range : PageRange) (meta : Meta) (h : HeldView) (t : SeatView) (k : HeldView) : Type 0 where
  pub ready : HeldView
  pub first : ready.first ≡ h.first
  pub end : ready.end ≡ h.end
  pub pages : KeepsPages h ready
  pub noted : SeatView
  pub made : Made (Put range meta) ready noted k
  pub next : t ≡ record noted { next_page = range.end }

-- the reply is what the held slots decide of a mapping with this target: it is refused, and they stay, or it was mapped
-- in them
abbrev pub Places : Place → Target → HeldView → SeatView → HeldView → Reply → Type 0
Places place target h t k reply =
    ((errno : Errno) × DecidesPlace (shown h.slots) place target (Refuse errno) × (reply ≡ Refused errno) × (k ≡ h))
    ⊎ ((range : PageRange) × (shoot : ℕ) × DecidesPlace (shown h.slots) place target (Act range shoot)
    × (reply ≡ Mapped (range.first * 4096)) × Puts range place.meta h t k)

-- so with just the pages of the target held
abbrev pub PlacesJust : Place → Target → SeatView → HeldView → Reply → Type 0
PlacesJust place target t k reply =
    (h : HeldView) × HoldsJust (target_range place target) h × Places place target h t k reply

-- so with one of the mapping's targets
abbrev pub PlacesSomewhere : Place → SeatView → HeldView → Reply → Type 0
PlacesSomewhere place t k reply = (target : Target) × IsTarget place target × PlacesJust place target t k reply
