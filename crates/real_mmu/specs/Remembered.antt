-- What a core's hardware may still translate by: whatever the core's tables had since the core last dropped the page (Intel
-- SDM volume 3A, caching translation information). How large its TLB is, and what it evicts, isn't said.
use Rattle.std.specs.Prelude.{◌≡◌, ℕ, ◌==◌, ◌&&◌, Bool, true, false, List, [], ◌∷◌, Option, None, Some}
use Rattle.vm_base.specs.declared.page.PageRange.{PageRange}
use Rattle.vm_base.specs.Info.{frame_of, is_recorded}
use Rattle.vm_base.specs.Plain.{Plain}
use Rattle.mmu.specs.declared.entry.Translation.{Translation}
use Rattle.mmu.specs.declared.message.Took.{Took}
use Rattle.mmu.specs.declared.message.Took.TheVariants.{Invalidate}
use Rattle.mmu.specs.Messages.{asked}
use Rattle.slot_lock.specs.Plan.{range_of}
use Rattle.machine_model.specs.declared.event.Event.{Event}
use Rattle.machine_model.specs.declared.event.Event.TheVariants.{Go, Frame, Take}
use Rattle.machine_model.specs.declared.event.Outcome.{Outcome}
use Rattle.machine_model.specs.declared.phase.Phase.{Phase}
use Rattle.machine_model.specs.declared.phase.Phase.TheVariants.{Post, CopyPost}
use Rattle.machine_model.specs.Holding.{page_of_touch, some_has}
use Rattle.machine_model.specs.Log.{LeadsTo}
use Rattle.machine_model.specs.Sound.{IsReached}
use Rattle.machine_model.specs.Step.{Step}
use Rattle.machine_model.specs.Translations.{Agrees}
use Rattle.machine_model.specs.World.{World}

-- ---- drops

-- the pages of which the call's next step has its own core drop tables' entries and TLB
abbrev pub own_range : Phase → Option PageRange
own_range (Post change shoot) = Some (range_of change)
own_range (CopyPost touch frame) = Some (page_of_touch touch)
own_range _ = None

-- the pages of which a take has its core's TLB invalidated: its second take of a message
abbrev pub taken_range : Took → Option PageRange
taken_range (Invalidate range) = Some range
taken_range _ = None

-- at this event core c drops its translations of the page
abbrev pub drops : World → Event → ℕ → ℕ → Bool
drops w (Go d) c p = (c == d) && some_has (own_range (w.calls.phase d)) p
drops w (Frame d f) c p = (c == d) && some_has (own_range (w.calls.phase d)) p
drops w (Take d) c p = (c == d) && some_has (taken_range (asked (w.hardware.inbox d))) p
drops w _ c p = false

-- The events, in order, may come to these outcomes, and at none of them core c drops page p.
abbrev pub RunKeeping : ℕ → ℕ → World → List Event → List Outcome → World → Type 0
RunKeeping c p w [] [] v = v ≡ w
RunKeeping c p w (e ∷ es) (o ∷ os) v = (m : World) × Step w e o m × (drops w e c p ≡ false)
    × RunKeeping c p m es os v
RunKeeping c p w [] (o ∷ os) v = ⊥
RunKeeping c p w (e ∷ es) [] v = ⊥

-- ---- the law

-- Core c may use the translation of page p, where t is the plain page map: it leads to the frame that the page has, which has
-- the page's bytes and isn't free, it permits no access that isn't allowed, and the core is recorded on the page.
pub record IsGood (w : World) (t : Plain) (c p : ℕ) (e : Translation) : Type 0 where
  pub agrees : Agrees w t p e
  pub frame : frame_of (w.slots.info p) ≡ Some e.frame
  pub busy : w.memory.is_free e.frame ≡ false
  pub recorded : is_recorded (w.slots.info p) c ≡ true

-- what the tables of core c have for page p is good until the core drops the page, whatever else happens
abbrev pub AllRememberedAreGood : Type 0
AllRememberedAreGood =
    (w v : World) (events : List Event) (outcomes : List Outcome) (c p : ℕ) (e : Translation) → IsReached w
    → w.hardware.table c p ≡ Some e → RunKeeping c p w events outcomes v
    → (t : Plain) × LeadsTo v t × IsGood v t c p e
