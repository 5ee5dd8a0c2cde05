-- What the turn of a request comes to
use Rattle.std.specs.Prelude.{◌≡◌, ℕ, ◌*◌, if◌then◌else◌, Option, None, Some, IfSome}
use Rattle.vm_base.specs.declared.info.Back.{Back}
use Rattle.vm_base.specs.declared.info.Back.TheVariants.{Shared}
use Rattle.vm_base.specs.declared.rights.Access.{Access}
use Rattle.vm_base.specs.declared.rights.Access.TheVariants.{Load, Store, Fetch}
use Rattle.vm_base.specs.declared.replies.Reply.{Reply}
use Rattle.vm_base.specs.declared.replies.Reply.TheVariants.{Mapped, Done, Byte, Segv, Bus}
use Rattle.vm_base.specs.declared.replies.SegvCode.TheVariants.{MapErr, AccErr}
use Rattle.vm_base.specs.Apply.{Protects, after_mapping, after_unmapping, entry_reply}
use Rattle.vm_base.specs.Copies.{with_copy}
use Rattle.vm_base.specs.Plain.{Plain}
use Rattle.vm_base.specs.Rights.{is_allowed}
use Rattle.slot_lock.specs.declared.plan.Change.{Change}
use Rattle.slot_lock.specs.declared.plan.Change.TheVariants.{Put, Clear, Protect}
use Rattle.slot_lock.specs.declared.plan.Plan.{Plan}
use Rattle.slot_lock.specs.declared.plan.Plan.TheVariants as PlanOf
use Rattle.slot_lock.specs.declared.plan.Touch.{Touch}
use Rattle.vm_calls.specs.Plainly.{touched_by}
use Rattle.litmus_merges.specs.declared.change.MapChange.TheVariants as StepOf
use Rattle.litmus_merges.specs.declared.seen.Seen.{Seen}
use Rattle.litmus_merges.specs.declared.turning.Turn.{Turn}
use Rattle.litmus_merges.specs.Steps.{IsSoundStep, after_any}

-- ---- accesses

-- nothing changes
abbrev pub answer_alone : Reply → Turn
answer_alone reply = record { reply = Some reply; step = None }

-- a store to a page with bytes, which is backed so and has this own byte
abbrev pub store_turn : Back → Option ℕ → Touch → Turn
store_turn back (Some own) touch =
    record { reply = Some Done; step = Some (StepOf.Own touch.page touch.offset touch.byte) }
store_turn (Shared file page) None touch =
    record { reply = Some Done; step = Some (StepOf.File file page touch.offset touch.byte) }
store_turn back None touch = record { reply = None; step = Some (StepOf.Copy touch.page) }

-- an access that is allowed, of a page with bytes
abbrev pub byte_turn : Access → Seen → ℕ → Touch → Turn
byte_turn Load seen byte touch = answer_alone (Byte byte)
byte_turn Fetch seen byte touch = answer_alone (Byte byte)
byte_turn Store seen byte touch = store_turn seen.back seen.own touch

-- of a mapped page with bytes or without
abbrev pub page_turn : Seen → Option ℕ → Touch → Turn
page_turn seen None touch = answer_alone Bus
page_turn seen (Some byte) touch = byte_turn touch.access seen byte touch

-- of a place that shows this
abbrev pub touch_turn : Option Seen → Option ℕ → Touch → Turn
touch_turn None byte touch = answer_alone (Segv MapErr)
touch_turn (Some seen) byte touch =
    if is_allowed seen.prot touch.access then page_turn seen byte touch else answer_alone (Segv AccErr)

-- the map after an access with this reply, or after the copy that it waits for
abbrev pub left_by_touch : Plain → Touch → Option Reply → Plain
left_by_touch t touch None = with_copy t (Some touch.page)
left_by_touch t touch (Some reply) = touched_by t touch reply

-- the turn of an access is the plain map's
pub record IsTouchTurn (t : Plain) (touch : Touch) (turn : Turn) : Type 0 where
  pub reply : turn.reply ≡ entry_reply t.file (t.entry touch.page) touch.access touch.offset
  pub map : after_any t turn.step ≡ left_by_touch t touch turn.reply
  pub sound : IfSome turn.step IsSoundStep

-- ---- changes

-- the change is answered so, and leaves u
abbrev pub Changes : Plain → Change → Reply → Plain → Type 0
Changes t (Put range meta) y u =
    (y ≡ Mapped (range.first * 4096)) × (u ≡ after_mapping t range meta.back meta.prot)
Changes t (Clear range) y u = (y ≡ Done) × (u ≡ after_unmapping t range)
Changes t (Protect range prot) y u = Protects t range prot y u

-- the turn of a change is the plain map's
pub record IsChangeTurn (t : Plain) (change : Change) (turn : Turn) : Type 0 where
  pub reply : Reply
  pub is : turn.reply ≡ Some reply
  pub changes : Changes t change reply (after_any t turn.step)
  pub sound : IfSome turn.step IsSoundStep

-- the turn of a plan is the plain map's; that of a mapping whose place is open isn't spoken of
abbrev pub IsPlanTurn : Plain → Plan → Turn → Type 0
IsPlanTurn t (PlanOf.Touch touch) turn = IsTouchTurn t touch turn
IsPlanTurn t (PlanOf.Change change) turn = IsChangeTurn t change turn
IsPlanTurn t (PlanOf.Place place) turn = ⊥
