-- A step that a seat takes by itself, outside of a call
use Rattle.std.specs.Prelude.{◌≡◌, ℕ, ◌+◌, ◌^◌, ◌≤◌, Bool, true, false, None, length}
use Rattle.vm_base.specs.Functions.{put}
use Rattle.machine_model.specs.declared.event.Event.{Event}
use Rattle.refcache.specs.declared.object_count.ObjectCount.{ObjectCount}
use Rattle.refcache.specs.declared.reports.Flush.{Flush}
use Rattle.refcache.specs.declared.reports.Flush.TheVariants as FlushOf
use Rattle.refcache.specs.declared.reports.Review.{Review}
use Rattle.refcache.specs.declared.reports.Review.TheVariants as ReviewOf
use Rattle.refcache.specs.Pieces.{Core, EvictsInto}
use Rattle.refcache.specs.Places.{entries}
use Rattle.seats.specs.Growing.{NotesIf}
use Rattle.seats.specs.Notes.{SeatView}

-- in room that was made for it, below the limit of notes, the step was noted, where so, and else
-- nothing was
pub record NotesOneIf (event : Event) (s : SeatView) (is_noted : Bool) (t : SeatView) : Type 0 where
  pub limit : length s.notes + 1 ≤ 2 ^ 32
  pub room : ℕ
  pub noted : NotesIf (record s { room = room }) event is_noted t

-- the core's entry of the object is gone, into the object's count
pub record EvictsEntry (object epoch : ℕ) (old new : Core) (count left : ObjectCount) : Type 0 where
  pub gone : entries new.places ≡ put (entries old.places) object None
  pub into : EvictsInto old count object epoch left new.queue
  pub room : new.room ≡ old.room

abbrev pub has_flushed : Flush → Bool
has_flushed FlushOf.Idle = false
has_flushed _ = true

abbrev pub has_reviewed : Review → Bool
has_reviewed ReviewOf.Idle = false
has_reviewed _ = true
