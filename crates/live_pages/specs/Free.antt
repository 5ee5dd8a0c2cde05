-- Which frames are free, and which of them a step finds
use Rattle.std.specs.Prelude.{◌≡◌, ℕ, ◌⊎◌, ◌+◌, ◌*◌, ◌/◌, ◌<◌, ◌≤◌, Bool, true, false, ◌&&◌, not, nat_lt, cond, List, [], length}
use Rattle.std.specs.Prelude.{Option, None, Some}
use Rattle.std.specs.Sync.Mutex.{mutex_guard_value}
use Rattle.std.specs.declared.sync.MutexGuard.{MutexGuard}
use Rattle.vm_base.specs.Functions.{put}
use Rattle.frames.specs.Bits.{bit_in, count_below}
use Rattle.machine_model.specs.Accesses.{NoneFree}
use Rattle.refcache.specs.declared.reports.Review.{Review}
use Rattle.refcache.specs.declared.reports.Review.TheVariants.{Idle, Freed, Dropped, Requeued}
use Rattle.live_pages.specs.declared.frame.FrameSearch.{FrameSearch}
use Rattle.live_pages.specs.declared.frame.FrameSearch.TheVariants.{Taken, NoFrame, Lost}

-- the frames that are free, by a bit for each, how many frames there are, and how many of them are free
pub record FreeView : Type 0 where
  pub words : List ℕ
  pub frames : ℕ
  pub count : ℕ

-- the free frames
abbrev pub free_frames : FreeView → ℕ → Bool
free_frames v = bit_in v.words

-- the bits that are set are below the number of frames, and are counted
pub record IsCounted (words : List ℕ) (frames count : ℕ) : Type 0 where
  pub room : frames ≤ length words * 64
  pub few : frames ≤ 65536
  pub short : length words ≤ 1024
  pub below : (k : ℕ) → bit_in words k ≡ true → k < frames
  pub counted : count ≡ count_below (bit_in words) frames

-- k is the least member of the set that isn't below `from`
pub record IsFirstFrom (s : ℕ → Bool) (from k : ℕ) : Type 0 where
  pub above : from ≤ k
  pub member : s k ≡ true
  pub least : (j : ℕ) → from ≤ j → j < k → s j ≡ false

-- the bit stands in this word
abbrev pub IsInWord : ℕ → ℕ → Type 0
IsInWord word k = k / 64 ≡ word

-- The frame is free, and none is that one comes to before it from this one on: upward, and behind the last from the
-- first on
abbrev pub IsNextFree : (ℕ → Bool) → ℕ → ℕ → Type 0
IsNextFree is_free from f = IsFirstFrom is_free from f
    ⊎ (((g : ℕ) → from ≤ g → is_free g ≡ false) × IsFirstFrom is_free 0 f)

-- the frame is taken, and one fewer is free
pub record TakesOne (f : ℕ) (old new : FreeView) : Type 0 where
  pub taken : free_frames new ≡ put (free_frames old) f false
  pub fewer : new.count + 1 ≡ old.count
  pub frames : new.frames ≡ old.frames

-- the frame is free, and one more is
pub record GivesOne (f : ℕ) (old new : FreeView) : Type 0 where
  pub given : free_frames new ≡ put (free_frames old) f true
  pub more : new.count ≡ old.count + 1
  pub frames : new.frames ≡ old.frames

-- the same of a frame that is there and is taken; else nothing changes
abbrev pub Gives : ℕ → FreeView → FreeView → Type 0
Gives f old new = cond (nat_lt f old.frames && not (free_frames old f)) (GivesOne f old new) (new ≡ old)

-- the same of the frame that a call took, if it took one
abbrev pub GivesFree : Option ℕ → FreeView → FreeView → Type 0
GivesFree None old new = new ≡ old
GivesFree (Some f) old new = Gives f old new

-- the frame that a review freed, if it freed one
abbrev pub freed_by : Review → Option ℕ
freed_by Idle = None
freed_by (Freed f) = Some f
freed_by (Dropped f) = None
freed_by (Requeued f) = None

-- the free frames that are locked; without a lock there are none
abbrev pub free_in : Option (MutexGuard FreeView) → FreeView
free_in None = record { words = []; frames = 0; count = 0 }
free_in (Some guard) = mutex_guard_value guard

-- the next free frame was taken; or no frame is free
abbrev pub TakesNext : ℕ → FreeView → FreeView → FrameSearch → Type 0
TakesNext from old new (Taken f) = IsNextFree (free_frames old) from f × TakesOne f old new
TakesNext from old new NoFrame = NoneFree (free_frames old) × (new ≡ old)
TakesNext from old new Lost = new ≡ old
