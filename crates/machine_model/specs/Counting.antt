-- How frames are counted by the pages that have them, and come back (Refcache of the RadixVM paper,
-- EuroSys 2013, with this project's exact rules)
use Rattle.std.specs.Prelude.{◌≡◌, ℕ, zero, suc, true, Option, None, Some}
use Rattle.vm_base.specs.declared.info.PageInfo.{PageInfo}
use Rattle.vm_base.specs.Functions.{put}
use Rattle.vm_base.specs.Info.{frame_of}
use Rattle.slot_lock.specs.declared.plan.Change.{Change}
use Rattle.slot_lock.specs.declared.plan.Change.TheVariants.{Put, Clear, Protect}
use Rattle.refcache.specs.declared.reports.Flush.{Flush}
use Rattle.refcache.specs.declared.reports.Flush.TheVariants as flush
use Rattle.refcache.specs.declared.reports.Review.{Review}
use Rattle.refcache.specs.declared.reports.Review.TheVariants as review
use Rattle.refcache.specs.Counts.{Counts}
use Rattle.refcache.specs.Steps.{Takes, Dec, Flushing, Reviewing}
use Rattle.machine_model.specs.declared.event.Outcome.{Outcome}
use Rattle.machine_model.specs.World.{World}
use Rattle.machine_model.specs.Actions.{Idles, Becomes}

-- ---- pages that lose their frames

-- the frame that a page loses by the change, if it has one: protecting a page keeps it
abbrev pub frame_lost : Change → (ℕ → Option PageInfo) → ℕ → Option ℕ
frame_lost (Put range meta) info p = frame_of (info p)
frame_lost (Clear range) info p = frame_of (info p)
frame_lost (Protect range prot) info p = None

-- core c counts a frame down, if there is one
abbrev pub CountsOne : ℕ → Option ℕ → Counts → Counts → Type 0
CountsOne c None v w = w ≡ v
CountsOne c (Some f) v w = Takes v (Dec c f) w

-- core c counts the frames of n pages down, page by page from the first on
unfoldable pub CountsDown : ℕ → (ℕ → Option ℕ) → ℕ → ℕ → Counts → Counts → Type 0
CountsDown c frame first zero v w = w ≡ v
CountsDown c frame first (suc n) v w = (m : Counts) × CountsOne c (frame first) v m
    × CountsDown c frame (suc first) n m w

-- ---- events

abbrev pub with_counts : Counts → World → World
with_counts counts w = record w { memory = record w.memory { counts = counts } }

-- this frame is free again
abbrev pub with_free : ℕ → World → World
with_free f w = record w { memory = record w.memory { is_free = put w.memory.is_free f true } }

-- what a flush came to is the step's outcome
abbrev pub ReportsFlush : World → Flush → Counts → Outcome → World → Type 0
ReportsFlush w flush.Idle counts o v = Idles w o v
ReportsFlush w report counts o v = Becomes (with_counts counts w) o v

-- one flush of core c
abbrev pub FlushesOnce : World → ℕ → Outcome → World → Type 0
FlushesOnce w c o v =
    (report : Flush) × ((counts : Counts) × Takes w.memory.counts (Flushing c report) counts
    × ReportsFlush w report counts o v)

-- what a review came to is the step's outcome; an object that nothing counts is free again
abbrev pub ReportsReview : World → Review → Counts → Outcome → World → Type 0
ReportsReview w review.Idle counts o v = Idles w o v
ReportsReview w (review.Freed f) counts o v = Becomes (with_free f (with_counts counts w)) o v
ReportsReview w report counts o v = Becomes (with_counts counts w) o v

-- one review of core c; a frame that it frees may be taken again
abbrev pub ReviewsOnce : World → ℕ → Outcome → World → Type 0
ReviewsOnce w c o v =
    (report : Review) × ((counts : Counts) × Takes w.memory.counts (Reviewing c report) counts
    × ReportsReview w report counts o v)
