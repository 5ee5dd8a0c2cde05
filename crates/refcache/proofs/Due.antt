-- A review of a front that is due
use Rattle.std.proofs.Common.{◌≡◌, ℕ, List, [], ◌∷◌, refl}
use Rattle.refcache.specs.declared.object_count.ObjectCount.{ObjectCount}
use Rattle.refcache.specs.declared.reports.Queued.{Queued}
use Rattle.refcache.specs.declared.reports.Review.{Review}
use Rattle.refcache.specs.declared.reports.Review.TheVariants as review
use Rattle.refcache.specs.Pieces.{Decides, IsFrontDue, ReviewsPiece}

pub due_reviewed : (old : List Queued) (o epoch : ℕ) (count : ObjectCount) (r : Review) (new : ObjectCount) (queue : List Queued) → IsFrontDue epoch old o
    → ((x : Queued) (rest : List Queued) → old ≡ x ∷ rest → Decides x rest epoch count r new queue) → ReviewsPiece old epoch count r new queue
due_reviewed [] o epoch count r new queue due decides = absurd due
due_reviewed (x ∷ rest) o epoch count (review.Freed p) new queue due decides = (due.1, decides x rest refl)
due_reviewed (x ∷ rest) o epoch count (review.Requeued p) new queue due decides = (due.1, decides x rest refl)
due_reviewed (x ∷ rest) o epoch count (review.Dropped p) new queue due decides = (due.1, decides x rest refl)
due_reviewed (x ∷ rest) o epoch count review.Idle new queue due decides = absurd (decides x rest refl)
