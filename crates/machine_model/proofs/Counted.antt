-- The machine's memory stays its own: free frames, and what Refcache counts
use Rattle.machine_model.proofs.Words.{◌≡◌, ℕ, zero, suc, ◌<◌, Bool, true, sym, subst, ◌∙◌, Some, None, Option, put, Bytes, put_all, Counts, Dec, Reviewing}
use Rattle.machine_model.proofs.Words.{Takes, CountStep, steps_reach, reached_is_orderly, CountsOne, Made, Memory}
use Rattle.refcache.specs.declared.reports.Review.TheVariants as review
use Rattle.refcache.specs.Laws.{IsSameSize}
use Rattle.refcache.proofs.Reached.{same_size}
use Rattle.machine_model.specs.Counting.{CountsDown}
use Rattle.machine_model.specs.Orderly.{IsMemory}

-- other frames are free
pub frees : (made : Made) (m : Memory) (is_free : ℕ → Bool) → IsMemory made m → ((f : ℕ) → is_free f ≡ true → f < made.frames)
    → IsMemory made (record m { is_free = is_free })
frees made m is_free h free = record { free = free; cached = h.cached; reached = h.reached; cores = h.cores; objects = h.objects }

-- other file pages are cached
pub cached_more : (made : Made) (m : Memory) (cached : ℕ → ℕ → Option ℕ) → IsMemory made m
    → ((n k f : ℕ) → cached n k ≡ Some f → f < made.frames) → IsMemory made (record m { cached = cached })
cached_more made m cached h more = record { free = h.free; cached = more; reached = h.reached; cores = h.cores; objects = h.objects }

-- other bytes are written
pub written : (made : Made) (m : Memory) (bytes : ℕ → Bytes) → IsMemory made m → IsMemory made (record m { bytes = bytes })
written made m bytes h = record { free = h.free; cached = h.cached; reached = h.reached; cores = h.cores; objects = h.objects }

-- one step of Refcache
pub counted : (made : Made) (m : Memory) (step : CountStep) (counts : Counts) → IsMemory made m → Takes m.counts step counts
    → IsMemory made (record m { counts = counts })
counted made m step counts h t =
    let size : IsSameSize m.counts counts = same_size m.counts step counts t in
    record {
      free = h.free;
      cached = h.cached;
      reached = steps_reach m.counts step counts h.reached t;
      cores = size.0 ∙ h.cores;
      objects = size.1 ∙ h.objects;
    }

-- frames are counted down
pub counts_down : (made : Made) (m : Memory) (c : ℕ) (frame : ℕ → Option ℕ) (first n : ℕ) (counts : Counts) → IsMemory made m
    → CountsDown c frame first n m.counts counts → IsMemory made (record m { counts = counts })
unfolding CountsDown
counts_down made m c frame first zero counts h d = subst (λ x. IsMemory made (record m { counts = x })) (sym d) h
counts_down made m c frame first (suc n) counts h d =
    counts_down made (record m { counts = d.0 }) c frame (suc first) n counts (one (frame first) d.1) d.2
  where
    one : (o : Option ℕ) → CountsOne c o m.counts d.0 → IsMemory made (record m { counts = d.0 })
    one None e = subst (λ x. IsMemory made (record m { counts = x })) (sym e) h
    one (Some f) t = counted made m (Dec c f) d.0 h t

-- a review frees a frame
pub freed : (made : Made) (m : Memory) (c f : ℕ) (counts : Counts) → IsMemory made m → Takes m.counts (Reviewing c (review.Freed f)) counts
    → IsMemory made (record m { counts = counts; is_free = put m.is_free f true })
freed made m c f counts h t =
    let due = t.1.1 in
    let below = ((reached_is_orderly m.counts h.reached).fronts c f due.since t.1.0 due.front).0 in
    frees made (record m { counts = counts }) (put m.is_free f true) (counted made m (Reviewing c (review.Freed f)) counts h t)
    (put_all (λ g b. b ≡ true → g < made.frames) m.is_free f true (λ _. subst (λ n. f < n) h.objects below) (λ g ne. h.free g))
