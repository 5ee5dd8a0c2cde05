-- The counts of Refcache, and what its calls do to them.
use Rattle.std.specs.Ordering.{int_eq}
use Rattle.std.specs.Prelude.{ℕ, ◌+◌, Bool, true, false, cond, ℤ, pos, ◌+ℤ◌, List, [], ◌∷◌, ◌++◌}
use Rattle.std.specs.Prelude.{Option, Some, None, unwrap_or}
use Rattle.refcache.specs.declared.reports.Queued.{Queued}
use Rattle.vm_base.specs.Functions.{put}
use Rattle.refcache.specs.Sums.{sum_below}

-- Cores and objects are numbered from 0 up to their number; a core's delta of an object is none
-- where it has no entry.
pub record Counts : Type 0 where
  pub cores : ℕ
  pub objects : ℕ
  pub epoch : ℕ
  -- of objects
  pub global : ℕ → ℤ
  pub queued : ℕ → Bool
  pub dirty : ℕ → Bool
  -- of cores
  pub delta : ℕ → ℕ → Option ℤ
  pub queue : ℕ → List Queued
  pub flushed : ℕ → Bool

-- all counts as they are made
abbrev pub no_counts : ℕ → ℕ → Counts
no_counts n m = record {
  cores = n;
  objects = m;
  epoch = 0;
  global = λ o. pos 0;
  queued = λ o. false;
  dirty = λ o. false;
  delta = λ c o. None;
  queue = λ c. [];
  flushed = λ c. false;
}

-- the delta of an object at a core, 0 where it has no entry
abbrev pub delta_of : Counts → ℕ → ℕ → ℤ
delta_of v c o = unwrap_or (v.delta c o) (pos 0)

-- the global count and the deltas of all cores
abbrev pub true_count : Counts → ℕ → ℤ
true_count v o = v.global o +ℤ sum_below v.cores (λ c. delta_of v c o)

-- an object is put at the end of a core's queue, clean
abbrev pub enqueued : ℕ → ℕ → Counts → Counts
enqueued c o v = record v {
  queued = put v.queued o true;
  dirty = put v.dirty o false;
  queue = put v.queue c (v.queue c ++ record { object = o; epoch = v.epoch } ∷ []);
}

-- an object leaves a core's queue, of which the rest stays
abbrev pub unqueued : ℕ → ℕ → List Queued → Counts → Counts
unqueued c o rest v = record v {
  queued = put v.queued o false;
  queue = put v.queue c rest;
}

abbrev pub soiled : ℕ → Counts → Counts
soiled o v = record v { dirty = put v.dirty o true }

-- a delta goes into the global count, and its entry is gone
abbrev pub drained : ℕ → ℕ → Counts → Counts
drained c o v = record v {
  global = put v.global o (v.global o +ℤ delta_of v c o);
  delta = put v.delta c (put (v.delta c) o None);
}

-- an object whose global count is 0 is queued, or dirty if it was queued already
abbrev pub noticed : ℕ → ℕ → Counts → Counts
noticed c o v = cond (int_eq (v.global o) (pos 0)) (cond (v.queued o) (soiled o v) (enqueued c o v)) v

-- a core's entry of an object is evicted
abbrev pub evicted : ℕ → ℕ → Counts → Counts
evicted c o v = noticed c o (drained c o v)

-- a core's delta of an object changes, from 0 where it has no entry
abbrev pub added : ℕ → ℕ → ℤ → Counts → Counts
added c o by v = record v { delta = put v.delta c (put (v.delta c) o (Some (delta_of v c o +ℤ by))) }

-- an object's count begins anew
abbrev pub begun : ℕ → ℕ → Counts → Counts
begun o count v = record v { global = put v.global o (pos count) }

-- a core is marked as flushed in this epoch
abbrev pub marked : ℕ → Counts → Counts
marked c v = record v { flushed = put v.flushed c true }

-- the next epoch begins
abbrev pub ended : Counts → Counts
ended v = record v { epoch = v.epoch + 1; flushed = λ c. false }
