-- What holds of a Refcache between its calls.
use Rattle.std.specs.Prelude.{ℕ, ◌≡◌, ◌≤◌, ◌<◌, ◌+◌, List, length}
use Rattle.refcache.specs.Counts.{Counts, no_counts}
use Rattle.refcache.specs.Steps.{Moment, IsRun, last}
use Rattle.refcache.specs.Parts.{Parts, counts_of, rooms}

-- the counts are those at the end of some run
pub record AreReached (v : Counts) : Type 0 where
  pub run : List Moment
  pub steps : IsRun (no_counts v.cores v.objects) run
  pub end : last (no_counts v.cores v.objects) run ≡ v

-- and each core's queue has room for every object and one more
pub record IsSound (p : Parts) : Type 0 where
  pub few : length p.cores ≤ 64
  pub reached : AreReached (counts_of p)
  pub room : (c : ℕ) → c < length p.cores → rooms p c ≡ length p.objects + 1
  pub epochs : p.epochs.cores ≡ length p.cores
