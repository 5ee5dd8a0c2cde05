use Rattle.machine_model.proofs.Words.{◌-◌, ◌≤◌, frames_in}
use Rattle.refcache.specs.Parts.{counts_of}
use Rattle.machine_model.proofs.CountingDown.{CountsUpTo}
use Rattle.core_steps.proofs.rows.Lost.{CountsListed}
use Rattle.core_steps.proofs.rows.commit.count_frames.Given as goal

-- the frames of the pages so far are counted down
abbrev pub invariant-lists : goal.invariant-lists
invariant-lists g l = record {
  low : l.range.first ≤ l.from;
  high : l.from ≤ l.range.end;
  counted : CountsUpTo l.core (frames_in (g.M.SlotRead.slots l.map)) l.range.first l.from (counts_of l.fn.counts) (counts_of l.counts);
}

-- and those of listed pages up to one
abbrev pub invariant-pages : goal.invariant-pages
invariant-pages g l =
    CountsListed l.core (frames_in (g.M.SlotRead.slots l.map)) l.range.first l.from l.framed l.k (counts_of l.fn.counts) (counts_of l.counts)

abbrev pub decreases-lists : goal.decreases-lists
decreases-lists g l = l.range.end - l.from
