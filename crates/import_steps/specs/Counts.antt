-- How many lines became what.
use Rattle.std.specs.Prelude.{ℕ, ◌+◌}
use Rattle.import_steps.specs.Losses.{lost_lines, no_losses, with_lost}
use Rattle.import_steps.specs.declared.counts.LineCounts.{LineCounts}
use Rattle.import_steps.specs.declared.taking.LineChange.TheVariants.{Heap, Move, File, Key, Shared, Clear}
use Rattle.import_steps.specs.declared.taking.Reason.TheVariants as For
use Rattle.import_steps.specs.declared.taking.Fate.{Fate}
use Rattle.import_steps.specs.declared.taking.Fate.TheVariants.{Kept, Changed, Left}

abbrev pub no_counts : LineCounts
no_counts = record {
  kept = 0;
  heap = 0;
  moves = 0;
  files = 0;
  keyed = 0;
  shared = 0;
  cleared = 0;
  half = 0;
  failed = 0;
  elsewhere = 0;
  before = 0;
  unread = 0;
  still = 0;
  unmapped = 0;
  lost = no_losses;
  begins = 0;
  other = 0;
}

-- how many lines were changed, and how many left out
abbrev pub changed_lines : LineCounts → ℕ
changed_lines c = c.heap + c.moves + c.files + c.keyed + c.shared + c.cleared

-- how many lines are left out, whatever the reason
abbrev pub left_lines : LineCounts → ℕ
left_lines c = c.half + c.failed + c.elsewhere + c.before + c.unread + c.still + c.unmapped + lost_lines c.lost + c.begins + c.other

-- kept, changed and left out
abbrev pub total : LineCounts → ℕ
total c = c.kept + changed_lines c + left_lines c

-- the lines that were kept, changed or lost are left out for another reason, as a program begins: it has a new address space
abbrev pub begun_anew : LineCounts → LineCounts
begun_anew c = record {
  kept = 0;
  heap = 0;
  moves = 0;
  files = 0;
  keyed = 0;
  shared = 0;
  cleared = 0;
  half = c.half;
  failed = c.failed;
  elsewhere = c.elsewhere;
  before = c.before + c.kept + changed_lines c + lost_lines c.lost;
  unread = c.unread;
  still = c.still;
  unmapped = c.unmapped;
  lost = no_losses;
  begins = c.begins + 1;
  other = c.other;
}

-- one line more, with this fate
abbrev pub counted : LineCounts → Fate → LineCounts
counted c Kept = record c { kept = c.kept + 1 }
counted c (Changed Heap) = record c { heap = c.heap + 1 }
counted c (Changed Move) = record c { moves = c.moves + 1 }
counted c (Changed File) = record c { files = c.files + 1 }
counted c (Changed Key) = record c { keyed = c.keyed + 1 }
counted c (Changed Shared) = record c { shared = c.shared + 1 }
counted c (Changed Clear) = record c { cleared = c.cleared + 1 }
counted c (Left For.Half) = record c { half = c.half + 1 }
counted c (Left For.Failed) = record c { failed = c.failed + 1 }
counted c (Left For.Elsewhere) = record c { elsewhere = c.elsewhere + 1 }
counted c (Left For.Unread) = record c { unread = c.unread + 1 }
counted c (Left For.Still) = record c { still = c.still + 1 }
counted c (Left For.Unmapped) = record c { unmapped = c.unmapped + 1 }
counted c (Left For.Other) = record c { other = c.other + 1 }
counted c (Left (For.Lost lost)) = record c { lost = with_lost c.lost lost }
counted c (Left For.Begins) = begun_anew c
