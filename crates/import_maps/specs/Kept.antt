-- What is kept of requests, and what is known to be mapped after the first of them.
use Rattle.std.specs.Prelude.{◌≡◌, ℕ, ◌≤◌, List, drop, length}
use Rattle.import_maps.specs.Ranges.{changed_all, ranges_of}
use Rattle.import_maps.specs.Steps.{steps_kept, widths}
use Rattle.import_maps.specs.declared.ranges.MappedRange.{MappedRange}
use Rattle.import_maps.specs.declared.steps.Head.{Head}

-- the heads have these numbers, and the ranges are what is mapped after so many of both
pub record AreKept (heads : List Head) (numbers : List ℕ) (seen behind : ℕ) (ranges : List MappedRange) : Type 0 where
  pub whole : length numbers ≡ widths heads
  pub seen_few : seen ≤ length heads
  pub behind_few : behind ≤ length numbers
  pub rest : length (drop behind numbers) ≡ widths (drop seen heads)
  pub mapped : changed_all ranges (steps_kept (drop seen heads) (drop behind numbers)) ≡ ranges_of (steps_kept heads numbers)
