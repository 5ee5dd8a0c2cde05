-- The lives of mappings: which pages were mapped over which steps.
use Rattle.std.specs.Prelude.{◌≡◌, ◌≤◌, ◌⊎◌, ℕ, ◌+◌, ◌-◌, Bool, false, ◌&&◌, List, [], ◌∷◌, ◌++◌, length, nat_lt, slice_index_or, take}
use Rattle.vm_base.specs.declared.page.PageRange.{PageRange}
use Rattle.draw_steps.specs.Rows.{edges_of, rows_of}
use Rattle.draw_steps.specs.Shapes.{stretches_of}
use Rattle.draw_steps.specs.declared.moments.Moment.{Moment}
use Rattle.draw_steps.specs.declared.moments.Moment.TheVariants.{Begins, Answers, Told, Took, Did, Mapped, Unmapped}
use Rattle.draw_steps.specs.declared.moments.Recorded.{Recorded}
use Rattle.draw_steps.specs.declared.shapes.Stretch.{Stretch}

-- A life is a stretch of a row: from a step in which its pages are mapped to the first that changes them. These are the lives
-- of rows, of which the first has this number.
abbrev pub lives_from : List Recorded → ℕ → List PageRange → List Stretch
lives_from all row [] = []
lives_from all row (pages ∷ rows) = stretches_of all row pages all ++ lives_from all (row + 1) rows

-- all of them, from the lowest pages on, or of more than 2,001 the first 2,001
abbrev pub lives_of : List Recorded → List Stretch
lives_of all = take 2001 (lives_from all 0 (rows_of all (edges_of all)))

-- ---- how they are found

-- two ranges have a page in common
abbrev pub overlap : PageRange → PageRange → Bool
overlap a b = nat_lt a.first b.end && nat_lt b.first a.end

abbrev pub meets_in : PageRange → Moment → Bool
meets_in pages (Mapped range prot back) = overlap range pages
meets_in pages (Unmapped range) = overlap range pages
meets_in pages (Begins call core request) = false
meets_in pages (Answers call reply) = false
meets_in pages (Told core cores) = false
meets_in pages (Took core sender pass) = false
meets_in pages (Did core deed) = false

-- the pages from the first edge up to the last
abbrev pub span_of : List ℕ → PageRange
span_of edges = record { first = slice_index_or edges 0 0; end = slice_index_or edges (length edges - 1) 0 }

-- this maps or unmaps some of the pages
abbrev pub meets : PageRange → Recorded → Bool
meets pages r = meets_in pages r.moment

-- The lives of rows stand behind others, up to 2,001 in all; the next row has this number, where there is room for its lives.
pub record AreAdded (all : List Recorded) (row : ℕ) (rows : List PageRange) (old : List Stretch) (next : ℕ) (new : List Stretch) : Type 0 where
  pub lives : new ≡ take 2001 (old ++ lives_from all row rows)
  pub number : (next ≡ row + length rows) ⊎ (2001 ≤ length new)
  pub below : next ≤ length new
  pub room : length new ≤ 2001
