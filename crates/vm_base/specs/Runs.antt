-- Runs of neighbouring pages
use Rattle.std.specs.Prelude.{ℕ, ◌≡◌, ◌≤◌, ◌<◌, ◌+◌, ◌&&◌, Bool, nat_le, Option, None}
use Rattle.vm_base.specs.declared.page.PageRange.{PageRange}

-- f has nothing at the pages from first up to end
abbrev pub NoneIn : {V : Type 0} → (ℕ → Option V) → ℕ → ℕ → Type 0
NoneIn f first end = (p : ℕ) → first ≤ p → p < end → f p ≡ None

-- the n pages from first on lie in the window
pub record LiesIn (window : PageRange) (n first : ℕ) : Type 0 where
  pub low : window.first ≤ first
  pub high : first + n ≤ window.end

-- the same as a test
abbrev pub lies_in : PageRange → ℕ → ℕ → Bool
lies_in window n first = nat_le window.first first && nat_le (first + n) window.end
