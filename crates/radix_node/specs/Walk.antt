-- What is found on the pages of a range
use Rattle.std.specs.Prelude.{◌≡◌, ℕ, ◌+◌, ◌-◌, ◌<◌, ◌≤◌, true, is_some, Option, None, List}
use Rattle.vm_base.specs.Info.{frame_of, is_recorded}
use Rattle.radix_node.specs.declared.walk.FreeRun.{FreeRun}
use Rattle.radix_node.specs.declared.walk.FreeRun.TheVariants.{Found, Open}
use Rattle.radix_node.specs.Run.{Run, cell_at}

-- the frame of each page, if it has one, where the node's pages are counted from the base on
abbrev pub frames_from : ℕ → List Run → ℕ → Option ℕ
frames_from base rs p = frame_of (cell_at rs (p - base)).state.info

-- the core is recorded on a page from first up to end
abbrev pub HasUser : List Run → ℕ → ℕ → ℕ → Type 0
HasUser rs first end core =
    (p : ℕ) × (first ≤ p) × (p < end) × (is_recorded (cell_at rs p).state.info core ≡ true)

-- ---- free pages, where the node's pages are counted from the base on

-- a mapped page from first up to end keeps n pages from being free that begin at r
abbrev pub Blocked : List Run → ℕ → ℕ → ℕ → ℕ → ℕ → Type 0
Blocked rs base first end n r =
    (p : ℕ) × (first ≤ p) × (p < end) × (r ≤ base + p) × (base + p < r + n) ×
    (is_some (cell_at rs p).state.info ≡ true)

-- the pages from here on are free, and too few; from start up to here no n free pages begin
pub record IsOpen (rs : List Run) (base first end n start here : ℕ) : Type 0 where
  pub low : start ≤ here
  pub high : here ≤ base + end
  pub short : base + end < here + n
  pub free : (p : ℕ) → first ≤ p → p < end → here ≤ base + p → (cell_at rs p).state.info ≡ None
  pub before : (r : ℕ) → start ≤ r → r < here → Blocked rs base first end n r

-- the n pages from here on are free as far as they lie in the range; from start up to here no n
-- free pages begin
pub record HasFreeRun (rs : List Run) (base first end n start here : ℕ) : Type 0 where
  pub low : start ≤ here
  pub high : here + n ≤ base + end
  pub free : (p : ℕ) → first ≤ p → p < end → here ≤ base + p → base + p < here + n
      → (cell_at rs p).state.info ≡ None
  pub before : (r : ℕ) → start ≤ r → r < here → Blocked rs base first end n r

abbrev pub FindsRun : List Run → ℕ → ℕ → ℕ → ℕ → ℕ → FreeRun → Type 0
FindsRun rs base first end n start (Found here) = HasFreeRun rs base first end n start here
FindsRun rs base first end n start (Open here) = IsOpen rs base first end n start here
