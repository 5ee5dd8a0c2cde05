-- Pages of frames, in the order in which the frames were first written to
use Rattle.std.specs.Prelude.{ℕ, ◌≡◌, ◌<◌, ◌≤◌, List, [], length, get_or, Option, Some, None, is_some}
use Rattle.std.specs.List.{count_by}
use Rattle.vm_base.specs.Plain.{Bytes, zeros, page_bytes}

-- the bytes of each page
abbrev pub all_pages : List (List ℕ) → ℕ → Bytes
all_pages pages k = page_bytes (get_or pages k []) 0

-- the bytes of the page at this place; a frame that was never written has none, and its bytes are 0
abbrev pub bytes_at : List (List ℕ) → Option ℕ → Bytes
bytes_at pages None = zeros
bytes_at pages (Some k) = all_pages pages k

-- Pages of bytes, the place of each frame's page, and for how many pages there is memory.
pub record Stored : Type 0 where
  pub places : List (Option ℕ)
  pub pages : List (List ℕ)
  pub capacity : ℕ

-- the bytes of each frame
unfoldable pub stored_bytes : Stored → ℕ → Bytes
stored_bytes s f = bytes_at s.pages (get_or s.places f None)

-- Each page is that of one frame, and there is memory for a page of each.
pub record IsStored (s : Stored) : Type 0 where
  pub used : length s.pages ≡ count_by is_some s.places
  pub below : (f k : ℕ) → get_or s.places f None ≡ Some k → k < length s.pages
  pub apart : (f g k : ℕ) → get_or s.places f None ≡ Some k → get_or s.places g None ≡ Some k → f ≡ g
  pub room : length s.places ≤ s.capacity
  pub few : length s.places ≤ 65536
