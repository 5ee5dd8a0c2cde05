-- What clauses see of a set of frames, and of one frame
use Rattle.std.specs.Prelude.{ℕ, ◌≡◌, ◌*◌, ◌<◌, ◌≤◌, Bool, true, List, length, slice_index, nat_lt}
use Rattle.vm_base.specs.Plain.{Bytes}
use Rattle.frames.specs.Bits.{bit_in, count_below}
use Rattle.frames.specs.Pages.{Stored, stored_bytes, all_pages}

-- a set of numbers below a limit
pub record Members : Type 0 where
  pub words : List ℕ
  pub limit : ℕ

-- the summary has the numbers of the words that are not 0
abbrev pub IsSummed : List ℕ → List ℕ → Type 0
IsSummed words summary = (w : ℕ) → bit_in summary w ≡ nat_lt 0 (slice_index words w)

-- The members are below the limit, the summary has the words that are not 0, and `size` members are
-- counted.
pub record IsCounted (words summary : List ℕ) (limit size : ℕ) : Type 0 where
  pub room : limit ≤ length words * 64
  pub few : limit ≤ 65536
  pub short : length words ≤ 1024
  pub below : (k : ℕ) → bit_in words k ≡ true → k < limit
  pub summed : IsSummed words summary
  pub counted : size ≡ count_below (bit_in words) limit

-- all frames: their bytes, which are free, and how many there are
pub record FrameParts : Type 0 where
  pub store : Stored
  pub free : List ℕ
  pub count : ℕ

-- of each frame, its bytes
abbrev pub frame_bytes : FrameParts → ℕ → Bytes
frame_bytes p = stored_bytes p.store

-- the free frames
abbrev pub free_frames : FrameParts → ℕ → Bool
free_frames p = bit_in p.free

-- one frame: its page, once it was written to, for how many pages there is memory, and whether it
-- is free
pub record CellParts : Type 0 where
  pub pages : List (List ℕ)
  pub capacity : ℕ
  pub is_free : Bool

-- its bytes
abbrev pub cell_bytes : CellParts → Bytes
cell_bytes p = all_pages p.pages 0
