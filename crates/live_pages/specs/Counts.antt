-- What becomes of a frame that a page gets first
use Rattle.std.specs.Prelude.{◌≡◌, ℕ, pos, Option, None}
use Rattle.frames.specs.Parts.{cell_bytes}
use Rattle.vm_base.specs.Plain.{Bytes, File}
use Rattle.machine_model.specs.Files.{page_now}
use Rattle.machine_model.specs.World.{Memory}
use Rattle.live_pages.specs.declared.pieces.FrameState.{FrameState}

-- the frame has these bytes and is counted so often; it is taken or free as before
pub record Begins {A : Type 0} (b : Bytes) (n : ℕ) (old new : FrameState A) : Type 0 where
  pub bytes : cell_bytes new.cell ≡ b
  pub count : new.count ≡ record old.count { global = pos n }
  pub free : new.cell.is_free ≡ old.cell.is_free

-- the frame has the bytes of page k of a file as the machine has them where no frame caches it, and is
-- counted so often
abbrev pub BeginsFrom : {A : Type 0} → (ℕ → Option File) → ℕ → ℕ → ℕ → FrameState A → FrameState A → Type 0
BeginsFrom files file k n old new = (m : Memory) → m.cached file k ≡ None → Begins (page_now m (files file) file k) n old new
