-- The pages of a range that have a frame
use Rattle.std.specs.Prelude.{◌≡◌, ℕ, ◌+◌, ◌<◌, ◌≤◌, List, [], ◌∷◌, ◌++◌, Option, Some}
use Rattle.vm_base.specs.Runs.{NoneIn}
use Rattle.vm_base.specs.Info.{frame_of}
use Rattle.slot_lock.specs.declared.framed.Framed.{Framed}
use Rattle.slot_lock.specs.Slots.{Slots}

-- the frame of each page, if it has one
abbrev pub frames_in : Slots → ℕ → Option ℕ
frames_in s p = frame_of (s.info p)

-- the pages from first up to end that have a frame are these, in order, with these frames
abbrev pub ListsFrames : (ℕ → Option ℕ) → ℕ → ℕ → List Framed → Type 0
ListsFrames frame first end [] = NoneIn frame first end
ListsFrames frame first end (x ∷ xs) =
    (first ≤ x.page) × (x.page < end) × NoneIn frame first x.page × (frame x.page ≡ Some x.frame)
    × ListsFrames frame (x.page + 1) end xs

-- they were added at the end of a list
abbrev pub AddsFrames : (ℕ → Option ℕ) → ℕ → ℕ → List Framed → List Framed → Type 0
AddsFrames frame first end old new =
    (xs : List Framed) × (new ≡ old ++ xs) × ListsFrames frame first end xs
