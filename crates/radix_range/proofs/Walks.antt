-- What a tree's slots say of the pages of a range
use Rattle.slot_lock.proofs.Words.{◌≡◌, ℕ, ◌+◌, ◌-◌, ◌*◌, ◌^◌, ◌<◌, ◌≤◌, ◌↔◌, ⊎_elim, Bool, true, List, sym, ◌∙◌, ap, subst, arith, cases_lt, PageRange}
use Rattle.slot_lock.proofs.Words.{info_from, frame_of, has_in, in_has}
use Rattle.slot_lock.specs.declared.framed.Framed.{Framed}
use Rattle.slot_lock.specs.Framed.{AddsFrames, frames_in}
use Rattle.slot_lock.specs.Slots.{IsUser, IsFreeRun}
use Rattle.slot_lock.proofs.Listing.{adds_same}
use Rattle.slot_lock.proofs.Walks.{is_some-from, frame_of-from, is_recorded-from}
use Rattle.slot_lock.proofs.Facts.{no_some}
use Rattle.radix_node.specs.Run.{Run, cell_at, width_of}
use Rattle.radix_node.specs.Node.{Parts}
use Rattle.radix_node.specs.Walk.{HasUser, Blocked, HasFreeRun, IsOpen, frames_from}
use Rattle.radix_range.specs.Tree.{run_slots, IsRadix}
use Rattle.radix_range.proofs.TreeLaws.{pages_are}

-- the pages that are asked for are the root's
pub of_root : (v : Parts) → IsRadix v → (end : ℕ) → end ≤ 2 ^ 36 → end ≤ 512 * width_of v.level
of_root v ok end h = let n = pages_are v ok.top in omega arith

pub users_are : (rs : List Run) (range : PageRange) (core : ℕ) (b : Bool) → (b ≡ true) ↔ HasUser rs range.first range.end core
    → (b ≡ true) ↔ IsUser (run_slots rs) range core
users_are rs range core b h = (
  λ is. let w = h.0 is in (w.0, in_has range w.0 w.1 w.2, is_recorded-from (cell_at rs w.0).state.info (cell_at rs w.0).offset core ∙ w.3),
  λ u. let m = has_in range u.0 u.1 in h.1 (u.0, m.0, m.1, sym (is_recorded-from (cell_at rs u.0).state.info (cell_at rs u.0).offset core) ∙ u.2),
)

pub frames_are : (rs : List Run) (first end : ℕ) (old new : List Framed) → AddsFrames (frames_from 0 rs) (0 + first) end old new
    → AddsFrames (frames_in (run_slots rs)) first end old new
frames_are rs first end old new h =
    let at : 0 + first ≡ first = omega arith in
    adds_same _ _ first end old new (λ p a b. same p) (subst (λ n. AddsFrames (frames_from 0 rs) n end old new) at h)
  where
    same : (p : ℕ) → frames_from 0 rs p ≡ frames_in (run_slots rs) p
    same p = let k : p - 0 ≡ p = omega arith in ap (λ n. frame_of (cell_at rs n).state.info) k
        ∙ sym (frame_of-from (cell_at rs p).state.info (cell_at rs p).offset)

blocked : (rs : List Run) (range : PageRange) (n r : ℕ) → Blocked rs 0 range.first range.end n r → ¬ IsFreeRun (run_slots rs) range n r
blocked rs range n r w run =
    no_some (info_from (cell_at rs w.0).state.info (cell_at rs w.0).offset) (is_some-from (cell_at rs w.0).state.info (cell_at rs w.0).offset
    ∙ w.5) (run.free w.0 (omega (arith, w.3)) (omega (arith, w.4)))

pub free_run_least : (rs : List Run) (range : PageRange) (n here : ℕ) → HasFreeRun rs 0 range.first range.end n range.first here → (r : ℕ)
    → r < here → ¬ IsFreeRun (run_slots rs) range n r
free_run_least rs range n here h r l run = blocked rs range n r (h.before r run.inside.low l) run

pub free_run_none : (rs : List Run) (range : PageRange) (n here : ℕ) → IsOpen rs 0 range.first range.end n range.first here → (r : ℕ)
    → ¬ IsFreeRun (run_slots rs) range n r
free_run_none rs range n here h r run = ⊎_elim
    (λ (l : r < here). blocked rs range n r (h.before r run.inside.low l) run)
    (λ (l : here ≤ r). omega (arith, h.short, run.inside.high))
    (cases_lt r here)
