-- What a commit keeps of the held slots: their places
use Rattle.std.proofs.Common.{◌≡◌, ℕ, Bool, true, false, List, map, cond, refl}
use Rattle.slot_lock.specs.declared.plan.Change.{Change}
use Rattle.slot_lock.specs.Plan.{range_of}
use Rattle.live_levels.specs.Slots.{SlotView, changed}
use Rattle.live_levels.specs.Replay.{dated}
use Rattle.live_tree.specs.Held.{SideBySide, committed, is_inside, act_on}
use Rattle.live_tree.proofs.Pushed.{side_map}

cond_first : (b : Bool) (s t : SlotView) → t.first ≡ s.first → (cond b t s).first ≡ s.first
cond_first true s t h = h
cond_first false s t h = refl

cond_count : (b : Bool) (s t : SlotView) → t.count ≡ s.count → (cond b t s).count ≡ s.count
cond_count true s t h = h
cond_count false s t h = refl

pub committed_first : (ticket : ℕ) (change : Change) (s : SlotView) → (committed ticket change s).first ≡ s.first
committed_first ticket change s = cond_first (is_inside (range_of change) s) s (changed s (dated ticket (act_on change s))) refl

pub committed_count : (ticket : ℕ) (change : Change) (s : SlotView) → (committed ticket change s).count ≡ s.count
committed_count ticket change s = cond_count (is_inside (range_of change) s) s (changed s (dated ticket (act_on change s))) refl

pub still_side_by_side : (ticket : ℕ) (change : Change) (first end : ℕ) (ss : List SlotView) → SideBySide first end ss
    → SideBySide first end (map (committed ticket change) ss)
still_side_by_side ticket change = side_map (committed ticket change) (committed_first ticket change) (committed_count ticket change)
