-- Held slots that are changed keep their places
use Rattle.std.proofs.Common.{ℕ, List, map, refl}
use Rattle.live_levels.specs.declared.act.Act.{Act}
use Rattle.live_levels.specs.Replay.{dated}
use Rattle.live_levels.specs.Slots.{SlotView, changed}
use Rattle.live_tree.specs.Held.{SideBySide}
use Rattle.live_tree.proofs.Pushed.{side_map}

pub changed_side_by_side : (ticket : ℕ) (act : Act) (first end : ℕ) (ss : List SlotView) → SideBySide first end ss
    → SideBySide first end (map (λ s. changed s (dated ticket act)) ss)
changed_side_by_side ticket act = side_map (λ s. changed s (dated ticket act)) (λ _. refl) (λ _. refl)
