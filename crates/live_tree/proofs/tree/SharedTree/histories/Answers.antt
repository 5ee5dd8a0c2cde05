use Rattle.std.proofs.Common.{◌≡◌, ◌^◌, ℕ, List, arith, rules, subst, sym}
use Rattle.live_levels.specs.Histories.{AreSlots}
use Rattle.live_levels.specs.Slots.{SlotView}
use Rattle.live_tree.proofs.Gathered.{slots_of}
use Rattle.live_tree.proofs.tree.SharedTree.histories.Goals as goal

pub hand_out-requires : goal.hand_out-requires
hand_out-requires g c =
    let end : c.in_ok-end.end ≡ 2 ^ 36 = search (rules, arith) in
    let all : AreSlots 0 c.in_ok-end.end c.gather.new.slots.items = slots_of 0 c.in_ok-end.end c.gather.new.slots.items (search rules) in
    subst (λ (l : List SlotView). AreSlots 0 (2 ^ 36) l) (sym c.deref.ensures.value)
    (subst (λ (n : ℕ). AreSlots 0 n c.gather.new.slots.items) end all)
