use Rattle.std.proofs.Common.{◌∙◌, ap, arith, refl}
use Rattle.slot_lock.proofs.SlotLaws.{held_page}
use Rattle.slot_lock.proofs.Steps.{slot_by_edge}
use Rattle.radix_range.specs.Tree.{tree_slots}
use Rattle.radix_range.proofs.Known.{same_info}
use Rattle.slot_lock.specs.Slots.{Slots}
use Rattle.radix_range.proofs.radix_map.RadixMapSlotMap.unlock_next.Goals as goal

pub unlock-requires-clause-page : goal.unlock-requires-clause-page
unlock-requires-clause-page g c = held_page (tree_slots c.args.self.now.root) (c.args.self.now.ok.laws _ refl)
    c.args.cursor c.args.core c.requires.held

pub returns : goal.returns
returns g c =
    let e = c.unlock.ensures in
    let by = c.requires.slot in
    let most = slot_by_edge (tree_slots c.args.self.now.root) c.args.cursor c.unlock.result by.0 e.slot by.1.ends by.1.ordered in
    record {
      slot = e.slot;
      by_end = omega (arith, by.2);
      was_held = λ p a b. e.one_owner p a b ∙ c.requires.held;
      now = e.slots;
    }

pub invariant_of-self-clause-known : goal.invariant_of-self-clause-known
invariant_of-self-clause-known g c =
    same_info (tree_slots c.args.self.now.root) (tree_slots c.unlock.new.root) c.args.self.now.full c.args.self.now.tights.items c.args.self.now.known
    (ap (λ (s : Slots). s.info) c.unlock.ensures.slots)
