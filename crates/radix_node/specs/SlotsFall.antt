-- Each child is of a lower level
use Rattle.std.specs.Prelude.{ℕ, ◌≤◌, max, List, [], ◌∷◌, All}
use Rattle.std.proofs.Common.{arith}
use Rattle.std.proofs.lemmas.List.Elements.{All-head, All-tail}
use denote.Param.Weighed.{most}
use Rattle.radix_node.specs.declared.node.Slot.{Slot}
use Rattle.radix_node.specs.declared.node.Slot.TheVariants.{Own, Child}
use Rattle.radix_node.specs.declared.node.Node.TheDeep.{deep-Slot}
use Rattle.radix_node.specs.Slots.{IsLower}

deep_le : {A : Type 0} (g : _) (level : ℕ) (s : Slot A) → IsLower level s → deep-Slot A g s ≤ level
deep_le g level (Own s) h = omega arith
deep_le g level (Child b) h = omega (arith, h)

pub most_le-level : {A : Type 0} (g : _) (level : ℕ) (xs : List (Slot A)) → All (IsLower level) xs
    → max (most (λ x. deep-Slot A g x) xs) 0 ≤ level
most_le-level g level [] h = omega arith
most_le-level {A} g level (x ∷ xs) h =
    omega (
      arith,
      deep_le {A = A} g level x (All-head (IsLower level) x xs h),
      most_le-level {A = A} g
          level xs (All-tail (IsLower level) x xs h),
    )
