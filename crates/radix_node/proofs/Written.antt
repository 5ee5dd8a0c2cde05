-- A node's slots, written through a slice of them
use Rattle.std.proofs.Common.{Vec, ◌≡◌, ℕ, ◌*◌, List, sym, ap, ◌∙◌, subst}
use Rattle.std.specs.Vec.{with_items}
use Rattle.std.proofs.lemmas.List.{with_items_is}
use Rattle.radix_node.specs.declared.node.Slot.{Slot}
use Rattle.radix_node.specs.Run.{Cell, cell_at, width_of, IsWhole}
use Rattle.radix_node.specs.Node.{flatten}
use Rattle.radix_node.specs.Slots.{parts_of, IsNode}
use Rattle.radix_node.proofs.Flat.{whole-node}

-- the node has these slots now
pub node_written : {A Z : Type 0} {level n : ℕ} (v : Vec (Slot A) Z) (ss : List (Slot A)) → level ≡ n
    → IsNode level v.items → IsNode n ss → IsNode level (with_items v ss).items
node_written {level = level} v ss e was node =
    subst (IsNode level) (sym (with_items_is v ss (node.full ∙ sym was.full ∙ sym v.ok.0)))
    (subst (λ k. IsNode k ss) (sym e) node)

pub whole_written : {A Z : Type 0} {level n : ℕ} (v : Vec (Slot A) Z) (ss : List (Slot A)) → level ≡ n
    → IsNode level v.items → IsNode n ss
    → IsWhole level (512 * width_of level) (flatten (width_of level) (parts_of (with_items v ss).items))
whole_written {level = level} v ss e was node = whole-node level _ (node_written v ss e was node)

-- and its slots are these
pub runs_written : {A Z : Type 0} {level n : ℕ} (v : Vec (Slot A) Z) (ss : List (Slot A)) → level ≡ n
    → IsNode level v.items → IsNode n ss
    → flatten (width_of level) (parts_of (with_items v ss).items) ≡ flatten (width_of n) (parts_of ss)
runs_written {n = n} v ss e was node = ap (λ k. flatten (width_of k) (parts_of (with_items v ss).items)) e
    ∙ ap (λ xs. flatten (width_of n) (parts_of xs)) (with_items_is v ss (node.full ∙ sym was.full ∙ sym v.ok.0))

pub cell_written : {A Z : Type 0} {level n : ℕ} (v : Vec (Slot A) Z) (ss : List (Slot A)) (p : ℕ) (c : Cell) → level ≡ n
    → IsNode level v.items → IsNode n ss → cell_at (flatten (width_of n) (parts_of ss)) p ≡ c
    → cell_at (flatten (width_of level) (parts_of (with_items v ss).items)) p ≡ c
cell_written v ss p c e was node h = ap (λ rs. cell_at rs p) (runs_written v ss e was node) ∙ h
