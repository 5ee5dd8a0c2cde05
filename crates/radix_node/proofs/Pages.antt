-- A change of pages in a node whose slots have one page each
use Rattle.std.proofs.Common.{Vec, ◌≡◌, ℕ, ◌+◌, ◌-◌, ◌*◌, ◌<◌, ◌≤◌, List, get_or, refl, ap, ◌∙◌, arith}
use Rattle.std.proofs.Math.ListN.{set}
use Rattle.std.specs.Vec.{with_items}
use Rattle.radix_node.specs.declared.edit.Edit.{Edit}
use Rattle.radix_node.specs.declared.node.Slot.{Slot}
use Rattle.radix_node.specs.declared.node.Slot.TheVariants.{Own as OwnSlot}
use Rattle.radix_node.specs.declared.state.SlotState.{SlotState}
use Rattle.radix_node.specs.State.{state_of}
use Rattle.radix_node.specs.Run.{Run, cell_at, width_of}
use Rattle.radix_node.specs.Node.{Parts, runs, flatten}
use Rattle.radix_node.specs.Slots.{parts_of, IsNode}
use Rattle.radix_node.specs.Edit.{CanEdit, EditsNode, edited, edited_cell}
use Rattle.radix_node.proofs.Edits.{Edits, Within, own_node, edits_own}
use Rattle.radix_node.proofs.Written.{whole_written, cell_written}

-- the pages before the k-th are changed
pub record PagesEdited {A : Type 0} (level : ℕ) (old : List Run) (ss : List (Slot A)) (first end by : ℕ) (edit : Edit) (k : ℕ) : Type 0 where
  pub low : first ≤ k
  pub high : k ≤ end
  pub node : IsNode level ss
  pub edits : Edits old (flatten (width_of level) (parts_of ss)) first end by edit (k * width_of level)

pub page_more : {A : Type 0} {level k : ℕ} {ss : List (Slot A)} (d : Slot A) (s t : SlotState) (old : List Run) (first end by past : ℕ) (edit : Edit)
    → level ≡ 0 → k < end → end ≤ 512 → CanEdit edit (by + (end - first))
    → OwnSlot s ≡ get_or ss k d → past ≡ by + (k - first) → state_of t ≡ edited edit past (state_of s)
    → PagesEdited level old ss first end by edit k
    → PagesEdited level old (set ss k (OwnSlot t)) first end by edit (k + 1)
page_more {level = level} {k = k} {ss = ss} d s t old first end by past edit zero_level below within can is e is_t h =
    let one : width_of level ≡ 1 = rw zero_level refl in
    let place : k * width_of level ≡ k = ap (λ n. k * n) one ∙ omega arith in
    let low = h.low in
    let inside : Within level k first end = record { low = omega arith; high = omega arith } in
    let l : k < 512 = omega arith in
    let e' : past ≡ by + (k * width_of level - first) = omega arith in
    let node = own_node d s t first end by past edit h.node l is inside can e' is_t in
    record {
      low = omega arith;
      high = omega arith;
      node = node;
      edits = edits_own d s t old first end by past edit h.node node l is (omega arith) inside e' is_t h.edits;
    }

pages_done : {A : Type 0} {level k : ℕ} {ss : List (Slot A)} (old : List Run) (first end by : ℕ) (edit : Edit)
    → level ≡ 0 → end ≤ k → PagesEdited level old ss first end by edit k → (p : ℕ) → first ≤ p → p < end
    → cell_at (flatten (width_of level) (parts_of ss)) p ≡ edited_cell edit (by + (p - first)) (cell_at old p)
pages_done {level = level} {k = k} old first end by edit zero_level done h p low high =
    let one : width_of level ≡ 1 = rw zero_level refl in
    let place : k * width_of level ≡ k = ap (λ n. k * n) one ∙ omega arith in
    h.edits.inside p low high (omega arith)

-- the node, whose slots were written through a slice of them, has the pages changed
pub pages_written : {A Z : Type 0} {level k : ℕ} (v : Vec (Slot A) Z) (ss : List (Slot A)) (old : Parts) (first end by : ℕ) (edit : Edit)
    → level ≡ old.level → IsNode level v.items → old.level ≡ 0 → end ≤ k
    → PagesEdited old.level (runs old) ss first end by edit k
    → EditsNode old (record { level = level; parts = parts_of (with_items v ss).items }) first end by edit
pages_written v ss old first end by edit e was zero_level done h = record {
  level = e;
  whole = whole_written v ss e was h.node;
  inside = λ p low high. cell_written v ss p _ e was h.node (pages_done (runs old) first end by edit zero_level done h p low high);
  outside = λ p out. cell_written v ss p _ e was h.node (h.edits.outside p out);
}
