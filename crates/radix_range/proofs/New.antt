-- A new tree
use Rattle.slot_lock.proofs.Words.{◌≡◌, ℕ, ◌+◌, ◌-◌, ◌*◌, ◌%◌, ◌^◌, ◌<◌, ◌≤◌, ◌==◌, true, ⊎_elim, Option, None, refl, ◌∙◌, ap, arith, fun_ext, nat_tests}
use Rattle.slot_lock.proofs.Words.{cases_lt, PageInfo, info_from}
use Rattle.slot_lock.specs.Slots.{Slots, IsNew}
use Rattle.radix_node.specs.State.{State, no_state}
use Rattle.radix_node.specs.Run.{Cell, cell_at, width_of, divided, IsWhole}
use Rattle.radix_node.specs.Node.{Parts, runs, node_of}
use Rattle.radix_node.proofs.Runs.{cell_at-past}
use Rattle.radix_node.proofs.Flat.{place_index, width_pos}
use Rattle.radix_node.proofs.Divided.{runs-divided}
use Rattle.radix_node.proofs.Joined.{cell_at-divided, total-divided}
use Rattle.radix_range.specs.Tree.{tree_slots, root_edges, new_tree, IsRadix}
use Rattle.radix_range.proofs.TreeLaws.{is_radix}

divided_state : (w p : ℕ) → 0 < w → (cell_at (divided w no_state) p).state ≡ no_state
divided_state w p pos = ⊎_elim
    (λ (l : p < 512 * w).
    let at = place_index w p pos l in
    ap (λ (c : Cell). c.state) (cell_at-divided w at.0 (p - at.0 * w) p no_state at.1 (omega (arith, at.2, at.3)) (omega (arith, at.2))))
    (λ (l : 512 * w ≤ p). ap (λ (c : Cell). c.state) (cell_at-past (divided w no_state) p (omega (arith, total-divided w no_state))))
    (cases_lt p (512 * w))

pub new_state : (v : Parts) → v ≡ node_of 3 no_state → (p : ℕ) → (cell_at (runs v) p).state ≡ no_state
new_state v e p = ap (λ v. (cell_at (runs v) p).state) e ∙ ap (λ rs. (cell_at rs p).state) (runs-divided (width_of 3) no_state)
    ∙ divided_state (width_of 3) p (width_pos 3)

pub new_radix : (v : Parts) → v ≡ node_of 3 no_state → IsWhole v.level (512 * width_of v.level) (runs v) → IsRadix v
new_radix v e whole = is_radix v (ap (λ (v : Parts). v.level) e) whole (λ p _. new_state v e p)

pub is_new : (v : Parts) → v ≡ node_of 3 no_state → IsNew (tree_slots v)
is_new v e = record {
  unmapped = λ p. ap (λ (s : State). info_from s.info (cell_at (runs v) p).offset) (new_state v e p);
  free = λ p. ap (λ (s : State). s.owner) (new_state v e p);
}

edge_within : (p o k : ℕ) → p < 2 ^ 36 → o < 2 ^ 27 → p ≡ k * 2 ^ 27 + o → (o == 0) ≡ root_edges p
edge_within p o k below small at =
    let rest : p % 2 ^ 27 ≡ o = omega arith in
    grind (arith, nat_tests)

divided_edge : (p : ℕ) → ((cell_at (divided (2 ^ 27) no_state) p).offset == 0) ≡ root_edges p
divided_edge p = ⊎_elim
    (λ (l : p < 512 * 2 ^ 27).
    let at = place_index (2 ^ 27) p (omega arith) l in
    ap (λ (c : Cell). c.offset == 0) (cell_at-divided (2 ^ 27) at.0 (p - at.0 * 2 ^ 27) p no_state at.1 (omega (arith, at.2, at.3)) (omega (arith, at.2)))
    ∙ edge_within p (p - at.0 * 2 ^ 27) at.0 (omega arith) (omega (arith, at.2, at.3)) (omega (arith, at.2)))
    (λ (l : 512 * 2 ^ 27 ≤ p).
    ap (λ (c : Cell). c.offset == 0) (cell_at-past (divided (2 ^ 27) no_state) p (omega (arith, total-divided (2 ^ 27) no_state)))
    ∙ above p l)
    (cases_lt p (512 * 2 ^ 27))
  where
    above : (p : ℕ) → 512 * 2 ^ 27 ≤ p → true ≡ root_edges p
    above p l = grind (arith, nat_tests)

pub root_edged : (v : Parts) → v ≡ node_of 3 no_state → (tree_slots v).edge ≡ root_edges
root_edged v e = fun_ext (λ p. ap (λ v. (cell_at (runs v) p).offset == 0) e
    ∙ ap (λ rs. (cell_at rs p).offset == 0) (runs-divided (width_of 3) no_state) ∙ divided_edge p)

pub new_tree_new : IsNew new_tree
new_tree_new = record { unmapped = λ p. refl; free = λ p. refl }

-- where nothing is mapped and nothing held, the edges say all
pub is_new_tree : (s : Slots) → IsNew s → s.edge ≡ root_edges → s ≡ new_tree
is_new_tree s new edges =
    ap (λ (info : ℕ → Option PageInfo). record s { info = info }) (fun_ext new.unmapped)
    ∙ ap (λ (owner : ℕ → Option ℕ). record s { info = λ p. None; owner = owner }) (fun_ext new.free)
    ∙ ap (λ edge. record new_tree { edge = edge }) edges
