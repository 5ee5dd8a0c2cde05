-- An attempt to lock the slot of a page
use Rattle.std.proofs.Common.{◌≡◌, ℕ, ◌+◌, ◌-◌, ◌*◌, ◌^◌, ◌<◌, ◌≤◌, true, Option, Some, refl, sym, ◌∙◌, ap, subst, arith}
use Rattle.slot_lock.specs.Slots.{with_owner}
use Rattle.slot_lock.proofs.Facts.{same_test}
use Rattle.radix_node.specs.declared.lock.Lock.{Lock}
use Rattle.radix_node.specs.declared.lock.Lock.TheVariants.{Held, Before, Beyond, Locked}
use Rattle.radix_node.specs.State.{State}
use Rattle.radix_node.specs.Run.{cell_at, width_of, with_run, in_state, IsWhole}
use Rattle.radix_node.specs.Node.{Parts, runs}
use Rattle.radix_node.specs.Lock.{Meets, after_lock}
use Rattle.radix_node.proofs.Runs.{with_run-same}
use Rattle.radix_range.specs.Tree.{run_slots, tree_slots, IsRadix}
use Rattle.radix_range.proofs.TreeLaws.{is_found, is_radix, still_radix}
use Rattle.radix_range.proofs.Cells.{cell_in, slot_start}
use Rattle.radix_range.specs.Locking.{TriesLock}
use Rattle.radix_range.proofs.Sets.{IsSet, tree_set, set_slots}
use Rattle.radix_range.proofs.Changes.{Here, here, first_is, by_limit, restated_owner}

-- ---- the slot that begins at a page, with another owner

pub found_here : (v : Parts) → IsRadix v → (page end : ℕ) → page < 2 ^ 35
    → (tree_slots v).edge page ≡ true
    → page + (cell_at (runs v) page).width ≡ end
    → Here (tree_slots v) page end (cell_at (runs v) page).state
found_here v ok page end l edge e =
    let f = is_found v ok page (omega arith) in
    let first = first_is _ _ _ _ _ f edge in
    let same : slot_start (runs v) page + (cell_at (runs v) page).width ≡ end =
    ap (λ n. n + (cell_at (runs v) page).width) first ∙ e in
    subst (λ n. Here (tree_slots v) page n (cell_at (runs v) page).state) same
    (here _ _ _ _ _ f edge)

-- the page's slot in the same content with another owner
abbrev pub owned : Parts → ℕ → Option ℕ → State
owned v page owner = record { info = (cell_at (runs v) page).state.info; owner = owner }

pub owned_set : (v u : Parts) → IsRadix v → (page end : ℕ) (owner : Option ℕ) → page < 2 ^ 35
    → Here (tree_slots v) page end (cell_at (runs v) page).state
    → runs u ≡ with_run (in_state (owned v page owner)) (runs v) page
    → IsSet (runs v) (runs u) page end (owned v page owner)
owned_set v u ok page end owner l h e =
    tree_set v u ok page end _ (by_limit v ok page end h.slot l) h.slot e

pub owned_slots : (v u : Parts) → IsRadix v → (page end : ℕ) (owner : Option ℕ) → page < 2 ^ 35
    → Here (tree_slots v) page end (cell_at (runs v) page).state
    → runs u ≡ with_run (in_state (owned v page owner)) (runs v) page
    → tree_slots u ≡ with_owner (tree_slots v) page end owner
owned_slots v u ok page end owner l h e =
    set_slots (runs v) (runs u) page end _ (owned_set v u ok page end owner l h e)
    ∙ restated_owner (tree_slots v) page end (cell_at (runs v) page).state owner h.info

pub owned_radix : (v u : Parts) → IsRadix v → (page end : ℕ) (owner : Option ℕ) → 1 ≤ page
    → page < 2 ^ 35
    → Here (tree_slots v) page end (cell_at (runs v) page).state
    → runs u ≡ with_run (in_state (owned v page owner)) (runs v) page
    → u.level ≡ v.level → IsWhole u.level (512 * width_of u.level) (runs u) → IsRadix u
owned_radix v u ok page end owner low l h e same whole =
    still_radix v u ok page end low (by_limit v ok page end h.slot l)
    (owned_set v u ok page end owner l h e).outside same whole

-- ---- attempts

-- a tree whose slots are as they were
same_radix : (v u : Parts) → IsRadix v → runs u ≡ runs v → u.level ≡ v.level
    → IsWhole u.level (512 * width_of u.level) (runs u) → IsRadix u
same_radix v u ok e same whole = is_radix u (same ∙ ok.top) whole (λ p not. ap (λ rs. (cell_at rs p).state) e ∙ ok.outside p not)

edge_here : (v : Parts) (page : ℕ) → (cell_at (runs v) page).offset ≡ 0
    → (tree_slots v).edge page ≡ true
edge_here v page h = same_test _ _ h

pub tries : (v u : Parts) → IsRadix v → (core cursor end : ℕ) (l : Lock) → cursor < end
    → end ≤ 2 ^ 35
    → Meets (cell_at (runs v) cursor) (end - cursor) l
    → runs u ≡ with_run (in_state (after_lock l core (cell_at (runs v) cursor).state)) (runs v) cursor
    → TriesLock (tree_slots v) (tree_slots u) core cursor end l
tries v u ok core cursor end (Held by) some high m e =
    let f = is_found v ok cursor (omega arith) in
    (f.owner cursor f.low f.high ∙ m, ap run_slots (e ∙ with_run-same (runs v) cursor))
tries v u ok core cursor end Before some high m e =
    let f = is_found v ok cursor (omega arith) in
    let c = cell_in (runs v) cursor in (
      f.owner cursor f.low f.high ∙ m.0,
      f.slot.inside cursor (omega (arith, m.1, c.low)) f.high,
      ap run_slots (e ∙ with_run-same (runs v) cursor),
    )
tries v u ok core cursor end Beyond some high m e =
    let h = found_here v ok cursor _ (omega arith) (edge_here v cursor m.1) refl in (
      record {
        last = cursor + (cell_at (runs v) cursor).width;
        slot = h.slot;
        past = omega (arith, m.2);
        free = λ p a b. h.owner p a b ∙ m.0;
      },
      ap run_slots (e ∙ with_run-same (runs v) cursor),
    )
tries v u ok core cursor end (Locked width) some high m e =
    let h =
    found_here v ok cursor (cursor + width) (omega arith) (edge_here v cursor m.1)
    (ap (λ n. cursor + n) (sym m.3)) in
    record {
      slot = h.slot;
      by_end = omega (arith, m.2, m.3);
      was_free = λ p a b. h.owner p a b ∙ m.0;
      now = owned_slots v u ok cursor (cursor + width) (Some core) (omega arith) h e;
    }

pub tried_radix : (v u : Parts) → IsRadix v → (core cursor end : ℕ) (l : Lock) → 1 ≤ cursor
    → cursor < end → end ≤ 2 ^ 35
    → Meets (cell_at (runs v) cursor) (end - cursor) l
    → runs u ≡ with_run (in_state (after_lock l core (cell_at (runs v) cursor).state)) (runs v) cursor
    → u.level ≡ v.level → IsWhole u.level (512 * width_of u.level) (runs u) → IsRadix u
tried_radix v u ok core cursor end (Locked width) low some high m e same whole =
    let h =
    found_here v ok cursor (cursor + width) (omega arith) (edge_here v cursor m.1)
    (ap (λ n. cursor + n) (sym m.3)) in
    owned_radix v u ok cursor (cursor + width) (Some core) low (omega arith) h e same whole
tried_radix v u ok core cursor end l low some high m e same whole =
    same_radix v u ok (e ∙ with_run-same (runs v) cursor) same whole
