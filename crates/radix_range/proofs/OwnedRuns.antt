-- Slots that get another owner, one after another
use Rattle.slot_lock.proofs.Words.{◌≡◌, ℕ, zero, suc, ◌+◌, ◌-◌, ◌*◌, ◌^◌, ◌<◌, ◌≤◌, ◌⊎◌, inl, inr, ⊎_elim, None, Some, List, sym, ◌∙◌, ap, subst, arith}
use Rattle.slot_lock.proofs.Words.{info_from}
use Rattle.slot_lock.specs.declared.slot_map.SlotRun.{SlotRun}
use Rattle.slot_lock.specs.Slots.{Slots, IsSlot}
use Rattle.slot_lock.specs.SlotRuns.{OneByOne, LocksRun, UnlocksRun}
use Rattle.radix_node.specs.declared.own_run.Handover.{Handover}
use Rattle.radix_node.specs.OwnedRuns.{GetsOwner, GetOwner}
use Rattle.radix_node.specs.State.{State}
use Rattle.radix_node.specs.Run.{Run, Cell, total, cell_at, with_run, in_state, width_of, IsWhole}
use Rattle.radix_node.specs.Node.{Parts, runs}
use Rattle.radix_node.proofs.OwnedRuns.{wide_cell, get-total}
use Rattle.radix_range.specs.Tree.{run_slots, tree_slots, IsRadix}
use Rattle.radix_range.proofs.Cells.{slot_start}
use Rattle.radix_range.specs.Locking.{HandsSlot, HandsRun}
use Rattle.radix_range.proofs.TreeLaws.{is_slot, cell_of, pages_are, still_radix}
use Rattle.radix_range.proofs.Sets.{IsSet, is_set, set_slots}
use Rattle.radix_range.proofs.Changes.{restated_owner}

-- the slot of these pages had one owner and has another
pub record Hands (rs ts : List Run) (page end : ℕ) (owners : Handover) : Type 0 where
  pub slot : (last : ℕ) → end ≤ last → HandsSlot (run_slots rs) (run_slots ts) owners page last end
  pub outside : (p : ℕ) → (p < page) ⊎ (end ≤ p) → cell_at ts p ≡ cell_at rs p

pub hands : (rs ts : List Run) (page w : ℕ) (owners : Handover) → page < total rs → GetsOwner rs ts page w owners
    → Hands rs ts page (page + w) owners
hands rs ts page w owners l h =
    let start : slot_start rs page ≡ page = omega (arith, h.begins) in
    let last : slot_start rs page + (cell_at rs page).width ≡ page + w = omega (arith, h.begins, h.wide) in
    let slot = subst (λ a. IsSlot (run_slots rs) a (page + w)) start
    (subst (λ b. IsSlot (run_slots rs) (slot_start rs page) b) last (is_slot rs page)) in
    let new : State = record { info = (cell_at rs page).state.info; owner = owners.to } in
    let set : IsSet rs ts page (page + w) new =
    subst (λ qs. IsSet rs qs page (page + w) new) (sym (h.set ∙ ap (λ s. with_run (in_state s) rs page) h.change.now))
    (is_set rs page (page + w) new l slot) in
    record {
      slot = λ end le. record {
        slot = slot;
        by_end = le;
        had = λ p a b. ap (λ (c : Cell). c.state.owner) (cell_of rs page p (omega (arith, a)) (omega (arith, b, last))) ∙ h.change.owner;
        now = set_slots rs ts page (page + w) new set
            ∙ restated_owner (run_slots rs) page (page + w) (cell_at rs page).state owners.to
            (λ p a b. ap (λ (c : Cell). info_from c.state.info c.offset) (cell_of rs page p (omega (arith, a)) (omega (arith, b, last)))
            ∙ ap (λ n. info_from (cell_at rs page).state.info (p - n)) start);
      };
      outside = set.outside;
    }

-- the last of n + 1 slots
last_hands : (rs ms ts : List Run) (page w : ℕ) (owners : Handover) (n : ℕ) → page + suc n * w ≤ total rs
    → GetOwner rs ms page w owners n → GetsOwner ms ts (page + n * w) w owners
    → Hands ms ts (page + n * w) (page + suc n * w) owners
last_hands rs ms ts page w owners n l before last =
    let pos = subst (λ k. 0 < k) last.wide (wide_cell ms (page + n * w)) in
    let same = get-total rs ms page w owners n before in
    let e : page + n * w + w ≡ page + suc n * w = omega arith in
    subst (λ b. Hands ms ts (page + n * w) b owners) e
    (hands ms ts (page + n * w) w owners (omega (arith, l, same, pos)) last)

fewer : (page w n : ℕ) → page + n * w ≤ page + suc n * w
fewer page w n = omega arith

one_by_one : (rs ts : List Run) (page w end : ℕ) (owners : Handover) (n : ℕ) → page + n * w ≤ end → end ≤ total rs
    → GetOwner rs ts page w owners n
    → HandsRun (run_slots rs) (run_slots ts) owners page end (record { slots = n; upto = page + n * w })
one_by_one rs ts page w end owners zero l most h = (ap run_slots h, omega arith)
one_by_one rs ts page w end owners (suc n) l most (ms, before, last) =
    let less = fewer page w n in (
      run_slots ms,
      (
        page + n * w,
        one_by_one rs ms page w end owners n (omega (arith, l, less)) most before,
        (last_hands rs ms ts page w owners n (omega (arith, l, most)) before last).slot end l,
      ),
    )

run_outside : (rs ts : List Run) (page w : ℕ) (owners : Handover) (n : ℕ) → page + n * w ≤ total rs → GetOwner rs ts page w owners n
    → (p : ℕ) → (p < page) ⊎ (page + n * w ≤ p) → cell_at ts p ≡ cell_at rs p
run_outside rs ts page w owners zero l h p o = ap (λ qs. cell_at qs p) h
run_outside rs ts page w owners (suc n) l (ms, before, last) p o =
    let less = fewer page w n in
    (last_hands rs ms ts page w owners n l before last).outside p
    (⊎_elim (λ (a : p < page). inl (omega (arith, a))) (λ (b : page + suc n * w ≤ p). inr b) o)
    ∙ run_outside rs ms page w owners n (omega (arith, l, less)) before p
    (⊎_elim (λ (a : p < page). inl a) (λ (b : page + suc n * w ≤ p). inr (omega (arith, b, less))) o)

pub run_info : (rs ts : List Run) (page w : ℕ) (owners : Handover) (n : ℕ) → page + n * w ≤ total rs → GetOwner rs ts page w owners n
    → (run_slots ts).info ≡ (run_slots rs).info
run_info rs ts page w owners zero l h = ap (λ qs. (run_slots qs).info) h
run_info rs ts page w owners (suc n) l (ms, before, last) =
    let less = fewer page w n in
    ap (λ (s : Slots). s.info) ((last_hands rs ms ts page w owners n l before last).slot (page + suc n * w) (omega arith)).now
    ∙ run_info rs ms page w owners n (omega (arith, l, less)) before

-- ---- slots of a tree

-- slots of a tree that end by the limit of the pages
pub record IsOwnedRun (v u : Parts) (page w end : ℕ) (owners : Handover) (n : ℕ) : Type 0 where
  pub radix : IsRadix v
  pub low : 1 ≤ page
  pub high : end ≤ 2 ^ 35
  pub ends : page + n * w ≤ end
  pub owned : GetOwner (runs v) (runs u) page w owners n

total_is : (v : Parts) → IsRadix v → total (runs v) ≡ 2 ^ 36
total_is v ok = ok.whole.pages_are ∙ pages_are v ok.top

by_end : (v : Parts) (end : ℕ) → IsRadix v → end ≤ 2 ^ 35 → end ≤ total (runs v)
by_end v end ok h = let e = total_is v ok in omega arith

pub owned_radix : (v u : Parts) (page w end : ℕ) (owners : Handover) (n : ℕ) → IsOwnedRun v u page w end owners n
    → u.level ≡ v.level → IsWhole u.level (512 * width_of u.level) (runs u) → IsRadix u
owned_radix v u page w end owners n h same whole =
    let e = by_end v end h.radix h.high in
    still_radix v u h.radix page (page + n * w) h.low (omega (arith, h.ends, h.high))
    (run_outside (runs v) (runs u) page w owners n (omega (arith, h.ends, e)) h.owned) same whole

pub owned_info : (v u : Parts) (page w end : ℕ) (owners : Handover) (n : ℕ) → IsOwnedRun v u page w end owners n
    → (tree_slots u).info ≡ (tree_slots v).info
owned_info v u page w end owners n h =
    let e = by_end v end h.radix h.high in
    run_info (runs v) (runs u) page w owners n (omega (arith, h.ends, e)) h.owned

pub handed_slots : (v u : Parts) (page w end : ℕ) (owners : Handover) (n : ℕ) → IsOwnedRun v u page w end owners n
    → HandsRun (tree_slots v) (tree_slots u) owners page end (record { slots = n; upto = page + n * w })
handed_slots v u page w end owners n h =
    one_by_one (runs v) (runs u) page w end owners n h.ends (by_end v end h.radix h.high) h.owned

-- ---- what that is to a core

each_so : (a b : Slots → Slots → ℕ → ℕ → Type 0) → ((s t : Slots) (first end : ℕ) → a s t first end → b s t first end)
    → (s t : Slots) (first n upto : ℕ) → OneByOne a s t first n upto → OneByOne b s t first n upto
each_so a b so s t first zero upto h = h
each_so a b so s t first (suc n) upto (m, (end, before, last)) = (m, (end, each_so a b so s m first n end before, so m t end upto last))

-- it locks free slots
pub locks : (s t : Slots) (core cursor end : ℕ) (run : SlotRun)
    → HandsRun s t (record { from = None; to = Some core }) cursor end run → LocksRun s t core cursor end run
locks s t core cursor end run = each_so _ _ (λ x y a b h. record { slot = h.slot; by_end = h.by_end; was_free = h.had; now = h.now })
    s t cursor run.slots run.upto

-- it unlocks its own
pub unlocks : (s t : Slots) (core cursor end : ℕ) (run : SlotRun)
    → HandsRun s t (record { from = Some core; to = None }) cursor end run → UnlocksRun s t core cursor end run
unlocks s t core cursor end run = each_so _ _ (λ x y a b h. record { slot = h.slot; by_end = h.by_end; was_held = h.had; now = h.now })
    s t cursor run.slots run.upto
