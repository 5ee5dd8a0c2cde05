-- What a commit makes of each held page
use Rattle.slot_lock.proofs.Words.{◌≡◌, ℕ, zero, suc, ◌+◌, ◌-◌, ◌<◌, ◌≤◌, nat_lt, ◌⊎◌, ⊎_elim, Bool, true, false, cond, List, [], ◌∷◌, ◌++◌, map, Some, refl}
use Rattle.slot_lock.proofs.Words.{sym, ap, ◌∙◌, arith, All, nat_tests, PageRange, has, advance, info_from, unused}
use Rattle.slot_lock.specs.declared.plan.Change.{Change}
use Rattle.slot_lock.specs.declared.plan.Change.TheVariants.{Put, Clear, Protect}
use Rattle.slot_lock.specs.Plan.{range_of}
use Rattle.slot_lock.specs.Changes.{changed}
use Rattle.slot_lock.proofs.ListLaws.{info_from_twice}
use Rattle.slot_lock.proofs.Changes.{prot_from, page_now, changed_page}
use Rattle.live_levels.specs.Slots.{SlotView, content_at}
use Rattle.live_levels.specs.Replay.{after, dated}
use Rattle.live_tree.specs.Held.{SideBySide, CrossesNoEdge, committed, is_inside, act_on}
use Rattle.live_tree.specs.Shown.{slot_at, shown}
use Rattle.live_tree.proofs.Committed.{committed_first, committed_count}

-- the page is one of the slot's
pub record LiesIn (s : SlotView) (page : ℕ) : Type 0 where
  pub from : s.first ≤ page
  pub until : page < s.first + s.count

pub slot_at_has : (P : SlotView → Type 0) (first end : ℕ) (ss : List SlotView) (p : ℕ) → SideBySide first end ss → All P ss → first ≤ p
    → p < end → P (slot_at ss p) × LiesIn (slot_at ss p) p
slot_at_has P first end [] p side all low high = absurd (omega (arith, side))
slot_at_has P first end (s ∷ ss) p side all low high =
    let test = nat_lt p (s.first + s.count) in
    let here : test ≡ true → P s × LiesIn s p = λ t. (all zero s (omega arith), record { from = omega (arith, side.0); until = grind (arith, nat_tests) }) in
    let there : test ≡ false → P (slot_at ss p) × LiesIn (slot_at ss p) p =
    λ t. slot_at_has P (first + s.count) end ss p side.1 (λ k d l. all (suc k) d (omega arith)) (let f = side.0 in grind (arith, nat_tests)) high in
    cases_of test (λ u. P u × LiesIn u p) s (slot_at ss p) here there
  where
    cases_of : (b : Bool) (Q : SlotView → Type 0) (u v : SlotView) → (b ≡ true → Q u) → (b ≡ false → Q v) → Q (cond b u v)
    cases_of true Q u v h k = h refl
    cases_of false Q u v h k = k refl

pub slot_at_committed : (ticket : ℕ) (change : Change) (first end : ℕ) (ss : List SlotView) (p : ℕ) → SideBySide first end ss → first ≤ p → p < end
    → slot_at (map (committed ticket change) ss) p ≡ committed ticket change (slot_at ss p)
slot_at_committed ticket change first end [] p side low high = absurd (omega (arith, side))
slot_at_committed ticket change first end (s ∷ ss) p side low high =
    let h = committed ticket change in
    let same : (h s).first + (h s).count ≡ s.first + s.count = rw (committed_first ticket change s, committed_count ticket change s) refl in
    let next : nat_lt p (s.first + s.count) ≡ false → slot_at (map h ss) p ≡ h (slot_at ss p) =
    λ t. slot_at_committed ticket change (first + s.count) end ss p side.1 (let f = side.0 in grind (arith, nat_tests)) high in
    ap (λ n. cond (nat_lt p n) (h s) (slot_at (map h ss) p)) same ∙ both (nat_lt p (s.first + s.count)) next
  where
    both : (b : Bool) → (b ≡ false → slot_at (map (committed ticket change) ss) p ≡ committed ticket change (slot_at ss p))
        → cond b (committed ticket change s) (slot_at (map (committed ticket change) ss) p) ≡ committed ticket change (cond b s (slot_at ss p))
    both true h = refl
    both false h = h refl

inside_page : (change : Change) (s : SlotView) (p : ℕ) → LiesIn s p → (range_of change).first ≤ s.first
    → info_from (after s.content (act_on change s)) (p - s.first) ≡ page_now change p (content_at s p)
inside_page (Put range meta) s p here low =
    let n : s.first - range.first + (p - s.first) ≡ p - range.first = omega (arith, here.from) in
    info_from_twice (Some (unused meta)) (s.first - range.first) (p - s.first) ∙ ap (λ m. Some (unused (advance meta m))) n
inside_page (Clear range) s p here low = refl
inside_page (Protect range prot) s p here low = prot_from prot s.content (p - s.first)

-- what is inside the range has its pages in it, and what isn't has none there
inside_has : (range : PageRange) (s : SlotView) (p : ℕ) → LiesIn s p → CrossesNoEdge range s → has range p ≡ is_inside range s
inside_has range s p here apart = let a = here.from in let b = here.until in ⊎_elim
    (λ (h : is_inside range s ≡ true). grind (arith, nat_tests))
    (λ (o : (s.first + s.count ≤ range.first) ⊎ (range.end ≤ s.first)). ⊎_elim
    (λ (h : s.first + s.count ≤ range.first). grind (arith, nat_tests))
    (λ (h : range.end ≤ s.first). grind (arith, nat_tests))
    o)
    apart

inside_low : (range : PageRange) (s : SlotView) → is_inside range s ≡ true → range.first ≤ s.first
inside_low range s h = grind (arith, nat_tests)

committed_page : (change : Change) (s : SlotView) (p : ℕ) → LiesIn s p → (b : Bool) → is_inside (range_of change) s ≡ b
    → info_from (cond b (record s { content = after s.content (act_on change s) }) s).content (p - s.first) ≡ cond b
    (page_now change p (content_at s p)) (content_at s p)
committed_page change s p here true e = inside_page change s p here (inside_low (range_of change) s e)
committed_page change s p here false e = refl

content_of : (ticket : ℕ) (change : Change) (s : SlotView) (p : ℕ) → (b : Bool)
    → content_at
    (cond b (record s {
      content = after s.content (act_on change s);
      changes = s.changes ++ dated ticket (act_on change s) ∷ [];
      room = s.room - 1;
    }) s) p
    ≡ info_from (cond b (record s { content = after s.content (act_on change s) }) s).content (p - s.first)
content_of ticket change s p true = refl
content_of ticket change s p false = refl

pub pages_committed : (ticket : ℕ) (change : Change) (first end : ℕ) (ss : List SlotView) → SideBySide first end ss → All (CrossesNoEdge (range_of change)) ss
    → (p : ℕ) → first ≤ p → p < end → (shown (map (committed ticket change) ss)).info p ≡ (changed (shown ss) change).info p
pages_committed ticket change first end ss side edges p low high =
    let range = range_of change in
    let s = slot_at ss p in
    let found = slot_at_has (CrossesNoEdge range) first end ss p side edges low high in
    ap (λ u. content_at u p) (slot_at_committed ticket change first end ss p side low high)
    ∙ (content_of ticket change s p (is_inside range s)
    ∙ (committed_page change s p found.1 (is_inside range s) refl
    ∙ (ap (λ b. cond b (page_now change p (content_at s p)) (content_at s p)) (sym (inside_has range s p found.1 found.0)) ∙ sym (changed_page change
    (shown ss) p))))
