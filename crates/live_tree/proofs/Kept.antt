-- A cut leaves each page what it had
use Rattle.slot_lock.proofs.Words.{◌≡◌, ℕ, zero, suc, ◌+◌, ◌-◌, ◌<◌, ◌≤◌, ◌⊎◌, inl, inr, nat_lt, nat_tests, Bool, true, false, cond, List, [], ◌∷◌}
use Rattle.slot_lock.proofs.Words.{◌++◌, length, All, PageRange}
use Rattle.slot_lock.proofs.Words.{Option, IsSome, MutexGuard, map, refl, sym, ap, ◌∙◌, subst, arith, info_from}
use Rattle.slot_lock.proofs.ListLaws.{info_from_twice}
use Rattle.std.proofs.lemmas.List.{append_assoc}
use Rattle.live_levels.specs.Slots.{SlotView, content_at}
use Rattle.live_tree.specs.Cutting.{CutsAt, CutsFirst, CutsNext, IsCutInto, IsFirstCrossing, IsPartOf}
use Rattle.live_tree.specs.Guards.{slot_of}
use Rattle.live_tree.specs.Held.{AreAlike, HeldView, SideBySide, without_room}
use Rattle.live_tree.specs.Shown.{KeepsPages, slot_at}
use Rattle.live_tree.specs.declared.held.cut.Cutting.{Cutting}
use Rattle.live_tree.specs.declared.held.cut.Cutting.TheVariants.{Cut, Fits, Unseen, NoMemory, Lost}
use Rattle.live_tree.proofs.Cuts.{cuts_parts, parts_held}

by_cases : (b : Bool) (P : Bool → Type 0) → (b ≡ true → P true) → (b ≡ false → P false) → P b
by_cases true P h k = h refl
by_cases false P h k = k refl

-- behind the same slots
behind : (left xs ys : List SlotView) → ((p : ℕ) → content_at (slot_at xs p) p ≡ content_at (slot_at ys p) p)
    → (p : ℕ) → content_at (slot_at (left ++ xs) p) p ≡ content_at (slot_at (left ++ ys) p) p
behind [] xs ys same p = same p
behind (s ∷ ss) xs ys same p = by_cases (nat_lt p (s.first + s.count))
    (λ b. content_at (cond b s (slot_at (ss ++ xs) p)) p ≡ content_at (cond b s (slot_at (ss ++ ys) p)) p)
    (λ _. refl) (λ _. behind ss xs ys same p)

-- a page of one part
in_part : (core : ℕ) (s q : SlotView) (p : ℕ) → IsPartOf core s.first s.content q → (q.first ≤ p) ⊎ (q.first ≡ s.first)
    → content_at q p ≡ content_at s p
in_part core s q p h at =
    ap (λ o. info_from o (p - q.first)) h.carried
    ∙ (info_from_twice s.content (q.first - s.first) (p - q.first) ∙ ap (info_from s.content) (by at))
  where
    by : (q.first ≤ p) ⊎ (q.first ≡ s.first) → q.first - s.first + (p - q.first) ≡ p - s.first
    by (inl le) = let from = h.from in omega (arith, le, from)
    by (inr same) = omega (arith, same)

reach : (first end : ℕ) (ss : List SlotView) → SideBySide first end ss → first ≤ end
reach first end [] h = omega (arith, h)
reach first end (s ∷ ss) h = let r = reach (first + s.count) end ss h.1 in omega (arith, r)

-- the first part has the page, or those behind it
one_part : (core : ℕ) (s : SlotView) (first end : ℕ) (q : SlotView) (qs right : List SlotView) (p : ℕ) → SideBySide first end (q ∷ qs)
    → All (IsPartOf core s.first s.content) (q ∷ qs) → (q.first ≤ p) ⊎ (q.first ≡ s.first)
    → (nat_lt p (q.first + q.count) ≡ false → content_at (slot_at (qs ++ right) p) p ≡ content_at (cond (nat_lt p end) s (slot_at right p)) p)
    → content_at (slot_at (q ∷ qs ++ right) p) p ≡ content_at (cond (nat_lt p end) s (slot_at right p)) p
one_part core s first end q qs right p side each at rest =
    let most = reach (first + q.count) end qs side.1 in
    let begins = side.0 in
    by_cases (nat_lt p (q.first + q.count))
    (λ b. content_at (cond b q (slot_at (qs ++ right) p)) p ≡ content_at (cond (nat_lt p end) s (slot_at right p)) p)
    (λ t. let within : nat_lt p end ≡ true = grind (arith, nat_tests) in
    in_part core s q p (each zero q (omega arith)) at ∙ ap (λ b. content_at (cond b s (slot_at right p)) p) (sym within))
    rest

-- the parts behind the first have the page, or none has it
in_parts : (core : ℕ) (s : SlotView) (first end : ℕ) (parts right : List SlotView) (p : ℕ) → SideBySide first end parts
    → All (IsPartOf core s.first s.content) parts → first ≤ p
    → content_at (slot_at (parts ++ right) p) p ≡ content_at (cond (nat_lt p end) s (slot_at right p)) p
in_parts core s first end [] right p side each le =
    let past : nat_lt p end ≡ false = grind (arith, nat_tests) in
    ap (λ b. content_at (cond b s (slot_at right p)) p) (sym past)
in_parts core s first end (q ∷ qs) right p side each le =
    let begins = side.0 in
    one_part core s first end q qs right p side each (inl (omega (arith, begins, le)))
    (λ t. in_parts core s (first + q.count) end qs right p side.1 (λ k d l. each (suc k) d (omega arith)) (grind (arith, nat_tests)))

cut_pages : (core : ℕ) (s : SlotView) (parts right : List SlotView) (p : ℕ) → IsCutInto core s parts
    → content_at (slot_at (parts ++ right) p) p ≡ content_at (slot_at (s ∷ right) p) p
cut_pages core s [] right p h = absurd (omega (arith, h.count))
cut_pages core s (q ∷ qs) right p h =
    let begins = h.pages.0 in
    one_part core s s.first (s.first + s.count) q qs right p h.pages h.each (inr begins)
    (λ t. in_parts core s (s.first + q.count) (s.first + s.count) qs right p h.pages.1 (λ k d l. h.each (suc k) d (omega arith)) (grind (arith, nat_tests)))

pub cut_keeps : (core : ℕ) (range : PageRange) (h k : HeldView) → CutsFirst core range h k → KeepsPages h k
cut_keeps core range h k cut p =
    let seen : List SlotView → _ = λ ss. content_at (slot_at ss p) p in
    ap (λ (v : HeldView). seen v.slots) cut.after
    ∙ (ap seen (append_assoc cut.left cut.parts cut.right)
    ∙ (behind cut.left (cut.parts ++ cut.right) (cut.slot ∷ cut.right) (λ n. cut_pages core cut.slot cut.parts cut.right n cut.cut) p
    ∙ ap seen (sym cut.before)))

-- ---- the whole step, from what became of the guards

abbrev view : ℕ → ℕ → List (Option (MutexGuard SlotView)) → HeldView
view first end gs = record { first = first; end = end; slots = map slot_of gs }

abbrev AreHeld : ℕ → ℕ → List (Option (MutexGuard SlotView)) → Type 0
AreHeld first end gs = All IsSome gs × SideBySide first end (map slot_of gs)

cuts_so : {S : Type 0} (stepped : S → ℕ → S → Type 0) (before now : S) (core : ℕ) (range : PageRange) (first end at : ℕ)
    (gs ks : List (Option (MutexGuard SlotView))) (cutting : Cutting) → IsFirstCrossing range (map slot_of gs) at
    → CutsAt stepped before now gs ks core at cutting → CutsNext stepped before now (view first end gs) (view first end ks) core range cutting
cuts_so stepped before now core range first end at gs ks Cut h cuts = (cuts.0, cuts_parts core range first end gs ks at h cuts.1)
cuts_so stepped before now core range first end at gs ks Fits h cuts = absurd cuts
cuts_so stepped before now core range first end at gs ks Unseen h cuts = (cuts.0, ap (view first end) cuts.1)
cuts_so stepped before now core range first end at gs ks NoMemory h cuts = (cuts.0, ap (view first end) cuts.1)
cuts_so stepped before now core range first end at gs ks Lost h cuts = (cuts.0, ap (view first end) cuts.1)

pub held_next : {S : Type 0} (stepped : S → ℕ → S → Type 0) (before now : S) (core : ℕ) (range : PageRange) (first end at : ℕ)
    (gs ks : List (Option (MutexGuard SlotView))) (cutting : Cutting) → IsFirstCrossing range (map slot_of gs) at
    → CutsAt stepped before now gs ks core at cutting → AreHeld first end gs → AreHeld first end ks
held_next stepped before now core range first end at gs ks Cut h cuts held = parts_held core range first end gs ks at h cuts.1 held
held_next stepped before now core range first end at gs ks Fits h cuts held = absurd cuts
held_next stepped before now core range first end at gs ks Unseen h cuts held = subst (AreHeld first end) (sym cuts.1) held
held_next stepped before now core range first end at gs ks NoMemory h cuts held = subst (AreHeld first end) (sym cuts.1) held
held_next stepped before now core range first end at gs ks Lost h cuts held = subst (AreHeld first end) (sym cuts.1) held

stays : (first end : ℕ) (gs ks : List (Option (MutexGuard SlotView))) → ks ≡ gs → KeepsPages (view first end gs) (view first end ks)
stays first end gs ks is p = ap (λ (l : List (Option (MutexGuard SlotView))). content_at (slot_at (map slot_of l) p) p) is

keeps_so : {S : Type 0} (stepped : S → ℕ → S → Type 0) (before now : S) (core : ℕ) (range : PageRange) (first end at : ℕ)
    (gs ks : List (Option (MutexGuard SlotView))) (cutting : Cutting) → IsFirstCrossing range (map slot_of gs) at
    → CutsAt stepped before now gs ks core at cutting → KeepsPages (view first end gs) (view first end ks)
keeps_so stepped before now core range first end at gs ks Cut h cuts = cut_keeps core range _ _ (cuts_parts core range first end gs ks at h cuts.1)
keeps_so stepped before now core range first end at gs ks Fits h cuts = absurd cuts
keeps_so stepped before now core range first end at gs ks Unseen h cuts = stays first end gs ks cuts.1
keeps_so stepped before now core range first end at gs ks NoMemory h cuts = stays first end gs ks cuts.1
keeps_so stepped before now core range first end at gs ks Lost h cuts = stays first end gs ks cuts.1

pub cuts_next : {S : Type 0} (stepped : S → ℕ → S → Type 0) (before now : S) (core : ℕ) (range : PageRange) (first end at : ℕ)
    (gs ks : List (Option (MutexGuard SlotView))) (cutting : Cutting) (h : HeldView) → view first end gs ≡ h → IsFirstCrossing range (map slot_of gs) at
    → CutsAt stepped before now gs ks core at cutting → CutsNext stepped before now h (view first end ks) core range cutting
cuts_next stepped before now core range first end at gs ks cutting h is crossing cuts =
    subst (λ (v : HeldView). CutsNext stepped before now v (view first end ks) core range cutting) is
    (cuts_so stepped before now core range first end at gs ks cutting crossing cuts)

pub keeps_next : {S : Type 0} (stepped : S → ℕ → S → Type 0) (before now : S) (core : ℕ) (range : PageRange) (first end at : ℕ)
    (gs ks : List (Option (MutexGuard SlotView))) (cutting : Cutting) (h : HeldView) → view first end gs ≡ h → IsFirstCrossing range (map slot_of gs) at
    → CutsAt stepped before now gs ks core at cutting → KeepsPages h (view first end ks)
keeps_next stepped before now core range first end at gs ks cutting h is crossing cuts =
    subst (λ (v : HeldView). KeepsPages v (view first end ks)) is
    (keeps_so stepped before now core range first end at gs ks cutting crossing cuts)

-- ---- room in histories changes no page

bare_page : (ss : List SlotView) (p : ℕ) → content_at (slot_at (map without_room ss) p) p ≡ content_at (slot_at ss p) p
bare_page [] p = refl
bare_page (s ∷ ss) p = by_cases (nat_lt p (s.first + s.count))
    (λ b. content_at (cond b (without_room s) (slot_at (map without_room ss) p)) p ≡ content_at (cond b s (slot_at ss p)) p)
    (λ _. refl) (λ _. bare_page ss p)

pub alike_keeps : (h k : HeldView) → AreAlike k.slots h.slots → KeepsPages h k
alike_keeps h k same p =
    sym (bare_page k.slots p) ∙ (ap (λ (ss : List SlotView). content_at (slot_at ss p) p) same ∙ bare_page h.slots p)

pub keeps_trans : (h j k : HeldView) → KeepsPages h j → KeepsPages j k → KeepsPages h k
keeps_trans h j k one other p = other p ∙ one p
