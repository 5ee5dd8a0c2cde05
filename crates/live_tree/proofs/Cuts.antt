-- Locked slots that come in the place of one
use Rattle.slot_lock.proofs.Words.{◌≡◌, ℕ, suc, ◌+◌, ◌<◌, ◌≤◌, List, [], ◌∷◌, ◌++◌, map, length, take, drop, get_or, Option, Some, refl, sym, ap, ◌∙◌}
use Rattle.slot_lock.proofs.Words.{subst, arith}
use Rattle.slot_lock.proofs.Words.{All, IsSome, remove, mutex_guard_value, MutexGuard, length-append, map-append, take_all, take_more, get_or-map, length-map}
use Rattle.slot_lock.proofs.Words.{All-append, PageInfo, PageRange, get_or_default}
use Rattle.std.specs.List.{insert_slice}
use Rattle.std.proofs.Math.Seq.{drop-append-add, split_at, take-append_seam}
use Rattle.std.proofs.lemmas.List.{append_assoc, drop-drop, get_or-append-add, get_or-drop, drop-map, length-take-le, take-map}
use Rattle.std.proofs.lemmas.List.Elements.{All-drop, All-take}
use Rattle.live_levels.specs.Slots.{SlotView}
use Rattle.live_tree.specs.Cutting.{AddsSlots, CutsFirst, IsCutInto, IsFirstCrossing, IsPartOf, PutsParts}
use Rattle.live_tree.specs.Guards.{no_slot, slot_of}
use Rattle.live_tree.specs.Held.{CrossesNoEdge, SideBySide}
use Rattle.live_tree.proofs.Pushed.{all_more, all_of_one, map_more, side_by_side_more}

-- ---- one locked slot more

pub adds_more : (core first : ℕ) (content : Option PageInfo) (next end n : ℕ) (gs hs hs' : List (Option (MutexGuard SlotView))) (g : MutexGuard SlotView)
    → AddsSlots core first content next n gs hs → hs' ≡ hs ++ Some g ∷ []
    → (mutex_guard_value g).first ≡ next → end ≡ next + (mutex_guard_value g).count → IsPartOf core first content (mutex_guard_value g)
    → AddsSlots core first content end (n + 1) gs hs'
adds_more core first content next end n gs hs hs' g h is at ends part = record {
  more = h.more ++ Some g ∷ [];
  are = is ∙ (ap (λ l. l ++ Some g ∷ []) h.are ∙ append_assoc gs h.more (Some g ∷ []));
  count = omega (arith, length-append h.more (Some g ∷ []), h.count);
  some = all_more h.more g h.some;
  chain = rw (map_more h.more g) (side_by_side_more first next end (map slot_of h.more) (mutex_guard_value g) h.chain at ends);
  each = rw (map_more h.more g) (All-append (IsPartOf core first content) (map slot_of h.more) (mutex_guard_value g ∷ []) h.each
      (all_of_one (IsPartOf core first content) (mutex_guard_value g) part));
}

-- ---- the first slot that crosses an edge

get_map : (gs : List (Option (MutexGuard SlotView))) (at : ℕ) (d : SlotView) (g : Option (MutexGuard SlotView)) → at < length gs
    → g ≡ get_or gs at g → get_or (map slot_of gs) at d ≡ slot_of g
get_map gs at d g lt is = get_or-map slot_of gs at g d lt ∙ ap slot_of (sym is)

-- ---- a fact of the first slots, and of one more

pub one_more_holds : (P : SlotView → Type 0) (gs : List (Option (MutexGuard SlotView))) (at : ℕ) (g : Option (MutexGuard SlotView)) → at < length gs
    → g ≡ get_or gs at g → All P (take at (map slot_of gs)) → P (slot_of g) → All P (take (at + 1) (map slot_of gs))
one_more_holds P gs at g lt is h one =
    let ss = map slot_of gs in
    let last : P (get_or ss at (slot_of g)) = rw (get_map gs at (slot_of g) g lt is) one in
    rw (take_more ss at (slot_of g) (omega (arith, length-map gs slot_of, lt)))
    (All-append P (take at ss) (get_or ss at (slot_of g) ∷ []) h (all_of_one P (get_or ss at (slot_of g)) last))

pub all_hold : (P : SlotView → Type 0) (gs : List (Option (MutexGuard SlotView))) (at : ℕ) → length gs ≤ at
    → All P (take at (map slot_of gs)) → All P (map slot_of gs)
all_hold P gs at le h = subst (All P) (take_all at (map slot_of gs) (omega (arith, length-map gs slot_of, le))) h

pub each_holds : (P : SlotView → Type 0) (gs : List (Option (MutexGuard SlotView))) (at : ℕ) (g : Option (MutexGuard SlotView)) → at < length gs
    → g ≡ get_or gs at g → All P (map slot_of gs) → P (slot_of g)
each_holds P gs at g lt is all = subst P (get_map gs at (slot_of g) g lt is) (all at (slot_of g) (omega (arith, length-map gs slot_of, lt)))

-- where a slot crosses an edge, not all fit
pub not_all_fit : (range : PageRange) (ss : List SlotView) (at : ℕ) → IsFirstCrossing range ss at → ¬ All (CrossesNoEdge range) ss
not_all_fit range ss at h all = h.crosses no_slot (all at no_slot h.within)

-- ---- in the place of one

pub in_place : {X : Type 0} (gs more : List X) (at n : ℕ) → at < length gs → n ≡ at + length more
    → remove (insert_slice gs at more) n ≡ take at gs ++ (more ++ drop (at + 1) gs)
in_place gs more at n lt is =
    let front = take at gs ++ more in
    let len : n ≡ length front = omega (arith, length-append (take at gs) more, length-take-le at gs (omega arith), is) in
    let one : suc (length front) ≡ length front + 1 = omega arith in
    let rest : drop (length front + 1) (front ++ drop at gs) ≡ drop (at + 1) gs = drop-append-add front (drop at gs) 1 ∙ drop-drop 1 at gs in
    ap (λ m. take m (front ++ drop at gs) ++ drop (suc m) (front ++ drop at gs)) len
    ∙ (ap (λ l. l ++ drop (suc (length front)) (front ++ drop at gs)) (take-append_seam front (drop at gs))
    ∙ (ap (λ m. front ++ drop m (front ++ drop at gs)) one ∙ (ap (λ l. front ++ l) rest ∙ append_assoc (take at gs) more (drop (at + 1) gs))))

-- the one that comes after them then
pub in_place_item : {X : Type 0} (gs more : List X) (at n : ℕ) (d : X) → at < length gs → n ≡ at + length more
    → get_or (insert_slice gs at more) n d ≡ get_or gs at d
in_place_item gs more at n d lt is =
    let front = take at gs ++ more in
    let len : n ≡ length front + 0 = omega (arith, length-append (take at gs) more, length-take-le at gs (omega arith), is) in
    let here : at + 0 ≡ at = omega arith in
    ap (λ k. get_or (front ++ drop at gs) k d) len
    ∙ (get_or-append-add front (drop at gs) 0 d ∙ (get_or-drop at gs 0 d ∙ ap (λ k. get_or gs k d) here))

-- the slots, cut before one of them
pub side_split : (first end : ℕ) (xs : List SlotView) (s : SlotView) (ys : List SlotView) → SideBySide first end (xs ++ s ∷ ys)
    → SideBySide first s.first xs × SideBySide (s.first + s.count) end ys
side_split first end [] s ys h = (sym h.0, subst (λ (n : ℕ). SideBySide (n + s.count) end ys) (sym h.0) h.1)
side_split first end (x ∷ xs) s ys h = let r = side_split (first + x.count) end xs s ys h.1 in ((h.0, r.0), r.1)

side_append : (first mid end : ℕ) (xs ys : List SlotView) → SideBySide first mid xs → SideBySide mid end ys → SideBySide first end (xs ++ ys)
side_append first mid end [] ys h k = subst (λ (n : ℕ). SideBySide n end ys) (sym h) k
side_append first mid end (x ∷ xs) ys h k = (h.0, side_append (first + x.count) mid end xs ys h.1 k)

-- what the guards show once 512 came in the place of one
map_parts : (gs more : List (Option (MutexGuard SlotView))) (at : ℕ) → map slot_of (take at gs ++ (more ++ drop (at + 1) gs)) ≡ take at
    (map slot_of gs) ++ map slot_of more ++ drop (at + 1) (map slot_of gs)
map_parts gs more at =
    map-append slot_of (take at gs) (more ++ drop (at + 1) gs)
    ∙ (ap (λ l. map slot_of (take at gs) ++ l) (map-append slot_of more (drop (at + 1) gs))
    ∙ (sym (append_assoc (map slot_of (take at gs)) (map slot_of more) (map slot_of (drop (at + 1) gs)))
    ∙ (ap (λ l. l ++ map slot_of more ++ map slot_of (drop (at + 1) gs)) (sym (take-map slot_of at gs))
    ∙ ap (λ l. take at (map slot_of gs) ++ map slot_of more ++ l) (sym (drop-map slot_of (at + 1) gs)))))

cut_at : (ss : List SlotView) (at : ℕ) → at < length ss → ss ≡ take at ss ++ get_or ss at no_slot ∷ drop (at + 1) ss
cut_at ss at lt =
    let one : suc at ≡ at + 1 = omega arith in
    split_at ss at no_slot lt ∙ ap (λ n. take at ss ++ get_or ss at no_slot ∷ drop n ss) one

still_held : (first end : ℕ) (gs hs more : List (Option (MutexGuard SlotView))) (at : ℕ) (s : SlotView) → at < length (map slot_of gs)
    → s ≡ get_or (map slot_of gs) at no_slot
    → hs ≡ take at gs ++ (more ++ drop (at + 1) gs) → SideBySide s.first (s.first + s.count) (map slot_of more) → All IsSome more
    → All IsSome gs × SideBySide first end (map slot_of gs) → All IsSome hs × SideBySide first end (map slot_of hs)
still_held first end gs hs more at s lt here is pages some held =
    let ss = map slot_of gs in
    let at_slot : ss ≡ take at ss ++ s ∷ drop (at + 1) ss = cut_at ss at lt ∙ ap (λ x. take at ss ++ x ∷ drop (at + 1) ss) (sym here) in
    let apart = side_split first end (take at ss) s (drop (at + 1) ss) (subst (SideBySide first end) at_slot held.1) in
    let left = side_append first s.first (s.first + s.count) (take at ss) (map slot_of more) apart.0 pages in
    let all = side_append first (s.first + s.count) end (take at ss ++ map slot_of more) (drop (at + 1) ss) left apart.1 in
    rw is (
      All-append IsSome (take at gs) (more ++ drop (at + 1) gs) (All-take IsSome at gs held.0)
          (All-append IsSome more (drop (at + 1) gs) some (All-drop IsSome (at + 1) gs held.0)),
      rw (map_parts gs more at) all,
    )

-- ---- the whole step, from what its parts tell

-- the guard that a place has, whatever stands in for it past the end
pub item_at : (gs : List (Option (MutexGuard SlotView))) (at : ℕ) (x : Option (MutexGuard SlotView)) (slot : MutexGuard SlotView) → at < length gs
    → Some slot ≡ get_or gs at (Some slot) → x ≡ get_or gs at x → x ≡ Some slot
item_at gs at x slot lt item is = is ∙ (get_or_default gs at x (Some slot) lt ∙ sym item)

pub parts_put : (core at from until next n : ℕ) (content : Option PageInfo) (gs hs ks : List (Option (MutexGuard SlotView))) (slot : MutexGuard SlotView)
    → at < length gs → Some slot ≡ get_or gs at (Some slot) → from ≡ (mutex_guard_value slot).first
    → until ≡ (mutex_guard_value slot).first + (mutex_guard_value slot).count → content ≡ (mutex_guard_value slot).content
    → AddsSlots core from content next n gs hs → (n ≡ 512) × (next ≡ until)
    → ((fs more : List (Option (MutexGuard SlotView))) → hs ≡ fs ++ more → length more ≡ 512 → ks ≡ take at fs ++ (more ++ drop (at + 1) fs))
    → PutsParts core at gs ks
parts_put core at from until next n content gs hs ks slot lt item begins ends has added done placed =
    let s = mutex_guard_value slot in
    let here : s ≡ get_or (map slot_of gs) at no_slot = sym (get_map gs at no_slot (Some slot) lt item) in
    let count : length added.more ≡ 512 = added.count ∙ done.0 in
    let last : next ≡ s.first + s.count = done.1 ∙ ends in
    let pages : SideBySide s.first (s.first + s.count) (map slot_of added.more) =
    subst (λ (k : ℕ). SideBySide k (s.first + s.count) (map slot_of added.more)) begins
    (subst (λ (k : ℕ). SideBySide from k (map slot_of added.more)) last added.chain) in
    let each : All (IsPartOf core s.first s.content) (map slot_of added.more) =
    subst (λ (k : ℕ). All (IsPartOf core k s.content) (map slot_of added.more)) begins
    (subst (λ (o : Option PageInfo). All (IsPartOf core from o) (map slot_of added.more)) has added.each) in
    let cut : IsCutInto core s (map slot_of added.more) = record { count = length-map added.more slot_of ∙ count; pages = pages; each = each } in record {
      more = added.more;
      are = placed gs added.more added.are count;
      some = added.some;
      cut = subst (λ (u : SlotView). IsCutInto core u (map slot_of added.more)) here cut;
    }

pub cuts_parts : (core : ℕ) (range : PageRange) (first end : ℕ) (gs ks : List (Option (MutexGuard SlotView))) (at : ℕ)
    → IsFirstCrossing range (map slot_of gs) at → PutsParts core at gs ks
    → CutsFirst core range (record { first = first; end = end; slots = map slot_of gs }) (record { first = first; end = end; slots = map slot_of ks })
cuts_parts core range first end gs ks at h put = let ss = map slot_of gs in record {
  left = take at ss;
  slot = get_or ss at no_slot;
  right = drop (at + 1) ss;
  parts = map slot_of put.more;
  before = cut_at ss at h.within;
  after = ap (λ l. record { first = first; end = end; slots = map slot_of l }) put.are
      ∙ ap (λ l. record { first = first; end = end; slots = l }) (map_parts gs put.more at);
  fits = h.before;
  crosses = h.crosses no_slot;
  cut = put.cut;
}

pub parts_held : (core : ℕ) (range : PageRange) (first end : ℕ) (gs ks : List (Option (MutexGuard SlotView))) (at : ℕ)
    → IsFirstCrossing range (map slot_of gs) at → PutsParts core at gs ks
    → All IsSome gs × SideBySide first end (map slot_of gs) → All IsSome ks × SideBySide first end (map slot_of ks)
parts_held core range first end gs ks at h put held =
    still_held first end gs ks put.more at (get_or (map slot_of gs) at no_slot) h.within refl put.are put.cut.pages put.some held
