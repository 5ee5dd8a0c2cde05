-- What the machine's code learns while a change counts down the frames of its pages, one after another
use Rattle.machine_model.proofs.Words.{◌≡◌, ℕ, zero, suc, ◌≤◌, ◌<◌, ◌+◌, ◌-◌, ◌^◌, false, cond, refl, sym, ap, subst, arith, ◌∙◌, pos, ◌<ℤ◌, Some, None}
use Rattle.machine_model.proofs.Words.{Option, nat_tests, PageInfo, over, has, frame_of, pages_from, Counts, true_count, Takes, Dec, CountsOne, World}
use Rattle.machine_model.specs.Counting.{CountsDown}
use Rattle.machine_model.specs.Orderly.{IsOrderly}
use Rattle.machine_model.specs.Counted.{IsCountedState, one_if}
use Rattle.machine_model.proofs.CountsKept.{framed_page}
use Rattle.machine_model.proofs.Pages.{counts_some, range_down}

-- core c has counted down the frames of the pages from first up to a page
abbrev pub CountsUpTo : ℕ → (ℕ → Option ℕ) → ℕ → ℕ → Counts → Counts → Type 0
CountsUpTo c frame first page v w = CountsDown c frame first (page - first) v w

one_more : (c : ℕ) (frame : ℕ → Option ℕ) (first k : ℕ) (v m w : Counts) → CountsDown c frame first k v m
    → CountsOne c (frame (first + k)) m w → CountsDown c frame first (suc k) v w
unfolding CountsDown
one_more c frame first zero v m w d s =
    let e : first + zero ≡ first = omega arith in
    (w, subst (λ x. CountsOne c (frame first) x w) d (subst (λ p. CountsOne c (frame p) m w) e s), refl)
one_more c frame first (suc k) v m w d s =
    let e : first + suc k ≡ suc first + k = omega arith in
    (d.0, d.1, one_more c frame (suc first) k d.0 m w d.2 (subst (λ p. CountsOne c (frame p) m w) e s))

none_more : (c : ℕ) (frame : ℕ → Option ℕ) (first k j : ℕ) (v w : Counts) → CountsDown c frame first k v w
    → ((p : ℕ) → first + k ≤ p → p < first + k + j → frame p ≡ None) → CountsDown c frame first (k + j) v w
none_more c frame first k zero v w d none =
    let e : k ≡ k + zero = omega arith in
    subst (λ n. CountsDown c frame first n v w) e d
none_more c frame first k (suc j) v w d none =
    let e : suc (k + j) ≡ k + suc j = omega arith in
    let last : frame (first + (k + j)) ≡ None = none (first + (k + j)) (omega arith) (omega arith) in
    subst (λ n. CountsDown c frame first n v w) e
    (one_more c frame first (k + j) v w w (none_more c frame first k j v w d (λ p l m. none p l (omega (arith, m))))
    (subst (λ o. CountsOne c o w w) (sym last) refl))

-- none counted down at first
pub counts_from : (c : ℕ) (frame : ℕ → Option ℕ) (first : ℕ) (v : Counts) → CountsUpTo c frame first first v v
unfolding CountsDown
counts_from c frame first v =
    let e : zero ≡ first - first = omega arith in
    subst (λ n. CountsDown c frame first n v v) e refl

-- pages without a frame are passed over
pub counts_past : (c : ℕ) (frame : ℕ → Option ℕ) (first from page : ℕ) (v w : Counts) → first ≤ from → from ≤ page
    → ((p : ℕ) → from ≤ p → p < page → frame p ≡ None) → CountsUpTo c frame first from v w
    → CountsUpTo c frame first page v w
counts_past c frame first from page v w le ge none d =
    let e : (from - first) + (page - from) ≡ page - first = omega (arith, le, ge) in
    subst (λ n. CountsDown c frame first n v w) e
    (none_more c frame first (from - first) (page - from) v w d
    (λ p l m. none p (omega (arith, l, le, ge)) (omega (arith, m, le, ge))))

-- a page's frame is counted down
pub counts_next : (c : ℕ) (frame : ℕ → Option ℕ) (first page f : ℕ) (v m w : Counts) → first ≤ page → frame page ≡ Some f
    → Takes m (Dec c f) w → CountsUpTo c frame first page v m → CountsUpTo c frame first (page + 1) v w
counts_next c frame first page f v m w le some t d =
    let at : page ≡ first + (page - first) = omega (arith, le) in
    let e : suc (page - first) ≡ page + 1 - first = omega (arith, le) in
    subst (λ n. CountsDown c frame first n v w) e
    (one_more c frame first (page - first) v m w d
    (subst (λ o. CountsOne c o m w) (sym (ap frame (sym at) ∙ some)) t))

-- the frame of a page that isn't reached yet is still counted
pub counted_still : (w : World) → IsOrderly w → IsCountedState w → (c first page : ℕ) (v : Counts) → first ≤ page
    → CountsUpTo c (λ p. frame_of (w.slots.info p)) first page w.memory.counts v → (f p : ℕ) → page ≤ p
    → frame_of (w.slots.info p) ≡ Some f → pos 0 <ℤ true_count v f
counted_still w g k c first page v le d f p ge e =
    counts_some v (λ f. one_if (k.page_in f)) left f p (2 ^ 35) below
    (range_down c (λ p. frame_of (w.slots.info p)) first (page - first) w.memory.counts v (λ f. one_if (k.page_in f)) w.slots.info left (2 ^ 35) d
    (omega (arith, le, ge, below)) (λ p _. refl)
    (record {
      gone = λ q i. ap (λ b. frame_of (cond b None (w.slots.info q))) i;
      others = λ q i. ap (λ b. frame_of (cond b None (w.slots.info q))) i;
    })
    k.users)
    (ap (λ b. frame_of (cond b None (w.slots.info p))) (past p ge) ∙ e)
  where
    below : p < 2 ^ 35
    below = framed_page w g f p e

    -- what the pages have left
    left : ℕ → Option PageInfo
    left = over w.slots.info (has (pages_from first (page - first))) None

    past : (q : ℕ) → page ≤ q → has (pages_from first (page - first)) q ≡ false
    past q ge = grind (arith, nat_tests)
