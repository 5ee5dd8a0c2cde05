-- How many pages have a frame, and true counts that are those numbers
use Rattle.machine_model.proofs.Words.{◌≡◌, ◌≢◌, ℕ, zero, suc, ◌≤◌, ◌<◌, ◌+◌, Bool, true, false, cond, ◌==◌, refl, sym, ap, subst, arith, ◌∙◌, pos, ◌+ℤ◌, ◌<ℤ◌}
use Rattle.machine_model.proofs.Words.{Some, None, Option, if◌then◌else◌, nat_tests, ints, PageInfo, put, has, PageRange, frame_of, pages_from, by_test}
use Rattle.machine_model.proofs.Words.{put_same, put_other, put_all, Counts, true_count, Begin, Dec, Takes, IsUnused, CountStep, true_counts_move, steps_reach}
use Rattle.machine_model.proofs.Words.{CountsOne}
use Rattle.std.proofs.Common.{negsuc}
use Rattle.refcache.specs.Laws.{change}
use Rattle.refcache.specs.Sound.{AreReached}
use Rattle.refcache.proofs.Unused.{unused_stays}
use Rattle.machine_model.specs.Counting.{CountsDown}
use Rattle.machine_model.specs.Counted.{is_frame, pages_with}

-- ---- numbers of pages

-- 1 if what has this has the frame
abbrev pub one : Option ℕ → ℕ → ℕ
one frame f = if is_frame frame f then 1 else 0

-- only the frames of the pages below n are looked at
pub pages_same : (g h : ℕ → Option PageInfo) (f n : ℕ) → ((p : ℕ) → p < n → frame_of (g p) ≡ frame_of (h p))
    → pages_with g f n ≡ pages_with h f n
unfolding pages_with
pages_same g h f zero e = refl
pages_same g h f (suc n) e =
    let a : one (frame_of (g n)) f ≡ one (frame_of (h n)) f = ap (λ o. one o f) (e n (omega arith)) in
    let b : pages_with g f n ≡ pages_with h f n = pages_same g h f n (λ p lt. e p (omega (arith, lt))) in
    omega (arith, a, b)

-- one page changes: what it had goes out, and what it has comes in
pub pages_put : (g : ℕ → Option PageInfo) (p f : ℕ) (new : Option PageInfo) (n : ℕ) → p < n
    → pages_with (put g p new) f n + one (frame_of (g p)) f ≡ pages_with g f n + one (frame_of new) f
unfolding pages_with
pages_put g p f new zero h = absurd (omega arith)
pages_put g p f new (suc n) h = go (λ lt. pages_put g p f new n lt) (n == p) refl
  where
    go : (p < n → pages_with (put g p new) f n + one (frame_of (g p)) f ≡ pages_with g f n + one (frame_of new) f)
        → (b : Bool) → (n == p) ≡ b
        → pages_with (put g p new) f (suc n) + one (frame_of (g p)) f ≡ pages_with g f (suc n) + one (frame_of new) f
    go ih true e =
        let k : n ≡ p = grind (arith, nat_tests) in
        let a : pages_with (put g p new) f n ≡ pages_with g f n =
        pages_same (put g p new) g f n (λ q lt. ap frame_of (put_other g p new q (omega (arith, lt, k)))) in
        let b : one (frame_of (put g p new n)) f ≡ one (frame_of new) f =
        ap (λ o. one (frame_of o) f) (ap (put g p new) k ∙ put_same g p new) in
        let c : one (frame_of (g n)) f ≡ one (frame_of (g p)) f = ap (λ q. one (frame_of (g q)) f) k in
        omega arith
    go ih false e =
        let ne : n ≢ p = grind (arith, nat_tests) in
        let a : one (frame_of (put g p new n)) f ≡ one (frame_of (g n)) f =
        ap (λ o. one (frame_of o) f) (put_other g p new n ne) in
        let b = ih (omega arith) in
        omega arith

one_is : (f : ℕ) → one (Some f) f ≡ 1
one_is f = let e : (f == f) ≡ true = grind (arith, nat_tests) in ap (λ b. cond b 1 0) e

-- a page that has the frame is counted
pub pages_some : (g : ℕ → Option PageInfo) (p f n : ℕ) → p < n → frame_of (g p) ≡ Some f → 1 ≤ pages_with g f n
pages_some g p f n lt e =
    let a = pages_put g p f None n lt in
    let b : one (frame_of (g p)) f ≡ 1 = ap (λ o. one o f) e ∙ one_is f in
    omega (arith, a, b)

-- no page has a frame
pub pages_none : (g : ℕ → Option PageInfo) (f n : ℕ) → ((p : ℕ) → frame_of (g p) ≡ None) → pages_with g f n ≡ 0
unfolding pages_with
pages_none g f zero e = refl
pages_none g f (suc n) e =
    let a : one (frame_of (g n)) f ≡ 0 = ap (λ o. one o f) (e n) in
    let b = pages_none g f n e in
    omega (arith, a, b)

-- ---- true counts

-- each frame's true count is the number of pages below n that have it, and what else has it
abbrev pub CountsPages : Counts → (ℕ → ℕ) → (ℕ → Option PageInfo) → ℕ → Type 0
CountsPages v extra info n = (f : ℕ) → true_count v f ≡ pos (pages_with info f n + extra f)

pub counts_same : (v : Counts) (extra : ℕ → ℕ) (g h : ℕ → Option PageInfo) (n : ℕ) → ((p : ℕ) → frame_of (h p) ≡ frame_of (g p))
    → CountsPages v extra g n → CountsPages v extra h n
counts_same v extra g h n same k f = k f ∙ ap (λ x. pos (x + extra f)) (sym (pages_same h g f n (λ p lt. same p)))

pub counts_none : (v : Counts) (g : ℕ → Option PageInfo) (n : ℕ) → ((f : ℕ) → true_count v f ≡ pos 0)
    → ((p : ℕ) → frame_of (g p) ≡ None) → CountsPages v (λ f. 0) g n
counts_none v g n unused none f = let a = unused f in let b = pages_none g f n none in omega (arith, ints, a, b)

pub counts_some : (v : Counts) (extra : ℕ → ℕ) (g : ℕ → Option PageInfo) (f p n : ℕ) → p < n → CountsPages v extra g n → frame_of (g p) ≡ Some f
    → pos 0 <ℤ true_count v f
counts_some v extra g f p n lt k e = let a = pages_some g p f n lt e in let b = k f in omega (arith, ints, a, b)

flip : (f g : ℕ) → (f == g) ≡ (g == f)
flip f g = grind (arith, nat_tests)

-- a step of Refcache that moves the true counts as the page's change moves the numbers of pages
pub counts_put : (v w : Counts) (extra : ℕ → ℕ) (step : CountStep) (info : ℕ → Option PageInfo) (p : ℕ) (new : Option PageInfo) (n : ℕ) → p < n
    → Takes v step w → ((f : ℕ) → pos (one (frame_of (info p)) f) +ℤ change step f ≡ pos (one (frame_of new) f))
    → CountsPages v extra info n → CountsPages w extra (put info p new) n
counts_put v w extra step info p new n lt t by h f =
    let a = true_counts_move v step w t f in
    let b = pages_put info p f new n lt in
    let c = by f in
    let d = h f in
    omega (arith, ints, a, b, c, d)

-- a page gives its frame up, and a core counts it down
pub page_down : (v w : Counts) (extra : ℕ → ℕ) (info : ℕ → Option PageInfo) (c p f n : ℕ) → p < n → frame_of (info p) ≡ Some f
    → Takes v (Dec c f) w → CountsPages v extra info n → CountsPages w extra (put info p None) n
page_down v w extra info c p f n lt e t = counts_put v w extra (Dec c f) info p None n lt t by
  where
    by : (g : ℕ) → pos (one (frame_of (info p)) g) +ℤ change (Dec c f) g ≡ pos 0
    by g = subst (λ o. pos (one o g) +ℤ change (Dec c f) g ≡ pos 0) (sym e) (go (f == g) (flip g f))
      where
        go : (b : Bool) → (g == f) ≡ b → pos (cond b 1 0) +ℤ cond (g == f) (negsuc 0) (pos 0) ≡ pos 0
        go true i = ap (λ b. pos 1 +ℤ cond b (negsuc 0) (pos 0)) i
        go false i = ap (λ b. pos 0 +ℤ cond b (negsuc 0) (pos 0)) i

-- a page without a frame gets one, which is counted once more
pub page_up : (v w : Counts) (extra : ℕ → ℕ) (step : CountStep) (info : ℕ → Option PageInfo) (p f : ℕ) (new : Option PageInfo) (n : ℕ) → p < n
    → frame_of (info p) ≡ None → frame_of new ≡ Some f → ((g : ℕ) → change step g ≡ cond (g == f) (pos 1) (pos 0)) → Takes v step w
    → CountsPages v extra info n → CountsPages w extra (put info p new) n
page_up v w extra step info p f new n lt none some moves t = counts_put v w extra step info p new n lt t by
  where
    by : (g : ℕ) → pos (one (frame_of (info p)) g) +ℤ change step g ≡ pos (one (frame_of new) g)
    by g =
        subst (λ x. pos (one (frame_of (info p)) g) +ℤ x ≡ pos (one (frame_of new) g)) (sym (moves g))
        (subst (λ o. pos (one o g) +ℤ cond (g == f) (pos 1) (pos 0) ≡ pos (one (frame_of new) g)) (sym none)
        (subst (λ o. pos 0 +ℤ cond (g == f) (pos 1) (pos 0) ≡ pos (one o g)) (sym some) (go (f == g) (flip g f))))
      where
        go : (b : Bool) → (g == f) ≡ b → pos 0 +ℤ cond (g == f) (pos 1) (pos 0) ≡ pos (cond b 1 0)
        go true i = ap (λ b. pos 0 +ℤ cond b (pos 1) (pos 0)) i
        go false i = ap (λ b. pos 0 +ℤ cond b (pos 1) (pos 0)) i

-- a page without a frame gets one that caches its file page from here on, and is counted for both
pub page_cached : (v w : Counts) (extra more : ℕ → ℕ) (info : ℕ → Option PageInfo) (p f : ℕ) (new : Option PageInfo) (n : ℕ) → p < n
    → frame_of (info p) ≡ None → frame_of new ≡ Some f → extra f ≡ 0 → more f ≡ 1 → ((g : ℕ) → g ≢ f → more g ≡ extra g)
    → Takes v (Begin f 2) w → CountsPages v extra info n → CountsPages w more (put info p new) n
page_cached v w extra more info p f new n lt none some zero_before one_after same t k g = go (g == f) refl
  where
    moved : pages_with (put info p new) g n + one (frame_of (info p)) g ≡ pages_with info g n + one (frame_of new) g
    moved = pages_put info p g new n lt

    before : one (frame_of (info p)) g ≡ 0
    before = ap (λ o. one o g) none

    go : (b : Bool) → (g == f) ≡ b → true_count w g ≡ pos (pages_with (put info p new) g n + more g)
    go true i =
        let at : g ≡ f = grind (arith, nat_tests) in
        let a : true_count w g ≡ true_count v g +ℤ pos 2 = true_counts_move v (Begin f 2) w t g ∙ ap (λ b. true_count v g +ℤ cond b (pos 2) (pos 0)) i in
        let after : one (frame_of new) g ≡ 1 = ap (λ o. one o g) some ∙ (ap (λ x. one (Some x) g) (sym at) ∙ one_is g) in
        let x : extra g ≡ 0 = ap extra at ∙ zero_before in
        let y : more g ≡ 1 = ap more at ∙ one_after in
        let m = moved in let b = before in let c = k g in
        omega (arith, ints, a, b, c, m, after, x, y)
    go false i =
        let off : g ≢ f = grind (arith, nat_tests) in
        let a : true_count w g ≡ true_count v g +ℤ pos 0 = true_counts_move v (Begin f 2) w t g ∙ ap (λ b. true_count v g +ℤ cond b (pos 2) (pos 0)) i in
        let after : one (frame_of new) g ≡ 0 = ap (λ o. one o g) some ∙ ap (λ b. cond b 1 0) (flip f g ∙ i) in
        let x : more g ≡ extra g = same g off in
        let m = moved in let b = before in let c = k g in
        omega (arith, ints, a, b, c, m, after, x)

-- a page has another frame, whose count begins, and its old frame is counted down
pub page_over : (v m w : Counts) (extra : ℕ → ℕ) (info : ℕ → Option PageInfo) (c p f x : ℕ) (new : Option PageInfo) (n : ℕ) → p < n
    → frame_of (info p) ≡ Some x → frame_of new ≡ Some f → Takes v (Begin f 1) m → Takes m (Dec c x) w
    → CountsPages v extra info n → CountsPages w extra (put info p new) n
page_over v m w extra info c p f x new n lt had has_now begin dec k g =
    let a : true_count m g ≡ true_count v g +ℤ cond (g == f) (pos 1) (pos 0) = true_counts_move v (Begin f 1) m begin g in
    let b : true_count w g ≡ true_count m g +ℤ cond (g == x) (negsuc 0) (pos 0) = true_counts_move m (Dec c x) w dec g in
    let moved = pages_put info p g new n lt in
    let old : one (frame_of (info p)) g ≡ cond (x == g) 1 0 = ap (λ o. one o g) had in
    let now : one (frame_of new) g ≡ cond (f == g) 1 0 = ap (λ o. one o g) has_now in
    let same = k g in
    go (g == f) (g == x) refl refl a b moved old now same
  where
    go : (i j : Bool) → (g == f) ≡ i → (g == x) ≡ j → true_count m g ≡ true_count v g +ℤ cond i (pos 1) (pos 0)
        → true_count w g ≡ true_count m g +ℤ cond j (negsuc 0) (pos 0)
        → pages_with (put info p new) g n + one (frame_of (info p)) g ≡ pages_with info g n + one (frame_of new) g
        → one (frame_of (info p)) g ≡ cond (x == g) 1 0 → one (frame_of new) g ≡ cond (f == g) 1 0
        → true_count v g ≡ pos (pages_with info g n + extra g) → true_count w g ≡ pos (pages_with (put info p new) g n + extra g)
    go true true i j a b moved old now same =
        let o : one (frame_of (info p)) g ≡ 1 = old ∙ ap (λ b. cond b 1 0) (flip x g ∙ j) in
        let q : one (frame_of new) g ≡ 1 = now ∙ ap (λ b. cond b 1 0) (flip f g ∙ i) in omega (arith, ints, a, b, moved, o, q, same)
    go true false i j a b moved old now same =
        let o : one (frame_of (info p)) g ≡ 0 = old ∙ ap (λ b. cond b 1 0) (flip x g ∙ j) in
        let q : one (frame_of new) g ≡ 1 = now ∙ ap (λ b. cond b 1 0) (flip f g ∙ i) in omega (arith, ints, a, b, moved, o, q, same)
    go false true i j a b moved old now same =
        let o : one (frame_of (info p)) g ≡ 1 = old ∙ ap (λ b. cond b 1 0) (flip x g ∙ j) in
        let q : one (frame_of new) g ≡ 0 = now ∙ ap (λ b. cond b 1 0) (flip f g ∙ i) in omega (arith, ints, a, b, moved, o, q, same)
    go false false i j a b moved old now same =
        let o : one (frame_of (info p)) g ≡ 0 = old ∙ ap (λ b. cond b 1 0) (flip x g ∙ j) in
        let q : one (frame_of new) g ≡ 0 = now ∙ ap (λ b. cond b 1 0) (flip f g ∙ i) in omega (arith, ints, a, b, moved, o, q, same)

-- ---- the pages of a range give up their frames, in order

-- the pages of the range have no frame any more, and the others have the frames that they had
pub record GiveUpFrames (old new : ℕ → Option PageInfo) (range : PageRange) : Type 0 where
  pub gone : (p : ℕ) → has range p ≡ true → frame_of (new p) ≡ None
  pub others : (p : ℕ) → has range p ≡ false → frame_of (new p) ≡ frame_of (old p)

has_none : (first p : ℕ) → has (pages_from first 0) p ≡ false
has_none first p = grind (arith, nat_tests)

has_first : (first n p : ℕ) → (p == first) ≡ true → has (pages_from first (suc n)) p ≡ true
has_first first n p h = grind (arith, nat_tests)

has_rest : (first n p : ℕ) → has (pages_from (suc first) n) p ≡ true → has (pages_from first (suc n)) p ≡ true
has_rest first n p h = grind (arith, nat_tests)

has_not : (first n p : ℕ) → has (pages_from (suc first) n) p ≡ false → (p == first) ≡ false
    → has (pages_from first (suc n)) p ≡ false
has_not first n p h e = grind (arith, nat_tests)

-- the first of them gave up its frame
rest_give_up : (old new : ℕ → Option PageInfo) (first n : ℕ) → GiveUpFrames old new (pages_from first (suc n))
    → GiveUpFrames (put old first None) new (pages_from (suc first) n)
rest_give_up old new first n h = record {
  gone = λ p i. h.gone p (has_rest first n p i);
  others = λ p i.
      by_test (λ x. frame_of (new p) ≡ frame_of x) (p == first) None (old p) (λ e. h.gone p (has_first first n p e))
      (λ e. h.others p (has_not first n p i e));
}

-- the page has given up its frame, if it had one
one_down : (c : ℕ) (v w : Counts) (extra : ℕ → ℕ) (info : ℕ → Option PageInfo) (p n : ℕ) (o : Option ℕ) → p < n
    → frame_of (info p) ≡ o → CountsOne c o v w → CountsPages v extra info n → CountsPages w extra (put info p None) n
one_down c v w extra info p n None lt e s k =
    subst (λ x. CountsPages x extra (put info p None) n) (sym s)
    (counts_same v extra info (put info p None) n
    (put_all (λ q x. frame_of x ≡ frame_of (info q)) info p None (sym e) (λ q ne. refl)) k)
one_down c v w extra info p n (Some f) lt e t k = page_down v w extra info c p f n lt e t k

-- core c has counted down the frames of k pages from the first on: the counts are those of pages that have given them up
pub range_down : (c : ℕ) (frame : ℕ → Option ℕ) (first k : ℕ) (v w : Counts) (extra : ℕ → ℕ) (old new : ℕ → Option PageInfo) (n : ℕ)
    → CountsDown c frame first k v w → first + k ≤ n → ((p : ℕ) → first ≤ p → frame p ≡ frame_of (old p))
    → GiveUpFrames old new (pages_from first k) → CountsPages v extra old n → CountsPages w extra new n
unfolding CountsDown
range_down c frame first zero v w extra old new n d le same h k =
    subst (λ x. CountsPages x extra new n) (sym d) (counts_same v extra old new n (λ p. h.others p (has_none first p)) k)
range_down c frame first (suc m) v w extra old new n d le same h k =
    range_down c frame (suc first) m d.0 w extra (put old first None) new n d.2 (omega (arith, le))
    (λ p l. same p (omega (arith, l)) ∙ ap frame_of (sym (put_other old first None p (omega (arith, l)))))
    (rest_give_up old new first m h)
    (one_down c v d.0 extra old first n (frame first) (omega (arith, le)) (sym (same first (omega arith))) d.1 k)

-- nothing is counted down where no page gives its frame up
pub none_down : (c first k : ℕ) (v w : Counts) → CountsDown c (λ p. None) first k v w → w ≡ v
unfolding CountsDown
none_down c first zero v w d = d
none_down c first (suc m) v w d = none_down c (suc first) m d.0 w d.2 ∙ d.1

unused_one : (c : ℕ) (o : Option ℕ) (v m : Counts) (f : ℕ) → CountsOne c o v m → AreReached v → IsUnused v f
    → AreReached m × IsUnused m f
unused_one c None v m f e r u = (subst AreReached (sym e) r, subst (λ x. IsUnused x f) (sym e) u)
unused_one c (Some g) v m f t r u = (steps_reach v (Dec c g) m r t, unused_stays v (Dec c g) m f r t u (λ k e. cc))

-- what is unused stays so where frames are counted down
pub unused_down : (c : ℕ) (frame : ℕ → Option ℕ) (first k : ℕ) (v w : Counts) (f : ℕ) → AreReached v
    → CountsDown c frame first k v w → IsUnused v f → IsUnused w f
unfolding CountsDown
unused_down c frame first zero v w f r d u = subst (λ x. IsUnused x f) (sym d) u
unused_down c frame first (suc m) v w f r d u =
    let after = unused_one c (frame first) v d.0 f d.1 r u in
    unused_down c frame (suc first) m d.0 w f after.0 d.2 after.1
