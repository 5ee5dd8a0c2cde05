-- The law of reuse: an object whose true count fell to 0 in epoch e is freed before epoch e + 6 begins.
use Rattle.std.proofs.Common.{◌≡◌, ℕ, ◌≤◌, ◌<◌, ◌+◌, Bool, true, false, refl, sym, ap, subst, arith, pos, negsuc, ◌+ℤ◌, ◌∙◌, List, [], ◌∷◌}
use Rattle.std.proofs.Common.{◌++◌, Some, None, ◌⊎◌, inl, inr}
use Rattle.refcache.specs.declared.reports.Review.TheVariants as review
use Rattle.refcache.specs.Counts.{Counts, no_counts, delta_of, true_count, added}
use Rattle.refcache.specs.Steps.{Dec, Reviewing, Takes, HasEntry, Moment, IsRun, last, CountStep}
use Rattle.refcache.specs.Laws.{Comes, ReviewsUntilIdle, FreesBefore, Reuse}
use Rattle.refcache.proofs.Sums.{cell_same}
use Rattle.refcache.proofs.Lists.{each_map, each_both, each_at}
use Rattle.refcache.proofs.Queues.{Queues, Behind, later, queues_open, quiet_behind}
use Rattle.refcache.proofs.Pending.{Pending, Waits, IsSoon, pending, less_or_not}

clash : {b : Bool} → b ≡ true → b ≡ false → ⊥
clash h g = cc

-- an object can't wait any longer once each core has reviewed until Idle in epoch e + 5
over : (e o : ℕ) (v : Counts) → Queues v → Pending e o v → e + 6 ≤ v.epoch → ((d : ℕ) → d < v.cores → Behind v d (e + 5)) → ⊥
over e o v q f late behind = go f.waits
  where
    no_entry : (c : ℕ) → c < v.cores → v.delta c o ≡ None
    no_entry c lt = f.swept c lt (inl (omega (arith, late)))

    go : Waits v o → ⊥
    go (inl w) = w.2 (no_entry w.0 w.1)
    go (inr w) =
        let at = q.found o w.0 in
        let both = each_both (λ x. x.object ≡ o → IsSoon e (v.dirty o) x.epoch) (λ x. e + 5 < x.epoch + 2) (v.queue at.0) (f.soon at.0) (behind at.0 at.1) in
        let x = each_at (λ x. (x.object ≡ o → IsSoon e (v.dirty o) x.epoch) × (e + 5 < x.epoch + 2)) (v.queue at.0) o both at.2 in
        no x.0.epoch (x.2.0 x.1) x.2.1
      where
        no : (epoch : ℕ) → IsSoon e (v.dirty o) epoch → e + 5 < epoch + 2 → ⊥
        no epoch (inl l) b = omega (arith, l, b)
        no epoch (inr l) b = let s = l.1 in omega (arith, s, b)

-- the core reviews until Idle in the epoch, or did so
abbrev Ahead : List Moment → Counts → ℕ → ℕ → Type 0
Ahead xs v d epoch = Comes (ReviewsUntilIdle d epoch) xs ⊎ ((epoch ≤ v.epoch) × Behind v d epoch)

-- what comes in a run comes in no earlier epoch
not_before : (v : Counts) (xs : List Moment) (d epoch : ℕ) → IsRun v xs → Comes (ReviewsUntilIdle d epoch) xs → v.epoch ≤ epoch
not_before v [] d epoch r h = absurd h
not_before v (x ∷ xs) d epoch r (inl h) =
    let up = (later v x.step x.counts r.0).epoch in
    let at = h.1 in
    omega (arith, up, at)
not_before v (x ∷ xs) d epoch r (inr h) =
    let up = (later v x.step x.counts r.0).epoch in
    let more = not_before x.counts xs d epoch r.1 h in
    omega (arith, up, more)

-- once the epoch has passed it did so
ahead_past : (v : Counts) (xs : List Moment) (d epoch : ℕ) → IsRun v xs → Ahead xs v d epoch → epoch < v.epoch → Behind v d epoch
ahead_past v xs d epoch r (inl h) late = let no = not_before v xs d epoch r h in absurd (omega (arith, no, late))
ahead_past v xs d epoch r (inr h) late = h.1

ahead_next : (v : Counts) (x : Moment) (xs : List Moment) (d epoch : ℕ) → Queues v → Takes v x.step x.counts → Ahead (x ∷ xs) v d epoch
    → Ahead xs x.counts d epoch
ahead_next v x xs d epoch q t (inl (inr h)) = inl h
ahead_next v x xs d epoch q t (inr h) =
    let l = later v x.step x.counts t in
    let up = l.epoch in
    let at = h.0 in
    inr (omega (arith, at, up), l.behind d epoch h.0 h.1)
ahead_next v x xs d epoch q t (inl (inl h)) =
    let idle = subst (λ s. Takes v s x.counts) h.0 t in
    let here : Behind v d v.epoch = quiet_behind v d q idle.1.0 in
    let same : x.counts ≡ v = idle.1.1 in
    let at : x.counts.epoch ≡ epoch = h.1 in
    let there : Behind x.counts d x.counts.epoch = subst (λ w. Behind w d w.epoch) (sym same) here in
    inr (omega (arith, at), subst (Behind x.counts d) at there)

freed_epoch : (v : Counts) (s : CountStep) (w : Counts) (c o : ℕ) → s ≡ Reviewing c (review.Freed o) → Takes v s w → w.epoch ≡ v.epoch
freed_epoch v s w c o e t = ap (λ z. z.epoch) (subst (λ z. Takes v z w) e t).1.4

frees : (n e o : ℕ) (v : Counts) (xs : List Moment) → v.cores ≡ n → IsRun v xs → Queues v → Pending e o v
    → ((d : ℕ) → d < n → Ahead xs v d (e + 3)) → ((d : ℕ) → d < n → Ahead xs v d (e + 5))
    → e + 6 ≤ (last v xs).epoch → Comes (FreesBefore o (e + 6)) xs
frees n e o v [] cores r q f three five late =
    absurd (over e o v q f late (λ d lt. ahead_past v [] d (e + 5) r (five d (subst (λ z. d < z) cores lt)) (omega (arith, late))))
frees n e o v (x ∷ xs) cores r q f three five late =
    let l = later v x.step x.counts r.0 in
    go (λ g. frees n e o x.counts xs (l.cores ∙ cores) r.1 (l.queues q) g
    (λ d lt. ahead_next v x xs d (e + 3) q r.0 (three d lt)) (λ d lt. ahead_next v x xs d (e + 5) q r.0 (five d lt)) late)
    (pending e o v x.step x.counts r.0 q (λ d lt. time d lt (less_or_not (e + 3) v.epoch)) f)
  where
    time : (d : ℕ) → d < v.cores → (e + 3 < v.epoch) ⊎ (v.epoch ≤ e + 3) → (v.epoch ≤ e + 3) ⊎ Behind v d (e + 3)
    time d lt (inl more) = inr (ahead_past v (x ∷ xs) d (e + 3) r (three d (subst (λ z. d < z) cores lt)) more)
    time d lt (inr less) = inl less

    go : (Pending e o x.counts → Comes (FreesBefore o (e + 6)) xs) → Pending e o x.counts
        ⊎ ((c : ℕ) × (x.step ≡ Reviewing c (review.Freed o))) → Comes (FreesBefore o (e + 6)) (x ∷ xs)
    go more (inl g) = inr (more g)
    go more (inr h) = by_time (less_or_not x.counts.epoch (e + 6))
      where
        by_time : (x.counts.epoch < e + 6) ⊎ (e + 6 ≤ x.counts.epoch) → Comes (FreesBefore o (e + 6)) (x ∷ xs)
        by_time (inl early) = inl (h.0, h.1, early)
        by_time (inr past) =
            let same = freed_epoch v x.step x.counts h.0 o h.1 r.0 in
            let now : e + 6 ≤ v.epoch = omega (arith, same, past) in
            absurd (over e o v q f now (λ d lt. ahead_past v (x ∷ xs) d (e + 5) r (five d (subst (λ z. d < z) cores lt)) (omega (arith, now))))

-- the state in which a step of a run is taken
split : (v : Counts) (before : List Moment) (x : Moment) (after : List Moment) → Queues v → IsRun v (before ++ x ∷ after)
    → (u : Counts) × Queues u × (u.cores ≡ v.cores) × Takes u x.step x.counts × IsRun x.counts after
split v [] x after q r = (v, q, refl, r.0, r.1)
split v (y ∷ before) x after q r =
    let l = later v y.step y.counts r.0 in
    let s = split y.counts before x after (l.queues q) r.1 in
    (s.0, s.1, s.2 ∙ l.cores, s.3, s.4)

-- the object waits from its fall on
falls : (u : Counts) (c o : ℕ) (w : Counts) → Takes u (Dec c o) w → Queues w → true_count w o ≡ pos 0 → Pending w.epoch o w
falls u c o w t q none = record {
  since = omega arith;
  none = none;
  waits = inl (c, subst (λ z. c < z) (sym (later u (Dec c o) w t).cores) t.0, entry);
  swept = λ j lt s. absurd (never s);
  soon = λ d. each_map (λ x. x.epoch ≤ w.epoch) (λ x. x.object ≡ o → IsSoon w.epoch (w.dirty o) x.epoch) (w.queue d)
      (λ x l _. inl (omega (arith, l))) (q.past d);
}
  where
    entry : HasEntry w c o
    entry gone =
        let some : (added c o (negsuc 0) t.2).delta c o ≡ Some (delta_of t.2 c o +ℤ negsuc 0) = cell_same t.2.delta c o (Some (delta_of t.2 c o +ℤ negsuc 0)) in
        let none : (added c o (negsuc 0) t.2).delta c o ≡ None = subst (λ z. z.delta c o ≡ None) t.4 gone in
        let both : Some (delta_of t.2 c o +ℤ negsuc 0) ≡ None = sym some ∙ none in
        cc

    never : {j : ℕ} → (w.epoch + 1 < w.epoch) ⊎ ((w.epoch ≡ w.epoch + 1) × (w.flushed j ≡ true)) → ⊥
    never (inl l) = omega (arith, l)
    never (inr h) = let l = h.0 in omega (arith, l)

pub reuse : Reuse
reuse n m o before fall after f reviews late =
    let s = split (no_counts n m) before fall after (queues_open n m) f.run in
    let t : Takes s.0 (Dec f.core o) fall.counts = subst (λ z. Takes s.0 z fall.counts) f.step s.3 in
    let l = later s.0 fall.step fall.counts s.3 in
    let e = fall.counts.epoch in
    frees n e o fall.counts after (l.cores ∙ s.2) s.4 (l.queues s.1) (falls s.0 f.core o fall.counts t (l.queues s.1) f.zero)
    (λ d lt. inl (reviews d (e + 3) lt (omega arith) (omega (arith, late))))
    (λ d lt. inl (reviews d (e + 5) lt (omega arith) (omega (arith, late))))
    late
