-- What holds at the end of every run: deltas and true counts are in range, and entries and queues have objects that there are.
use Rattle.std.proofs.Common.{◌≡◌, ◌≢◌, ℕ, zero, suc, ◌≤◌, ◌<◌, ◌*◌, ◌%◌, ◌^◌, ◌==◌, refl, sym, ap, subst, arith, ℤ, pos, negsuc, neg_ℤ}
use Rattle.std.proofs.Common.{◌+ℤ◌, ◌≤ℤ◌, ◌∙◌, List, [], ◌∷◌, ◌++◌, Option, Some, None, unwrap_or, ◌⊎◌, inl, inr}
use Rattle.std.proofs.lemmas.Int.{ints}
use Rattle.refcache.specs.declared.reports.Queued.{Queued}
use Rattle.refcache.specs.declared.reports.Flush.{Flush}
use Rattle.refcache.specs.declared.reports.Review.{Review}
use Rattle.refcache.specs.declared.reports.Flush.TheVariants as flush
use Rattle.refcache.specs.declared.reports.Review.TheVariants as review
use Rattle.vm_base.specs.Functions.{put}
use Rattle.vm_base.proofs.Functions.{by_test, eq_true, put_all, put_same, put_other}
use Rattle.refcache.specs.Sums.{sum_below}
use Rattle.refcache.specs.Counts.{Counts, no_counts, delta_of, true_count, enqueued, unqueued, drained, evicted, added}
use Rattle.refcache.specs.Pieces.{IsCount}
use Rattle.refcache.specs.Laws.{change}
use Rattle.refcache.specs.Steps.{Begin, Inc, Dec, Flushing, Reviewing, Takes, MakesRoom, HasEntry, IsDelta, Flushes, Reviews}
use Rattle.refcache.specs.Steps.{CountStep}
use Rattle.refcache.proofs.Sums.{same_or_not, sum_zero}
use Rattle.refcache.proofs.Lists.{Each, each_end}
use Rattle.refcache.proofs.Queues.{by_notice}
use Rattle.refcache.proofs.Moves.{true_counts_move}
use Rattle.refcache.proofs.Way.{next_small, one_is_small}

abbrev value : Option ℤ → ℤ
value d = unwrap_or d (pos 0)

-- a core's deltas: small, of at most one object a place, and of objects below n
pub record Row (n : ℕ) (row : ℕ → Option ℤ) : Type 0 where
  pub small : (o : ℕ) → IsDelta (unwrap_or (row o) (pos 0))
  pub alone : (p o : ℕ) → row p ≢ None → row o ≢ None → p % 64 ≡ o % 64 → p ≡ o
  pub inside : (o : ℕ) → row o ≢ None → o < n

pub record Held (v : Counts) : Type 0 where
  pub rows : (c : ℕ) → Row v.objects (v.delta c)
  pub queues : (c : ℕ) → Each (λ x. x.object < v.objects) (v.queue c)

zero_small : IsDelta (pos 0)
zero_small = (omega (arith, ints), omega (arith, ints))

row_empty : (n : ℕ) → Row n (λ o. None)
row_empty n = record { small = λ o. zero_small; alone = λ p o h. absurd (h refl); inside = λ o h. absurd (h refl) }

row_none : (n : ℕ) (row : ℕ → Option ℤ) (o : ℕ) → Row n row → Row n (put row o None)
row_none n row o f = record {
  small = put_all (λ _ d. IsDelta (value d)) row o None zero_small (λ j _. f.small j);
  alone = λ p q hp hq s. f.alone p q (was p hp) (was q hq) s;
  inside = λ p h. f.inside p (was p h);
}
  where
    was : (p : ℕ) → put row o None p ≢ None → row p ≢ None
    was p h e = h (put_all (λ j d. row j ≡ None → d ≡ None) row o None (λ _. refl) (λ j _ x. x) p e)

row_some : (n : ℕ) (row : ℕ → Option ℤ) (o : ℕ) (d : ℤ) → o < n → IsDelta d → ((p : ℕ) → row p ≢ None → p % 64 ≡ o % 64 → p ≡ o)
    → Row n row → Row n (put row o (Some d))
row_some n row o d lt small own f = record {
  small = put_all (λ _ x. IsDelta (value x)) row o (Some d) small (λ j _. f.small j);
  alone = λ p q hp hq s. go p q hp hq s (same_or_not p o) (same_or_not q o);
  inside = put_all (λ j x. x ≢ None → j < n) row o (Some d) (λ _. lt) (λ j _. f.inside j);
}
  where
    was : (p : ℕ) → p ≢ o → put row o (Some d) p ≢ None → row p ≢ None
    was p ne h e = h (put_other row o (Some d) p ne ∙ e)

    go : (p q : ℕ) → put row o (Some d) p ≢ None → put row o (Some d) q ≢ None → p % 64 ≡ q % 64 → (p ≡ o) ⊎ (p ≢ o) → (q ≡ o) ⊎ (q ≢ o) → p ≡ q
    go p q hp hq s (inl a) (inl b) = a ∙ sym b
    go p q hp hq s (inl a) (inr b) = a ∙ sym (own q (was q b hq) (sym s ∙ ap (λ z. z % 64) a))
    go p q hp hq s (inr a) (inl b) = own p (was p a hp) (s ∙ ap (λ z. z % 64) b) ∙ sym b
    go p q hp hq s (inr a) (inr b) = f.alone p q (was p a hp) (was q b hq) s

held_open : (n m : ℕ) → Held (no_counts n m)
held_open n m = record { rows = λ c. row_empty m; queues = λ c. tt }

held_enqueued : (c o : ℕ) (v : Counts) → o < v.objects → Held v → Held (enqueued c o v)
held_enqueued c o v lt f = record {
  rows = f.rows;
  queues = put_all (λ _ xs. Each (λ x. x.object < v.objects) xs) v.queue c (v.queue c ++ record { object = o; epoch = v.epoch } ∷ [])
      (each_end (λ x. x.object < v.objects) (v.queue c) (record { object = o; epoch = v.epoch }) (f.queues c) lt) (λ j _. f.queues j);
}

held_drained : (c o : ℕ) (v : Counts) → Held v → Held (drained c o v)
held_drained c o v f = record {
  rows = put_all (λ _ row. Row v.objects row) v.delta c (put (v.delta c) o None) (row_none v.objects (v.delta c) o (f.rows c)) (λ j _. f.rows j);
  queues = f.queues;
}

held_evicted : (c o : ℕ) (v : Counts) → HasEntry v c o → Held v → Held (evicted c o v)
held_evicted c o v has f =
    let g = held_drained c o v f in
    by_notice Held c o (drained c o v) (λ _ _. record { rows = g.rows; queues = g.queues })
    (λ _ _. held_enqueued c o (drained c o v) ((f.rows c).inside o has) g) (λ _. g)

held_unqueued : (c o since : ℕ) (rest : List Queued) (v : Counts) → v.queue c ≡ record { object = o; epoch = since } ∷ rest → Held v
    → Held (unqueued c o rest v)
held_unqueued c o since rest v front f = record {
  rows = f.rows;
  queues = put_all (λ _ xs. Each (λ x. x.object < v.objects) xs) v.queue c rest
      (subst (Each (λ x. x.object < v.objects)) front (f.queues c)).1 (λ j _. f.queues j);
}

-- the object at the front of a queue is one that there is
front_held : (c o since : ℕ) (rest : List Queued) (v : Counts) → v.queue c ≡ record { object = o; epoch = since } ∷ rest → Held v → o < v.objects
front_held c o since rest v front f = (subst (Each (λ x. x.object < v.objects)) front (f.queues c)).0

held_added : (c o : ℕ) (by : ℤ) (m : Counts) → o < m.objects → IsDelta (delta_of m c o +ℤ by)
    → ((p : ℕ) → m.delta c p ≢ None → p % 64 ≡ o % 64 → p ≡ o) → Held m → Held (added c o by m)
held_added c o by m lt small own f = record {
  rows = put_all (λ _ row. Row m.objects row) m.delta c (put (m.delta c) o (Some (delta_of m c o +ℤ by)))
      (row_some m.objects (m.delta c) o (delta_of m c o +ℤ by) lt small own (f.rows c)) (λ j _. f.rows j);
  queues = f.queues;
}

pub evicted_row : (c p : ℕ) (v : Counts) → (evicted c p v).delta c ≡ put (v.delta c) p None
evicted_row c p v =
    by_notice (λ w. w.delta c ≡ (drained c p v).delta c) c p (drained c p v) (λ _ _. refl) (λ _ _. refl) (λ _. refl)
    ∙ put_same v.delta c (put (v.delta c) p None)

held_room : (v : Counts) (c o : ℕ) (by : ℤ) (m : Counts) → MakesRoom v c o by m → (neg_ℤ (pos 1) ≤ℤ by) × (by ≤ℤ pos 1) → o < v.objects
    → Held v → Held (added c o by m)
held_room v c o by m (inl h) one lt f = subst (λ z. Held (added c o by z)) (sym h.1) (held_added c o by v lt (next_small (v.delta c) o by one h.0) own f)
  where
    own : (p : ℕ) → v.delta c p ≢ None → p % 64 ≡ o % 64 → p ≡ o
    own p has same = go (same_or_not p o)
      where
        go : (p ≡ o) ⊎ (p ≢ o) → p ≡ o
        go (inl e) = e
        go (inr ne) = absurd (h.0 p (record { entry = has; place = same; cause = inl ne }))
held_room v c o by m (inr h) one lt f =
    subst (λ z. Held (added c o by z)) (sym h.2) (held_added c o by w (subst (λ n. o < n) (sym objects) lt) small
    (λ q has same. absurd (gone q has same)) (held_evicted c p v h.1.entry f))
  where
    p : ℕ
    p = h.0

    w : Counts
    w = evicted c h.0 v

    objects : (evicted c h.0 v).objects ≡ v.objects
    objects = by_notice (λ w. w.objects ≡ v.objects) c h.0 (drained c h.0 v) (λ _ _. refl) (λ _ _. refl) (λ _. refl)

    gone : (q : ℕ) → (evicted c h.0 v).delta c q ≢ None → q % 64 ≡ o % 64 → ⊥
    gone q has same = go (same_or_not q h.0)
      where
        there : put (v.delta c) h.0 None q ≢ None
        there none = has (ap (λ r. r q) (evicted_row c h.0 v) ∙ none)

        go : (q ≡ h.0) ⊎ (q ≢ h.0) → ⊥
        go (inl e) = there (ap (put (v.delta c) h.0 None) e ∙ put_same (v.delta c) h.0 None)
        go (inr ne) = ne ((f.rows c).alone q h.0 (λ none. there (put_other (v.delta c) h.0 None q ne ∙ none)) h.1.entry (same ∙ sym h.1.place))

    small : IsDelta (delta_of (evicted c h.0 v) c o +ℤ by)
    small = go ((evicted c h.0 v).delta c o) refl
      where
        go : (d : Option ℤ) → (evicted c h.0 v).delta c o ≡ d → IsDelta (delta_of (evicted c h.0 v) c o +ℤ by)
        go None e = subst (λ d. IsDelta (value d +ℤ by)) (sym e) (one_is_small by one)
        go (Some d) e = absurd (gone o (λ none. clash (sym e ∙ none)) refl)
          where
            clash : Some d ≡ None → ⊥
            clash x = cc

held_flush : (v : Counts) (c : ℕ) (r : Flush) (w : Counts) → Flushes v c r w → Held v → Held w
held_flush v c (flush.Evicted p) w h f = subst Held (sym h.2) (held_evicted c p v h.0 f)
held_flush v c flush.Flushed w h f = subst Held (sym h.3) (record { rows = f.rows; queues = f.queues })
held_flush v c flush.EpochEnded w h f = subst Held (sym h.4) (record { rows = f.rows; queues = f.queues })
held_flush v c flush.Idle w h f = subst Held (sym h.2) f

held_review : (v : Counts) (c : ℕ) (r : Review) (w : Counts) → Reviews v c r w → Held v → Held w
held_review v c (review.Freed p) w h f = subst Held (sym h.4) (held_unqueued c p h.1.since h.0 v h.1.front f)
held_review v c (review.Requeued p) w h f =
    subst Held (sym h.4) (held_enqueued c p (unqueued c p h.0 v) (front_held c p h.1.since h.0 v h.1.front f) (held_unqueued c p h.1.since h.0 v h.1.front f))
held_review v c (review.Dropped p) w h f = subst Held (sym h.3) (held_unqueued c p h.1.since h.0 v h.1.front f)
held_review v c review.Idle w h f = subst Held (sym h.1) f

up_one : (neg_ℤ (pos 1) ≤ℤ pos 1) × (pos 1 ≤ℤ pos 1)
up_one = (omega (arith, ints), omega (arith, ints))

down_one : (neg_ℤ (pos 1) ≤ℤ negsuc 0) × (negsuc 0 ≤ℤ pos 1)
down_one = (omega (arith, ints), omega (arith, ints))

pub held : (v : Counts) (s : CountStep) (w : Counts) → Takes v s w → Held v → Held w
held v (Begin p k) w h f = subst Held (sym h.3) (record { rows = f.rows; queues = f.queues })
held v (Inc c p) w h f = subst Held (sym h.1.4) (held_room v c p (pos 1) h.1.2 h.1.3 up_one h.1.5 f)
held v (Dec c p) w h f = subst Held (sym h.4) (held_room v c p (negsuc 0) h.2 h.3 down_one h.5 f)
held v (Flushing c r) w h f = held_flush v c r w h.1 f
held v (Reviewing c r) w h f = held_review v c r w h.1 f

pub open_held : (n m : ℕ) → Held (no_counts n m)
open_held = held_open

-- true counts
abbrev pub InRange : ℤ → Type 0
InRange z = (pos 0 ≤ℤ z) × (z ≤ℤ pos (2 ^ 40))

abbrev pub Counted : Counts → Type 0
Counted v = (o : ℕ) → InRange (true_count v o)

stays : (z : ℤ) → InRange z → InRange (z +ℤ pos 0)
stays z h = let a = h.0 in let b = h.1 in (omega (arith, ints, a, b), omega (arith, ints, a, b))

pub counted_open : (n m : ℕ) → Counted (no_counts n m)
counted_open n m o =
    let s : sum_below n (λ c. pos 0) ≡ pos 0 = sum_zero n (λ c. pos 0) (λ c _. refl) in
    (omega (arith, ints, s), omega (arith, ints, s))

pub counted : (v : Counts) (s : CountStep) (w : Counts) → Takes v s w → Counted v → Counted w
counted v s w h f o = subst InRange (sym (true_counts_move v s w h o)) (go s h)
  where
    go : (s : CountStep) → Takes v s w → InRange (true_count v o +ℤ change s o)
    go (Begin p k) h = by_test (λ z. InRange (true_count v o +ℤ z)) (o == p) (pos k) (pos 0)
        (λ t. let none : true_count v o ≡ pos 0 = ap (true_count v) (eq_true o p t) ∙ h.0.zero in let few = h.2 in
        (omega (arith, ints, none, few), omega (arith, ints, none, few)))
        (λ _. stays (true_count v o) (f o))
    go (Inc c p) h = by_test (λ z. InRange (true_count v o +ℤ z)) (o == p) (pos 1) (pos 0)
        (λ t. let same : true_count v o ≡ true_count v p = ap (true_count v) (eq_true o p t) in let few = h.0 in let a = (f o).0 in
        (omega (arith, ints, same, few, a), omega (arith, ints, same, few, a)))
        (λ _. stays (true_count v o) (f o))
    go (Dec c p) h = by_test (λ z. InRange (true_count v o +ℤ z)) (o == p) (negsuc 0) (pos 0)
        (λ t. let same : true_count v o ≡ true_count v p = ap (true_count v) (eq_true o p t) in let more = h.1 in let b = (f o).1 in
        (omega (arith, ints, same, more, b), omega (arith, ints, same, more, b)))
        (λ _. stays (true_count v o) (f o))
    go (Flushing c r) h = stays (true_count v o) (f o)
    go (Reviewing c r) h = stays (true_count v o) (f o)

-- deltas of few cores add up to little, so a global count is in range
sum_small : (n : ℕ) (f : ℕ → ℤ) → ((c : ℕ) → IsDelta (f c)) → (neg_ℤ (pos (n * 2 ^ 40)) ≤ℤ sum_below n f) × (sum_below n f ≤ℤ pos (n * 2 ^ 40))
unfolding sum_below
sum_small zero f h = (omega (arith, ints), omega (arith, ints))
sum_small (suc n) f h =
    let more = sum_small n f h in
    let a = more.0 in
    let b = more.1 in
    let lo = (h n).0 in
    let hi = (h n).1 in
    (omega (arith, ints, a, b, lo, hi), omega (arith, ints, a, b, lo, hi))

pub global_small : (v : Counts) (o : ℕ) → v.cores ≤ 64 → Held v → Counted v → IsCount (v.global o)
global_small v o few f t =
    let s = sum_small v.cores (λ c. delta_of v c o) (λ c. (f.rows c).small o) in
    let a = s.0 in
    let b = s.1 in
    let lo = (t o).0 in
    let hi = (t o).1 in
    (omega (arith, ints, few, a, b, lo, hi), omega (arith, ints, few, a, b, lo, hi))
