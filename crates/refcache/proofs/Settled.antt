-- A freed object is unused: while it is clean in a queue at a global count of 0, a core that was found without entries since
-- has one only if another core has had one all the time.
use Rattle.std.proofs.Common.{◌≡◌, ◌≢◌, ℕ, ◌≤◌, ◌<◌, ◌+◌, Bool, true, false, refl, sym, ap, subst, arith, ℤ, pos, negsuc, ◌+ℤ◌, ◌<ℤ◌, ◌∙◌}
use Rattle.std.proofs.Common.{List, [], ◌∷◌, ◌++◌, Some, None, ◌⊎◌, inl, inr}
use Rattle.std.proofs.lemmas.Int.{ints}
use Rattle.refcache.specs.declared.reports.Queued.{Queued}
use Rattle.refcache.specs.declared.reports.Flush.{Flush}
use Rattle.refcache.specs.declared.reports.Review.{Review}
use Rattle.refcache.specs.declared.reports.Flush.TheVariants as flush
use Rattle.refcache.specs.declared.reports.Review.TheVariants as review
use Rattle.vm_base.specs.Functions.{put}
use Rattle.refcache.specs.Counts.{Counts, no_counts, delta_of, true_count, enqueued, unqueued, soiled, drained, evicted, added, begun, marked, ended}
use Rattle.refcache.specs.Steps.{Begin, Inc, Dec, Flushing, Reviewing, Takes, MakesRoom, HasEntry, IsUnused, IsClear, AllFlushed, Flushes, Reviews}
use Rattle.refcache.specs.Steps.{CountStep}
use Rattle.vm_base.proofs.Functions.{put_all, put_same, put_other}
use Rattle.refcache.proofs.Sums.{same_or_not, cell_same, cell_row, cell_column}
use Rattle.refcache.proofs.Lists.{Each, Stands, Once, each_map, each_both, each_end, each_in, stood_end, once_end}
use Rattle.refcache.proofs.Queues.{by_notice, was_put}
use Rattle.refcache.proofs.TrueCount.{count_evicted, count_clear, entry_or_none}
use Rattle.refcache.proofs.Pending.{IsSwept, less_or_not}

clash : {b : Bool} → b ≡ true → b ≡ false → ⊥
clash h g = cc

-- a core that hasn't been swept since the epoch has an entry, or none has one
abbrev pub Untouched : Counts → ℕ → ℕ → Type 0
Untouched v o epoch = ((c : ℕ) × (c < v.cores) × HasEntry v c o × (IsSwept epoch v c → ⊥)) ⊎ ((c : ℕ) → c < v.cores → v.delta c o ≡ None)

abbrev pub IsSettled : Counts → Queued → Type 0
IsSettled v x = v.global x.object ≡ pos 0 → v.dirty x.object ≡ false → Untouched v x.object x.epoch

-- a queued object has one entry in the queues, and any other none
pub record Single (queued : ℕ → Bool) (queue : ℕ → List Queued) : Type 0 where
  pub marks : (o d : ℕ) → Stands o (queue d) → queued o ≡ true
  pub once : (d : ℕ) → Once (queue d)
  pub apart : (o d j : ℕ) → Stands o (queue d) → Stands o (queue j) → d ≡ j

pub record Settled (v : Counts) : Type 0 where
  pub single : Single v.queued v.queue
  pub settled : (d : ℕ) → Each (IsSettled v) (v.queue d)

single_enqueued : (c p : ℕ) (v : Counts) → v.queued p ≡ false → Single v.queued v.queue → Single (enqueued c p v).queued (enqueued c p v).queue
single_enqueued c p v new s = record {
  marks = λ o d h. mark o (was o d h);
  once = put_all (λ d xs. Once xs) v.queue c more (once_end (v.queue c) entry (λ h. clash (s.marks p c h) new) (s.once c)) (λ j _. s.once j);
  apart = λ o d j h g. both o d j (was o d h) (was o j g);
}
  where
    entry : Queued
    entry = record { object = p; epoch = v.epoch }

    more : List Queued
    more = v.queue c ++ record { object = p; epoch = v.epoch } ∷ []

    Was : ℕ → ℕ → Type 0
    Was o d = ((o ≡ p) × (d ≡ c)) ⊎ Stands o (v.queue d)

    was : (o d : ℕ) → Stands o (put v.queue c (v.queue c ++ record { object = p; epoch = v.epoch } ∷ []) d) → ((o ≡ p) × (d ≡ c)) ⊎ Stands o (v.queue d)
    was o = put_all (λ d xs. Stands o xs → ((o ≡ p) × (d ≡ c)) ⊎ Stands o (v.queue d)) v.queue c (v.queue c ++ record { object = p; epoch = v.epoch } ∷ [])
        (λ h. here (stood_end (v.queue c) (record { object = p; epoch = v.epoch }) o h)) (λ j _ h. inr h)
      where
        here : (p ≡ o) ⊎ Stands o (v.queue c) → ((o ≡ p) × (c ≡ c)) ⊎ Stands o (v.queue c)
        here (inl e) = inl (sym e, refl)
        here (inr h) = inr h

    mark : (o : ℕ) {d : ℕ} → ((o ≡ p) × (d ≡ c)) ⊎ Stands o (v.queue d) → put v.queued p true o ≡ true
    mark o (inl h) = ap (put v.queued p true) h.0 ∙ put_same v.queued p true
    mark o {d} (inr h) = put_all (λ j b. v.queued j ≡ true → b ≡ true) v.queued p true (λ _. refl) (λ j _ e. e) o (s.marks o d h)

    both : (o d j : ℕ) → ((o ≡ p) × (d ≡ c)) ⊎ Stands o (v.queue d) → ((o ≡ p) × (j ≡ c)) ⊎ Stands o (v.queue j) → d ≡ j
    both o d j (inl h) (inl g) = h.1 ∙ sym g.1
    both o d j (inl h) (inr g) = absurd (clash (s.marks p j (subst (λ z. Stands z (v.queue j)) h.0 g)) new)
    both o d j (inr h) (inl g) = absurd (clash (s.marks p d (subst (λ z. Stands z (v.queue d)) g.0 h)) new)
    both o d j (inr h) (inr g) = s.apart o d j h g

single_unqueued : (c p since : ℕ) (rest : List Queued) (v : Counts) → v.queue c ≡ record { object = p; epoch = since } ∷ rest
    → Single v.queued v.queue → Single (unqueued c p rest v).queued (unqueued c p rest v).queue
single_unqueued c p since rest v front s = record {
  marks = λ o d h. put_other v.queued p false o (other o d h) ∙ s.marks o d (was o d h);
  once = put_all (λ d xs. Once xs) v.queue c rest first.1 (λ j _. s.once j);
  apart = λ o d j h g. s.apart o d j (was o d h) (was o j g);
}
  where
    first : Once (record { object = p; epoch = since } ∷ rest)
    first = subst Once front (s.once c)

    was : (o d : ℕ) → Stands o (put v.queue c rest d) → Stands o (v.queue d)
    was o = put_all (λ d xs. Stands o xs → Stands o (v.queue d)) v.queue c rest (λ h. subst (Stands o) (sym front) (inr h)) (λ j _ h. h)

    other : (o d : ℕ) → Stands o (put v.queue c rest d) → o ≢ p
    other o = put_all (λ d xs. Stands o xs → o ≢ p) v.queue c rest (λ h e. first.0 (subst (λ z. Stands z rest) e h))
        (λ j ne h e. ne (s.apart p j c (subst (λ z. Stands z (v.queue j)) e h) (subst (Stands p) (sym front) (inl refl))))

-- all entries but those of one object
abbrev Others : Counts → ℕ → Type 0
Others v p = (d : ℕ) → Each (λ x. x.object ≢ p → IsSettled v x) (v.queue d)

settled_enqueued : (c p : ℕ) (v : Counts) → v.queued p ≡ false → Single v.queued v.queue → Others v p → Settled (enqueued c p v)
settled_enqueued c p v new s f = record {
  single = single_enqueued c p v new s;
  settled = put_all (λ d xs. Each (IsSettled (enqueued c p v)) xs) v.queue c (v.queue c ++ entry ∷ [])
      (each_end (IsSettled (enqueued c p v)) (v.queue c) entry (old c) here) (λ j _. old j);
}
  where
    entry : Queued
    entry = record { object = p; epoch = v.epoch }

    old : (d : ℕ) → Each (IsSettled (enqueued c p v)) (v.queue d)
    old d = each_map (λ x. (v.queued x.object ≡ true) × (x.object ≢ p → IsSettled v x)) (IsSettled (enqueued c p v)) (v.queue d)
        (λ x h nil clean. let ne : x.object ≢ p = λ e. clash h.0 (ap v.queued e ∙ new) in
        h.1 ne nil (sym (put_other v.dirty p false x.object ne) ∙ clean))
        (each_both (λ x. v.queued x.object ≡ true) (λ x. x.object ≢ p → IsSettled v x) (v.queue d)
        (each_in (λ x. v.queued x.object ≡ true) (v.queue d) (λ x h. s.marks x.object d h)) (f d))

    here : IsSettled (enqueued c p v) entry
    here nil clean = go (entry_or_none v.cores (λ j. v.delta j p))
      where
        go : ((j : ℕ) × (j < v.cores) × (v.delta j p ≢ None)) ⊎ ((j : ℕ) → j < v.cores → v.delta j p ≡ None) → Untouched (enqueued c p v) p v.epoch
        go (inl h) = inl (h.0, h.1, h.2, now)
          where
            now : (v.epoch + 1 < v.epoch) ⊎ ((v.epoch ≡ v.epoch + 1) × (v.flushed h.0 ≡ true)) → ⊥
            now (inl l) = omega (arith, l)
            now (inr l) = let e = l.0 in omega (arith, e)
        go (inr h) = inr h

-- entries that stay where cells of the object's column stay
same_column : (v w : Counts) (o epoch : ℕ) → w.cores ≡ v.cores → w.epoch ≡ v.epoch → w.flushed ≡ v.flushed
    → ((j : ℕ) → w.delta j o ≡ v.delta j o) → Untouched v o epoch → Untouched w o epoch
same_column v w o epoch cores time flushed same (inl h) =
    inl (h.0, subst (λ z. h.0 < z) (sym cores) h.1, λ gone. h.2 (sym (same h.0) ∙ gone), λ s. h.3 (back s))
  where
    back : IsSwept epoch w h.0 → IsSwept epoch v h.0
    back (inl l) = inl (subst (λ z. epoch + 1 < z) time l)
    back (inr l) = inr (sym time ∙ l.0, sym (ap (λ g. g h.0) flushed) ∙ l.1)
same_column v w o epoch cores time flushed same (inr h) = inr (λ j lt. same j ∙ h j (subst (λ z. j < z) cores lt))

settled_evicted : (c p : ℕ) (v : Counts) → Settled v → Settled (evicted c p v)
settled_evicted c p v f =
    by_notice Settled c p m
    (λ nil queued. record {
      single = f.single;
      settled = λ d. each_map (λ x. x.object ≢ p → IsSettled m x) (IsSettled (soiled p m)) (v.queue d)
          (λ x h. by_object x (λ ne nil2 clean. h ne nil2 (sym (put_other v.dirty p true x.object ne) ∙ clean))
          (λ e _ clean. absurd (clash (ap (put v.dirty p true) e ∙ put_same v.dirty p true) clean))) (others d);
    })
    (λ nil new. settled_enqueued c p m new f.single others)
    (λ more. record {
      single = f.single;
      settled = λ d. each_map (λ x. x.object ≢ p → IsSettled m x) (IsSettled m) (v.queue d)
          (λ x h. by_object x h (λ e nil _. absurd (more (sym (ap m.global e) ∙ nil)))) (others d);
    })
  where
    m : Counts
    m = drained c p v

    by_object : {A : Type 0} (x : Queued) → (x.object ≢ p → A) → (x.object ≡ p → A) → A
    by_object {A} x other same = go (same_or_not x.object p)
      where
        go : (x.object ≡ p) ⊎ (x.object ≢ p) → A
        go (inl e) = same e
        go (inr ne) = other ne

    others : (d : ℕ) → Each (λ x. x.object ≢ p → IsSettled (drained c p v) x) (v.queue d)
    others d = each_map (IsSettled v) (λ x. x.object ≢ p → IsSettled (drained c p v) x) (v.queue d)
        (λ x h ne nil clean. same_column v (drained c p v) x.object x.epoch refl refl refl (λ j. cell_column v.delta c p None j x.object ne)
        (h (sym (put_other v.global p (v.global p +ℤ delta_of v c p) x.object ne) ∙ nil) clean)) (f.settled d)

settled_added : (c p : ℕ) (by : ℤ) (v : Counts) → pos 0 <ℤ true_count v p → Settled v → Settled (added c p by v)
settled_added c p by v more f = record {
  single = f.single;
  settled = λ d. each_map (IsSettled v) (IsSettled (added c p by v)) (v.queue d)
      (λ x h nil clean. go x nil (h nil clean) (same_or_not x.object p)) (f.settled d);
}
  where
    go : (x : Queued) → v.global x.object ≡ pos 0 → Untouched v x.object x.epoch → (x.object ≡ p) ⊎ (x.object ≢ p) → Untouched (added c p by v) x.object x.epoch
    go x nil u (inr ne) = same_column v (added c p by v) x.object x.epoch refl refl refl
        (λ j. cell_column v.delta c p (Some (delta_of v c p +ℤ by)) j x.object ne) u
    go x nil (inr none) (inl e) =
        let a : true_count v x.object ≡ v.global x.object = count_clear v x.object none in
        let b : true_count v p ≡ pos 0 = subst (λ z. true_count v z ≡ pos 0) e (a ∙ nil) in
        absurd (omega (arith, ints, more, b))
    go x nil (inl h) (inl e) = inl (h.0, h.1, entry (same_or_not h.0 c), h.3)
      where
        entry : (h.0 ≡ c) ⊎ (h.0 ≢ c) → (added c p by v).delta h.0 x.object ≢ None
        entry (inl same) gone =
            let new : (added c p by v).delta c p ≡ Some (delta_of v c p +ℤ by) = cell_same v.delta c p (Some (delta_of v c p +ℤ by)) in
            let a : (added c p by v).delta c p ≡ None = subst (λ z. (added c p by v).delta c z ≡ None) e
            (subst (λ z. (added c p by v).delta z x.object ≡ None) same gone) in
            let both : Some (delta_of v c p +ℤ by) ≡ None = sym new ∙ a in
            cc
        entry (inr ne) gone = h.2 (sym (cell_row v.delta c p (Some (delta_of v c p +ℤ by)) h.0 x.object ne) ∙ gone)

settled_begun : (p k : ℕ) (v : Counts) → IsUnused v p → Settled v → Settled (begun p k v)
settled_begun p k v u f = record {
  single = f.single;
  settled = λ d. each_map (λ x. (v.queued x.object ≡ true) × IsSettled v x) (IsSettled (begun p k v)) (v.queue d)
      (λ x h nil clean. let ne : x.object ≢ p = λ e. clash h.0 (ap v.queued e ∙ u.unqueued) in h.1 (sym (put_other v.global p (pos k) x.object ne) ∙ nil) clean)
      (each_both (λ x. v.queued x.object ≡ true) (IsSettled v) (v.queue d) (each_in (λ x. v.queued x.object ≡ true) (v.queue d)
      (λ x h. f.single.marks x.object d h)) (f.settled d));
}

settled_marked : (c : ℕ) (v : Counts) → IsClear v c → Settled v → Settled (marked c v)
settled_marked c v clear f = record {
  single = f.single;
  settled = λ d. each_map (IsSettled v) (IsSettled (marked c v)) (v.queue d) (λ x h nil clean. go x (h nil clean)) (f.settled d);
}
  where
    go : (x : Queued) → Untouched v x.object x.epoch → Untouched (marked c v) x.object x.epoch
    go x (inr none) = inr none
    go x (inl h) = inl (h.0, h.1, h.2, swept)
      where
        swept : IsSwept x.epoch (marked c v) h.0 → ⊥
        swept (inl l) = h.3 (inl l)
        swept (inr l) = by_core (was_put v.flushed c h.0 l.1)
          where
            by_core : (h.0 ≡ c) ⊎ (v.flushed h.0 ≡ true) → ⊥
            by_core (inl e) = h.2 (ap (λ z. v.delta z x.object) e ∙ clear x.object)
            by_core (inr m) = h.3 (inr (l.0, m))

settled_ended : (c : ℕ) (v : Counts) → IsClear v c → AllFlushed (marked c v) → Settled v → Settled (ended v)
settled_ended c v clear all f = record {
  single = f.single;
  settled = λ d. each_map (IsSettled v) (IsSettled (ended v)) (v.queue d) (λ x h nil clean. go x (h nil clean)) (f.settled d);
}
  where
    go : (x : Queued) → Untouched v x.object x.epoch → Untouched (ended v) x.object x.epoch
    go x (inr none) = inr none
    go x (inl h) = inl (h.0, h.1, h.2, swept)
      where
        swept : IsSwept x.epoch (ended v) h.0 → ⊥
        swept (inr l) = clash l.1 refl
        swept (inl l) = time (less_or_not (x.epoch + 1) v.epoch)
          where
            time : (x.epoch + 1 < v.epoch) ⊎ (v.epoch ≤ x.epoch + 1) → ⊥
            time (inl more) = h.3 (inl more)
            time (inr less) = by_core (was_put v.flushed c h.0 (all h.0 h.1))
              where
                by_core : (h.0 ≡ c) ⊎ (v.flushed h.0 ≡ true) → ⊥
                by_core (inl e) = h.2 (ap (λ z. v.delta z x.object) e ∙ clear x.object)
                by_core (inr m) = h.3 (inr (omega (arith, l, less), m))

settled_unqueued : (c p since : ℕ) (rest : List Queued) (v : Counts) → v.queue c ≡ record { object = p; epoch = since } ∷ rest → Settled v
    → Settled (unqueued c p rest v)
settled_unqueued c p since rest v front f = record {
  single = single_unqueued c p since rest v front f.single;
  settled = put_all (λ d xs. Each (IsSettled v) xs) v.queue c rest (subst (Each (IsSettled v)) front (f.settled c)).1 (λ j _. f.settled j);
}

settled_room : (v : Counts) (c p : ℕ) (by : ℤ) (m : Counts) → c < v.cores → MakesRoom v c p by m → Settled v → Settled m × (true_count m p ≡ true_count v p)
settled_room v c p by m lt (inl h) f = (subst Settled (sym h.1) f, ap (λ w. true_count w p) h.1)
settled_room v c p by m lt (inr h) f = (subst Settled (sym h.2) (settled_evicted c h.0 v f), ap (λ w. true_count w p) h.2 ∙ count_evicted c h.0 v lt p)

settled_add : (v : Counts) (c p : ℕ) (by : ℤ) (m : Counts) → c < v.cores → pos 0 <ℤ true_count v p → MakesRoom v c p by m → Settled v → Settled (added c p by m)
settled_add v c p by m lt more h f =
    let r = settled_room v c p by m lt h f in
    settled_added c p by m (subst (λ z. pos 0 <ℤ z) (sym r.1) more) r.0

settled_flush : (v : Counts) (c : ℕ) (r : Flush) (w : Counts) → Flushes v c r w → Settled v → Settled w
settled_flush v c (flush.Evicted p) w h f = subst Settled (sym h.2) (settled_evicted c p v f)
settled_flush v c flush.Flushed w h f = subst Settled (sym h.3) (settled_marked c v h.0 f)
settled_flush v c flush.EpochEnded w h f = subst Settled (sym h.4) (settled_ended c v h.0 h.2 f)
settled_flush v c flush.Idle w h f = subst Settled (sym h.2) f

settled_review : (v : Counts) (c : ℕ) (r : Review) (w : Counts) → Reviews v c r w → Settled v → Settled w
settled_review v c (review.Freed p) w h f = subst Settled (sym h.4) (settled_unqueued c p h.1.since h.0 v h.1.front f)
settled_review v c (review.Requeued p) w h f =
    let m = unqueued c p h.0 v in
    let g = settled_unqueued c p h.1.since h.0 v h.1.front f in
    subst Settled (sym h.4) (settled_enqueued c p m (put_same v.queued p false) g.single
    (λ d. each_map (IsSettled m) (λ x. x.object ≢ p → IsSettled m x) (m.queue d) (λ x s _. s) (g.settled d)))
settled_review v c (review.Dropped p) w h f = subst Settled (sym h.3) (settled_unqueued c p h.1.since h.0 v h.1.front f)
settled_review v c review.Idle w h f = subst Settled (sym h.1) f

pub settled : (v : Counts) (s : CountStep) (w : Counts) → Takes v s w → Settled v → Settled w
settled v (Begin p k) w h f = subst Settled (sym h.3) (settled_begun p k v h.0 f)
settled v (Inc c p) w h f = subst Settled (sym h.1.4) (settled_add v c p (pos 1) h.1.2 h.1.0 h.1.1 h.1.3 f)
settled v (Dec c p) w h f = subst Settled (sym h.4) (settled_add v c p (negsuc 0) h.2 h.0 h.1 h.3 f)
settled v (Flushing c r) w h f = settled_flush v c r w h.1 f
settled v (Reviewing c r) w h f = settled_review v c r w h.1 f

pub settled_open : (n m : ℕ) → Settled (no_counts n m)
settled_open n m = record { single = record { marks = λ o d h. absurd h; once = λ d. tt; apart = λ o d j h g. absurd h }; settled = λ d. tt }

-- an object is freed with nothing left
pub unused : (v : Counts) (c o : ℕ) (w : Counts) → Reviews v c (review.Freed o) w → Settled v → IsUnused w o
unused v c o w h f = subst (λ z. IsUnused z o) (sym h.4) (record {
  zero = count_clear v o none ∙ h.2;
  entries = none;
  unqueued = put_same v.queued o false;
})
  where
    none : (j : ℕ) → j < v.cores → v.delta j o ≡ None
    none = go ((subst (Each (IsSettled v)) h.1.front (f.settled c)).0 h.2 h.3)
      where
        go : Untouched v o h.1.since → (j : ℕ) → j < v.cores → v.delta j o ≡ None
        go (inl u) = let time = h.1.time in absurd (u.3 (inl (omega (arith, time))))
        go (inr u) = u
