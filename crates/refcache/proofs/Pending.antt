-- An object whose true count fell to 0 in epoch e, until it is freed.
use Rattle.std.proofs.Common.{◌≡◌, ◌≢◌, ℕ, suc, ◌≤◌, ◌<◌, ◌+◌, Bool, true, false, refl, sym, ap, subst, arith, ℤ, pos, negsuc, ◌+ℤ◌, ◌<ℤ◌}
use Rattle.std.proofs.Common.{◌∙◌, List, [], ◌∷◌, ◌++◌, Some, None, ◌⊎◌, inl, inr}
use Rattle.std.proofs.lemmas.Int.{ints}
use lib.Dec.{leb}
use Rattle.std.proofs.lemmas.Bool.Decides.{leb_tells}
use Rattle.refcache.specs.declared.reports.Queued.{Queued}
use Rattle.refcache.specs.declared.reports.Flush.{Flush}
use Rattle.refcache.specs.declared.reports.Review.{Review}
use Rattle.refcache.specs.declared.reports.Flush.TheVariants as flush
use Rattle.refcache.specs.declared.reports.Review.TheVariants as review
use Rattle.vm_base.specs.Functions.{put}
use Rattle.refcache.specs.Counts.{Counts, delta_of, true_count, enqueued, unqueued, soiled, drained, evicted, added, begun, marked, ended}
use Rattle.refcache.specs.Steps.{Begin, Inc, Dec, Flushing, Reviewing, Takes, MakesRoom, HasEntry, IsUnused, IsClear, AllFlushed, Flushes, Reviews}
use Rattle.refcache.specs.Steps.{CountStep}
use Rattle.vm_base.proofs.Functions.{put_all, put_same, put_other}
use Rattle.refcache.proofs.Sums.{same_or_not, cell_same, cell_row, cell_column}
use Rattle.refcache.proofs.Lists.{Each, each_map, each_end}
use Rattle.refcache.proofs.Queues.{Queues, Behind, by_notice, was_put}
use Rattle.refcache.proofs.TrueCount.{count_drained, count_added_other, count_begun_other, count_clear, entry_or_none}

pub less_or_not : (a b : ℕ) → (a < b) ⊎ (b ≤ a)
less_or_not a b = go (leb_tells (suc a) b)
  where
    go : ((leb (suc a) b ≡ true) × (suc a ≤ b)) ⊎ ((leb (suc a) b ≡ false) × (b < suc a)) → (a < b) ⊎ (b ≤ a)
    go (inl h) = let l = h.1 in inl (omega (arith, l))
    go (inr h) = let l = h.1 in inr (omega (arith, l))

-- an entry of the object is left, or the object is queued at a global count of 0
abbrev pub Waits : Counts → ℕ → Type 0
Waits v o = ((c : ℕ) × (c < v.cores) × HasEntry v c o) ⊎ ((v.queued o ≡ true) × (v.global o ≡ pos 0))

-- the core has been without entries since epoch e + 1 began
abbrev pub IsSwept : ℕ → Counts → ℕ → Type 0
IsSwept e v c = (e + 1 < v.epoch) ⊎ ((v.epoch ≡ e + 1) × (v.flushed c ≡ true))

-- an entry of the object in a queue is of the time of its last eviction, or it is clean, and of the next review
abbrev pub IsSoon : ℕ → Bool → ℕ → Type 0
IsSoon e dirty epoch = (epoch ≤ e + 1) ⊎ ((dirty ≡ false) × (epoch ≤ e + 3))

pub record Pending (e o : ℕ) (v : Counts) : Type 0 where
  pub since : e ≤ v.epoch
  pub none : true_count v o ≡ pos 0
  pub waits : Waits v o
  pub swept : (c : ℕ) → c < v.cores → IsSwept e v c → v.delta c o ≡ None
  pub soon : (d : ℕ) → Each (λ x. x.object ≡ o → IsSoon e (v.dirty o) x.epoch) (v.queue d)

clash : {b : Bool} → b ≡ true → b ≡ false → ⊥
clash h g = cc

-- steps on another object

pending_begun : (e o p k : ℕ) (v : Counts) → IsUnused v p → Pending e o v → Pending e o (begun p k v)
pending_begun e o p k v u f = go (same_or_not o p)
  where
    go : (o ≡ p) ⊎ (o ≢ p) → Pending e o (begun p k v)
    go (inl same) = absurd (still f.waits)
      where
        still : Waits v o → ⊥
        still (inl w) = w.2 (subst (λ z. v.delta w.0 z ≡ None) (sym same) (u.entries w.0 w.1))
        still (inr w) = clash w.0 (subst (λ z. v.queued z ≡ false) (sym same) u.unqueued)
    go (inr ne) = record {
      since = f.since;
      none = count_begun_other p k v o ne ∙ f.none;
      waits = still f.waits;
      swept = f.swept;
      soon = f.soon;
    }
      where
        still : Waits v o → Waits (begun p k v) o
        still (inl w) = inl w
        still (inr w) = inr (w.0, put_other v.global p (pos k) o ne ∙ w.1)

pending_added : (e o c p : ℕ) (by : ℤ) (v : Counts) → o ≢ p → Pending e o v → Pending e o (added c p by v)
pending_added e o c p by v ne f = record {
  since = f.since;
  none = count_added_other c p by v o ne ∙ f.none;
  waits = still f.waits;
  swept = λ j lt s. same j ∙ f.swept j lt s;
  soon = f.soon;
}
  where
    same : (j : ℕ) → (added c p by v).delta j o ≡ v.delta j o
    same j = cell_column v.delta c p (Some (delta_of v c p +ℤ by)) j o ne

    still : Waits v o → Waits (added c p by v) o
    still (inl w) = inl (w.0, w.1, λ no. w.2 (sym (same w.0) ∙ no))
    still (inr w) = inr w

pending_drained : (e o c p : ℕ) (v : Counts) → c < v.cores → o ≢ p → Pending e o v → Pending e o (drained c p v)
pending_drained e o c p v lt ne f = record {
  since = f.since;
  none = count_drained c p v lt o ∙ f.none;
  waits = still f.waits;
  swept = λ j l s. same j ∙ f.swept j l s;
  soon = f.soon;
}
  where
    same : (j : ℕ) → (drained c p v).delta j o ≡ v.delta j o
    same j = cell_column v.delta c p None j o ne

    still : Waits v o → Waits (drained c p v) o
    still (inl w) = inl (w.0, w.1, λ no. w.2 (sym (same w.0) ∙ no))
    still (inr w) = inr (w.0, put_other v.global p (v.global p +ℤ delta_of v c p) o ne ∙ w.1)

pending_soiled : (e o p : ℕ) (v : Counts) → o ≢ p → Pending e o v → Pending e o (soiled p v)
pending_soiled e o p v ne f = record {
  since = f.since;
  none = f.none;
  waits = f.waits;
  swept = f.swept;
  soon = λ d. subst (λ b. Each (λ x. x.object ≡ o → IsSoon e b x.epoch) (v.queue d)) (sym (put_other v.dirty p true o ne)) (f.soon d);
}

pending_enqueued : (e o c p : ℕ) (v : Counts) → o ≢ p → Pending e o v → Pending e o (enqueued c p v)
pending_enqueued e o c p v ne f =
    let new : Queued = record { object = p; epoch = v.epoch } in
    record {
      since = f.since;
      none = f.none;
      waits = still f.waits;
      swept = f.swept;
      soon = λ d. subst (λ b. Each (λ x. x.object ≡ o → IsSoon e b x.epoch) ((enqueued c p v).queue d)) (sym (put_other v.dirty p false o ne))
          (put_all (λ d xs. Each (λ x. x.object ≡ o → IsSoon e (v.dirty o) x.epoch) xs) v.queue c (v.queue c ++ new ∷ [])
          (each_end (λ x. x.object ≡ o → IsSoon e (v.dirty o) x.epoch) (v.queue c) new (f.soon c) (λ same. absurd (ne (sym same)))) (λ j _. f.soon j) d);
    }
  where
    still : Waits v o → Waits (enqueued c p v) o
    still (inl w) = inl w
    still (inr w) = inr (put_other v.queued p true o ne ∙ w.0, w.1)

pending_evicted_other : (e o c p : ℕ) (v : Counts) → c < v.cores → o ≢ p → Pending e o v → Pending e o (evicted c p v)
pending_evicted_other e o c p v lt ne f =
    let g = pending_drained e o c p v lt ne f in
    by_notice (Pending e o) c p (drained c p v)
    (λ _ _. pending_soiled e o p (drained c p v) ne g)
    (λ _ _. pending_enqueued e o c p (drained c p v) ne g)
    (λ _. g)

-- the rest of a queue
soon_rest : (e o c p since : ℕ) (rest : List Queued) (v : Counts) → v.queue c ≡ record { object = p; epoch = since } ∷ rest → Pending e o v
    → (d : ℕ) → Each (λ x. x.object ≡ o → IsSoon e (v.dirty o) x.epoch) (put v.queue c rest d)
soon_rest e o c p since rest v front f =
    put_all (λ d xs. Each (λ x. x.object ≡ o → IsSoon e (v.dirty o) x.epoch) xs) v.queue c rest
    (subst (Each (λ x. x.object ≡ o → IsSoon e (v.dirty o) x.epoch)) front (f.soon c)).1 (λ j _. f.soon j)

-- an object off a queue, where o still waits
pending_without : (e o c p since : ℕ) (rest : List Queued) (v : Counts)
    → v.queue c ≡ record { object = p; epoch = since } ∷ rest
    → (Waits v o → Waits (unqueued c p rest v) o) → Pending e o v → Pending e o (unqueued c p rest v)
pending_without e o c p since rest v front still f = record {
  since = f.since;
  none = f.none;
  waits = still f.waits;
  swept = f.swept;
  soon = soon_rest e o c p since rest v front f;
}

pending_unqueued : (e o c p since : ℕ) (rest : List Queued) (v : Counts)
    → v.queue c ≡ record { object = p; epoch = since } ∷ rest
    → o ≢ p → Pending e o v → Pending e o (unqueued c p rest v)
pending_unqueued e o c p since rest v front ne f = pending_without e o c p since rest v front still f
  where
    still : Waits v o → Waits (unqueued c p rest v) o
    still (inl w) = inl w
    still (inr w) = inr (put_other v.queued p false o ne ∙ w.0, w.1)

-- steps on the object itself

pending_dropped : (e o c since : ℕ) (rest : List Queued) (v : Counts)
    → v.queue c ≡ record { object = o; epoch = since } ∷ rest
    → v.global o ≢ pos 0 → Pending e o v → Pending e o (unqueued c o rest v)
pending_dropped e o c since rest v front ne f = pending_without e o c o since rest v front still f
  where
    still : Waits v o → Waits (unqueued c o rest v) o
    still (inl w) = inl w
    still (inr w) = absurd (ne w.1)

-- while it is dirty, its entries are of the time of its last eviction
early : (e : ℕ) (epoch : ℕ) (b : Bool) → b ≡ true → IsSoon e b epoch → epoch ≤ e + 1
early e epoch b h (inl l) = l
early e epoch b h (inr s) = absurd (clash h s.0)

pending_requeued : (e o c since : ℕ) (rest : List Queued) (v : Counts) → v.queue c ≡ record { object = o; epoch = since } ∷ rest
    → v.global o ≡ pos 0 → v.dirty o ≡ true → (v.epoch ≤ e + 3) ⊎ Behind v c (e + 3) → Pending e o v → Pending e o (enqueued c o (unqueued c o rest v))
pending_requeued e o c since rest v front nil dirty time f =
    let new : Queued = record { object = o; epoch = v.epoch } in
    let m = unqueued c o rest v in
    record {
      since = f.since;
      none = f.none;
      waits = inr (put_same m.queued o true, nil);
      swept = f.swept;
      soon = λ d. subst (λ b. Each (λ x. x.object ≡ o → IsSoon e b x.epoch) ((enqueued c o m).queue d)) (sym (put_same m.dirty o false))
          (put_all (λ d xs. Each (λ x. x.object ≡ o → IsSoon e false x.epoch) xs) m.queue c (m.queue c ++ new ∷ [])
          (each_end (λ x. x.object ≡ o → IsSoon e false x.epoch) (m.queue c) new (old c) (λ _. inr (refl, now time)))
          (λ j _. old j) d);
    }
  where
    old : (d : ℕ) → Each (λ x. x.object ≡ o → IsSoon e false x.epoch) (put v.queue c rest d)
    old d = each_map (λ x. x.object ≡ o → IsSoon e (v.dirty o) x.epoch) (λ x. x.object ≡ o → IsSoon e false x.epoch) (put v.queue c rest d)
        (λ x h same. inl (early e x.epoch (v.dirty o) dirty (h same))) (soon_rest e o c o since rest v front f d)

    first : IsSoon e (v.dirty o) since
    first = (subst (Each (λ x. x.object ≡ o → IsSoon e (v.dirty o) x.epoch)) front (f.soon c)).0 refl

    now : (v.epoch ≤ e + 3) ⊎ Behind v c (e + 3) → v.epoch ≤ e + 3
    now (inl l) = l
    now (inr b) =
        let late : e + 3 < since + 2 = (subst (Each (λ x. e + 3 < x.epoch + 2)) front b).0 in
        let s : since ≤ e + 1 = early e since (v.dirty o) dirty first in
        absurd (omega (arith, late, s))

pending_evicted : (e o c : ℕ) (v : Counts) → c < v.cores → HasEntry v c o → Queues v → Pending e o v → Pending e o (evicted c o v)
pending_evicted e o c v lt entry q f =
    by_notice (Pending e o) c o m
    (λ nil queued. record {
      since = f.since;
      none = none;
      waits = inr (queued, nil);
      swept = swept;
      soon = λ d. all (put v.dirty o true o) (v.queue d) (q.past d);
    })
    (λ nil unqueued. record {
      since = f.since;
      none = none;
      waits = inr (put_same v.queued o true, nil);
      swept = swept;
      soon = put_all (λ d xs. Each (λ x. x.object ≡ o → IsSoon e (put v.dirty o false o) x.epoch) xs) v.queue c
          (v.queue c ++ record { object = o; epoch = v.epoch } ∷ [])
          (each_end (λ x. x.object ≡ o → IsSoon e (put v.dirty o false o) x.epoch) (v.queue c) (record { object = o; epoch = v.epoch })
          (all (put v.dirty o false o) (v.queue c) (q.past c)) (λ _. inl now))
          (λ j _. all (put v.dirty o false o) (v.queue j) (q.past j));
    })
    (λ other. record { since = f.since; none = none; waits = left other (entry_or_none v.cores (λ j. m.delta j o)); swept = swept; soon = f.soon })
  where
    m : Counts
    m = drained c o v

    now : v.epoch ≤ e + 1
    now = go (less_or_not (e + 1) v.epoch)
      where
        go : (e + 1 < v.epoch) ⊎ (v.epoch ≤ e + 1) → v.epoch ≤ e + 1
        go (inl l) = absurd (entry (f.swept c lt (inl l)))
        go (inr l) = l

    none : true_count (drained c o v) o ≡ pos 0
    none = count_drained c o v lt o ∙ f.none

    swept : (j : ℕ) → j < v.cores → IsSwept e v j → (drained c o v).delta j o ≡ None
    swept j l s = go (same_or_not j c)
      where
        go : (j ≡ c) ⊎ (j ≢ c) → (drained c o v).delta j o ≡ None
        go (inl same) = ap (λ z. (drained c o v).delta z o) same ∙ cell_same v.delta c o None
        go (inr ne) = cell_row v.delta c o None j o ne ∙ f.swept j l s

    all : (b : Bool) (xs : List Queued) → Each (λ x. x.epoch ≤ v.epoch) xs → Each (λ x. x.object ≡ o → IsSoon e b x.epoch) xs
    all b xs h = each_map (λ x. x.epoch ≤ v.epoch) (λ x. x.object ≡ o → IsSoon e b x.epoch) xs (λ x l _. let n = now in inl (omega (arith, l, n))) h

    left : (drained c o v).global o ≢ pos 0 → ((j : ℕ) × (j < v.cores) × ((drained c o v).delta j o ≢ None))
        ⊎ ((j : ℕ) → j < v.cores → (drained c o v).delta j o ≡ None) → Waits (drained c o v) o
    left other (inl w) = inl w
    left other (inr w) = absurd (other (sym (count_clear (drained c o v) o w) ∙ none))

-- marks and epochs

pending_marked : (e o c : ℕ) (v : Counts) → IsClear v c → Pending e o v → Pending e o (marked c v)
pending_marked e o c v clear f = record { since = f.since; none = f.none; waits = f.waits; swept = swept; soon = f.soon }
  where
    swept : (j : ℕ) → j < v.cores → IsSwept e (marked c v) j → v.delta j o ≡ None
    swept j l (inl s) = f.swept j l (inl s)
    swept j l (inr s) = go (was_put v.flushed c j s.1)
      where
        go : (j ≡ c) ⊎ (v.flushed j ≡ true) → v.delta j o ≡ None
        go (inl same) = ap (λ z. v.delta z o) same ∙ clear o
        go (inr h) = f.swept j l (inr (s.0, h))

pending_ended : (e o c : ℕ) (v : Counts) → IsClear v c → AllFlushed (marked c v) → Pending e o v → Pending e o (ended v)
pending_ended e o c v clear all f = let up = f.since in record { since = omega (arith, up); none = f.none; waits = f.waits; swept = swept; soon = f.soon }
  where
    swept : (j : ℕ) → j < v.cores → IsSwept e (ended v) j → v.delta j o ≡ None
    swept j l (inr s) = absurd (clash s.1 refl)
    swept j l (inl s) = go (less_or_not (e + 1) v.epoch)
      where
        go : (e + 1 < v.epoch) ⊎ (v.epoch ≤ e + 1) → v.delta j o ≡ None
        go (inl more) = f.swept j l (inl more)
        go (inr less) = mark (was_put v.flushed c j (all j l))
          where
            mark : (j ≡ c) ⊎ (v.flushed j ≡ true) → v.delta j o ≡ None
            mark (inl same) = ap (λ z. v.delta z o) same ∙ clear o
            mark (inr h) = f.swept j l (inr (omega (arith, s, less), h))

-- a step keeps it, or frees the object
abbrev pub StillPends : ℕ → ℕ → CountStep → Counts → Type 0
StillPends e o s w = Pending e o w ⊎ ((c : ℕ) × (s ≡ Reviewing c (review.Freed o)))

pending_room : (e o : ℕ) (v : Counts) (c p : ℕ) (by : ℤ) (m : Counts) → c < v.cores → MakesRoom v c p by m → Queues v → Pending e o v → Pending e o m
pending_room e o v c p by m lt (inl h) q f = subst (Pending e o) (sym h.1) f
pending_room e o v c p by m lt (inr h) q f = subst (Pending e o) (sym h.2) (go (same_or_not o h.0))
  where
    go : (o ≡ h.0) ⊎ (o ≢ h.0) → Pending e o (evicted c h.0 v)
    go (inl same) = subst (λ z. Pending e o (evicted c z v)) same (pending_evicted e o c v lt (subst (HasEntry v c) (sym same) h.1.entry) q f)
    go (inr ne) = pending_evicted_other e o c h.0 v lt ne f

-- an object at true count 0 isn't counted up or down
not_counted : (e o p : ℕ) (v : Counts) → pos 0 <ℤ true_count v p → Pending e o v → o ≢ p
not_counted e o p v more f same =
    let a : true_count v o ≡ pos 0 = f.none in
    let b : true_count v p ≡ pos 0 = subst (λ z. true_count v z ≡ pos 0) same a in
    omega (arith, ints, more, b)

pending_flush : (e o : ℕ) (v : Counts) (c : ℕ) (r : Flush) (w : Counts) → c < v.cores → Flushes v c r w → Queues v → Pending e o v → Pending e o w
pending_flush e o v c (flush.Evicted p) w lt h q f = subst (Pending e o) (sym h.2) (go (same_or_not o p))
  where
    go : (o ≡ p) ⊎ (o ≢ p) → Pending e o (evicted c p v)
    go (inl same) = subst (λ z. Pending e o (evicted c z v)) same (pending_evicted e o c v lt (subst (HasEntry v c) (sym same) h.0) q f)
    go (inr ne) = pending_evicted_other e o c p v lt ne f
pending_flush e o v c flush.Flushed w lt h q f = subst (Pending e o) (sym h.3) (pending_marked e o c v h.0 f)
pending_flush e o v c flush.EpochEnded w lt h q f = subst (Pending e o) (sym h.4) (pending_ended e o c v h.0 h.2 f)
pending_flush e o v c flush.Idle w lt h q f = subst (Pending e o) (sym h.2) f

pending_review : (e o : ℕ) (v : Counts) (c : ℕ) (r : Review) (w : Counts) → Reviews v c r w → (v.epoch ≤ e + 3) ⊎ Behind v c (e + 3)
    → Pending e o v → StillPends e o (Reviewing c r) w
pending_review e o v c (review.Freed p) w h time f = go (same_or_not o p)
  where
    go : (o ≡ p) ⊎ (o ≢ p) → StillPends e o (Reviewing c (review.Freed p)) w
    go (inl same) = inr (c, ap (λ z. Reviewing c (review.Freed z)) (sym same))
    go (inr ne) = inl (subst (Pending e o) (sym h.4) (pending_unqueued e o c p h.1.since h.0 v h.1.front ne f))
pending_review e o v c (review.Requeued p) w h time f = inl (subst (Pending e o) (sym h.4) (go (same_or_not o p)))
  where
    go : (o ≡ p) ⊎ (o ≢ p) → Pending e o (enqueued c p (unqueued c p h.0 v))
    go (inl same) = subst (λ z. Pending e o (enqueued c z (unqueued c z h.0 v))) same
        (pending_requeued e o c h.1.since h.0 v (h.1.front ∙ ap (λ z. record { object = z; epoch = h.1.since } ∷ h.0) (sym same))
        (ap v.global same ∙ h.2) (ap v.dirty same ∙ h.3) time f)
    go (inr ne) = pending_enqueued e o c p (unqueued c p h.0 v) ne (pending_unqueued e o c p h.1.since h.0 v h.1.front ne f)
pending_review e o v c (review.Dropped p) w h time f = inl (subst (Pending e o) (sym h.3) (go (same_or_not o p)))
  where
    go : (o ≡ p) ⊎ (o ≢ p) → Pending e o (unqueued c p h.0 v)
    go (inl same) = subst (λ z. Pending e o (unqueued c z h.0 v)) same
        (pending_dropped e o c h.1.since h.0 v (h.1.front ∙ ap (λ z. record { object = z; epoch = h.1.since } ∷ h.0) (sym same))
        (λ nil. h.2 (ap v.global (sym same) ∙ nil)) f)
    go (inr ne) = pending_unqueued e o c p h.1.since h.0 v h.1.front ne f
pending_review e o v c review.Idle w h time f = inl (subst (Pending e o) (sym h.1) f)

pub pending : (e o : ℕ) (v : Counts) (s : CountStep) (w : Counts) → Takes v s w → Queues v
    → ((c : ℕ) → c < v.cores → (v.epoch ≤ e + 3) ⊎ Behind v c (e + 3)) → Pending e o v → StillPends e o s w
pending e o v (Begin p k) w h q time f = inl (subst (Pending e o) (sym h.3) (pending_begun e o p k v h.0 f))
pending e o v (Inc c p) w h q time f = inl
    (subst (Pending e o) (sym h.1.4) (pending_added e o c p (pos 1) h.1.2 (not_counted e o p v h.1.1 f)
    (pending_room e o v c p (pos 1) h.1.2 h.1.0 h.1.3 q f)))
pending e o v (Dec c p) w h q time f = inl
    (subst (Pending e o) (sym h.4) (pending_added e o c p (negsuc 0) h.2 (not_counted e o p v h.1 f)
    (pending_room e o v c p (negsuc 0) h.2 h.0 h.3 q f)))
pending e o v (Flushing c r) w h q time f = inl (pending_flush e o v c r w h.0 h.1 q f)
pending e o v (Reviewing c r) w h q time f = pending_review e o v c r w h.1 (time c h.0) f
