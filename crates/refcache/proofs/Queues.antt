-- Review queues over the steps: they keep their order, epochs never fall, and a queued object stands in a queue.
use Rattle.std.proofs.Common.{◌≡◌, ◌≢◌, ℕ, ◌≤◌, ◌<◌, ◌+◌, Bool, true, false, cond, refl, sym, ap, subst, arith, ℤ, pos, negsuc, ◌∙◌, List}
use Rattle.std.proofs.Common.{[], ◌∷◌, ◌++◌, ◌⊎◌, inl, inr, Option}
use Rattle.std.specs.Ordering.{int_eq}
use Rattle.std.proofs.lemmas.Bool.Decides.{Decides-int_eq}
use Rattle.refcache.specs.declared.reports.Queued.{Queued}
use Rattle.refcache.specs.declared.reports.Flush.{Flush}
use Rattle.refcache.specs.declared.reports.Review.{Review}
use Rattle.refcache.specs.declared.reports.Flush.TheVariants as flush
use Rattle.refcache.specs.declared.reports.Review.TheVariants as review
use Rattle.vm_base.specs.Functions.{put}
use Rattle.refcache.specs.Counts.{Counts, no_counts, enqueued, unqueued, soiled, drained, noticed, evicted, added, begun, marked, ended}
use Rattle.refcache.specs.Steps.{Begin, Inc, Dec, Flushing, Reviewing, Takes, MakesRoom, Flushes, Reviews, IsQuiet}
use Rattle.refcache.specs.Steps.{CountStep}
use Rattle.vm_base.proofs.Functions.{by_test, put_all, put_same, put_other}
use Rattle.refcache.proofs.Sums.{same_or_not}
use Rattle.refcache.proofs.Lists.{Each, Rising, Stands, each_map, each_end, rising_end, stands_end, end_stands}

-- an eviction leads to one of three: the object was queued and is dirty now, it is queued now, or its count isn't 0
pub by_notice : (Q : Counts → Type 0) (c o : ℕ) (m : Counts)
    → (m.global o ≡ pos 0 → m.queued o ≡ true → Q (soiled o m))
    → (m.global o ≡ pos 0 → m.queued o ≡ false → Q (enqueued c o m))
    → (m.global o ≢ pos 0 → Q m) → Q (noticed c o m)
by_notice Q c o m dirty clean other =
    by_test Q (int_eq (m.global o) (pos 0)) (cond (m.queued o) (soiled o m) (enqueued c o m)) m
    (λ z. let zero : m.global o ≡ pos 0 = (Decides-int_eq (m.global o) (pos 0)).0 z in
    by_test Q (m.queued o) (soiled o m) (enqueued c o m) (dirty zero) (clean zero))
    (λ z. other (λ e. clash (int_eq (m.global o) (pos 0)) ((Decides-int_eq (m.global o) (pos 0)).1 e) z))
  where
    clash : (b : Bool) → b ≡ true → b ≡ false → ⊥
    clash true h g = cc
    clash false h g = cc

pub record Queues (v : Counts) : Type 0 where
  pub past : (d : ℕ) → Each (λ x. x.epoch ≤ v.epoch) (v.queue d)
  pub rising : (d : ℕ) → Rising (v.queue d)
  pub found : (o : ℕ) → v.queued o ≡ true → (d : ℕ) × (d < v.cores) × Stands o (v.queue d)

-- what a core's queue has was queued too late to be reviewed in the epoch
abbrev pub Behind : Counts → ℕ → ℕ → Type 0
Behind v d epoch = Each (λ x. epoch < x.epoch + 2) (v.queue d)

-- what each step keeps
pub record Later (v w : Counts) : Type 0 where
  pub cores : w.cores ≡ v.cores
  pub objects : w.objects ≡ v.objects
  pub epoch : v.epoch ≤ w.epoch
  pub queues : Queues v → Queues w
  pub behind : (d epoch : ℕ) → epoch ≤ v.epoch → Behind v d epoch → Behind w d epoch

pub later_same : (v : Counts) → Later v v
later_same v = record { cores = refl; objects = refl; epoch = omega arith; queues = λ q. q; behind = λ d e l b. b }

pub later_then : (u v w : Counts) → Later u v → Later v w → Later u w
later_then u v w f g =
    let up = f.epoch in
    let up2 = g.epoch in
    record {
      cores = g.cores ∙ f.cores;
      objects = g.objects ∙ f.objects;
      epoch = omega (arith, up, up2);
      queues = λ q. g.queues (f.queues q);
      behind = λ d e l b. g.behind d e (omega (arith, l, up)) (f.behind d e l b);
    }

-- a step that changes no queue, and no mark of what is queued
beside : (v : Counts) (global : ℕ → ℤ) (dirty : ℕ → Bool) (delta : ℕ → ℕ → Option ℤ) (flushed : ℕ → Bool)
    → Later v (record v { global = global; dirty = dirty; delta = delta; flushed = flushed })
beside v global dirty delta flushed = record {
  cores = refl;
  objects = refl;
  epoch = omega arith;
  queues = λ q. record {
    past = q.past;
    rising = q.rising;
    found = q.found;
  };
  behind = λ d e l b. b;
}

later_drained : (c o : ℕ) (v : Counts) → Later v (drained c o v)
later_drained c o v = beside v _ _ _ _

later_added : (c o : ℕ) (by : ℤ) (v : Counts) → Later v (added c o by v)
later_added c o by v = beside v _ _ _ _

later_soiled : (o : ℕ) (v : Counts) → Later v (soiled o v)
later_soiled o v = beside v _ _ _ _

later_begun : (o k : ℕ) (v : Counts) → Later v (begun o k v)
later_begun o k v = beside v _ _ _ _

later_marked : (c : ℕ) (v : Counts) → Later v (marked c v)
later_marked c v = beside v _ _ _ _

pub later_ended : (v : Counts) → Later v (ended v)
later_ended v = record {
  cores = refl;
  objects = refl;
  epoch = omega arith;
  queues = λ q. record {
    past = λ d. each_map (λ x. x.epoch ≤ v.epoch) (λ x. x.epoch ≤ v.epoch + 1) (v.queue d) (λ x l. omega (arith, l)) (q.past d);
    rising = q.rising;
    found = q.found;
  };
  behind = λ d e l b. b;
}

-- a mark that was set, or set before
pub was_put : (f : ℕ → Bool) (k : ℕ) (j : ℕ) → put f k true j ≡ true → (j ≡ k) ⊎ (f j ≡ true)
was_put f k j h = go (same_or_not j k)
  where
    go : (j ≡ k) ⊎ (j ≢ k) → (j ≡ k) ⊎ (f j ≡ true)
    go (inl e) = inl e
    go (inr ne) = inr (sym (put_other f k true j ne) ∙ h)

pub was_other : (f : ℕ → Bool) (k : ℕ) (j : ℕ) → put f k false j ≡ true → (j ≢ k) × (f j ≡ true)
was_other f k j h = go (same_or_not j k)
  where
    go : (j ≡ k) ⊎ (j ≢ k) → (j ≢ k) × (f j ≡ true)
    go (inl e) =
        let a : put f k false j ≡ false = ap (put f k false) e ∙ put_same f k false in
        let b : true ≡ false = sym h ∙ a in
        absurd cc
    go (inr ne) = (ne, sym (put_other f k false j ne) ∙ h)

abbrev at_end : List Queued → ℕ → ℕ → List Queued
at_end xs o epoch = xs ++ record { object = o; epoch = epoch } ∷ []

pub later_enqueued : (c o : ℕ) (v : Counts) → c < v.cores → Later v (enqueued c o v)
later_enqueued c o v lt =
    let new : Queued = record { object = o; epoch = v.epoch } in
    record {
      cores = refl;
      objects = refl;
      epoch = omega arith;
      queues = λ q. record {
        past = put_all (λ d xs. Each (λ x. x.epoch ≤ v.epoch) xs) v.queue c (v.queue c ++ new ∷ [])
            (each_end (λ x. x.epoch ≤ v.epoch) (v.queue c) new (q.past c) (omega arith)) (λ j _. q.past j);
        rising = put_all (λ d xs. Rising xs) v.queue c (v.queue c ++ new ∷ []) (rising_end (v.queue c) new (q.rising c) (q.past c)) (λ j _. q.rising j);
        found = λ p h. found q new p (was_put v.queued o p h);
      };
      behind = λ d e l b. put_all (λ d xs. Each (λ x. e < x.epoch + 2) (v.queue d) → Each (λ x. e < x.epoch + 2) xs) v.queue c (v.queue c ++ new ∷ [])
          (λ h. each_end (λ x. e < x.epoch + 2) (v.queue c) new h (omega (arith, l))) (λ j _ h. h) d b;
    }
  where
    found : Queues v → (new : Queued) → (p : ℕ) → (p ≡ o) ⊎ (v.queued p ≡ true) → (d : ℕ) × (d < v.cores)
        × Stands p (put v.queue c (at_end (v.queue c) o v.epoch) d)
    found q new p (inl e) = (
      c,
      lt,
      subst (Stands p) (sym (put_same v.queue c (at_end (v.queue c) o v.epoch)))
          (subst (λ z. Stands z (at_end (v.queue c) o v.epoch)) (sym e) (end_stands (v.queue c) (record { object = o; epoch = v.epoch }))),
    )
    found q new p (inr h) =
        let f = q.found p h in (
          f.0,
          f.1,
          put_all (λ d xs. Stands p (v.queue d) → Stands p xs) v.queue c (at_end (v.queue c) o v.epoch)
              (stands_end (v.queue c) (record { object = o; epoch = v.epoch }) p) (λ j _ s. s) f.0 f.2,
        )

pub later_unqueued : (c o since : ℕ) (rest : List Queued) (v : Counts) → v.queue c ≡ record { object = o; epoch = since } ∷ rest → Later v (unqueued c o rest v)
later_unqueued c o since rest v front = record {
  cores = refl;
  objects = refl;
  epoch = omega arith;
  queues = λ q. record {
    past = put_all (λ d xs. Each (λ x. x.epoch ≤ v.epoch) xs) v.queue c rest (tail_each (λ x. x.epoch ≤ v.epoch) (q.past c)) (λ j _. q.past j);
    rising = put_all (λ d xs. Rising xs) v.queue c rest (subst Rising front (q.rising c)).1 (λ j _. q.rising j);
    found = λ p h.
        let g = was_other v.queued o p h in
        let f = q.found p g.1 in
        (f.0, f.1, put_all (λ d xs. Stands p (v.queue d) → Stands p xs) v.queue c rest (λ s. stays p g.0 (subst (Stands p) front s)) (λ j _ s. s) f.0 f.2);
  };
  behind = λ d e l b. put_all (λ d xs. Each (λ x. e < x.epoch + 2) (v.queue d) → Each (λ x. e < x.epoch + 2) xs) v.queue c rest
      (tail_each (λ x. e < x.epoch + 2)) (λ j _ h. h) d b;
}
  where
    tail_each : (P : Queued → Type 0) → Each P (v.queue c) → Each P rest
    tail_each P h = (subst (Each P) front h).1

    stays : (p : ℕ) → p ≢ o → Stands p (record { object = o; epoch = since } ∷ rest) → Stands p rest
    stays p ne (inl e) = absurd (ne (sym e))
    stays p ne (inr s) = s

pub later_evicted : (c o : ℕ) (v : Counts) → c < v.cores → Later v (evicted c o v)
later_evicted c o v lt =
    by_notice (Later v) c o (drained c o v)
    (λ _ _. later_then v (drained c o v) (soiled o (drained c o v)) (later_drained c o v) (later_soiled o (drained c o v)))
    (λ _ _. later_then v (drained c o v) (enqueued c o (drained c o v)) (later_drained c o v) (later_enqueued c o (drained c o v) lt))
    (λ _. later_drained c o v)

later_room : (v : Counts) (c o : ℕ) (by : ℤ) (m : Counts) → c < v.cores → MakesRoom v c o by m → Later v m
later_room v c o by m lt (inl h) = subst (Later v) (sym h.1) (later_same v)
later_room v c o by m lt (inr h) = subst (Later v) (sym h.2) (later_evicted c h.0 v lt)

later_flush : (v : Counts) (c : ℕ) (f : Flush) (w : Counts) → c < v.cores → Flushes v c f w → Later v w
later_flush v c (flush.Evicted o) w lt h = subst (Later v) (sym h.2) (later_evicted c o v lt)
later_flush v c flush.Flushed w lt h = subst (Later v) (sym h.3) (later_marked c v)
later_flush v c flush.EpochEnded w lt h = subst (Later v) (sym h.4) (later_ended v)
later_flush v c flush.Idle w lt h = subst (Later v) (sym h.2) (later_same v)

later_review : (v : Counts) (c : ℕ) (r : Review) (w : Counts) → c < v.cores → Reviews v c r w → Later v w
later_review v c (review.Freed o) w lt h = subst (Later v) (sym h.4) (later_unqueued c o h.1.since h.0 v h.1.front)
later_review v c (review.Requeued o) w lt h = subst (Later v) (sym h.4)
    (later_then v (unqueued c o h.0 v) (enqueued c o (unqueued c o h.0 v)) (later_unqueued c o h.1.since h.0 v h.1.front)
    (later_enqueued c o (unqueued c o h.0 v) lt))
later_review v c (review.Dropped o) w lt h = subst (Later v) (sym h.3) (later_unqueued c o h.1.since h.0 v h.1.front)
later_review v c review.Idle w lt h = subst (Later v) (sym h.1) (later_same v)

pub later : (v : Counts) (s : CountStep) (w : Counts) → Takes v s w → Later v w
later v (Begin o k) w h = subst (Later v) (sym h.3) (later_begun o k v)
later v (Inc c o) w h = subst (Later v) (sym h.1.4)
    (later_then v h.1.2 (added c o (pos 1) h.1.2) (later_room v c o (pos 1) h.1.2 h.1.0 h.1.3) (later_added c o (pos 1) h.1.2))
later v (Dec c o) w h = subst (Later v) (sym h.4) (later_then v h.2 (added c o (negsuc 0) h.2) (later_room v c o (negsuc 0) h.2 h.0 h.3)
    (later_added c o (negsuc 0) h.2))
later v (Flushing c f) w h = later_flush v c f w h.0 h.1
later v (Reviewing c r) w h = later_review v c r w h.0 h.1

pub queues_open : (n m : ℕ) → Queues (no_counts n m)
queues_open n m = record { past = λ d. tt; rising = λ d. tt; found = λ o h. absurd (never h) }
  where
    never : false ≡ true → ⊥
    never h = cc

-- after a review that found nothing more, the queue is behind in the epoch
pub quiet_behind : (v : Counts) (d : ℕ) → Queues v → IsQuiet v.epoch (v.queue d) → Behind v d v.epoch
quiet_behind v d q h = go (v.queue d) (q.rising d) h
  where
    go : (xs : List Queued) → Rising xs → IsQuiet v.epoch xs → Each (λ x. v.epoch < x.epoch + 2) xs
    go [] r h = tt
    go (x ∷ xs) r h = (h, each_map (λ y. x.epoch ≤ y.epoch) (λ y. v.epoch < y.epoch + 2) xs (λ y l. omega (arith, l, h)) r.0)
