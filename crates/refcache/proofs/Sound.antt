-- What the standing invariant gives, and that each step keeps it.
use Rattle.std.proofs.Common.{◌≡◌, ◌≢◌, ℕ, suc, ◌≤◌, ◌<◌, ◌+◌, ◌==◌, ◌||◌, Bool, true, false, refl, sym, ap, subst, arith, ◌∙◌, List, []}
use Rattle.std.proofs.Common.{◌∷◌, ◌++◌, map, length, None, inl, inr}
use Rattle.std.specs.List.{AllByRecursion, IsDistinct, list_any}
use Rattle.std.proofs.lemmas.Bool.Decides.{nat_tests}
use Rattle.std.proofs.lemmas.Map.Steps.{length-le_from_distinct_below}
use Rattle.refcache.specs.declared.reports.Queued.{Queued}
use Rattle.refcache.specs.declared.reports.Review.TheVariants as review
use Rattle.refcache.specs.Counts.{Counts, no_counts}
use Rattle.refcache.specs.Steps.{Reviewing, Takes, Moment, IsRun, IsUnused, last, CountStep}
use Rattle.refcache.specs.Places.{entries}
use Rattle.refcache.specs.Parts.{Parts, counts_of, core_at, rooms, CanEvict}
use Rattle.refcache.specs.Sound.{AreReached, IsSound}
use Rattle.refcache.proofs.Lists.{Each, Once, Stands}
use Rattle.refcache.proofs.Queues.{later}
use Rattle.refcache.proofs.Settled.{Settled, settled, settled_open, unused}
use Rattle.refcache.proofs.Held.{Held, Counted, held, open_held, counted, counted_open, global_small}

pub record Known (v : Counts) : Type 0 where
  pub settled : Settled v
  pub held : Held v
  pub counted : Counted v

known_run : (v : Counts) (xs : List Moment) → IsRun v xs → Known v → Known (last v xs)
known_run v [] r k = k
known_run v (x ∷ xs) r k = known_run x.counts xs r.1 (record {
  settled = settled v x.step x.counts r.0 k.settled;
  held = held v x.step x.counts r.0 k.held;
  counted = counted v x.step x.counts r.0 k.counted;
})

pub known : (v : Counts) → AreReached v → Known v
known v r = subst Known r.end (known_run (no_counts v.cores v.objects) r.run r.steps (record {
  settled = settled_open v.cores v.objects;
  held = open_held v.cores v.objects;
  counted = counted_open v.cores v.objects;
}))

-- one more step of a run
run_more : (u : Counts) (xs : List Moment) (x : Moment) → IsRun u xs → Takes (last u xs) x.step x.counts → IsRun u (xs ++ x ∷ [])
run_more u [] x r t = (t, tt)
run_more u (y ∷ ys) x r t = (r.0, run_more y.counts ys x r.1 t)

last_more : (u : Counts) (xs : List Moment) (x : Moment) → last u (xs ++ x ∷ []) ≡ x.counts
last_more u [] x = refl
last_more u (y ∷ ys) x = last_more y.counts ys x

pub reached_on : (v : Counts) (s : CountStep) (w : Counts) → AreReached v → Takes v s w → AreReached w
reached_on v s w r t =
    let x : Moment = record { step = s; counts = w } in
    let l = later v s w t in
    let same : no_counts w.cores w.objects ≡ no_counts v.cores v.objects = ap (λ n. no_counts n w.objects) l.cores ∙ ap (no_counts v.cores) l.objects in
    let there : Takes (last (no_counts v.cores v.objects) r.run) s w = subst (λ u. Takes u s w) (sym r.end) t in
    record {
      run = r.run ++ x ∷ [];
      steps = subst (λ u. IsRun u (r.run ++ x ∷ [])) (sym same) (run_more (no_counts v.cores v.objects) r.run x r.steps there);
      end = subst (λ u. last u (r.run ++ x ∷ []) ≡ w) (sym same) (last_more (no_counts v.cores v.objects) r.run x);
    }

pub reached_open : (v : Counts) (n m : ℕ) → v ≡ no_counts n m → AreReached v
reached_open v n m e = subst AreReached (sym e) (record { run = []; steps = tt; end = refl })

pub sound_open : (p : Parts) (n m : ℕ) → n ≤ 64 → counts_of p ≡ no_counts n m → ((c : ℕ) → c < n → rooms p c ≡ m + 1) → p.epochs.cores ≡ n → IsSound p
sound_open p n m few e room epochs =
    let cores : length p.cores ≡ n = ap (λ v. v.cores) e in
    let objects : length p.objects ≡ m = ap (λ v. v.objects) e in
    record {
      few = omega (arith, few, cores);
      reached = reached_open (counts_of p) n m e;
      room = λ c lt. room c (omega (arith, lt, cores)) ∙ ap (λ k. k + 1) (sym objects);
      epochs = epochs ∙ sym cores;
    }

pub sound_on : (p q : Parts) (s : CountStep) → IsSound p → Takes (counts_of p) s (counts_of q) → rooms q ≡ rooms p → q.epochs.cores ≡ p.epochs.cores → IsSound q
sound_on p q s f t room epochs =
    let l = later (counts_of p) s (counts_of q) t in
    let cores : length q.cores ≡ length p.cores = l.cores in
    let objects : length q.objects ≡ length p.objects = l.objects in
    let few = f.few in
    record {
      few = omega (arith, few, cores);
      reached = reached_on (counts_of p) s (counts_of q) f.reached t;
      room = λ c lt. ap (λ g. g c) room ∙ f.room c (omega (arith, lt, cores)) ∙ ap (λ k. k + 1) (sym objects);
      epochs = epochs ∙ f.epochs ∙ sym cores;
    }

-- a queue has no object twice, so it has no more entries than there are objects
apart : (o : ℕ) (xs : List Queued) → (Stands o xs → ⊥) → AllByRecursion (λ p. (o == p) ≡ false) (map (λ x. x.object) xs)
apart o [] h = tt
apart o (x ∷ xs) h =
    let ne : x.object ≢ o = λ e. h (inl e) in
    (grind (arith, nat_tests), apart o xs (λ s. h (inr s)))

distinct : (xs : List Queued) → Once xs → IsDistinct (◌==◌) (map (λ x. x.object) xs)
unfolding IsDistinct
distinct [] h = tt
distinct (x ∷ xs) h = (apart x.object xs h.0, distinct xs h.1)

below : (n : ℕ) (xs : List Queued) → Each (λ x. x.object < n) xs → (q : ℕ) → list_any (λ p. q == p) (map (λ x. x.object) xs) ≡ true → q < n
below n [] h q e = absurd (clash e)
  where
    clash : false ≡ true → ⊥
    clash z = cc
below n (x ∷ xs) h q e = go (below n xs h.1 q) (q == x.object) refl
  where
    go : (list_any (λ p. q == p) (map (λ x. x.object) xs) ≡ true → q < n) → (b : Bool) → (q == x.object) ≡ b → q < n
    go more true t = let same : q ≡ x.object = grind (arith, nat_tests) in let lt = h.0 in omega (arith, same, lt)
    go more false t = more (sym (ap (λ b. b || list_any (λ p. q == p) (map (λ x. x.object) xs)) t) ∙ e)

length_objects : (xs : List Queued) → length (map (λ x. x.object) xs) ≡ length xs
length_objects [] = refl
length_objects (x ∷ xs) = ap suc (length_objects xs)

pub queue_short : (n : ℕ) (xs : List Queued) → Once xs → Each (λ x. x.object < n) xs → length xs ≤ n
queue_short n xs once each =
    let l = length-le_from_distinct_below (map (λ x. x.object) xs) n (distinct xs once) (below n xs each) in
    let e = length_objects xs in
    omega (arith, l, e)

-- every entry of a core may be evicted
pub ready : (p : Parts) (c o : ℕ) → IsSound p → c < length p.cores → entries (core_at p.cores c).places o ≢ None → CanEvict p c o
ready p c o f lt has =
    let k = known (counts_of p) f.reached in
    let short = queue_short (length p.objects) (core_at p.cores c).queue (k.settled.single.once c) (k.held.queues c) in
    let room = f.room c lt in
    record {
      core = lt;
      object = (k.held.rows c).inside o has;
      entry = has;
      room = omega (arith, short, room);
      count = global_small (counts_of p) o f.few k.held k.counted;
    }

-- the front of a queue is an object that there is
pub front_below : (v : Counts) (c : ℕ) (x : Queued) (rest : List Queued) → AreReached v → v.queue c ≡ x ∷ rest → x.object < v.objects
front_below v c x rest reached front = (subst (Each (λ x. x.object < v.objects)) front ((known v reached).held.queues c)).0

pub front_inside : (p : Parts) (c : ℕ) (x : Queued) (rest : List Queued) → IsSound p → (core_at p.cores c).queue ≡ x ∷ rest → x.object < length p.objects
front_inside p c x rest f front = front_below (counts_of p) c x rest f.reached front

pub freed_unused : (p q : Parts) (c o : ℕ) → IsSound p → Takes (counts_of p) (Reviewing c (review.Freed o)) (counts_of q) → IsUnused (counts_of q) o
freed_unused p q c o f t = unused (counts_of p) c o (counts_of q) t.1 (known (counts_of p) f.reached).settled

-- the front of a queue is marked as queued
pub queued_front : (v : Counts) (c o since : ℕ) (rest : List Queued) → AreReached v → v.queue c ≡ record { object = o; epoch = since } ∷ rest
    → v.queued o ≡ true
queued_front v c o since rest r front = (known v r).settled.single.marks o c (subst (Stands o) (sym front) (inl refl))
