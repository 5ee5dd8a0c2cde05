-- A change of the pieces is a change of the counts that they stand for.
use Rattle.std.proofs.Common.{◌≡◌, ◌≢◌, ℕ, zero, suc, ◌≤◌, ◌<◌, ◌%◌, ◌^◌, ◌+◌, ◌==◌, Bool, true, false, cond, refl, sym, ap, subst, ℤ, pos}
use Rattle.std.proofs.Common.{◌+ℤ◌, ◌∙◌, List, [], ◌∷◌, ◌++◌, length, Option, Some, None, slice_index_or, slice_set, unwrap_or, ◌⊎◌, inl}
use Rattle.std.proofs.Common.{inr}
use Rattle.std.specs.Ordering.{int_eq}
use Rattle.std.proofs.Math.Path.{fun_ext}
use Rattle.std.proofs.lemmas.List.{get_or-set_same, get_or-set_other, length-set}
use Rattle.refcache.specs.declared.object_count.ObjectCount.{ObjectCount}
use Rattle.refcache.specs.declared.reports.Queued.{Queued}
use Rattle.vm_base.specs.Functions.{put}
use Rattle.refcache.specs.Counts.{Counts, no_counts, drained, soiled, enqueued, unqueued, noticed, evicted, added, begun}
use Rattle.refcache.specs.Places.{entries, if_its}
use Rattle.refcache.specs.Pieces.{Core, EvictsInto, IsFront, ReviewsPiece, IsNewCore, IsNewCount}
use Rattle.std.specs.List.{All}
use Rattle.std.proofs.Math.ListN.{get_or-eq_default}
use Rattle.refcache.proofs.Way.{way_without, no_members}
use Rattle.refcache.proofs.Queues.{by_notice}
use Rattle.refcache.proofs.Pending.{less_or_not}
use Rattle.refcache.specs.declared.reports.Flush.{Flush}
use Rattle.refcache.specs.declared.reports.Flush.TheVariants as flush
use Rattle.refcache.specs.declared.reports.Review.{Review}
use Rattle.refcache.specs.declared.reports.Review.TheVariants as review
use Rattle.refcache.specs.Steps.{IsInTheWay, Begin, Takes, IsUnused, IsClear, IsQuiet, Flushes, Reviews}
use Rattle.refcache.specs.Steps.{IsReviewDue}
use Rattle.vm_base.specs.Cores.{members}
use Rattle.refcache.specs.Epochs.{Epoch, AllMarked, Marks}
use Rattle.refcache.specs.Parts.{Parts, object_at, core_at, counts_of}
use Rattle.vm_base.proofs.Functions.{put_same, put_other, by_test, eq_true, eq_false}
use Rattle.refcache.proofs.Sums.{same_or_not}

set_same : {A : Type 0} (xs : List A) (k : ℕ) (x d : A) → k < length xs → slice_index_or (slice_set xs k x) k d ≡ x
set_same xs k x d lt = get_or-set_same xs k x d lt

set_other : {A : Type 0} (xs : List A) (k : ℕ) (x d : A) (j : ℕ) → j ≢ k → slice_index_or (slice_set xs k x) j d ≡ slice_index_or xs j d
set_other xs k x d j ne = get_or-set_other xs k j x d ne

-- what is read of the items
abbrev reads : {A V : Type 0} → (A → V) → List A → A → ℕ → V
reads f xs d j = f (slice_index_or xs j d)

-- one item changes: what is read of it is put there
pub read_put : {A V : Type 0} (f : A → V) (xs : List A) (k : ℕ) (x d : A) (v : V) → k < length xs → f x ≡ v
    → reads f (slice_set xs k x) d ≡ put (reads f xs d) k v
read_put f xs k x d v lt e = fun_ext (λ j.
    by_test (λ z. f (slice_index_or (slice_set xs k x) j d) ≡ z) (j == k) v (f (slice_index_or xs j d))
    (λ t. ap (λ i. f (slice_index_or (slice_set xs k x) i d)) (eq_true j k t) ∙ ap f (set_same xs k x d lt) ∙ e)
    (λ t. ap f (set_other xs k x d j (eq_false j k t))))

-- and nothing changes where the new item reads as the old
pub read_kept : {A V : Type 0} (f : A → V) (xs : List A) (k : ℕ) (x d : A) → k < length xs → f x ≡ f (slice_index_or xs k d)
    → reads f (slice_set xs k x) d ≡ reads f xs d
read_kept f xs k x d lt e = fun_ext (λ j. go j (same_or_not j k))
  where
    go : (j : ℕ) → (j ≡ k) ⊎ (j ≢ k) → f (slice_index_or (slice_set xs k x) j d) ≡ f (slice_index_or xs j d)
    go j (inl s) = ap (λ i. f (slice_index_or (slice_set xs k x) i d)) s ∙ ap f (set_same xs k x d lt) ∙ e ∙ ap (λ i. f (slice_index_or xs i d)) (sym s)
    go j (inr ne) = ap f (set_other xs k x d j ne)

-- counts are the same if each of their fields is
same_counts : (v w : Counts) → v.cores ≡ w.cores → v.objects ≡ w.objects → v.epoch ≡ w.epoch → v.global ≡ w.global → v.queued ≡ w.queued
    → v.dirty ≡ w.dirty → v.delta ≡ w.delta → v.queue ≡ w.queue → v.flushed ≡ w.flushed → v ≡ w
same_counts v w a i b c d e f g h =
    let s7 : Counts = record w { cores = v.cores } in
    let s6 : Counts = record s7 { objects = v.objects } in
    let s5 : Counts = record s6 { epoch = v.epoch } in
    let s4 : Counts = record s5 { global = v.global } in
    let s3 : Counts = record s4 { queued = v.queued } in
    let s2 : Counts = record s3 { dirty = v.dirty } in
    let s1 : Counts = record s2 { delta = v.delta } in
    let s0 : Counts = record s1 { queue = v.queue } in
    let p0 : v ≡ s0 = ap (λ x. let y : Counts = record s0 { flushed = x } in y) h in
    let p1 : s0 ≡ s1 = ap (λ x. let y : Counts = record s1 { queue = x } in y) g in
    let p2 : s1 ≡ s2 = ap (λ x. let y : Counts = record s2 { delta = x } in y) f in
    let p3 : s2 ≡ s3 = ap (λ x. let y : Counts = record s3 { dirty = x } in y) e in
    let p4 : s3 ≡ s4 = ap (λ x. let y : Counts = record s4 { queued = x } in y) d in
    let p5 : s4 ≡ s5 = ap (λ x. let y : Counts = record s5 { global = x } in y) c in
    let p6 : s5 ≡ s6 = ap (λ x. let y : Counts = record s6 { epoch = x } in y) b in
    let p7 : s6 ≡ s7 = ap (λ x. let y : Counts = record s7 { objects = x } in y) i in
    let p8 : s7 ≡ w = ap (λ x. let y : Counts = record w { cores = x } in y) a in
    p0 ∙ p1 ∙ p2 ∙ p3 ∙ p4 ∙ p5 ∙ p6 ∙ p7 ∙ p8

noticed_delta : (c o : ℕ) (m : Counts) (d : ℕ) → (noticed c o m).delta d ≡ m.delta d
noticed_delta c o m d = by_notice (λ w. w.delta d ≡ m.delta d) c o m (λ _ _. refl) (λ _ _. refl) (λ _. refl)

length_set : {A : Type 0} (xs : List A) (k : ℕ) (x : A) → length (slice_set xs k x) ≡ length xs
length_set xs k x = length-set xs k x

noticed_is : (c o : ℕ) (m : Counts) (b1 b2 : Bool) → int_eq (m.global o) (pos 0) ≡ b1 → m.queued o ≡ b2
    → noticed c o m ≡ cond b1 (cond b2 (soiled o m) (enqueued c o m)) m
noticed_is c o m b1 b2 e1 e2 =
    ap (λ b. cond b (cond (m.queued o) (soiled o m) (enqueued c o m)) m) e1 ∙ ap (λ b. cond b1 (cond b (soiled o m) (enqueued c o m)) m) e2

pub whole_evicted : (p : Parts) (c o : ℕ) (core : Core) (x : ObjectCount) → c < length p.cores → o < length p.objects
    → entries core.places ≡ put (entries (core_at p.cores c).places) o None
    → EvictsInto (core_at p.cores c) (object_at p.objects o) o p.epochs.number x core.queue
    → counts_of (record p { objects = slice_set p.objects o x; cores = slice_set p.cores c core }) ≡ evicted c o (counts_of p)
whole_evicted p c o core x inside object places h =
    go (int_eq g (pos 0)) (object_at p.objects o).is_queued refl refl h.1.1 (h.2 ∙ ap (λ b. cond b more old) h.1.0)
  where
    g : ℤ
    g = (object_at p.objects o).global +ℤ unwrap_or (entries (core_at p.cores c).places o) (pos 0)

    old : List Queued
    old = (core_at p.cores c).queue

    more : List Queued
    more = (core_at p.cores c).queue ++ record { object = o; epoch = p.epochs.number } ∷ []

    y : ObjectCount
    y = record (object_at p.objects o) { global = (object_at p.objects o).global +ℤ unwrap_or (entries (core_at p.cores c).places o) (pos 0) }

    none : ObjectCount
    none = record { global = pos 0; is_queued = false; is_dirty = false }

    no_core : Core
    no_core = record { places = []; queue = []; room = 0 }

    m : Counts
    m = drained c o (counts_of p)

    new : Counts
    new = counts_of (record p { objects = slice_set p.objects o x; cores = slice_set p.cores c core })

    globals : x.global ≡ g → new.global ≡ put (counts_of p).global o g
    globals e = read_put (λ z. z.global) p.objects o x none g object e

    deltas : new.delta ≡ put (counts_of p).delta c (put ((counts_of p).delta c) o None)
    deltas = read_put (λ k. entries k.places) p.cores c core no_core (put (entries (core_at p.cores c).places) o None) inside places

    queues_kept : core.queue ≡ old → new.queue ≡ (counts_of p).queue
    queues_kept e = read_kept (λ k. k.queue) p.cores c core no_core inside e

    go : (b1 b2 : Bool) → int_eq g (pos 0) ≡ b1 → (object_at p.objects o).is_queued ≡ b2
        → x ≡ cond b1 (cond b2 (record y { is_dirty = true }) (record y { is_queued = true; is_dirty = false })) y
        → core.queue ≡ cond (cond b1 (cond b2 false true) false) more old → new ≡ evicted c o (counts_of p)
    go b1 b2 e1 e2 ex eq = by_case b1 b2 ex eq ∙ sym (noticed_is c o m b1 b2 (ap (λ z. int_eq z (pos 0)) (put_same (counts_of p).global o g) ∙ e1) e2)
      where
        by_case : (b1 b2 : Bool) → x ≡ cond b1 (cond b2 (record y { is_dirty = true }) (record y { is_queued = true; is_dirty = false })) y
            → core.queue ≡ cond (cond b1 (cond b2 false true) false) more old → new ≡ cond b1 (cond b2 (soiled o m) (enqueued c o m)) m
        by_case false b2 ex eq = same_counts new m (length_set p.cores c core) (length_set p.objects o x) refl (globals (ap (λ z. z.global) ex))
            (read_kept (λ z. z.is_queued) p.objects o x none object (ap (λ z. z.is_queued) ex))
            (read_kept (λ z. z.is_dirty) p.objects o x none object (ap (λ z. z.is_dirty) ex)) deltas (queues_kept eq) refl
        by_case true true ex eq = same_counts new (soiled o m) (length_set p.cores c core) (length_set p.objects o x) refl (globals (ap (λ z. z.global) ex))
            (read_kept (λ z. z.is_queued) p.objects o x none object (ap (λ z. z.is_queued) ex))
            (read_put (λ z. z.is_dirty) p.objects o x none true object (ap (λ z. z.is_dirty) ex)) deltas (queues_kept eq) refl
        by_case true false ex eq = same_counts new (enqueued c o m) (length_set p.cores c core) (length_set p.objects o x) refl
            (globals (ap (λ z. z.global) ex))
            (read_put (λ z. z.is_queued) p.objects o x none true object (ap (λ z. z.is_queued) ex))
            (read_put (λ z. z.is_dirty) p.objects o x none false object (ap (λ z. z.is_dirty) ex)) deltas
            (read_put (λ k. k.queue) p.cores c core no_core more inside eq) refl

fields : (p : Parts) (new : Epoch) (e : ℕ) (f : ℕ → Bool) → new.number ≡ e → members new.flushed ≡ f
    → counts_of (record p { epochs = new }) ≡ record (counts_of p) { epoch = e; flushed = f }
fields p new e f a b =
    let w : Counts = record (counts_of p) { epoch = e; flushed = f } in
    same_counts (counts_of (record p { epochs = new })) w refl refl a refl refl refl refl refl b

-- a mark of the pieces is a flush of a core without entries
pub whole_marked : (p : Parts) (c : ℕ) (r : Flush) (new : Epoch) → p.epochs.cores ≡ length p.cores → IsClear (counts_of p) c
    → Marks p.epochs.cores p.epochs.number (members p.epochs.flushed) c r new.number (members new.flushed)
    → Flushes (counts_of p) c r (counts_of (record p { epochs = new }))
whole_marked p c (flush.Evicted o) new same clear h = absurd h
whole_marked p c flush.Flushed new same clear h =
    (clear, h.0, λ all. h.1 (λ d lt. all d (subst (λ z. d < z) same lt)), fields p new p.epochs.number (put (members p.epochs.flushed) c true) h.2 h.3)
whole_marked p c flush.EpochEnded new same clear h =
    (clear, h.0, λ d lt. h.1 d (subst (λ z. d < z) (sym same) lt), h.2, fields p new (p.epochs.number + 1) (λ d. false) h.3 h.4)
whole_marked p c flush.Idle new same clear h = (clear, idle h.0, fields p new p.epochs.number (members p.epochs.flushed) h.1 h.2)
  where
    idle : (members p.epochs.flushed c ≡ true) ⊎ (AllMarked p.epochs.cores (put (members p.epochs.flushed) c true) × (2 ^ 64 ≤ p.epochs.number + 1))
        → (members p.epochs.flushed c ≡ true) ⊎ (AllMarked (length p.cores) (put (members p.epochs.flushed) c true) × (2 ^ 64 ≤ p.epochs.number + 1))
    idle (inl m) = inl m
    idle (inr m) = inr (λ d lt. m.0 d (subst (λ z. d < z) (sym same) lt), m.1)

-- a review of the pieces is one of the counts
pub whole_reviewed : (p : Parts) (c : ℕ) (r : Review) (core : Core) (count : ObjectCount) (x : Queued) (rest : List Queued)
    → c < length p.cores → x.object < length p.objects → (core_at p.cores c).queue ≡ x ∷ rest → core.places ≡ (core_at p.cores c).places
    → ReviewsPiece (x ∷ rest) p.epochs.number (object_at p.objects x.object) r count core.queue
    → Reviews (counts_of p) c r (counts_of (record p { objects = slice_set p.objects x.object count; cores = slice_set p.cores c core }))
whole_reviewed p c r core count x rest inside object front places h = go r h
  where
    o : ℕ
    o = x.object

    v : Counts
    v = counts_of p

    none : ObjectCount
    none = record { global = pos 0; is_queued = false; is_dirty = false }

    no_core : Core
    no_core = record { places = []; queue = []; room = 0 }

    new : Counts
    new = counts_of (record p { objects = slice_set p.objects o count; cores = slice_set p.cores c core })

    globals : count.global ≡ (object_at p.objects o).global → new.global ≡ v.global
    globals e = read_kept (λ z. z.global) p.objects o count none object e

    deltas : new.delta ≡ v.delta
    deltas = read_kept (λ k. entries k.places) p.cores c core no_core inside (ap entries places)

    queues : (xs : List Queued) → core.queue ≡ xs → new.queue ≡ put v.queue c xs
    queues xs e = read_put (λ k. k.queue) p.cores c core no_core xs inside e

    taken : count ≡ record (object_at p.objects o) { is_queued = false } → core.queue ≡ rest → new ≡ unqueued c o rest v
    taken e q = same_counts new (unqueued c o rest v) (length_set p.cores c core) (length_set p.objects o count) refl (globals (ap (λ z. z.global) e))
        (read_put (λ z. z.is_queued) p.objects o count none false object (ap (λ z. z.is_queued) e))
        (read_kept (λ z. z.is_dirty) p.objects o count none object (ap (λ z. z.is_dirty) e)) deltas (queues rest q) refl

    twice : {V : Type 0} (f : ℕ → V) (k : ℕ) (a b : V) → put f k b ≡ put (put f k a) k b
    twice f k a b = fun_ext (λ j. by_test (λ z. put f k b j ≡ z) (j == k) b (put f k a j)
        (λ t. ap (put f k b) (eq_true j k t) ∙ put_same f k b) (λ t. put_other f k b j (eq_false j k t) ∙ sym (put_other f k a j (eq_false j k t))))

    again : count ≡ record (object_at p.objects o) { is_queued = true; is_dirty = false } → core.queue ≡ rest ++ record {
      object = o;
      epoch = p.epochs.number;
    } ∷ [] → new ≡ enqueued c o (unqueued c o rest v)
    again e q = same_counts new (enqueued c o (unqueued c o rest v)) (length_set p.cores c core) (length_set p.objects o count) refl
        (globals (ap (λ z. z.global) e))
        (read_put (λ z. z.is_queued) p.objects o count none true object (ap (λ z. z.is_queued) e) ∙ twice v.queued o false true)
        (read_put (λ z. z.is_dirty) p.objects o count none false object (ap (λ z. z.is_dirty) e)) deltas
        (queues (rest ++ record { object = o; epoch = p.epochs.number } ∷ []) q
        ∙ twice v.queue c rest (rest ++ record { object = o; epoch = p.epochs.number } ∷ [])
        ∙ ap (λ xs. put (put v.queue c rest) c (xs ++ record { object = o; epoch = p.epochs.number } ∷ [])) (sym (put_same v.queue c rest))) refl

    -- the code looked at the count, and left it as it was
    same : count ≡ object_at p.objects o → core.queue ≡ x ∷ rest → new ≡ v
    same e q = same_counts new v (length_set p.cores c core) (length_set p.objects o count) refl (globals (ap (λ z. z.global) e))
        (read_kept (λ z. z.is_queued) p.objects o count none object (ap (λ z. z.is_queued) e))
        (read_kept (λ z. z.is_dirty) p.objects o count none object (ap (λ z. z.is_dirty) e)) deltas
        (read_kept (λ k. k.queue) p.cores c core no_core inside (q ∙ sym front)) refl

    due : x.epoch + 2 ≤ p.epochs.number → IsReviewDue v c o rest
    due time = record { since = x.epoch; front = front; time = time }

    go : (r : Review) → ReviewsPiece (x ∷ rest) p.epochs.number (object_at p.objects x.object) r count core.queue → Reviews v c r new
    go (review.Dropped o') h = let d = h.1 in subst (λ z. Reviews v c (review.Dropped z) new) (sym d.0) (rest, due h.0, d.1, taken d.2 d.3)
    go (review.Freed o') h = let d = h.1 in subst (λ z. Reviews v c (review.Freed z) new) (sym d.0) (rest, due h.0, d.1, d.2, taken d.3 d.4)
    go (review.Requeued o') h = let d = h.1 in subst (λ z. Reviews v c (review.Requeued z) new) (sym d.0) (rest, due h.0, d.1, d.2, again d.3 d.4)
    go review.Idle h = (subst (IsQuiet p.epochs.number) (sym front) h.0, same h.1 h.2)

-- what stands at the front of a queue
pub front_is : (xs : List Queued) (x : Queued) → IsFront xs x → (rest : List Queued) × (xs ≡ x ∷ rest)
front_is [] x h = absurd h
front_is (y ∷ ys) x h = (ys, ap (λ z. z ∷ ys) (sym h))

-- a global count set in the pieces is an object's new beginning
pub whole_begun : (p : Parts) (o count : ℕ) (objects : List ObjectCount) → o < length p.objects → IsUnused (counts_of p) o → (1 ≤ count) × (count ≤ 2 ^ 40)
    → objects ≡ slice_set p.objects o (record (object_at p.objects o) { global = pos count })
    → Takes (counts_of p) (Begin o count) (counts_of (record p { objects = objects }))
whole_begun p o count objects inside unused few e = (
  unused,
  few.0,
  few.1,
  ap (λ xs. counts_of (record p { objects = xs })) e ∙ same_counts (counts_of (record p { objects = slice_set p.objects o x }))
      (begun o count (counts_of p)) refl (length_set p.objects o x) refl
      (read_put (λ z. z.global) p.objects o x none (pos count) inside refl)
      (read_kept (λ z. z.is_queued) p.objects o x none inside refl)
      (read_kept (λ z. z.is_dirty) p.objects o x none inside refl) refl refl refl,
  inside,
)
  where
    x : ObjectCount
    x = record (object_at p.objects o) { global = pos count }

    none : ObjectCount
    none = record { global = pos 0; is_queued = false; is_dirty = false }

-- a delta added in the pieces is added in the counts
pub whole_added : (p : Parts) (c o : ℕ) (by : ℤ) (core : Core) → c < length p.cores
    → entries core.places ≡ put (entries (core_at p.cores c).places) o (Some (unwrap_or (entries (core_at p.cores c).places o) (pos 0) +ℤ by))
    → core.queue ≡ (core_at p.cores c).queue
    → counts_of (record p { cores = slice_set p.cores c core }) ≡ added c o by (counts_of p)
whole_added p c o by core inside places queue =
    same_counts (counts_of (record p { cores = slice_set p.cores c core })) (added c o by (counts_of p)) (length_set p.cores c core) refl refl refl refl refl
    (read_put (λ k. entries k.places) p.cores c core no_core
    (put (entries (core_at p.cores c).places) o (Some (unwrap_or (entries (core_at p.cores c).places o) (pos 0) +ℤ by))) inside places)
    (read_kept (λ k. k.queue) p.cores c core no_core inside queue) refl
  where
    no_core : Core
    no_core = record { places = []; queue = []; room = 0 }

-- once what was in the way is evicted, nothing is
pub way_cleared : (p : Parts) (c o : ℕ) (by : ℤ) (q : ℕ) (new : Parts) → IsInTheWay (entries (core_at p.cores c).places) o by q
    → counts_of new ≡ evicted c q (counts_of p) → (r : ℕ) → IsInTheWay (entries (core_at new.cores c).places) o by r → ⊥
way_cleared p c o by q new way e = way_without (core_at p.cores c).places o by q (entries (core_at new.cores c).places) way left
  where
    left : entries (core_at new.cores c).places ≡ put (entries (core_at p.cores c).places) q None
    left = ap (λ v. v.delta c) e ∙ noticed_delta c q (drained c q (counts_of p)) c ∙ put_same (counts_of p).delta c (put ((counts_of p).delta c) q None)

-- the counts of the pieces as they are made
pub whole_opened : (objects : List ObjectCount) (cores : List Core) (n m room : ℕ) → length objects ≡ m → All IsNewCount objects
    → length cores ≡ n → All (IsNewCore room) cores
    → counts_of (record { objects = objects; cores = cores; epochs = record { cores = n; number = 0; flushed = 0 } }) ≡ no_counts n m
whole_opened objects cores n m room count zeros few new =
    same_counts (counts_of (record { objects = objects; cores = cores; epochs = record { cores = n; number = 0; flushed = 0 } })) (no_counts n m) few count refl
    (fun_ext (λ o. ap (λ z. z.global) (object o))) (fun_ext (λ o. ap (λ z. z.is_queued) (object o))) (fun_ext (λ o. ap (λ z. z.is_dirty) (object o)))
    (fun_ext (λ c. (core c).0)) (fun_ext (λ c. (core c).1)) no_members
  where
    object : (o : ℕ) → object_at objects o ≡ record { global = pos 0; is_queued = false; is_dirty = false }
    object o = go (less_or_not o (length objects))
      where
        go : (o < length objects) ⊎ (length objects ≤ o) → object_at objects o ≡ record { global = pos 0; is_queued = false; is_dirty = false }
        go (inl lt) = zeros o (record { global = pos 0; is_queued = false; is_dirty = false }) lt
        go (inr le) = get_or-eq_default objects (record { global = pos 0; is_queued = false; is_dirty = false }) le

    core : (c : ℕ) → (entries (core_at cores c).places ≡ λ o. None) × ((core_at cores c).queue ≡ [])
    core c = go (less_or_not c (length cores))
      where
        go : (c < length cores) ⊎ (length cores ≤ c) → (entries (core_at cores c).places ≡ λ o. None) × ((core_at cores c).queue ≡ [])
        go (inl lt) = let k = new c (record { places = []; queue = []; room = 0 }) lt in (k.0, k.1)
        go (inr le) =
            let e : core_at cores c ≡ record { places = []; queue = []; room = 0 } = get_or-eq_default cores
            (record { places = []; queue = []; room = 0 }) le in
            (ap (λ k. entries k.places) e ∙ fun_ext (λ o. nothing (o % 64) o), ap (λ k. k.queue) e)
          where
            nothing : (i o : ℕ) → if_its (slice_index_or [] i None) o ≡ None
            nothing zero o = refl
            nothing (suc i) o = refl
