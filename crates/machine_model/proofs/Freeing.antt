-- Which steps make a frame free, and what a call that waits waits for
use Rattle.machine_model.proofs.Words.{◌≡◌, ℕ, Bool, true, false, cond, refl, sym, ap, subst, Some, None, Option, ◌∙◌, put, put_all, in_has, Event, GiveUp}
use Rattle.machine_model.proofs.Words.{Outcome, Stepped, Idle, Full, Wait, Answered, Goal, goal_range, Lock, core_of, given_back, after_give_up, some_has}
use Rattle.machine_model.proofs.Words.{taken_in, with_event, Step, World}
use Rattle.machine_model.specs.declared.event.Blocker.TheVariants as WaitsFor
use Rattle.machine_model.specs.Holding.{range_in}
use Rattle.machine_model.specs.Orderly.{IsOrderly}
use Rattle.machine_model.proofs.Moves.{IsCallOf, call_at}
use Rattle.machine_model.proofs.Shapes.{GoesBy, moves, divides, cuts, fits, owns, lets_go, answers, posts, commits, takes, zeroes, first_copies, caches}
use Rattle.machine_model.proofs.Shapes.{shares, posts_copy, copies, installs, accesses, faults, Works, clears, invalidates, walks, evicts, flushes, reviews}
use Rattle.machine_model.proofs.Shapes.{frees, IsGoing, going, picking, Rests, absent, busy, full, free, cannot, waits, awaits, Shape, rests, begins, ends}
use Rattle.machine_model.proofs.Shapes.{goes, aims, gives_up, works, joins, Comes, stopped, acts, comes}
use Rattle.machine_model.specs.Sound.{IsFreedBy, FreesOnly, IsBlocked}
use Rattle.machine_model.specs.Sound.IsFreedBy.{by_review, by_call}

-- ---- frames that become free

-- a set to which nothing is added
none_freed : (w : World) (e : Event) (f : ℕ) (b : Bool) → b ≡ w.memory.is_free f → w.memory.is_free f ≡ false → b ≡ true → IsFreedBy w e f
none_freed w e f b same was now = absurd cc

-- of one frame alone
one_freed : (w : World) (e : Event) (x : ℕ) → IsFreedBy w e x → (f : ℕ) → w.memory.is_free f ≡ false → put w.memory.is_free x true f ≡ true → IsFreedBy w e f
one_freed w e x by = put_all (λ f b. w.memory.is_free f ≡ false → b ≡ true → IsFreedBy w e f) w.memory.is_free x true (λ _ _. by) (λ f ne was now. absurd cc)

-- a call gives back the frame that it had taken
back_frees : (w : World) (e : Event) (c : ℕ) → core_of e ≡ Some c → (o : Option ℕ) → taken_in (w.calls.phase c) ≡ o → (f : ℕ)
    → w.memory.is_free f ≡ false → given_back o w.memory.is_free f ≡ true → IsFreedBy w e f
back_frees w e c by None k f was now = none_freed w e f _ refl was now
back_frees w e c by (Some x) k f was now = one_freed w e x (by_call c by k) f was now

going_frees : (w : World) (e : Event) (c : ℕ) (v : World) → core_of e ≡ Some c → GoesBy w c v → FreesOnly w e v
going_frees w e c v by (moves new m h) f was now = none_freed w e f _ (ap (λ (v : World). v.memory.is_free f) h) was now
going_frees w e c v by (divides goal cursor t p s h) f was now = none_freed w e f _ (ap (λ (v : World). v.memory.is_free f) h) was now
going_frees w e c v by (cuts place target range t p s h) f was now = none_freed w e f _ (ap (λ (v : World). v.memory.is_free f) h) was now
going_frees w e c v by (fits place target range p i h) f was now = none_freed w e f _ (ap (λ (v : World). v.memory.is_free f) h) was now
going_frees w e c v by (owns goal cursor b t p l h) f was now = none_freed w e f _ (ap (λ (v : World). v.memory.is_free f) h) was now
going_frees w e c v by (lets_go held b t new l u h) f was now = none_freed w e f _ (ap (λ (v : World). v.memory.is_free f) h) was now
going_frees w e c v by (answers held reply r h) f was now = none_freed w e f _ (ap (λ (v : World). v.memory.is_free f) h) was now
going_frees w e c v by (posts change shoot p h) f was now = none_freed w e f _ (ap (λ (v : World). v.memory.is_free f) h) was now
going_frees w e c v by (commits goal change counts p n l h) f was now = none_freed w e f _ (ap (λ (v : World). v.memory.is_free f) h) was now
going_frees w e c v by (takes touch old x p l h) f was now =
    absurd (put_all (λ f b. w.memory.is_free f ≡ false → b ≡ true → ⊥) w.memory.is_free x false (λ _ k. cc) (λ f ne a k. cc) f was
    (sym (ap (λ (v : World). v.memory.is_free f) h) ∙ now))
going_frees w e c v by (zeroes touch x counts p b t h) f was now = none_freed w e f _ (ap (λ (v : World). v.memory.is_free f) h) was now
going_frees w e c v by (first_copies touch x counts p b t h) f was now = none_freed w e f _ (ap (λ (v : World). v.memory.is_free f) h) was now
going_frees w e c v by (caches touch x counts p s n t h) f was now = none_freed w e f _ (ap (λ (v : World). v.memory.is_free f) h) was now
going_frees w e c v by (shares touch own x counts p s n t h) f was now =
    back_frees w e c by own (ap taken_in p) f was (sym (ap (λ (v : World). v.memory.is_free f) h) ∙ now)
going_frees w e c v by (posts_copy touch x p h) f was now = none_freed w e f _ (ap (λ (v : World). v.memory.is_free f) h) was now
going_frees w e c v by (copies touch x g counts p n a t h) f was now = none_freed w e f _ (ap (λ (v : World). v.memory.is_free f) h) was now
going_frees w e c v by (installs touch p h) f was now = none_freed w e f _ (ap (λ (v : World). v.memory.is_free f) h) was now
going_frees w e c v by (accesses touch x p i h) f was now = none_freed w e f _ (ap (λ (v : World). v.memory.is_free f) h) was now
going_frees w e c v by (faults touch p i h) f was now = none_freed w e f _ (ap (λ (v : World). v.memory.is_free f) h) was now

work_frees : (w : World) (e : Event) (c : ℕ) (v : World) → Works w c e v → FreesOnly w e v
work_frees w e c v (clears i range k h) f was now = none_freed w e f _ (ap (λ (v : World). v.memory.is_free f) h) was now
work_frees w e c v (invalidates i range k h) f was now = none_freed w e f _ (ap (λ (v : World). v.memory.is_free f) h) was now
work_frees w e c v (walks p i k h) f was now = none_freed w e f _ (ap (λ (v : World). v.memory.is_free f) h) was now
work_frees w e c v (evicts p i k h) f was now = none_freed w e f _ (ap (λ (v : World). v.memory.is_free f) h) was now
work_frees w e c v (flushes i report counts t h) f was now = none_freed w e f _ (ap (λ (v : World). v.memory.is_free f) h) was now
work_frees w e c v (reviews i report counts t h) f was now = none_freed w e f _ (ap (λ (v : World). v.memory.is_free f) h) was now
work_frees w e c v (frees i x counts t h) f was now =
    one_freed w e x (by_review c counts i t) f was (sym (ap (λ (v : World). v.memory.is_free f) h) ∙ now)

give_up_frees : (w : World) (c : ℕ) (v : World) → v ≡ after_give_up c (w.calls.phase c) w → FreesOnly w (GiveUp c) v
give_up_frees w c v h f was now =
    back_frees w (GiveUp c) c refl (taken_in (w.calls.phase c)) refl f was (sym (ap (λ (v : World). v.memory.is_free f) h) ∙ now)

its_core : (c : ℕ) (e : Event) → IsGoing c e → core_of e ≡ Some c
its_core c e going = refl
its_core c e (picking f) = refl

shape_frees : (w : World) (e : Event) (o : Outcome) (v : World) → Shape w e o v → FreesOnly w e v
shape_frees w e o v (rests i h) f was now = none_freed w e f _ (ap (λ (v : World). v.memory.is_free f) h) was now
shape_frees w e o v (begins c request i s lt p few h) f was now = none_freed w e f _ (ap (λ (v : World). v.memory.is_free f) h) was now
shape_frees w e o v (ends c reply i s lt p h) f was now = none_freed w e f _ (ap (λ (v : World). v.memory.is_free f) h) was now
shape_frees w e o v (goes c i s lt k) f was now = going_frees w e c v (its_core c e i) k f was now
shape_frees w e o v (aims c place target a s lt p h) f was now = none_freed w e f _ (ap (λ (v : World). v.memory.is_free f) h) was now
shape_frees w e o v (gives_up c i s lt can u h) f was now = subst (λ e. IsFreedBy w e f) (sym i) (give_up_frees w c v h f was now)
shape_frees w e o v (works c s lt k) f was now = work_frees w e c v k f was now
shape_frees w e o v (joins p t i s page j m h) f was now = none_freed w e f _ (ap (λ (v : World). v.memory.is_free f) h) was now

pub frees_only : (w v : World) (e : Event) (o : Outcome) → Step w e o v → FreesOnly w e v
frees_only w v e o s = go (comes w e o v s)
  where
    uncounted : (f : ℕ) → IsFreedBy (with_event w) e f → IsFreedBy w e f
    uncounted f = elim [
      | by_review c counts i t ↦ by_review c counts i t
      | by_call c i k ↦ by_call c i k
    ]

    go : Comes w e o v → FreesOnly w e v
    go (stopped n i h) = λ f was now. none_freed w e f _ (ap (λ (v : World). v.memory.is_free f) h) was now
    go (acts n h) = λ f was now. uncounted f (shape_frees (with_event w) e o v h f was now)

-- ---- what a call waits for

-- no wait
unblocked : (w : World) (e : Event) (o p : Outcome) → o ≡ p → IsBlocked w e p → IsBlocked w e o
unblocked w e o p same h = subst (IsBlocked w e) (sym same) h

-- the cursor's page is one of the call's
in_footprint : (w : World) (c : ℕ) (goal : Goal) (cursor : ℕ) → IsOrderly w → w.calls.phase c ≡ Lock goal cursor
    → some_has (range_in (w.calls.phase c)) cursor ≡ true
in_footprint w c goal cursor g e =
    let k : IsCallOf w c (Lock goal cursor) = call_at w c (Lock goal cursor) e g in
    ap (λ p. some_has (range_in p) cursor) e ∙ in_has (goal_range goal) cursor k.ready.0 k.ready.1

rests_blocked : (w : World) (e : Event) (o : Outcome) → IsOrderly w → Rests w e o → IsBlocked w e o
rests_blocked w e o g (absent h i) = unblocked w e o Idle i tt
rests_blocked w e o g (busy c request h n i) = unblocked w e o Idle i tt
rests_blocked w e o g (full c request h n i) = unblocked w e o Full i tt
rests_blocked w e o g (free c h p i) = unblocked w e o Idle i tt
rests_blocked w e o g (cannot a b i) = unblocked w e o Idle i tt
rests_blocked w e o g (waits c goal cursor by h p ne own i) =
    unblocked w e o (Wait (WaitsFor.Slot by)) i (c, h, ne, cursor, in_footprint w c goal cursor g p, own)
rests_blocked w e o g (awaits c range set h p a i) = unblocked w e o (Wait (WaitsFor.Acks set)) i (c, h, a)

shape_blocked : (w : World) (e : Event) (o : Outcome) (v : World) → IsOrderly w → Shape w e o v → IsBlocked w e o
shape_blocked w e o v g (rests i h) = rests_blocked w e o g i
shape_blocked w e o v g (begins c request i s lt p few h) = unblocked w e o Stepped s tt
shape_blocked w e o v g (ends c reply i s lt p h) = unblocked w e o (Answered reply) s tt
shape_blocked w e o v g (goes c i s lt k) = unblocked w e o Stepped s tt
shape_blocked w e o v g (aims c place target a s lt p h) = unblocked w e o Stepped s tt
shape_blocked w e o v g (gives_up c i s lt can u h) = unblocked w e o Stepped s tt
shape_blocked w e o v g (works c s lt k) = unblocked w e o Stepped s tt
shape_blocked w e o v g (joins p t i s page j m h) = unblocked w e o Stepped s tt

at_limit : (b : Bool) (A B : Type 0) → b ≡ false → cond b A B → B
at_limit true A B h k = absurd cc
at_limit false A B h k = k

pub blocked : (w v : World) (e : Event) (o : Outcome) → IsOrderly w → Step w e o v → IsBlocked w e o
blocked w v e o g s = go (comes w e o v s)
  where
    uncounted : (o : Outcome) → IsBlocked (with_event w) e o → IsBlocked w e o
    uncounted (Wait (WaitsFor.Slot by)) h = h
    uncounted (Wait (WaitsFor.Acks set)) h = h
    uncounted _ h = tt

    go : Comes w e o v → IsBlocked w e o
    go (stopped n i h) = unblocked w e o Full (at_limit _ _ _ n s).0 tt
    go (acts n h) = uncounted o (shape_blocked (with_event w) e o v g h)
