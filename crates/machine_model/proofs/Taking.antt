-- How many frames are taken after a step: an access takes one, and nothing else takes any.
use Rattle.machine_model.proofs.Words.{◌≡◌, ℕ, zero, suc, ◌+◌, ◌≤◌, ◌<◌, ◌==◌, ◌⊎◌, Bool, true, false, cond, inl, inr, refl, sym, ap, subst, arith, Some, None}
use Rattle.machine_model.proofs.Words.{Option, ◌∙◌, fun_ext, if◌then◌else◌, nat_tests, Request, Load, Store, Fetch, put, Plain, Stands}
use Rattle.machine_model.proofs.Words.{nth, eq_true, eq_false, put_all, put_other, Touch, Want, Fill, NoneFree, given_back, World, is_access, IsPlace}
use Rattle.vm_base.specs.declared.replies.Reply.TheVariants as ReplyOf
use Rattle.slot_lock.specs.declared.plan.Plan.TheVariants as PlanOf
use Rattle.machine_model.specs.Orderly.{Serves}
use Rattle.machine_model.proofs.Moves.{IsCallOf, call_at}
use Rattle.machine_model.proofs.Shapes.{GoesBy, moves, divides, cuts, fits, owns, lets_go, answers, posts, commits, takes, zeroes}
use Rattle.machine_model.proofs.Shapes.{first_copies, caches, shares, posts_copy, copies, installs, accesses, faults}
use Rattle.machine_model.specs.Invariant.{IsWellFormed}
use Rattle.machine_model.specs.Taken.{one_if_taken, taken_below, frames_for}
use Rattle.machine_model.proofs.Rows.{HasTaken, IsSureOf, sure_at}
use Rattle.machine_model.proofs.Using.{IsTouchOf, loads, stores, fetches}
use Rattle.machine_model.proofs.Used.{its_touch}

-- ---- sets of frames

-- where two sets agree below n
same_below : (f g : ℕ → Bool) (n : ℕ) → ((j : ℕ) → j < n → f j ≡ g j) → taken_below f n ≡ taken_below g n
unfolding taken_below
same_below f g zero h = refl
same_below f g (suc n) h =
    let a : one_if_taken (f n) ≡ one_if_taken (g n) = ap one_if_taken (h n (omega arith)) in
    let b = same_below f g n (λ j l. h j (omega (arith, l))) in
    omega (arith, a, b)

-- one frame less is free
pub one_taken : (f : ℕ → Bool) (k n : ℕ) → taken_below (put f k false) n ≤ suc (taken_below f n)
unfolding taken_below
one_taken f k zero = omega arith
one_taken f k (suc n) = go (one_taken f k n) (n == k) refl
  where
    go : taken_below (put f k false) n ≤ suc (taken_below f n) → (b : Bool) → (n == k) ≡ b
        → one_if_taken (cond b false (f n)) + taken_below (put f k false) n ≤ suc (one_if_taken (f n) + taken_below f n)
    go below true e =
        let a = same_below (put f k false) f n (λ j l. put_other f k false j (λ i. let z = eq_true n k e in omega (arith, l, i, z))) in
        omega (arith, a)
    go below false e = omega (arith, below)

lower : (k n : ℕ) → k < suc n → (k ≡ n → ⊥) → k < n
lower k n l ne = go (k == n) refl
  where
    go : (b : Bool) → (k == n) ≡ b → k < n
    go true e = absurd (ne (eq_true k n e))
    go false e = grind (arith, nat_tests)

-- just one less, where it was
pub one_taken_of : (f : ℕ → Bool) (k n : ℕ) → f k ≡ true → k < n → taken_below (put f k false) n ≡ suc (taken_below f n)
unfolding taken_below
one_taken_of f k zero h l = absurd (omega (arith, l))
one_taken_of f k (suc n) h l = go (λ m. one_taken_of f k n h m) (n == k) refl
  where
    go : (k < n → taken_below (put f k false) n ≡ suc (taken_below f n)) → (b : Bool) → (n == k) ≡ b
        → one_if_taken (cond b false (f n)) + taken_below (put f k false) n ≡ suc (one_if_taken (f n) + taken_below f n)
    go below true e =
        let a = same_below (put f k false) f n (λ j l. put_other f k false j (λ i. let z = eq_true n k e in omega (arith, l, i, z))) in
        let z = eq_true n k e in
        let b : one_if_taken (f n) ≡ 0 = ap one_if_taken (ap f z ∙ h) in
        omega (arith, a, b)
    go below false e =
        let ne = eq_false n k e in
        let a = below (lower k n l (λ i. ne (sym i))) in
        omega (arith, a)

-- one more is
pub one_given : (f : ℕ → Bool) (k n : ℕ) → taken_below (put f k true) n ≤ taken_below f n
unfolding taken_below
one_given f k zero = omega arith
one_given f k (suc n) = go (one_given f k n) (n == k)
  where
    go : taken_below (put f k true) n ≤ taken_below f n → (b : Bool)
        → one_if_taken (cond b true (f n)) + taken_below (put f k true) n ≤ one_if_taken (f n) + taken_below f n
    go below true = omega (arith, below)
    go below false = omega (arith, below)

-- all are taken
pub all_taken : (f : ℕ → Bool) (n : ℕ) → NoneFree f → taken_below f n ≡ n
unfolding taken_below
all_taken f zero h = refl
all_taken f (suc n) h =
    let a : one_if_taken (f n) ≡ 1 = ap one_if_taken (h n) in
    let b = all_taken f n h in
    omega (arith, a, b)

-- none is
pub none_taken : (f : ℕ → Bool) (n : ℕ) → ((j : ℕ) → j < n → f j ≡ true) → taken_below f n ≡ 0
unfolding taken_below
none_taken f zero h = refl
none_taken f (suc n) h =
    let a : one_if_taken (f n) ≡ 0 = ap one_if_taken (h n (omega arith)) in
    let b = none_taken f n (λ j l. h j (omega (arith, l))) in
    omega (arith, a, b)

-- ---- the steps of a call

-- what was free at first still is, but for one frame that an access took
abbrev pub TakesOne : (ℕ → Bool) → (ℕ → Bool) → Request → Type 0
TakesOne first free request = (free ≡ first) ⊎ ((f : ℕ) × HasTaken first free (Some f) × (is_access request ≡ true))

pub taken_most : (first free : ℕ → Bool) (request : Request) (n : ℕ) → TakesOne first free request
    → taken_below free n ≤ taken_below first n + frames_for request
taken_most first free request n (inl e) = let a : taken_below free n ≡ taken_below first n = ap (λ f. taken_below f n) e in omega (arith, a)
taken_most first free request n (inr h) =
    let a : taken_below free n ≡ taken_below (put first h.0 false) n = ap (λ f. taken_below f n) h.1.1 in
    let b = one_taken first h.0 n in
    let c : frames_for request ≡ 1 = ap (λ (b : Bool). if b then 1 else 0) h.2 in
    omega (arith, a, b, c)

touch_access : (request : Request) (touch : Touch) → IsTouchOf request touch → is_access request ≡ true
touch_access request touch (loads addr r e) = ap is_access r
touch_access request touch (stores addr byte r e) = ap is_access r
touch_access request touch (fetches addr r e) = ap is_access r

-- a call that is at an access was asked for one
pub its_access : (w : World) (c : ℕ) (touch : Touch) (request : Request) → nth w.calls.requests (w.calls.number c) ≡ Some request
    → Serves w.made w.calls.requests c (w.calls.number c) (PlanOf.Touch touch) → is_access request ≡ true
its_access w c touch request number z = touch_access request touch (its_touch w c touch request number z)

-- a frame that goes back
pub put_back : (first : ℕ → Bool) (f : ℕ) → first f ≡ true → put (put first f false) f true ≡ first
put_back first f h =
    fun_ext (put_all (λ j b. b ≡ first j) (put first f false) f true (sym h) (λ j ne. put_other first f false j ne))

given_taken : (first free : ℕ → Bool) (own : Option ℕ) → HasTaken first free own → given_back own free ≡ first
given_taken first free None h = h
given_taken first free (Some f) h = ap (λ g. put g f true) h.1 ∙ put_back first f h.0

free_same : (first : ℕ → Bool) (request : Request) (v : World) (free : ℕ → Bool) → v.memory.is_free ≡ free → TakesOne first free request
    → TakesOne first v.memory.is_free request
free_same first request v free e k = subst (λ f. TakesOne first f request) (sym e) k

pub taken_on : (first : ℕ → Bool) (c : ℕ) (request : Request) (w v : World) → IsWellFormed w → nth w.calls.requests (w.calls.number c) ≡ Some request
    → IsSureOf first c w → TakesOne first w.memory.is_free request → GoesBy w c v → TakesOne first v.memory.is_free request
taken_on first c request w v f number sure k (moves new m h) = free_same first request v _ (ap (λ (v : World). v.memory.is_free) h) k
taken_on first c request w v f number sure k (divides goal cursor t e s h) = free_same first request v _ (ap (λ (v : World). v.memory.is_free) h) k
taken_on first c request w v f number sure k (cuts place target range t e s h) =
    free_same first request v _ (ap (λ (v : World). v.memory.is_free) h) k
taken_on first c request w v f number sure k (fits place target range e i h) =
    free_same first request v _ (ap (λ (v : World). v.memory.is_free) h) k
taken_on first c request w v f number sure k (owns goal cursor b t e l h) = free_same first request v _ (ap (λ (v : World). v.memory.is_free) h) k
taken_on first c request w v f number sure k (lets_go held b t new l u h) = free_same first request v _ (ap (λ (v : World). v.memory.is_free) h) k
taken_on first c request w v f number sure k (answers held reply r h) = free_same first request v _ (ap (λ (v : World). v.memory.is_free) h) k
taken_on first c request w v f number sure k (posts change shoot e h) = free_same first request v _ (ap (λ (v : World). v.memory.is_free) h) k
taken_on first c request w v f number sure k (commits goal change counts e n l h) =
    free_same first request v _ (ap (λ (v : World). v.memory.is_free) h) k
taken_on first c request w v f number sure k (takes touch old x e l h) =
    let call : IsCallOf w c (Want touch old) = call_at w c (Want touch old) e f.order in
    let same : w.memory.is_free ≡ first = sure_at first w c (Want touch old) e sure in
    free_same first request v (put w.memory.is_free x false) (ap (λ (v : World). v.memory.is_free) h) (inr (
      x,
      (ap (λ f. f x) (sym same) ∙ l, ap (λ g. put g x false) same),
      its_access w c touch request number call.asked,
    ))
taken_on first c request w v f number sure k (zeroes touch x counts e b t h) = free_same first request v _ (ap (λ (v : World). v.memory.is_free) h) k
taken_on first c request w v f number sure k (first_copies touch x counts e b t h) = free_same first request v _ (ap (λ (v : World). v.memory.is_free) h) k
taken_on first c request w v f number sure k (caches touch x counts e s n t h) = free_same first request v _ (ap (λ (v : World). v.memory.is_free) h) k
taken_on first c request w v f number sure k (shares touch own x counts e s n t h) =
    free_same first request v (given_back own w.memory.is_free) (ap (λ (v : World). v.memory.is_free) h)
    (inl (given_taken first w.memory.is_free own (sure_at first w c (Fill touch own) e sure)))
taken_on first c request w v f number sure k (posts_copy touch x e h) = free_same first request v _ (ap (λ (v : World). v.memory.is_free) h) k
taken_on first c request w v f number sure k (copies touch x g counts e n a t h) = free_same first request v _ (ap (λ (v : World). v.memory.is_free) h) k
taken_on first c request w v f number sure k (installs touch e h) = free_same first request v _ (ap (λ (v : World). v.memory.is_free) h) k
taken_on first c request w v f number sure k (accesses touch x e i h) = free_same first request v _ (ap (λ (v : World). v.memory.is_free) h) k
taken_on first c request w v f number sure k (faults touch e i h) = free_same first request v _ (ap (λ (v : World). v.memory.is_free) h) k

-- an access alone may be answered "no frame"
pub no_frame_access : (t u : Plain) (core : ℕ) (request : Request) → Stands IsPlace t core request ReplyOf.NoFrame u → is_access request ≡ true
no_frame_access t u core (Load addr) h = refl
no_frame_access t u core (Store addr byte) h = refl
no_frame_access t u core (Fetch addr) h = refl
no_frame_access t u core _ h = absurd h.0
