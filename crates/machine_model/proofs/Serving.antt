-- A call that no other call runs beside serves its request until it hands out the reply.
use Rattle.machine_model.proofs.Words.{◌≡◌, ◌≢◌, ℕ, zero, suc, ◌≤◌, ◌<◌, ◌+◌, ◌==◌, ◌^◌, Bool, true, false, cond, refl, sym, subst, ap, arith, inl, inr, Some}
use Rattle.machine_model.proofs.Words.{None, Option, ◌∙◌, List, length, nat_lt, if◌then◌else◌, nat_tests, PageRange, Reply, Request, Plain, nothing_mapped}
use Rattle.machine_model.proofs.Words.{eq_true, eq_false, put_all, put_same, put_other, Event, Call, Go, Outcome, Stepped, Idle, Wait, Answered, Full, Entry}
use Rattle.machine_model.proofs.Words.{Phase, Free, Check, Acks, Answer}
use Rattle.machine_model.proofs.Words.{CopyAcks, World, Made, Change, Goal, Touch, range_of, IsUser, awaits_in, holds, to, Awaits, Acts}
use Rattle.machine_model.proofs.Words.{Goes, after_call, with_event, event_limit, Step, StepsTo, nth, Replays, Stands, RepliesBy, page_copied, with_copy}
use Rattle.machine_model.proofs.Words.{Users, Same, is_placed, IsPlace, IsFirstPlace}
use Rattle.machine_model.specs.declared.event.Blocker.TheVariants as WaitsFor
use Rattle.vm_base.specs.declared.log.Entry.TheVariants as EntryOf
use Rattle.slot_lock.specs.declared.plan.Goal.TheVariants as To
use Rattle.machine_model.proofs.Effects.{Closed, Asked, Told, status, SameCalls, Effect, keeps, tells, detaches, opens, closes, effect_of}
use Rattle.machine_model.proofs.Numbered.{at_new}
use Rattle.machine_model.proofs.Shapes.{Rests, absent, busy, full, free as callless, cannot, waits, awaits, GoesBy, Works, clears, invalidates}
use Rattle.machine_model.proofs.Shapes.{walks, evicts, flushes, reviews, frees, IsGoing, going, picking, Shape, rests, begins, ends, goes, aims}
use Rattle.machine_model.proofs.Shapes.{gives_up, works, joins, Comes, stopped, acts as happens, comes}
use Rattle.machine_model.specs.Invariant.{IsWellFormed, ShowsPlain}
use Rattle.machine_model.proofs.Deciding.{place_free}
use Rattle.machine_model.proofs.Moves.{IsCallOf, call_at}
use Rattle.machine_model.specs.Sound.{IsReached}
use Rattle.machine_model.proofs.Logs.{replays_requests}
use Rattle.machine_model.proofs.OneMap.{log_leads_to_one}
use Rattle.machine_model.proofs.SoundKept.{reached_fine, reached_step}
use Rattle.machine_model.specs.Alone.{IsCalm, IsNoted, IsServed, IsServedAlone, IsAwaiting, KeepsOthers}
use Rattle.machine_model.specs.Log.{LeadsTo}
use Rattle.machine_model.specs.Users.{recorded}
use Rattle.machine_model.specs.Taken.{frames_for, frames_taken, taken_below}
use Rattle.machine_model.proofs.First.{IsFirstReply, copy_first, named_first}
use Rattle.machine_model.proofs.Seeking.{IsSeeking, Seeks, change_is_named, seeks_on, touch_is_named}
use Rattle.machine_model.proofs.Awaiting.{WillAnswer, change_answers, copy_answers, change_frames, copy_frames}
use Rattle.machine_model.proofs.Framed.{reached_framed}
use Rattle.machine_model.proofs.Noting.{IsLogged, IsLoggedOf, from_log, is_with_copy, last_entry, logged_on}
use Rattle.machine_model.proofs.Storing.{IsStorable, IsStorableOf, storable_on}
use Rattle.machine_model.proofs.Taking.{TakesOne, taken_most, taken_on}
use Rattle.machine_model.proofs.Used.{IsFrom, Used, IsUsed, KeepsUsers, asks_on, copy_after, used_on, unwaited_on}
use Rattle.machine_model.proofs.Using.{IsStoreFor}
use Rattle.machine_model.proofs.Rank.{reach_of, rank_of}
use Rattle.machine_model.proofs.Telling.{IsTold, IsToldOf, Waits, for_change, for_copy, waits_at, told_on, unmapped_unused}
use Rattle.machine_model.proofs.Rows.{IsDueReply, IsSure, IsSureOf, left_of, Nears, goes_near, sure_at}

-- In x the call of core c, begun in w, whose log leads to t, serves its request. These frames were free before it took one.
pub record IsServing (free : ℕ → Bool) (w : World) (t : Plain) (c : ℕ) (request : Request) (x : World) : Type 0 where
  -- the page that has got a copy for it, if one has
  pub copy : Option ℕ
  pub reached : IsReached x
  pub inside : nat_lt c x.made.cores ≡ true
  pub first : Replays x.calls.requests (nothing_mapped x.made.file) w.calls.log t
  pub number : nth x.calls.requests (x.calls.number c) ≡ Some request
  pub others : (d : ℕ) → d ≢ c → x.calls.phase d ≡ Free
  pub logged : IsLoggedOf w.calls.log (x.calls.number c) copy c x
  pub sure : IsSureOf free c x
  pub storable : IsStorableOf c x
  pub asks : IsStoreFor request copy
  pub made : x.made ≡ w.made
  pub used : IsUsed t (recorded w.slots) c request copy x
  pub taken : TakesOne free x.memory.is_free request

-- ---- what a step of the call does

not_free : (first log : List Entry) (call c : ℕ) (copy : Option ℕ) (phase : Phase) → IsLogged first log call c copy (status phase) → phase ≢ Free
not_free first log call c copy phase h e = subst (λ phase. IsLogged first log call c copy (status phase)) e h

-- at the limit of events no step is plain
stops : (A : Type 0) (x v : World) (b : Bool) → b ≡ false → cond b A ((Stepped ≡ Full) × (v ≡ x)) → ⊥
stops A x v true e k = cc
stops A x v false e k = let z = k.0 in cc

-- a plain step is before the limit of events
pub before_limit : (x : World) (c : ℕ) (v : World) → Comes x (Go c) Stepped v → Step x (Go c) Stepped v → Shape (with_event x) (Go c) Stepped v
before_limit x c v (happens n shape) s = shape
before_limit x c v (stopped n i h) s = absurd (stops _ x v (nat_lt x.calls.events event_limit) n s)

-- what the step of the call comes to
pub data Row (first : ℕ → Bool) (w : World) (c : ℕ) (o : Outcome) (v : World) : Type 0 where
  nears : o ≡ Stepped → GoesBy w c v → Nears first w c v → Row first w c o v
  returns : (reply : Reply) → w.calls.phase c ≡ Answer reply → o ≡ Answered reply → v ≡ to c Free w → Row first w c o v
  awaits_acks : (range : PageRange) (set : ℕ) → awaits_in (w.calls.phase c) ≡ Some range → o ≡ Wait (WaitsFor.Acks set) → Awaits w.hardware c set
      → v ≡ w → Row first w c o v

-- It rests only where it awaits acknowledgements: the core is there and has a call, and no other core holds a slot.
never : (free : ℕ → Bool) (w : World) (t : Plain) (c : ℕ) (request : Request) (x : World) (o : Outcome) (v : World) → IsServing free w t c request x
    → Rests (with_event x) (Go c) o
    → v ≡ with_event x → Row free (with_event x) c o v
never first w t c request x o v h (absent e i) k = absurd (cc (h.inside, e))
never first w t c request x o v h (busy d r e n i) k = absurd cc
never first w t c request x o v h (full d r e n i) k = absurd cc
never first w t c request x o v h (callless d e p i) k =
    let same : c ≡ d = cc in absurd (not_free w.calls.log x.calls.log (x.calls.number c) c h.copy (x.calls.phase c) h.logged (ap x.calls.phase same ∙ p))
never first w t c request x o v h (cannot a b i) k = absurd (a c refl)
never first w t c request x o v h (awaits d range set e p a i) k =
    let same : d ≡ c = cc in
    awaits_acks range set (ap (λ n. awaits_in (x.calls.phase n)) (sym same) ∙ p) i (subst (λ n. Awaits x.hardware n set) same a) k
never first w t c request x o v h (waits d goal cursor by e p ne own i) k =
    let same : c ≡ d = cc in
    let order = (reached_fine x h.reached).order in
    let held : holds (x.calls.phase by) cursor ≡ true = order.only by cursor own in
    let idle : x.calls.phase by ≡ Free = h.others by (λ k. ne (k ∙ same)) in
    let none : holds (x.calls.phase by) cursor ≡ false = ap (λ p. holds p cursor) idle in
    absurd (cc (held, none))

pub row_of : (free : ℕ → Bool) (w : World) (t : Plain) (c : ℕ) (request : Request) (x : World) (o : Outcome) (v : World) → IsServing free w t c request x
    → IsWellFormed v
    → Shape (with_event x) (Go c) o v → Row free (with_event x) c o v
row_of first w t c request x o v h after (rests r e) = never first w t c request x o v h r e
row_of first w t c request x o v h after (begins d r e s lt p below k) = absurd cc
row_of first w t c request x o v h after (ends d reply e s lt p k) =
    let same : d ≡ c = cc in
    returns reply (ap x.calls.phase (sym same) ∙ p) s (k ∙ ap (λ n. to n Free (with_event x)) same)
row_of first w t c request x o v h after (goes d going s lt g) =
    nears s g (goes_near first (with_event x) c v (reached_fine x h.reached) after h.sure h.storable g)
row_of first w t c request x o v h after (aims d place target a s lt p k) = elim a [ ]
row_of first w t c request x o v h after (gives_up d e s lt can u k) = absurd cc
row_of first w t c request x o v h after (works d s lt k) = absurd (no_work k)
  where
    no_work : Works (with_event x) d (Go c) v → ⊥
    no_work (clears e range a k) = cc
    no_work (invalidates e range a k) = cc
    no_work (walks p e a k) = cc
    no_work (evicts p e a k) = cc
    no_work (flushes e report counts a k) = cc
    no_work (reviews e report counts a k) = cc
    no_work (frees e f counts a k) = cc
row_of first w t c request x o v h after (joins p t2 e s page j m k) = absurd cc

-- before the limit of events
pub shape_at : (x : World) (c : ℕ) (o : Outcome) (v : World) → nat_lt x.calls.events event_limit ≡ true → Comes x (Go c) o v → Shape (with_event x) (Go c) o v
shape_at x c o v below (stopped n i h) = absurd cc
shape_at x c o v below (happens n shape) = shape

-- ---- a plain step

closed_free : (phase : Phase) → status phase ≡ Closed → phase ≡ Free
closed_free Free e = refl
closed_free _ e = absurd cc

serves_on : (free : ℕ → Bool) (w : World) (t : Plain) (c : ℕ) (request : Request) (copy : Option ℕ) (x v : World) → IsServing free w t c request x
    → Step x (Go c) Stepped v → Effect (with_event x) (Go c) Stepped v → v.made ≡ x.made → IsSureOf free c v → IsStorableOf c v → IsStoreFor request copy
    → IsUsed t (recorded w.slots) c request copy v → TakesOne free v.memory.is_free request → IsLoggedOf w.calls.log (x.calls.number c) copy c v
    → IsServing free w t c request v
serves_on free w t c request copy x v h s effect made sure storable asks used_now taken_now logged = elim effect [
  | keeps _ same log sts ↦ next same (λ d ne. sts d ∙ ap status (h.others d ne))
  | tells b reply _ same asked log sts ↦
      let e : b ≡ c = same_core b asked in
      next same (λ d ne. sts d ∙ put_other (λ n. status (x.calls.phase n)) b (Told reply) d (λ i. ne (i ∙ e)) ∙ ap status (h.others d ne))
  | detaches b page r _ same asked number store log sts ↦ next same (λ d ne. sts d ∙ ap status (h.others d ne))
  | opens b q e _ _ _ ↦ absurd cc
  | closes b y _ e _ _ ↦ absurd cc
]
  where
    same_core : (b : ℕ) → status (x.calls.phase b) ≡ Asked → b ≡ c
    same_core b asked = go (b == c) refl
      where
        go : (z : Bool) → (b == c) ≡ z → b ≡ c
        go true e = eq_true b c e
        go false e = absurd (let i : status (x.calls.phase b) ≡ Closed = ap status (h.others b (eq_false b c e)) in cc)

    next : SameCalls (with_event x) v → ((d : ℕ) → d ≢ c → status (v.calls.phase d) ≡ Closed) → IsServing free w t c request v
    next same closed = record {
      copy = copy;
      reached = reached_step x v (Go c) Stepped h.reached s;
      inside = ap (λ m. nat_lt c m.cores) made ∙ h.inside;
      first = subst (λ rs. Replays rs (nothing_mapped v.made.file) w.calls.log t) (sym same.requests)
          (subst (λ m. Replays x.calls.requests (nothing_mapped m.file) w.calls.log t) (sym made) h.first);
      number = subst (λ rs. nth rs (v.calls.number c) ≡ Some request) (sym same.requests)
          (subst (λ (call : ℕ → ℕ). nth x.calls.requests (call c) ≡ Some request) (sym same.number) h.number);
      others = λ d ne. closed_free (v.calls.phase d) (closed d ne);
      logged = subst (λ (call : ℕ → ℕ). IsLoggedOf w.calls.log (call c) copy c v) (sym same.number) logged;
      sure = sure;
      storable = storable;
      asks = asks;
      made = made ∙ h.made;
      used = used_now;
      taken = taken_now;
    }

-- the row of the machine by which a plain step goes
goes_of : (x : World) (c : ℕ) (v : World) → Step x (Go c) Stepped v → Goes (with_event x) c (x.calls.phase c) Stepped v
goes_of x c v s = go (nat_lt x.calls.events event_limit) (nat_lt c x.made.cores) s
  where
    go : (a b : Bool) → cond a (cond b (Acts (with_event x) (Go c) Stepped v) ((Stepped ≡ Idle) × (v ≡ with_event x))) ((Stepped ≡ Full) × (v ≡ x))
        → Goes (with_event x) c (x.calls.phase c) Stepped v
    go true true k = k
    go _ _ k = absurd (let e = k.0 in cc)

-- while the call has no reply, the map in which it goes on is that of its beginning, but for its copy
goes_from : (free : ℕ → Bool) (w : World) (t : Plain) (c : ℕ) (request : Request) (x : World) (h : IsServing free w t c request x) (f : IsWellFormed x)
    → status (x.calls.phase c) ≡ Asked → IsFrom t h.copy f.plain
goes_from free w t c request x h f a =
    from_log x.calls.requests w.calls.log x.calls.log (nothing_mapped x.made.file) t f.plain (x.calls.number c) h.copy
    (subst (IsLogged w.calls.log x.calls.log (x.calls.number c) c h.copy) a h.logged) h.first f.log

-- fewer steps are left
serves_step : (free : ℕ → Bool) (w : World) (t : Plain) (c : ℕ) (request : Request) (x v : World) → IsServing free w t c request x → Step x (Go c) Stepped v
    → IsServing free w t c request v × (left_of v c < left_of x c)
serves_step free w t c request x v h s =
    let shape : Shape (with_event x) (Go c) Stepped v = before_limit x c v (comes x (Go c) Stepped v s) s in
    let f : IsWellFormed x = reached_fine x h.reached in
    elim (row_of free w t c request x Stepped v h (reached_fine v (reached_step x v (Go c) Stepped h.reached s)) shape) [
      | nears _ g k ↦ (
        serves_on free w t c request (copy_after g h.copy) x v h s (effect_of (with_event x) (Go c) Stepped v f.order shape) k.made k.sure
            (storable_on (with_event x) c v f (goes_of x c v s) g)
            (asks_on request h.copy (with_event x) c v f h.number h.asks g)
            (used_on free t (recorded w.slots) c request h.copy (with_event x) v f (reached_framed x h.reached) h.number h.sure
            (goes_from free w t c request x h f) h.asks h.used g)
            (taken_on free c request (with_event x) v f h.number h.sure h.taken g)
            (logged_on w.calls.log t (recorded w.slots) c request h.copy (with_event x) v h.used h.logged g),
        k.less,
      )
      | returns _ _ e _ ↦ absurd cc
      | awaits_acks _ _ _ e _ _ ↦ absurd cc
    ]

-- ---- the beginning

begun : (w : World) (c : ℕ) (request : Request) (m : World) → Comes w (Call c request) Stepped m → Step w (Call c request) Stepped m
    → (nat_lt c w.made.cores ≡ true) × (m ≡ after_call c request (with_event w))
begun w c request m (stopped n i h) s = absurd (stops _ w m (nat_lt w.calls.events event_limit) n s)
begun w c request m (happens n shape) s = go shape
  where
    test : (a b : ℕ) → a < b → nat_lt a b ≡ true
    test a b h = grind (arith, nat_tests)

    none : Rests (with_event w) (Call c request) Stepped → ⊥
    none (absent e i) = cc
    none (busy d r e k i) = cc
    none (full d r e k i) = cc
    none (callless d e p i) = cc
    none (waits d goal cursor by e p ne own i) = cc
    none (cannot a b i) = b c request refl
    none (awaits d range set e p a i) = cc

    no_work : (d : ℕ) → Works (with_event w) d (Call c request) m → ⊥
    no_work d (clears e range a k) = cc
    no_work d (invalidates e range a k) = cc
    no_work d (walks p e a k) = cc
    no_work d (evicts p e a k) = cc
    no_work d (flushes e report counts a k) = cc
    no_work d (reviews e report counts a k) = cc
    no_work d (frees e f counts a k) = cc

    no_going : (d : ℕ) (e : Event) → IsGoing d e → e ≡ Call c request → ⊥
    no_going d e going k = cc
    no_going d e (picking f) k = cc

    go : Shape (with_event w) (Call c request) Stepped m → (nat_lt c w.made.cores ≡ true) × (m ≡ after_call c request (with_event w))
    go (rests r e) = absurd (none r)
    go (begins d r e k lt p below h) =
        let core : c ≡ d = cc in
        let same : request ≡ r = cc in (
          subst (λ n. nat_lt n w.made.cores ≡ true) (sym core) (test d w.made.cores lt),
          h ∙ ap (λ n. after_call n r (with_event w))
              (sym core) ∙ ap (λ q. after_call c q (with_event w)) (sym same),
        )
    go (ends d reply e k lt p h) = absurd cc
    go (goes d e k lt g) = absurd (no_going d (Call c request) e refl)
    go (aims d place target a k lt p h) = elim a [ ]
    go (gives_up d e s lt can u h) = absurd cc
    go (works d s lt k) = absurd (no_work d k)
    go (joins p t2 e s page j m h) = absurd cc

starts : (w : World) (t : Plain) (c : ℕ) (request : Request) (m : World) → IsReached w → LeadsTo w t → IsCalm w → Step w (Call c request) Stepped m
    → IsServing w.memory.is_free w t c request m × (m.calls.phase c ≡ Check request) × (m ≡ after_call c request (with_event w))
starts w t c request m reached leads calm s =
    let k = begun w c request m (comes w (Call c request) Stepped m s) s in
    let x : World = after_call c request (with_event w) in (
      subst (IsServing w.memory.is_free w t c request) (sym k.1) (record {
        copy = None;
        reached = subst IsReached k.1 (reached_step w m (Call c request) Stepped reached s);
        inside = k.0;
        first = replays_requests w.calls.requests request w.calls.log (nothing_mapped w.made.file) t leads;
        number = subst (λ n. nth x.calls.requests n ≡ Some request) (sym (put_same w.calls.number c (suc (length w.calls.requests))))
            (at_new w.calls.requests request);
        others = λ d ne. put_other w.calls.phase c (Check request) d ne ∙ calm d;
        logged = subst (λ phase. IsLogged w.calls.log w.calls.log (x.calls.number c) c None (status phase))
            (sym (put_same w.calls.phase c (Check request))) refl;
        sure = subst (IsSure w.memory.is_free w.memory.is_free (reach_of w.hardware c)) (sym (put_same w.calls.phase c (Check request))) refl;
        storable = subst (IsStorable w.memory.cached w.slots.info) (sym (put_same w.calls.phase c (Check request))) tt;
        asks = tt;
        made = refl;
        used = subst (Used t (recorded w.slots) (recorded w.slots) (reach_of w.hardware c) c request None) (sym (put_same w.calls.phase c (Check request)))
            (refl, λ p d. refl);
        taken = inl refl;
      }),
      ap (λ (m : World). m.calls.phase c) k.1 ∙ put_same w.calls.phase c (Check request),
      k.1,
    )

-- ---- the end

-- the reply that a call has in the log is that of the map with its copy
the_reply : (free : ℕ → Bool) (w : World) (t : Plain) (c : ℕ) (request : Request) (x : World) (reply : Reply) (h : IsServing free w t c request x)
    (after : Plain)
    → Replays x.calls.requests (nothing_mapped x.made.file) x.calls.log after → IsNoted w.calls.log h.copy (x.calls.number c) c reply x.calls.log
    → Stands IsPlace (with_copy t h.copy) c request reply after
the_reply free w t c request x reply h after led noted =
    let last = last_entry x.calls.requests noted.0 (nothing_mapped x.made.file) after (EntryOf.Answer noted.2.0 (x.calls.number c) c reply)
    (subst (λ log. Replays x.calls.requests (nothing_mapped x.made.file) log after) noted.2.1 led) in
    let from : IsFrom t h.copy last.0 =
    from_log x.calls.requests w.calls.log noted.0 (nothing_mapped x.made.file) t last.0 (x.calls.number c) h.copy noted.1 h.first last.1 in
    let number : Some last.2.0 ≡ Some request = sym last.2.1 ∙ h.number in
    let same : last.2.0 ≡ request = cc in
    subst (λ r. Stands IsPlace (with_copy t h.copy) c r reply after) same
    (subst (λ m. Stands IsPlace m c last.2.0 reply after) (is_with_copy t h.copy last.0 from) last.2.2)

pub returned : (free : ℕ → Bool) (w : World) (t : Plain) (c : ℕ) (request : Request) (x v : World) (o : Outcome) (reply : Reply)
    → IsServing free w t c request x
    → Step x (Go c) o v → x.calls.phase c ≡ Answer reply → o ≡ Answered reply → v ≡ to c Free (with_event x)
    → (IsDueReply free reply → (m u : Plain) → Stands IsPlace m c request reply u → IsDueReply w.memory.is_free reply)
    → taken_below x.memory.is_free w.made.frames ≤ frames_taken w + frames_for request
    → IsServed w t c request o v
returned free w t c request x v o reply h s at answered e due most =
    let reached : IsReached v = reached_step x v (Go c) o h.reached s in
    let after : IsWellFormed v = reached_fine v reached in
    let noted : IsNoted w.calls.log h.copy (x.calls.number c) c reply x.calls.log =
    subst (λ phase. IsLogged w.calls.log x.calls.log (x.calls.number c) c h.copy (status phase)) at h.logged in
    let led : Replays x.calls.requests (nothing_mapped x.made.file) x.calls.log after.plain =
    subst (λ (v : World). Replays v.calls.requests (nothing_mapped v.made.file) v.calls.log after.plain) e after.log in
    let its = the_reply free w t c request x reply h after.plain led noted in
    let used = subst (Used t (recorded w.slots) (recorded x.slots) (reach_of x.hardware c) c request h.copy) at h.used in
    let sure : IsDueReply free reply = subst (IsSure free x.memory.is_free (reach_of x.hardware c)) at h.sure in
    let due_now : IsDueReply w.memory.is_free reply = due sure (with_copy t h.copy) after.plain its in
    record {
      reply = reply;
      answered = answered;
      calm = subst (λ (v : World). IsCalm v) (sym e) (put_all (λ d phase. phase ≡ Free) x.calls.phase c Free refl h.others);
      reached = reached;
      after = after.plain;
      leads = after.log;
      stands = subst (λ o. Stands IsPlace (with_copy t o) c request reply after.plain) (sym used.0) its;
      noted = subst (λ (v : World). IsNoted w.calls.log (page_copied t request reply) (v.calls.number c) c reply v.calls.log) (sym e)
          (subst (λ o. IsNoted w.calls.log o (x.calls.number c) c reply x.calls.log) (sym used.0) noted);
      due = λ step call. due_now c step call;
      users = λ p d. ap (λ (v : World). recorded v.slots p d) e ∙ used.1 p d;
      frames = subst (λ (v : World). frames_taken v ≤ frames_taken w + frames_for request) (sym e)
          (subst (λ n. taken_below x.memory.is_free n ≤ frames_taken w + frames_for request) (sym (ap (λ (m : Made). m.frames) h.made)) most);
    }

-- ---- a wait

pub less_test : (a b : ℕ) → a < b → nat_lt a b ≡ true
less_test a b h = grind (arith, nat_tests)

-- a call that waits has no reply, has made no copy, and has changed no user
waits_unchanged : (t : Plain) (first now : Users) (reach : Touch → Option ℕ) (c : ℕ) (request : Request) (copy : Option ℕ) (phase : Phase) (range : PageRange)
    → Waits phase range → Used t first now reach c request copy phase → (status phase ≡ Asked) × (copy ≡ None) × Same now first
waits_unchanged t first now reach c request copy phase range (for_change goal change p i) u =
    let z = subst (Used t first now reach c request copy) p u in (ap status p, z.0, z.1)
waits_unchanged t first now reach c request copy phase range (for_copy touch frame p i) u =
    let z = subst (Used t first now reach c request copy) p u in (ap status p, z.0, z.1)

waiting_leads : (free : ℕ → Bool) (w : World) (t : Plain) (c : ℕ) (request : Request) (x : World) (h : IsServing free w t c request x)
    → status (x.calls.phase c) ≡ Asked → h.copy ≡ None → LeadsTo x t
waiting_leads free w t c request x h a none =
    let same : x.calls.log ≡ w.calls.log = subst (λ o. IsLogged w.calls.log x.calls.log (x.calls.number c) c o Asked) none
    (subst (IsLogged w.calls.log x.calls.log (x.calls.number c) c h.copy) a h.logged) in
    subst (λ log. Replays x.calls.requests (nothing_mapped x.made.file) log t) (sym same) h.first

-- what it will be answered, and the frame that it has taken
will_answer : (w : World) (t : Plain) (c : ℕ) (request : Request) (x : World) (range : PageRange) → IsServing w.memory.is_free w t c request x
    → (f : IsWellFormed x) → f.plain ≡ t → Waits (x.calls.phase c) range
    → WillAnswer t c request range × (taken_below x.memory.is_free x.made.frames ≡ taken_below w.memory.is_free x.made.frames + frames_for request)
will_answer w t c request x range h f from (for_change goal change p i) =
    let z = change_answers x t c request goal change f from h.number p in (
      subst (WillAnswer t c request) (sym i) z.0,
      change_frames w.memory.is_free x.memory.is_free request x.made.frames (sure_at w.memory.is_free x c (Acks goal change) p h.sure) z.1,
    )
will_answer w t c request x range h f from (for_copy touch frame p i) =
    let z = copy_frames x c request touch frame w.memory.is_free f h.number p (sure_at w.memory.is_free x c (CopyAcks touch frame) p h.sure) in (
      subst (WillAnswer t c request) (sym i) (copy_answers x t c request touch frame f from h.number p),
      let a = z.0 in let b = z.1 in omega (arith, a, b),
    )

-- a request that leaves its place open waits for nobody: it goes to pages that no core uses
acks_named : (x : World) (c : ℕ) (request : Request) (goal : Goal) (change : Change) (d : ℕ) → IsWellFormed x
    → nth x.calls.requests (x.calls.number c) ≡ Some request → x.calls.phase c ≡ Acks goal change → IsUser x.slots (range_of change) d
    → is_placed request ≡ false
acks_named x c request (To.Place place target) change d f number p u =
    let call : IsCallOf x c (Acks (To.Place place target) change) = call_at x c (Acks (To.Place place target) change) p f.order in
    let free = place_free x.slots place target (range_of change) call.ready.2.0 call.ready.2.1 in
    absurd (unmapped_unused (x.slots.info u.0) d (free u.0 u.1) u.2)
acks_named x c request (To.Change planned) change d f number p u =
    change_is_named x c planned request number (call_at x c (Acks (To.Change planned) change) p f.order).asked
acks_named x c request (To.Access touch) change d f number p u =
    touch_is_named x c touch request number (call_at x c (Acks (To.Access touch) change) p f.order).asked

waits_named : (x : World) (c : ℕ) (request : Request) (range : PageRange) (d : ℕ) → IsWellFormed x
    → nth x.calls.requests (x.calls.number c) ≡ Some request
    → Waits (x.calls.phase c) range → IsUser x.slots range d → is_placed request ≡ false
waits_named x c request range d f number (for_change goal change p i) u =
    acks_named x c request goal change d f number p (subst (λ r. IsUser x.slots r d) i u)
waits_named x c request range d f number (for_copy touch frame p i) u =
    touch_is_named x c touch request number (call_at x c (CopyAcks touch frame) p f.order).asked

awaited_by : (w : World) (t : Plain) (c : ℕ) (request : Request) (x : World) (o : Outcome) (v : World) (range : PageRange) (set : ℕ)
    → IsServing w.memory.is_free w t c request x → IsTold x.slots x.hardware c (x.calls.phase c) → awaits_in (x.calls.phase c) ≡ Some range
    → o ≡ Wait (WaitsFor.Acks set) → Awaits x.hardware c set → v ≡ with_event x → IsAwaiting w x t c request o v
awaited_by w t c request x o v range set h was_told p e a k =
    let told : IsToldOf x.slots x.hardware c (Some range) = subst (IsToldOf x.slots x.hardware c) p was_told in
    let f : IsWellFormed x = reached_fine x h.reached in
    let waits : Waits (x.calls.phase c) range = waits_at (x.calls.phase c) range p in
    let kept = waits_unchanged t (recorded w.slots) (recorded x.slots) (reach_of x.hardware c) c request h.copy (x.calls.phase c) range waits h.used in
    let leads : LeadsTo x t = waiting_leads w.memory.is_free w t c request x h kept.0 kept.1 in
    let from : f.plain ≡ t = log_leads_to_one x.calls.requests x.calls.log (nothing_mapped x.made.file) f.plain t f.log leads in
    let will = will_answer w t c request x range h f from waits in
    let named : is_placed request ≡ false = waits_named x c request range a.some.0 f h.number waits ((told a.some.0).0.0 a.some.1).1 in
    record {
      waiting = record {
        range = range;
        at_wait = p;
        others = h.others;
        inside = h.inside;
        reached = h.reached;
        leads = leads;
        number = h.number;
      };
      set = set;
      waits = e;
      some = (a.some.0, ap (λ f. f a.some.0) a.exact ∙ a.some.1);
      exact = λ d. (
        λ m. (told d).0.0 (sym (ap (λ f. f d) a.exact) ∙ m),
        λ u. ap (λ f. f d) a.exact ∙ (told d).0.1 u,
      );
      takes = λ d. (told d).1 ∙ ap (λ (f : ℕ → Bool). if f d then 2 else 0) (sym a.exact);
      there = λ d u. ap (λ m. nat_lt d m.cores) (sym h.made) ∙ less_test d x.made.cores ((f.order.pages u.0).cores d u.2);
      stays = k;
      users = kept.2;
      frames = will.1 ∙ ap (λ (m : Made). taken_below w.memory.is_free m.frames + frames_for request) h.made;
      reply = will.0.reply;
      after = will.0.after;
      stands = will.0.stands;
      first = copy_first t c request will.0.reply will.0.after (named_first t c request will.0.reply named) will.0.stands;
      named = named;
      drops = will.0.drops;
    }

-- ---- the whole call

few_cores : (x : World) (c : ℕ) → nat_lt c x.made.cores ≡ true → IsWellFormed x → c < 64
few_cores x c inside f = let few = f.order.few in let l = below c x.made.cores inside in omega (arith, few, l)
  where
    below : (a b : ℕ) → nat_lt a b ≡ true → a < b
    below a b h = grind (arith, nat_tests)

told_step : (w : World) (t : Plain) (c : ℕ) (request : Request) (x v : World) → IsServing w.memory.is_free w t c request x → Step x (Go c) Stepped v
    → IsTold v.slots v.hardware c (v.calls.phase c)
told_step w t c request x v h s =
    let shape : Shape (with_event x) (Go c) Stepped v = before_limit x c v (comes x (Go c) Stepped v s) s in
    elim (row_of w.memory.is_free w t c request x Stepped v h (reached_fine v (reached_step x v (Go c) Stepped h.reached s)) shape) [
      | nears _ g k ↦ told_on (with_event x) c v (reached_fine x h.reached) h.others g
      | returns _ _ e _ ↦ absurd cc
      | awaits_acks _ _ _ e _ _ ↦ absurd cc
    ]

pub along : (free : ℕ → Bool) (w : World) (t : Plain) (c : ℕ) (request : Request) (m : World) → IsServing free w t c request m → (n : ℕ) (x : World)
    → StepsTo m c n x
    → IsServing free w t c request x × (n + left_of x c ≤ left_of m c)
along free w t c request m h zero x s = subst (λ (x : World). IsServing free w t c request x × (0 + left_of x c ≤ left_of m c)) (sym s) (h, omega arith)
along free w t c request m h (suc n) x s =
    let k = along free w t c request m h n s.0 s.1 in
    let z = serves_step free w t c request s.0 x k.0 s.2 in
    (z.0, let a = k.1 in let b = z.1 in omega (arith, a, b))

told_along : (w : World) (t : Plain) (c : ℕ) (request : Request) (m : World) → IsServing w.memory.is_free w t c request m
    → IsTold m.slots m.hardware c (m.calls.phase c)
    → (n : ℕ) (x : World) → StepsTo m c n x → IsTold x.slots x.hardware c (x.calls.phase c)
told_along w t c request m h told zero x s = subst (λ (x : World). IsTold x.slots x.hardware c (x.calls.phase c)) (sym s) told
told_along w t c request m h told (suc n) x s =
    told_step w t c request s.0 x (along w.memory.is_free w t c request m h n s.0 s.1).0 s.2

unwaited_along : (w : World) (t : Plain) (c : ℕ) (request : Request) (m : World) → IsServing w.memory.is_free w t c request m
    → IsTold m.slots m.hardware c (m.calls.phase c) → KeepsUsers (recorded w.slots) c (recorded m.slots) → (n : ℕ) (x : World) → StepsTo m c n x
    → KeepsUsers (recorded w.slots) c (recorded x.slots)
unwaited_along w t c request m h told u zero x s = subst (λ (x : World). KeepsUsers (recorded w.slots) c (recorded x.slots)) (sym s) u
unwaited_along w t c request m h told u (suc n) x s =
    let k = (along w.memory.is_free w t c request m h n s.0 s.1).0 in
    let shape : Shape (with_event s.0) (Go c) Stepped x = before_limit s.0 c x (comes s.0 (Go c) Stepped x s.2) s.2 in
    elim (row_of w.memory.is_free w t c request s.0 Stepped x k (reached_fine x (reached_step s.0 x (Go c) Stepped k.reached s.2)) shape) [
      | nears _ g _ ↦ unwaited_on (recorded w.slots) c (with_event s.0) x (reached_fine s.0 k.reached)
          (told_along w t c request m h told n s.0 s.1) (unwaited_along w t c request m h told u n s.0 s.1) g
      | returns _ _ e _ ↦ absurd cc
      | awaits_acks _ _ _ e _ _ ↦ absurd cc
    ]

-- what the call knows of its first place
seeking_along : (w : World) (t : Plain) (c : ℕ) (request : Request) (m : World) → IsServing w.memory.is_free w t c request m
    → IsSeeking t c request m → (n : ℕ) (x : World) → StepsTo m c n x → IsSeeking t c request x
seeking_along w t c request m h k zero x s = subst (IsSeeking t c request) (sym s) k
seeking_along w t c request m h k (suc n) x s =
    let z = (along w.memory.is_free w t c request m h n s.0 s.1).0 in
    let f : IsWellFormed s.0 = reached_fine s.0 z.reached in
    let shape : Shape (with_event s.0) (Go c) Stepped x = before_limit s.0 c x (comes s.0 (Go c) Stepped x s.2) s.2 in
    elim (row_of w.memory.is_free w t c request s.0 Stepped x z (reached_fine x (reached_step s.0 x (Go c) Stepped z.reached s.2)) shape) [
      | nears _ g _ ↦ seeks_on t (recorded w.slots) c request z.copy (with_event s.0) x f (few_cores s.0 c z.inside f) z.number
          (λ b. subst (ShowsPlain s.0) (subst (λ o. IsFrom t o f.plain) b.1 (goes_from w.memory.is_free w t c request s.0 z f b.0)) f.good)
          z.used (goes_of s.0 c x s.2) (seeking_along w t c request m h k n s.0 s.1) g
      | returns _ _ e _ ↦ absurd cc
      | awaits_acks _ _ _ e _ _ ↦ absurd cc
    ]

-- its reply is the first
first_reply : (w : World) (t : Plain) (c : ℕ) (request : Request) (o : Outcome) (x v : World) (reply : Reply)
    (k : IsServed w t c request o v) → o ≡ Answered reply → x.calls.phase c ≡ Answer reply → IsSeeking t c request x → RepliesBy IsFirstPlace t c request k.reply k.after
first_reply w t c request o x v reply k answered at seeking =
    let both : Answered k.reply ≡ Answered reply = sym k.answered ∙ answered in
    let same : reply ≡ k.reply = cc in
    copy_first t c request k.reply k.after (subst (IsFirstReply t c request) same (subst (Seeks t c request) at seeking)) k.stands

-- its reply drops no other user
keeps_others : (w : World) (t : Plain) (c : ℕ) (request : Request) (o : Outcome) (x v : World) (k : IsServed w t c request o v) → v ≡ to c Free (with_event x)
    → KeepsUsers (recorded w.slots) c (recorded x.slots) → KeepsOthers t (recorded w.slots) c request k.reply
keeps_others w t c request o x v k e u d p ne h = sym (k.users p d) ∙ (ap (λ (v : World). recorded v.slots p d) e ∙ u d p ne h)

pub served_alone : (w begun : World) (t : Plain) (core : ℕ) (request : Request) → IsReached w → LeadsTo w t → IsCalm w
    → Step w (Call core request) Stepped begun
    → IsServedAlone w t core request begun
served_alone w begun t core request reached leads calm s =
    let start = starts w t core request begun reached leads calm s in
    let most : left_of begun core ≡ 2 ^ 38 = ap (rank_of begun.slots (reach_of begun.hardware core)) start.1 in
    record {
      short = λ n x k. let a = (along w.memory.is_free w t core request begun start.0 n x k).1 in omega (arith, a, most);
      ends = λ n x v o k s not below.
          let h = (along w.memory.is_free w t core request begun start.0 n x k).0 in
          let first = subst (IsTold begun.slots begun.hardware core) (sym start.1) tt in
          let told = told_along w t core request begun start.0 first n x k in
          let same : KeepsUsers (recorded w.slots) core (recorded begun.slots) = λ d p ne i. ap (λ (m : World). recorded m.slots p d) start.2 ∙ i in
          let unwaited = unwaited_along w t core request begun start.0 first same n x k in
          let seeking = seeking_along w t core request begun start.0 (subst (Seeks t core request) (sym start.1) tt) n x k in
          elim (row_of w.memory.is_free w t core request x o v h (reached_fine v (reached_step x v (Go core) o h.reached s))
          (shape_at x core o v (less_test x.calls.events event_limit below) (comes x (Go core) o v s))) [
            | nears e _ _ ↦ absurd (not e)
            | returns reply at answered e ↦
                let k = returned w.memory.is_free w t core request x v o reply h s at answered e (λ d m u i. d)
                (taken_most w.memory.is_free x.memory.is_free request w.made.frames h.taken) in
                inl (k, keeps_others w t core request o x v k e unwaited, first_reply w t core request o x v reply k answered at seeking)
            | awaits_acks range set p e a k ↦ inr (awaited_by w t core request x o v range set h told p e a k)
          ];
    }
