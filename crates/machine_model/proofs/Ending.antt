-- A call that waits, and beside which no other call runs, is answered once nobody is awaited.
use Rattle.machine_model.proofs.Words.{◌≡◌, ◌≢◌, ℕ, zero, suc, ◌+◌, ◌≤◌, ◌<◌, ◌^◌, ◌⊎◌, Bool, true, false, inl, inr, refl, sym, ap, subst, arith, Some, None}
use Rattle.machine_model.proofs.Words.{Option, ◌∙◌, if◌then◌else◌, fun_ext, PageRange, Reply, Request, put, Plain, put_all, put_other, put_same, awaited}
use Rattle.machine_model.proofs.Words.{Touch, goal_range, Go, Outcome, Stepped, Wait, Answered, Phase, Free, Check, Lock, Guess, Find, Cut, Decide, Post, Acks}
use Rattle.machine_model.proofs.Words.{Unlock, Answer, Try, Settle, Want, Fill, CopyPost, CopyAcks, Install, Release, NoneFree, let_go, to, Awaits}
use Rattle.machine_model.proofs.Words.{AwaitsNobody, awaits_in, taken_in, held_after, World, Made, with_event, event_limit, Step, StepsTo, Stands, page_copied}
use Rattle.machine_model.proofs.Words.{with_copy, is_access, IsPlace}
use Rattle.vm_base.specs.declared.replies.Reply.TheVariants as ReplyOf
use Rattle.machine_model.specs.declared.event.Blocker.TheVariants as WaitsFor
use Rattle.machine_model.specs.declared.phase.Phase.TheVariants.{Back as Leaving}
use Rattle.machine_model.proofs.Deciding.{goal_valid}
use Rattle.machine_model.proofs.Going.{call_sound, has_core}
use Rattle.machine_model.proofs.Effects.{status}
use Rattle.machine_model.proofs.Moves.{IsCallOf, call_at}
use Rattle.machine_model.proofs.Shapes.{Moves, locks, tries, hints, seeks, guesses, turns, chooses, acts, finds, lacks, shows, Replies}
use Rattle.machine_model.proofs.Shapes.{refuses, no_place, declines, fails, no_frame, LetsGo, unlocks, returns, releases, GoesBy, moves}
use Rattle.machine_model.proofs.Shapes.{divides, cuts, fits, owns, lets_go, answers, posts, commits, takes, zeroes, first_copies, caches}
use Rattle.machine_model.proofs.Shapes.{shares, posts_copy, copies, installs, accesses, faults, comes}
use Rattle.machine_model.specs.Invariant.{IsWellFormed}
use Rattle.machine_model.proofs.SoundKept.{reached_fine, reached_step}
use Rattle.machine_model.specs.Alone.{IsAnsweredAtLast, IsWaiting, IsServedAtLast, IsAwaitingStill, takes_left}
use Rattle.machine_model.specs.Taken.{frames_for, frames_taken, taken_below}
use Rattle.machine_model.specs.Users.{recorded}
use Rattle.machine_model.proofs.Awaiting.{change_answers, copy_frames}
use Rattle.machine_model.proofs.First.{copy_first, named_first}
use Rattle.machine_model.proofs.Noting.{IsLogged}
use Rattle.machine_model.proofs.Rank.{rank_of, reach_of, hits, size}
use Rattle.machine_model.proofs.Rows.{HasTaken, IsDueReply, IsSure, IsSureOf, left_of, sure_at}
use Rattle.machine_model.proofs.Storing.{IsStorable}
use Rattle.machine_model.proofs.Taking.{TakesOne, its_access, no_frame_access, taken_most}
use Rattle.machine_model.proofs.Telling.{Waits, for_change, for_copy, left_is_awaited, waits_at}
use Rattle.machine_model.proofs.Used.{Used}
use Rattle.machine_model.proofs.Serving.{IsServing, nears, returns, awaits_acks, row_of, before_limit, shape_at, less_test, returned, along}

-- ---- a call that has waited doesn't wait again

-- the change is made, or the page has its copy
abbrev IsPast : (Touch → Option ℕ) → Phase → Type 0
IsPast reach (Unlock held reply) = Unit {0}
IsPast reach (Answer reply) = Unit {0}
IsPast reach (Install touch) = Unit {0}
IsPast reach (Release touch) = Unit {0}
IsPast reach (Try touch) = hits reach touch ≡ true
IsPast reach _ = ⊥

abbrev IsPastOf : ℕ → World → Type 0
IsPastOf c w = IsPast (reach_of w.hardware c) (w.calls.phase c)

past_waits : (reach : Touch → Option ℕ) (phase : Phase) (range : PageRange) → IsPast reach phase → Waits phase range → ⊥
past_waits reach phase range k (for_change goal change p i) = subst (IsPast reach) p k
past_waits reach phase range k (for_copy touch frame p i) = subst (IsPast reach) p k

past_at : (c : ℕ) (w : World) (old : Phase) → w.calls.phase c ≡ old → IsPastOf c w → IsPast (reach_of w.hardware c) old
past_at c w old e k = subst (IsPast (reach_of w.hardware c)) e k

past_to : (c : ℕ) (new : Phase) (x v : World) → v ≡ to c new x → IsPast (reach_of x.hardware c) new → IsPastOf c v
past_to c new x v h k = subst (IsPastOf c) (sym h) (subst (IsPast (reach_of x.hardware c)) (sym (put_same x.calls.phase c new)) k)

gone_past : (reach : Touch → Option ℕ) (o : Option PageRange) (reply : Reply) → IsPast reach (let_go o reply)
gone_past reach None reply = tt
gone_past reach (Some held) reply = tt

not_moving : (w : World) (c : ℕ) (new : Phase) → IsPastOf c w → Moves w c new → ⊥
not_moving w c new k (locks request change e n i) = past_at c w (Check request) e k
not_moving w c new k (tries request touch e n i) = past_at c w (Check request) e k
not_moving w c new k (hints request place range e n i j) = past_at c w (Check request) e k
not_moving w c new k (seeks request place e n i) = past_at c w (Check request) e k
not_moving w c new k (guesses place found e n i) = past_at c w (Guess place) e k
not_moving w c new k (turns place target e n i) = past_at c w (Find place target) e k
not_moving w c new k (chooses place target range shoot e n i) = past_at c w (Find place target) e k
not_moving w c new k (acts change range shoot e n i) = past_at c w (Decide change) e k
not_moving w c new k (finds touch f e n i) = past_at c w (Settle touch) e k
not_moving w c new k (lacks touch old e n i j) = past_at c w (Settle touch) e k
not_moving w c new k (shows touch e n i j) = past_at c w (Settle touch) e k

not_replying : (w : World) (c : ℕ) (held : Option PageRange) (reply : Reply) → IsPastOf c w → Replies w c held reply → ⊥
not_replying w c held reply k (refuses r e h j) = past_at c w (Check r) e k
not_replying w c held reply k (no_place place target errno e h i d) = past_at c w (Find place target) e k
not_replying w c held reply k (declines change errno e h i d) = past_at c w (Decide change) e k
not_replying w c held reply k (fails touch e h x) = past_at c w (Settle touch) e k
not_replying w c held reply k (no_frame touch old e h i none) = past_at c w (Want touch old) e k

lets_go_past : (free : ℕ → Bool) (w x : World) (c : ℕ) (held : PageRange) (b : ℕ) (new : Phase) (v : World) → IsSureOf free c w
    → IsPastOf c w → LetsGo (w.calls.phase c) held b new
    → x.hardware ≡ w.hardware → v ≡ to c new x → IsPastOf c v
lets_go_past free w x c held b new v sure k (unlocks reply e n) same h =
    past_to c new x v h (subst (IsPast (reach_of x.hardware c)) (sym n) (gone_past (reach_of x.hardware c) (held_after held b) reply))
lets_go_past free w x c held b new v sure k (returns place target e n) same h = absurd (past_at c w (Leaving place target held) e k)
lets_go_past free w x c held b new v sure k (releases touch e i n) same h =
    let hit : hits (reach_of w.hardware c) touch ≡ true = sure_at free w c (Release touch) e sure in
    past_to c new x v h (subst (IsPast (reach_of x.hardware c)) (sym n) (subst (λ z. hits (reach_of z c) touch ≡ true) (sym same) hit))

past_next : (free : ℕ → Bool) (w : World) (c : ℕ) (v : World) → IsSureOf free c w → IsPastOf c w → GoesBy w c v → IsPastOf c v
past_next free w c v sure k (moves new m h) = absurd (not_moving w c new k m)
past_next free w c v sure k (divides goal cursor t e s h) = absurd (past_at c w (Lock goal cursor) e k)
past_next free w c v sure k (cuts place target range t e s h) = absurd (past_at c w (Cut place target range) e k)
past_next free w c v sure k (fits place target range e i h) = absurd (past_at c w (Cut place target range) e k)
past_next free w c v sure k (owns goal cursor b t e l h) = absurd (past_at c w (Lock goal cursor) e k)
past_next free w c v sure k (lets_go held b t new l u h) = lets_go_past free w (record w { slots = t }) c held b new v sure k l refl h
past_next free w c v sure k (answers held reply r h) = absurd (not_replying w c held reply k r)
past_next free w c v sure k (posts change shoot e h) = absurd (past_at c w (Post change shoot) e k)
past_next free w c v sure k (commits goal change counts e n l h) = absurd (past_at c w (Acks goal change) e k)
past_next free w c v sure k (takes touch old x e l h) = absurd (past_at c w (Want touch old) e k)
past_next free w c v sure k (zeroes touch x counts e b t h) = absurd (past_at c w (Fill touch (Some x)) e k)
past_next free w c v sure k (first_copies touch x counts e b t h) = absurd (past_at c w (Fill touch (Some x)) e k)
past_next free w c v sure k (caches touch x counts e s n t h) = absurd (past_at c w (Fill touch (Some x)) e k)
past_next free w c v sure k (shares touch own x counts e s n t h) = absurd (past_at c w (Fill touch own) e k)
past_next free w c v sure k (posts_copy touch x e h) = absurd (past_at c w (CopyPost touch x) e k)
past_next free w c v sure k (copies touch x g counts e n a t h) = absurd (past_at c w (CopyAcks touch x) e k)
past_next free w c v sure k (installs touch e h) = past_to c (Release touch) _ v h tt
past_next free w c v sure k (accesses touch x e i h) = past_to c (let_go None _) _ v h tt
past_next free w c v sure k (faults touch e i h) = absurd (let hit = past_at c w (Try touch) e k in cc (hit, i))

-- ---- its first step

other_phase : (w : World) (c : ℕ) (old : Phase) (range : PageRange) → w.calls.phase c ≡ old → awaits_in (w.calls.phase c) ≡ Some range → awaits_in old ≡ None
    → ⊥
other_phase w c old range e a none = let z = sym (ap awaits_in e) ∙ a in cc

no_moves : (w : World) (c : ℕ) (new : Phase) (range : PageRange) → awaits_in (w.calls.phase c) ≡ Some range → Moves w c new → ⊥
no_moves w c new range a (locks request change e n i) = other_phase w c (Check request) range e a refl
no_moves w c new range a (tries request touch e n i) = other_phase w c (Check request) range e a refl
no_moves w c new range a (hints request place r e n i j) = other_phase w c (Check request) range e a refl
no_moves w c new range a (seeks request place e n i) = other_phase w c (Check request) range e a refl
no_moves w c new range a (guesses place found e n i) = other_phase w c (Guess place) range e a refl
no_moves w c new range a (turns place target e n i) = other_phase w c (Find place target) range e a refl
no_moves w c new range a (chooses place target r shoot e n i) = other_phase w c (Find place target) range e a refl
no_moves w c new range a (acts change r shoot e n i) = other_phase w c (Decide change) range e a refl
no_moves w c new range a (finds touch f e n i) = other_phase w c (Settle touch) range e a refl
no_moves w c new range a (lacks touch old e n i j) = other_phase w c (Settle touch) range e a refl
no_moves w c new range a (shows touch e n i j) = other_phase w c (Settle touch) range e a refl

no_replies : (w : World) (c : ℕ) (held : Option PageRange) (reply : Reply) (range : PageRange) → awaits_in (w.calls.phase c) ≡ Some range
    → Replies w c held reply → ⊥
no_replies w c held reply range a (refuses r e h j) = other_phase w c (Check r) range e a refl
no_replies w c held reply range a (no_place place target errno e h i d) = other_phase w c (Find place target) range e a refl
no_replies w c held reply range a (declines change errno e h i d) = other_phase w c (Decide change) range e a refl
no_replies w c held reply range a (fails touch e h x) = other_phase w c (Settle touch) range e a refl
no_replies w c held reply range a (no_frame touch old e h i none) = other_phase w c (Want touch old) range e a refl

no_letting : (w : World) (c : ℕ) (held : PageRange) (b : ℕ) (new : Phase) (range : PageRange) → awaits_in (w.calls.phase c) ≡ Some range
    → LetsGo (w.calls.phase c) held b new → ⊥
no_letting w c held b new range a (unlocks reply e n) = other_phase w c (Unlock held reply) range e a refl
no_letting w c held b new range a (returns place target e n) = other_phase w c (Leaving place target held) range e a refl
no_letting w c held b new range a (releases touch e i n) = other_phase w c (Release touch) range e a refl

wait_ends : (w : World) (c : ℕ) (v : World) (range : PageRange) → awaits_in (w.calls.phase c) ≡ Some range → GoesBy w c v
    → AwaitsNobody w.hardware c × IsPastOf c v
wait_ends w c v range a (moves new m h) = absurd (no_moves w c new range a m)
wait_ends w c v range a (divides goal cursor t e s h) = absurd (other_phase w c (Lock goal cursor) range e a refl)
wait_ends w c v range a (cuts place target r t e s h) = absurd (other_phase w c (Cut place target r) range e a refl)
wait_ends w c v range a (fits place target r e i h) = absurd (other_phase w c (Cut place target r) range e a refl)
wait_ends w c v range a (owns goal cursor b t e l h) = absurd (other_phase w c (Lock goal cursor) range e a refl)
wait_ends w c v range a (lets_go held b t new l u h) = absurd (no_letting w c held b new range a l)
wait_ends w c v range a (answers held reply r h) = absurd (no_replies w c held reply range a r)
wait_ends w c v range a (posts change shoot e h) = absurd (other_phase w c (Post change shoot) range e a refl)
wait_ends w c v range a (commits goal change counts e n l h) = (n, past_to c (Unlock (goal_range goal) _) _ v h tt)
wait_ends w c v range a (takes touch old x e l h) = absurd (other_phase w c (Want touch old) range e a refl)
wait_ends w c v range a (zeroes touch x counts e b t h) = absurd (other_phase w c (Fill touch (Some x)) range e a refl)
wait_ends w c v range a (first_copies touch x counts e b t h) = absurd (other_phase w c (Fill touch (Some x)) range e a refl)
wait_ends w c v range a (caches touch x counts e s n t h) = absurd (other_phase w c (Fill touch (Some x)) range e a refl)
wait_ends w c v range a (shares touch own x counts e s n t h) = absurd (other_phase w c (Fill touch own) range e a refl)
wait_ends w c v range a (posts_copy touch x e h) = absurd (other_phase w c (CopyPost touch x) range e a refl)
wait_ends w c v range a (copies touch x g counts e n j t h) = (n, past_to c (Install touch) _ v h tt)
wait_ends w c v range a (installs touch e h) = absurd (other_phase w c (Install touch) range e a refl)
wait_ends w c v range a (accesses touch x e i h) = absurd (other_phase w c (Try touch) range e a refl)
wait_ends w c v range a (faults touch e i h) = absurd (other_phase w c (Try touch) range e a refl)

-- ---- the call where it waits

-- It serves its request, where these frames were free before it took one. So "no frame" won't be its reply, and it takes none more.
record IsAtLast (w : World) (t : Plain) (c : ℕ) (request : Request) : Type 0 where
  free : ℕ → Bool
  serving : IsServing free w t c request w
  framed : (reply : Reply) → IsDueReply free reply → (m u : Plain) → Stands IsPlace m c request reply u → reply ≢ ReplyOf.NoFrame
  frames : (now : ℕ → Bool) → TakesOne free now request → taken_below now w.made.frames ≤ frames_taken w

serving_at : (free : ℕ → Bool) (w : World) (t : Plain) (c : ℕ) (request : Request) (k : IsWaiting w t c request) (old : Phase) → w.calls.phase c ≡ old
    → IsLogged w.calls.log w.calls.log (w.calls.number c) c None (status old) → IsSure free w.memory.is_free (reach_of w.hardware c) old
    → IsStorable w.memory.cached w.slots.info old → Used t (recorded w.slots) (recorded w.slots) (reach_of w.hardware c) c request None old
    → TakesOne free w.memory.is_free request → IsServing free w t c request w
serving_at free w t c request k old p logged sure storable used taken = record {
  copy = None;
  reached = k.reached;
  inside = k.inside;
  first = k.leads;
  number = k.number;
  others = k.others;
  logged = subst (λ phase. IsLogged w.calls.log w.calls.log (w.calls.number c) c None (status phase)) (sym p) logged;
  sure = subst (IsSure free w.memory.is_free (reach_of w.hardware c)) (sym p) sure;
  storable = subst (IsStorable w.memory.cached w.slots.info) (sym p) storable;
  asks = tt;
  made = refl;
  used = subst (Used t (recorded w.slots) (recorded w.slots) (reach_of w.hardware c) c request None) (sym p) used;
  taken = taken;
}

-- a frame that was free before it was taken
was_free : (free : ℕ → Bool) (f : ℕ) → free f ≡ false → HasTaken (put free f true) free (Some f)
was_free free f h =
    (put_same free f true, fun_ext (λ j. sym (put_all (λ j b. b ≡ free j) (put free f true) f false (sym h) (λ j ne. put_other free f true j ne) j)))

at_last : (w : World) (t : Plain) (c : ℕ) (request : Request) → IsWaiting w t c request → IsAtLast w t c request
at_last w t c request k = go (waits_at (w.calls.phase c) k.range k.at_wait)
  where
    f : IsWellFormed w
    f = reached_fine w k.reached

    go : Waits (w.calls.phase c) k.range → IsAtLast w t c request
    go (for_change goal change p i) =
        let access : is_access request ≡ false = (change_answers w f.plain c request goal change f refl k.number p).1 in
        let none : frames_for request ≡ 0 = ap (λ (b : Bool). if b then 1 else 0) access in
        record {
          free = w.memory.is_free;
          serving = serving_at w.memory.is_free w t c request k (Acks goal change) p refl refl tt (refl, λ q d. refl) (inl refl);
          framed = λ reply due m u stands e. let z = no_frame_access m u c request (subst (λ r. Stands IsPlace m c request r u) e stands) in cc;
          frames = λ now h. let a = taken_most w.memory.is_free now request w.made.frames h in omega (arith, a, none);
        }
    go (for_copy touch frame p i) =
        let free : ℕ → Bool = put w.memory.is_free frame true in
        let taken : HasTaken free w.memory.is_free (Some frame) = was_free w.memory.is_free frame (f.counted.busy c frame (ap taken_in p)) in
        let call : IsCallOf w c (CopyAcks touch frame) = call_at w c (CopyAcks touch frame) p f.order in
        let z = copy_frames w c request touch frame free f k.number p taken in
        record {
          free = free;
          serving = serving_at free w t c request k (CopyAcks touch frame) p refl taken tt (refl, λ q d. refl)
              (inr (frame, taken, its_access w c touch request k.number call.asked));
          framed = λ reply due m u stands e.
              let none : NoneFree free = subst (IsDueReply free) e due 0 0 0 in
              let a = none frame in let b = taken.0 in cc;
          frames = λ now h. let a = taken_most free now request w.made.frames h in let b = z.0 in let d = z.1 in omega (arith, a, b, d);
        }

-- no step was made, or nobody was awaited and the call has waited
started : (w : World) (t : Plain) (c : ℕ) (request : Request) (k : IsWaiting w t c request) (l : IsAtLast w t c request) → (n : ℕ) (x : World) → StepsTo w c n x
    → (x ≡ w) ⊎ (AwaitsNobody w.hardware c × IsPastOf c x)
started w t c request k l zero x s = inl s
started w t c request k l (suc n) x s =
    let h = (along l.free w t c request w l.serving n s.0 s.1).0 in
    let after = reached_fine x (reached_step s.0 x (Go c) Stepped h.reached s.2) in
    elim (row_of l.free w t c request s.0 Stepped x h after (before_limit s.0 c x (comes s.0 (Go c) Stepped x s.2) s.2)) [
      | nears _ g _ ↦ elim (started w t c request k l n s.0 s.1) [
        | inl same ↦
            let z = wait_ends (with_event s.0) c x k.range (ap (λ (x : World). awaits_in (x.calls.phase c)) same ∙ k.at_wait) g in
            inr (subst (λ (x : World). AwaitsNobody x.hardware c) same z.0, z.1)
        | inr z ↦ inr (z.0, past_next l.free (with_event s.0) c x h.sure z.1 g)
      ]
      | returns _ _ e _ ↦ absurd cc
      | awaits_acks _ _ _ e _ _ ↦ absurd cc
    ]

-- ---- who is awaited

alone_awaits : (w : World) (t : Plain) (c : ℕ) (request : Request) → IsWaiting w t c request → (b : ℕ) → b ≢ c → awaits_in (w.calls.phase b) ≡ None
alone_awaits w t c request k b ne = ap awaits_in (k.others b ne)

none_left : (n : ℕ) → (0 < n → ⊥) → n ≡ 0
none_left zero h = refl
none_left (suc n) h = absurd (h (omega arith))

nobody_left : (w : World) (t : Plain) (c : ℕ) (request : Request) → IsWaiting w t c request → AwaitsNobody w.hardware c
    → (d : ℕ) → takes_left (w.hardware.inbox d) ≡ 0
nobody_left w t c request k n d =
    let f = reached_fine w k.reached in
    none_left (takes_left (w.hardware.inbox d)) (λ l.
    let a : awaited w.hardware.inbox c d ≡ true =
    (left_is_awaited w.calls.phase d (w.hardware.inbox d) c (alone_awaits w t c request k) (f.coherent.asked d)).1 l in
    let b = n d in cc)

still : (w : World) (t : Plain) (c : ℕ) (request : Request) (o : Outcome) (v : World) (set : ℕ) → IsWaiting w t c request → o ≡ Wait (WaitsFor.Acks set)
    → Awaits w.hardware c set → v ≡ with_event w → IsAwaitingStill w o v
still w t c request o v set k e a h =
    let f = reached_fine w k.reached in
    record {
      set = set;
      waits = e;
      some = (a.some.0, ap (λ f. f a.some.0) a.exact ∙ a.some.1);
      exact = λ d.
          let z = left_is_awaited w.calls.phase d (w.hardware.inbox d) c (alone_awaits w t c request k) (f.coherent.asked d) in (
            λ m. z.0 (sym (ap (λ f. f d) a.exact) ∙ m),
            λ l. ap (λ f. f d) a.exact ∙ z.1 l,
          );
      stays = h;
    }

-- ---- the whole

few : (w : World) (t : Plain) (c : ℕ) (request : Request) → IsWaiting w t c request → left_of w c < 2 ^ 40
few w t c request k = go (waits_at (w.calls.phase c) k.range k.at_wait)
  where
    go : Waits (w.calls.phase c) k.range → left_of w c < 2 ^ 40
    go (for_change goal change p i) =
        let f = reached_fine w k.reached in
        let call : IsCallOf w c (Acks goal change) = call_at w c (Acks goal change) p f.order in
        let inside = has_core w c f.order (λ k. let a = sym p ∙ k in cc) in
        let valid = goal_valid goal (call_sound w c goal f.order inside call.asked call.ready.0) in
        let high = valid.high in
        let left : left_of w c ≡ size (goal_range goal) + 2 = ap (rank_of w.slots (reach_of w.hardware c)) p in
        omega (arith, high, left)
    go (for_copy touch frame p i) =
        let left : left_of w c ≡ 9 = ap (rank_of w.slots (reach_of w.hardware c)) p in
        omega (arith, left)

-- a reply that isn't "no frame" is due whatever frames are free
due_any : (free now : ℕ → Bool) (reply : Reply) → IsDueReply free reply → reply ≢ ReplyOf.NoFrame → IsDueReply now reply
due_any free now ReplyOf.NoFrame h ne = absurd (ne refl)
due_any free now _ h ne = h

answered_at_last : (w : World) (t : Plain) (c : ℕ) (request : Request) → IsWaiting w t c request
    → (l : IsAtLast w t c request) (x v : World) (o : Outcome) (reply : Reply)
    → IsServing l.free w t c request x → Step x (Go c) o v → x.calls.phase c ≡ Answer reply → o ≡ Answered reply → v ≡ to c Free (with_event x)
    → AwaitsNobody w.hardware c → IsAnsweredAtLast w t c request o v
answered_at_last w t c request k l x v o reply h step at answered e nobody =
    let most : taken_below x.memory.is_free w.made.frames ≤ frames_taken w = l.frames x.memory.is_free h.taken in
    let z = returned l.free w t c request x v o reply h step at answered e
    (λ due m u stands. due_any l.free w.memory.is_free reply due (l.framed reply due m u stands)) (omega (arith, most)) in
    let both : Answered z.reply ≡ Answered reply = sym z.answered ∙ answered in
    let same : z.reply ≡ reply = cc in
    let sure : IsDueReply l.free reply = subst (IsSure l.free x.memory.is_free (reach_of x.hardware c)) at h.sure in
    record {
      served = z;
      first = λ named. copy_first t c request z.reply z.after (named_first t c request z.reply named) z.stands;
      framed = l.framed z.reply (subst (IsDueReply l.free) (sym same) sure) (with_copy t (page_copied t request z.reply)) z.after z.stands;
      frames = subst (λ (v : World). frames_taken v ≤ frames_taken w) (sym e)
          (subst (λ n. taken_below x.memory.is_free n ≤ frames_taken w) (sym (ap (λ (m : Made). m.frames) h.made)) most);
      nobody = nobody_left w t c request k nobody;
    }

pub served_at_last : (w : World) (t : Plain) (c : ℕ) (request : Request) → IsWaiting w t c request → IsServedAtLast w t c request
served_at_last w t c request k =
    let l : IsAtLast w t c request = at_last w t c request k in
    let most = few w t c request k in
    record {
      short = λ n x s. let a = (along l.free w t c request w l.serving n x s).1 in omega (arith, a, most);
      ends = λ n x v o s step not below.
          let h = (along l.free w t c request w l.serving n x s).0 in
          let from = started w t c request k l n x s in
          elim (row_of l.free w t c request x o v h (reached_fine v (reached_step x v (Go c) o h.reached step))
          (shape_at x c o v (less_test x.calls.events event_limit below) (comes x (Go c) o v step))) [
            | nears e _ _ ↦ absurd (not e)
            | returns reply at answered e ↦ elim from [
              | inl same ↦ absurd (let z = sym (ap (λ (x : World). awaits_in (x.calls.phase c)) same ∙ k.at_wait) ∙ ap awaits_in at in cc)
              | inr z ↦ inl (answered_at_last w t c request k l x v o reply h step at answered e z.0)
            ]
            | awaits_acks range set p e a i ↦ elim from [
              | inl same ↦ inr (still w t c request o v set k e (subst (λ (x : World). Awaits x.hardware c set) same a) (i ∙ ap with_event same))
              | inr z ↦ absurd (past_waits (reach_of x.hardware c) (x.calls.phase c) range z.1 (waits_at (x.calls.phase c) range p))
            ]
          ];
    }
