-- Below the limits a call is answered: what halts is let go by takes, and what is let go or given up is ended
use Rattle.machine_model.proofs.Words.{◌≡◌, ◌≢◌, ℕ, zero, suc, ◌+◌, ◌-◌, ◌<◌, ◌≤◌, ◌^◌, arith, ◌==◌, Bool, true, false, cond, refl, sym, ap}
use Rattle.machine_model.proofs.Words.{subst, Some, None, Option, [], ◌∷◌, ◌∙◌, inl, inr, ◌⊎◌, ⊎_elim}
use Rattle.machine_model.proofs.Words.{List, length, nat_lt, nat_tests, put, put_same, eq_true, eq_false, put_other, PageRange}
use Rattle.machine_model.proofs.Words.{Request, Reply, World, Plain}
use Rattle.machine_model.proofs.Words.{Acts, Goes, Begins}
use Rattle.machine_model.proofs.Words.{GivesUp, Becomes, is_here, core_of, with_event, event_limit, Step, StepsTo, after_give_up, held_after}
use Rattle.machine_model.proofs.Words.{still_held, let_go, awaits_in, members}
use Rattle.machine_model.proofs.Words.{Entry, Made, Message, Replays, after_call, between, awaited, if◌then◌else◌, nothing_mapped, nth, pred}
use Rattle.machine_model.proofs.Words.{∥∥₁_elim, ∥∥₁_map, props}
use Rattle.machine_model.specs.declared.event.Event.{Event}
use Rattle.machine_model.specs.declared.event.Event.TheVariants.{Call, Go}
use Rattle.machine_model.specs.declared.event.Outcome.{Outcome}
use Rattle.machine_model.specs.declared.event.Outcome.TheVariants.{Stepped, Idle, Answered, Full}
use Rattle.machine_model.specs.declared.phase.Phase.{Phase}
use Rattle.machine_model.specs.declared.phase.Phase.TheVariants.{Free, Lock, Cut, Unlock, Answer, Fill, CopyAcks, Install}
use Rattle.machine_model.specs.declared.event.Event.TheVariants as EventOf
use Rattle.vm_base.specs.declared.replies.Reply.TheVariants as ReplyOf
use Rattle.machine_model.proofs.Moves.{IsCallOf, call_at}
use Rattle.machine_model.proofs.Going.{has_core}
use Rattle.machine_model.specs.Sound.{IsReached}
use Rattle.machine_model.proofs.SoundKept.{reached_fine, reached_step}
use Rattle.machine_model.specs.Alone.{ComesBeside, IsAwaiting, IsBeside, IsBesideCalls, IsCalm}
use Rattle.machine_model.specs.Alone.{IsResting, IsWaiting, left_to, takes_left}
use Rattle.machine_model.specs.Taken.{frames_taken}
use Rattle.machine_model.proofs.Beside.{rests_beside}
use Rattle.machine_model.proofs.Ending.{served_at_last}
use Rattle.machine_model.proofs.Serving.{served_alone}
use Rattle.machine_model.proofs.Telling.{left_is_awaited}
use Rattle.core_steps.specs.declared.machine.Finished.{Finished}
use Rattle.core_steps.specs.declared.machine.Finished.TheVariants.{Last, Stuck}
use Rattle.core_steps.specs.Finishing.{Finishes, IsRefused, finish_limit}
use Rattle.core_steps.specs.Moving.{MayWant, WantsMemory}
use Rattle.core_steps.specs.Machine.{IsLegal}
use Rattle.shared.specs.Histories.{IsFull, IsOver}
use Rattle.shared.specs.Calling.{IsAnswered, Rests}

-- ---- the limit of events

test : (a b : ℕ) → a < b → nat_lt a b ≡ true
test a b h = grind (arith, nat_tests)

less : (a b : ℕ) → nat_lt a b ≡ true → a < b
less a b h = grind (arith, nat_tests)

not_less : (a b : ℕ) → nat_lt a b ≡ false → b ≤ a
not_less a b h = grind (arith, nat_tests)

not_test : (a b : ℕ) → b ≤ a → nat_lt a b ≡ false
not_test a b h = grind (arith, nat_tests)

-- before it, or there
pub before_or : (x : World) → (nat_lt x.calls.events event_limit ≡ true) ⊎ IsOver x
before_or x = go (nat_lt x.calls.events event_limit) refl
  where
    go : (b : Bool) → nat_lt x.calls.events event_limit ≡ b → (nat_lt x.calls.events event_limit ≡ true) ⊎ IsOver x
    go true e = inl e
    go false e = inr (not_less x.calls.events event_limit e)

-- there nothing happens
pub over_stays : (x : World) (e : Event) (o : Outcome) (v : World) → IsOver x → Step x e o v → (o ≡ Full) × (v ≡ x)
over_stays x e o v over s =
    subst (λ b. cond b (cond (is_here x.made (core_of e)) (Acts (with_event x) e o v) ((o ≡ Idle) × (v ≡ with_event x))) ((o ≡ Full) × (v ≡ x)))
    (not_test x.calls.events event_limit over) s

-- and every event comes to that
pub over_full : (x : World) (e : Event) → IsOver x → Step x e Full x
over_full x e over =
    subst (λ b. cond b (cond (is_here x.made (core_of e)) (Acts (with_event x) e Full x) ((Full ≡ Idle) × (x ≡ with_event x))) ((Full ≡ Full) × (x ≡ x)))
    (sym (not_test x.calls.events event_limit over)) (refl, refl)

pub over_steps : (x : World) (c n : ℕ) (v : World) → IsOver x → StepsTo x c n v → v ≡ x
over_steps x c zero v over s = s
over_steps x c (suc n) v over s =
    absurd (let k = (over_stays s.0 (Go c) Stepped v (subst IsOver (sym (over_steps x c n s.0 over s.1)) over) s.2).0 in cc)

-- before it an event of a core that is here does what it does
pub acts_at : (x : World) (e : Event) (o : Outcome) (v : World) → nat_lt x.calls.events event_limit ≡ true → is_here x.made (core_of e) ≡ true → Step x e o v
    → Acts (with_event x) e o v
acts_at x e o v below here s =
    subst (λ (p : Bool × Bool). cond p.0 (cond p.1 (Acts (with_event x) e o v) ((o ≡ Idle) × (v ≡ with_event x))) ((o ≡ Full) × (v ≡ x)))
    (λ i. (below i, here i)) s

-- ---- a call that has its reply

-- it has its reply, and lets go what it holds
pub data IsClosing (phase : Phase) : Type 0 where
  lets_go : (held : PageRange) (reply : Reply) → phase ≡ Unlock held reply → IsClosing phase
  hands_out : (reply : Reply) → phase ≡ Answer reply → IsClosing phase

-- how many plain steps it still takes at the most
abbrev left_in : Phase → ℕ
left_in (Unlock held reply) = held.end - held.first
left_in _ = 0

let_go_on : (held : PageRange) (reply : Reply) (b : ℕ) → held.first < b → b ≤ held.end
    → IsClosing (let_go (held_after held b) reply) × (left_in (let_go (held_after held b) reply) < held.end - held.first)
let_go_on held reply b l e = go (b == held.end)
  where
    go : (z : Bool) → IsClosing (let_go (if z then None else Some (between b held.end)) reply)
        × (left_in (let_go (if z then None else Some (between b held.end)) reply) < held.end - held.first)
    go true = (hands_out reply refl, omega (arith, l, e))
    go false = (lets_go (between b held.end) reply refl, omega (arith, l, e))

-- its step lets something go, or hands out the reply
closing_acts : (x : World) (c : ℕ) (o : Outcome) (v : World) → IsClosing (x.calls.phase c) → Goes (with_event x) c (x.calls.phase c) o v
    → ((o ≡ Stepped) × IsClosing (v.calls.phase c) × (left_in (v.calls.phase c) < left_in (x.calls.phase c))) ⊎ ((reply : Reply) × (o ≡ Answered reply))
closing_acts x c o v k g = elim k [
  | lets_go held reply e ↦
      let u = subst (λ phase. Goes (with_event x) c phase o v) e g in
      let on = let_go_on held reply u.0 u.1.1.slot.ordered u.1.1.by_end in
      let now : v.calls.phase c ≡ let_go (held_after held u.0) reply = ap (λ (m : World). m.calls.phase c) u.1.2.1
      ∙ put_same x.calls.phase c (let_go (held_after held u.0) reply) in
      inl (u.1.2.0, subst IsClosing (sym now) on.0, subst (λ (p : Phase × Phase). left_in p.0 < left_in p.1) (λ i. (sym now i, sym e i)) on.1)
  | hands_out reply e ↦ inr (reply, (subst (λ phase. Goes (with_event x) c phase o v) e g).0)
]

closing_busy : (phase : Phase) → IsClosing phase → phase ≢ Free
closing_busy phase k f = elim k [
  | lets_go held reply e ↦ absurd (let z = sym e ∙ f in cc)
  | hands_out reply e ↦ absurd (let z = sym e ∙ f in cc)
]

closing_here : (x : World) (c : ℕ) → IsReached x → IsClosing (x.calls.phase c) → nat_lt c x.made.cores ≡ true
closing_here x c r k = test c x.made.cores (has_core x c (reached_fine x r).order (closing_busy (x.calls.phase c) k))

closing_step : (x : World) (c : ℕ) (o : Outcome) (v : World) → IsReached x → IsClosing (x.calls.phase c) → nat_lt x.calls.events event_limit ≡ true
    → Step x (Go c) o v
    → ((o ≡ Stepped) × IsClosing (v.calls.phase c) × (left_in (v.calls.phase c) < left_in (x.calls.phase c))) ⊎ ((reply : Reply) × (o ≡ Answered reply))
closing_step x c o v r k below s = closing_acts x c o v k (acts_at x (Go c) o v below (closing_here x c r k) s)

-- a plain step is before the limit
plain_before : (x : World) (e : Event) (v : World) → Step x e Stepped v → nat_lt x.calls.events event_limit ≡ true
plain_before x e v s = ⊎_elim (λ (below : nat_lt x.calls.events event_limit ≡ true). below)
    (λ (over : IsOver x). absurd (let k = (over_stays x e Stepped v over s).0 in cc)) (before_or x)

closing_along : (x : World) (c n : ℕ) (v : World) → IsReached x → IsClosing (x.calls.phase c) → StepsTo x c n v
    → IsReached v × IsClosing (v.calls.phase c) × (n + left_in (v.calls.phase c) ≤ left_in (x.calls.phase c))
closing_along x c zero v r k s =
    subst (λ (v : World). IsReached v × IsClosing (v.calls.phase c) × (0 + left_in (v.calls.phase c) ≤ left_in (x.calls.phase c))) (sym s)
    (r, k, omega arith)
closing_along x c (suc n) v r k s =
    let h = closing_along x c n s.0 r k s.1 in
    ⊎_elim
    (λ (z : (Stepped ≡ Stepped) × IsClosing (v.calls.phase c) × (left_in (v.calls.phase c) < left_in (s.0.calls.phase c))).
    let most = h.2 in let fewer = z.2 in
    (reached_step s.0 v (Go c) Stepped h.0 s.2, z.1, omega (arith, most, fewer)))
    (λ (z : (reply : Reply) × (Stepped ≡ Answered reply)). absurd (let e = z.1 in cc))
    (closing_step s.0 c Stepped v h.0 h.1 (plain_before s.0 (Go c) v s.2) s.2)

closing_few : (x : World) (c : ℕ) → IsReached x → IsClosing (x.calls.phase c) → left_in (x.calls.phase c) ≤ 2 ^ 35
closing_few x c r k = elim k [
  | lets_go held reply e ↦
      let call : IsCallOf x c (Unlock held reply) = call_at x c (Unlock held reply) e (reached_fine x r).order in
      let high = call.ready.high in
      let left : left_in (x.calls.phase c) ≡ held.end - held.first = ap left_in e in
      omega (arith, high, left)
  | hands_out reply e ↦ let left : left_in (x.calls.phase c) ≡ 0 = ap left_in e in omega (arith, left)
]

closing_wants : (keeps : Bool) (x : World) (c : ℕ) → IsClosing (x.calls.phase c) → MayWant keeps x (Go c) → ⊥
closing_wants keeps x c k m = elim k [
  | lets_go held reply e ↦ subst (WantsMemory keeps x c) e m
  | hands_out reply e ↦ subst (WantsMemory keeps x c) e m
]

-- ---- what finishing comes to

-- the last outcome is a reply, or the limit of events is reached
abbrev pub AnswersOr : Finished → World → Type 0
AnswersOr finished v = IsAnswered finished ⊎ IsOver v

answered_last : (o : Outcome) (reply : Reply) → o ≡ Answered reply → IsAnswered (Last o)
answered_last o reply e = subst (λ o. IsAnswered (Last o)) (sym e) refl

-- a last step at the limit leaves it so
last_over : (x : World) (c : ℕ) (o : Outcome) (v : World) → IsOver x → Step x (Go c) o v → IsOver v
last_over x c o v over s = subst IsOver (sym (over_stays x (Go c) o v over s).1) over

over_finishes : (x : World) (c : ℕ) (finished : Finished) (v : World) → IsOver x → Finishes x c finished v → IsOver v
over_finishes x c (Last o) v over f = last_over f.1.2.0 c o v (subst IsOver (sym (over_steps x c f.0 f.1.2.0 over f.1.2.1)) over) f.1.2.2
over_finishes x c Stuck v over f = subst IsOver (sym (over_steps x c f.0 v over f.1.1)) over

-- by what it comes to before the limit
finishes_before : (x : World) (c : ℕ) (finished : Finished) (v : World) → Finishes x c finished v
    → ((n : ℕ) (m : World) (o : Outcome) → StepsTo x c n m → Step m (Go c) o v → o ≢ Stepped → nat_lt m.calls.events event_limit ≡ true → IsAnswered (Last o))
    → ((n : ℕ) → StepsTo x c n v → n ≡ finish_limit → ⊥) → AnswersOr finished v
finishes_before x c (Last o) v f ends short =
    let m = f.1.2.0 in
    ⊎_elim (λ (below : nat_lt m.calls.events event_limit ≡ true). inl (ends f.0 m o f.1.2.1 f.1.2.2 f.1.1 below))
    (λ (over : IsOver m). inr (last_over m c o v over f.1.2.2)) (before_or m)
finishes_before x c Stuck v f ends short = absurd (short f.0 f.1.1 f.1.0)

-- a call that has its reply hands it out
closing_answers : (x : World) (c n : ℕ) (m : World) (o : Outcome) (v : World) → IsReached x → IsClosing (x.calls.phase c) → StepsTo x c n m
    → Step m (Go c) o v → o ≢ Stepped
    → nat_lt m.calls.events event_limit ≡ true → IsAnswered (Last o)
closing_answers x c n m o v r k steps s ne below =
    let h = closing_along x c n m r k steps in
    ⊎_elim
    (λ (z : (o ≡ Stepped) × IsClosing (v.calls.phase c) × (left_in (v.calls.phase c) < left_in (m.calls.phase c))). absurd (ne z.0))
    (λ (z : (reply : Reply) × (o ≡ Answered reply)). answered_last o z.0 z.1)
    (closing_step m c o v h.0 h.1 below s)

closing_short : (x : World) (c n : ℕ) (v : World) → IsReached x → IsClosing (x.calls.phase c) → StepsTo x c n v → n ≡ finish_limit → ⊥
closing_short x c n v r k steps many =
    let most = (closing_along x c n v r k steps).2 in let few = closing_few x c r k in omega (arith, many, most, few)

pub closing_finishes : (x : World) (c : ℕ) (finished : Finished) (v : World) → ∥ IsReached x ∥₁ → IsClosing (x.calls.phase c) ⊎ IsOver x
    → Finishes x c finished v → AnswersOr finished v
closing_finishes x c finished v reached (inl k) f =
    finishes_before x c finished v f
    (λ n m o steps s ne below. ∥∥₁_elim reached (hlevel props) (λ r. closing_answers x c n m o v r k steps s ne below))
    (λ n steps many. ∥∥₁_elim reached (hlevel props) (λ r. closing_short x c n v r k steps many))
closing_finishes x c finished v reached (inr over) f = inr (over_finishes x c finished v over f)

-- and is refused no memory
pub closing_refused : (keeps : Bool) (x : World) (c : ℕ) (v : World) → ∥ IsReached x ∥₁ → IsClosing (x.calls.phase c) ⊎ IsOver x → IsRefused keeps x c v
    → IsOver v
closing_refused keeps x c v reached (inl k) f =
    absurd (∥∥₁_elim reached (hlevel props) (λ r. closing_wants keeps v c (closing_along x c f.0 v r k f.3).1 f.2))
closing_refused keeps x c v reached (inr over) f = subst IsOver (sym (over_steps x c f.0 v over f.3)) over

-- ---- a call that is given up

-- one that wants memory can be
gives : (keeps : Bool) (x : World) (c : ℕ) (phase : Phase) (o : Outcome) (v : World) → WantsMemory keeps x c phase → GivesUp (with_event x) c phase o v
    → Becomes (after_give_up c phase (with_event x)) o v
gives keeps x c (Lock goal cursor) o v m h = h
gives keeps x c (Cut place target range) o v m h = h
gives keeps x c (Fill touch frame) o v m h = h
gives keeps x c (Install touch) o v m h = h
gives keeps x c (CopyAcks touch frame) o v m (inl h) = h.1
gives keeps x c (CopyAcks touch frame) o v m (inr h) = absurd (let a = h.0.1.some in let b = m.0 a.0 in let e = a.1 in cc)
gives keeps x c _ o v m h = absurd m

pub wants_busy : (keeps : Bool) (x : World) (c : ℕ) → MayWant keeps x (Go c) → x.calls.phase c ≢ Free
wants_busy keeps x c m f = subst (WantsMemory keeps x c) f m

given_up : (o : Option PageRange) (reply : Reply) → IsClosing (let_go o reply)
given_up None reply = hands_out reply refl
given_up (Some held) reply = lets_go held reply refl

pub gives_up : (keeps : Bool) (x : World) (c : ℕ) (o : Outcome) (v : World) → c < x.made.cores → MayWant keeps x (Go c) → Step x (EventOf.GiveUp c) o v
    → IsClosing (v.calls.phase c) ⊎ IsOver v
gives_up keeps x c o v here m s = ⊎_elim
    (λ (below : nat_lt x.calls.events event_limit ≡ true).
    let k = gives keeps x c (x.calls.phase c) o v m (acts_at x (EventOf.GiveUp c) o v below (test c x.made.cores here) s) in
    let held = still_held (x.calls.phase c) in
    let now : v.calls.phase c ≡ let_go held ReplyOf.NoMemory = ap (λ (w : World). w.calls.phase c) k.1
    ∙ put_same x.calls.phase c (let_go held ReplyOf.NoMemory) in
    inl (subst IsClosing (sym now) (given_up held ReplyOf.NoMemory)))
    (λ (over : IsOver x). inr (subst IsOver (sym (over_stays x (EventOf.GiveUp c) o v over s).1) over))
    (before_or x)

-- ---- a call that waits

least : (n : ℕ) → n ≤ n
least n = omega arith

-- it waits on, where only others did something
waits_on : (x v : World) (t : Plain) (core : ℕ) (request : Request) → IsWaiting x t core request → IsReached v → IsBesideCalls x v → IsWaiting v t core request
waits_on x v t core request k r b = record {
  range = k.range;
  at_wait = ap (λ (f : ℕ → Phase). awaits_in (f core)) b.phases ∙ k.at_wait;
  others = λ d ne. ap (λ (f : ℕ → Phase). f d) b.phases ∙ k.others d ne;
  inside = ap (λ (m : Made). nat_lt core m.cores) b.made ∙ k.inside;
  reached = r;
  leads = subst (λ (p : List Request × List Entry × Made). Replays p.0 (nothing_mapped p.2.file) p.1 t)
      (λ i. (sym b.requests i, sym b.log i, sym b.made i)) k.leads;
  number = subst (λ (p : List Request × (ℕ → ℕ)). nth p.0 (p.1 core) ≡ Some request) (λ i. (sym b.requests i, sym b.numbers i)) k.number;
}

-- core d took, if it had something to take: nobody has more takes before it than it had
pub record Taken (x v : World) (d : ℕ) : Type 0 where
  pub fewer : (e : ℕ) → 0 < left_to v e → 0 < left_to x e
  pub less : left_to v d ≡ pred (left_to x d)

pub none_left : (n : ℕ) → (0 < n → ⊥) → n ≡ 0
none_left zero no_one = refl
none_left (suc n) no_one = absurd (no_one (omega arith))

took_some : (x v : World) (d : ℕ) → 0 < left_to x d → ((e : ℕ) → left_to v e ≡ put (left_to x) d (pred (left_to x d)) e) → (e : ℕ) → 0 < left_to v e
    → 0 < left_to x e
took_some x v d had is e some = go (e == d) refl
  where
    go : (b : Bool) → (e == d) ≡ b → 0 < left_to x e
    go true i = subst (λ n. 0 < left_to x n) (sym (eq_true e d i)) had
    go false i = subst (λ n. 0 < n) (is e ∙ put_other (left_to x) d (pred (left_to x d)) e (eq_false e d i)) some

take_leaves : (x v : World) (d : ℕ) (o : Outcome) → ((e : ℕ) → 0 < left_to x e → e < x.made.cores) → ComesBeside x (EventOf.Take d) o v → Taken x v d
take_leaves x v d o there (inl h) = record { fewer = took_some x v d h.1 h.2; less = h.2 d ∙ put_same (left_to x) d (pred (left_to x d)) }
take_leaves x v d o there (inr h) =
    let none : left_to x d ≡ 0 = ⊎_elim (λ (z : left_to x d ≡ 0). z)
    (λ (absent : nat_lt d x.made.cores ≡ false). none_left (left_to x d)
    (λ some. let far = not_less d x.made.cores absent in let near = there d some in omega (arith, far, near)))
    h.1 in
    record { fewer = λ e some. subst (λ n. 0 < n) (h.2 e) some; less = h.2 d ∙ (none ∙ sym (ap pred none)) }

abbrev AllThere : World → Type 0
AllThere x = (d : ℕ) → 0 < left_to x d → d < x.made.cores

resting : (x : World) (t : Plain) (core : ℕ) (request : Request) → IsWaiting x t core request → IsResting x core
resting x t core request k = record { reached = k.reached; others = k.others; own = inr (k.range, k.at_wait) }

take_waits : (x v : World) (core : ℕ) (request : Request) (d : ℕ) (o : Outcome) (z : (t : Plain) × IsWaiting x t core request × AllThere x)
    → nat_lt x.calls.events event_limit ≡ true
    → Step x (EventOf.Take d) o v → ((t : Plain) × IsWaiting v t core request × AllThere v) × Taken x v d
take_waits x v core request d o z below s =
    let beside = rests_beside x v core (EventOf.Take d) o (resting x z.0 core request z.1) tt (less x.calls.events event_limit below) s in
    let taken = take_leaves x v d o z.2 beside.1 in (
      (
        z.0,
        waits_on x v z.0 core request z.1 (reached_step x v (EventOf.Take d) o z.1.reached s) beside.0,
        λ e some. subst (λ (m : Made). e < m.cores) (sym beside.0.made) (z.2 e (taken.fewer e some)),
      ),
      taken,
    )

pub take_rests : (x v : World) (core : ℕ) (request : Request) (d : ℕ) (o : Outcome) → Rests core request x → Step x (EventOf.Take d) o v
    → (Rests core request v × Taken x v d) ⊎ IsOver v
take_rests x v core request d o k s = ⊎_elim
    (λ (below : nat_lt x.calls.events event_limit ≡ true). inl (
      ∥∥₁_map k (λ z. (take_waits x v core request d o z below s).0),
      ∥∥₁_elim k (hlevel props) (λ z. (take_waits x v core request d o z below s).1),
    ))
    (λ (over : IsOver x). inr (subst IsOver (sym (over_stays x (EventOf.Take d) o v over s).1) over))
    (before_or x)

-- a core has two takes before it at the most
two_taken : (ms : List Message) → pred (pred (takes_left ms)) ≡ 0
two_taken [] = refl
two_taken (m ∷ ms) = go m.is_cleared
  where
    go : (b : Bool) → pred (pred (if b then 1 else 2)) ≡ 0
    go true = refl
    go false = refl

pub two_at_most : (x v u : World) (d : ℕ) → Taken x v d → Taken v u d → left_to u d ≡ 0
two_at_most x v u d one two = two.less ∙ (ap pred one.less ∙ two_taken (x.hardware.inbox d))

-- who has a take before it is awaited
pub left_awaited : (x : World) (core : ℕ) (request : Request) → Rests core request x → (d : ℕ) → 0 < left_to x d → awaited x.hardware.inbox core d ≡ true
left_awaited x core request k d some = ∥∥₁_elim k (hlevel props) (λ z.
    (left_is_awaited x.calls.phase d (x.hardware.inbox d) core (λ b ne. ap awaits_in (z.1.others b ne)) ((reached_fine x z.1.reached).coherent.asked d)).1 some)

-- and is one of 64
pub left_below : (x : World) (core : ℕ) (request : Request) → Rests core request x → (d : ℕ) → 0 < left_to x d → d < 64
left_below x core request k d some =
    ∥∥₁_elim k (hlevel props) (λ z. let near = z.2 d some in let few = (reached_fine x z.1.reached).order.few in omega (arith, near, few))

-- ---- a call comes so far

-- it waits for just those that were told, where it doesn't end
awaiting_rests : (w x : World) (t : Plain) (core : ℕ) (request : Request) (o : Outcome) (v : World) → v.made ≡ w.made → Step x (Go core) o v
    → IsAwaiting w x t core request o v
    → (t : Plain) × IsWaiting v t core request × AllThere v
awaiting_rests w x t core request o v made s a = (
  t,
  waits_on x v t core request a.waiting (reached_step x v (Go core) o a.waiting.reached s) (subst (IsBesideCalls x) (sym a.stays) (record {
    made = refl;
    phases = refl;
    numbers = refl;
    requests = refl;
    log = refl;
    users = λ p d. refl;
    frames = least (frames_taken x);
  })),
  λ d some. subst (λ (m : Made). d < m.cores) (sym made) (here d (members a.set d) refl (subst (λ n. 0 < n) (ap (λ (v : World). left_to v d) a.stays) some)),
)
  where
    here : (d : ℕ) (b : Bool) → members a.set d ≡ b → 0 < left_to x d → d < w.made.cores
    here d true m some = less d w.made.cores (a.there d ((a.exact d).0 m).1)
    here d false m some = absurd (let none : left_to x d ≡ 0 = a.takes d ∙ ap (λ b. if b then 2 else 0) m in omega (arith, none, some))

pub begun_rests : (w m : World) (core : ℕ) (request : Request) (o : Outcome) (v : World) → IsLegal w → IsCalm w → Step w (Call core request) Stepped m
    → v.made ≡ w.made
    → ((reply : Reply) → o ≢ Answered reply) → Finishes m core (Last o) v → Rests core request v ⊎ IsOver v
begun_rests w m core request o v legal calm s made unanswered f =
    let x = f.1.2.0 in
    ⊎_elim
    (λ (below : nat_lt x.calls.events event_limit ≡ true).
    inl (∥∥₁_elim legal.sound (hlevel props)
    (λ sound. ∥∥₁_map legal.reached
    (λ r. elim ((served_alone w m sound.0 core request r sound.1.log calm s).ends f.0 x v o f.1.2.1 f.1.2.2 f.1.1
    (less x.calls.events event_limit below)) [
      | inl served ↦ absurd (unanswered served.0.reply served.0.answered)
      | inr a ↦ awaiting_rests w x sound.0 core request o v made f.1.2.2 a
    ]))))
    (λ (over : IsOver x). inr (last_over x core o v over f.1.2.2))
    (before_or x)

pub begun_short : (w m : World) (core : ℕ) (request : Request) (v : World) → IsLegal w → IsCalm w → Step w (Call core request) Stepped m
    → Finishes m core Stuck v → ⊥
begun_short w m core request v legal calm s f = ∥∥₁_elim legal.sound (hlevel props) (λ sound. ∥∥₁_elim legal.reached (hlevel props) (λ r.
    let fewer = (served_alone w m sound.0 core request r sound.1.log calm s).short f.0 v f.1.1 in let many = f.1.0 in omega (arith, fewer, many)))

-- once nobody is awaited, it is answered
let_go_answers : (x : World) (core : ℕ) (request : Request) (t : Plain) (n : ℕ) (m : World) (o : Outcome) (v : World) → IsWaiting x t core request
    → ((d : ℕ) → left_to x d ≡ 0)
    → StepsTo x core n m → Step m (Go core) o v → o ≢ Stepped → nat_lt m.calls.events event_limit ≡ true → IsAnswered (Last o)
let_go_answers x core request t n m o v k none steps s ne below =
    elim ((served_at_last x t core request k).ends n m v o steps s ne (less m.calls.events event_limit below)) [
      | inl a ↦ answered_last o a.served.reply a.served.answered
      | inr a ↦ absurd (let some = (a.exact a.some.0).0 a.some.1 in let no_one = none a.some.0 in omega (arith, some, no_one))
    ]

pub let_go_finishes : (x : World) (core : ℕ) (request : Request) (finished : Finished) (v : World)
    → (Rests core request x × ((d : ℕ) → left_to x d ≡ 0)) ⊎ IsOver x
    → Finishes x core finished v → AnswersOr finished v
let_go_finishes x core request finished v (inl k) f =
    finishes_before x core finished v f
    (λ n m o steps s ne below. ∥∥₁_elim k.0 (hlevel props) (λ z. let_go_answers x core request z.0 n m o v z.1 k.1 steps s ne below))
    (λ n steps many. ∥∥₁_elim k.0 (hlevel props) (λ z. let fewer = (served_at_last x z.0 core request z.1).short n v steps in omega (arith, fewer, many)))
let_go_finishes x core request finished v (inr over) f = inr (over_finishes x core finished v over f)

-- ---- a call that doesn't begin

pub refused_full : (w : World) (c : ℕ) (request : Request) (o : Outcome) (m : World) → c < w.made.cores → IsCalm w → o ≢ Stepped
    → Step w (Call c request) o m → IsFull m
refused_full w c request o m here calm ne s = ⊎_elim
    (λ (below : nat_lt w.calls.events event_limit ≡ true).
    go (nat_lt (length w.calls.requests) w.made.calls) refl
    (subst (λ phase. Begins (with_event w) c request phase o m) (calm c) (acts_at w (Call c request) o m below (test c w.made.cores here) s)))
    (λ (over : IsOver w). inr (subst IsOver (sym (over_stays w (Call c request) o m over s).1) over))
    (before_or w)
  where
    go : (b : Bool) → nat_lt (length w.calls.requests) w.made.calls ≡ b
        → cond b (Becomes (after_call c request (with_event w)) o m) ((o ≡ Full) × (m ≡ with_event w)) → IsFull m
    go true i k = absurd (ne k.0)
    go false i k = subst IsFull (sym k.1) (inl (not_less (length w.calls.requests) w.made.calls i))

-- ---- beside calls

calm_rests : (w : World) (c : ℕ) → IsReached w → IsCalm w → IsResting w c
calm_rests w c r calm = record { reached = r; others = λ d ne. calm d; own = inl (calm c) }

-- it leaves no call in flight, and nothing is logged
pub record LeavesCalm (w v : World) : Type 0 where
  pub calm : IsCalm v
  pub requests : v.calls.requests ≡ w.calls.requests
  pub log : v.calls.log ≡ w.calls.log

pub aside_calm : (w : World) (c : ℕ) (e : Event) (o : Outcome) (v : World) → IsLegal w → IsCalm w → IsBeside w e → Step w e o v → LeavesCalm w v
aside_calm w c e o v legal calm b s = ⊎_elim
    (λ (below : nat_lt w.calls.events event_limit ≡ true). ∥∥₁_elim legal.reached (hlevel props) (λ r.
    let k = (rests_beside w v c e o (calm_rests w c r calm) b (less w.calls.events event_limit below) s).0 in
    record { calm = λ d. ap (λ (f : ℕ → Phase). f d) k.phases ∙ calm d; requests = k.requests; log = k.log }))
    (λ (over : IsOver w). subst (LeavesCalm w) (sym (over_stays w e o v over s).1) (record { calm = calm; requests = refl; log = refl }))
    (before_or w)
