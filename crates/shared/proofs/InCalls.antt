-- A call that has begun: each step of it, and each take of another core, adds to the log what it is replied, and nothing of other cores
use Rattle.machine_model.proofs.Words.{◌≡◌, ◌≢◌, ℕ, zero, suc, ◌+◌, ◌<◌, arith, ◌==◌, Bool, true, false, refl, sym, ap, subst, Some, None}
use Rattle.machine_model.proofs.Words.{Option, [], ◌∷◌, ◌++◌, ◌∙◌, inl, inr, ◌⊎◌, ⊎_elim}
use Rattle.machine_model.proofs.Words.{List, length, append-nil, eq_true, eq_false, put_same, put_other, put, Request, Reply, Entry, nth}
use Rattle.machine_model.proofs.Words.{World}
use Rattle.machine_model.proofs.Words.{with_event, after_call, answer_entry}
use Rattle.machine_model.proofs.Words.{detach_entry, Step, StepsTo, event_limit, nat_lt, put_all, nothing_mapped, nat_tests}
use Rattle.machine_model.proofs.Words.{Result, Ok, Err, ∥∥₁_elim, ∥∥₁_map, props}
use Rattle.machine_model.specs.declared.event.Event.{Event}
use Rattle.machine_model.specs.declared.event.Event.TheVariants.{Call, Go}
use Rattle.machine_model.specs.declared.event.Outcome.{Outcome}
use Rattle.machine_model.specs.declared.event.Outcome.TheVariants.{Stepped, Answered, Full, Idle, Wait}
use Rattle.machine_model.specs.declared.phase.Phase.{Phase}
use Rattle.machine_model.specs.declared.phase.Phase.TheVariants.{Free, Check, Unlock, Answer}
use Rattle.machine_model.proofs.Effects.{Status, Closed, Asked, Told, status, statuses, SameCalls, Effect, keeps, tells, detaches, opens, closes, effect_of}
use Rattle.machine_model.proofs.Numbered.{at_new}
use Rattle.machine_model.proofs.Going.{has_core}
use Rattle.machine_model.specs.declared.event.Event.TheVariants as EventOf
use Rattle.vm_base.specs.declared.memory.NoMemory.{NoMemory}
use Rattle.machine_model.proofs.Shapes.{handed_out, IsInner, Comes, stopped, acts as happens, comes}
use Rattle.machine_model.specs.Sound.{IsReached, IsSoundState}
use Rattle.machine_model.proofs.SoundKept.{reached_fine, reached_step}
use Rattle.machine_model.specs.Alone.{IsCalm}
use Rattle.core_steps.specs.declared.machine.Finished.{Finished}
use Rattle.core_steps.specs.declared.machine.Finished.TheVariants.{Last, Stuck}
use Rattle.core_steps.specs.Finishing.{Calls, Finishes, FinishesAfter, IsRefused}
use Rattle.core_steps.specs.Moving.{Tries}
use Rattle.core_steps.specs.Machine.{IsLegal}
use Rattle.core_steps.proofs.Keeping.{step_made}
use Rattle.shared.specs.declared.history.SeenLog.{SeenLog}
use Rattle.shared.specs.declared.history.Replied.{Replied}
use Rattle.shared.specs.Histories.{Adds, history_of, logged, replied, replied_by, replied_in}
use Rattle.shared.specs.Calling.{CalmBelow, InCall, reply_in}
use Rattle.shared.proofs.Lists.{AllKnown, begins_more, begins_self, begins_through, copy_more, led_known, other_more, own_more, request_more}

-- ---- where a call stands

-- the reply that finishing a call handed out
abbrev pub is_last : Finished → Option Reply
is_last (Last o) = handed_out o
is_last Stuck = None

abbrev pub told : Status → Option Reply
told Closed = None
told Asked = None
told (Told reply) = Some reply

told_in : (phase : Phase) → reply_in phase ≡ told (status phase)
told_in Free = refl
told_in (Unlock held reply) = refl
told_in (Answer reply) = refl
told_in _ = refl

pub closed_free : (phase : Phase) → status phase ≡ Closed → phase ≡ Free
closed_free Free e = refl
closed_free _ e = absurd cc

open_still : (phase : Phase) (s : Status) → status phase ≡ s → s ≢ Closed → phase ≢ Free
open_still phase s e ne f = ne (sym e ∙ ap status f)

-- ---- what a step adds

abbrev history : List Request → List Entry → SeenLog
history rs es = record { requests = rs; entries = es }

-- the log and the requests stay
adds_same : (c : ℕ) (added : List Replied) (h : SeenLog) (k l : SeenLog) → l ≡ k → Adds c added h k → Adds c added h l
adds_same c added h k l e a = subst (Adds c added h) (sym e) a

pub adds_nothing : (c : ℕ) (h k : SeenLog) → k ≡ h → Adds c [] h k
adds_nothing c h k e = subst (Adds c [] h) (sym e)
    (record { begins = (begins_self h.requests, begins_self h.entries); own = sym (append-nil (replied_by c h)); others = λ d ne. refl })

-- an entry more
adds_entry : (c : ℕ) (old new : List Replied) (h : SeenLog) (x v : World) (entry : Entry) → v.calls.requests ≡ x.calls.requests
    → v.calls.log ≡ x.calls.log ++ entry ∷ []
    → replied_in c x.calls.requests (x.calls.log ++ entry ∷ []) ≡ replied_by c h ++ new
    → ((d : ℕ) → d ≢ c → replied_in d x.calls.requests (x.calls.log ++ entry ∷ []) ≡ replied_by d (history_of x))
    → Adds c old h (history_of x) → Adds c new h (history_of v)
adds_entry c old new h x v entry same log own others a =
    let k : SeenLog = record { requests = x.calls.requests; entries = x.calls.log ++ entry ∷ [] } in
    let is : history_of v ≡ k = ap (λ (p : List Request × List Entry). history p.0 p.1) (λ i. (same i, log i)) in
    subst (Adds c new h) (sym is) (record {
      begins = begins_through h (history_of x) k a.begins (begins_self x.calls.requests, begins_more x.calls.log (entry ∷ []));
      own = own;
      others = λ d ne. others d ne ∙ a.others d ne;
    })

-- ---- a step beside which no other core has a call

same_core : (c b : ℕ) (x : World) (s : Status) → ((d : ℕ) → d ≢ c → x.calls.phase d ≡ Free) → statuses x b ≡ s → s ≢ Closed → b ≡ c
same_core c b x s others e ne = go (b == c) refl
  where
    go : (z : Bool) → (b == c) ≡ z → b ≡ c
    go true i = eq_true b c i
    go false i = absurd (ne (sym e ∙ ap status (others b (eq_false b c i))))

asked_open : Asked ≢ Closed
asked_open e = cc

told_open : (reply : Reply) → Told reply ≢ Closed
told_open reply e = cc

-- the call goes on
step_on : (w : World) (c : ℕ) (request : Request) (x v : World) (e : Event) (o : Outcome) → InCall w c request x → ((d : ℕ) (q : Request) → e ≢ Call d q)
    → handed_out o ≡ None → ∥ IsReached v ∥₁ → v.made ≡ x.made → Effect (with_event x) e o v → InCall w c request v
step_on w c request x v e o k no_call quiet reached made effect = elim effect [
  | keeps inner same log sts ↦
      next same (λ d ne. sts d ∙ ap status (k.others d ne)) (status (x.calls.phase c)) (sts c) (λ f. k.runs (closed_free (x.calls.phase c) f))
      (subst (λ (o : Option Reply). Adds c (logged request o) (history_of w) (history_of v)) (told_in (x.calls.phase c))
      (adds_same c _ (history_of w) (history_of x) (history_of v)
      (ap (λ (p : List Request × List Entry). history p.0 p.1) (λ i. (same.requests i, log i))) k.adds))
  | tells b reply inner same asked log sts ↦
      let mine : b ≡ c = same_core c b x Asked k.others asked asked_open in
      let asked_c : status (x.calls.phase c) ≡ Asked = subst (λ n. status (x.calls.phase n) ≡ Asked) mine asked in
      let none : reply_in (x.calls.phase c) ≡ None = told_in (x.calls.phase c) ∙ ap told asked_c in
      let before : Adds c [] (history_of w) (history_of x) =
      subst (λ (o : Option Reply). Adds c (logged request o) (history_of w) (history_of x)) none k.adds in
      let known : nth x.calls.requests (x.calls.number c) ≡ Some request =
      ap (λ (p : List Request × ℕ). nth p.0 p.1) (λ i. (k.requests i, k.number i)) ∙ at_new w.calls.requests request in
      next same (λ d ne. sts d ∙ (put_other (statuses x) b (Told reply) d (λ i. ne (i ∙ mine)) ∙ ap status (k.others d ne)))
      (Told reply) (sts c ∙ (ap (λ n. put (statuses x) n (Told reply) c) mine ∙ put_same (statuses x) c (Told reply))) (told_open reply)
      (adds_entry c [] (replied request reply ∷ []) (history_of w) x v (answer_entry (with_event x) c reply) same.requests
      (log ∙ ap (λ n. x.calls.log ++ answer_entry (with_event x) n reply ∷ []) mine)
      (own_more c x.calls.requests x.calls.log _ (x.calls.number c) request reply known
      ∙ ap (λ l. l ++ replied request reply ∷ []) (before.own ∙ append-nil (replied_by c (history_of w))))
      (λ d ne. other_more c d x.calls.requests x.calls.log _ (x.calls.number c) reply ne) before)
  | detaches b page r inner same asked number store log sts ↦
      let mine : b ≡ c = same_core c b x Asked k.others asked asked_open in
      let asked_c : status (x.calls.phase c) ≡ Asked = subst (λ n. status (x.calls.phase n) ≡ Asked) mine asked in
      let none : reply_in (x.calls.phase c) ≡ None = told_in (x.calls.phase c) ∙ ap told asked_c in
      let before : Adds c [] (history_of w) (history_of x) =
      subst (λ (o : Option Reply). Adds c (logged request o) (history_of w) (history_of x)) none k.adds in
      next same (λ d ne. sts d ∙ ap status (k.others d ne)) Asked (sts c ∙ asked_c) asked_open
      (adds_entry c [] [] (history_of w) x v (detach_entry (with_event x) b page) same.requests log
      (copy_more c x.calls.requests x.calls.log _ _ page ∙ before.own) (λ d ne. copy_more d x.calls.requests x.calls.log _ _ page) before)
  | opens b q i _ _ _ ↦ absurd (no_call b q i)
  | closes b reply _ i _ _ ↦ absurd (let z = sym quiet ∙ ap handed_out i in cc)
]
  where
    next : SameCalls (with_event x) v → ((d : ℕ) → d ≢ c → status (v.calls.phase d) ≡ Closed) → (s : Status) → status (v.calls.phase c) ≡ s → s ≢ Closed
        → Adds c (logged request (told s)) (history_of w) (history_of v) → InCall w c request v
    next same closed s is ne adds = record {
      reached = reached;
      made = made ∙ k.made;
      requests = same.requests ∙ k.requests;
      number = ap (λ (f : ℕ → ℕ). f c) same.number ∙ k.number;
      runs = open_still (v.calls.phase c) s is ne;
      others = λ d far. closed_free (v.calls.phase d) (closed d far);
      adds = subst (λ (o : Option Reply). Adds c (logged request o) (history_of w) (history_of v)) (sym (told_in (v.calls.phase c) ∙ ap told is)) adds;
    }

-- the call hands out its reply
step_ends : (w : World) (c : ℕ) (request : Request) (x v : World) (e : Event) (o : Outcome) (reply : Reply) → InCall w c request x
    → ((d : ℕ) (q : Request) → e ≢ Call d q)
    → o ≡ Answered reply → Effect (with_event x) e o v → IsCalm v × Adds c (replied request reply ∷ []) (history_of w) (history_of v)
step_ends w c request x v e o reply k no_call answered effect = elim effect [
  | keeps inner same log sts ↦ absurd (let z = sym inner.1 ∙ ap handed_out answered in cc)
  | tells b y inner same asked log sts ↦ absurd (let z = sym inner.1 ∙ ap handed_out answered in cc)
  | detaches b page r inner same asked number store log sts ↦ absurd (let z = sym inner.1 ∙ ap handed_out answered in cc)
  | opens b q i _ _ _ ↦ absurd (no_call b q i)
  | closes b y _ i told_b h ↦
      let mine : b ≡ c = same_core c b x (Told y) k.others told_b (told_open y) in
      let z : Answered y ≡ Answered reply = sym i ∙ answered in
      let its : y ≡ reply = cc in
      let told_c : reply_in (x.calls.phase c) ≡ Some reply = told_in (x.calls.phase c)
      ∙ (ap (λ n. told (status (x.calls.phase n))) (sym mine) ∙ (ap told told_b ∙ ap Some its)) in
      let before : Adds c (replied request reply ∷ []) (history_of w) (history_of x) =
      subst (λ (o : Option Reply). Adds c (logged request o) (history_of w) (history_of x)) told_c k.adds in (
        subst IsCalm (sym h) (put_all (λ d phase. phase ≡ Free) x.calls.phase b Free refl (λ d ne. k.others d (λ i. ne (i ∙ sym mine)))),
        subst (λ (v : World). Adds c (replied request reply ∷ []) (history_of w) (history_of v)) (sym h) before,
      )
]

-- the event counts, or the limit is reached
by_effect : (P : World → Type 0) (x v : World) (e : Event) (o : Outcome) → IsReached x → Comes x e o v
    → (nat_lt x.calls.events event_limit ≡ false → IsInner e o → v ≡ x → P v)
    → (Effect (with_event x) e o v → P v) → P v
by_effect P x v e o r (stopped n inner h) at_limit otherwise = at_limit n inner h
by_effect P x v e o r (happens n shape) at_limit otherwise = otherwise (effect_of (with_event x) e o v (reached_fine x r).order shape)

-- an event that hands out no reply leaves the call in flight
pub goes_on : (w : World) (c : ℕ) (request : Request) (x v : World) (e : Event) (o : Outcome) → InCall w c request x → ((d : ℕ) (q : Request) → e ≢ Call d q)
    → handed_out o ≡ None → Step x e o v → InCall w c request v
goes_on w c request x v e o k no_call quiet s =
    ∥∥₁_elim k.reached (hlevel props) (λ r. by_effect (InCall w c request) x v e o r (comes x e o v s)
    (λ _ _ h. subst (InCall w c request) (sym h) k)
    (step_on w c request x v e o k no_call quiet (∥∥₁_map k.reached (λ r. reached_step x v e o r s)) (step_made x e o v s)))

-- one that hands out a reply ends it
pub ends_so : (w : World) (c : ℕ) (request : Request) (x v : World) (e : Event) (reply : Reply) → InCall w c request x → ((d : ℕ) (q : Request) → e ≢ Call d q)
    → Step x e (Answered reply) v → IsCalm v × Adds c (replied request reply ∷ []) (history_of w) (history_of v)
ends_so w c request x v e reply k no_call s =
    ∥∥₁_elim k.reached (hlevel props)
    (λ r. by_effect (λ v. IsCalm v × Adds c (replied request reply ∷ []) (history_of w) (history_of v)) x v e (Answered reply) r
    (comes x e (Answered reply) v s) (λ _ inner _. absurd (let z = inner.1 in cc)) (step_ends w c request x v e (Answered reply) reply k no_call refl))

steps_made : (x : World) (c n : ℕ) (v : World) → StepsTo x c n v → v.made ≡ x.made
steps_made x c zero v s = ap (λ (v : World). v.made) s
steps_made x c (suc n) v s = step_made s.0 (Go c) Stepped v s.2 ∙ steps_made x c n s.0 s.1

go_no_call : (c : ℕ) (d : ℕ) (q : Request) → Go c ≢ Call d q
go_no_call c d q e = cc

-- its plain steps
pub along : (w : World) (c : ℕ) (request : Request) (x : World) → InCall w c request x → (n : ℕ) (v : World) → StepsTo x c n v → InCall w c request v
along w c request x k zero v s = subst (InCall w c request) (sym s) k
along w c request x k (suc n) v s = goes_on w c request s.0 v (Go c) Stepped (along w c request x k n s.0 s.1) (go_no_call c) refl s.2

-- ---- finishing

quiet_or : (o : Outcome) → (handed_out o ≡ None) ⊎ ((reply : Reply) × (o ≡ Answered reply))
quiet_or (Answered reply) = inr (reply, refl)
quiet_or _ = inl refl

-- what finishing a call leaves, where it isn't answered
pub finish_on : (w : World) (c : ℕ) (request : Request) (x : World) (finished : Finished) (v : World) → InCall w c request x → Finishes x c finished v
    → is_last finished ≡ None
    → InCall w c request v
finish_on w c request x (Last o) v k f none = goes_on w c request f.1.2.0 v (Go c) o (along w c request x k f.0 f.1.2.0 f.1.2.1) (go_no_call c) none f.1.2.2
finish_on w c request x Stuck v k f none = along w c request x k f.0 v f.1.1

-- and where it is
pub finish_ends : (w : World) (c : ℕ) (request : Request) (x : World) (reply : Reply) (v : World) → InCall w c request x
    → Finishes x c (Last (Answered reply)) v
    → IsCalm v × Adds c (replied request reply ∷ []) (history_of w) (history_of v)
finish_ends w c request x reply v k f = ends_so w c request f.1.2.0 v (Go c) reply (along w c request x k f.0 f.1.2.0 f.1.2.1) (go_no_call c) f.1.2.2

-- the machine is as it was made
pub finish_made : (x : World) (c : ℕ) (finished : Finished) (v : World) → Finishes x c finished v → v.made ≡ x.made
finish_made x c (Last o) v f = step_made f.1.2.0 (Go c) o v f.1.2.2 ∙ steps_made x c f.0 f.1.2.0 f.1.2.1
finish_made x c Stuck v f = steps_made x c f.0 v f.1.1

-- ---- a call that begins

begun_by_effect : (w : World) (c : ℕ) (request : Request) (m : World) → IsCalm w → AllKnown w.calls.requests w.calls.log → ∥ IsReached m ∥₁
    → Effect (with_event w) (Call c request) Stepped m
    → InCall w c request m
begun_by_effect w c request m calm known reached effect = elim effect [
  | keeps inner same log sts ↦ absurd (let z = inner.0 0 in cc)
  | tells b y inner same asked log sts ↦ absurd (let z = inner.0 0 in cc)
  | detaches b page r inner same asked number store log sts ↦ absurd (let z = inner.0 0 in cc)
  | opens b q i _ _ h ↦
      let mine : b ≡ c = cc in
      let its : q ≡ request = cc in
      begun_in (h ∙ ap (λ (p : ℕ × Request). after_call p.0 p.1 (with_event w)) (λ j. (mine j, its j)))
  | closes b y i _ _ _ ↦ absurd cc
]
  where
    begun_in : m ≡ after_call c request (with_event w) → InCall w c request m
    begun_in h =
        let phase : m.calls.phase c ≡ Check request = ap (λ (v : World). v.calls.phase c) h ∙ put_same w.calls.phase c (Check request) in
        let h_w : SeenLog = history_of w in
        let now : SeenLog = record { requests = w.calls.requests ++ request ∷ []; entries = w.calls.log } in
        let adds : Adds c [] h_w now = record {
          begins = (begins_more w.calls.requests (request ∷ []), begins_self w.calls.log);
          own = request_more c w.calls.requests request w.calls.log known ∙ sym (append-nil (replied_by c h_w));
          others = λ d ne. request_more d w.calls.requests request w.calls.log known;
        } in
        record {
          reached = reached;
          made = ap (λ (v : World). v.made) h;
          requests = ap (λ (v : World). v.calls.requests) h;
          number = ap (λ (v : World). v.calls.number c) h ∙ put_same w.calls.number c (suc (length w.calls.requests));
          runs = λ free. let z = sym phase ∙ free in cc;
          others = λ d ne. ap (λ (v : World). v.calls.phase d) h ∙ (put_other w.calls.phase c (Check request) d ne ∙ calm d);
          adds = subst (λ (p : Phase × World). Adds c (logged request (reply_in p.0)) h_w (history_of p.1)) (λ j. (sym phase j, sym h j)) adds;
        }

-- what is said of the log of a legal state
pub legal_known : (w : World) → IsSoundState w → AllKnown w.calls.requests w.calls.log
legal_known w s = led_known w.calls.requests w.calls.log (nothing_mapped w.made.file) s.0 s.1.log

pub call_begins : (w : World) (c : ℕ) (request : Request) (m : World) → IsLegal w → IsCalm w → Step w (Call c request) Stepped m → InCall w c request m
call_begins w c request m legal calm s =
    ∥∥₁_elim legal.sound (hlevel props) (λ sound. ∥∥₁_elim legal.reached (hlevel props) (λ r. by_effect (InCall w c request) w m (Call c request) Stepped r
    (comes w (Call c request) Stepped m s) (λ _ inner _. absurd (let z = inner.0 0 in cc))
    (begun_by_effect w c request m calm (legal_known w sound) (∥∥₁_map legal.reached (λ r. reached_step w m (Call c request) Stepped r s)))))

-- one that doesn't begin leaves all as it was
pub record StaysCalm (w : World) (c : ℕ) (v : World) : Type 0 where
  pub calm : IsCalm v
  pub adds : Adds c [] (history_of w) (history_of v)

none_begun : (w : World) (c : ℕ) (request : Request) (o : Outcome) (m : World) → IsCalm w → o ≢ Stepped → Effect (with_event w) (Call c request) o m
    → StaysCalm w c m × (handed_out o ≡ None)
none_begun w c request o m calm ne effect = elim effect [
  | keeps inner same log sts ↦ (
    record {
      calm = λ d. closed_free (m.calls.phase d) (sts d ∙ ap status (calm d));
      adds = adds_nothing c (history_of w) (history_of m) (ap (λ (p : List Request × List Entry). history p.0 p.1) (λ i. (same.requests i, log i)));
    },
    inner.1,
  )
  | tells b y inner same asked log sts ↦ absurd (let z = sym asked ∙ ap status (calm b) in cc)
  | detaches b page r inner same asked number store log sts ↦ absurd (let z = sym asked ∙ ap status (calm b) in cc)
  | opens b q i s _ _ ↦ absurd (ne s)
  | closes b y i _ _ _ ↦ absurd cc
]

pub call_refused : (w : World) (c : ℕ) (request : Request) (o : Outcome) (m : World) → IsLegal w → IsCalm w → o ≢ Stepped → Step w (Call c request) o m
    → StaysCalm w c m × (handed_out o ≡ None)
call_refused w c request o m legal calm ne s =
    ∥∥₁_elim legal.reached (hlevel props)
    (λ r. by_effect (λ m. StaysCalm w c m × (handed_out o ≡ None)) w m (Call c request) o r (comes w (Call c request) o m s)
    (λ _ inner h. (subst (StaysCalm w c) (sym h) (record { calm = calm; adds = adds_nothing c (history_of w) (history_of w) refl }), inner.1))
    (none_begun w c request o m calm ne))

-- ---- made as it was

-- a call that came to this outcome didn't begin
abbrev pub Ends-at-once : Outcome → Type 0
Ends-at-once o = (o ≢ Stepped) × ((m : World) (finished : Finished) (c : ℕ) (v : World) → FinishesAfter m c o finished v → (v ≡ m) × (finished ≡ Last o))

pub began : (o : Outcome) → (o ≡ Stepped) ⊎ Ends-at-once o
began Stepped = inl refl
began (Wait by) = inr ((λ e. cc), (λ m finished c v h. h))
began Idle = inr ((λ e. cc), (λ m finished c v h. h))
began (Answered reply) = inr ((λ e. cc), (λ m finished c v h. h))
began Full = inr ((λ e. cc), (λ m finished c v h. h))

pub call_made : (w : World) (c : ℕ) (request : Request) (finished : Finished) (v : World) → Calls w c request finished v → v.made ≡ w.made
call_made w c request finished v k = ⊎_elim
    (λ (e : k.0 ≡ Stepped). finish_made k.1 c finished v (subst (λ o. FinishesAfter k.1 c o finished v) e k.3) ∙ step_made w (Call c request) k.0 k.1 k.2)
    (λ (h : Ends-at-once k.0). ap (λ (v : World). v.made) (h.1 k.1 finished c v k.3).0 ∙ step_made w (Call c request) k.0 k.1 k.2)
    (began k.0)

-- ---- a call that is in flight

pub calls_first : (w : World) (c : ℕ) (request : Request) (x : World) → InCall w c request x
    → (reply : Option Reply) × Adds c (logged request reply) (history_of w) (history_of x)
calls_first w c request x k = (reply_in (x.calls.phase c), k.adds)

-- finishing is refused memory
pub refused_on : (kept : Bool) (w : World) (c : ℕ) (request : Request) (x v : World) → InCall w c request x → IsRefused kept x c v → InCall w c request v
refused_on kept w c request x v k r = along w c request x k r.0 v r.3

-- an event that is no step of a call, and begins none
pub record IsBesides (e : Event) : Type 0 where
  pub no_call : (d : ℕ) (q : Request) → e ≢ Call d q
  pub no_go : (d : ℕ) → e ≢ Go d

hands_none : (x v : World) (e : Event) (o : Outcome) → IsBesides e → Effect (with_event x) e o v → handed_out o ≡ None
hands_none x v e o b effect = elim effect [
  | keeps inner same log sts ↦ inner.1
  | tells d y inner same asked log sts ↦ inner.1
  | detaches d page r inner same asked number store log sts ↦ inner.1
  | opens d q i s _ _ ↦ ap handed_out s
  | closes d y i _ _ _ ↦ absurd (b.no_go d i)
]

pub event_on : (w : World) (c : ℕ) (request : Request) (x v : World) (e : Event) (o : Outcome) → IsBesides e → InCall w c request x → Step x e o v
    → InCall w c request v
event_on w c request x v e o b k s =
    let none : handed_out o ≡ None =
    ∥∥₁_elim k.reached (hlevel props) (λ r. by_effect (λ v. handed_out o ≡ None) x v e o r (comes x e o v s) (λ _ inner _. inner.1) (hands_none x v e o b)) in
    goes_on w c request x v e o k b.no_call none s

-- an event that takes no memory isn't refused
pub tried : (X : Type 0) (x v : World) (e : Event) (r : Result Outcome NoMemory) → (X → ⊥) → Tries (Step x e) X x r v → (o : Outcome) × Step x e o v
tried X x v e (Ok o) never s = (o, s)
tried X x v e (Err n) never s = absurd (never s.1)

pub takes_beside : (d : ℕ) → IsBesides (EventOf.Take d)
takes_beside d = record { no_call = λ c q e. cc; no_go = λ c e. cc }

pub gives_beside : (d : ℕ) → IsBesides (EventOf.GiveUp d)
gives_beside d = record { no_call = λ c q e. cc; no_go = λ c e. cc }

-- ---- where no core has a call

free_or : (p : Phase) → (p ≡ Free) ⊎ (p ≢ Free)
free_or Free = inl refl
free_or _ = inr (λ e. cc)

pub calm_all : (w : World) → IsLegal w → CalmBelow w w.made.cores → IsCalm w
calm_all w legal below c = ⊎_elim (λ e. e)
    (λ (ne : w.calls.phase c ≢ Free). ∥∥₁_elim legal.reached (hlevel props) (λ r. below c (has_core w c (reached_fine w r).order ne)))
    (free_or (w.calls.phase c))

pub calm_more : (w : World) (n : ℕ) → CalmBelow w n → w.calls.phase n ≡ Free → CalmBelow w (n + 1)
calm_more w n below free c lt = go (nat_lt c n) refl
  where
    less : (a b : ℕ) → nat_lt a b ≡ true → a < b
    less a b h = grind (arith, nat_tests)

    same : (a b : ℕ) → nat_lt a b ≡ false → a < b + 1 → a ≡ b
    same a b h k = grind (arith, nat_tests)

    go : (b : Bool) → nat_lt c n ≡ b → w.calls.phase c ≡ Free
    go true e = below c (less c n e)
    go false e = ap w.calls.phase (same c n e lt) ∙ free
