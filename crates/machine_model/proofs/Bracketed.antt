-- Each reply stands once in the log, between its call and its answer: what holds before each event of a run, from its start.
use Rattle.machine_model.proofs.Words.{◌≡◌, ◌≢◌, ℕ, zero, suc, ◌+◌, ◌<◌, ◌≤◌, Bool, true, false, refl, sym, subst, ap, arith, Some, List, [], ◌∷◌, ◌++◌, ◌⊎◌}
use Rattle.machine_model.proofs.Words.{◌∙◌, inl, inr, length, take, slice_get, nat_lt, Reply, Request, put, put_all, put_both, Slots, IsNew, Event, Call}
use Rattle.machine_model.proofs.Words.{Outcome, Answered, Entry, Detach, Free, Check, to, core_of, World, Made, new_world, after_call, with_event, event_limit}
use Rattle.machine_model.proofs.Words.{Step, Run, nth}
use Rattle.vm_base.specs.declared.log.Entry.TheVariants.{Answer}
use Rattle.machine_model.specs.Brackets.{Begun, begun_by, calls_from, calls_of, requests_of, IsLatest, step_of}
use Rattle.machine_model.specs.Brackets.{IsAnswer, IsDetach, IsStoreTo, IsAnsweredBefore, AllRunsBracketed}
use Rattle.machine_model.specs.Orderly.{IsOrderly}
use Rattle.machine_model.proofs.Kept.{kept}
use Rattle.machine_model.proofs.Opening.{opening_is_orderly}
use Rattle.machine_model.proofs.Effects.{Status, Closed, Asked, Told, status, statuses, Effect, keeps, tells, detaches, opens, closes, effect_of}
use Rattle.machine_model.proofs.Shapes.{Comes, stopped, acts, comes}
use Rattle.machine_model.proofs.Numbered.{get_old, get_new, get_either, at_old, at_new, at_either, within}

-- ---- what holds before an event

-- an open call is its core's latest; the log has its reply from the step that fixed it on
abbrev pub Stands : ℕ → List Begun → List Entry → ℕ → ℕ → Status → Type 0
Stands n calls log core call Closed = Unit {0}
Stands n calls log core call Asked = IsLatest calls core call × ((i step other : ℕ) (reply : Reply) → ¬ IsAnswer log i step call other reply)
Stands n calls log core call (Told reply) = IsLatest calls core call × IsAnsweredBefore n log call core reply

-- a copy at this place of the log was made for a store of these calls, whose reply stands in no earlier place
abbrev pub IsCopyFor : List Begun → List Entry → ℕ → ℕ → ℕ → ℕ → Type 0
IsCopyFor calls log i step k page = (b : Begun) × (nth calls k ≡ Some b) × IsStoreTo b.request page × (b.step < step)
    × ((j later core : ℕ) (reply : Reply) → IsAnswer log j later k core reply → i < j)

-- the entries are of events before the n-th
abbrev pub AreBefore : ℕ → List Entry → Type 0
AreBefore n log = (i : ℕ) (x : Entry) → slice_get log i ≡ Some x → step_of x < n

-- each is of a later event than those before it
abbrev pub StepsRise : List Entry → Type 0
StepsRise log = (i j : ℕ) (x y : Entry) → i < j → slice_get log i ≡ Some x → slice_get log j ≡ Some y → step_of x < step_of y

-- before the n-th event, when these calls were begun
pub record Chronicle (n : ℕ) (calls : List Begun) (requests : List Request) (log : List Entry) (call : ℕ → ℕ) (stat : ℕ → Status) : Type 0 where
  pub same : requests ≡ requests_of calls
  pub before : (k : ℕ) (b : Begun) → nth calls k ≡ Some b → b.step < n
  pub made : AreBefore n log
  pub rises : StepsRise log
  pub begun : (i step k core : ℕ) (reply : Reply) → IsAnswer log i step k core reply → (b : Begun) × (nth calls k ≡ Some b) × (b.core ≡ core) × (b.step < step)
  pub once : (i j step later k core other : ℕ) (reply reply2 : Reply) → IsAnswer log i step k core reply → IsAnswer log j later k other reply2 → i ≡ j
  pub copies : (i step k page : ℕ) → IsDetach log i step k page → IsCopyFor calls log i step k page
  pub stands : (c : ℕ) → Stands n calls log c (call c) (stat c)

before_later : (n : ℕ) (log : List Entry) (call core : ℕ) (reply : Reply) → IsAnsweredBefore n log call core reply
    → IsAnsweredBefore (suc n) log call core reply
before_later n log call core reply h = (h.0, h.1, h.2, omega (arith, h.3))

stands_later : (n : ℕ) (calls : List Begun) (log : List Entry) (core call : ℕ) (s : Status) → Stands n calls log core call s
    → Stands (suc n) calls log core call s
stands_later n calls log core call Closed h = tt
stands_later n calls log core call Asked h = h
stands_later n calls log core call (Told reply) h = (h.0, before_later n log call core reply h.1)

-- ---- an event that is only counted

chron_keeps : (n : ℕ) (calls : List Begun) (requests : List Request) (log : List Entry) (call : ℕ → ℕ) (stat : ℕ → Status)
    → Chronicle n calls requests log call stat → Chronicle (suc n) calls requests log call stat
chron_keeps n calls requests log call stat h = record {
  same = h.same;
  before = λ k b e. omega (arith, h.before k b e);
  made = λ i x e. omega (arith, h.made i x e);
  rises = h.rises;
  begun = h.begun;
  once = h.once;
  copies = h.copies;
  stands = λ c. stands_later n calls log c (call c) (stat c) (h.stands c);
}

chron_stat : (n : ℕ) (calls : List Begun) (requests : List Request) (log : List Entry) (call : ℕ → ℕ) (stat new : ℕ → Status)
    → ((c : ℕ) → new c ≡ stat c) → Chronicle n calls requests log call stat → Chronicle n calls requests log call new
chron_stat n calls requests log call stat new e h = record {
  same = h.same;
  before = h.before;
  made = h.made;
  rises = h.rises;
  begun = h.begun;
  once = h.once;
  copies = h.copies;
  stands = λ c. subst (Stands n calls log c (call c)) (sym (e c)) (h.stands c);
}

-- ---- the reply of a call is logged

-- the parts of an entry
abbrev pub call_in : Entry → ℕ
call_in (Answer step call core reply) = call
call_in (Detach step call page) = call

-- (a copy's entry names no core)
abbrev pub core_in : Entry → ℕ
core_in (Answer step call core reply) = core
core_in (Detach step call page) = 0

abbrev pub page_in : Entry → ℕ
page_in (Answer step call core reply) = 0
page_in (Detach step call page) = page

-- which of the two kinds the entry is
abbrev pub is_reply : Entry → Bool
is_reply (Answer step call core reply) = true
is_reply (Detach step call page) = false

-- with one of the n-th event at its end
made_more : (n : ℕ) (log : List Entry) (new : Entry) → step_of new ≡ n → AreBefore n log → AreBefore (suc n) (log ++ new ∷ [])
made_more n log new now made i x e = elim (get_either log new i x e) [
  | inl k ↦ omega (arith, made i x k.0)
  | inr k ↦ let s : step_of x ≡ n = ap step_of k.1 ∙ now in omega (arith, s)
]

rises_more : (n : ℕ) (log : List Entry) (new : Entry) → step_of new ≡ n → AreBefore n log → StepsRise log → StepsRise (log ++ new ∷ [])
rises_more n log new now made rises i j x y lt a b = elim (get_either log new j y b) [
  | inl k ↦ elim (get_either log new i x a) [
    | inl l ↦ rises i j x y lt l.0 k.0
    | inr l ↦ absurd (omega (arith, l.0, k.1, lt))
  ]
  | inr k ↦ elim (get_either log new i x a) [
    | inl l ↦ let s : step_of y ≡ n = ap step_of k.1 ∙ now in omega (arith, s, made i x l.0)
    | inr l ↦ absurd (omega (arith, l.0, k.0, lt))
  ]
]

chron_tells : (n : ℕ) (calls : List Begun) (requests : List Request) (log : List Entry) (call : ℕ → ℕ) (stat : ℕ → Status) (c : ℕ)
    (reply : Reply) → stat c ≡ Asked → Chronicle n calls requests log call stat
    → Chronicle (suc n) calls requests (log ++ Answer n (call c) c reply ∷ []) call (put stat c (Told reply))
chron_tells n calls requests log call stat c reply e h = record {
  same = h.same;
  before = λ k b e. omega (arith, h.before k b e);
  made = made_more n log new refl h.made;
  rises = rises_more n log new refl h.made h.rises;
  begun = λ i step k core r a. elim (get_either log new i (Answer step k core r) a) [
    | inl l ↦ h.begun i step k core r l.0
    | inr l ↦
        let same : k ≡ call c = ap call_in l.1 in
        let here : core ≡ c = ap core_in l.1 in
        let now : step ≡ n = ap step_of l.1 in
        let lt = h.before (call c) own.0 own.1 in
        (own.0, ap (nth calls) same ∙ own.1, own.2 ∙ sym here, omega (arith, now, lt))
  ];
  once = λ i j step later k core other r q a b. elim (get_either log new j (Answer later k other q) b) [
    | inl m ↦ elim (get_either log new i (Answer step k core r) a) [
      | inl l ↦ h.once i j step later k core other r q l.0 m.0
      | inr l ↦ absurd (mine.1 j later other q (subst (λ n. slice_get log j ≡ Some (Answer later n other q)) (ap call_in l.1) m.0))
    ]
    | inr m ↦ elim (get_either log new i (Answer step k core r) a) [
      | inl l ↦ absurd (mine.1 i step core r (subst (λ n. slice_get log i ≡ Some (Answer step n core r)) (ap call_in m.1) l.0))
      | inr l ↦ l.0 ∙ sym m.0
    ]
  ];
  copies = λ i step k page a. elim (get_either log new i (Detach step k page) a) [
    | inl l ↦ let old = h.copies i step k page l.0 in (
      old.0,
      old.1,
      old.2,
      old.3,
      λ j later core r b. elim (get_either log new j (Answer later k core r) b) [
        | inl m ↦ old.4 j later core r m.0
        | inr m ↦ let at = m.0 in let lt = l.1 in omega (arith, at, lt)
      ],
    )
    | inr l ↦ absurd (let other = ap is_reply l.1 in cc)
  ];
  stands =
      put_all (λ d s. Stands (suc n) calls (log ++ new ∷ []) d (call d) s) stat c (Told reply) (mine.0, (length log, n, get_new log new, omega arith))
      (λ d ne. other d ne (stat d) (h.stands d));
}
  where
    new : Entry
    new = Answer n (call c) c reply

    mine : Stands n calls log c (call c) Asked
    mine = subst (Stands n calls log c (call c)) e (h.stands c)

    own : (b : Begun) × (nth calls (call c) ≡ Some b) × (b.core ≡ c)
    own = mine.0.is_begun

    -- calls of two cores are two
    apart : (d : ℕ) → d ≢ c → IsLatest calls d (call d) → call c ≢ call d
    apart d ne l f =
        let b = l.is_begun in
        let z : Some own.0 ≡ Some b.0 = sym own.1 ∙ (ap (nth calls) f ∙ b.1) in
        let m : own.0 ≡ b.0 = cc in
        ne (sym b.2 ∙ sym (ap (λ b. b.core) m) ∙ own.2)

    other : (d : ℕ) → d ≢ c → (s : Status) → Stands n calls log d (call d) s → Stands (suc n) calls (log ++ new ∷ []) d (call d) s
    other d ne Closed o = tt
    other d ne Asked o = (
      o.0,
      λ i step core r a. elim (get_either log new i (Answer step (call d) core r) a) [
        | inl l ↦ o.1 i step core r l.0
        | inr l ↦ apart d ne o.0 (sym (ap call_in l.1))
      ],
    )
    other d ne (Told r) o = (o.0, let a = o.1 in (a.0, a.1, get_old log new a.0 (Answer a.1 (call d) d r) a.2, omega (arith, a.3)))

-- ---- a copy is logged

-- the store of core c, which has no reply yet, has a copy of its page
chron_detaches : (n : ℕ) (calls : List Begun) (requests : List Request) (log : List Entry) (call : ℕ → ℕ) (stat : ℕ → Status) (c page : ℕ) (request : Request)
    → stat c ≡ Asked → nth requests (call c) ≡ Some request → IsStoreTo request page → Chronicle n calls requests log call stat
    → Chronicle (suc n) calls requests (log ++ Detach n (call c) page ∷ []) call stat
chron_detaches n calls requests log call stat c page request e number store h = record {
  same = h.same;
  before = λ k b e. omega (arith, h.before k b e);
  made = made_more n log new refl h.made;
  rises = rises_more n log new refl h.made h.rises;
  begun = λ i step k core r a. h.begun i step k core r (old i step k core r a);
  once = λ i j step later k core other r q a b. h.once i j step later k core other r q (old i step k core r a) (old j later k other q b);
  copies = λ i step k at a. elim (get_either log new i (Detach step k at) a) [
    | inl l ↦ let was = h.copies i step k at l.0 in (was.0, was.1, was.2, was.3, λ j later core r b. was.4 j later core r (old j later k core r b))
    | inr l ↦
        let same : k ≡ call c = ap call_in l.1 in
        let here : at ≡ page = ap page_in l.1 in
        let now : step ≡ n = ap step_of l.1 in
        let lt = h.before (call c) own.0 own.1 in (
          own.0,
          ap (nth calls) same ∙ own.1,
          subst (λ p. IsStoreTo own.0.request p) (sym here) (subst (λ r. IsStoreTo r page) (sym asks) store),
          omega (arith, now, lt),
          λ j later core r b. absurd (mine.1 j later core r (subst (λ n. IsAnswer log j later n core r) same (old j later k core r b))),
        )
  ];
  stands = λ d. stands d (stat d) (h.stands d);
}
  where
    new : Entry
    new = Detach n (call c) page

    mine : Stands n calls log c (call c) Asked
    mine = subst (Stands n calls log c (call c)) e (h.stands c)

    own : (b : Begun) × (nth calls (call c) ≡ Some b) × (b.core ≡ c)
    own = mine.0.is_begun

    asked : (calls : List Begun) (k : ℕ) (b : Begun) → nth calls k ≡ Some b → nth (requests_of calls) k ≡ Some b.request
    asked [] zero b a = absurd cc
    asked [] (suc k) b a = absurd cc
    asked (x ∷ xs) zero b a = absurd cc
    asked (x ∷ xs) (suc zero) b a = let same : x ≡ b = cc in ap (λ b. Some b.request) same
    asked (x ∷ xs) (suc (suc k)) b a = asked xs (suc k) b a

    asks : own.0.request ≡ request
    asks = let z : Some own.0.request ≡ Some request = sym (asked calls (call c) own.0 own.1) ∙ ap (λ l. nth l (call c)) (sym h.same) ∙ number in cc

    -- a reply in the longer log stood before
    old : (i step k core : ℕ) (r : Reply) → IsAnswer (log ++ new ∷ []) i step k core r → IsAnswer log i step k core r
    old i step k core r a = elim (get_either log new i (Answer step k core r) a) [
      | inl l ↦ l.0
      | inr l ↦ absurd (let other = ap is_reply l.1 in cc)
    ]

    stands : (d : ℕ) (s : Status) → Stands n calls log d (call d) s → Stands (suc n) calls (log ++ new ∷ []) d (call d) s
    stands d Closed o = tt
    stands d Asked o = (o.0, λ i step core r a. o.1 i step core r (old i step (call d) core r a))
    stands d (Told r) o = (o.0, let a = o.1 in (a.0, a.1, get_old log new a.0 (Answer a.1 (call d) d r) a.2, omega (arith, a.3)))

-- ---- a call begins

latest_other : (calls : List Begun) (b : Begun) (c k : ℕ) → b.core ≢ c → IsLatest calls c k → IsLatest (calls ++ b ∷ []) c k
latest_other calls b c k ne h = record {
  is_begun = (h.is_begun.0, at_old calls b k h.is_begun.0 h.is_begun.1, h.is_begun.2);
  latest = λ m x lt a. elim (at_either calls b m x a) [
    | inl l ↦ h.latest m x lt l.0
    | inr l ↦ λ e. ne (sym (ap (λ b. b.core) l.1) ∙ e)
  ];
}

latest_new : (calls : List Begun) (b : Begun) → IsLatest (calls ++ b ∷ []) b.core (suc (length calls))
latest_new calls b = record {
  is_begun = (b, at_new calls b, refl);
  latest = λ m x lt a. elim (at_either calls b m x a) [
    | inl l ↦ absurd (omega (arith, l.1, lt))
    | inr l ↦ absurd (omega (arith, l.0, lt))
  ];
}

chron_opens : (n : ℕ) (calls : List Begun) (requests : List Request) (log : List Entry) (call : ℕ → ℕ) (stat : ℕ → Status) (c : ℕ)
    (request : Request) → Chronicle n calls requests log call stat
    → Chronicle (suc n) (calls ++ record { core = c; request = request; step = n } ∷ []) (requests ++ request ∷ []) log
    (put call c (suc (length requests))) (put stat c Asked)
chron_opens n calls requests log call stat c request h = record {
  same = ap (λ l. l ++ request ∷ []) h.same ∙ sym (requests_more calls);
  before = λ k b e. elim (at_either calls new k b e) [
    | inl l ↦ omega (arith, h.before k b l.0)
    | inr l ↦ let s : b.step ≡ n = ap (λ b. b.step) l.1 in omega (arith, s)
  ];
  made = λ i x e. omega (arith, h.made i x e);
  rises = h.rises;
  begun = λ i step k core r a. let b = h.begun i step k core r a in (b.0, at_old calls new k b.0 b.1, b.2, b.3);
  once = h.once;
  copies = λ i step k page a. let b = h.copies i step k page a in (b.0, at_old calls new k b.0 b.1, b.2, b.3, b.4);
  stands = put_both (λ d k s. Stands (suc n) (calls ++ new ∷ []) log d k s) call stat c (suc (length requests)) Asked (
    subst (IsLatest (calls ++ new ∷ []) c) (ap suc (sym size)) (latest_new calls new),
    λ i step core r a. let b = h.begun i step (suc (length requests)) core r a in
        let lt = within calls (suc (length requests)) b.0 b.1 in omega (arith, lt, size),
  )
      (λ d ne. other d ne (stat d) (h.stands d));
}
  where
    new : Begun
    new = record { core = c; request = request; step = n }

    requests_more : (calls : List Begun) → requests_of (calls ++ new ∷ []) ≡ requests_of calls ++ request ∷ []
    requests_more [] = refl
    requests_more (b ∷ bs) = ap (λ l. b.request ∷ l) (requests_more bs)

    requests_length : (calls : List Begun) → length (requests_of calls) ≡ length calls
    requests_length [] = refl
    requests_length (b ∷ bs) = ap suc (requests_length bs)

    size : length requests ≡ length calls
    size = ap length h.same ∙ requests_length calls

    other : (d : ℕ) → d ≢ c → (s : Status) → Stands n calls log d (call d) s → Stands (suc n) (calls ++ new ∷ []) log d (call d) s
    other d ne Closed o = tt
    other d ne Asked o = (latest_other calls new d (call d) (λ e. ne (sym e)) o.0, o.1)
    other d ne (Told r) o = (latest_other calls new d (call d) (λ e. ne (sym e)) o.0, before_later n log (call d) d r o.1)

-- ---- an event

-- what holds of a state in which these calls were begun
abbrev pub Kept : List Begun → World → Type 0
Kept calls w = Chronicle (suc w.calls.events) calls w.calls.requests w.calls.log w.calls.number (statuses w)

none_more : (calls more : List Begun) → more ≡ [] → calls ++ more ≡ calls
none_more calls more h = ap (λ l. calls ++ l) h ∙ go calls
  where
    go : (xs : List Begun) → xs ++ [] ≡ xs
    go [] = refl
    go (x ∷ xs) = ap (λ l. x ∷ l) (go xs)

-- where w is the state with the event counted
after_effect : (calls : List Begun) (w : World) (e : Event) (o : Outcome) (v : World)
    → Chronicle w.calls.events calls w.calls.requests w.calls.log w.calls.number (statuses w) → Effect w e o v
    → Kept (calls ++ begun_by w.calls.events e o) v
after_effect calls w e o v h (keeps q k l s) =
    subst (λ b. Kept b v) (sym (none_more calls (begun_by w.calls.events e o) (q.0 w.calls.events)))
    (rw (k.events, k.requests, k.number, l) (chron_stat (suc w.calls.events) calls w.calls.requests w.calls.log w.calls.number (statuses w)
    (statuses v) s (chron_keeps w.calls.events calls w.calls.requests w.calls.log w.calls.number (statuses w) h)))
after_effect calls w e o v h (tells c reply q k a l s) =
    subst (λ b. Kept b v) (sym (none_more calls (begun_by w.calls.events e o) (q.0 w.calls.events)))
    (rw (k.events, k.requests, k.number, l) (chron_stat (suc w.calls.events) calls w.calls.requests
    (w.calls.log ++ Answer w.calls.events (w.calls.number c) c reply ∷ []) w.calls.number (put (statuses w) c (Told reply))
    (statuses v) s
    (chron_tells w.calls.events calls w.calls.requests w.calls.log w.calls.number (statuses w) c reply a h)))
after_effect calls w e o v h (detaches c page request q k a number store l s) =
    subst (λ b. Kept b v) (sym (none_more calls (begun_by w.calls.events e o) (q.0 w.calls.events)))
    (rw (k.events, k.requests, k.number, l) (chron_stat (suc w.calls.events) calls w.calls.requests
    (w.calls.log ++ Detach w.calls.events (w.calls.number c) page ∷ []) w.calls.number (statuses w) (statuses v) s
    (chron_detaches w.calls.events calls w.calls.requests w.calls.log w.calls.number (statuses w) c page request a number store h)))
after_effect calls w e o v h (opens c request f g a k) =
    let new : Begun = record { core = c; request = request; step = w.calls.events } in
    let now : Kept (calls ++ new ∷ []) (after_call c request w) = chron_stat (suc w.calls.events) (calls ++ new ∷ [])
    (w.calls.requests ++ request ∷ []) w.calls.log (put w.calls.number c (suc (length w.calls.requests))) (put (statuses w) c Asked)
    (statuses (after_call c request w))
    (put_both (λ d x s. status x ≡ s) w.calls.phase (statuses w) c (Check request) Asked refl (λ d ne. refl))
    (chron_opens w.calls.events calls w.calls.requests w.calls.log w.calls.number (statuses w) c request h) in
    subst (λ e. Kept (calls ++ begun_by w.calls.events e o) v) (sym f)
    (subst (λ o. Kept (calls ++ begun_by w.calls.events (Call c request) o) v) (sym g) (subst (Kept (calls ++ new ∷ [])) (sym k) now))
after_effect calls w e o v h (closes c reply f g a k) =
    subst (λ e. Kept (calls ++ begun_by w.calls.events e o) v) (sym f) (subst (λ b. Kept b v) (sym (none_more calls [] refl))
    (subst (Kept calls) (sym k) (closed (chron_keeps w.calls.events calls w.calls.requests w.calls.log w.calls.number (statuses w) h))))
  where
    closed : Chronicle (suc w.calls.events) calls w.calls.requests w.calls.log w.calls.number (statuses w)
        → Chronicle (suc w.calls.events) calls w.calls.requests w.calls.log w.calls.number (statuses (to c Free w))
    closed g = record {
      same = g.same;
      before = g.before;
      made = g.made;
      rises = g.rises;
      begun = g.begun;
      once = g.once;
      copies = g.copies;
      stands = put_all (λ d p. Stands (suc w.calls.events) calls w.calls.log d (w.calls.number d) (status p)) w.calls.phase c Free tt (λ d ne. g.stands d);
    }

events_by : (w : World) (e : Event) (o : Outcome) (v : World) → Effect w e o v → v.calls.events ≡ w.calls.events
events_by w e o v (keeps q k l s) = k.events
events_by w e o v (tells c reply q k a l s) = k.events
events_by w e o v (detaches c page request q k a number store l s) = k.events
events_by w e o v (opens c request f g a k) = ap (λ v. v.calls.events) k
events_by w e o v (closes c reply f g a k) = ap (λ v. v.calls.events) k

-- the event that comes next is the n-th, or no event is counted any more
abbrev pub IsNext : ℕ → World → Type 0
IsNext n w = (n ≡ suc w.calls.events) ⊎ (nat_lt w.calls.events event_limit ≡ false)

pub record Next (n : ℕ) (calls : List Begun) (w : World) (e : Event) (o : Outcome) (v : World) : Type 0 where
  pub kept : Kept (calls ++ begun_by n e o) v
  pub next : IsNext (suc n) v
  pub order : IsOrderly v
  pub few : v.calls.events ≤ suc w.calls.events

next : (n : ℕ) (calls : List Begun) (w : World) (e : Event) (o : Outcome) (v : World) → IsNext n w → IsOrderly w → IsOrderly v → Kept calls w
    → Comes w e o v → Next n calls w e o v
next n calls w e o v at order then h (stopped i q k) = record {
  kept = subst (λ b. Kept b v) (sym (none_more calls (begun_by n e o) (q.0 n))) (subst (Kept calls) (sym k) h);
  next = inr (ap (λ v. nat_lt v.calls.events event_limit) k ∙ i);
  order = then;
  few = let same : v.calls.events ≡ w.calls.events = ap (λ v. v.calls.events) k in omega (arith, same);
}
next n calls w e o v (inl m) order then h (acts i shape) =
    let f : Effect (with_event w) e o v = effect_of (with_event w) e o v order shape in
    record {
      kept = subst (λ k. Kept (calls ++ begun_by k e o) v) (sym m) (after_effect calls (with_event w) e o v h f);
      next = inl (ap suc m ∙ sym (ap suc (events_by (with_event w) e o v f)));
      order = then;
      few = let same = events_by (with_event w) e o v f in omega (arith, same);
    }
next n calls w e o v (inr m) order then h (acts i shape) = absurd cc

-- ---- a run

app_assoc : (a b c : List Begun) → (a ++ b) ++ c ≡ a ++ (b ++ c)
app_assoc [] b c = refl
app_assoc (x ∷ a) b c = ap (λ l. x ∷ l) (app_assoc a b c)

-- events from the n-th on
pub record After (n : ℕ) (calls : List Begun) (w : World) (es : List Event) (os : List Outcome) (v : World) : Type 0 where
  pub kept : Kept (calls ++ calls_from n es os) v
  pub few : v.calls.events ≤ w.calls.events + length es

goes : (n : ℕ) (calls : List Begun) (w : World) (es : List Event) (os : List Outcome) (v : World) → IsNext n w → IsOrderly w → Kept calls w → Run w es os v
    → After n calls w es os v
goes n calls w [] [] v at g k r = record {
  kept = subst (λ b. Kept b v) (sym (none_more calls [] refl)) (subst (Kept calls) (sym r) k);
  few = let same : v.calls.events ≡ w.calls.events = ap (λ v. v.calls.events) r in omega (arith, same);
}
goes n calls w [] (o ∷ os) v at g k r = absurd r
goes n calls w (e ∷ es) [] v at g k r = absurd r
goes n calls w (e ∷ es) (o ∷ os) v at g k r =
    let one : Next n calls w e o r.0 = next n calls w e o r.0 at g (kept w r.0 e o g r.1) k (comes w e o r.0 r.1) in
    let rest : After (suc n) (calls ++ begun_by n e o) r.0 es os v = goes (suc n) (calls ++ begun_by n e o) r.0 es os v one.next one.order one.kept r.2 in
    record {
      kept = subst (λ l. Kept l v) (app_assoc calls (begun_by n e o) (calls_from (suc n) es os)) rest.kept;
      few = let a = one.few in let b = rest.few in omega (arith, a, b);
    }

kept_opening : (made : Made) (slots : Slots) → Kept [] (new_world made slots)
kept_opening made slots = record {
  same = refl;
  before = λ k b e. absurd (none k b e);
  made = λ i x e. absurd cc;
  rises = λ i j x y lt a b. absurd cc;
  begun = λ i step k core r a. absurd cc;
  once = λ i j step later k core other r q a b. absurd cc;
  copies = λ i step k page a. absurd cc;
  stands = λ c. tt;
}
  where
    none : (k : ℕ) (b : Begun) → nth [] k ≡ Some b → ⊥
    none zero b e = cc
    none (suc k) b e = cc

-- ---- the log only grows

abbrev pub Grows : World → World → Type 0
Grows w v = (i : ℕ) (x : Entry) → slice_get w.calls.log i ≡ Some x → slice_get v.calls.log i ≡ Some x

grows_by : (w : World) (e : Event) (o : Outcome) (v : World) → Effect w e o v → Grows w v
grows_by w e o v (keeps q k l s) = λ i x a. ap (λ l. slice_get l i) l ∙ a
grows_by w e o v (tells c reply q k a l s) = λ i x b. ap (λ l. slice_get l i) l ∙ get_old w.calls.log (Answer w.calls.events (w.calls.number c) c reply) i x b
grows_by w e o v (detaches c page request q k a number store l s) =
    λ i x b. ap (λ l. slice_get l i) l ∙ get_old w.calls.log (Detach w.calls.events (w.calls.number c) page) i x b
grows_by w e o v (opens c request f g a k) = λ i x b. ap (λ v. slice_get v.calls.log i) k ∙ b
grows_by w e o v (closes c reply f g a k) = λ i x b. ap (λ v. slice_get v.calls.log i) k ∙ b

grows_at : (w : World) (e : Event) (o : Outcome) (v : World) → IsOrderly w → Comes w e o v → Grows w v
grows_at w e o v g (stopped i q k) = λ i x a. ap (λ v. slice_get v.calls.log i) k ∙ a
grows_at w e o v g (acts i shape) = grows_by (with_event w) e o v (effect_of (with_event w) e o v g shape)

grown : (w : World) (es : List Event) (os : List Outcome) (v : World) → IsOrderly w → Run w es os v → Grows w v
grown w [] [] v g r = λ i x a. ap (λ v. slice_get v.calls.log i) r ∙ a
grown w (e ∷ es) (o ∷ os) v g r = λ i x a. grown r.0 es os v (kept w r.0 e o g r.1) r.2 i x (grows_at w e o r.0 g (comes w e o r.0 r.1) i x a)
grown w _ _ v g r = absurd r

-- ---- an event of a run

-- the run up to the event after the first n, that event, and what follows
pub record Parted (w : World) (es : List Event) (os : List Outcome) (v : World) (n : ℕ) (e : Event) (o : Outcome) : Type 0 where
  pub old : World
  pub new : World
  pub order : IsOrderly old
  pub first : Run w (take n es) (take n os) old
  pub step : Step old e o new
  pub after : Grows new v
  pub few : length (take n es) ≤ n

parted : (w : World) (es : List Event) (os : List Outcome) (v : World) (n : ℕ) (e : Event) (o : Outcome) → IsOrderly w → Run w es os v → nth es (suc n) ≡ Some e
    → nth os (suc n) ≡ Some o → Parted w es os v n e o
parted w [] os v n e o g r a b = absurd cc
parted w (d ∷ es) [] v n e o g r a b = absurd r
parted w (d ∷ es) (p ∷ os) v zero e o g r a b =
    let same : d ≡ e = cc in
    let come : p ≡ o = cc in
    record {
      old = w;
      new = r.0;
      order = g;
      first = refl;
      step = subst (λ d. Step w d o r.0) same (subst (λ p. Step w d p r.0) come r.1);
      after = grown r.0 es os v (kept w r.0 d p g r.1) r.2;
      few = omega arith;
    }
parted w (d ∷ es) (p ∷ os) v (suc n) e o g r a b =
    let rest : Parted r.0 es os v n e o = parted r.0 es os v n e o (kept w r.0 d p g r.1) r.2 a b in
    record {
      old = rest.old;
      new = rest.new;
      order = rest.order;
      first = (r.0, r.1, rest.first);
      step = rest.step;
      after = rest.after;
      few = let few = rest.few in omega (arith, few);
    }

-- what is handed out was told before
told_before : (calls : List Begun) (w : World) (e : Event) (core : ℕ) (reply : Reply) (v : World) → core_of e ≡ Some core → Kept calls w
    → Effect (with_event w) e (Answered reply) v
    → (call : ℕ) × IsLatest calls core call × IsAnsweredBefore (suc w.calls.events) w.calls.log call core reply
told_before calls w e core reply v at h (keeps q k l s) = absurd (let no = q.1 in cc)
told_before calls w e core reply v at h (tells c r q k a l s) = absurd (let no = q.1 in cc)
told_before calls w e core reply v at h (detaches c page r q k a number store l s) = absurd (let no = q.1 in cc)
told_before calls w e core reply v at h (opens c request f g a k) = absurd cc
told_before calls w e core reply v at h (closes c r f g a k) =
    let told : Stands (suc w.calls.events) calls w.calls.log c (w.calls.number c) (Told r) = subst
    (Stands (suc w.calls.events) calls w.calls.log c (w.calls.number c)) a (h.stands c) in
    let same : r ≡ reply = cc in
    let its : core_of e ≡ Some c = ap core_of f in
    let here : c ≡ core = cc (its, at) in
    subst (λ d. (call : ℕ) × IsLatest calls d call × IsAnsweredBefore (suc w.calls.events) w.calls.log call d reply) here
    (subst (λ r. (call : ℕ) × IsLatest calls c call × IsAnsweredBefore (suc w.calls.events) w.calls.log call c r) same (w.calls.number c, told.0, told.1))

ends : (calls : List Begun) (w : World) (e : Event) (core : ℕ) (reply : Reply) (v : World) → core_of e ≡ Some core → IsOrderly w → Kept calls w
    → Comes w e (Answered reply) v
    → (call : ℕ) × IsLatest calls core call × IsAnsweredBefore (suc w.calls.events) w.calls.log call core reply
ends calls w e core reply v at g h (stopped i q k) = absurd (let no = q.1 in cc)
ends calls w e core reply v at g h (acts i shape) = told_before calls w e core reply v at h (effect_of (with_event w) e (Answered reply) v g shape)

answered_at : (made : Made) (slots : Slots) (es : List Event) (os : List Outcome) (v : World) (n core : ℕ) (e : Event) (reply : Reply) → made.cores ≤ 64
    → IsNew slots → core_of e ≡ Some core → Parted (new_world made slots) es os v n e (Answered reply)
    → (call : ℕ) × IsLatest (calls_of (take n es) (take n os)) core call × IsAnsweredBefore (suc n) v.calls.log call core reply
answered_at made slots es os v n core e reply cores new at p =
    let before : After 1 [] (new_world made slots) (take n es) (take n os) p.old =
    goes 1 [] (new_world made slots) (take n es) (take n os) p.old (inl refl) (opening_is_orderly made slots cores new)
    (kept_opening made slots) p.first in
    let come : Comes p.old e (Answered reply) p.new = comes p.old e (Answered reply) p.new p.step in
    let end = ends (calls_of (take n es) (take n os)) p.old e core reply p.new at p.order before.kept come in
    let said = end.2 in
    let few = before.few in
    let size = p.few in
    let lt = said.3 in (
      end.0,
      end.1,
      (
        said.0,
        said.1,
        p.after said.0 (Answer said.1 end.0 core reply)
            (grows_at p.old e (Answered reply) p.new p.order come said.0 (Answer said.1 end.0 core reply) said.2),
        omega (arith, few, size, lt),
      ),
    )

pub bracketed : AllRunsBracketed
bracketed made slots es os w cores new r =
    let order : IsOrderly (new_world made slots) = opening_is_orderly made slots cores new in
    let all : After 1 [] (new_world made slots) es os w = goes 1 [] (new_world made slots) es os w (inl refl) order (kept_opening made slots) r in
    record {
      rises = all.kept.rises;
      begun = all.kept.begun;
      once = all.kept.once;
      copies = all.kept.copies;
      answered =
          λ n core e reply a at b. answered_at made slots es os w n core e reply cores new at
          (parted (new_world made slots) es os w n e (Answered reply) order r a b);
      requests = all.kept.same;
    }
