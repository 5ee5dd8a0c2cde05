-- What happens beside a call that waits, or where no core has a call
use Rattle.machine_model.proofs.Words.{◌≡◌, ◌≢◌, ℕ, ◌<◌, ◌≤◌, ◌==◌, ◌⊎◌, Bool, true, false, cond, inl, inr, refl, sym, ap, subst, arith, None, Some, Option}
use Rattle.machine_model.proofs.Words.{List, [], ◌∷◌, ◌∙◌, if◌then◌else◌, is_some, nat_lt, pred, nat_tests, PageInfo, PageRange, put, is_recorded, eq_true}
use Rattle.machine_model.proofs.Words.{eq_false, put_both, tlb_at, Counts, Message, Took, asked, message_of, remaining, Change, Goal, Touch, Event, Call, Go}
use Rattle.machine_model.proofs.Words.{Whole, Flush, GiveUp, Outcome, Stepped, Idle, Full, Phase, Free, Acks, CopyAcks, TakesThisFrame, Becomes, Idles}
use Rattle.machine_model.proofs.Words.{ReportsFlush, ReportsReview, core_of, GivesUp, awaits_in, can_give_up, GuessesThisRun, TakesWindow, TakesMessage}
use Rattle.machine_model.proofs.Words.{after_eviction, after_walk, can_walk, tables_cleared, tlb_invalidated, with_hardware, with_inbox, World, Hardware, Acts}
use Rattle.machine_model.proofs.Words.{Goes, is_here, with_event, event_limit, Step}
use Rattle.refcache.specs.declared.reports.Flush.TheVariants as FlushOf
use Rattle.refcache.specs.declared.reports.Flush.{Flush as FlushReport}
use Rattle.refcache.specs.declared.reports.Review.{Review as ReviewReport}
use Rattle.refcache.specs.declared.reports.Review.TheVariants as ReviewOf
use Rattle.mmu.specs.declared.message.Took.TheVariants as TookOf
use Rattle.machine_model.specs.declared.event.Event.TheVariants.{Frame, Guess, Take, Walk, Evict, Review, Fold}
use Rattle.machine_model.specs.Coherent.{AreAsked}
use Rattle.machine_model.proofs.SoundKept.{reached_fine}
use Rattle.machine_model.specs.Taken.{frames_taken}
use Rattle.machine_model.proofs.Taking.{one_given}
use Rattle.machine_model.proofs.Telling.{Waits, for_change, for_copy, left_is_awaited, waits_at}
use Rattle.machine_model.specs.Alone.{ComesBeside, IsBeside, IsBesideCalls, IsResting, KeepsTakes, left_to, takes_left}

-- ---- a world whose calls are those of another

-- no more
least : (n : ℕ) → n ≤ n
least n = omega arith

-- as after the event was counted
abbrev Beside : World → World → Type 0
Beside w v = IsBesideCalls w v × KeepsTakes w v

-- with other hardware, whose inboxes are the same, and other memory
by_hardware : (w x v : World) → x.made ≡ w.made → x.calls ≡ (with_event w).calls → x.slots.info ≡ w.slots.info → x.hardware.inbox ≡ w.hardware.inbox
    → frames_taken x ≤ frames_taken w → v ≡ x → Beside w v
by_hardware w x v made calls info inbox frames e =
    subst (Beside w) (sym e) (
      record {
        made = made;
        phases = ap (λ c. c.phase) calls;
        numbers = ap (λ c. c.number) calls;
        requests = ap (λ c. c.requests) calls;
        log = ap (λ c. c.log) calls;
        users = λ p d. ap (λ (i : ℕ → Option PageInfo). is_recorded (i p) d) info;
        frames = frames;
      },
      λ d. ap (λ (i : ℕ → List Message). takes_left (i d)) inbox,
    )

idles : (w v : World) → v ≡ with_event w → Beside w v
idles w v e = by_hardware w (with_event w) v refl refl refl refl (least (frames_taken w)) e

-- an event that is Stepped or Idle
either : (w v : World) (o : Outcome) (new : World) → ((o ≡ Stepped) × (v ≡ new)) ⊎ ((o ≡ Idle) × (v ≡ with_event w)) → (v ≡ new → Beside w v)
    → IsBesideCalls w v × (((o ≡ Stepped) ⊎ (o ≡ Idle)) × KeepsTakes w v)
either w v o new (inl h) f = let k = f h.1 in (k.0, (inl h.0, k.1))
either w v o new (inr h) f = let k = idles w v h.1 in (k.0, (inr h.0, k.1))

by_cond : (b : Bool) (A B : Type 0) → cond b A B → A ⊎ B
by_cond true A B h = inl h
by_cond false A B h = inr h

-- ---- the calls

-- a core has no call, or waits
abbrev Rest : World → ℕ → Type 0
Rest w c = (w.calls.phase c ≡ Free) ⊎ ((range : PageRange) × Waits (w.calls.phase c) range)

rest_at : (w : World) (core : ℕ) → IsResting w core → (c : ℕ) → Rest w c
rest_at w core r c = go (c == core) refl
  where
    go : (b : Bool) → (c == core) ≡ b → Rest w c
    go true e = subst (Rest w) (sym (eq_true c core e)) (elim r.own [
      | inl free ↦ inl free
      | inr waits ↦ inr (waits.0, waits_at (w.calls.phase core) waits.0 waits.1)
    ])
    go false e = inl (r.others c (eq_false c core e))

-- by the phase, which is free or waits
by_rest : (w : World) (c : ℕ) (P : Phase → Type 0) → Rest w c
    → (A : Type 0) → (P Free → A) → ((goal : Goal) (change : Change) → P (Acks goal change) → A)
    → ((touch : Touch) (frame : ℕ) → w.calls.phase c ≡ CopyAcks touch frame → P (CopyAcks touch frame) → A) → P (w.calls.phase c) → A
by_rest w c P (inl e) A f g k h = f (subst P e h)
by_rest w c P (inr e) A f g k h = waiting e.1
  where
    waiting : Waits (w.calls.phase c) e.0 → A
    waiting (for_change goal change p i) = g goal change (subst P p h)
    waiting (for_copy touch frame p i) = k touch frame p (subst P p h)

-- ---- messages

-- an inbox has one message at the most
one_message : (w : World) (core : ℕ) → IsResting w core → (d : ℕ) (m : Message) (ms : List Message) → AreAsked w.calls.phase d (m ∷ ms) → ms ≡ []
one_message w core r d m [] h = refl
one_message w core r d m (n ∷ ms) h =
    absurd (
    let a = from m.from m.range h.1 in
    let b = from n.from n.range h.3.1 in
    let same : (n.from == m.from) ≡ true = equal n.from m.from (b ∙ sym a) in
    let none : (if n.from == m.from then Some n else message_of ms m.from) ≡ None = h.2 in
    cc)
  where
    equal : (i j : ℕ) → i ≡ j → (i == j) ≡ true
    equal i j e = grind (arith, nat_tests)

    from : (b : ℕ) (range : PageRange) → awaits_in (w.calls.phase b) ≡ Some range → b ≡ core
    from b range e = go (b == core) refl
      where
        go : (z : Bool) → (b == core) ≡ z → b ≡ core
        go true i = eq_true b core i
        go false i = absurd (let k = ap awaits_in (r.others b (eq_false b core i)) in cc)

one_less : (ms : List Message) → ((m : Message) (rest : List Message) → ms ≡ m ∷ rest → rest ≡ []) → takes_left (remaining ms) ≡ pred (takes_left ms)
one_less [] one = refl
one_less (m ∷ ms) one = go m.is_cleared refl
  where
    go : (b : Bool) → m.is_cleared ≡ b → takes_left (if b then ms else record m { is_cleared = true } ∷ ms) ≡ pred (if b then 1 else 2)
    go true e = ap takes_left (one m ms refl)
    go false e = refl

some_left : (ms : List Message) (took : Took) → asked ms ≡ took → (took ≡ TookOf.Idle → ⊥) → 0 < takes_left ms
some_left [] took e n = absurd (n (sym e))
some_left (m ∷ ms) took e n = go m.is_cleared
  where
    go : (b : Bool) → 0 < (if b then 1 else 2)
    go true = omega arith
    go false = omega arith

no_left : (ms : List Message) → asked ms ≡ TookOf.Idle → takes_left ms ≡ 0
no_left [] e = refl
no_left (m ∷ ms) e = absurd (go m.is_cleared e)
  where
    go : (b : Bool) → (if b then TookOf.Invalidate m.range else TookOf.Clear m.range) ≡ TookOf.Idle → ⊥
    go true i = cc
    go false i = cc

-- ---- every event

stepped : (w v : World) (core : ℕ) (r : IsResting w core) (c : ℕ) (o : Outcome) (h : Hardware) → h.inbox ≡ w.hardware.inbox → 0 < left_to w c
    → Becomes (with_hardware (with_inbox h c (remaining (w.hardware.inbox c))) (with_event w)) o v → IsBesideCalls w v × ComesBeside w (Take c) o v
stepped w v core r c o h inbox some k = (
  subst (IsBesideCalls w) (sym k.1) (record {
    made = refl;
    phases = refl;
    numbers = refl;
    requests = refl;
    log = refl;
    users = λ p d. refl;
    frames = least (frames_taken w);
  }),
  inl (k.0, some, λ d. ap (λ (v : World). left_to v d) k.1 ∙ left d),
)
  where
    less : takes_left (remaining (w.hardware.inbox c)) ≡ pred (left_to w c)
    less = one_less (w.hardware.inbox c)
        (λ m rest e. one_message w core r c m rest (subst (AreAsked w.calls.phase c) e ((reached_fine w r.reached).coherent.asked c)))

    left : (d : ℕ) → takes_left (put h.inbox c (remaining (w.hardware.inbox c)) d) ≡ put (left_to w) c (pred (left_to w c)) d
    left d = put_both (λ d ms n. takes_left ms ≡ n) h.inbox (left_to w) c (remaining (w.hardware.inbox c)) (pred (left_to w c)) less
        (λ j ne. ap (λ (i : ℕ → List Message). takes_left (i j)) inbox) d

taken : (w v : World) (core : ℕ) (r : IsResting w core) (c : ℕ) (o : Outcome) (took : Took) → asked (w.hardware.inbox c) ≡ took
    → TakesMessage (with_event w) c took o v
    → IsBesideCalls w v × ComesBeside w (Take c) o v
taken w v core r c o TookOf.Idle e h =
    let k = idles w v h.1 in (k.0, inr (h.0, inl (no_left (w.hardware.inbox c) e), k.1))
taken w v core r c o (TookOf.Clear range) e h = stepped w v core r c o (tables_cleared w.hardware c range) refl
    (some_left (w.hardware.inbox c) (TookOf.Clear range) e (λ i. cc)) h
taken w v core r c o (TookOf.Invalidate range) e h = stepped w v core r c o (tlb_invalidated w.hardware c range) refl
    (some_left (w.hardware.inbox c) (TookOf.Invalidate range) e (λ i. cc)) h

flushed : (w v : World) (o : Outcome) (report : FlushReport) (counts : Counts) → ReportsFlush (with_event w) report counts o v
    → IsBesideCalls w v × (((o ≡ Stepped) ⊎ (o ≡ Idle)) × KeepsTakes w v)
flushed w v o FlushOf.Idle counts h = either w v o (with_event w) (inr h) (idles w v)
flushed w v o _ counts h = either w v o _ (inl h) (λ e. by_hardware w _ v refl refl refl refl (least (frames_taken w)) e)

reviewed : (w v : World) (o : Outcome) (report : ReviewReport) (counts : Counts) → ReportsReview (with_event w) report counts o v
    → IsBesideCalls w v × (((o ≡ Stepped) ⊎ (o ≡ Idle)) × KeepsTakes w v)
reviewed w v o ReviewOf.Idle counts h = let k = idles w v h.1 in (k.0, (inr h.0, k.1))
reviewed w v o (ReviewOf.Freed f) counts h = either w v o _ (inl h) (λ e. by_hardware w _ v refl refl refl refl (one_given w.memory.is_free f w.made.frames) e)
reviewed w v o _ counts h = either w v o _ (inl h) (λ e. by_hardware w _ v refl refl refl refl (least (frames_taken w)) e)

-- a store that awaits some core can't be given up
not_given_up : (w v : World) (core : ℕ) (r : IsResting w core) (c : ℕ) (touch : Touch) (frame : ℕ) (o : Outcome) → w.calls.phase c ≡ CopyAcks touch frame
    → (can_give_up (w.calls.phase c) ≡ false) ⊎ ((d : ℕ) × (0 < left_to w d)) → GivesUp (with_event w) c (CopyAcks touch frame) o v → Idles (with_event w) o v
not_given_up w v core r c touch frame o p b (inr h) = h.1
not_given_up w v core r c touch frame o p (inl never) (inl h) = absurd (let z = sym (ap can_give_up p) ∙ never in cc)
not_given_up w v core r c touch frame o p (inr some) (inl h) =
    absurd (
    let a = (left_is_awaited w.calls.phase some.0 (w.hardware.inbox some.0) c only ((reached_fine w r.reached).coherent.asked some.0)).1 some.1 in
    let z = h.0 some.0 in
    cc)
  where
    mine : core ≡ c
    mine = go (c == core) refl
      where
        go : (b : Bool) → (c == core) ≡ b → core ≡ c
        go true e = sym (eq_true c core e)
        go false e = absurd (let z = sym (r.others c (eq_false c core e)) ∙ p in cc)

    only : (b : ℕ) → b ≢ c → awaits_in (w.calls.phase b) ≡ None
    only b ne = ap awaits_in (r.others b (λ e. ne (e ∙ mine)))

acted : (w v : World) (core : ℕ) (e : Event) (o : Outcome) → IsResting w core → IsBeside w e → Acts (with_event w) e o v → IsBesideCalls w v
    × ComesBeside w e o v
acted w v core (Call c request) o r b h = absurd b
acted w v core (Go c) o r b h =
    let z : Idles (with_event w) o v = subst (λ phase. Goes (with_event w) c phase o v) b h in
    let k = idles w v z.1 in (k.0, (z.0, k.1))
acted w v core (Frame c f) o r b h =
    by_rest w c (λ phase. TakesThisFrame (with_event w) c phase f o v) (rest_at w core r c) _
    (λ z. let k = idles w v z.1 in (k.0, (z.0, k.1))) (λ goal change z. let k = idles w v z.1 in (k.0, (z.0, k.1)))
    (λ touch frame p z. let k = idles w v z.1 in (k.0, (z.0, k.1))) h
acted w v core (Guess c page) o r b h =
    by_rest w c (λ phase. GuessesThisRun (with_event w) c phase page o v) (rest_at w core r c) _
    (λ z. let k = idles w v z.1 in (k.0, (z.0, k.1))) (λ goal change z. let k = idles w v z.1 in (k.0, (z.0, k.1)))
    (λ touch frame p z. let k = idles w v z.1 in (k.0, (z.0, k.1))) h
acted w v core (Whole c) o r b h =
    by_rest w c (λ phase. TakesWindow (with_event w) c phase o v) (rest_at w core r c) _
    (λ z. let k = idles w v z.1 in (k.0, (z.0, k.1))) (λ goal change z. let k = idles w v z.1 in (k.0, (z.0, k.1)))
    (λ touch frame p z. let k = idles w v z.1 in (k.0, (z.0, k.1))) h
acted w v core (GiveUp c) o r b h =
    by_rest w c (λ phase. GivesUp (with_event w) c phase o v) (rest_at w core r c) _
    (λ z. let k = idles w v z.1 in (k.0, (z.0, k.1))) (λ goal change z. let k = idles w v z.1 in (k.0, (z.0, k.1)))
    (λ touch frame p z. let i = not_given_up w v core r c touch frame o p b z in let k = idles w v i.1 in (k.0, (i.0, k.1))) h
acted w v core (Take c) o r b h = taken w v core r c o (asked (w.hardware.inbox c)) refl h
acted w v core (Walk c p) o r b h =
    either w v o (with_hardware (after_walk w.hardware c p) (with_event w)) (by_cond (can_walk w.hardware c p) _ _ h)
    (λ e. by_hardware w _ v refl refl refl refl (least (frames_taken w)) e)
acted w v core (Evict c p) o r b h =
    either w v o (with_hardware (after_eviction w.hardware c p) (with_event w)) (by_cond (is_some (tlb_at (w.hardware.tlb c) p)) _ _ h)
    (λ e. by_hardware w _ v refl refl refl refl (least (frames_taken w)) e)
acted w v core (Flush c) o r b h = flushed w v o h.0 h.1.0 h.1.2
acted w v core (Review c) o r b h = reviewed w v o h.0 h.1.0 h.1.2
acted w v core (Fold p) o r b (inl h) = let k = idles w v h.1 in (k.0, (inr h.0, k.1))
acted w v core (Fold p) o r b (inr h) =
    let k = by_hardware w (record (with_event w) { slots = h.1.0 }) v refl refl h.1.1.info refl (least (frames_taken w)) h.1.3.1 in (k.0, (inl h.1.3.0, k.1))

absent : (w v : World) (e : Event) (o : Outcome) → IsBeside w e → is_here w.made (core_of e) ≡ false → Idles (with_event w) o v
    → IsBesideCalls w v × ComesBeside w e o v
absent w v (Call c request) o b i h = absurd b
absent w v (Take c) o b i h = let k = idles w v h.1 in (k.0, inr (h.0, inr i, k.1))
absent w v (Walk c p) o b i h = let k = idles w v h.1 in (k.0, (inr h.0, k.1))
absent w v (Evict c p) o b i h = let k = idles w v h.1 in (k.0, (inr h.0, k.1))
absent w v (Flush c) o b i h = let k = idles w v h.1 in (k.0, (inr h.0, k.1))
absent w v (Review c) o b i h = let k = idles w v h.1 in (k.0, (inr h.0, k.1))
absent w v (Fold p) o b i h = let k = idles w v h.1 in (k.0, (inr h.0, k.1))
absent w v _ o b i h = let k = idles w v h.1 in (k.0, (h.0, k.1))

pub rests_beside : (w v : World) (core : ℕ) (e : Event) (o : Outcome) → IsResting w core → IsBeside w e → w.calls.events < event_limit → Step w e o v
    → IsBesideCalls w v × ComesBeside w e o v
rests_beside w v core e o r b below s = go (nat_lt w.calls.events event_limit) (is_here w.made (core_of e)) (test w.calls.events event_limit below) refl s
  where
    test : (a b : ℕ) → a < b → nat_lt a b ≡ true
    test a b h = grind (arith, nat_tests)

    go : (x y : Bool) → x ≡ true → is_here w.made (core_of e) ≡ y → cond x (cond y (Acts (with_event w) e o v) (Idles (with_event w) o v))
        ((o ≡ Full) × (v ≡ w))
        → IsBesideCalls w v × ComesBeside w e o v
    go true true i j k = acted w v core e o r b k
    go true false i j k = absent w v e o b j k
    go false y i j k = absurd cc
