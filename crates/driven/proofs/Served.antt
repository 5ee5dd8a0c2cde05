-- An access that the tables permit tells nothing
use Rattle.machine_model.proofs.Words.{◌≡◌, ◌≢◌, ℕ, zero, suc, ◌<◌, refl, sym, ap, subst, ◌∙◌, Bool, true, false, not, cond}
use Rattle.machine_model.proofs.Words.{nat_lt, Some, None, Option, is_some}
use Rattle.machine_model.proofs.Words.{if◌then◌else◌, Result, Ok, Err, List, [], ◌∷◌, World, Step, StepsTo, Goes, Acts, Idles, Becomes, with_event, to}
use Rattle.machine_model.proofs.Words.{put_same, after_plan, checked_by, translated, translated_by, frame_reached, with_hardware, after_translating}
use Rattle.machine_model.proofs.Words.{after_call, ∥∥₁_map}
use Rattle.machine_model.proofs.Words.{event_limit, is_here, permits, Translation, TlbEntry, tlb_at, tlb_without, after_eviction, Touch, arith}
use Rattle.machine_model.proofs.Words.{nat_tests, length, is_page, page_of}
use Rattle.std.specs.Prelude.{◌==◌, ◌+◌, ◌*◌, ◌/◌, ◌%◌, ◌^◌}
use Rattle.vm_base.specs.declared.memory.NoMemory.{NoMemory as MemoryFault}
use Rattle.vm_base.specs.declared.requests.Request.{Request}
use Rattle.mmu.specs.Tlb.{is_at}
use Rattle.mmu.specs.declared.translated.Translated.TheVariants as By
use Rattle.slot_lock.specs.declared.plan.Plan.TheVariants as PlanOf
use Rattle.machine_model.specs.declared.event.Event.TheVariants.{Call, Go, Evict}
use Rattle.machine_model.specs.declared.event.Outcome.{Outcome}
use Rattle.machine_model.specs.declared.event.Outcome.TheVariants.{Stepped, Wait, Idle, Answered, Full}
use Rattle.machine_model.specs.declared.phase.Phase.{Phase}
use Rattle.machine_model.specs.declared.phase.Phase.TheVariants.{Free, Check, Try, Answer}
use Rattle.machine_model.specs.Accesses.{after_translation}
use Rattle.machine_model.specs.Step.{Begins}
use Rattle.machine_model.specs.Sound.{IsReached}
use Rattle.machine_model.proofs.SoundKept.{reached_step}
use Rattle.core_steps.specs.declared.machine.Finished.{Finished}
use Rattle.core_steps.specs.declared.machine.Finished.TheVariants.{Last, Stuck}
use Rattle.core_steps.specs.Finishing.{Calls, IsCallRefused}
use Rattle.core_steps.proofs.Reached.{steps_reached}
use Rattle.real_mmu.specs.Fills.{due_in}
use Rattle.real_mmu.specs.Remembered.{own_range}
use Rattle.core_steps.proofs.Keeping.{step_made}
use Rattle.driven.specs.declared.telling.Told.{Told}
use Rattle.driven.specs.Telling.{StepTells, StepsTell, LastTells, GoesAfter, GoesTelling, CallsTelling, nothing_told, fill_made, fill_due}
use Rattle.driven.specs.Served.{IsServed, IsAccessAt, IsPermitted, EvictsAndCalls}
use Rattle.driven.specs.Driving.{touch_request, core_in}
use Rattle.vm_base.specs.declared.requests.Request.TheVariants as Asks
use Rattle.vm_base.specs.declared.rights.Access.{Access}
use Rattle.vm_base.specs.declared.rights.Access.TheVariants.{Load, Store, Fetch}
use Rattle.vm_base.specs.declared.replies.SegvCode.TheVariants.{MapErr}
use Rattle.vm_base.specs.declared.replies.Reply.TheVariants.{Segv}
use Rattle.vm_calls.specs.Checks.{touched, touch_of}
use Rattle.mmu.specs.Entry.{entry_word}
use Rattle.mmu.specs.Tables.{word_of}
use Rattle.driven.proofs.Tellings.{step_tells, last, at_limit, not_begun}

-- the core's TLB hasn't the page, and its tables permit the access
record Permits (w : World) (c : ℕ) (touch : Touch) : Type 0 where
  entry : Translation
  anew : tlb_at (w.hardware.tlb c) touch.page ≡ None
  found : w.hardware.table c touch.page ≡ Some entry
  permitted : permits entry touch.access ≡ true

-- where the call of such an access stands
abbrev Quiet : ℕ → Touch → World → Phase → Type 0
Quiet c touch w (Check request) = (checked_by w.made c request ≡ Ok (PlanOf.Touch touch)) × Permits w c touch
Quiet c touch w (Try t) = (t ≡ touch) × Permits w c touch
Quiet c touch w (Answer reply) = Unit {0}
Quiet c touch w Free = Unit {0}
Quiet c touch w _ = ⊥

abbrev IsQuiet : ℕ → Touch → World → Type 0
IsQuiet c touch w = Quiet c touch w (w.calls.phase c)

-- its next step has nothing to tell
untold : (c : ℕ) (touch : Touch) (w : World) (phase : Phase) → Quiet c touch w phase → (own_range phase ≡ None) × (due_in phase ≡ None)
untold c touch w (Check request) q = (refl, refl)
untold c touch w (Try t) q = (refl, refl)
untold c touch w (Answer reply) q = (refl, refl)
untold c touch w Free q = (refl, refl)
untold c touch w _ q = absurd q

-- ---- a step

arrives : (c : ℕ) (touch : Touch) (x v : World) (phase : Phase) → v ≡ to c phase x → Quiet c touch (to c phase x) phase → IsQuiet c touch v
arrives c touch x v phase e q =
    subst (IsQuiet c touch) (sym e) (subst (Quiet c touch (to c phase x)) (sym (put_same x.calls.phase c phase)) q)

reached_frame : (w : World) (c : ℕ) (touch : Touch) (p : Permits w c touch) → frame_reached (translated_by w.hardware c touch) ≡ Some p.entry.frame
reached_frame w c touch p =
    ap frame_reached
    (ap (λ t. translated t (w.hardware.table c touch.page) touch.access) p.anew
    ∙ (ap (λ t. translated None t touch.access) p.found ∙ ap (λ b. if b then By.Fill p.entry.frame else By.Fault) p.permitted))

goes_quietly : (c : ℕ) (touch : Touch) (w v : World) (o : Outcome) (phase : Phase) → w.calls.phase c ≡ phase → Quiet c touch w phase
    → Goes w c phase o v → IsQuiet c touch v
goes_quietly c touch w v o (Check request) at q g =
    arrives c touch w v (Try touch) (g.1 ∙ ap (λ r. after_plan c r w) q.0)
    (refl, record { entry = q.1.entry; anew = q.1.anew; found = q.1.found; permitted = q.1.permitted })
goes_quietly c touch w v o (Try t) at q g =
    let e : v ≡ after_translation c touch (Some q.1.entry.frame) (with_hardware (after_translating w.hardware c touch) w) =
    g.1
    ∙ (ap (λ t. after_translation c t (frame_reached (translated_by w.hardware c t)) (with_hardware (after_translating w.hardware c t) w)) q.0
    ∙ ap (λ f. after_translation c touch f (with_hardware (after_translating w.hardware c touch) w)) (reached_frame w c touch q.1)) in
    arrives c touch _ v (Answer _) e tt
goes_quietly c touch w v o (Answer reply) at q g = arrives c touch w v Free g.1 tt
goes_quietly c touch w v o Free at q g = subst (IsQuiet c touch) (sym g.1) (subst (Quiet c touch w) (sym at) tt)
goes_quietly c touch w v o _ at q g = absurd q

counted : (c : ℕ) (touch : Touch) (w : World) (phase : Phase) → Quiet c touch w phase → Quiet c touch (with_event w) phase
counted c touch w (Check request) q =
    (q.0, record { entry = q.1.entry; anew = q.1.anew; found = q.1.found; permitted = q.1.permitted })
counted c touch w (Try t) q =
    (q.0, record { entry = q.1.entry; anew = q.1.anew; found = q.1.found; permitted = q.1.permitted })
counted c touch w (Answer reply) q = tt
counted c touch w Free q = tt
counted c touch w _ q = absurd q

steps_quietly : (c : ℕ) (touch : Touch) (w v : World) (o : Outcome) → IsQuiet c touch w → Step w (Go c) o v → IsQuiet c touch v
steps_quietly c touch w v o q s = room (nat_lt w.calls.events event_limit) s
  where
    here : (b : Bool) → cond b (Acts (with_event w) (Go c) o v) (Idles (with_event w) o v) → IsQuiet c touch v
    here true g = goes_quietly c touch (with_event w) v o (w.calls.phase c) refl (counted c touch w (w.calls.phase c) q) g
    here false i = subst (IsQuiet c touch) (sym i.1) (counted c touch w (w.calls.phase c) q)

    room : (b : Bool) → cond b (cond (is_here w.made (Some c)) (Acts (with_event w) (Go c) o v) (Idles (with_event w) o v)) ((o ≡ Full) × (v ≡ w))
        → IsQuiet c touch v
    room true h = here (is_here w.made (Some c)) h
    room false h = subst (IsQuiet c touch) (sym h.1) q

tells_nothing : (c : ℕ) (touch : Touch) (w v : World) (o : Outcome) → ∥ IsReached w ∥₁ → IsQuiet c touch w → Step w (Go c) o v
    → StepTells w c nothing_told o v
tells_nothing c touch w v o t q s =
    let none = untold c touch w (w.calls.phase c) q in
    step_tells w v c o nothing_told t s (sym none.0) (sym (ap (λ d. fill_made v (fill_due w d)) none.1))

-- ---- the steps

quiet_steps : (c : ℕ) (touch : Touch) (w : World) (n : ℕ) (v : World) → ∥ IsReached w ∥₁ → IsQuiet c touch w → StepsTo w c n v
    → StepsTell w c n nothing_told v × IsQuiet c touch v
quiet_steps c touch w zero v t q s = ((s, refl), subst (IsQuiet c touch) (sym s) q)
quiet_steps c touch w (suc n) v t q (m, before, s) =
    let so = quiet_steps c touch w n m t q before in (
      (
        m,
        nothing_told,
        nothing_told,
        so.0,
        tells_nothing c touch m v Stepped (steps_reached w m c n before t) so.1 s,
        record { own = refl; fill = refl },
      ),
      steps_quietly c touch m v Stepped so.1 s,
    )

begun_quietly : (c : ℕ) (request : Request) (w v : World) (h : IsServed w c request) → Step w (Call c request) Stepped v → IsQuiet c h.touch v
begun_quietly c request w v h s = room (nat_lt w.calls.events event_limit) s
  where
    limit : (b : Bool) → cond b (Becomes (after_call c request (with_event w)) Stepped v) ((Stepped ≡ Full) × (v ≡ with_event w)) → IsQuiet c h.touch v
    limit true g =
        arrives c h.touch _ v (Check request) g.1
        (h.plan, record { entry = h.entry; anew = h.anew; found = h.found; permitted = h.permitted })
    limit false g = let other = g.0 in absurd cc

    here : (b : Bool) → cond b (Acts (with_event w) (Call c request) Stepped v) (Idles (with_event w) Stepped v) → IsQuiet c h.touch v
    here true g = limit (nat_lt (length w.calls.requests) w.made.calls) (subst (λ p. Begins (with_event w) c request p Stepped v) h.free g)
    here false i = let other = i.0 in absurd cc

    room : (b : Bool) → cond b (cond (is_here w.made (Some c)) (Acts (with_event w) (Call c request) Stepped v) (Idles (with_event w) Stepped v))
        ((Stepped ≡ Full) × (v ≡ w)) → IsQuiet c h.touch v
    room true g = here (is_here w.made (Some c)) g
    room false g = let other = g.0 in absurd cc

-- ---- the call

called : (keeps : Bool) (w v : World) (c : ℕ) (request : Request) (o x : Outcome) (m : World) → o ≢ Stepped → Step w (Call c request) o m → v ≡ m
    → ◌≡◌ {A = Finished} (Last x) (Last o) → CallsTelling keeps w c request nothing_told (Ok x) v
called keeps w v c request o x m other s same is =
    let e : o ≡ x = cc in
    subst (λ y. CallsTelling keeps w c request nothing_told (Ok y) v) e
    (not_begun w v c request o nothing_told keeps other refl (subst (Step w (Call c request) o) (sym same) s))

pub served_last : (keeps : Bool) (w v : World) (c : ℕ) (request : Request) (x : Outcome) → ∥ IsReached w ∥₁ → IsServed w c request
    → Calls w c request (Last x) v → CallsTelling keeps w c request nothing_told (Ok x) v
served_last keeps w v c request x t h (Stepped, m, s, (n, (few, other, (k, before, step)))) =
    let r : ∥ IsReached m ∥₁ = ∥∥₁_map t (λ r. reached_step w m (Call c request) Stepped r s) in
    let so = quiet_steps c h.touch m n k r (begun_quietly c request w m h s) before in
    let tells = tells_nothing c h.touch k v x (steps_reached m k c n before r) so.1 step in
    (Stepped, m, s, last m k v c n nothing_told nothing_told x keeps other refl so.0 (nothing_told, tells, refl, λ e. absurd cc))
served_last keeps w v c request x t h (Wait b, m, s, (same, is)) = called keeps w v c request (Wait b) x m (λ e. cc) s same is
served_last keeps w v c request x t h (Idle, m, s, (same, is)) = called keeps w v c request Idle x m (λ e. cc) s same is
served_last keeps w v c request x t h (Full, m, s, (same, is)) = called keeps w v c request Full x m (λ e. cc) s same is
served_last keeps w v c request x t h (Answered reply, m, s, (same, is)) = called keeps w v c request (Answered reply) x m (λ e. cc) s same is

pub served_stuck : (keeps : Bool) (w v : World) (c : ℕ) (request : Request) → ∥ IsReached w ∥₁ → IsServed w c request
    → Calls w c request Stuck v → CallsTelling keeps w c request nothing_told (Ok Stepped) v
served_stuck keeps w v c request t h (Stepped, m, s, (n, (limit, before))) =
    let r : ∥ IsReached m ∥₁ = ∥∥₁_map t (λ r. reached_step w m (Call c request) Stepped r s) in
    let so = quiet_steps c h.touch m n v r (begun_quietly c request w m h s) before in
    (Stepped, m, s, at_limit m v c n nothing_told keeps limit so.0)
served_stuck keeps w v c request t h (Wait b, m, s, (same, is)) = absurd cc
served_stuck keeps w v c request t h (Idle, m, s, (same, is)) = absurd cc
served_stuck keeps w v c request t h (Full, m, s, (same, is)) = absurd cc
served_stuck keeps w v c request t h (Answered reply, m, s, (same, is)) = absurd cc

pub served_refused : (keeps : Bool) (w v : World) (c : ℕ) (request : Request) (e : MemoryFault) → ∥ IsReached w ∥₁ → IsServed w c request
    → IsCallRefused keeps w c request v → CallsTelling keeps w c request nothing_told (Err e) v
served_refused keeps w v c request e t h (m, s, (n, few, wants, before)) =
    let r : ∥ IsReached m ∥₁ = ∥∥₁_map t (λ r. reached_step w m (Call c request) Stepped r s) in
    let so = quiet_steps c h.touch m n v r (begun_quietly c request w m h s) before in
    (Stepped, m, s, (n, so.0, wants))

-- ---- before it, the core's TLB drops the page

gone : (es : List TlbEntry) (p : ℕ) → tlb_at (tlb_without (is_at p) es) p ≡ None
gone [] p = refl
gone (e ∷ es) p = go (gone es p) (e.page == p) refl
  where
    go : tlb_at (tlb_without (is_at p) es) p ≡ None → (b : Bool) → (e.page == p) ≡ b
        → tlb_at (if not b then e ∷ tlb_without (is_at p) es else tlb_without (is_at p) es) p ≡ None
    go rest true is = rest
    go rest false is = ap (λ b. if b then Some e.translation else tlb_at (tlb_without (is_at p) es) p) is ∙ rest

pub evicted : (w m : World) (c p : ℕ) (x : Outcome) → c < w.made.cores → x ≢ Full → Step w (Evict c p) x m → tlb_at (m.hardware.tlb c) p ≡ None
evicted w m c p x in_range other s = room (nat_lt w.calls.events event_limit) s
  where
    found : (o : Option Translation) → tlb_at (w.hardware.tlb c) p ≡ o
        → cond (is_some o) (Becomes (with_hardware (after_eviction w.hardware c p) (with_event w)) x m) (Idles (with_event w) x m)
        → tlb_at (m.hardware.tlb c) p ≡ None
    found None is g = ap (λ (u : World). tlb_at (u.hardware.tlb c) p) g.1 ∙ is
    found (Some e) is g =
        ap (λ (u : World). tlb_at (u.hardware.tlb c) p) g.1
        ∙ (ap (λ es. tlb_at es p) (put_same w.hardware.tlb c (tlb_without (is_at p) (w.hardware.tlb c))) ∙ gone (w.hardware.tlb c) p)

    here : (b : Bool) → nat_lt c w.made.cores ≡ b → cond b (Acts (with_event w) (Evict c p) x m) (Idles (with_event w) x m)
        → tlb_at (m.hardware.tlb c) p ≡ None
    here true e g = found (tlb_at (w.hardware.tlb c) p) refl g
    here false e g = absurd (grind (arith, nat_tests))

    room : (b : Bool) → cond b (cond (is_here w.made (Some c)) (Acts (with_event w) (Evict c p) x m) (Idles (with_event w) x m)) ((x ≡ Full) × (m ≡ w))
        → tlb_at (m.hardware.tlb c) p ≡ None
    room true g = here (nat_lt c w.made.cores) refl g
    room false g = absurd (other g.0)

pub phase_kept : (w m : World) (c p : ℕ) (x : Outcome) → Step w (Evict c p) x m → m.calls.phase ≡ w.calls.phase
phase_kept w m c p x s = room (nat_lt w.calls.events event_limit) s
  where
    found : (b : Bool)
        → cond b (Becomes (with_hardware (after_eviction w.hardware c p) (with_event w)) x m) (Idles (with_event w) x m)
        → m.calls.phase ≡ w.calls.phase
    found true g = ap (λ (u : World). u.calls.phase) g.1
    found false g = ap (λ (u : World). u.calls.phase) g.1

    here : (b : Bool) → cond b (Acts (with_event w) (Evict c p) x m) (Idles (with_event w) x m) → m.calls.phase ≡ w.calls.phase
    here true g = found (is_some (tlb_at (w.hardware.tlb c) p)) g
    here false g = ap (λ (u : World). u.calls.phase) g.1

    room : (b : Bool) → cond b (cond (is_here w.made (Some c)) (Acts (with_event w) (Evict c p) x m) (Idles (with_event w) x m)) ((x ≡ Full) × (m ≡ w))
        → m.calls.phase ≡ w.calls.phase
    room true g = here (is_here w.made (Some c)) g
    room false g = ap (λ (u : World). u.calls.phase) g.1

-- ---- what is asked for

pub accesses : (kind at : ℕ) (request : Request) → touch_request kind at ≡ Some request → IsAccessAt at request
accesses kind at request e = by (kind == 4) (kind == 5) (kind == 6) e
  where
    by : (a b d : Bool) → (if a then Some (Asks.Load at) else if b then Some (Asks.Store at 0) else if d then Some (Asks.Fetch at) else None) ≡ Some request
        → IsAccessAt at request
    by true b d e = let same : Asks.Load at ≡ request = cc in subst (IsAccessAt at) same refl
    by false true d e = let same : Asks.Store at 0 ≡ request = cc in subst (IsAccessAt at) same refl
    by false false true e = let same : Asks.Fetch at ≡ request = cc in subst (IsAccessAt at) same refl
    by false false false e = absurd cc

served_at : (w : World) (c a : ℕ) (request : Request) (access : Access) (byte : ℕ) (e : Translation) → w.calls.phase c ≡ Free
    → is_page (page_of a) ≡ true → tlb_at (w.hardware.tlb c) (page_of a) ≡ None → w.hardware.table c (page_of a) ≡ Some e → permits e access ≡ true
    → checked_by w.made c request ≡ touched a access byte → IsServed w c request
served_at w c a request access byte e free valid anew found ok plan = record {
  touch = touch_of a access byte;
  entry = e;
  free = free;
  plan = plan ∙ ap (λ b. if b then Ok (PlanOf.Touch (touch_of a access byte)) else Err (Segv MapErr)) valid;
  anew = anew;
  found = found;
  permitted = ok;
}

pub is_served : (w : World) (c at : ℕ) (request : Request) (e : Translation) → IsAccessAt at request → w.calls.phase c ≡ Free → is_page (page_of at) ≡ true
    → tlb_at (w.hardware.tlb c) (page_of at) ≡ None → w.hardware.table c (page_of at) ≡ Some e → IsPermitted e request → IsServed w c request
is_served w c at (Asks.Load a) e is free valid anew found ok =
    served_at w c a (Asks.Load a) Load 0 e free (subst (λ x. is_page (page_of x) ≡ true) (sym is) valid)
    (subst (λ x. tlb_at (w.hardware.tlb c) (page_of x) ≡ None) (sym is) anew) (subst (λ x. w.hardware.table c (page_of x) ≡ Some e) (sym is) found) refl refl
is_served w c at (Asks.Store a byte) e is free valid anew found ok =
    served_at w c a (Asks.Store a byte) Store byte e free (subst (λ x. is_page (page_of x) ≡ true) (sym is) valid)
    (subst (λ x. tlb_at (w.hardware.tlb c) (page_of x) ≡ None) (sym is) anew) (subst (λ x. w.hardware.table c (page_of x) ≡ Some e) (sym is) found) ok refl
is_served w c at (Asks.Fetch a) e is free valid anew found ok =
    served_at w c a (Asks.Fetch a) Fetch 0 e free (subst (λ x. is_page (page_of x) ≡ true) (sym is) valid)
    (subst (λ x. tlb_at (w.hardware.tlb c) (page_of x) ≡ None) (sym is) anew) (subst (λ x. w.hardware.table c (page_of x) ≡ Some e) (sym is) found) ok refl
is_served w c at _ e is free valid anew found ok = absurd is

-- ---- the word of an entry

pub worded : (q : Option Translation) (word : ℕ) → word_of q ≡ Some word → (e : Translation) × (q ≡ Some e) × (entry_word e ≡ word)
worded None word h = absurd cc
worded (Some e) word h = (e, refl, (let same : entry_word e ≡ word = cc in same))

pub may_write : (e : Translation) (word : ℕ) → entry_word e ≡ word → word / 2 % 2 ≡ 1 → e.write ≡ true
may_write e word is odd = by e.write e.exec is
  where
    by : (a b : Bool) → e.frame * 4096 + 1 + (if a then 2 else 0) + 4 + (if b then 0 else 2 ^ 63) ≡ word → a ≡ true
    by true b h = refl
    by false true h = absurd (omega (arith, h, odd))
    by false false h = absurd (omega (arith, h, odd))

pub may_fetch : (e : Translation) (word : ℕ) → entry_word e ≡ word → word < 2 ^ 63 → e.exec ≡ true
may_fetch e word is low = by e.exec is
  where
    by : (b : Bool) → e.frame * 4096 + 1 + (if e.write then 2 else 0) + 4 + (if b then 0 else 2 ^ 63) ≡ word → b ≡ true
    by true h = refl
    by false h = absurd (omega (arith, h, low))

-- ---- what the machine was made with stays

steps_made : (w : World) (c n : ℕ) (all : Told) (v : World) → StepsTell w c n all v → v.made ≡ w.made
steps_made w c zero all v (same, none) = ap (λ (u : World). u.made) same
steps_made w c (suc n) all v (m, before, now, so, s, joined) = step_made m (Go c) Stepped v s.step ∙ steps_made w c n before m so

last_made : (m : World) (c n : ℕ) (before all : Told) (o : Outcome) (v : World) → LastTells m c n before all o v → v.made ≡ m.made
last_made m c n before all Stepped v l = ap (λ (u : World). u.made) l.0
last_made m c n before all (Wait b) v l = step_made m (Go c) (Wait b) v l.1.step
last_made m c n before all Idle v l = step_made m (Go c) Idle v l.1.step
last_made m c n before all Full v l = step_made m (Go c) Full v l.1.step
last_made m c n before all (Answered reply) v l = step_made m (Go c) (Answered reply) v l.1.step

goes_made : (keeps : Bool) (w : World) (c : ℕ) (all : Told) (ended : Result Outcome MemoryFault) (v : World) → GoesTelling keeps w c all ended v
    → v.made ≡ w.made
goes_made keeps w c all (Ok o) v (n, m, before, so, l) = last_made m c n before all o v l ∙ steps_made w c n before m so
goes_made keeps w c all (Err e) v (n, so, wants) = steps_made w c n all v so

after_made : (keeps : Bool) (m : World) (c : ℕ) (o : Outcome) (all : Told) (ended : Result Outcome MemoryFault) (v : World)
    → GoesAfter keeps m c o all ended v → v.made ≡ m.made
after_made keeps m c Stepped all ended v g = goes_made keeps m c all ended v g
after_made keeps m c (Wait b) all ended v g = ap (λ (u : World). u.made) g.0
after_made keeps m c Idle all ended v g = ap (λ (u : World). u.made) g.0
after_made keeps m c Full all ended v g = ap (λ (u : World). u.made) g.0
after_made keeps m c (Answered reply) all ended v g = ap (λ (u : World). u.made) g.0

pub made_kept : (keeps : Bool) (w v : World) (at c : ℕ) (request : Request) (told : Told) (ended : Result Outcome MemoryFault)
    → EvictsAndCalls keeps w at c request told ended v → v.made ≡ w.made
made_kept keeps w v at c request told ended (x, m, s, (o, k, begins, after)) =
    after_made keeps k c o told ended v after ∙ (step_made m (Call c request) o k begins ∙ step_made w (Evict c (page_of at)) x m s)

pub in_range : (w : World) (core c : ℕ) → core_in w core ≡ Some c → c < w.made.cores
in_range w core c h = by (nat_lt core w.made.cores) (nat_lt core 64) refl h
  where
    by : (a b : Bool) → nat_lt core w.made.cores ≡ a → (if a then (if b then Some core else None) else None) ≡ Some c → c < w.made.cores
    by true true lt is = let same : core ≡ c = cc in grind (arith, nat_tests)
    by true false lt is = absurd cc
    by false b lt is = absurd cc
