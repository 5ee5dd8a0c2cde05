-- What an access tells that doesn't have its page's frame copied
use Rattle.machine_model.proofs.Words.{◌≡◌, ◌≢◌, ℕ, zero, suc, refl, sym, ap, subst, ◌∙◌, inl, inr, Bool, true, false, cond, nat_lt}
use Rattle.machine_model.proofs.Words.{Some, None, Option, is_some, if◌then◌else◌, Ok, Err, World, Step, StepsTo, Goes, Acts, Begins, Idles, Becomes}
use Rattle.machine_model.proofs.Words.{with_event, after_plan, checked_by, frame_reached, translated_by, with_hardware, after_translating}
use Rattle.machine_model.proofs.Words.{found_at, is_cached, is_private_store, is_private, back_of, file_frame}
use Rattle.machine_model.proofs.Words.{frame_of, PageInfo, Slots}
use Rattle.machine_model.proofs.Words.{held_after, taken_in, ∥∥₁_elim, ∥∥₁_map, props, event_limit, is_here, after_call, length, Touch}
use Rattle.machine_model.proofs.Words.{touch_of, touched, is_page, page_of}
use Rattle.std.specs.Prelude.{◌&&◌}
use Rattle.vm_base.specs.declared.memory.NoMemory.{NoMemory as MemoryFault}
use Rattle.vm_base.specs.declared.info.Back.{Back}
use Rattle.vm_base.specs.declared.info.Back.TheVariants.{Anon, Shared, Private}
use Rattle.vm_base.specs.declared.requests.Request.{Request}
use Rattle.vm_base.specs.declared.requests.Request.TheVariants as Asks
use Rattle.vm_base.specs.declared.rights.Access.{Access}
use Rattle.vm_base.specs.declared.rights.Access.TheVariants.{Load, Store, Fetch}
use Rattle.vm_base.specs.declared.replies.SegvCode.TheVariants.{MapErr as NotMapped}
use Rattle.vm_base.specs.declared.replies.Reply.TheVariants.{Segv}
use Rattle.slot_lock.specs.declared.plan.Goal.TheVariants as To
use Rattle.slot_lock.specs.declared.plan.Plan.TheVariants as PlanOf
use Rattle.machine_model.specs.declared.event.Event.TheVariants.{Call, Go}
use Rattle.machine_model.specs.declared.event.Outcome.{Outcome}
use Rattle.machine_model.specs.declared.event.Outcome.TheVariants.{Stepped, Wait, Idle, Answered, Full}
use Rattle.machine_model.specs.declared.phase.Phase.{Phase}
use Rattle.machine_model.specs.declared.phase.Phase.TheVariants.{Free, Check, Try, Lock, Settle, Want, Fill, Install, Release, Unlock, Answer}
use Rattle.machine_model.specs.Sound.{IsReached}
use Rattle.machine_model.proofs.Fills.{uncached}
use Rattle.machine_model.proofs.SoundKept.{reached_fine, reached_step}
use Rattle.machine_model.proofs.SoundMoves.{shown}
use Rattle.core_steps.specs.declared.machine.Finished.{Finished}
use Rattle.core_steps.specs.declared.machine.Finished.TheVariants.{Last, Stuck}
use Rattle.core_steps.specs.Finishing.{Calls, IsCallRefused}
use Rattle.core_steps.proofs.Reached.{steps_reached}
use Rattle.real_mmu.specs.Fills.{due_in}
use Rattle.real_mmu.specs.Remembered.{own_range}
use Rattle.driven.specs.declared.telling.Told.{Told}
use Rattle.driven.specs.declared.telling.Origin.{Origin}
use Rattle.driven.specs.declared.telling.FrameFill.{FrameFill}
use Rattle.driven.specs.Telling.{StepTells, StepsTell, LastTells, GoesTelling, CallsTelling, nothing_told, told_by}
use Rattle.driven.specs.Telling.{fill_made, fill_due, fill_if, fill_of, IsOne, Joins}
use Rattle.driven.specs.Gotten.{may_copy, IsUncopied, missing_by, missing_from, gotten}
use Rattle.driven.specs.Served.{IsAccessAt}
use Rattle.driven.proofs.Tellings.{step_tells, at_limit, not_begun}
use Rattle.driven.proofs.Gaining.{IsStill, Known, IsKnown, got, since, told_at, Moves, same_frame, arrives, lacks_frame, GoesOn}
use Rattle.driven.proofs.Gaining.{settles, translates, same_info, locks, frees, releases, installs, takes, fills}

-- ---- any step

quiet : (start : World) (touch : Touch) (c : ℕ) (w v : World) (phase : Phase) → due_in phase ≡ None → GoesOn start touch c w v
    → Moves start touch c w phase v
quiet start touch c w v phase none h = (
  h.0,
  subst (λ n. IsOne (got start touch.page w) n (got start touch.page v))
      (sym (ap (λ d. fill_made v (fill_due w d)) none)) h.1,
)

goes_known : (start : World) (touch : Touch) (c : ℕ) (w v : World) (o : Outcome) (phase : Phase) → w.calls.phase c ≡ phase
    → ((f n k : ℕ) → taken_in phase ≡ Some f → w.memory.cached n k ≢ Some f) → Known start touch c w phase → Goes w c phase o v
    → Moves start touch c w phase v
goes_known start touch c w v o (Check request) at fresh q g =
    quiet start touch c w v (Check request) refl
    (arrives start touch c w w v (Try touch) (g.1 ∙ ap (λ r. after_plan c r w) q.0) (refl, q.1) refl)
goes_known start touch c w v o (Try t) at fresh q g =
    quiet start touch c w v (Try t) refl
    (translates start touch c w (with_hardware (after_translating w.hardware c touch) w) v q.1 (frame_reached (translated_by w.hardware c touch)) refl refl
    (subst (λ x. Goes w c (Try x) o v) q.0 g).1)
goes_known start touch c w v o (Lock (To.Access t) cursor) at fresh q g =
    quiet start touch c w v (Lock (To.Access t) cursor) refl
    (locks start touch c cursor w v o q.1 (at ∙ ap (λ x. Lock (To.Access x) cursor) q.0) (subst (λ x. Goes w c (Lock (To.Access x) cursor) o v) q.0 g))
goes_known start touch c w v o (Settle t) at fresh q g =
    quiet start touch c w v (Settle t) refl
    (settles start touch c w v o q.1 (found_at w touch) refl (subst (λ x. Goes w c (Settle x) o v) q.0 g))
goes_known start touch c w v o (Want t None) at fresh q g =
    quiet start touch c w v (Want t None) refl (takes start touch c w v o q.1 (subst (λ x. Goes w c (Want x None) o v) q.0 g))
goes_known start touch c w v o (Fill t frame) at fresh q g =
    subst (λ x. Moves start touch c w (Fill x frame) v) (sym q.0)
    (fills start touch c w v o frame q.1 (λ f n k h. fresh f n k h) (subst (λ x. Goes w c (Fill x frame) o v) q.0 g))
goes_known start touch c w v o (Install t) at fresh q g =
    quiet start touch c w v (Install t) refl (installs start touch c w v o q.1 (subst (λ x. Goes w c (Install x) o v) q.0 g))
goes_known start touch c w v o (Release t) at fresh q g =
    quiet start touch c w v (Release t) refl (releases start touch c w v o q.1 (subst (λ x. Goes w c (Release x) o v) q.0 g))
goes_known start touch c w v o (Unlock held reply) at fresh q (b, (s, u, g)) =
    quiet start touch c w v (Unlock held reply) refl
    (frees start touch c w (record w { slots = s }) v (held_after held b) reply g.1
    (same_info w.slots s touch.page (ap (λ (s : Slots). s.info) u.now)))
goes_known start touch c w v o (Answer reply) at fresh q g =
    quiet start touch c w v (Answer reply) refl (arrives start touch c w w v Free g.1 tt refl)
goes_known start touch c w v o Free at fresh q g =
    quiet start touch c w v Free refl
    (subst (IsKnown start touch c) (sym g.1) (subst (Known start touch c w) (sym at) tt), ap (got start touch.page) g.1)
goes_known start touch c w v o _ at fresh q g = absurd q

-- no range is told
own_untold : (start : World) (touch : Touch) (c : ℕ) (w : World) (phase : Phase) → Known start touch c w phase → own_range phase ≡ None
own_untold start touch c w (Check request) q = refl
own_untold start touch c w (Try t) q = refl
own_untold start touch c w (Lock goal cursor) q = refl
own_untold start touch c w (Settle t) q = refl
own_untold start touch c w (Want t None) q = refl
own_untold start touch c w (Fill t frame) q = refl
own_untold start touch c w (Install t) q = refl
own_untold start touch c w (Release t) q = refl
own_untold start touch c w (Unlock held reply) q = refl
own_untold start touch c w (Answer reply) q = refl
own_untold start touch c w Free q = refl
own_untold start touch c w _ q = absurd q

-- ---- the steps

-- after a step: what it tells joins what was told
record ComesTo (start : World) (touch : Touch) (c : ℕ) (w v : World) (o : Outcome) : Type 0 where
  now : Told
  tells : StepTells w c now o v
  joins : Joins (since start touch.page w) now (since start touch.page v)
  known : IsKnown start touch c v

fresh_frame : (w : World) (c : ℕ) (phase : Phase) → ∥ IsReached w ∥₁ → w.calls.phase c ≡ phase → (f n k : ℕ) → taken_in phase ≡ Some f
    → w.memory.cached n k ≢ Some f
fresh_frame w c phase t at f n k taken h =
    ∥∥₁_elim t (hlevel props) (λ r. uncached w f (shown w (reached_fine w r)) c (ap taken_in at ∙ taken) n k h)

counted : (start : World) (touch : Touch) (c : ℕ) (w : World) (phase : Phase) → Known start touch c w phase → Known start touch c (with_event w) phase
counted start touch c w (Check request) q = q
counted start touch c w (Try t) q = q
counted start touch c w (Lock (To.Access t) cursor) q = q
counted start touch c w (Settle t) q = q
counted start touch c w (Want t None) q = q
counted start touch c w (Fill t frame) q = q
counted start touch c w (Install t) q = q
counted start touch c w (Release t) q = q
counted start touch c w (Unlock held reply) q = q
counted start touch c w (Answer reply) q = q
counted start touch c w Free q = q
counted start touch c w _ q = absurd q

-- a step that changes no page
nothing_due : (start : World) (touch : Touch) (c : ℕ) (w v : World) (phase : Phase) → Known start touch c w phase → v.slots ≡ w.slots
    → told_at w v phase ≡ None
nothing_due start touch c w v (Check request) q same = refl
nothing_due start touch c w v (Try t) q same = refl
nothing_due start touch c w v (Lock goal cursor) q same = refl
nothing_due start touch c w v (Settle t) q same = refl
nothing_due start touch c w v (Want t None) q same = refl
nothing_due start touch c w v (Fill t None) q same = refl
nothing_due start touch c w v (Fill t (Some f)) q same =
    ap (λ (s : Slots). fill_if (frame_of (s.info t.page)) (fill_of w t.page f)) same
    ∙ (ap (λ p. fill_if (frame_of (w.slots.info p)) (fill_of w t.page f)) (ap (λ (t : Touch). t.page) q.0)
    ∙ ap (λ o. fill_if o (fill_of w t.page f)) (lacks_frame start touch.page w q.1.0))
nothing_due start touch c w v (Install t) q same = refl
nothing_due start touch c w v (Release t) q same = refl
nothing_due start touch c w v (Unlock held reply) q same = refl
nothing_due start touch c w v (Answer reply) q same = refl
nothing_due start touch c w v Free q same = refl
nothing_due start touch c w v _ q same = absurd q

rests : (start : World) (touch : Touch) (c : ℕ) (w v : World) → IsKnown start touch c w → IsKnown start touch c v → v.slots ≡ w.slots
    → Moves start touch c w (w.calls.phase c) v
rests start touch c w v q k same = (
  k,
  subst (λ n. IsOne (got start touch.page w) n (got start touch.page v)) (sym (nothing_due start touch c w v (w.calls.phase c) q same))
      (ap (λ (s : Slots). gotten touch.page (missing_from start (start.slots.info touch.page)) (frame_of (s.info touch.page))) same),
)

steps_known : (start : World) (touch : Touch) (c : ℕ) (w v : World) (o : Outcome) → ∥ IsReached w ∥₁ → IsKnown start touch c w → Step w (Go c) o v
    → ComesTo start touch c w v o
steps_known start touch c w v o t q s = record {
  now = told_by None (told_at w v (w.calls.phase c));
  tells = step_tells w v c o (told_by None (told_at w v (w.calls.phase c))) t s (sym (own_untold start touch c w (w.calls.phase c) q)) refl;
  joins = record { own = refl; fill = moved.1 };
  known = moved.0;
}
  where
    counts : IsKnown start touch c (with_event w)
    counts = counted start touch c w (w.calls.phase c) q

    here : (b : Bool) → cond b (Acts (with_event w) (Go c) o v) (Idles (with_event w) o v) → Moves start touch c w (w.calls.phase c) v
    here true g =
        goes_known start touch c (with_event w) v o (w.calls.phase c) refl (fresh_frame w c (w.calls.phase c) t refl) counts g
    here false i = rests start touch c w v q (subst (IsKnown start touch c) (sym i.1) counts) (ap (λ (u : World). u.slots) i.1)

    room : (b : Bool) → cond b (cond (is_here w.made (Some c)) (Acts (with_event w) (Go c) o v) (Idles (with_event w) o v)) ((o ≡ Full) × (v ≡ w))
        → Moves start touch c w (w.calls.phase c) v
    room true h = here (is_here w.made (Some c)) h
    room false h = rests start touch c w v q (subst (IsKnown start touch c) (sym h.1) q) (ap (λ (u : World). u.slots) h.1)

    moved : Moves start touch c w (w.calls.phase c) v
    moved = room (nat_lt w.calls.events event_limit) s

known_steps : (start : World) (touch : Touch) (c : ℕ) (w : World) (n : ℕ) (v : World) → ∥ IsReached w ∥₁ → IsKnown start touch c w
    → since start touch.page w ≡ nothing_told → StepsTo w c n v
    → StepsTell w c n (since start touch.page v) v × IsKnown start touch c v
known_steps start touch c w zero v t q none s =
    ((s, ap (λ (u : World). since start touch.page u) s ∙ none), subst (IsKnown start touch c) (sym s) q)
known_steps start touch c w (suc n) v t q none (m, before, s) =
    let so = known_steps start touch c w n m t q none before in
    let next = steps_known start touch c m v Stepped (steps_reached w m c n before t) so.1 s in
    ((m, since start touch.page m, next.now, so.0, next.tells, next.joins), next.known)

-- ---- the call begins

same_pages : (c : ℕ) (request : Request) (w v : World) (o : Outcome) → Step w (Call c request) o v → v.slots ≡ w.slots
same_pages c request w v o s = room (nat_lt w.calls.events event_limit) s
  where
    limit : (b : Bool) → cond b (Becomes (after_call c request (with_event w)) o v) ((o ≡ Full) × (v ≡ with_event w)) → v.slots ≡ w.slots
    limit true g = ap (λ (u : World). u.slots) g.1
    limit false g = ap (λ (u : World). u.slots) g.1

    begins : (phase : Phase) → Begins (with_event w) c request phase o v → v.slots ≡ w.slots
    begins Free g = limit (nat_lt (length w.calls.requests) w.made.calls) g
    begins _ g = ap (λ (u : World). u.slots) g.1

    here : (b : Bool) → cond b (Acts (with_event w) (Call c request) o v) (Idles (with_event w) o v) → v.slots ≡ w.slots
    here true g = begins (w.calls.phase c) g
    here false i = ap (λ (u : World). u.slots) i.1

    room : (b : Bool) → cond b (cond (is_here w.made (Some c)) (Acts (with_event w) (Call c request) o v) (Idles (with_event w) o v))
        ((o ≡ Full) × (v ≡ w)) → v.slots ≡ w.slots
    room true g = here (is_here w.made (Some c)) g
    room false g = ap (λ (u : World). u.slots) g.1

-- nothing was told before
none_since : (w v : World) (p : ℕ) → v.slots ≡ w.slots → since w p v ≡ nothing_told
none_since w v p same = ap (told_by None) (same_frame w p w v (ap (λ (s : Slots). frame_of (s.info p)) same) ∙ by (frame_of (w.slots.info p)))
  where
    by : (q : Option ℕ) → gotten p (missing_by w (back_of (w.slots.info p)) q) q ≡ None
    by None = refl
    by (Some f) = refl

-- no page's frame is copied by the access
still_at : (w : World) (touch : Touch)
    → is_private_store (back_of (w.slots.info touch.page)) touch.access && is_some (frame_of (w.slots.info touch.page)) ≡ false
    → IsStill w touch w
still_at w touch kept = by (frame_of (w.slots.info touch.page)) refl
  where
    plain : (b : Bool) → b && true ≡ false → b ≡ false
    plain true h = h
    plain false h = refl

    by : (q : Option ℕ) → frame_of (w.slots.info touch.page) ≡ q → IsStill w touch w
    by None e = inl (e, refl, refl)
    by (Some f) e =
        inr (
          f,
          e,
          ap (λ b. b && is_cached (file_frame w.memory.cached (back_of (w.slots.info touch.page))) f)
              (plain (is_private_store (back_of (w.slots.info touch.page)) touch.access)
              (subst (λ q. is_private_store (back_of (w.slots.info touch.page)) touch.access && is_some q ≡ false) e kept)),
        )

begun_known : (c : ℕ) (request : Request) (w v : World) (h : IsUncopied w c request) → Step w (Call c request) Stepped v → IsKnown w h.touch c v
begun_known c request w v h s = room (nat_lt w.calls.events event_limit) s
  where
    limit : (b : Bool) → cond b (Becomes (after_call c request (with_event w)) Stepped v) ((Stepped ≡ Full) × (v ≡ with_event w)) → IsKnown w h.touch c v
    limit true g = (arrives w h.touch c w _ v (Check request) g.1 (h.plan, still_at w h.touch h.kept) refl).0
    limit false g = let other = g.0 in absurd cc

    here : (b : Bool) → cond b (Acts (with_event w) (Call c request) Stepped v) (Idles (with_event w) Stepped v) → IsKnown w h.touch c v
    here true g = limit (nat_lt (length w.calls.requests) w.made.calls) (subst (λ p. Begins (with_event w) c request p Stepped v) h.free g)
    here false i = let other = i.0 in absurd cc

    room : (b : Bool) → cond b (cond (is_here w.made (Some c)) (Acts (with_event w) (Call c request) Stepped v) (Idles (with_event w) Stepped v))
        ((Stepped ≡ Full) × (v ≡ w)) → IsKnown w h.touch c v
    room true g = here (is_here w.made (Some c)) g
    room false g = let other = g.0 in absurd cc

-- ---- the call

begun_steps : (w m : World) (c : ℕ) (request : Request) (n : ℕ) (k : World) → ∥ IsReached w ∥₁ → (h : IsUncopied w c request)
    → Step w (Call c request) Stepped m → StepsTo m c n k → StepsTell m c n (since w h.touch.page k) k × IsKnown w h.touch c k × ∥ IsReached k ∥₁
begun_steps w m c request n k t h s before =
    let r : ∥ IsReached m ∥₁ = ∥∥₁_map t (λ r. reached_step w m (Call c request) Stepped r s) in
    let so = known_steps w h.touch c m n k r (begun_known c request w m h s)
    (none_since w m h.touch.page (same_pages c request w m Stepped s)) before in
    (so.0, so.1, steps_reached m k c n before r)

not_stepped : (keeps : Bool) (w v : World) (c : ℕ) (request : Request) (o x : Outcome) (m : World) (h : IsUncopied w c request) → o ≢ Stepped
    → Step w (Call c request) o m → v ≡ m → ◌≡◌ {A = Finished} (Last x) (Last o) → CallsTelling keeps w c request (since w h.touch.page v) (Ok x) v
not_stepped keeps w v c request o x m h other s same is =
    let e : o ≡ x = cc in
    let step : Step w (Call c request) o v = subst (Step w (Call c request) o) (sym same) s in
    subst (λ y. CallsTelling keeps w c request (since w h.touch.page v) (Ok y) v) e
    (not_begun w v c request o (since w h.touch.page v) keeps other (none_since w v h.touch.page (same_pages c request w v o step)) step)

ended_last : (keeps : Bool) (m : World) (c n : ℕ) (before all : Told) (x : Outcome) (k v : World) → x ≢ Stepped → StepsTell m c n before k
    → (now : Told) × StepTells k c now x v × Joins before now all → GoesTelling keeps m c all (Ok x) v
ended_last keeps m c n before all x k v other so l = (n, k, before, so, by x other l)
  where
    by : (o : Outcome) → o ≢ Stepped → (now : Told) × StepTells k c now o v × Joins before now all → LastTells k c n before all o v
    by Stepped ne h = absurd (ne refl)
    by (Wait b) ne h = h
    by Idle ne h = h
    by Full ne h = h
    by (Answered reply) ne h = h

pub known_last : (keeps : Bool) (w v : World) (c : ℕ) (request : Request) (x : Outcome) → ∥ IsReached w ∥₁ → (h : IsUncopied w c request)
    → Calls w c request (Last x) v → CallsTelling keeps w c request (since w h.touch.page v) (Ok x) v
known_last keeps w v c request x t h (Stepped, m, s, (n, (few, other, (k, before, step)))) =
    let so = begun_steps w m c request n k t h s before in
    let end = steps_known w h.touch c k v x so.2 so.1 step in (
      Stepped,
      m,
      s,
      ended_last keeps m c n (since w h.touch.page k) (since w h.touch.page v) x k v other so.0 (end.now, end.tells, end.joins),
    )
known_last keeps w v c request x t h (Wait b, m, s, (same, is)) = not_stepped keeps w v c request (Wait b) x m h (λ e. cc) s same is
known_last keeps w v c request x t h (Idle, m, s, (same, is)) = not_stepped keeps w v c request Idle x m h (λ e. cc) s same is
known_last keeps w v c request x t h (Full, m, s, (same, is)) = not_stepped keeps w v c request Full x m h (λ e. cc) s same is
known_last keeps w v c request x t h (Answered reply, m, s, (same, is)) =
    not_stepped keeps w v c request (Answered reply) x m h (λ e. cc) s same is

pub known_stuck : (keeps : Bool) (w v : World) (c : ℕ) (request : Request) → ∥ IsReached w ∥₁ → (h : IsUncopied w c request)
    → Calls w c request Stuck v → CallsTelling keeps w c request (since w h.touch.page v) (Ok Stepped) v
known_stuck keeps w v c request t h (Stepped, m, s, (n, (limit, before))) =
    let so = begun_steps w m c request n v t h s before in
    (Stepped, m, s, at_limit m v c n (since w h.touch.page v) keeps limit so.0)
known_stuck keeps w v c request t h (Wait b, m, s, (same, is)) = absurd cc
known_stuck keeps w v c request t h (Idle, m, s, (same, is)) = absurd cc
known_stuck keeps w v c request t h (Full, m, s, (same, is)) = absurd cc
known_stuck keeps w v c request t h (Answered reply, m, s, (same, is)) = absurd cc

pub known_refused : (keeps : Bool) (w v : World) (c : ℕ) (request : Request) (e : MemoryFault) → ∥ IsReached w ∥₁ → (h : IsUncopied w c request)
    → IsCallRefused keeps w c request v → CallsTelling keeps w c request (since w h.touch.page v) (Err e) v
known_refused keeps w v c request e t h (m, s, (n, few, wants, before)) =
    let so = begun_steps w m c request n v t h s before in
    (Stepped, m, s, (n, so.0, wants))

-- ---- what is asked for

loads_plainly : (back : Back) (b : Bool) → is_private_store back Load && b ≡ false
loads_plainly Anon b = refl
loads_plainly (Shared n k) b = refl
loads_plainly (Private n k) b = refl

fetches_plainly : (back : Back) (b : Bool) → is_private_store back Fetch && b ≡ false
fetches_plainly Anon b = refl
fetches_plainly (Shared n k) b = refl
fetches_plainly (Private n k) b = refl

stores_plainly : (back : Back) (b : Bool) → is_private back && b ≡ false → is_private_store back Store && b ≡ false
stores_plainly Anon b h = refl
stores_plainly (Shared n k) b h = refl
stores_plainly (Private n k) b h = h

uncopied_at : (w : World) (c a : ℕ) (request : Request) (access : Access) (byte : ℕ) → w.calls.phase c ≡ Free → is_page (page_of a) ≡ true
    → is_private_store (back_of (w.slots.info (page_of a))) access && is_some (frame_of (w.slots.info (page_of a))) ≡ false
    → checked_by w.made c request ≡ touched a access byte → (h : IsUncopied w c request) × (h.touch.page ≡ page_of a)
uncopied_at w c a request access byte free valid kept plan = (
  record {
    touch = touch_of a access byte;
    free = free;
    plan = plan ∙ ap (λ b. if b then Ok (PlanOf.Touch (touch_of a access byte)) else Err (Segv NotMapped)) valid;
    kept = kept;
  },
  refl,
)

-- the access of the page of this address
pub is_uncopied : (w : World) (c at : ℕ) (request : Request) → IsAccessAt at request → w.calls.phase c ≡ Free → is_page (page_of at) ≡ true
    → may_copy (w.slots.info (page_of at)) request ≡ false → (h : IsUncopied w c request) × (h.touch.page ≡ page_of at)
is_uncopied w c at (Asks.Load a) is free valid kept =
    subst (λ x. (h : IsUncopied w c (Asks.Load a)) × (h.touch.page ≡ page_of x)) is
    (uncopied_at w c a (Asks.Load a) Load 0 free (subst (λ x. is_page (page_of x) ≡ true) (sym is) valid)
    (loads_plainly (back_of (w.slots.info (page_of a))) (is_some (frame_of (w.slots.info (page_of a))))) refl)
is_uncopied w c at (Asks.Store a byte) is free valid kept =
    subst (λ x. (h : IsUncopied w c (Asks.Store a byte)) × (h.touch.page ≡ page_of x)) is
    (uncopied_at w c a (Asks.Store a byte) Store byte free (subst (λ x. is_page (page_of x) ≡ true) (sym is) valid)
    (stores_plainly (back_of (w.slots.info (page_of a))) (is_some (frame_of (w.slots.info (page_of a))))
    (subst (λ x. may_copy (w.slots.info (page_of x)) (Asks.Store a byte) ≡ false) (sym is) kept)) refl)
is_uncopied w c at (Asks.Fetch a) is free valid kept =
    subst (λ x. (h : IsUncopied w c (Asks.Fetch a)) × (h.touch.page ≡ page_of x)) is
    (uncopied_at w c a (Asks.Fetch a) Fetch 0 free (subst (λ x. is_page (page_of x) ≡ true) (sym is) valid)
    (fetches_plainly (back_of (w.slots.info (page_of a))) (is_some (frame_of (w.slots.info (page_of a))))) refl)
is_uncopied w c at _ is free valid kept = absurd is

-- what the code tells
pub told_since : (w v : World) (page : ℕ) (info : Option PageInfo) (missing : Option Origin) (fill : Option FrameFill) (told : Told) (p : ℕ)
    → told ≡ nothing_told → info ≡ w.slots.info page → missing ≡ missing_from w info → fill ≡ gotten page missing (frame_of (v.slots.info page))
    → p ≡ page → since w p v ≡ record { own = told.own; fill = fill }
told_since w v page info missing fill told p none is from gets at =
    ap (λ x. since w x v) at
    ∙ (ap (told_by None) (sym (gets ∙ ap (λ q. gotten page q (frame_of (v.slots.info page))) (from ∙ ap (missing_from w) is)))
    ∙ ap (λ o. told_by o fill) (sym (ap (λ (t : Told). t.own) none)))
