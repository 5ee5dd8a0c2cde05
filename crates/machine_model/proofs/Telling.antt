-- Which cores a lone call waits for: the others that are recorded on the pages that it changes or copies
use Rattle.machine_model.proofs.Words.{◌≡◌, ◌≢◌, ℕ, ◌<◌, Bool, true, false, refl, sym, ap, subst, arith, Some, None, Option, List, [], ◌∷◌, ◌++◌, ◌∙◌, ◌↔◌}
use Rattle.machine_model.proofs.Words.{is_some, if◌then◌else◌, nat_tests, PageInfo, PageRange, Reply, members, is_recorded, members-empty, put, has_in}
use Rattle.machine_model.proofs.Words.{put_all, put_same, put_other, eq_true, eq_false, Change, Put, Place, Target, Touch, range_of, goal_range, Slots, IsUser}
use Rattle.machine_model.proofs.Words.{entry_of, Message, awaited, message_of, posted, Phase, Free, Cut, Post, Acks}
use Rattle.machine_model.proofs.Words.{CopyAcks, Install, Release, Goal, taken_for, after_frame, after_install}
use Rattle.machine_model.proofs.Words.{reply_of, memory_after, to, let_go, after_reply, with_entry, detach_entry, after_zeros, after_first_copy, after_caching}
use Rattle.machine_model.proofs.Words.{after_sharing, after_copy, slots_after, reply_to, with_counts, awaits_in, page_of_touch, locking, locked_to, after_cuts}
use Rattle.machine_model.proofs.Words.{inboxes_after, after_shot, after_translating, with_hardware, World, Hardware}
use Rattle.std.specs.Prelude.{◌==◌}
use Rattle.vm_base.specs.Info.{recorded_cores}
use Rattle.slot_lock.specs.declared.plan.Goal.TheVariants as To
use Rattle.machine_model.proofs.Deciding.{place_free}
use Rattle.machine_model.proofs.Moves.{IsCallOf, call_at, page_is}
use Rattle.machine_model.proofs.Shapes.{GoesBy, moves, divides, cuts, fits, owns, lets_go, answers, posts, commits, takes, zeroes}
use Rattle.machine_model.proofs.Shapes.{first_copies, caches, shares, posts_copy, copies, installs, accesses, faults}
use Rattle.machine_model.proofs.Effects.{moves_quiet, locked_quiet, let_go_still, lets_go_still, taken_asked}
use Rattle.machine_model.specs.Coherent.{AreAsked}
use Rattle.machine_model.proofs.CoherenceSteps.{users}
use Rattle.machine_model.specs.Invariant.{IsWellFormed}
use Rattle.machine_model.specs.Alone.{takes_left}

-- The cores that have core c's message, if it asks for these pages, are the others that are recorded on them, and have taken nothing of it.
abbrev pub IsToldOf : Slots → Hardware → ℕ → Option PageRange → Type 0
IsToldOf s h c None = Unit {0}
IsToldOf s h c (Some range) = (d : ℕ) →
    ((awaited h.inbox c d ≡ true) ↔ ((d ≢ c) × IsUser s range d)) × (takes_left (h.inbox d) ≡ (if awaited h.inbox c d then 2 else 0))

-- while the call awaits acknowledgements
abbrev pub IsTold : Slots → Hardware → ℕ → Phase → Type 0
IsTold s h c phase = IsToldOf s h c (awaits_in phase)

-- ---- the phases in which a call waits

-- a call in this phase waits until others have dropped these pages: those of a change, or that of a store that is to have a copy
pub data Waits (phase : Phase) (range : PageRange) : Type 0 where
  for_change : (goal : Goal) (change : Change) → phase ≡ Acks goal change → range ≡ range_of change → Waits phase range
  for_copy : (touch : Touch) (frame : ℕ) → phase ≡ CopyAcks touch frame → range ≡ page_of_touch touch → Waits phase range

pub waits_at : (phase : Phase) (range : PageRange) → awaits_in phase ≡ Some range → Waits phase range
waits_at (Acks goal change) range e = for_change goal change refl cc
waits_at (CopyAcks touch frame) range e = for_copy touch frame refl cc
waits_at _ range e = absurd cc

-- ---- messages

-- what has no message of core c gets one at its end
told_message : (ms : List Message) (c : ℕ) (range : PageRange) → is_some (message_of (ms ++ posted c range ∷ []) c) ≡ true
told_message [] c range = ap (λ b. is_some (if b then Some (posted c range) else None)) (same c)
  where
    same : (c : ℕ) → (c == c) ≡ true
    same c = grind (arith, nat_tests)
told_message (m ∷ ms) c range = go (m.from == c) (told_message ms c range)
  where
    go : (b : Bool) → is_some (message_of (ms ++ posted c range ∷ []) c) ≡ true
        → is_some (if b then Some m else message_of (ms ++ posted c range ∷ []) c) ≡ true
    go true h = refl
    go false h = h

-- each message is of a core that awaits
asked_awaits : (phase : ℕ → Phase) (d : ℕ) (ms : List Message) (c : ℕ) → AreAsked phase d ms → is_some (message_of ms c) ≡ true
    → (range : PageRange) × (awaits_in (phase c) ≡ Some range)
asked_awaits phase d [] c h e = absurd cc
asked_awaits phase d (m ∷ ms) c h e = go (λ k. asked_awaits phase d ms c h.3 k) (m.from == c) refl e
  where
    go : (is_some (message_of ms c) ≡ true → (range : PageRange) × (awaits_in (phase c) ≡ Some range)) → (b : Bool) → (m.from == c) ≡ b
        → is_some (if b then Some m else message_of ms c) ≡ true → (range : PageRange) × (awaits_in (phase c) ≡ Some range)
    go rest true i k = (m.range, subst (λ n. awaits_in (phase n) ≡ Some m.range) (eq_true m.from c i) h.1)
    go rest false i k = rest k

-- where nobody awaits, there is no message
pub no_message : (phase : ℕ → Phase) (d : ℕ) (ms : List Message) → ((b : ℕ) → awaits_in (phase b) ≡ None) → AreAsked phase d ms → ms ≡ []
no_message phase d [] none h = refl
no_message phase d (m ∷ ms) none h = absurd (let a = none m.from in let b = h.1 in cc)

-- where only core c awaits, it has a message just where a take is left
pub left_is_awaited : (phase : ℕ → Phase) (d : ℕ) (ms : List Message) (c : ℕ) → ((b : ℕ) → b ≢ c → awaits_in (phase b) ≡ None) → AreAsked phase d ms
    → (is_some (message_of ms c) ≡ true) ↔ (0 < takes_left ms)
left_is_awaited phase d [] c only h = (λ e. absurd cc, λ l. absurd (omega (arith, l)))
left_is_awaited phase d (m ∷ ms) c only h = go (m.from == c) refl
  where
    some : (b : Bool) → 0 < (if b then 1 else 2)
    some true = omega arith
    some false = omega arith

    go : (b : Bool) → (m.from == c) ≡ b → (is_some (if b then Some m else message_of ms c) ≡ true) ↔ (0 < (if m.is_cleared then 1 else 2))
    go true e = (λ _. some m.is_cleared, λ _. refl)
    go false e = absurd (let a = only m.from (eq_false m.from c e) in let b = h.1 in cc)

-- the cores that are to be told are those that are recorded on the page that is to get a copy
copy_users : (s : Slots) (touch : Touch) (core : ℕ) → (members (recorded_cores (s.info touch.page)) core ≡ true) ↔ IsUser s (page_of_touch touch) core
copy_users s touch core = (
  λ m. (touch.page, page_is touch, here (s.info touch.page) m),
  λ u.
      let k = has_in (page_of_touch touch) u.0 u.1 in
      let same : u.0 ≡ touch.page = let a = k.0 in let b = k.1 in omega (arith, a, b) in
      there (s.info touch.page) (subst (λ p. is_recorded (s.info p) core ≡ true) same u.2),
)
  where
    here : (o : Option PageInfo) → members (recorded_cores o) core ≡ true → is_recorded o core ≡ true
    here None m = absurd (let a = members-empty core in cc (a, m))
    here (Some info) m = m

    there : (o : Option PageInfo) → is_recorded o core ≡ true → members (recorded_cores o) core ≡ true
    there None m = absurd cc
    there (Some info) m = m

-- where the call of core c, the only one, awaits nothing
nobody_awaits : (w : World) (c : ℕ) → ((b : ℕ) → b ≢ c → w.calls.phase b ≡ Free) → awaits_in (w.calls.phase c) ≡ None
    → (b : ℕ) → awaits_in (w.calls.phase b) ≡ None
nobody_awaits w c others e b = this (b == c) refl
  where
    this : (z : Bool) → (b == c) ≡ z → awaits_in (w.calls.phase b) ≡ None
    this true i = ap (λ n. awaits_in (w.calls.phase n)) (eq_true b c i) ∙ e
    this false i = ap awaits_in (others b (eq_false b c i))

-- just after the messages were sent to the cores that are recorded on these pages
posts_tell : (w : World) (c shoot : ℕ) (range : PageRange) → IsWellFormed w → ((b : ℕ) → b ≢ c → w.calls.phase b ≡ Free) → awaits_in (w.calls.phase c) ≡ None
    → ((d : ℕ) → (members shoot d ≡ true) ↔ IsUser w.slots range d)
    → (d : ℕ) → ((awaited (inboxes_after c shoot range w.hardware.inbox) c d ≡ true) ↔ ((d ≢ c) × IsUser w.slots range d))
    × (takes_left (inboxes_after c shoot range w.hardware.inbox d)
    ≡ (if awaited (inboxes_after c shoot range w.hardware.inbox) c d then 2 else 0))
posts_tell w c shoot range f others e all d = (
  go (put (members shoot) c false d) refl,
  untaken (put (members shoot) c false d) (w.hardware.inbox d) (no_message w.calls.phase d (w.hardware.inbox d) nobody (f.coherent.asked d)),
)
  where
    nobody : (b : ℕ) → awaits_in (w.calls.phase b) ≡ None
    nobody = nobody_awaits w c others e

    untaken : (b : Bool) (ms : List Message) → ms ≡ []
        → takes_left (if b then ms ++ posted c range ∷ [] else ms)
        ≡ (if is_some (message_of (if b then ms ++ posted c range ∷ [] else ms) c) then 2 else 0)
    untaken true ms i =
        subst (λ ms. takes_left (ms ++ posted c range ∷ []) ≡ (if is_some (message_of (ms ++ posted c range ∷ []) c) then 2 else 0)) (sym i)
        (ap (λ (b : Bool). if b then 2 else 0) (sym (told_message [] c range)))
    untaken false ms i = subst (λ ms. takes_left ms ≡ (if is_some (message_of ms c) then 2 else 0)) (sym i) refl

    users : (members shoot d ≡ true) ↔ IsUser w.slots range d
    users = all d

    not_yet : is_some (message_of (w.hardware.inbox d) c) ≡ true → ⊥
    not_yet h = let z = asked_awaits w.calls.phase d (w.hardware.inbox d) c (f.coherent.asked d) h in let none = e in cc

    other : put (members shoot) c false d ≡ true → (d ≢ c) × (members shoot d ≡ true)
    other = put_all (λ d b. b ≡ true → (d ≢ c) × (members shoot d ≡ true)) (members shoot) c false (λ h. absurd cc) (λ d ne h. (ne, h)) d

    go : (b : Bool) → put (members shoot) c false d ≡ b
        → (is_some (message_of (if b then w.hardware.inbox d ++ posted c range ∷ [] else w.hardware.inbox d) c) ≡ true)
        ↔ ((d ≢ c) × IsUser w.slots range d)
    go true i = (λ h. ((other i).0, users.0 (other i).1), λ u. told_message (w.hardware.inbox d) c range)
    go false i = (λ h. absurd (not_yet h), λ u. absurd (let a = users.1 u.1 in let b = sym i ∙ put_other (members shoot) c false d u.0 in cc))

-- ---- over a step of the call

-- a phase that awaits nothing
untold : (s : Slots) (h : Hardware) (c : ℕ) (phase : Phase) → awaits_in phase ≡ None → IsTold s h c phase
untold s h c phase e = subst (IsToldOf s h c) (sym e) tt

-- the call goes on to a phase that awaits nothing
to_untold : (c : ℕ) (new : Phase) (x v : World) → v ≡ to c new x → awaits_in new ≡ None → IsTold v.slots v.hardware c (v.calls.phase c)
to_untold c new x v h none =
    subst (λ (v : World). IsTold v.slots v.hardware c (v.calls.phase c)) (sym h)
    (untold x.slots x.hardware c (put x.calls.phase c new c) (ap awaits_in (put_same x.calls.phase c new) ∙ none))

-- with its reply
replied_untold : (c : ℕ) (held : Option PageRange) (reply : Reply) (x v : World) → v ≡ after_reply c held reply x
    → IsTold v.slots v.hardware c (v.calls.phase c)
replied_untold c held reply x v h =
    subst (λ (v : World). IsTold v.slots v.hardware c (v.calls.phase c)) (sym h)
    (untold x.slots x.hardware c (put x.calls.phase c (let_go held reply) c) (ap awaits_in (put_same x.calls.phase c (let_go held reply))
    ∙ (let_go_still held reply).awaits))

-- with the messages sent
posted_told : (w : World) (c : ℕ) (new : Phase) (shoot : ℕ) (range : PageRange) (v : World) → IsWellFormed w → ((b : ℕ) → b ≢ c → w.calls.phase b ≡ Free)
    → v ≡ to c new (with_hardware (after_shot w.hardware c shoot range) w) → awaits_in (w.calls.phase c) ≡ None → awaits_in new ≡ Some range
    → ((d : ℕ) → (members shoot d ≡ true) ↔ IsUser w.slots range d) → IsTold v.slots v.hardware c (v.calls.phase c)
posted_told w c new shoot range v f others h none asks all =
    subst (λ (v : World). IsTold v.slots v.hardware c (v.calls.phase c)) (sym h)
    (subst (IsTold w.slots (after_shot w.hardware c shoot range) c) (sym (put_same w.calls.phase c new))
    (subst (IsToldOf w.slots (after_shot w.hardware c shoot range) c) (sym asks) (posts_tell w c shoot range f others none all)))

-- no core uses a page that isn't mapped
pub unmapped_unused : (o : Option PageInfo) (d : ℕ) → is_some (entry_of o) ≡ false → is_recorded o d ≡ true → ⊥
unmapped_unused None d free r = cc
unmapped_unused (Some info) d free r = cc

-- pages that no core uses, while nobody awaits
quiet_told : (w : World) (c : ℕ) (range : PageRange) → IsWellFormed w → ((b : ℕ) → b ≢ c → w.calls.phase b ≡ Free)
    → awaits_in (w.calls.phase c) ≡ None
    → ((d : ℕ) → IsUser w.slots range d → ⊥) → IsToldOf w.slots w.hardware c (Some range)
quiet_told w c range f others e unused d =
    let none : w.hardware.inbox d ≡ [] =
    no_message w.calls.phase d (w.hardware.inbox d) (nobody_awaits w c others e) (f.coherent.asked d) in (
      subst (λ ms. (is_some (message_of ms c) ≡ true) ↔ ((d ≢ c) × IsUser w.slots range d)) (sym none)
          (λ m. absurd cc, λ u. absurd (unused d u.1)),
      subst (λ ms. takes_left ms ≡ (if is_some (message_of ms c) then 2 else 0)) (sym none) refl,
    )

-- a mapping goes to pages that no core uses
fits_told : (w : World) (c : ℕ) (place : Place) (target : Target) (range : PageRange) (v : World) → IsWellFormed w
    → ((b : ℕ) → b ≢ c → w.calls.phase b ≡ Free)
    → w.calls.phase c ≡ Cut place target range → v ≡ after_cuts c place target range w → IsTold v.slots v.hardware c (v.calls.phase c)
fits_told w c place target range v f others e h =
    let k : IsCallOf w c (Cut place target range) = call_at w c (Cut place target range) e f.order in
    let free = place_free w.slots place target range k.ready.1.0 k.ready.1.1 in
    subst (λ (v : World). IsTold v.slots v.hardware c (v.calls.phase c)) (sym h)
    (subst (IsTold w.slots w.hardware c) (sym (put_same w.calls.phase c (Acks (To.Place place target) (Put range place.meta))))
    (quiet_told w c range f others (ap awaits_in e) (λ d u. unmapped_unused (w.slots.info u.0) d (free u.0 u.1) u.2)))

pub told_on : (w : World) (c : ℕ) (v : World) → IsWellFormed w → ((b : ℕ) → b ≢ c → w.calls.phase b ≡ Free) → GoesBy w c v
    → IsTold v.slots v.hardware c (v.calls.phase c)
told_on w c v f others (moves new m h) = to_untold c new w v h (moves_quiet w c new m).1.still.awaits
told_on w c v f others (divides goal cursor t e s h) =
    subst (λ (v : World). IsTold v.slots v.hardware c (v.calls.phase c)) (sym h) (untold t w.hardware c (w.calls.phase c) (ap awaits_in e))
told_on w c v f others (cuts place target range t e s h) =
    subst (λ (v : World). IsTold v.slots v.hardware c (v.calls.phase c)) (sym h) (untold t w.hardware c (w.calls.phase c) (ap awaits_in e))
told_on w c v f others (fits place target range e i h) =
    fits_told w c place target range v f others e h
told_on w c v f others (owns goal cursor b t e l h) = to_untold c (locked_to goal b) (record w { slots = t }) v h (locked_quiet goal b).still.awaits
told_on w c v f others (lets_go held b t new l u h) = to_untold c new (record w { slots = t }) v h (lets_go_still (w.calls.phase c) held b new l).1.awaits
told_on w c v f others (answers held reply r h) = replied_untold c held reply w v h
told_on w c v f others (posts change shoot e h) =
    let k : IsCallOf w c (Post change shoot) = call_at w c (Post change shoot) e f.order in
    posted_told w c (Acks (To.Change change) change) shoot (range_of change) v f others h (ap awaits_in e) refl
    (users w.made.file w.slots change (range_of change) shoot k.ready)
told_on w c v f others (commits goal change total e n l h) = replied_untold c (Some (goal_range goal)) (reply_to change)
    (with_counts total (record w { slots = slots_after change w.slots })) v h
told_on w c v f others (takes touch old x e l h) =
    to_untold c (taken_for touch old x) (record w { memory = (after_frame c touch old x w).memory }) v h (taken_asked touch old x).1
told_on w c v f others (zeroes touch x counts e b t h) =
    to_untold c (Install touch) (record w { slots = (after_zeros c touch x counts w).slots; memory = (after_zeros c touch x counts w).memory }) v h refl
told_on w c v f others (first_copies touch x counts e b t h) =
    let made : World = after_first_copy c touch x counts w in
    to_untold c (Install touch) (with_entry (detach_entry w c touch.page) (record w { slots = made.slots; memory = made.memory })) v h refl
told_on w c v f others (caches touch x counts e k n t h) =
    to_untold c (Install touch) (record w { slots = (after_caching c touch x counts w).slots; memory = (after_caching c touch x counts w).memory }) v h refl
told_on w c v f others (shares touch own x counts e k n t h) =
    to_untold c (Install touch) (record w {
      slots = (after_sharing c touch own x counts w).slots;
      memory =
          (after_sharing c touch own x counts w).memory;
    }) v h refl
told_on w c v f others (posts_copy touch x e h) =
    posted_told w c (CopyAcks touch x) (recorded_cores (w.slots.info touch.page)) (page_of_touch touch) v f others h (ap awaits_in e) refl
    (copy_users w.slots touch)
told_on w c v f others (copies touch x g counts e n a t h) =
    let made : World = after_copy c touch x g counts w in
    to_untold c (Install touch) (with_entry (detach_entry w c touch.page) (record w { slots = made.slots; memory = made.memory })) v h refl
told_on w c v f others (installs touch e h) =
    to_untold c (Release touch) (record w { slots = (after_install c touch w).slots; hardware = (after_install c touch w).hardware }) v h refl
told_on w c v f others (accesses touch x e i h) =
    replied_untold c None (reply_of touch x w.memory)
    (record (with_hardware (after_translating w.hardware c touch) w) { memory = memory_after touch x w.memory }) v h
told_on w c v f others (faults touch e i h) = to_untold c (locking (To.Access touch)) (with_hardware (after_translating w.hardware c touch) w) v h refl
