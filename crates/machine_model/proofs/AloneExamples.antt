-- On a new machine every store is answered SIGSEGV, and a mapping goes to its first place, whatever steps the call takes: the law says so
-- without looking at them. And what a copy changes.
use Rattle.machine_model.proofs.Words.{◌⊎◌, inl, inr, ◌≡◌, ◌≢◌, ℕ, ◌<◌, arith, Bool, true, false, refl, subst, Some, None, Reply, Mapped, Done, Byte, Refused}
use Rattle.machine_model.proofs.Words.{Segv, Bus, NoFrame, NoMemory, MapErr, Private, Request, Mmap, Load, Store, Applies, Stands, RepliesBy, put, Plain}
use Rattle.machine_model.proofs.Words.{nothing_mapped, zeros, Slots, IsNew, Call, Go, Outcome, Stepped, Answered, World, Made, new_world, Step, StepsTo}
use Rattle.machine_model.proofs.Words.{event_limit, page_copied, with_copy, users_after, IsPlace, IsFirstPlace}
use Rattle.vm_base.specs.Places.IsFirstPlace.{at_hint, in_window}
use Rattle.vm_base.proofs.OneAnswer.{one_answer}
use Rattle.vm_base.specs.declared.rights.Mode.TheVariants.{R}
use Rattle.vm_base.specs.declared.log.Entry.TheVariants.{Answer}
use Rattle.machine_model.specs.Sound.{IsDue}
use Rattle.machine_model.proofs.SoundKept.{reached_opening}
use Rattle.machine_model.specs.Alone.{IsAwaiting}
use Rattle.machine_model.proofs.Serving.{served_alone}

abbrev made : Made
made = record { cores = 2; frames = 4; calls = 8; file = λ n. None }

abbrev nothing : Plain
nothing = nothing_mapped (λ n. None)

faults : (is_free : ℕ → Bool) (u : Plain) (y : Reply) → Stands IsPlace (with_copy nothing (page_copied nothing (Store 65540 41) y)) 0 (Store 65540 41) y u
    → IsDue (Go 0) is_free (Answer 0 0 0 y) → y ≡ Segv MapErr
faults is_free u (Mapped a) h d = let e = h.0 in cc
faults is_free u Done h d = let e = h.0 in cc
faults is_free u (Byte b) h d = let e = h.0 in cc
faults is_free u (Refused r) h d = let e = h.0 in cc
faults is_free u (Segv s) h d = let e = h.0 in cc
faults is_free u Bus h d = let e = h.0 in cc
faults is_free u NoFrame h d = absurd h.0
faults is_free u NoMemory h d = absurd cc

stores_fault : (slots : Slots) → IsNew slots → (begun x v : World) (n : ℕ) (o : Outcome) → Step (new_world made slots) (Call 0 (Store 65540 41)) Stepped begun
    → StepsTo begun 0 n x → Step x (Go 0) o v → o ≢ Stepped → x.calls.events < event_limit
    → (o ≡ Answered (Segv MapErr)) ⊎ IsAwaiting (new_world made slots) x nothing 0 (Store 65540 41) o v
stores_fault slots new begun x v n o call steps step not below =
    let w : World = new_world made slots in
    let reached = reached_opening made slots (omega arith) new in
    elim ((served_alone w begun nothing 0 (Store 65540 41) reached refl (λ c. refl) call).ends n x v o steps step not below) [
      | inl k ↦ inl (subst (λ y. o ≡ Answered y) (faults w.memory.is_free k.0.after k.0.reply k.0.stands (k.0.due 0 0)) k.0.answered)
      | inr a ↦ inr a
    ]

-- ---- a mapping that leaves its place open

abbrev asked : ℕ → Request
asked addr = Mmap addr 4096 (record { read = true; write = true; exec = false })
    (record { private = true; shared = false; fixed = false; anon = true }) 0 0

-- a free hint is the first place
at_its_hint : (t : Plain) × Applies IsFirstPlace nothing 0 (asked 65536) (Mapped 65536) t
at_its_hint = (_, (Some 16, at_hint (refl, λ p h. refl) refl, (refl, refl)))

-- and without one, as page 0 is never valid, it is the first page of the core's window
in_its_window : (t : Plain) × Applies IsFirstPlace nothing 0 (asked 0) (Mapped 549755813888) t
in_its_window = (
  _,
  (
    Some 134217728,
    in_window (λ h. let e = h.0 in cc)
        ((record { low = omega arith; high = omega arith }, λ p h. refl), λ r l room. let low = room.0.low in omega (arith, l, low)),
    (refl, refl),
  ),
)

-- on a new machine it is answered so, whatever steps its call takes
first_is : (addr at : ℕ) (is_free : ℕ → Bool) (t u : Plain) (y : Reply) → Applies IsFirstPlace nothing 0 (asked addr) (Mapped at) t
    → RepliesBy IsFirstPlace nothing 0 (asked addr) y u → IsDue (Go 0) is_free (Answer 0 0 0 y) → y ≡ Mapped at
first_is addr at is_free t u (Mapped a) k h d = (one_answer nothing u t 0 (asked addr) (Mapped a) (Mapped at) h k).0
first_is addr at is_free t u Done k h d = (one_answer nothing u t 0 (asked addr) Done (Mapped at) h k).0
first_is addr at is_free t u (Byte b) k h d = (one_answer nothing u t 0 (asked addr) (Byte b) (Mapped at) h k).0
first_is addr at is_free t u (Refused r) k h d = (one_answer nothing u t 0 (asked addr) (Refused r) (Mapped at) h k).0
first_is addr at is_free t u (Segv s) k h d = (one_answer nothing u t 0 (asked addr) (Segv s) (Mapped at) h k).0
first_is addr at is_free t u Bus k h d = (one_answer nothing u t 0 (asked addr) Bus (Mapped at) h k).0
first_is addr at is_free t u NoFrame k h d = absurd h.0
first_is addr at is_free t u NoMemory k h d = absurd cc

maps_first : (addr at : ℕ) (slots : Slots) → IsNew slots → (t : Plain) → Applies IsFirstPlace nothing 0 (asked addr) (Mapped at) t
    → (begun x v : World) (n : ℕ) (o : Outcome) → Step (new_world made slots) (Call 0 (asked addr)) Stepped begun
    → StepsTo begun 0 n x → Step x (Go 0) o v → o ≢ Stepped → x.calls.events < event_limit → o ≡ Answered (Mapped at)
maps_first addr at slots new t first begun x v n o call steps step not below =
    let w : World = new_world made slots in
    let reached = reached_opening made slots (omega arith) new in
    elim ((served_alone w begun nothing 0 (asked addr) reached refl (λ c. refl) call).ends n x v o steps step not below) [
      | inl k ↦ subst (λ y. o ≡ Answered y) (first_is addr at w.memory.is_free t k.0.after k.0.reply first k.2 (k.0.due 0 0)) k.0.answered
      | inr a ↦ absurd (let named = a.named in cc)
    ]

-- ---- a private page of a file

-- a file of one page, which page 16 shows as a private one
abbrev shown : Plain
shown = record {
  entry = put (λ p. None) 16 (Some (record { back = Private 0 0; prot = record { read = true; write = true; exec = false }; own = None }));
  file = put (λ n. None) 0 (Some (record { mode = R; count = 1; bytes = λ k. zeros }));
}

-- a store gives it a copy before, and leaves it to the core that stored
store_copies : page_copied shown (Store 65540 41) Done ≡ Some 16
store_copies = refl

store_drops : (users_after shown 0 (Store 65540 41) Done (λ p c. true) 16 1 ≡ false) × (users_after shown 0 (Store 65540 41) Done (λ p c. true) 16 0 ≡ true)
store_drops = (refl, refl)

-- a second store doesn't
store_again : page_copied (with_copy shown (Some 16)) (Store 65540 42) Done ≡ None
store_again = refl

-- and a load leaves it to all
load_keeps : (page_copied shown (Load 65540) (Byte 0) ≡ None) × (users_after shown 0 (Load 65540) (Byte 0) (λ p c. true) 16 1 ≡ true)
load_keeps = (refl, refl)
