-- A worked run of two cores, by computation: one maps a page, and the other stores a byte in it, for which it has to wait.
use Rattle.machine_model.proofs.Words.{◌≡◌, ℕ, ◌+◌, ◌++◌, Bool, true, false, cond, inl, inr, refl, ap, arith, Some, None, List, [], ◌∷◌, is_some, PageRange}
use Rattle.machine_model.proofs.Words.{Mapped, Done, Mmap, Store, has, put, message_of, posted, in_has, put_all, pages_of, awaited, inboxes_after, Slots}
use Rattle.machine_model.proofs.Words.{IsSlot, IsNew, Locks, Unlocks, between, with_owner, Locked, Held, Event, Call, Go, Outcome, Stepped, Wait, Answered}
use Rattle.machine_model.proofs.Words.{Slot, World, Made, new_world, Run, members, members-empty, Act}
use Rattle.machine_model.specs.Counting.{CountsDown}
use Rattle.refcache.proofs.Reached.{unused_at_first}
use Rattle.vm_base.specs.declared.log.Entry.TheVariants.{Answer}
use Rattle.machine_model.specs.Sound.{SoundRun}
use Rattle.machine_model.proofs.SoundExamples.{read_write, anonymous}
use Rattle.machine_model.proofs.SoundKept.{runs_sound}

abbrev pub made : Made
made = record { cores = 2; frames = 4; calls = 8; file = λ n. None }

-- each page is a slot of its own
abbrev pub slots : Slots
slots = record { info = λ p. None; owner = λ p. None; edge = λ p. true }

pub new : IsNew slots
new = record { unmapped = λ p. refl; free = λ p. refl }

one_page : (s : Slots) (page : ℕ) → s.edge ≡ (λ p. true) → IsSlot s page (page + 1)
one_page s page e = record {
  ordered = omega arith;
  begins = ap (λ f. f page) e;
  ends = ap (λ f. f (page + 1)) e;
  inside = λ p h k. absurd (omega (arith, h, k));
}

-- a core locks one that is free
pub locks_page : (s : Slots) (core page : ℕ) → s.edge ≡ (λ p. true)
    → ((p : ℕ) → has (between page (page + 1)) p ≡ true → s.owner p ≡ None)
    → Locks s (with_owner s page (page + 1) (Some core)) core page (page + 1) (page + 1)
locks_page s core page e free = record {
  slot = one_page s page e;
  by_end = omega arith;
  was_free = λ p h k. free p (in_has (between page (page + 1)) p h k);
  now = refl;
}

-- and lets its own go
pub unlocks_page : (s : Slots) (core page : ℕ) → s.edge ≡ (λ p. true)
    → ((p : ℕ) → has (between page (page + 1)) p ≡ true → s.owner p ≡ Some core)
    → Unlocks s (with_owner s page (page + 1) None) core page (page + 1) (page + 1)
unlocks_page s core page e mine = record {
  slot = one_page s page e;
  by_end = omega arith;
  was_held = λ p h k. mine p (in_has (between page (page + 1)) p h k);
  now = refl;
}

-- nobody is recorded where nothing is mapped
pub nobody : (core : ℕ) → members 0 core ≡ true → ⊥
nobody core h = let none = members-empty core in cc (none, h)

abbrev pub events : List Event
events =
    Call 0 (Mmap 65536 4096 read_write (anonymous true) 0 0) ∷ Go 0 ∷ Go 0
    ∷ Call 1 (Store 65540 41) ∷ Go 1 ∷ Go 1 ∷ Go 1
    ∷ Go 0 ∷ Go 0 ∷ Go 0 ∷ Go 0
    ∷ Go 1 ∷ Go 1 ∷ Go 1 ∷ Go 1 ∷ Go 1 ∷ Go 1 ∷ Go 1
    ∷ Go 1 ∷ Go 0 ∷ []

abbrev pub outcomes : List Outcome
outcomes =
    Stepped ∷ Stepped ∷ Stepped
    ∷ Stepped ∷ Stepped ∷ Stepped ∷ Wait (Slot 0)
    ∷ Stepped ∷ Stepped ∷ Stepped ∷ Stepped
    ∷ Stepped ∷ Stepped ∷ Stepped ∷ Stepped ∷ Stepped ∷ Stepped ∷ Stepped
    ∷ Answered Done ∷ Answered (Mapped 65536) ∷ []

-- a step, and then the others
pub then : {P Q : World → Type 0} (m : World) → P m → Q m → (x : World) × P x × Q x
then m s r = (m, s, r)

-- nobody was told by a core whose change told none
pub quiet : (told core : ℕ) (range : PageRange) (d : ℕ) → awaited (inboxes_after told 0 range (λ c. [])) core d ≡ false
quiet told core range d = go (put (members 0) told false d) refl
  where
    none : put (members 0) told false d ≡ true → ⊥
    none = put_all (λ d b. b ≡ true → ⊥) (members 0) told false (λ h. cc) (λ d ne h. nobody d h) d

    go : (b : Bool) → put (members 0) told false d ≡ b
        → is_some (message_of (cond b ([] ++ posted told range ∷ []) []) core) ≡ false
    go true i = absurd (none i)
    go false i = refl

unfoldable pub ran : (w : World) × Run (new_world made slots) events outcomes w × (w.calls.log ≡ Answer 10 1 0 (Mapped 65536) ∷ Answer 18 2 1 Done ∷ [])
unfolding CountsDown
ran = (
  _,
  then _ (refl, refl) (then _ (refl, refl)
      -- core 0 holds the page
      (then _ (Locked 17, (_, locks_page slots 0 16 refl (λ p h. refl), (refl, refl)))
      -- core 1 finds nothing mapped, and waits for the page
      (then _ (refl, refl) (then _ (refl, refl) (then _ (refl, refl)
      (then _ (Held 0, (_, (λ h. absurd cc, refl, refl), (refl, refl)))
      -- core 0 makes the change, and lets the page go
      (then _ (Act (between 16 17) 0, (refl, λ core. (λ m. absurd (nobody core m), λ u. absurd (let z = u.2 in cc))), (refl, refl)) (then _ (refl, refl)
      (then _ (inl (quiet 0 0 (pages_of 65536 4096), (_, (_, refl, refl), (refl, refl))))
      (then _ (17, (_, unlocks_page _ 0 16 refl (λ p h. ap (λ b. cond b (Some 0) None) h), (refl, refl)))
      -- core 1 locks the page, gives it a frame, and stores
      (then _ (Locked 17, (_, locks_page _ 1 16 refl (λ p h. ap (λ b. cond b None (cond b (Some 0) None)) h), (refl, refl)))
      (then _ (refl, refl)
      (then _ (inr (0, record { free = refl; least = λ g h. absurd (omega (arith, h)) }, (refl, refl)))
      (then _ (_, (unused_at_first 2 4 0, omega arith, omega arith, refl, omega arith), (refl, refl)) (then _ (refl, refl)
      (then _ (17, (_, unlocks_page _ 1 16 refl (λ p h. ap (λ b. cond b (Some 1) (cond b None (cond b (Some 0) None))) h), (refl, refl)))
      (then _ (refl, refl)
      -- both hand out their replies
      (then _ (refl, refl) (then _ (refl, refl)
      refl))))))))))))))))))),
  refl,
)

-- and so it is sound
is_sound : SoundRun (new_world made slots) events outcomes ran.0
is_sound = runs_sound made slots events outcomes ran.0 (omega arith) new ran.1
