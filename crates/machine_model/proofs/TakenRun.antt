-- A worked run in which a mapping's hint is taken by another core after its check: it looks elsewhere, and goes to a run of its window.
use Rattle.machine_model.proofs.Words.{◌≡◌, ℕ, Bool, true, false, arith, inl, refl, ap, None, Some, cond, List, [], ◌∷◌, Mapped, Mmap, has, pages_of}
use Rattle.machine_model.proofs.Words.{pages_from, has_in, Locked, between, Act, Again, free, taken, Event, Call, Go, Outcome, Stepped, Answered, World}
use Rattle.machine_model.proofs.Words.{new_world, Run}
use Rattle.slot_lock.specs.declared.slot_map.Fit.TheVariants as fit
use Rattle.machine_model.specs.Counting.{CountsDown}
use Rattle.machine_model.specs.declared.event.Event.TheVariants.{Guess}
use Rattle.vm_base.specs.declared.log.Entry.TheVariants.{Answer}
use Rattle.machine_model.specs.Sound.{SoundRun}
use Rattle.machine_model.proofs.SoundExamples.{read_write, anonymous}
use Rattle.machine_model.proofs.SoundKept.{runs_sound}
use Rattle.machine_model.proofs.Run.{made, slots, new, locks_page, unlocks_page, nobody, quiet, then}

-- the first page of core 0's window
abbrev page : ℕ
page = 134217728

-- it isn't page 16
not_16 : (p : ℕ) → has (between page 134217729) p ≡ true → has (between 16 17) p ≡ false
not_16 p h = go (has (between 16 17) p) refl
  where
    go : (b : Bool) → has (between 16 17) p ≡ b → b ≡ false
    go false e = refl
    go true e =
        let low = (has_in (between page 134217729) p h).0 in
        let high = (has_in (between 16 17) p e).1 in
        absurd (omega (arith, low, high))

abbrev events : List Event
events =
    Call 0 (Mmap 65536 4096 read_write (anonymous false) 0 0) ∷ Go 0
    ∷ Call 1 (Mmap 65536 4096 read_write (anonymous true) 0 0) ∷ Go 1 ∷ Go 1 ∷ Go 1 ∷ Go 1 ∷ Go 1 ∷ Go 1
    ∷ Go 0 ∷ Go 0 ∷ Go 0
    ∷ Guess 0 page ∷ Go 0 ∷ Go 0 ∷ Go 0 ∷ Go 0 ∷ Go 0 ∷ Go 0 ∷ []

abbrev outcomes : List Outcome
outcomes =
    Stepped ∷ Stepped
    ∷ Stepped ∷ Stepped ∷ Stepped ∷ Stepped ∷ Stepped ∷ Stepped ∷ Stepped
    ∷ Stepped ∷ Stepped ∷ Stepped
    ∷ Stepped ∷ Stepped ∷ Stepped ∷ Stepped ∷ Stepped ∷ Stepped ∷ Answered (Mapped 549755813888) ∷ []

ran : (w : World) × Run (new_world made slots) events outcomes w
    × (w.calls.log ≡ Answer 8 2 1 (Mapped 65536) ∷ Answer 17 1 0 (Mapped 549755813888) ∷ [])
unfolding CountsDown
ran = (
  _,
  then _ (refl, refl) (then _ (refl, refl)
      -- core 1 maps the hint's page before core 0 has locked it
      (then _ (refl, refl) (then _ (refl, refl)
      (then _ (Locked 17, (_, locks_page slots 1 16 refl (λ p h. refl), (refl, refl)))
      (then _ (Act (between 16 17) 0, (refl, λ core. (λ m. absurd (nobody core m), λ u. absurd (let z = u.2 in cc))), (refl, refl)) (then _ (refl, refl)
      (then _ (inl (quiet 1 1 (pages_of 65536 4096), (_, (_, refl, refl), (refl, refl))))
      (then _ (17, (_, unlocks_page _ 1 16 refl (λ p h. ap (λ b. cond b (Some 1) None) h), (refl, refl)))
      -- core 0 finds it mapped, and lets it go
      (then _ (Locked 17, (_, locks_page _ 0 16 refl (λ p h. ap (λ b. cond b None (cond b (Some 1) None)) h), (refl, refl)))
      (then _ (Again, taken (16, refl, refl) refl, (refl, refl))
      (then _ (17, (_, unlocks_page _ 0 16 refl (λ p h. ap (λ b. cond b (Some 0) (cond b None (cond b (Some 1) None))) h), (refl, refl)))
      -- it goes to the first page of its window
      (then _ (refl, refl)
      (then _ (
        Locked 134217729,
        (
          _,
          locks_page _ 0 page refl
              (λ p h. ap (λ b. cond b None (cond b (Some 0) (cond b None (cond b (Some 1) None)))) (not_16 p h)),
          (refl, refl),
        ),
      )
      (then _ (Act (pages_from page 1) 0, free (λ p h. rw (not_16 p h) refl) refl, (refl, refl))
      (then _ (fit.Fits, (_, (record { begins = refl; ends = refl }, refl), (refl, refl)))
      (then _ (inl (quiet 1 0 (pages_of 65536 4096), (_, (_, refl, refl), (refl, refl))))
      (then _ (134217729, (_, unlocks_page _ 0 page refl (λ p h. rw h refl), (refl, refl)))
      (then _ (refl, refl)
      refl)))))))))))))))))),
  refl,
)

-- and so it is sound
is_sound : SoundRun (new_world made slots) events outcomes ran.0
is_sound = runs_sound made slots events outcomes ran.0 (omega arith) new ran.1
