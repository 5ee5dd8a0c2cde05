-- A worked run of a mapping whose place is left open, by computation: its hint's page is locked and free, and so it goes there.
use Rattle.machine_model.proofs.Words.{◌≡◌, arith, inl, refl, ap, false, None, Some, cond, List, [], ◌∷◌, Mapped, Mmap, Locked, between, Act, free, Event}
use Rattle.machine_model.proofs.Words.{Call, Go, Outcome, Stepped, Answered, World, new_world, Run}
use Rattle.slot_lock.specs.declared.slot_map.Fit.TheVariants as fit
use Rattle.machine_model.specs.Counting.{CountsDown}
use Rattle.vm_base.specs.declared.log.Entry.TheVariants.{Answer}
use Rattle.machine_model.specs.Sound.{SoundRun}
use Rattle.machine_model.proofs.SoundExamples.{read_write, anonymous}
use Rattle.machine_model.proofs.SoundKept.{runs_sound}
use Rattle.machine_model.proofs.Run.{made, slots, new, locks_page, unlocks_page, then}

abbrev events : List Event
events = Call 0 (Mmap 65536 4096 read_write (anonymous false) 0 0) ∷ Go 0 ∷ Go 0 ∷ Go 0 ∷ Go 0 ∷ Go 0 ∷ Go 0 ∷ Go 0 ∷ []

abbrev outcomes : List Outcome
outcomes = Stepped ∷ Stepped ∷ Stepped ∷ Stepped ∷ Stepped ∷ Stepped ∷ Stepped ∷ Answered (Mapped 65536) ∷ []

ran : (w : World) × Run (new_world made slots) events outcomes w × (w.calls.log ≡ Answer 6 1 0 (Mapped 65536) ∷ [])
unfolding CountsDown
ran = (
  _,
  then _ (refl, refl) (then _ (refl, refl)
      -- the hint's page is locked, and isn't mapped
      (then _ (Locked 17, (_, locks_page slots 0 16 refl (λ p h. refl), (refl, refl)))
      (then _ (Act (between 16 17) 0, free (λ p h. refl) refl, (refl, refl))
      -- no slot crosses its edges, and nobody is awaited
      (then _ (fit.Fits, (_, (record { begins = refl; ends = refl }, refl), (refl, refl)))
      (then _ (inl (λ d. refl, (_, (_, refl, refl), (refl, refl))))
      (then _ (17, (_, unlocks_page _ 0 16 refl (λ p h. ap (λ b. cond b (Some 0) None) h), (refl, refl)))
      (then _ (refl, refl)
      refl))))))),
  refl,
)

-- and so it is sound
is_sound : SoundRun (new_world made slots) events outcomes ran.0
is_sound = runs_sound made slots events outcomes ran.0 (omega arith) new ran.1
