-- The worked run with a handler: core 1 flushes what it owes, installs the word and walks, stores 99 and loads it while memory hasn't seen it,
-- its TLB evicts the entry, and memory sees the store.
use Rattle.real_mmu.proofs.Words.{Event, Outcome}
use Rattle.machine_model.proofs.Words.{ℕ, ◌++◌, refl, subst, put, arith, None, Some, List, [], ◌∷◌, Byte, PageRange, World, new_world, Run, Bytes, Plain}
use Rattle.machine_model.proofs.Words.{nothing_mapped}
use Rattle.vm_base.specs.declared.rights.Access.TheVariants as By
use Rattle.machine_model.specs.Accesses.{bytes_after}
use Rattle.real_mmu.specs.Waiting.{Waiting}
use Rattle.real_mmu.specs.Driven.{Driven, library, installs, settles, walks, loses, reads, stores, drains, Does, Stage, Drives, Shown, owed_after, opening}
use Rattle.real_mmu.proofs.Steps.{Led, step_led}
use Rattle.real_mmu.proofs.Driven.{IsDriven, does_plainly, opens_driven, driven_runs_plain}
use Rattle.machine_model.proofs.Run.{made, slots, new, events, outcomes, ran}
use Rattle.real_mmu.proofs.WholeExamples.{entry, its_entry, loaded}

-- the library beside cores that do nothing
abbrev bare : World → (ℕ → Bytes) → (ℕ → List PageRange) → Driven
bare w bytes owed = record { inside = w; bytes = bytes; words = λ c p. None; tlb = λ c. []; owed = owed; waiting = λ c. [] }

beside : (w v : World) (es : List Event) (os : List Outcome) (bytes : ℕ → Bytes) (owed : ℕ → List PageRange) (t : Plain) → IsDriven (bare w bytes owed) t
    → Run w es os v → (ms : List Stage) × (n : ℕ → Bytes) × (owes : ℕ → List PageRange)
    × ((rest : List Stage) → Drives (bare v n owes) rest → Drives (bare w bytes owed) (ms ++ rest))
beside w v [] [] bytes owed t k r = ([], bytes, owed, λ rest on. subst (λ x. Drives (bare x bytes owed) rest) r on)
beside w v (e ∷ es) (o ∷ os) bytes owed t k r =
    let l : Led w r.0 bytes t = step_led w r.0 e o k.well r.1 bytes t k.shown in
    let now : Driven = bare r.0 l.after (owed_after w e owed) in
    let h : Does (bare w bytes owed) (library e o) now = (r.1, l.told.told, λ c p a. (refl, λ i x at. absurd cc), λ c i s at. absurd cc, refl) in
    let m : Stage = record { what = library e o; after = now } in
    let on = does_plainly (bare w bytes owed) (library e o) now t k h in
    let z = beside r.0 v es os l.after (owed_after w e owed) on.plain on.after r.2 in
    (m ∷ z.0, z.1, z.2, λ rest more. (h, z.3 rest more))
beside w v _ _ bytes owed t k r = absurd r

abbrev stored : Waiting
stored = record { page = 16; offset = 4; byte = 99; by = entry }

abbrev settled : Driven → Driven
settled w = record w { owed = put w.owed 1 [] }

abbrev installed : Driven → Driven
installed w = record w { words = put w.words 1 (put (w.words 1) 16 (Some entry)) }

abbrev walked : Driven → Driven
walked w = record w { tlb = put w.tlb 1 (w.tlb 1 ++ record { page = 16; translation = entry } ∷ []) }

abbrev storing : Driven → Driven
storing w = record w { waiting = put w.waiting 1 (w.waiting 1 ++ stored ∷ []) }

abbrev evicted : Driven → Driven
evicted w = record w { tlb = put w.tlb 1 [] }

abbrev seen : Driven → Driven
seen w = record w { bytes = bytes_after By.Store 0 4 99 w.bytes; waiting = put w.waiting 1 [] }

abbrev by_core_1 : Driven → List Stage
by_core_1 w =
    record { what = settles 1; after = settled w }
    ∷ record { what = installs 1 16; after = installed (settled w) }
    ∷ record { what = walks 1 16; after = walked (installed (settled w)) }
    ∷ record { what = stores 1 stored; after = storing (walked (installed (settled w))) }
    ∷ record { what = reads 1 loaded (Byte 99); after = storing (walked (installed (settled w))) }
    ∷ record { what = loses 1 []; after = evicted (storing (walked (installed (settled w)))) }
    ∷ record { what = drains 1 stored; after = seen (evicted (storing (walked (installed (settled w))))) } ∷ []

happen : (bytes : ℕ → Bytes) (owed : ℕ → List PageRange) → Drives (bare ran.0 bytes owed) (by_core_1 (bare ran.0 bytes owed))
happen bytes owed = (
  (λ p i. (refl, λ i x at. absurd cc), refl),
  (
    (entry, its_entry, refl),
    (
      (entry, refl, refl),
      (
        (((0, refl), refl), refl, refl),
        (
          (entry, ((0, refl), refl), refl, λ e. cc, refl, refl),
          (
            (λ i x at. absurd cc, refl),
            (([], [], refl, refl), tt),
          ),
        ),
      ),
    ),
  ),
)

there_is : (bytes : ℕ → Bytes) → (before : List Stage) × (w : Driven) × Drives (opening made slots bytes) (before ++ by_core_1 w)
    × Shown (opening made slots bytes) (nothing_mapped made.file) (before ++ by_core_1 w)
there_is bytes =
    let z = beside (new_world made slots) ran.0 events outcomes bytes (λ c. []) (nothing_mapped made.file)
    (opens_driven made slots bytes (omega arith) new) ran.1 in
    let w : Driven = bare ran.0 z.1 z.2 in
    let runs = z.3 (by_core_1 w) (happen z.1 z.2) in
    (z.0, w, runs, driven_runs_plain made slots bytes (z.0 ++ by_core_1 w) (omega arith) new runs)
