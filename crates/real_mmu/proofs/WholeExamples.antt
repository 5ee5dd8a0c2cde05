-- A whole run: core 0 maps a page, core 1 stores in it over the library, its hardware takes the entry in, stores a byte and loads it.
use Rattle.real_mmu.proofs.Words.{Event, Outcome}
use Rattle.machine_model.proofs.Words.{◌≡◌, ℕ, ◌++◌, subst, put, refl, arith, false, true, Some, List, [], ◌∷◌, Done, Byte}
use Rattle.machine_model.proofs.Words.{World, new_world, Run, Bytes, Plain, nothing_mapped, Translation}
use Rattle.vm_base.specs.declared.rights.Access.TheVariants as By
use Rattle.machine_model.specs.Accesses.{bytes_after}
use Rattle.slot_lock.specs.declared.plan.Touch.{Touch}
use Rattle.machine_model.proofs.Run.{made, slots, new, events, outcomes, ran}
use Rattle.real_mmu.specs.Whole.{Whole, library, takes_in, uses, Happens, Moment, Runs, Follows, opening}
use Rattle.real_mmu.proofs.Steps.{Led, step_led}
use Rattle.real_mmu.proofs.Whole.{IsPlainly, happens_plainly, opens_plainly, whole_runs_plain}

-- ---- every run of the library is one of both, with bytes as it tells, where hardware holds nothing

abbrev bare : World → (ℕ → Bytes) → Whole
bare w bytes = record { inside = w; bytes = bytes; held = λ c. [] }

beside : (w v : World) (es : List Event) (os : List Outcome) (bytes : ℕ → Bytes) (t : Plain) → IsPlainly (bare w bytes) t → Run w es os v
    → (ms : List Moment) × (n : ℕ → Bytes) × ((rest : List Moment) → Runs (bare v n) rest → Runs (bare w bytes) (ms ++ rest))
beside w v [] [] bytes t k r = ([], bytes, λ rest on. subst (λ x. Runs (bare x bytes) rest) r on)
beside w v (e ∷ es) (o ∷ os) bytes t k r =
    let l : Led w r.0 bytes t = step_led w r.0 e o k.well r.1 bytes t k.shown in
    let h : Happens (bare w bytes) (library e o) (bare r.0 l.after) = (r.1, l.told.told, λ c i x at. absurd cc) in
    let m : Moment = record { what = library e o; after = bare r.0 l.after } in
    let on = happens_plainly (bare w bytes) (library e o) (bare r.0 l.after) t k h in
    let z = beside r.0 v es os l.after on.plain on.after r.2 in
    (m ∷ z.0, z.1, λ rest more. (h, z.2 rest more))
beside w v _ _ bytes t k r = absurd r

-- ---- the hardware's part

abbrev pub entry : Translation
entry = record { frame = 0; write = true; exec = false }

abbrev stored : Touch
stored = record { page = 16; offset = 4; access = By.Store; byte = 99 }

abbrev pub loaded : Touch
loaded = record { page = 16; offset = 4; access = By.Load; byte = 0 }

abbrev holding : Whole → Whole
holding w = record w { held = put w.held 1 (w.held 1 ++ record { page = 16; translation = entry } ∷ []) }

abbrev storing : Whole → Whole
storing w = record w { bytes = bytes_after By.Store 0 4 99 w.bytes }

abbrev by_hardware : Whole → List Moment
by_hardware w =
    record { what = takes_in 1 16; after = holding w }
    ∷ record { what = uses 1 stored Done; after = storing (holding w) }
    ∷ record { what = uses 1 loaded (Byte 99); after = storing (holding w) } ∷ []

pub its_entry : ran.0.hardware.table 1 16 ≡ Some entry
unfolding ran
its_entry = refl

happen : (bytes : ℕ → Bytes) → Runs (bare ran.0 bytes) (by_hardware (bare ran.0 bytes))
happen bytes = (
  (entry, its_entry, refl),
  (
    (0, entry, refl, refl, refl, refl),
    ((0, entry, refl, refl, refl, refl), tt),
  ),
)

-- there is such a run, whatever bytes frames have at first, and the plain page map answers as hardware did
there_is : (bytes : ℕ → Bytes) → (before : List Moment) × (w : Whole) × Runs (opening made slots bytes) (before ++ by_hardware w)
    × Follows (opening made slots bytes) (nothing_mapped made.file) (before ++ by_hardware w)
there_is bytes =
    let z = beside (new_world made slots) ran.0 events outcomes bytes (nothing_mapped made.file) (opens_plainly made slots bytes (omega arith) new) ran.1 in
    let w : Whole = bare ran.0 z.1 in
    let runs = z.2 (by_hardware w) (happen z.1) in
    (z.0, w, runs, whole_runs_plain made slots bytes (z.0 ++ by_hardware w) (omega arith) new runs)
