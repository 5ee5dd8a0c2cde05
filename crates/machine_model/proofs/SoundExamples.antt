-- Logs that are legal, and entries that aren't, by computation
use Rattle.machine_model.proofs.Words.{◌≡◌, ℕ, arith, Bool, true, false, refl, subst, Some, None, Option, List, [], ◌∷◌, EINVAL, ENOMEM, Mapped, Done, Byte}
use Rattle.machine_model.proofs.Words.{Refused, NoFrame, Flags, Request, Mmap, Munmap, Load, Store, Prot, Anon, range_at, Plain, nothing_mapped, Entry, Stands}
use Rattle.machine_model.proofs.Words.{Replays, IsPlace}
use Rattle.vm_base.specs.Apply.{Maps}
use Rattle.vm_base.specs.Places.IsPlace.{at_hint, in_window, nowhere}
use Rattle.vm_base.specs.declared.log.Entry.TheVariants.{Answer}

abbrev pub read_write : Prot
read_write = record { read = true; write = true; exec = false }

abbrev pub anonymous : Bool → Flags
anonymous fixed = record { private = true; shared = false; fixed = fixed; anon = true }

-- a page at 0x10000, a store to it, a load of it, and a mapping that names no place
abbrev requests : List Request
requests = Mmap 65536 4096 read_write (anonymous true) 0 0 ∷ Store 65540 41 ∷ Load 65540 ∷ Mmap 65536 4096 read_write (anonymous false) 0 0 ∷ []

abbrev nothing : Plain
nothing = nothing_mapped (λ n. None)

-- Entries stand in the order of their steps, which need not be that of their calls.
abbrev entries : List Entry
entries = Answer 7 4 1 (Mapped 65536) ∷ Answer 9 1 0 (Mapped 65536) ∷ Answer 18 2 0 Done ∷ Answer 22 3 0 (Byte 41) ∷ []

-- they are legal
legal : (t : Plain) × Replays requests nothing entries t
legal = (
  _,
  (
    _,
    -- its hint is free, and so it goes there
    (_, refl, (Some 16, at_hint (refl, λ p h. refl) refl, (refl, refl))),
    (
      _,
      (_, refl, (refl, refl)),
      (
        _,
        (_, refl, (refl, refl)),
        (
          _,
          (_, refl, (refl, refl)),
          refl,
        ),
      ),
    ),
  ),
)

-- the same mapping may as well be anywhere in its core's window
elsewhere : (t : Plain) × Stands IsPlace nothing 0 (Mmap 65536 4096 read_write (anonymous false) 0 0) (Mapped 549755813888) t
elsewhere = (_, (Some 134217728, in_window 134217728 (record { low = omega arith; high = omega arith }, λ p h. refl) refl, (refl, refl)))

-- but it isn't refused while there is room
no_refusal : (t : Plain) → Stands IsPlace nothing 0 (Mmap 65536 4096 read_write (anonymous false) 0 0) (Refused ENOMEM) t → ⊥
no_refusal t h = elim h.1 [
  | at_hint a e ↦ placed _ e
  | in_window s a e ↦ placed s e
  | nowhere a e ↦ a 134217728 (record { low = omega arith; high = omega arith }, λ p i. refl)
]
  where
    placed : (s : ℕ) → h.0 ≡ Some s → ⊥
    placed s e = let z = subst (λ (o : Option ℕ). Maps nothing (range_at o 1) Anon read_write (Refused ENOMEM) t) e h.2 in let same = z.0 in cc

-- after them no other byte is loaded
other_byte : (u : Plain) → Stands IsPlace legal.0 0 (Load 65540) (Byte 7) u → ⊥
unfolding legal
other_byte u h = let e : Some (Byte 41) ≡ Some (Byte 7) = h.0 in cc

-- a store that found no frame doesn't stand where nothing is mapped
no_frame : (u : Plain) → Stands IsPlace nothing 0 (Store 65540 41) NoFrame u → ⊥
no_frame u h = h.0

-- a length of 0 is refused, whatever is mapped
no_length : (t : Plain) → Stands IsPlace t 0 (Munmap 65536 0) (Refused EINVAL) t
no_length t = (refl, refl)
