-- Unmapped pages of a range
use Rattle.slot_lock.proofs.Words.{◌≡◌, ℕ, ◌⊎◌, inl, inr, true, false, not, Option, Some, None, is_some, refl, ◌∙◌, ap, PageRange, PageInfo, has, HasPage}
use Rattle.slot_lock.proofs.Words.{is_absent}
use Rattle.slot_lock.specs.Slots.{Slots, AllMapped}
use Rattle.vm_calls.specs.Decisions.{entries, entry_of}
use Rattle.vm_calls.proofs.Seeking.{seek}

shown-alike : (o : Option PageInfo) → is_some (entry_of o) ≡ is_some o
shown-alike None = refl
shown-alike (Some info) = refl

pub absent-page : (s : Slots) (range : PageRange) → ¬ AllMapped s range → HasPage is_absent (entries s) range
absent-page s range h = by (seek is_absent (entries s) range)
  where
    is-mapped : (o : Option PageInfo) → not (is_some (entry_of o)) ≡ false → is_some o ≡ true
    is-mapped None e = absurd cc
    is-mapped (Some info) e = refl

    by : HasPage is_absent (entries s) range ⊎ ((p : ℕ) → has range p ≡ true → is_absent (entries s p) ≡ false) → HasPage is_absent (entries s) range
    by (inl found) = found
    by (inr none) = absurd (h (λ p in'. is-mapped (s.info p) (none p in')))

pub no-absent : (s : Slots) (range : PageRange) → AllMapped s range → ¬ HasPage is_absent (entries s) range
no-absent s range all h =
    let mapped : is_some (entry_of (s.info h.0)) ≡ true = shown-alike (s.info h.0) ∙ all h.0 h.1 in
    let absent : not (is_some (entry_of (s.info h.0))) ≡ true = h.2 in
    let not' : not (is_some (entry_of (s.info h.0))) ≡ false = ap not mapped in
    absurd cc
