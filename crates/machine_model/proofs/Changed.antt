-- What a change makes of the slots
use Rattle.machine_model.proofs.Words.{◌≡◌, ℕ, true, false, refl, ap, Some, None, Option, Meta, PageInfo, PageRange, Prot, has, advance, unused}
use Rattle.machine_model.proofs.Words.{info_with_prot, over_all, Change, Put, Clear, Protect, range_of, Slots, slots_after}
use Rattle.std.specs.Prelude.{◌-◌, cond}
use Rattle.vm_base.proofs.Functions.{across_all}

-- owners and edges stay
pub changed_owner : (s : Slots) (change : Change) → (slots_after change s).owner ≡ s.owner
changed_owner s (Put range meta) = refl
changed_owner s _ = refl

pub changed_edge : (s : Slots) (change : Change) → (slots_after change s).edge ≡ s.edge
changed_edge s (Put range meta) = refl
changed_edge s _ = refl

pub same_outside : (s : Slots) (change : Change) (p : ℕ) → has (range_of change) p ≡ false → (slots_after change s).info p ≡ s.info p
same_outside s (Put range meta) p e = ap (λ b. cond b (Some (unused (advance meta (p - range.first)))) (s.info p)) e
same_outside s (Clear range) p e = ap (λ b. cond b None (s.info p)) e
same_outside s (Protect range prot) p e = ap (λ b. cond b (info_with_prot prot (s.info p)) (s.info p)) e

-- of each page, something that follows from what it had
pub changed_all : (P : ℕ → Option PageInfo → Type 0) (s : Slots) (change : Change)
    → ((range : PageRange) (meta : Meta) (p : ℕ) → change ≡ Put range meta → has range p ≡ true → P p (Some (unused (advance meta (p - range.first)))))
    → ((p : ℕ) → P p None)
    → ((prot : Prot) (p : ℕ) → P p (s.info p) → P p (info_with_prot prot (s.info p)))
    → ((p : ℕ) → P p (s.info p)) → (p : ℕ) → P p ((slots_after change s).info p)
changed_all P s (Put range meta) new gone prot old p =
    across_all P s.info (has range) (λ p. Some (unused (advance meta (p - range.first)))) (λ p i. new range meta p refl i) (λ p i. old p) p
changed_all P s (Clear range) new gone prot old p = over_all P s.info (has range) None (λ p i. gone p) (λ p i. old p) p
changed_all P s (Protect range x) new gone prot old p =
    across_all P s.info (has range) (λ p. info_with_prot x (s.info p)) (λ p i. prot x p (old p)) (λ p i. old p) p
