-- Steps from slot to slot, with one page of each looked at
use Rattle.slot_lock.proofs.Words.{◌≡◌, ℕ, zero, suc, ◌+◌, ◌-◌, ◌<◌, ◌≤◌, ◌⊎◌, inl, inr, true, false, Option, Some, None, refl, ◌∙◌, ap, arith, cases_lt}
use Rattle.slot_lock.proofs.Words.{PageRange, Back, Anon, Shared, Private, PageInfo, has, info_from, advance_back, File, is_read_only, HasPage, has_in}
use Rattle.slot_lock.proofs.Words.{in_has}
use Rattle.vm_base.specs.Apply.{is_read_only_back}
use Rattle.slot_lock.specs.Slots.{Slots, IsSlot}
use Rattle.vm_calls.specs.Decisions.{IsReadable, entries, entry_of}

-- no page of the range below this one is a shared page of a file that isn't open for writing
pub record Passed (files : ℕ → Option File) (s : Slots) (range : PageRange) (page : ℕ) : Type 0 where
  pub from : range.first ≤ page
  pub none : (p : ℕ) → range.first ≤ p → p < page → p < range.end → is_read_only files (entries s p) ≡ false

same-back : (files : ℕ → Option File) (back : Back) (n : ℕ) → is_read_only_back files (advance_back back n) ≡ is_read_only_back files back
same-back files Anon n = refl
same-back files (Shared file page) n = refl
same-back files (Private file page) n = refl

-- the mapping of a later page of the slot is of the same file
same-file : (files : ℕ → Option File) (o : Option PageInfo) (n : ℕ) → is_read_only files (entry_of (info_from o n)) ≡ is_read_only files (entry_of o)
same-file files None n = refl
same-file files (Some info) n = same-back files info.meta.back n

within-slot : (reads : ℕ → Type 0) (files : ℕ → Option File) (s : Slots) (range : PageRange) → IsReadable reads s range
    → (first end page : ℕ) → IsSlot s first end → first ≤ page → range.first ≤ page
    → (k : ℕ) → page + k < end → page + k < range.end → is_read_only files (entries s (page + k)) ≡ is_read_only files (entries s page)
within-slot reads files s range ok first end page slot low from zero h r = ap (λ (n : ℕ). is_read_only files (entries s n)) (omega arith)
within-slot reads files s range ok first end page slot low from (suc k) h r =
    let at : page + suc k ≡ page + k + 1 = omega arith in
    let inside : s.edge (page + k + 1) ≡ false = slot.inside (page + k + 1) (omega arith) (omega arith) in
    let next : s.info (page + k + 1) ≡ info_from (s.info (page + k)) 1 = ok.goes_on (page + k)
    (in_has range (page + k) (omega arith) (omega arith)) (in_has range (page + k + 1) (omega arith) (omega arith)) inside in
    ap (λ (n : ℕ). is_read_only files (entries s n)) at
    ∙ (ap (λ (o : Option PageInfo). is_read_only files (entry_of o)) next
    ∙ (same-file files (s.info (page + k)) 1
    ∙ within-slot reads files s range ok first end page slot low from k (omega arith) (omega arith)))

-- the slot of the page is passed by one look at the page
pub passed-slot : (reads : ℕ → Type 0) (files : ℕ → Option File) (s : Slots) (range : PageRange) → IsReadable reads s range
    → (slot : PageRange) (page : ℕ) → IsSlot s slot.first slot.end → has slot page ≡ true
    → is_read_only files (entries s page) ≡ false → Passed files s range page → Passed files s range slot.end
passed-slot reads files s range ok slot page is here not before =
    let z : (slot.first ≤ page) × (page < slot.end) = has_in slot page here in
    record {
      from = omega (arith, before.from, z.1);
      none = λ p a b r. by p a b r (cases_lt p page);
    }
  where
    by : (p : ℕ) → range.first ≤ p → p < slot.end → p < range.end → (p < page) ⊎ (page ≤ p) → is_read_only files (entries s p) ≡ false
    by p a b r (inl lt) = before.none p a lt r
    by p a b r (inr le) =
        let z : (slot.first ≤ page) × (page < slot.end) = has_in slot page here in
        let at : page + (p - page) ≡ p = omega arith in
        rw at at (within-slot reads files s range ok slot.first slot.end page is z.0 before.from (p - page) (omega arith) (omega arith)) ∙ not

pub nothing-passed : (files : ℕ → Option File) (s : Slots) (range : PageRange) → Passed files s range range.first
nothing-passed files s range = record { from = omega arith; none = λ p a b r. absurd (omega arith) }

-- past the range no page is such a one
pub all-passed : (files : ℕ → Option File) (s : Slots) (range : PageRange) (page : ℕ) → Passed files s range page → range.end ≤ page
    → ¬ HasPage (is_read_only files) (entries s) range
all-passed files s range page passed past h =
    let z : (range.first ≤ h.0) × (h.0 < range.end) = has_in range h.0 h.1 in
    let no' : is_read_only files (entries s h.0) ≡ false = passed.none h.0 z.0 (omega (arith, z.1)) z.1 in
    absurd cc
