-- Decisions of a change of one page, by what the page has
use Rattle.slot_lock.proofs.Words.{◌≡◌, ℕ, ◌+◌, Bool, true, false, not, is_some, Option, Some, None, refl, sym, subst, ap, ◌∙◌, arith, PageInfo, PageRange}
use Rattle.slot_lock.proofs.Words.{Prot, ENOMEM, EACCES, HasPage, is_absent, is_read_only, members, has, is_recorded, PageEntry, File, has_in, in_has}
use Rattle.slot_lock.specs.declared.plan.Change.{Change}
use Rattle.slot_lock.specs.declared.plan.Change.TheVariants.{Put, Clear, Protect}
use Rattle.slot_lock.specs.Plan.{range_of}
use Rattle.slot_lock.specs.Slots.{Slots}
use Rattle.vm_calls.specs.declared.decision.Decision.TheVariants.{Act, Refuse}
use Rattle.vm_calls.specs.Decisions.{DecidesChange, DecidesPage, entries, entry_of, ActsOn}
use Rattle.vm_calls.specs.Decisions.DecidesProtect.{no_page, no_write, acts}

-- the only page of the range
only : (range : PageRange) → range.end ≡ range.first + 1 → (p : ℕ) → has range p ≡ true → p ≡ range.first
only range one p h = let in' = has_in range p h in omega (arith, one, in')

-- some page of the range passes the test just where that page does
pub page_passes : (test : Option PageEntry → Bool) (s : Slots) (range : PageRange) (info : Option PageInfo) → range.end ≡ range.first + 1
    → s.info range.first ≡ info → test (entry_of info) ≡ true → HasPage test (entries s) range
page_passes test s range info one e h =
    (range.first, in_has range range.first (omega arith) (omega (arith, one)), ap (λ o. test (entry_of o)) e ∙ h)

pub no_page_passes : (test : Option PageEntry → Bool) (s : Slots) (range : PageRange) (info : Option PageInfo) → range.end ≡ range.first + 1
    → s.info range.first ≡ info → test (entry_of info) ≡ false → ¬ HasPage test (entries s) range
no_page_passes test s range info one e h (p, in', passes) =
    let at : p ≡ range.first = only range one p in' in
    let passed : test (entry_of info) ≡ true = ap (λ o. test (entry_of o)) (sym (ap s.info at ∙ e)) ∙ passes in
    absurd cc

-- the cores recorded on the page are those recorded on the range
pub acts_on_page : (s : Slots) (range : PageRange) (info : Option PageInfo) (shoot : ℕ) → range.end ≡ range.first + 1 → s.info range.first ≡ info
    → ((core : ℕ) → members shoot core ≡ is_recorded info core) → ActsOn s range (Act range shoot)
acts_on_page s range info shoot one e all = (
  refl,
  λ core. (
    λ m. (range.first, in_has range range.first (omega arith) (omega (arith, one)), ap (λ o. is_recorded o core) e ∙ (sym (all core) ∙ m)),
    λ u. all core ∙ (ap (λ o. is_recorded o core) (sym (ap s.info (only range one u.0 u.1) ∙ e)) ∙ u.2),
  ),
)

-- another protection may be refused
abbrev pub MayProtect : (ℕ → Option File) → Option PageInfo → Change → Type 0
MayProtect files info (Put range meta) = Unit {0}
MayProtect files info (Clear range) = Unit {0}
MayProtect files info (Protect range prot) =
    (is_absent (entry_of info) ≡ false) × (prot.write ≡ true → is_read_only files (entry_of info) ≡ false)

pub decides_made : (files : ℕ → Option File) (change : Change) (info : Option PageInfo) (shoot : ℕ) → (range_of change).end ≡ (range_of change).first + 1
    → ((core : ℕ) → members shoot core ≡ is_recorded info core) → MayProtect files info change → DecidesPage files change info (Act (range_of change) shoot)
decides_made files (Put range meta) info shoot one all may s e = acts_on_page s range info shoot one e all
decides_made files (Clear range) info shoot one all may s e = acts_on_page s range info shoot one e all
decides_made files (Protect range prot) info shoot one all may s e =
    acts (no_page_passes is_absent s range info one e may.0) (λ w. no_page_passes (is_read_only files) s range info one e (may.1 w))
    (acts_on_page s range info shoot one e all)

pub decides_absent : (files : ℕ → Option File) (change : Change) (range : PageRange) (prot : Prot) (info : Option PageInfo) → change ≡ Protect range prot
    → (range_of change).end ≡ (range_of change).first + 1 → is_absent (entry_of info) ≡ true → DecidesPage files change info (Refuse ENOMEM)
decides_absent files change range prot info same one h s e =
    subst (λ x. DecidesChange files s x (Refuse ENOMEM)) (sym same)
    (no_page (page_passes is_absent s range info (subst (λ x. (range_of x).end ≡ (range_of x).first + 1) same one)
    (subst (λ x. s.info (range_of x).first ≡ info) same e) h) refl)

pub decides_read_only : (files : ℕ → Option File) (change : Change) (range : PageRange) (prot : Prot) (info : Option PageInfo)
    → change ≡ Protect range prot → (range_of change).end ≡ (range_of change).first + 1 → is_absent (entry_of info) ≡ false → prot.write ≡ true
    → is_read_only files (entry_of info) ≡ true → DecidesPage files change info (Refuse EACCES)
decides_read_only files change range prot info same one some write h s e =
    let single = subst (λ x. (range_of x).end ≡ (range_of x).first + 1) same one in
    let at = subst (λ x. s.info (range_of x).first ≡ info) same e in
    subst (λ x. DecidesChange files s x (Refuse EACCES)) (sym same)
    (no_write (no_page_passes is_absent s range info single at some) write (page_passes (is_read_only files) s range info single at h) refl)

-- whether the page is mapped, as the code asks
pub absent_by : (info : Option PageInfo) (b : Bool) → is_some info ≡ not b → is_absent (entry_of info) ≡ b
absent_by None true h = refl
absent_by None false h = absurd cc
absent_by (Some info) true h = absurd cc
absent_by (Some info) false h = refl

pub may_change : (files : ℕ → Option File) (info : Option PageInfo) (change : Change) → ((range : PageRange) (prot : Prot) → change ≡ Protect range prot → ⊥)
    → MayProtect files info change
may_change files info (Put range meta) other = tt
may_change files info (Clear range) other = tt
may_change files info (Protect range prot) other = absurd (other range prot refl)

pub may_protect : (files : ℕ → Option File) (info : Option PageInfo) (change : Change) (range : PageRange) (prot : Prot) → change ≡ Protect range prot
    → is_absent (entry_of info) ≡ false → (prot.write ≡ true → is_read_only files (entry_of info) ≡ false) → MayProtect files info change
may_protect files info change range prot same some may_write = subst (MayProtect files info) (sym same) (some, may_write)
