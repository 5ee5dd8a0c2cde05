-- Decisions of a change, by what the slots of its range have together
use Rattle.slot_lock.proofs.Words.{◌≡◌, ℕ, true, false, Option, Some, None, refl, sym, subst, ap, ◌∙◌, PageInfo, PageRange, Prot}
use Rattle.slot_lock.proofs.Words.{ENOMEM, EACCES, HasPage, is_absent, is_read_only, File, Back, Anon, Shared, Private}
use Rattle.slot_lock.specs.declared.plan.Change.{Change}
use Rattle.slot_lock.specs.declared.plan.Change.TheVariants.{Put, Clear, Protect}
use Rattle.slot_lock.specs.declared.survey.Survey.{Survey}
use Rattle.slot_lock.specs.Plan.{range_of}
use Rattle.slot_lock.specs.Slots.{Slots}
use Rattle.slot_lock.specs.Surveys.{IsSurvey, is_gap, is_shared}
use Rattle.vm_calls.specs.declared.decision.Decision.TheVariants.{Act, Refuse}
use Rattle.vm_calls.specs.Decisions.{DecidesChange, entries, entry_of}
use Rattle.vm_calls.specs.Decisions.DecidesProtect.{no_page, no_write, acts}

gap_absent : (o : Option PageInfo) → is_absent (entry_of o) ≡ is_gap o
gap_absent None = refl
gap_absent (Some info) = refl

-- only a shared page can be one of a file that isn't open for writing
read_only_shared : (files : ℕ → Option File) (o : Option PageInfo) → is_read_only files (entry_of o) ≡ true → is_shared o ≡ true
read_only_shared files None h = absurd cc
read_only_shared files (Some info) h = go info.meta.back refl
  where
    go : (b : Back) → info.meta.back ≡ b → is_shared (Some info) ≡ true
    go Anon e = let not' : false ≡ true = sym (ap (λ x. is_read_only files (Some (record { back = x; prot = info.meta.prot; own = None }))) e) ∙ h in absurd cc
    go (Shared file page) e = rw e refl
    go (Private file page) e =
        let not' : false ≡ true = sym (ap (λ x. is_read_only files (Some (record { back = x; prot = info.meta.prot; own = None }))) e) ∙ h in absurd cc

module _ (files : ℕ → Option File) (s : Slots) (range : PageRange) (found : Survey) (h : IsSurvey s range found) where
  pub has_absent : found.gap ≡ true → HasPage is_absent (entries s) range
  has_absent e = let w = h.gap.0 e in (w.0, w.1, gap_absent (s.info w.0) ∙ w.2)

  pub none_absent : found.gap ≡ false → ¬ HasPage is_absent (entries s) range
  none_absent e (p, inside, absent) =
      let wrong : false ≡ true = sym e ∙ h.gap.1 (p, inside, sym (gap_absent (s.info p)) ∙ absent) in absurd cc

  pub none_read_only : found.shared ≡ false → ¬ HasPage (is_read_only files) (entries s) range
  none_read_only e (p, inside, bad) =
      let wrong : false ≡ true = sym e ∙ h.shared.1 (p, inside, read_only_shared files (s.info p) bad) in absurd cc

pub protected_range : (s : Slots) (change : Change) (range : PageRange) (prot : Prot) (found : Survey) → change ≡ Protect range prot
    → IsSurvey s (range_of change) found → IsSurvey s range found
protected_range s change range prot found same h = subst (λ x. IsSurvey s (range_of x) found) same h

-- another protection may be refused
abbrev pub MayChange : (ℕ → Option File) → Slots → Change → Type 0
MayChange files s (Put range meta) = Unit {0}
MayChange files s (Clear range) = Unit {0}
MayChange files s (Protect range prot) =
    (¬ HasPage is_absent (entries s) range) × (prot.write ≡ true → ¬ HasPage (is_read_only files) (entries s) range)

pub surveyed_made : (files : ℕ → Option File) (s : Slots) (change : Change) (found : Survey) → IsSurvey s (range_of change) found
    → MayChange files s change → DecidesChange files s change (Act (range_of change) found.cores)
surveyed_made files s (Put range meta) found h may = (refl, h.cores)
surveyed_made files s (Clear range) found h may = (refl, h.cores)
surveyed_made files s (Protect range prot) found h may = acts may.0 may.1 (refl, h.cores)

pub surveyed_absent : (files : ℕ → Option File) (s : Slots) (change : Change) (range : PageRange) (prot : Prot) (found : Survey)
    → change ≡ Protect range prot → IsSurvey s (range_of change) found → found.gap ≡ true → DecidesChange files s change (Refuse ENOMEM)
surveyed_absent files s change range prot found same h e =
    subst (λ x. DecidesChange files s x (Refuse ENOMEM)) (sym same)
    (no_page (has_absent files s range found (subst (λ x. IsSurvey s (range_of x) found) same h) e) refl)

pub surveyed_read_only : (files : ℕ → Option File) (s : Slots) (change : Change) (range : PageRange) (prot : Prot) (found : Survey)
    → change ≡ Protect range prot → IsSurvey s (range_of change) found → found.gap ≡ false → prot.write ≡ true
    → HasPage (is_read_only files) (entries s) range → DecidesChange files s change (Refuse EACCES)
surveyed_read_only files s change range prot found same h e write bad =
    subst (λ x. DecidesChange files s x (Refuse EACCES)) (sym same)
    (no_write (none_absent files s range found (subst (λ x. IsSurvey s (range_of x) found) same h) e) write bad refl)

pub may_protect : (files : ℕ → Option File) (s : Slots) (change : Change) (range : PageRange) (prot : Prot) (found : Survey)
    → change ≡ Protect range prot → IsSurvey s (range_of change) found → found.gap ≡ false
    → (prot.write ≡ true → ¬ HasPage (is_read_only files) (entries s) range) → MayChange files s change
may_protect files s change range prot found same h e may_write =
    subst (MayChange files s) (sym same)
    (none_absent files s range found (subst (λ x. IsSurvey s (range_of x) found) same h) e, may_write)

pub may_change : (files : ℕ → Option File) (s : Slots) (change : Change) → ((range : PageRange) (prot : Prot) → change ≡ Protect range prot → ⊥)
    → MayChange files s change
may_change files s (Put range meta) other = tt
may_change files s (Clear range) other = tt
may_change files s (Protect range prot) other = absurd (other range prot refl)
