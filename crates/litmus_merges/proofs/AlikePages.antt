-- Pages of a run are mapped alike
use Rattle.std.proofs.Common.{◌≡◌, ◌≢◌, ℕ, zero, suc, ◌+◌, ◌-◌, ◌<◌, ◌≤◌, ◌==◌, ◌⊎◌, inl, inr, Bool, true, false, cond, List, [], ◌∷◌, Option, Some}
use Rattle.std.proofs.Common.{None, ap, arith, length, refl, slice_get, subst, sym, ◌∙◌}
use Rattle.std.proofs.lemmas.Bool.Decides.{nat_tests}
use Rattle.frames.specs.Files.{FileParts, files_of}
use Rattle.vm_base.specs.declared.info.Back.{Back}
use Rattle.vm_base.specs.declared.info.Back.TheVariants.{Anon, Shared, Private}
use Rattle.vm_base.specs.declared.page.PageRange.{PageRange}
use Rattle.vm_base.specs.declared.rights.Prot.{Prot}
use Rattle.vm_base.specs.Apply.{is_absent, is_read_only, is_read_only_back, is_uncopied, new_entry, with_prot}
use Rattle.vm_base.specs.Functions.{has}
use Rattle.vm_base.specs.Info.{advance_back}
use Rattle.vm_base.specs.Plain.{Bytes, PageEntry, File, Plain, bytes_of, nothing_mapped}
use Rattle.slot_lock.specs.declared.plan.Change.{Change}
use Rattle.slot_lock.specs.declared.plan.Change.TheVariants.{Put, Clear, Protect}
use Rattle.slot_lock.specs.Plan.{range_of}
use Rattle.litmus_merges.specs.declared.change.MapChange.{MapChange}
use Rattle.litmus_merges.specs.declared.change.MapChange.TheVariants as StepOf
use Rattle.litmus_merges.specs.Runs.{AreOneRun, AreOneRunSoFar, IsOneRun}
use Rattle.litmus_merges.specs.Steps.{after, after_all, entry_with, map_of}
use Rattle.litmus_merges.proofs.Acted.{acted, after_made, copy_of, with_bytes}
use Rattle.litmus_merges.proofs.Lists.{below, get_one}
use Rattle.litmus_merges.proofs.Pages.{NoneBefore}

-- ---- the run of a step, and of some

pub split : (a b : ℕ) → (a < b) ⊎ (b ≤ a)
split zero zero = inr (omega arith)
split zero (suc b) = inl (omega arith)
split (suc a) zero = inr (omega arith)
split (suc a) (suc b) = more (split a b)
  where
    more : (a < b) ⊎ (b ≤ a) → (suc a < suc b) ⊎ (suc b ≤ suc a)
    more (inl l) = inl (omega (arith, l))
    more (inr l) = inr (omega (arith, l))

pub run_of : (r : PageRange) (page end : ℕ) → (page < r.first → end ≤ r.first) → (r.first ≤ page → page < r.end → end ≤ r.end)
    → (p : ℕ) → page ≤ p → p < end → has r p ≡ has r page
run_of r page end h k p low high = by (split page r.first) (split page r.end)
  where
    by : (page < r.first) ⊎ (r.first ≤ page) → (page < r.end) ⊎ (r.end ≤ page) → has r p ≡ has r page
    by (inl a) b = let e : end ≤ r.first = h a in grind (arith, nat_tests)
    by (inr a) (inl b) = let e : end ≤ r.end = k a b in grind (arith, nat_tests)
    by (inr a) (inr b) = grind (arith, nat_tests)

shorter : (s : MapChange) (page end last : ℕ) → last ≤ end → IsOneRun s page end → IsOneRun s page last
shorter (StepOf.Change c) page end last l h = λ p low high. h p low (omega (arith, l, high))
shorter (StepOf.Copy q) page end last l h = h
shorter (StepOf.Own q i b) page end last l h = h
shorter (StepOf.File m k i b) page end last l h = h

pub run_none : (steps : List MapChange) (page end : ℕ) → AreOneRunSoFar steps zero page end
run_none steps page end k step l e = absurd (omega (arith, l))

pub run_more : (steps : List MapChange) (at page end last : ℕ) (s : MapChange) → slice_get steps at ≡ Some s → last ≤ end → AreOneRunSoFar steps at page end
    → IsOneRun s page last → AreOneRunSoFar steps (at + 1) page last
run_more steps at page end last s is l h run k step lt e = by (below k at lt)
  where
    by : (k < at) ⊎ (k ≡ at) → IsOneRun step page last
    by (inl m) = shorter step page end last l (h k step m e)
    by (inr eq) = subst (λ (x : MapChange). IsOneRun x page last) (get_one steps at s step is (subst (λ (n : ℕ). slice_get steps n ≡ Some step) eq e)) run

pub run_all : (steps : List MapChange) (n page end : ℕ) → ((k : ℕ) (step : MapChange) → slice_get steps k ≡ Some step → k < n) → AreOneRunSoFar steps n page end
    → AreOneRun steps page end
run_all steps n page end within h k step e = h k step (within k step e) e

-- ---- kinds of pages

-- what backs a page, but for its place in the file
abbrev first_back : Back → Back
first_back Anon = Anon
first_back (Shared file k) = Shared file 0
first_back (Private file k) = Private file 0

abbrev pub kind : Option PageEntry → Option Back
kind None = None
kind (Some e) = Some (first_back e.back)

advanced : (b : Back) (n m : ℕ) → first_back (advance_back b n) ≡ first_back (advance_back b m)
advanced Anon n m = refl
advanced (Shared file k) n m = refl
advanced (Private file k) n m = refl

copied_kind : (f : ℕ → Option File) (o : Option PageEntry) → kind (copy_of f o) ≡ kind o
copied_kind f None = refl
copied_kind f (Some e) = go (is_uncopied e.back e.own) (bytes_of f e.back e.own)
  where
    go : (u : Bool) (b : Option Bytes) → kind (with_bytes e u b) ≡ Some (first_back e.back)
    go true (Some b) = refl
    go true None = refl
    go false b = refl

owned_kind : (o : Option PageEntry) (i b : ℕ) → kind (entry_with o i b) ≡ kind o
owned_kind None i b = refl
owned_kind (Some e) i b = refl

prot_kind : (prot : Prot) (o : Option PageEntry) → kind (with_prot prot o) ≡ kind o
prot_kind prot None = refl
prot_kind prot (Some e) = refl

cond_kind : (b : Bool) (x o : Option PageEntry) → kind x ≡ kind o → kind (cond b x o) ≡ kind o
cond_kind true x o e = e
cond_kind false x o e = refl

both_kind : (b c : Bool) (x y v w : Option PageEntry) → b ≡ c → kind v ≡ kind w → kind x ≡ kind y → kind (cond b v x) ≡ kind (cond c w y)
both_kind true true x y v w s e f = e
both_kind true false x y v w s e f = absurd cc
both_kind false true x y v w s e f = absurd cc
both_kind false false x y v w s e f = f

acted_kind : (s : MapChange) (f : ℕ → Option File) (page end p : ℕ) (x y : Option PageEntry) → IsOneRun s page end → page ≤ p → p < end → kind x ≡ kind y
    → kind (acted s f p x) ≡ kind (acted s f page y)
acted_kind (StepOf.Change (Put r m)) f page end p x y run low high e =
    both_kind (has r p) (has r page) x y (Some (new_entry (advance_back m.back (p - r.first)) m.prot)) (Some (new_entry (advance_back m.back (page - r.first)) m.prot))
    (run p low high) (ap Some (advanced m.back (p - r.first) (page - r.first))) e
acted_kind (StepOf.Change (Clear r)) f page end p x y run low high e = both_kind (has r p) (has r page) x y None None (run p low high) refl e
acted_kind (StepOf.Change (Protect r prot)) f page end p x y run low high e =
    both_kind (has r p) (has r page) x y (with_prot prot x) (with_prot prot y) (run p low high) (prot_kind prot x ∙ (e ∙ sym (prot_kind prot y))) e
acted_kind (StepOf.Copy q) f page end p x y run low high e =
    cond_kind (p == q) (copy_of f x) x (copied_kind f x) ∙ (e ∙ sym (cond_kind (page == q) (copy_of f y) y (copied_kind f y)))
acted_kind (StepOf.Own q i b) f page end p x y run low high e =
    cond_kind (p == q) (entry_with x i b) x (owned_kind x i b) ∙ (e ∙ sym (cond_kind (page == q) (entry_with y i b) y (owned_kind y i b)))
acted_kind (StepOf.File m k i b) f page end p x y run low high e = e

all_kind : (t : Plain) (steps : List MapChange) (page end p : ℕ) → AreOneRun steps page end → page ≤ p → p < end → kind (t.entry p) ≡ kind (t.entry page)
    → kind ((after_all t steps).entry p) ≡ kind ((after_all t steps).entry page)
all_kind t [] page end p run low high e = e
all_kind t (s ∷ steps) page end p run low high e = all_kind (after t s) steps page end p (λ k step is. run (suc k) step is) low high
    (subst (λ (u : Plain). kind (u.entry p) ≡ kind (u.entry page)) (sym (after_made t s))
    (acted_kind s t.file page end p (t.entry p) (t.entry page) (run zero s refl) low high e))

map_kind : (o : List FileParts) (steps : List MapChange) (page end p : ℕ) → AreOneRun steps page end → page ≤ p → p < end
    → kind ((map_of o steps).entry p) ≡ kind ((map_of o steps).entry page)
map_kind o steps page end p run low high = all_kind (nothing_mapped (files_of o)) steps page end p run low high refl

-- ---- what is asked of a page

absent_kind : (x y : Option PageEntry) → kind x ≡ kind y → is_absent x ≡ is_absent y
absent_kind None None e = refl
absent_kind None (Some y) e = absurd cc
absent_kind (Some x) None e = absurd cc
absent_kind (Some x) (Some y) e = refl

first_read_only : (files : ℕ → Option File) (b : Back) → is_read_only_back files b ≡ is_read_only_back files (first_back b)
first_read_only files Anon = refl
first_read_only files (Shared file k) = refl
first_read_only files (Private file k) = refl

read_only_kind : (files : ℕ → Option File) (x y : Option PageEntry) → kind x ≡ kind y → is_read_only files x ≡ is_read_only files y
read_only_kind files None None e = refl
read_only_kind files None (Some y) e = absurd cc
read_only_kind files (Some x) None e = absurd cc
read_only_kind files (Some x) (Some y) e =
    let same : first_back x.back ≡ first_back y.back = cc in
    first_read_only files x.back ∙ (ap (is_read_only_back files) same ∙ sym (first_read_only files y.back))

-- none of a run's pages passes a test that its first one doesn't
none_run : (test : Option PageEntry → Bool) (entry : ℕ → Option PageEntry) (range : PageRange) (page end : ℕ) → NoneBefore test entry range page
    → false ≡ test (entry page) → ((p : ℕ) → page ≤ p → p < end → test (entry p) ≡ test (entry page)) → NoneBefore test entry range end
none_run test entry range page end h e alike p low high = by (split p page)
  where
    by : (p < page) ⊎ (page ≤ p) → test (entry p) ≡ false
    by (inl l) = h p low l
    by (inr l) = alike p l high ∙ sym e

pub none_absent_run : (o : List FileParts) (steps : List MapChange) (range : PageRange) (page end : ℕ) → NoneBefore is_absent (map_of o steps).entry range page
    → false ≡ is_absent ((map_of o steps).entry page) → AreOneRun steps page end → NoneBefore is_absent (map_of o steps).entry range end
none_absent_run o steps range page end h e run = none_run is_absent (map_of o steps).entry range page end h e
    (λ p low high. absent_kind ((map_of o steps).entry p) ((map_of o steps).entry page) (map_kind o steps page end p run low high))

pub none_read_only_run : (o : List FileParts) (steps : List MapChange) (range : PageRange) (page end : ℕ)
    → NoneBefore (is_read_only (map_of o steps).file) (map_of o steps).entry range page
    → false ≡ is_read_only (map_of o steps).file ((map_of o steps).entry page) → AreOneRun steps page end
    → NoneBefore (is_read_only (map_of o steps).file) (map_of o steps).entry range end
none_read_only_run o steps range page end h e run = none_run (is_read_only (map_of o steps).file) (map_of o steps).entry range page end h e
    (λ p low high. read_only_kind (map_of o steps).file ((map_of o steps).entry p) ((map_of o steps).entry page) (map_kind o steps page end p run low high))
