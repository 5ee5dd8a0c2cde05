-- What pages are mapped to on the map that steps make
use Rattle.std.proofs.Common.{◌≡◌, ◌≢◌, ℕ, zero, suc, ◌+◌, ◌-◌, ◌^◌, ◌<◌, ◌≤◌, ◌==◌, ◌⊎◌, inl, inr, Bool, true, false, cond, List, [], ◌∷◌, Option}
use Rattle.std.proofs.Common.{Some, None, ap, arith, refl, slice_get, subst, sym, ◌∙◌}
use Rattle.std.proofs.lemmas.Bool.Decides.{nat_tests}
use Rattle.frames.specs.Files.{FileParts, files_of}
use Rattle.vm_base.proofs.Functions.{has_in}
use Rattle.vm_base.specs.declared.info.Back.{Back}
use Rattle.vm_base.specs.declared.info.Back.TheVariants.{Anon, Shared, Private}
use Rattle.vm_base.specs.declared.info.Meta.{Meta}
use Rattle.vm_base.specs.declared.page.PageRange.{PageRange}
use Rattle.vm_base.specs.declared.rights.Prot.{Prot}
use Rattle.vm_base.specs.Apply.{is_uncopied, new_entry, with_prot}
use Rattle.vm_base.specs.Functions.{has}
use Rattle.vm_base.specs.Info.{advance, advance_back, file_page}
use Rattle.vm_base.specs.Pages.{IsPage, IsPageRange}
use Rattle.vm_base.specs.Plain.{Bytes, PageEntry, File, Plain, bytes_of, nothing_mapped}
use Rattle.slot_lock.specs.declared.map_list.MapLine.{MapLine}
use Rattle.slot_lock.specs.declared.plan.Change.{Change}
use Rattle.slot_lock.specs.declared.plan.Change.TheVariants.{Put, Clear, Protect}
use Rattle.slot_lock.specs.MapList.{GoesOn, entry_meta, line_meta, plain_metas}
use Rattle.slot_lock.specs.MapWalks.{IsFirstMapped, IsRun}
use Rattle.slot_lock.proofs.MapLists.{ListsTo}
use Rattle.slot_lock.proofs.MapWalks.{NoneBelow, twice}
use Rattle.litmus_merges.specs.declared.change.MapChange.{MapChange}
use Rattle.litmus_merges.specs.declared.change.MapChange.TheVariants as StepOf
use Rattle.litmus_merges.specs.declared.seen.Seen.{Seen}
use Rattle.litmus_merges.specs.Runs.{AreOneRun, IsOneRun}
use Rattle.litmus_merges.specs.Seen.{byte_at, shown}
use Rattle.litmus_merges.specs.Steps.{AreSound, IsSoundStep, after, after_all, entry_with, map_of}
use Rattle.litmus_merges.proofs.Acted.{acted, after_made, copy_of, with_bytes}
use Rattle.litmus_merges.proofs.AlikePages.{split}

-- ---- a page

pub unseen : (o : Option PageEntry) (i : ℕ) → ◌≡◌ {A = Option Seen} None (shown i o) → None ≡ entry_meta o
unseen None i e = refl
unseen (Some en) i e = absurd cc

pub meta_seen : (o : Option PageEntry) (i : ℕ) (s : Seen) → Some s ≡ shown i o → Some (record { back = s.back; prot = s.prot }) ≡ entry_meta o
meta_seen None i s e = absurd cc
meta_seen (Some en) i s e =
    let same : s ≡ record { back = en.back; prot = en.prot; own = byte_at en.own i } = cc in
    ap (λ (x : Seen). Some (record { back = x.back; prot = x.prot })) same

-- ---- a mapping

pub same_line : (x y : MapLine) → x.range ≡ y.range → line_meta x ≡ line_meta y → x ≡ y
same_line x y range meta = ap (λ (r : PageRange). record { range = r; prot = x.prot; back = x.back }) range
    ∙ ap (λ (m : Meta). record { range = y.range; prot = m.prot; back = m.back }) meta

-- ---- pages of a run

-- what goes on so many pages later
abbrev on : Option Meta → ℕ → Option Meta
on None n = None
on (Some meta) n = Some (advance meta n)

copied_meta : (f : ℕ → Option File) (o : Option PageEntry) → entry_meta (copy_of f o) ≡ entry_meta o
copied_meta f None = refl
copied_meta f (Some e) = go (is_uncopied e.back e.own) (bytes_of f e.back e.own)
  where
    go : (u : Bool) (b : Option Bytes) → entry_meta (with_bytes e u b) ≡ Some (record { back = e.back; prot = e.prot })
    go true (Some b) = refl
    go true None = refl
    go false b = refl

owned_meta : (o : Option PageEntry) (i b : ℕ) → entry_meta (entry_with o i b) ≡ entry_meta o
owned_meta None i b = refl
owned_meta (Some e) i b = refl

cond_meta : (b : Bool) (x o : Option PageEntry) → entry_meta x ≡ entry_meta o → entry_meta (cond b x o) ≡ entry_meta o
cond_meta true x o e = e
cond_meta false x o e = refl

prot_on : (prot : Prot) (x y : Option PageEntry) (n : ℕ) → entry_meta x ≡ on (entry_meta y) n
    → entry_meta (with_prot prot x) ≡ on (entry_meta (with_prot prot y)) n
prot_on prot None None n e = refl
prot_on prot None (Some y) n e = absurd cc
prot_on prot (Some x) None n e = absurd cc
prot_on prot (Some x) (Some y) n e =
    let same : record { back = x.back; prot = x.prot } ≡ advance (record { back = y.back; prot = y.prot }) n = cc in
    ap (λ (m : Meta). Some (record { back = m.back; prot = prot })) same

put_on : (r : PageRange) (meta : Meta) (page p : ℕ) → has r page ≡ true → page ≤ p
    → entry_meta (Some (new_entry (advance_back meta.back (p - r.first)) meta.prot))
    ≡ on (entry_meta (Some (new_entry (advance_back meta.back (page - r.first)) meta.prot))) (p - page)
put_on r meta page p here low =
    let z = has_in r page here in
    let first = z.0 in
    let sum : (page - r.first) + (p - page) ≡ p - r.first = omega (arith, first, low) in
    ap Some (sym (twice meta (page - r.first) (p - page) ∙ ap (advance meta) sum))

both_on : (b c : Bool) (x y v w : Option PageEntry) (n : ℕ) → b ≡ c → (c ≡ true → entry_meta v ≡ on (entry_meta w) n) → entry_meta x ≡ on (entry_meta y) n
    → entry_meta (cond b v x) ≡ on (entry_meta (cond c w y)) n
both_on true true x y v w n s e f = e refl
both_on true false x y v w n s e f = absurd cc
both_on false true x y v w n s e f = absurd cc
both_on false false x y v w n s e f = f

cond_on : (b c : Bool) (x y v w : Option PageEntry) (n : ℕ) → entry_meta v ≡ entry_meta x → entry_meta w ≡ entry_meta y → entry_meta x ≡ on (entry_meta y) n
    → entry_meta (cond b v x) ≡ on (entry_meta (cond c w y)) n
cond_on b c x y v w n e f h = cond_meta b v x e ∙ (h ∙ ap (λ o. on o n) (sym (cond_meta c w y f)))

acted_on : (s : MapChange) (f : ℕ → Option File) (page end p : ℕ) (x y : Option PageEntry) → IsOneRun s page end → page ≤ p → p < end
    → entry_meta x ≡ on (entry_meta y) (p - page) → entry_meta (acted s f p x) ≡ on (entry_meta (acted s f page y)) (p - page)
acted_on (StepOf.Change (Put r m)) f page end p x y run low high e =
    both_on (has r p) (has r page) x y (Some (new_entry (advance_back m.back (p - r.first)) m.prot)) (Some (new_entry (advance_back m.back (page - r.first)) m.prot))
    (p - page) (run p low high) (λ here. put_on r m page p here low) e
acted_on (StepOf.Change (Clear r)) f page end p x y run low high e = both_on (has r p) (has r page) x y None None (p - page) (run p low high) (λ here. refl) e
acted_on (StepOf.Change (Protect r prot)) f page end p x y run low high e =
    both_on (has r p) (has r page) x y (with_prot prot x) (with_prot prot y) (p - page) (run p low high) (λ here. prot_on prot x y (p - page) e) e
acted_on (StepOf.Copy q) f page end p x y run low high e =
    cond_on (p == q) (page == q) x y (copy_of f x) (copy_of f y) (p - page) (copied_meta f x) (copied_meta f y) e
acted_on (StepOf.Own q i b) f page end p x y run low high e =
    cond_on (p == q) (page == q) x y (entry_with x i b) (entry_with y i b) (p - page) (owned_meta x i b) (owned_meta y i b) e
acted_on (StepOf.File m k i b) f page end p x y run low high e = e

all_on : (t : Plain) (steps : List MapChange) (page end p : ℕ) → AreOneRun steps page end → page ≤ p → p < end
    → plain_metas t p ≡ on (plain_metas t page) (p - page) → plain_metas (after_all t steps) p ≡ on (plain_metas (after_all t steps) page) (p - page)
all_on t [] page end p run low high e = e
all_on t (s ∷ steps) page end p run low high e = all_on (after t s) steps page end p (λ k step is. run (suc k) step is) low high
    (subst (λ (u : Plain). plain_metas u p ≡ on (plain_metas u page) (p - page)) (sym (after_made t s))
    (acted_on s t.file page end p (t.entry p) (t.entry page) (run zero s refl) low high e))

goes_on : (o : List FileParts) (steps : List MapChange) (page end p : ℕ) → AreOneRun steps page end → page ≤ p → p < end
    → plain_metas (map_of o steps) p ≡ on (plain_metas (map_of o steps) page) (p - page)
goes_on o steps page end p run low high = all_on (nothing_mapped (files_of o)) steps page end p run low high refl

-- ---- what is no page isn't mapped

outside : (r : PageRange) (p : ℕ) → IsPageRange r → ¬ IsPage p → has r p ≡ false
outside r p pages off = go (has r p) refl
  where
    go : (b : Bool) → has r p ≡ b → has r p ≡ false
    go false e = e
    go true e =
        let z = has_in r p e in
        let low = z.0 in
        let high = z.1 in
        let first = pages.low in
        let end = pages.high in
        absurd (off (omega (arith, low, first), omega (arith, high, end)))

cond_none : (b : Bool) (x o : Option PageEntry) → b ≡ false → o ≡ None → cond b x o ≡ None
cond_none true x o e f = absurd cc
cond_none false x o e f = f

both_none : (b : Bool) (x o : Option PageEntry) → x ≡ None → o ≡ None → cond b x o ≡ None
both_none true x o e f = e
both_none false x o e f = f

acted_none : (s : MapChange) (f : ℕ → Option File) (p : ℕ) (o : Option PageEntry) → IsSoundStep s → ¬ IsPage p → o ≡ None → acted s f p o ≡ None
acted_none (StepOf.Change (Put r m)) f p o sound off e =
    cond_none (has r p) (Some (new_entry (advance_back m.back (p - r.first)) m.prot)) o (outside r p sound.pages off) e
acted_none (StepOf.Change (Clear r)) f p o sound off e = cond_none (has r p) None o (outside r p sound off) e
acted_none (StepOf.Change (Protect r prot)) f p o sound off e = cond_none (has r p) (with_prot prot o) o (outside r p sound off) e
acted_none (StepOf.Copy q) f p o sound off e = both_none (p == q) (copy_of f o) o (ap (copy_of f) e) e
acted_none (StepOf.Own q i b) f p o sound off e = both_none (p == q) (entry_with o i b) o (ap (λ (x : Option PageEntry). entry_with x i b) e) e
acted_none (StepOf.File m k i b) f p o sound off e = e

all_none : (t : Plain) (steps : List MapChange) (p : ℕ) → AreSound steps → ¬ IsPage p → t.entry p ≡ None → (after_all t steps).entry p ≡ None
all_none t [] p sound off e = e
all_none t (s ∷ steps) p sound off e = all_none (after t s) steps p (λ k step is. sound (suc k) step is) off
    (subst (λ (u : Plain). u.entry p ≡ None) (sym (after_made t s)) (acted_none s t.file p (t.entry p) (sound zero s refl) off e))

none_outside : (o : List FileParts) (steps : List MapChange) (p : ℕ) → AreSound steps → ¬ IsPage p → plain_metas (map_of o steps) p ≡ None
none_outside o steps p sound off = ap entry_meta (all_none (nothing_mapped (files_of o)) steps p sound off refl)

-- ---- a mapped page's place in its file

abbrev IsLow : Option Meta → Type 0
IsLow None = Unit {0}
IsLow (Some meta) = file_page meta.back ≤ 2 ^ 35

put_low : (b : Back) (prot : Prot) (n m : ℕ) → file_page b + n ≤ 2 ^ 35 → m < n → IsLow (entry_meta (Some (new_entry (advance_back b m) prot)))
put_low Anon prot n m fits l = omega arith
put_low (Shared file k) prot n m fits l = omega (arith, fits, l)
put_low (Private file k) prot n m fits l = omega (arith, fits, l)

prot_low : (prot : Prot) (o : Option PageEntry) → IsLow (entry_meta o) → IsLow (entry_meta (with_prot prot o))
prot_low prot None h = tt
prot_low prot (Some e) h = h

cond_low : (b : Bool) (x o : Option PageEntry) → (b ≡ true → IsLow (entry_meta x)) → IsLow (entry_meta o) → IsLow (entry_meta (cond b x o))
cond_low true x o h k = h refl
cond_low false x o h k = k

acted_low : (s : MapChange) (f : ℕ → Option File) (p : ℕ) (o : Option PageEntry) → IsSoundStep s → IsLow (entry_meta o) → IsLow (entry_meta (acted s f p o))
acted_low (StepOf.Change (Put r m)) f p o sound h =
    cond_low (has r p) (Some (new_entry (advance_back m.back (p - r.first)) m.prot)) o (λ here.
    let z = has_in r p here in
    let low = z.0 in
    let high = z.1 in
    put_low m.back m.prot (r.end - r.first) (p - r.first) sound.fits (omega (arith, low, high))) h
acted_low (StepOf.Change (Clear r)) f p o sound h = cond_low (has r p) None o (λ here. tt) h
acted_low (StepOf.Change (Protect r prot)) f p o sound h = cond_low (has r p) (with_prot prot o) o (λ here. prot_low prot o h) h
acted_low (StepOf.Copy q) f p o sound h =
    cond_low (p == q) (copy_of f o) o (λ here. subst IsLow (sym (copied_meta f o)) h) h
acted_low (StepOf.Own q i b) f p o sound h =
    cond_low (p == q) (entry_with o i b) o (λ here. subst IsLow (sym (owned_meta o i b)) h) h
acted_low (StepOf.File m k i b) f p o sound h = h

all_low : (t : Plain) (steps : List MapChange) (p : ℕ) → AreSound steps → IsLow (plain_metas t p) → IsLow (plain_metas (after_all t steps) p)
all_low t [] p sound h = h
all_low t (s ∷ steps) p sound h = all_low (after t s) steps p (λ k step is. sound (suc k) step is)
    (subst (λ (u : Plain). IsLow (plain_metas u p)) (sym (after_made t s)) (acted_low s t.file p (t.entry p) (sound zero s refl) h))

pub low_page : (o : List FileParts) (steps : List MapChange) (p : ℕ) (meta : Meta) → AreSound steps → plain_metas (map_of o steps) p ≡ Some meta
    → file_page meta.back ≤ 2 ^ 35
low_page o steps p meta sound e = subst IsLow e (all_low (nothing_mapped (files_of o)) steps p sound tt)

-- ---- walks from run to run

-- the run of an unmapped page is passed
pub below_next : (o : List FileParts) (steps : List MapChange) (from page end : ℕ) → None ≡ plain_metas (map_of o steps) page → AreOneRun steps page end
    → page < end → NoneBelow (plain_metas (map_of o steps)) from page → NoneBelow (plain_metas (map_of o steps)) from end
below_next o steps from page end e run further n = record {
  low = (let a = n.low in omega (arith, a, further));
  none = λ p low high. by p low high (split p page);
}
  where
    by : (p : ℕ) → from ≤ p → p < end → (p < page) ⊎ (page ≤ p) → plain_metas (map_of o steps) p ≡ None
    by p low high (inl l) = n.none p low l
    by p low high (inr l) = goes_on o steps page end p run l high ∙ ap (λ m. on m (p - page)) (sym e)

pub first_is : (metas : ℕ → Option Meta) (from page : ℕ) (meta : Meta) → NoneBelow metas from page → page < 2 ^ 35 → Some meta ≡ metas page
    → IsFirstMapped metas from page meta
first_is metas from page meta n high e = record { low = n.low; high = high; before = n.none; mapped = sym e }

-- that of a mapped page begins a mapping
pub run_first : (o : List FileParts) (steps : List MapChange) (first end : ℕ) (meta : Meta) → plain_metas (map_of o steps) first ≡ Some meta
    → AreOneRun steps first end → first < end → end ≤ 2 ^ 35 → IsRun (plain_metas (map_of o steps)) first meta end
run_first o steps first end meta e run further within = record {
  some = further;
  high = within;
  mapped = λ p low high. goes_on o steps first end p run low high ∙ ap (λ m. on m (p - first)) e;
}

-- and that of a page that goes on from it makes it longer
pub run_next : (o : List FileParts) (steps : List MapChange) (first end last : ℕ) (meta : Meta)
    → plain_metas (map_of o steps) end ≡ Some (advance meta (end - first)) → AreOneRun steps end last → end < last → last ≤ 2 ^ 35
    → IsRun (plain_metas (map_of o steps)) first meta end → IsRun (plain_metas (map_of o steps)) first meta last
run_next o steps first end last meta e run further within h = record {
  some = (let a = h.some in omega (arith, a, further));
  high = within;
  mapped = λ p low high. by p low high (split p end);
}
  where
    by : (p : ℕ) → first ≤ p → p < last → (p < end) ⊎ (end ≤ p) → plain_metas (map_of o steps) p ≡ Some (advance meta (p - first))
    by p low high (inl l) = h.mapped p low l
    by p low high (inr l) =
        let order = h.some in
        let sum : (end - first) + (p - end) ≡ p - first = omega (arith, order, l) in
        goes_on o steps end last p run l high
        ∙ (ap (λ m. on m (p - end)) e ∙ ap Some (twice meta (end - first) (p - end) ∙ ap (advance meta) sum))

-- no page goes on from the last valid one
pub ends_at_limit : (o : List FileParts) (steps : List MapChange) (end : ℕ) (meta : Meta) → AreSound steps → 2 ^ 35 ≤ end
    → plain_metas (map_of o steps) end ≢ Some meta
ends_at_limit o steps end meta sound high e =
    let none = none_outside o steps end sound (λ h. let l = h.1 in omega (arith, l, high)) in
    absurd cc

-- and none does across the first
pub to_first : (o : List FileParts) (steps : List MapChange) (lines : List MapLine) → AreSound steps → lines ≡ []
    → ListsTo (plain_metas (map_of o steps)) lines 1
to_first o steps lines sound none = subst (λ xs. ListsTo (plain_metas (map_of o steps)) xs 1) (sym none) (record {
  low = omega arith;
  high = omega arith;
  lists = λ p a b. absurd (omega (arith, a, b));
  begins = λ go. subst (λ m. GoesOn m (plain_metas (map_of o steps) 1))
      (none_outside o steps zero sound (λ h. let l = h.0 in omega (arith, l))) go;
})
