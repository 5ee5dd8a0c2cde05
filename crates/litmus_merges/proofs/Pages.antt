-- Whether pages may get another protection
use Rattle.std.proofs.Common.{◌≡◌, ◌∙◌, ℕ, ◌+◌, ◌<◌, ◌≤◌, ◌⊎◌, inl, inr, Bool, true, false, not, Option, Some, None, ap, arith, refl, sym}
use Rattle.vm_base.proofs.Functions.{has_in, in_has}
use Rattle.vm_base.specs.declared.info.Back.{Back}
use Rattle.vm_base.specs.declared.info.Back.TheVariants.{Anon, Shared, Private}
use Rattle.vm_base.specs.declared.page.PageRange.{PageRange}
use Rattle.vm_base.specs.declared.rights.Mode.{Mode}
use Rattle.vm_base.specs.Apply.{HasPage, forbids_write, is_absent, is_read_only, is_read_only_back}
use Rattle.vm_base.specs.Plain.{PageEntry, File, Plain, mode_of}
use Rattle.vm_base.specs.Rights.{can_write}
use Rattle.vm_calls.specs.Checks.{HasModes}
use Rattle.litmus_merges.specs.declared.seen.Seen.{Seen}
use Rattle.litmus_merges.specs.Seen.{byte_at, shown}
use Rattle.litmus_merges.proofs.Lists.{below}

pub none_absent : (o : Option PageEntry) (i : ℕ) → ◌≡◌ {A = Option Seen} None (shown i o) → true ≡ is_absent o
none_absent None i e = refl
none_absent (Some en) i e = absurd cc

pub some_present : (o : Option PageEntry) (i : ℕ) (s : Seen) → Some s ≡ shown i o → false ≡ is_absent o
some_present None i s e = absurd cc
some_present (Some en) i s e = refl

same_forbids : (f g : Option File) → mode_of f ≡ mode_of g → forbids_write f ≡ forbids_write g
same_forbids None None h = refl
same_forbids (Some f) (Some g) h = let e : f.mode ≡ g.mode = cc in ap (λ (m : Mode). not (can_write m)) e
same_forbids None (Some g) h = absurd cc
same_forbids (Some f) None h = absurd cc

same_back : (t : Plain) (files : ℕ → Option File) → HasModes t files → (back : Back) → is_read_only_back t.file back ≡ is_read_only_back files back
same_back t files modes Anon = refl
same_back t files modes (Shared file page) = same_forbids (t.file file) (files file) (modes file)
same_back t files modes (Private file page) = refl

pub none_read_only : (files : ℕ → Option File) (o : Option PageEntry) (i : ℕ) → ◌≡◌ {A = Option Seen} None (shown i o) → false ≡ is_read_only files o
none_read_only files None i e = refl
none_read_only files (Some en) i e = absurd cc

pub back_read_only : (t : Plain) (files : ℕ → Option File) (o : Option PageEntry) (i : ℕ) (s : Seen) → HasModes t files → Some s ≡ shown i o
    → is_read_only_back files s.back ≡ is_read_only t.file o
back_read_only t files None i s modes e = absurd cc
back_read_only t files (Some en) i s modes e =
    let same : s ≡ record { back = en.back; prot = en.prot; own = byte_at en.own i } = cc in
    sym (same_back t files modes s.back) ∙ ap (λ (x : Seen). is_read_only_back t.file x.back) same

-- ---- going through a range

-- no page of the range before this one passes the test
abbrev pub NoneBefore : (Option PageEntry → Bool) → (ℕ → Option PageEntry) → PageRange → ℕ → Type 0
NoneBefore test entry range page = (p : ℕ) → range.first ≤ p → p < page → test (entry p) ≡ false

pub none_yet : (test : Option PageEntry → Bool) (entry : ℕ → Option PageEntry) (range : PageRange) → NoneBefore test entry range range.first
none_yet test entry range p low high = absurd (omega (arith, low, high))

pub none_more : (test : Option PageEntry → Bool) (entry : ℕ → Option PageEntry) (range : PageRange) (page : ℕ) → NoneBefore test entry range page
    → false ≡ test (entry page) → NoneBefore test entry range (page + 1)
none_more test entry range page h e p low high = by (below p page high)
  where
    by : (p < page) ⊎ (p ≡ page) → test (entry p) ≡ false
    by (inl lt) = h p low lt
    by (inr eq) = ap (λ (n : ℕ). test (entry n)) eq ∙ sym e

pub one_page : (test : Option PageEntry → Bool) (entry : ℕ → Option PageEntry) (range : PageRange) (page : ℕ) → range.first ≤ page → page < range.end
    → true ≡ test (entry page) → HasPage test entry range
one_page test entry range page low high e = (page, in_has range page low high, sym e)

pub no_page : (test : Option PageEntry → Bool) (entry : ℕ → Option PageEntry) (range : PageRange) (page : ℕ) → range.end ≤ page → NoneBefore test entry range page
    → ¬ HasPage test entry range
no_page test entry range page le h x =
    let z = has_in range x.0 x.1 in
    let high = z.1 in
    let none = h x.0 z.0 (omega (arith, le, high)) in
    let wrong : true ≡ false = sym x.2 ∙ none in
    absurd cc
