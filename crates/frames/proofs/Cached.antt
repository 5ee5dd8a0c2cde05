-- Open files, and the frames that cache their pages
use Rattle.std.proofs.Common.{◌≡◌, ◌≢◌, ℕ, zero, suc, ◌+◌, ◌-◌, ◌*◌, ◌<◌, ◌≤◌, ◌⊎◌, inl, inr, Bool, true, false, cond, List, [], ◌∷◌, map}
use Rattle.std.proofs.Common.{length, get_or, set, take, drop, replicate, Option, Some, None, is_some, refl, sym, ◌∙◌, ap, arith}
use Rattle.std.specs.Prelude.{slice_get, nat_lt, min}
use Rattle.std.proofs.Math.Path.{fun_ext}
use Rattle.std.proofs.lemmas.Bool.{cases_lt, lt-ltb, le-ltb}
use Rattle.std.proofs.lemmas.Bool.Decides.{nat_tests}
use Rattle.std.proofs.lemmas.Option.{slice_get_past}
use Rattle.std.proofs.lemmas.List.{get_or-set_same, get_or-set_other, get_or-take, get_or-drop, get_or_past, length-take}
use Rattle.vm_base.specs.Functions.{put}
use Rattle.vm_base.specs.declared.rights.Mode.{Mode}
use Rattle.vm_base.specs.Pages.{page_count}
use Rattle.vm_base.specs.Plain.{file_bytes, file_with, page_bytes}
use Rattle.vm_base.proofs.Functions.{put_all}
use Rattle.frames.specs.declared.file_spec.FileSpec.{FileSpec}
use Rattle.frames.specs.Files.{FileParts, file_of, files_of, cached_pages, cached_in}
use Rattle.frames.specs.Given.{given_files, opened}

-- ---- files that were just opened

files-opened_at : {A : Type 0} (specs : List (FileSpec A)) (n : ℕ) → files_of (map opened specs) n ≡ given_files specs n
files-opened_at [] n = refl
files-opened_at (s ∷ specs) zero = refl
files-opened_at (s ∷ specs) (suc n) = files-opened_at specs n

pub files-opened : {A : Type 0} (specs : List (FileSpec A)) → files_of (map opened specs) ≡ given_files specs
files-opened specs = fun_ext (files-opened_at specs)

none-replicate : (n k : ℕ) → ◌≡◌ {A = Option ℕ} (get_or (replicate n None) k None) None
none-replicate zero k = refl
none-replicate (suc n) zero = refl
none-replicate (suc n) (suc k) = none-replicate n k

cached-opened_at : {A : Type 0} (specs : List (FileSpec A)) (n k : ℕ) → cached_in (map opened specs) n k ≡ None
cached-opened_at [] n k = refl
cached-opened_at (s ∷ specs) zero k = none-replicate _ k
cached-opened_at (s ∷ specs) (suc n) k = cached-opened_at specs n k

pub cached-opened : {A : Type 0} (specs : List (FileSpec A)) → cached_in (map opened specs) ≡ (λ n k. None)
cached-opened specs = fun_ext (λ n. fun_ext (cached-opened_at specs n))

-- ---- a page that gets a caching frame

slice_get-set_same : (fs : List FileParts) (n : ℕ) (g : FileParts) → n < length fs → slice_get (set fs n g) n ≡ Some g
slice_get-set_same [] n g h = absurd (omega arith)
slice_get-set_same (f ∷ fs) zero g h = refl
slice_get-set_same (f ∷ fs) (suc n) g h = slice_get-set_same fs n g (omega arith)

slice_get-set_other : (fs : List FileParts) (n : ℕ) (g : FileParts) (m : ℕ) → m ≢ n → slice_get (set fs n g) m ≡ slice_get fs m
slice_get-set_other [] n g m ne = refl
slice_get-set_other (f ∷ fs) zero g zero ne = absurd (ne refl)
slice_get-set_other (f ∷ fs) zero g (suc m) ne = refl
slice_get-set_other (f ∷ fs) (suc n) g zero ne = refl
slice_get-set_other (f ∷ fs) (suc n) g (suc m) ne = slice_get-set_other fs n g m (λ e. ne (ap suc e))

-- the caching frames of one file change
pages-set : (cached : List (Option ℕ)) (k : ℕ) (frame : ℕ) → k < length cached → (λ j. get_or (set cached k (Some frame)) j None) ≡ put
    (λ j. get_or cached j None) k (Some frame)
pages-set cached k frame h = fun_ext (put_all (λ j v. get_or (set cached k (Some frame)) j None ≡ v) (λ j. get_or cached j None) k (Some frame)
    (get_or-set_same cached k (Some frame) None h) (λ j ne. get_or-set_other cached k j (Some frame) None ne))

pub cached-set : (fs : List FileParts) (n : ℕ) (f g : FileParts) (k frame : ℕ) → n < length fs → slice_get fs n ≡ Some f
    → k < length f.cached → g.cached ≡ set f.cached k (Some frame)
    → cached_in (set fs n g) ≡ put (cached_in fs) n (put (cached_in fs n) k (Some frame))
cached-set fs n f g k frame there is within now =
    fun_ext (put_all (λ m v. cached_in (set fs n g) m ≡ v) (cached_in fs) n (put (cached_in fs n) k (Some frame))
    (ap (λ (o : Option FileParts). cached_pages o) (slice_get-set_same fs n g there)
    ∙ (ap {B = ℕ → Option ℕ} (λ (c : List (Option ℕ)) (j : ℕ). get_or c j None) now
    ∙ (pages-set f.cached k frame within
    ∙ ap (λ (o : Option FileParts). put (cached_pages o) k (Some frame)) (sym is))))
    (λ m ne. ap (λ (o : Option FileParts). cached_pages o) (slice_get-set_other fs n g m ne)))

same-file : (f g x : FileParts) → Some x ≡ Some f → g.mode ≡ f.mode → g.bytes ≡ f.bytes → file_of (Some g) ≡ file_of (Some x)
same-file f g x is mode bytes =
    ap (λ (m : Mode). Some (file_with m g.bytes)) mode ∙ (ap (λ (b : List ℕ). Some (file_with f.mode b)) bytes
    ∙ ap (λ (o : Option FileParts). file_of o) (sym is))

files-set_at : (fs : List FileParts) (n : ℕ) (f g : FileParts) → slice_get fs n ≡ Some f → g.mode ≡ f.mode → g.bytes ≡ f.bytes → (m : ℕ)
    → files_of (set fs n g) m ≡ files_of fs m
files-set_at [] n f g is mode bytes m = refl
files-set_at (x ∷ fs) zero f g is mode bytes zero = same-file f g x is mode bytes
files-set_at (x ∷ fs) zero f g is mode bytes (suc m) = refl
files-set_at (x ∷ fs) (suc n) f g is mode bytes zero = refl
files-set_at (x ∷ fs) (suc n) f g is mode bytes (suc m) = files-set_at fs n f g is mode bytes m

pub files-set : (fs : List FileParts) (n : ℕ) (f g : FileParts) → slice_get fs n ≡ Some f → g.mode ≡ f.mode → g.bytes ≡ f.bytes
    → files_of (set fs n g) ≡ files_of fs
files-set fs n f g is mode bytes = fun_ext (files-set_at fs n f g is mode bytes)

-- ---- pages that are there

-- a page that a file has is one of a file that is there
pub file-there : (fs : List FileParts) (n k : ℕ) → is_some (file_bytes (files_of fs n) k) ≡ true → n < length fs
file-there fs n k h = by (cases_lt n (length fs))
  where
    by : (n < length fs) ⊎ (length fs ≤ n) → n < length fs
    by (inl lt) = lt
    by (inr le) = let z = ap (λ (o : Option FileParts). is_some (file_bytes (file_of o) k)) (slice_get_past fs n le) in cc

pub page-there : (f : FileParts) (k : ℕ) → is_some (file_bytes (file_of (Some f)) k) ≡ true → k < page_count (length f.bytes)
page-there f k h = go (nat_lt k (page_count (length f.bytes))) refl h
  where
    go : (b : Bool) → nat_lt k (page_count (length f.bytes)) ≡ b → is_some (cond b (Some (page_bytes f.bytes k)) None) ≡ true → k < page_count (length f.bytes)
    go true e g = grind (arith, nat_tests)
    go false e g = absurd cc

-- ---- the part of a file's bytes that a page has

-- the byte of a page at an offset
pub page-byte : (bytes : List ℕ) (k i : ℕ) → i < 4096 → page_bytes bytes k i ≡ get_or bytes (k * 4096 + i) 0
page-byte bytes k i lt = ap (λ (b : Bool). cond b (get_or bytes (k * 4096 + i) 0) 0) (lt-ltb i 4096 lt)

page-beyond : (bytes : List ℕ) (k i : ℕ) → 4096 ≤ i → page_bytes bytes k i ≡ 0
page-beyond bytes k i le = ap (λ (b : Bool). cond b (get_or bytes (k * 4096 + i) 0) 0) (le-ltb i 4096 le)

-- the bytes of a part that a page has
pub page-first : (part : List ℕ) (i : ℕ) → i < 4096 → page_bytes part 0 i ≡ get_or part i 0
page-first part i lt =
    let at : 0 * 4096 + i ≡ i = omega arith in
    page-byte part 0 i lt ∙ ap (λ (j : ℕ). get_or part j 0) at

pub page-none : (part : List ℕ) (i : ℕ) → i < 4096 → length part ≤ i → page_bytes part 0 i ≡ 0
page-none part i lt le = page-first part i lt ∙ get_or_past part i 0 le

part-byte : (bytes : List ℕ) (start n i : ℕ) → n ≤ 4096 → (n ≡ 4096) ⊎ (length bytes ≤ start + n) → i < 4096
    → get_or (take n (drop start bytes)) i 0 ≡ get_or bytes (start + i) 0
part-byte bytes start n i few all lt = by (cases_lt i n)
  where
    past : (n ≡ 4096) ⊎ (length bytes ≤ start + n) → n ≤ i → get_or bytes (start + i) 0 ≡ 0
    past (inl full) le = absurd (omega arith)
    past (inr short) le = get_or_past bytes (start + i) 0 (omega arith)

    shorter : (i : ℕ) → n ≤ i → length (take n (drop start bytes)) ≤ i
    shorter i le = rw (length-take n (drop start bytes)) (omega arith)

    by : (i < n) ⊎ (n ≤ i) → get_or (take n (drop start bytes)) i 0 ≡ get_or bytes (start + i) 0
    by (inl in') = get_or-take n (drop start bytes) i 0 in' ∙ get_or-drop start bytes i 0
    by (inr le) = get_or_past (take n (drop start bytes)) i 0 (shorter i le) ∙ sym (past all le)

pub part-bytes : (bytes : List ℕ) (k n : ℕ) → n ≤ 4096 → (n ≡ 4096) ⊎ (length bytes ≤ k * 4096 + n)
    → page_bytes (take n (drop (k * 4096) bytes)) 0 ≡ page_bytes bytes k
part-bytes bytes k n few all = fun_ext (λ i. by i (cases_lt i 4096))
  where
    by : (i : ℕ) → (i < 4096) ⊎ (4096 ≤ i) → page_bytes (take n (drop (k * 4096) bytes)) 0 i ≡ page_bytes bytes k i
    by i (inl lt) =
        page-first (take n (drop (k * 4096) bytes)) i lt ∙ (part-byte bytes (k * 4096) n i few all lt ∙ sym (page-byte bytes k i lt))
    by i (inr le) = page-beyond (take n (drop (k * 4096) bytes)) 0 i le ∙ sym (page-beyond bytes k i le)

pub part-cut : (bytes : List ℕ) (k end len : ℕ) → len ≡ length bytes → end ≡ min len (k * 4096 + 4096) → k < page_count (length bytes)
    → page_bytes (take (end - k * 4096) (drop (k * 4096) bytes)) 0 ≡ page_bytes bytes k
part-cut bytes k end len same cut there = part-bytes bytes k (end - k * 4096) (omega (arith, cut)) (by (cases_lt (k * 4096 + 4096) (length bytes)))
  where
    by : (k * 4096 + 4096 < length bytes) ⊎ (length bytes ≤ k * 4096 + 4096) → (end - k * 4096 ≡ 4096) ⊎ (length bytes ≤ k * 4096 + (end - k * 4096))
    by (inl lt) = inl (omega (arith, same, cut))
    by (inr le) = inr (omega (arith, same, cut, there))
