-- What places of pages show
use Rattle.std.proofs.Common.{◌≡◌, ◌≢◌, ℕ, nat_lt, ◌-◌, ◌==◌, Bool, true, false, cond, not, Option, Some, None, IfSome, is_some, refl, sym, subst, ◌∙◌, ap}
use Rattle.std.proofs.Common.{List, ◌+◌, ◌<◌, get_or, length, take}
use Rattle.frames.specs.Files.{FileParts}
use Rattle.vm_base.proofs.Functions.{by_test, eq_true, put_same}
use Rattle.vm_base.specs.declared.info.Back.{Back}
use Rattle.vm_base.specs.declared.info.Back.TheVariants.{Anon, Shared, Private}
use Rattle.vm_base.specs.declared.rights.Prot.{Prot}
use Rattle.vm_base.specs.Apply.{copied, detached_entry, first_own, is_uncopied, new_entry, with_byte, with_prot}
use Rattle.vm_base.specs.Copies.{or_else, with_copy}
use Rattle.vm_base.specs.Functions.{has, put}
use Rattle.vm_base.specs.Info.{advance, advance_back}
use Rattle.vm_base.specs.Plain.{Bytes, PageEntry, File, Plain, back_bytes, bytes_of, file_bytes}
use Rattle.slot_lock.specs.declared.plan.Change.{Change}
use Rattle.slot_lock.specs.declared.plan.Change.TheVariants.{Put, Clear, Protect}
use Rattle.litmus_merges.specs.declared.change.MapChange.{MapChange}
use Rattle.litmus_merges.specs.declared.change.MapChange.TheVariants as StepOf
use Rattle.litmus_merges.specs.declared.seen.Seen.{Seen}
use Rattle.litmus_merges.specs.Seen.{byte_at, byte_with, fresh, own_copied, seen_change, seen_copied, seen_protected, seen_with, shown, shown_byte, stored_byte}
use Rattle.litmus_merges.specs.Steps.{after, after_change, entry_with, map_of, own_with}
use Rattle.litmus_merges.proofs.Maps.{copy_file, copy_other, map_more}

-- ---- bytes of files

-- the byte of a page that there is
pub first_byte : (b : Option Bytes) (i r : ℕ) → not (is_some b) ≡ false → IfSome b (λ own. r ≡ own i) → byte_at b i ≡ Some r
first_byte None i r e h = absurd cc
first_byte (Some b) i r e h = ap Some (sym h)

spot_stored : (g : Option File) (k i b p j byte : ℕ) → byte_at (file_bytes g p) j ≡ Some byte
    → byte_at (file_bytes (with_byte g k i b) p) j ≡ Some (cond (p == k) (cond (j == i) b byte) byte)
spot_stored None k i b p j byte h = absurd cc
spot_stored (Some f) k i b p j byte h = within (nat_lt p f.count) h
  where
    there : (y : Bool) → f.bytes k j ≡ byte → cond y b (f.bytes k j) ≡ cond y b byte
    there true e = refl
    there false e = e

    here : (x : Bool) → (p == k) ≡ x → f.bytes p j ≡ byte
        → cond x (put (f.bytes k) i b) (f.bytes p) j ≡ cond x (cond (j == i) b byte) byte
    here true e h = there (j == i) (subst (λ (n : ℕ). f.bytes n j ≡ byte) (eq_true p k e) h)
    here false e h = h

    within : (w : Bool) → byte_at (cond w (Some (f.bytes p)) None) j ≡ Some byte
        → byte_at (cond w (Some (put f.bytes k (put (f.bytes k) i b) p)) None) j ≡ Some (cond (p == k) (cond (j == i) b byte) byte)
    within true h = let e : f.bytes p j ≡ byte = cc in ap Some (here (p == k) refl e)
    within false h = absurd cc

pub byte_stored : (t : Plain) (s : MapChange) (n p j byte : ℕ) → byte_at (file_bytes (t.file n) p) j ≡ Some byte
    → byte_at (file_bytes ((after t s).file n) p) j ≡ Some (stored_byte s n p j byte)
byte_stored t (StepOf.Change (Put range meta)) n p j byte h = h
byte_stored t (StepOf.Change (Clear range)) n p j byte h = h
byte_stored t (StepOf.Change (Protect range prot)) n p j byte h = h
byte_stored t (StepOf.Copy page) n p j byte h =
    subst (λ (f : ℕ → Option File). byte_at (file_bytes (f n) p) j ≡ Some byte) (sym (copy_file t page)) h
byte_stored t (StepOf.Own page i b) n p j byte h = h
byte_stored t (StepOf.File f k i b) n p j byte h = go (n == f) refl
  where
    go : (x : Bool) → (n == f) ≡ x → byte_at (file_bytes (cond x (with_byte (t.file f) k i b) (t.file n)) p) j
        ≡ Some (cond x (cond (p == k) (cond (j == i) b byte) byte) byte)
    go true e = spot_stored (t.file f) k i b p j byte (subst (λ (m : ℕ). byte_at (file_bytes (t.file m) p) j ≡ Some byte) (eq_true n f e) h)
    go false e = h

-- ---- pages

abbrev as_seen : Back → Prot → Option ℕ → Option Seen
as_seen back prot own = Some (record { back = back; prot = prot; own = own })

fresh_own : (b : Back) (i : ℕ) → byte_at (first_own b) 0 ≡ byte_at (first_own b) i
fresh_own Anon i = refl
fresh_own (Shared file page) i = refl
fresh_own (Private file page) i = refl

pub change_shown : (t : Plain) (c : Change) (p i : ℕ) (seen : Option Seen) → seen ≡ shown i (t.entry p)
    → seen_change c p seen ≡ shown i ((after_change t c).entry p)
change_shown t (Put r meta) p i seen e = go (has r p)
  where
    go : (x : Bool) → ◌≡◌ {A = Option Seen} (cond x (Some (fresh (advance meta (p - r.first)))) seen)
        (shown i (cond x (Some (new_entry (advance_back meta.back (p - r.first)) meta.prot)) (t.entry p)))
    go true = ap (as_seen (advance_back meta.back (p - r.first)) meta.prot) (fresh_own (advance_back meta.back (p - r.first)) i)
    go false = e
change_shown t (Clear r) p i seen e = go (has r p)
  where
    go : (x : Bool) → ◌≡◌ {A = Option Seen} (cond x None seen) (shown i (cond x None (t.entry p)))
    go true = refl
    go false = e
change_shown t (Protect r prot) p i seen e = go (has r p)
  where
    same : (o : Option PageEntry) → seen_protected prot (shown i o) ≡ shown i (with_prot prot o)
    same None = refl
    same (Some en) = refl

    go : (x : Bool) → ◌≡◌ {A = Option Seen} (cond x (seen_protected prot seen) seen) (shown i (cond x (with_prot prot (t.entry p)) (t.entry p)))
    go true = ap (seen_protected prot) e ∙ same (t.entry p)
    go false = e

pub own_here : (t : Plain) (page o byte p i : ℕ) (seen : Option Seen) → p ≡ page → i ≡ o → seen ≡ shown i (t.entry p)
    → seen_with byte seen ≡ shown i ((after t (StepOf.Own page o byte)).entry p)
own_here t page o byte p i seen here there e =
    ap (seen_with byte) (e ∙ ap (λ (n : ℕ). shown i (t.entry n)) here)
    ∙ (entry (t.entry page) ∙ ap (shown i) (sym (ap (put t.entry page (entry_with (t.entry page) o byte)) here ∙ put_same t.entry page (entry_with (t.entry page) o byte))))
  where
    own : (w : Option Bytes) → byte_with (byte_at w i) byte ≡ byte_at (own_with w o byte) i
    own None = refl
    own (Some b) = ap Some (sym (ap (put b o byte) there ∙ put_same b o byte))

    entry : (x : Option PageEntry) → seen_with byte (shown i x) ≡ shown i (entry_with x o byte)
    entry None = refl
    entry (Some en) = ap (as_seen en.back en.prot) (own en.own)

-- another place of a page shows what it has shown
pub own_beside : (t : Plain) (page o byte p i : ℕ) → i ≢ o → shown i (t.entry p) ≡ shown i ((after t (StepOf.Own page o byte)).entry p)
own_beside t page o byte p i there =
    by_test (λ (x : Option PageEntry). shown i (t.entry p) ≡ shown i x) (p == page) (entry_with (t.entry page) o byte) (t.entry p)
    (λ e. ap (λ (n : ℕ). shown i (t.entry n)) (eq_true p page e) ∙ entry (t.entry page)) (λ e. refl)
  where
    own : (w : Option Bytes) → byte_at w i ≡ byte_at (own_with w o byte) i
    own None = refl
    own (Some b) = ap Some (by_test (λ (x : ℕ). b i ≡ x) (i == o) byte (b i) (λ e. absurd (there (eq_true i o e))) (λ e. refl))

    entry : (x : Option PageEntry) → shown i x ≡ shown i (entry_with x o byte)
    entry None = refl
    entry (Some en) = ap (as_seen en.back en.prot) (own en.own)

pub own_other : (t : Plain) (page o byte p i : ℕ) → p ≢ page → shown i (t.entry p) ≡ shown i ((after t (StepOf.Own page o byte)).entry p)
own_other t page o byte p i ne =
    by_test (λ (x : Option PageEntry). shown i (t.entry p) ≡ shown i x) (p == page) (entry_with (t.entry page) o byte) (t.entry p)
    (λ e. absurd (ne (eq_true p page e))) (λ e. refl)

-- ---- copies

copied_shown : (t : Plain) (p i : ℕ) → seen_copied (shown i (t.entry p)) (shown_byte t.file (t.entry p) i) ≡ shown i ((with_copy t (Some p)).entry p)
copied_shown t p i = go (t.entry p) refl
  where
    stays : (b : Back) (prot : Prot) (w : Option Bytes) → t.entry p ≡ Some (record { back = b; prot = prot; own = w })
        → as_seen b prot (byte_at w i) ≡ shown i (t.entry p)
    stays b prot w e = sym (ap (shown i) e)

    sub : (file page : ℕ) (prot : Prot) (r : Option Bytes) → t.entry p ≡ Some (record { back = Private file page; prot = prot; own = None })
        → as_seen (Private file page) prot (byte_at r i)
        ≡ shown i ((or_else t (copied t p (record { back = Private file page; prot = prot; own = None }) true r)).entry p)
    sub file page prot None e = stays (Private file page) prot None e
    sub file page prot (Some b) e =
        ap (shown i) (sym (put_same t.entry p (Some (record { back = Private file page; prot = prot; own = Some b }))))

    by : (b : Back) (prot : Prot) (w : Option Bytes) → t.entry p ≡ Some (record { back = b; prot = prot; own = w })
        → as_seen b prot (own_copied b (byte_at w i) (byte_at (bytes_of t.file b w) i))
        ≡ shown i ((or_else t (copied t p (record { back = b; prot = prot; own = w }) (is_uncopied b w) (bytes_of t.file b w))).entry p)
    by Anon prot w e = stays Anon prot w e
    by (Shared file page) prot w e = stays (Shared file page) prot w e
    by (Private file page) prot (Some own) e = stays (Private file page) prot (Some own) e
    by (Private file page) prot None e = sub file page prot (file_bytes (t.file file) page) e

    go : (o : Option PageEntry) → t.entry p ≡ o
        → seen_copied (shown i o) (shown_byte t.file o i) ≡ shown i ((or_else t (detached_entry t p o)).entry p)
    go None e = sym (ap (shown i) e)
    go (Some en) e = by en.back en.prot en.own e

pub copy_here : (t : Plain) (page p i : ℕ) (seen : Option Seen) (byte : Option ℕ) → p ≡ page → seen ≡ shown i (t.entry p)
    → byte ≡ shown_byte t.file (t.entry p) i → seen_copied seen byte ≡ shown i ((with_copy t (Some page)).entry p)
copy_here t page p i seen byte here e f =
    ap (λ (s : Option Seen). seen_copied s byte) e ∙ (ap (seen_copied (shown i (t.entry p))) f
    ∙ (copied_shown t p i ∙ ap (λ (n : ℕ). shown i ((with_copy t (Some n)).entry p)) here))

pub copy_beside : (t : Plain) (page p i : ℕ) → p ≢ page → shown i (t.entry p) ≡ shown i ((with_copy t (Some page)).entry p)
copy_beside t page p i ne = ap (shown i) (sym (copy_other t page p ne))

-- ---- the byte that is shown

pub none_byte : (files : ℕ → Option File) (o : Option PageEntry) (i : ℕ) → ◌≡◌ {A = Option Seen} None (shown i o) → ◌≡◌ {A = Option ℕ} None (shown_byte files o i)
none_byte files None i e = refl
none_byte files (Some en) i e = absurd cc

own_shown : (s : Seen) (en : PageEntry) (i : ℕ) → Some s ≡ shown i (Some en) → (s.back ≡ en.back) × (s.own ≡ byte_at en.own i)
own_shown s en i e =
    let same : s ≡ record { back = en.back; prot = en.prot; own = byte_at en.own i } = cc in
    (ap (λ (x : Seen). x.back) same, ap (λ (x : Seen). x.own) same)

pub own_byte : (files : ℕ → Option File) (o : Option PageEntry) (i b : ℕ) (s : Seen) → Some s ≡ shown i o → s.own ≡ Some b
    → Some b ≡ shown_byte files o i
own_byte files None i b s e f = absurd cc
own_byte files (Some en) i b s e f = go en.own (sym (own_shown s en i e).1 ∙ f)
  where
    go : (w : Option Bytes) → byte_at w i ≡ Some b → Some b ≡ byte_at (bytes_of files en.back w) i
    go None h = absurd cc
    go (Some own) h = sym h

pub file_byte_shown : (files : ℕ → Option File) (o : Option PageEntry) (i : ℕ) (s : Seen) → Some s ≡ shown i o → s.own ≡ None
    → byte_at (back_bytes files s.back) i ≡ shown_byte files o i
file_byte_shown files None i s e f = absurd cc
file_byte_shown files (Some en) i s e f =
    let z = own_shown s en i e in
    ap (λ (b : Back). byte_at (back_bytes files b) i) z.0 ∙ go en.own (sym z.1 ∙ f)
  where
    go : (w : Option Bytes) → byte_at w i ≡ None → byte_at (back_bytes files en.back) i ≡ byte_at (bytes_of files en.back w) i
    go None h = refl
    go (Some own) h = absurd cc

-- ---- one step after another

pub byte_more : (o : List FileParts) (steps : List MapChange) (at : ℕ) (d : MapChange) (n p j byte r : ℕ) → at < length steps
    → byte_at (file_bytes ((map_of o (take at steps)).file n) p) j ≡ Some byte → r ≡ stored_byte (get_or steps at d) n p j byte
    → byte_at (file_bytes ((map_of o (take (at + 1) steps)).file n) p) j ≡ Some r
byte_more o steps at d n p j byte r l h e = subst (λ (t : Plain). byte_at (file_bytes (t.file n) p) j ≡ Some r) (sym (map_more o steps at d l))
    (byte_stored (map_of o (take at steps)) (get_or steps at d) n p j byte h ∙ ap Some (sym e))
