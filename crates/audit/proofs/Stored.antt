-- The plain page map that is kept, once a byte was stored
use Rattle.slot_lock.proofs.Words.{◌≡◌, ◌≢◌, ℕ, ◌<◌, ◌⊎◌, inl, inr, Bool, true, false, List, Option, Some, None, Result, Ok, Err, OnOk, is_some, refl}
use Rattle.slot_lock.proofs.Words.{sym, ◌∙◌, ap, subst}
use Rattle.slot_lock.proofs.Words.{if◌then◌else◌, IfSome, fun_ext, Back, Anon, Shared, Private, PageInfo, Mode, Prot, put, frame_of, Bytes, PageEntry, File}
use Rattle.slot_lock.proofs.Words.{Plain, bytes_of, eq_true, eq_false, put_same, put_other}
use Rattle.std.specs.Prelude.{OnErr, cond, ◌==◌, nat_lt}
use Rattle.vm_base.specs.Plain.{bytes_in, file_bytes, zeros}
use Rattle.vm_base.specs.Apply.{copied, detached_entry, first_own, is_uncopied, stored_back, stored_entry, with_byte}
use Rattle.vm_base.specs.Copies.{or_else}
use Rattle.slot_lock.specs.declared.plan.Touch.{Touch}
use Rattle.slot_lock.specs.Framed.{frames_in}
use Rattle.slot_lock.specs.Slots.{Slots}
use Rattle.frames.specs.Parts.{FrameParts, frame_bytes, free_frames}
use Rattle.frames.specs.Files.{FileParts, files_of, cached_in}
use Rattle.audit.specs.Judging.{copied_first, stored}
use Rattle.audit.specs.Keeping.{IsKept, Keeps, TakesFrame, entry_kept, file_kept, files_kept, frame_at, own_kept, plain_kept}
use Rattle.audit.specs.Storing.{CachesPage, GetsFrame, HasBytes, IsStored, is_shared_back}
use Rattle.audit.specs.Storing.CachesPage.{had as had_cached, took as took_cached}
use Rattle.audit.specs.Storing.GetsFrame.{had, took}
use Rattle.audit.proofs.Kept.{kept_gained, kept_same}
use Rattle.audit.proofs.Changed.{plain_same}

-- ---- a frame's bytes changed: what has another one stays

own_apart : (b : ℕ → Bytes) (x : ℕ) (v : Bytes) (back : Back) (f : Option ℕ) → (f ≡ Some x → ⊥) → own_kept (put b x v) back f ≡ own_kept b back f
own_apart b x v Anon None h = refl
own_apart b x v Anon (Some y) h = ap Some (put_other b x v y (λ e. h (ap Some e)))
own_apart b x v (Shared file page) f h = refl
own_apart b x v (Private file page) None h = refl
own_apart b x v (Private file page) (Some y) h = ap Some (put_other b x v y (λ e. h (ap Some e)))

abbrev entry_with : Back → Prot → Option Bytes → Option PageEntry
entry_with back prot own = Some (record { back = back; prot = prot; own = own })

entry_apart : (b : ℕ → Bytes) (x : ℕ) (v : Bytes) (i : Option PageInfo) → (frame_of i ≡ Some x → ⊥) → entry_kept (put b x v) i ≡ entry_kept b i
entry_apart b x v None h = refl
entry_apart b x v (Some info) h = ap (entry_with info.meta.back info.meta.prot) (own_apart b x v info.meta.back info.frame h)

page_apart : (b : ℕ → Bytes) (x : ℕ) (v first : Bytes) (c : Option ℕ) → (c ≡ Some x → ⊥) → bytes_in (put b x v) first c ≡ bytes_in b first c
page_apart b x v first None h = refl
page_apart b x v first (Some y) h = put_other b x v y (λ e. h (ap Some e))

abbrev file_with : Mode → ℕ → (ℕ → Bytes) → Option File
file_with mode count bytes = Some (record { mode = mode; count = count; bytes = bytes })

file_apart : (b : ℕ → Bytes) (x : ℕ) (v : Bytes) (c : ℕ → Option ℕ) (file : Option File) → ((k : ℕ) → c k ≡ Some x → ⊥)
    → file_kept (put b x v) c file ≡ file_kept b c file
file_apart b x v c None h = refl
file_apart b x v c (Some f) h = ap (file_with f.mode f.count) (fun_ext (λ k. page_apart b x v (f.bytes k) (c k) (h k)))

-- a plain map, by its parts
abbrev to_plain : (ℕ → Option PageEntry) → (ℕ → Option File) → Plain
to_plain entry file = record { entry = entry; file = file }

both : (e d : ℕ → Option PageEntry) (f g : ℕ → Option File) → ((p : ℕ) → e p ≡ d p) → ((n : ℕ) → f n ≡ g n) → to_plain e f ≡ to_plain d g
both e d f g h k = ap (λ x. to_plain x f) (fun_ext h) ∙ ap (to_plain d) (fun_ext k)

-- a frame that was free is nobody's
free_not : (frame : Option ℕ → ℕ → Option ℕ) (f : FrameParts) (x : ℕ) → IsKept frame f → free_frames f x ≡ true → (o : Option ℕ) (p : ℕ)
    → frame o p ≡ Some x → ⊥
free_not frame f x k free o p e = let t = (k.taken o p x e).1 in absurd cc

-- ---- a store to a page of a file

-- the page of the file has the frame x, and the plain map is as it was
record Cached (s : Slots) (o n : List FileParts) (old new : FrameParts) (file page x : ℕ) : Type 0 where
  plain : plain_kept s n new ≡ plain_kept s o old
  kept : Keeps s (cached_in n) new
  at : cached_in n file page ≡ Some x

caches : (s : Slots) (o n : List FileParts) (old new : FrameParts) (file page x : ℕ) → is_some (file_bytes (files_kept o old file) page) ≡ true
    → Keeps s (cached_in o) old → CachesPage o n old new file page x → Cached s o n old new file page x
caches s o n old new file page x some k (had_cached at same_files same_frames) =
    subst (λ y. Cached s o y old new file page x) (sym same_files)
    (subst (λ y. Cached s o o old y file page x) (sym same_frames) (record { plain = refl; kept = k; at = at }))
caches s o n old new file page x some k (took_cached none takes cached files) = go (file_bytes (files_kept o old file) page) refl some takes
  where
    at_here : cached_in n file page ≡ Some x
    at_here = ap (λ (c : ℕ → ℕ → Option ℕ). c file page) cached
        ∙ (ap (λ (c : ℕ → Option ℕ). c page) (put_same (cached_in o) file (put (cached_in o file) page (Some x))) ∙ put_same (cached_in o file) page (Some x))

    elsewhere : (m j : ℕ) → m ≢ file → cached_in n m j ≡ cached_in o m j
    elsewhere m j ne = ap (λ (c : ℕ → ℕ → Option ℕ). c m j) cached ∙ ap (λ (c : ℕ
        → Option ℕ). c j) (put_other (cached_in o) file (put (cached_in o file) page (Some x)) m ne)

    beside : (j : ℕ) → j ≢ page → cached_in n file j ≡ cached_in o file j
    beside j ne = ap (λ (c : ℕ → ℕ → Option ℕ). c file j) cached
        ∙ (ap (λ (c : ℕ → Option ℕ). c j) (put_same (cached_in o) file (put (cached_in o file) page (Some x)))
        ∙ put_other (cached_in o file) page (Some x) j ne)

    go : (b : Option Bytes) → file_bytes (files_kept o old file) page ≡ b → is_some b ≡ true → IfSome b (TakesFrame old new x)
        → Cached s o n old new file page x
    go None is h t = absurd cc
    go (Some v) is h t = record {
      plain = both _ _ _ _ (λ p. ap (λ (b : ℕ → Bytes). entry_kept b (s.info p)) t.bytes
          ∙ entry_apart (frame_bytes old) x v (s.info p) (free_not (frame_at (frames_in s) (cached_in o)) old x k t.was_free None p))
          (λ m. ap (λ (b : ℕ → Bytes). file_kept b (cached_in n m) (files_of n m)) t.bytes
          ∙ (ap (λ (f : ℕ → Option File). file_kept (put (frame_bytes old) x v) (cached_in n m) (f m)) files
          ∙ same_file m (m == file) refl));
      kept = kept_gained (frame_at (frames_in s) (cached_in o)) (frame_at (frames_in s) (cached_in n)) old new (Some file) page x t.was_free t.within
          t.free t.count gains k;
      at = at_here;
    }
      where
        not_x : (m j : ℕ) → cached_in o m j ≡ Some x → ⊥
        not_x m j = free_not (frame_at (frames_in s) (cached_in o)) old x k t.was_free (Some m) j

        -- the page's bytes are those that its frame was filled with
        filled : (f : File) → files_of o file ≡ Some f → v ≡ bytes_in (frame_bytes old) (f.bytes page) (cached_in o file page)
        filled f e = by (nat_lt page f.count) (ap (λ y. file_bytes (file_kept (frame_bytes old) (cached_in o file) y) page) (sym e) ∙ is)
          where
            by : (b : Bool) → ◌≡◌ {A = Option Bytes}
                (if b then Some (bytes_in (frame_bytes old) (f.bytes page) (cached_in o file page)) else None) (Some v)
                → v ≡ bytes_in (frame_bytes old) (f.bytes page) (cached_in o file page)
            by true h = cc
            by false h = absurd cc

        same_page : (f : File) → files_of o file ≡ Some f → (j : ℕ) (b : Bool) → (j == page) ≡ b
            → bytes_in (put (frame_bytes old) x v) (f.bytes j) (cached_in n file j) ≡ bytes_in (frame_bytes old) (f.bytes j) (cached_in o file j)
        same_page f e j true is' =
            subst (λ i. bytes_in (put (frame_bytes old) x v) (f.bytes i) (cached_in n file i) ≡ bytes_in (frame_bytes old) (f.bytes i) (cached_in o file i))
            (sym (eq_true j page is'))
            (ap (λ (c : Option ℕ). bytes_in (put (frame_bytes old) x v) (f.bytes page) c) at_here ∙ (put_same (frame_bytes old) x v ∙ filled f e))
        same_page f e j false is' =
            ap (λ (c : Option ℕ). bytes_in (put (frame_bytes old) x v) (f.bytes j) c) (beside j (eq_false j page is'))
            ∙ page_apart (frame_bytes old) x v (f.bytes j) (cached_in o file j) (not_x file j)

        this_file : (f : Option File) → files_of o file ≡ f
            → file_kept (put (frame_bytes old) x v) (cached_in n file) f ≡ file_kept (frame_bytes old) (cached_in o file) f
        this_file None e = refl
        this_file (Some f) e = ap (file_with f.mode f.count) (fun_ext (λ j. same_page f e j (j == page) refl))

        same_file : (m : ℕ) (b : Bool) → (m == file) ≡ b
            → file_kept (put (frame_bytes old) x v) (cached_in n m) (files_of o m) ≡ file_kept (frame_bytes old) (cached_in o m) (files_of o m)
        same_file m true is' =
            subst (λ i. file_kept (put (frame_bytes old) x v) (cached_in n i) (files_of o i) ≡ file_kept (frame_bytes old) (cached_in o i) (files_of o i))
            (sym (eq_true m file is')) (this_file (files_of o file) refl)
        same_file m false is' =
            ap (λ (c : ℕ → Option ℕ). file_kept (put (frame_bytes old) x v) c (files_of o m)) (fun_ext (λ j. elsewhere m j (eq_false m file is')))
            ∙ file_apart (frame_bytes old) x v (cached_in o m) (files_of o m) (not_x m)

        gains : (a : Option ℕ) (p y : ℕ) → frame_at (frames_in s) (cached_in n) a p ≡ Some y
            → (frame_at (frames_in s) (cached_in o) a p ≡ Some y) ⊎ ((a ≡ Some file) × (p ≡ page) × (y ≡ x))
        gains None p y e = inl e
        gains (Some m) p y e = by (m == file) (p == page) refl refl
          where
            by : (b d : Bool) → (m == file) ≡ b → (p == page) ≡ d
                → (cached_in o m p ≡ Some y) ⊎ ((Some m ≡ Some file) × (p ≡ page) × (y ≡ x))
            by false d is' at' = inl (sym (elsewhere m p (eq_false m file is')) ∙ e)
            by true false is' at' =
                inl (subst (λ i. cached_in n i p ≡ Some y → cached_in o i p ≡ Some y) (sym (eq_true m file is'))
                (λ h. sym (beside p (eq_false p page at')) ∙ h) e)
            by true true is' at' =
                let same_m : m ≡ file = eq_true m file is' in
                let same_p : p ≡ page = eq_true p page at' in
                let there : cached_in n file page ≡ Some y =
                subst (λ i. cached_in n i page ≡ Some y) same_m (subst (λ i. cached_in n m i ≡ Some y) same_p e) in
                let one : Some x ≡ Some y = sym at_here ∙ there in
                let same : y ≡ x = cc in
                inr (ap Some same_m, same_p, same)

-- the store to the frame of a page of a file
store_cached : (s : Slots) (o : List FileParts) (old new : FrameParts) (file page x i byte : ℕ) → Keeps s (cached_in o) old → cached_in o file page ≡ Some x
    → frame_bytes new ≡ put (frame_bytes old) x (put (frame_bytes old x) i byte)
    → plain_kept s o new ≡ stored_back (plain_kept s o old) (Shared file page) i byte
store_cached s o old new file page x i byte k at bytes =
    both _ _ _ _
    (λ p. ap (λ (b : ℕ → Bytes). entry_kept b (s.info p)) bytes ∙ entry_apart (frame_bytes old) x v (s.info p) (own_not p))
    (λ m. ap (λ (b : ℕ → Bytes). file_kept b (cached_in o m) (files_of o m)) bytes ∙ of_file m (m == file) refl)
  where
    v : Bytes
    v = put (frame_bytes old x) i byte

    own_not : (p : ℕ) → frame_of (s.info p) ≡ Some x → ⊥
    own_not p e = let z : ◌≡◌ {A = Option ℕ} None (Some file) = (k.one None (Some file) p page x e at).0 in absurd cc

    other_not : (m : ℕ) → m ≢ file → (j : ℕ) → cached_in o m j ≡ Some x → ⊥
    other_not m ne j e = let z : Some m ≡ Some file = (k.one (Some m) (Some file) j page x e at).0 in let same : m ≡ file = cc in ne same

    beside_not : (j : ℕ) → j ≢ page → cached_in o file j ≡ Some x → ⊥
    beside_not j ne e = ne (k.one (Some file) (Some file) j page x e at).1

    pages : (f : File) (j : ℕ) (b : Bool) → (j == page) ≡ b
        → bytes_in (put (frame_bytes old) x v) (f.bytes j) (cached_in o file j)
        ≡ cond b (put (bytes_in (frame_bytes old) (f.bytes page) (cached_in o file page)) i byte) (bytes_in (frame_bytes old) (f.bytes j) (cached_in o file j))
    pages f j true is' =
        subst (λ n. bytes_in (put (frame_bytes old) x v) (f.bytes n) (cached_in o file n)
        ≡ put (bytes_in (frame_bytes old) (f.bytes page) (cached_in o file page)) i byte) (sym (eq_true j page is'))
        (ap (λ (c : Option ℕ). bytes_in (put (frame_bytes old) x v) (f.bytes page) c) at
        ∙ (put_same (frame_bytes old) x v ∙ sym (ap (λ (c : Option ℕ). put (bytes_in (frame_bytes old) (f.bytes page) c) i byte) at)))
    pages f j false is' = page_apart (frame_bytes old) x v (f.bytes j) (cached_in o file j) (beside_not j (eq_false j page is'))

    this : (f : Option File) → file_kept (put (frame_bytes old) x v) (cached_in o file) f ≡ with_byte (file_kept (frame_bytes old)
        (cached_in o file) f) page i byte
    this None = refl
    this (Some f) = ap (file_with f.mode f.count) (fun_ext (λ j. pages f j (j == page) refl))

    of_file : (m : ℕ) (b : Bool) → (m == file) ≡ b → file_kept (put (frame_bytes old) x v) (cached_in o m) (files_of o m)
        ≡ cond b (with_byte (file_kept (frame_bytes old) (cached_in o file) (files_of o file)) page i byte) (file_kept (frame_bytes old) (cached_in o m)
        (files_of o m))
    of_file m true is' =
        subst (λ n. file_kept (put (frame_bytes old) x v) (cached_in o n) (files_of o n)
        ≡ with_byte (file_kept (frame_bytes old) (cached_in o file) (files_of o file)) page i byte) (sym (eq_true m file is')) (this (files_of o file))
    of_file m false is' = file_apart (frame_bytes old) x v (cached_in o m) (files_of o m) (other_not m (eq_false m file is'))

same_users : (frame : Option ℕ → ℕ → Option ℕ) (f g : FrameParts) → free_frames g ≡ free_frames f → g.count ≡ f.count → IsKept frame f → IsKept frame g
same_users frame f g free count k = record {
  taken = λ o p x e.
      let t = k.taken o p x e in (subst (λ n. x < n) (sym count) t.0, ap (λ (h : ℕ → Bool). h x) free ∙ t.1);
  one = k.one;
}

pub stored_shared : (s : Slots) (o n : List FileParts) (old mid new : FrameParts) (file page x i byte : ℕ)
    → is_some (file_bytes (files_kept o old file) page) ≡ true → CachesPage o n old mid file page x
    → frame_bytes new ≡ put (frame_bytes mid) x (put (frame_bytes mid x) i byte) → free_frames new ≡ free_frames mid → new.count ≡ mid.count
    → Keeps s (cached_in o) old → IsStored s n new (stored_back (plain_kept s o old) (Shared file page) i byte)
stored_shared s o n old mid new file page x i byte some h bytes free count k =
    let c = caches s o n old mid file page x some k h in
    record {
      plain = store_cached s n mid new file page x i byte c.kept c.at bytes ∙ ap (λ t. stored_back t (Shared file page) i byte) c.plain;
      kept = same_users (frame_at (frames_in s) (cached_in n)) mid new free count c.kept;
    }

-- what is kept once such a store was done, or found no memory and left all as it was
pub kept_by_store : {T E : Type 0} (r : Result T E) (s : Slots) (o n : List FileParts) (old new : FrameParts) (file page i byte : ℕ)
    → OnOk r ((t : Slots) → Keeps t (cached_in o) old → IsStored t n new (stored_back (plain_kept t o old) (Shared file page) i byte))
    → OnErr r (n ≡ o) → OnErr r (new ≡ old) → Keeps s (cached_in o) old → Keeps s (cached_in n) new
kept_by_store (Ok v) s o n old new file page i byte ok files frames k = (ok s k).kept
kept_by_store (Err e) s o n old new file page i byte ok files frames k =
    subst (λ (x : List FileParts). Keeps s (cached_in x) new) (sym files) (subst (λ (f : FrameParts). Keeps s (cached_in o) f) (sym frames) k)

-- ---- a store to a page's own bytes

-- the page has the frame x, and the plain map has the copy that was due, if one was
pub record Owned (s t : Slots) (o : List FileParts) (old new : FrameParts) (page : ℕ) (info : PageInfo) (x : ℕ) : Type 0 where
  pub plain : plain_kept t o new ≡ copied_first (plain_kept s o old) page
  pub kept : Keeps t (cached_in o) new
  pub at : t.info page ≡ Some (record info { frame = Some x })

pub not_copied : (t : Plain) (page : ℕ) (e : PageEntry) (c : Bool) (b : Option Bytes) → c ≡ false → copied t page e c b ≡ None
not_copied t page e true b h = absurd cc
not_copied t page e false None h = refl
not_copied t page e false (Some b) h = refl

-- a page with a frame needs no copy
no_copy : (t : Plain) (b : ℕ → Bytes) (page x : ℕ) (info : PageInfo) → info.frame ≡ Some x → is_shared_back info.meta.back ≡ false
    → t.entry page ≡ entry_kept b (Some info) → copied_first t page ≡ t
no_copy t b page x info e own at =
    ap (λ (d : Option Plain). or_else t d) (ap (λ (y : Option PageEntry). detached_entry t page y) at
    ∙ not_copied t page (record { back = info.meta.back; prot = info.meta.prot; own = own_kept b info.meta.back info.frame })
    (is_uncopied info.meta.back (own_kept b info.meta.back info.frame)) (bytes_of t.file info.meta.back (own_kept b info.meta.back info.frame))
    (uncopied info.meta.back info.frame e own))
  where
    uncopied : (back : Back) (f : Option ℕ) → f ≡ Some x → is_shared_back back ≡ false → is_uncopied back (own_kept b back f) ≡ false
    uncopied Anon None e o = refl
    uncopied Anon (Some y) e o = refl
    uncopied (Shared n k) f e o = absurd cc
    uncopied (Private n k) None e o = absurd cc
    uncopied (Private n k) (Some y) e o = refl

had_own : (s t : Slots) (o : List FileParts) (old : FrameParts) (page : ℕ) (info : PageInfo) (x : ℕ) → s.info page ≡ Some info
    → is_shared_back info.meta.back ≡ false → Keeps s (cached_in o) old → info.frame ≡ Some x → t.info ≡ s.info → Owned s t o old old page info x
had_own s t o old page info x at own k e same = record {
  plain = plain_same s t o old old same refl
      ∙ sym (no_copy (plain_kept s o old) (frame_bytes old) page x info e own (ap (entry_kept (frame_bytes old)) at));
  kept = kept_same s t (cached_in o) old same k;
  at = ap (λ (i : ℕ → Option PageInfo). i page) same ∙ (at ∙ ap (λ (f : Option ℕ). Some (record info { frame = f })) e);
}

took_own : (s t : Slots) (o : List FileParts) (old mid : FrameParts) (page : ℕ) (info : PageInfo) (x : ℕ) (v : Bytes) → s.info page ≡ Some info
    → is_shared_back info.meta.back ≡ false → Keeps s (cached_in o) old → info.frame ≡ None
    → bytes_of (files_kept o old) info.meta.back (first_own info.meta.back) ≡ Some v → TakesFrame old mid x v
    → t.info ≡ put s.info page (Some (record info { frame = Some x })) → Owned s t o old mid page info x
took_own s t o old mid page info x v at own k e shown takes now = record {
  plain = both _ _ _ _ (λ p. ap (λ (b : ℕ → Bytes). entry_kept b (t.info p)) takes.bytes
      ∙ (ap (λ (i : ℕ → Option PageInfo). entry_kept (put (frame_bytes old) x v) (i p)) now ∙ entry p (p == page) refl))
      (λ m. ap (λ (b : ℕ → Bytes). file_kept b (cached_in o m) (files_of o m)) takes.bytes
      ∙ file_apart (frame_bytes old) x v (cached_in o m) (files_of o m)
      (free_not (frame_at (frames_in s) (cached_in o)) old x k takes.was_free (Some m)))
      ∙ sym (copied_at info.meta.back own shown refl);
  kept = kept_gained (frame_at (frames_in s) (cached_in o)) (frame_at (frames_in t) (cached_in o)) old mid None page x takes.was_free takes.within
      takes.free takes.count gains k;
  at = ap (λ (i : ℕ → Option PageInfo). i page) now ∙ put_same s.info page (Some (record info { frame = Some x }));
}
  where
    was : Plain
    was = plain_kept s o old

    -- the entries with this one at the page
    entries_with : Option PageEntry → ℕ → Option PageEntry
    entries_with y = put was.entry page y

    new_entry : Option PageEntry
    new_entry = entry_with info.meta.back info.meta.prot (Some v)

    new_own : (back : Back) → is_shared_back back ≡ false → own_kept (put (frame_bytes old) x v) back (Some x) ≡ Some v
    new_own Anon h = ap Some (put_same (frame_bytes old) x v)
    new_own (Shared n j) h = absurd cc
    new_own (Private n j) h = ap Some (put_same (frame_bytes old) x v)

    entry : (p : ℕ) (b : Bool) → (p == page) ≡ b
        → entry_kept (put (frame_bytes old) x v) (cond b (Some (record info { frame = Some x })) (s.info p)) ≡ cond b new_entry (was.entry p)
    entry p true h = ap (entry_with info.meta.back info.meta.prot) (new_own info.meta.back own)
    entry p false h =
        entry_apart (frame_bytes old) x v (s.info p) (free_not (frame_at (frames_in s) (cached_in o)) old x k takes.was_free None p)

    was_at : was.entry page ≡ entry_with info.meta.back info.meta.prot (own_kept (frame_bytes old) info.meta.back None)
    was_at = ap (entry_kept (frame_bytes old)) at ∙ ap (λ (f : Option ℕ). entry_with info.meta.back info.meta.prot (own_kept
        (frame_bytes old) info.meta.back f)) e

    -- the copy, where one is due; an anonymous page has its zeros already
    anonymous : info.meta.back ≡ Anon → zeros ≡ v → to_plain (entries_with new_entry) was.file ≡ was
    anonymous is z = ap (λ (f : ℕ → Option PageEntry). to_plain f was.file) (fun_ext (λ p. by p (p == page) refl))
      where
        by : (p : ℕ) (b : Bool) → (p == page) ≡ b → cond b new_entry (was.entry p) ≡ was.entry p
        by p true h = subst (λ q. new_entry ≡ was.entry q) (sym (eq_true p page h))
            (ap (λ y. entry_with info.meta.back info.meta.prot (Some y)) (sym z)
            ∙ (ap (λ back. entry_with info.meta.back info.meta.prot (own_kept (frame_bytes old) back None)) (sym is) ∙ sym was_at))
        by p false h = refl

    copied_at : (back : Back) → is_shared_back back ≡ false → bytes_of (files_kept o old) back (first_own back) ≡ Some v → info.meta.back ≡ back
        → copied_first was page ≡ to_plain (entries_with new_entry) was.file
    copied_at Anon h b is =
        let z : zeros ≡ v = cc in
        no_due is ∙ sym (anonymous is z)
      where
        no_due : info.meta.back ≡ Anon → copied_first was page ≡ was
        no_due is' = ap (λ (d : Option Plain). or_else was d) (ap (λ (y : Option PageEntry). detached_entry was page y)
            (was_at ∙ ap (λ back. entry_with info.meta.back info.meta.prot (own_kept (frame_bytes old) back None)) is')
            ∙ ap (λ back. copied was page (record { back = info.meta.back; prot = info.meta.prot; own = Some zeros }) (is_uncopied back (Some zeros))
            (bytes_of was.file info.meta.back (Some zeros))) is')
    copied_at (Shared n j) h b is = absurd cc
    copied_at (Private n j) h b is = ap (λ (d : Option Plain). or_else was d) (ap (λ (y : Option PageEntry). detached_entry was page y)
        (was_at ∙ ap (λ back. entry_with info.meta.back info.meta.prot (own_kept (frame_bytes old) back None)) is)
        ∙ (ap (λ back. copied was page (record { back = info.meta.back; prot = info.meta.prot; own = None }) (is_uncopied back None)
        (bytes_of was.file back None)) is
        ∙ ap (λ y. copied was page (record { back = info.meta.back; prot = info.meta.prot; own = None }) true y) b))

    gains : (a : Option ℕ) (p y : ℕ) → frame_at (frames_in t) (cached_in o) a p ≡ Some y
        → (frame_at (frames_in s) (cached_in o) a p ≡ Some y) ⊎ ((a ≡ None) × (p ≡ page) × (y ≡ x))
    gains (Some m) p y h = inl h
    gains None p y h = by (p == page) refl (ap (λ (i : ℕ → Option PageInfo). frame_of (i p)) (sym now) ∙ h)
      where
        by : (b : Bool) → (p == page) ≡ b → frame_of (cond b (Some (record info { frame = Some x })) (s.info p)) ≡ Some y
            → (frame_of (s.info p) ≡ Some y) ⊎ ((◌≡◌ {A = Option ℕ} None None) × (p ≡ page) × (y ≡ x))
        by true is' h' = let same : y ≡ x = cc in inr (refl, eq_true p page is', same)
        by false is' h' = inl h'

pub gets : (s t : Slots) (o : List FileParts) (old mid : FrameParts) (page : ℕ) (info : PageInfo) (x : ℕ) → s.info page ≡ Some info
    → is_shared_back info.meta.back ≡ false → HasBytes o old info → Keeps s (cached_in o) old → GetsFrame s t o old mid page info x
    → Owned s t o old mid page info x
gets s t o old mid page info x at own some k (had e same same_frames) =
    subst (λ y. Owned s t o old y page info x) (sym same_frames) (had_own s t o old page info x at own k e same)
gets s t o old mid page info x at own some k (took e takes now) =
    go (bytes_of (files_kept o old) info.meta.back (first_own info.meta.back)) refl (first_bytes info.meta.back info.frame e some) takes
  where
    first_bytes : (back : Back) (f : Option ℕ) → f ≡ None → is_some (bytes_of (files_kept o old) back (own_kept (frame_bytes old) back f)) ≡ true
        → is_some (bytes_of (files_kept o old) back (first_own back)) ≡ true
    first_bytes Anon f e' h = refl
    first_bytes (Shared n j) f e' h = h
    first_bytes (Private n j) None e' h = h
    first_bytes (Private n j) (Some y) e' h = absurd cc

    go : (b : Option Bytes) → bytes_of (files_kept o old) info.meta.back (first_own info.meta.back) ≡ b → is_some b ≡ true
        → IfSome b (TakesFrame old mid x) → Owned s t o old mid page info x
    go None is h z = absurd cc
    go (Some v) is h z = took_own s t o old mid page info x v at own k e is z now

-- the store to the page's frame
store_to_frame : (t : Slots) (o : List FileParts) (old new : FrameParts) (page x i byte : ℕ) (info : PageInfo) → Keeps t (cached_in o) old
    → t.info page ≡ Some info → info.frame ≡ Some x → is_shared_back info.meta.back ≡ false
    → frame_bytes new ≡ put (frame_bytes old) x (put (frame_bytes old x) i byte)
    → plain_kept t o new ≡ stored_entry (plain_kept t o old) page ((plain_kept t o old).entry page) i byte
store_to_frame t o old new page x i byte info k at has own bytes =
    both _ _ _ _
    (λ p. ap (λ (b : ℕ → Bytes). entry_kept b (t.info p)) bytes ∙ entry p (p == page) refl)
    (λ m. ap (λ (b : ℕ → Bytes). file_kept b (cached_in o m) (files_of o m)) bytes
    ∙ file_apart (frame_bytes old) x v (cached_in o m) (files_of o m) (file_not m))
    ∙ sym (ap (λ (y : Option PageEntry). stored_entry was page y i byte) was_at)
  where
    v : Bytes
    v = put (frame_bytes old x) i byte

    was : Plain
    was = plain_kept t o old

    at_frame : frame_of (t.info page) ≡ Some x
    at_frame = ap frame_of at ∙ has

    file_not : (m j : ℕ) → cached_in o m j ≡ Some x → ⊥
    file_not m j e = let z : ◌≡◌ {A = Option ℕ} None (Some m) = (k.one None (Some m) page j x at_frame e).0 in absurd cc

    page_not : (p : ℕ) → p ≢ page → frame_of (t.info p) ≡ Some x → ⊥
    page_not p ne e = ne (k.one None None p page x e at_frame).1

    own_at : (b : ℕ → Bytes) (back : Back) → is_shared_back back ≡ false → own_kept b back info.frame ≡ Some (b x)
    own_at b Anon h = ap (own_kept b Anon) has
    own_at b (Shared n j) h = absurd cc
    own_at b (Private n j) h = ap (own_kept b (Private n j)) has

    was_at : was.entry page ≡ entry_with info.meta.back info.meta.prot (Some (frame_bytes old x))
    was_at = ap (entry_kept (frame_bytes old)) at ∙ ap (entry_with info.meta.back info.meta.prot) (own_at (frame_bytes old) info.meta.back own)

    here : entry_kept (put (frame_bytes old) x v) (t.info page) ≡ entry_with info.meta.back info.meta.prot (Some v)
    here = ap (entry_kept (put (frame_bytes old) x v)) at
        ∙ (ap (entry_with info.meta.back info.meta.prot) (own_at (put (frame_bytes old) x v) info.meta.back own)
        ∙ ap (λ y. entry_with info.meta.back info.meta.prot (Some y)) (put_same (frame_bytes old) x v))

    entry : (p : ℕ) (b : Bool) → (p == page) ≡ b
        → entry_kept (put (frame_bytes old) x v) (t.info p) ≡ cond b (entry_with info.meta.back info.meta.prot (Some v)) (was.entry p)
    entry p true h = subst (λ q. entry_kept (put (frame_bytes old) x v) (t.info q) ≡ entry_with info.meta.back info.meta.prot (Some v))
        (sym (eq_true p page h)) here
    entry p false h = entry_apart (frame_bytes old) x v (t.info p) (page_not p (eq_false p page h))

pub stored_own : (s t : Slots) (o : List FileParts) (old mid new : FrameParts) (info : PageInfo) (touch : Touch) (x : ℕ)
    → s.info touch.page ≡ Some info → is_shared_back info.meta.back ≡ false → HasBytes o old info → Keeps s (cached_in o) old
    → GetsFrame s t o old mid touch.page info x
    → frame_bytes new ≡ put (frame_bytes mid) x (put (frame_bytes mid x) touch.offset touch.byte) → free_frames new ≡ free_frames mid
    → new.count ≡ mid.count → IsStored t o new (stored (plain_kept s o old) touch)
stored_own s t o old mid new info touch x at own some k h bytes free count =
    let g = gets s t o old mid touch.page info x at own some k h in
    record {
      plain = store_to_frame t o mid new touch.page x touch.offset touch.byte (record info { frame = Some x }) g.kept g.at refl own bytes
          ∙ ap (λ u. stored_entry u touch.page (u.entry touch.page) touch.offset touch.byte) g.plain;
      kept = same_users (frame_at (frames_in t) (cached_in o)) mid new free count g.kept;
    }

-- a shared page needs no copy, and its store is one to the file
pub shared_stored : (s : Slots) (o : List FileParts) (f : FrameParts) (info : PageInfo) (touch : Touch) (n k : ℕ) → s.info touch.page ≡ Some info
    → info.meta.back ≡ Shared n k → stored_back (plain_kept s o f) (Shared n k) touch.offset touch.byte ≡ stored (plain_kept s o f) touch
shared_stored s o f info touch n k at is =
    sym (ap (λ u. stored_entry u touch.page (u.entry touch.page) touch.offset touch.byte) none
    ∙ ap (λ y. stored_entry was touch.page y touch.offset touch.byte) was_at)
  where
    was : Plain
    was = plain_kept s o f

    was_at : was.entry touch.page ≡ entry_with (Shared n k) info.meta.prot None
    was_at = ap (entry_kept (frame_bytes f)) at
        ∙ ap (λ back. entry_with back info.meta.prot (own_kept (frame_bytes f) back info.frame)) is

    none : copied_first was touch.page ≡ was
    none = ap (λ (d : Option Plain). or_else was d) (ap (λ (y : Option PageEntry). detached_entry was touch.page y) was_at
        ∙ not_copied was touch.page (record { back = Shared n k; prot = info.meta.prot; own = None }) false (bytes_of was.file (Shared n k) None) refl)

-- the frame is there
pub gets_within : (s t : Slots) (o : List FileParts) (old mid : FrameParts) (page : ℕ) (info : PageInfo) (x : ℕ) → s.info page ≡ Some info
    → is_shared_back info.meta.back ≡ false → HasBytes o old info → Keeps s (cached_in o) old → GetsFrame s t o old mid page info x → x < mid.count
gets_within s t o old mid page info x at own some k h =
    let g = gets s t o old mid page info x at own some k h in
    (g.kept.taken None page x (ap frame_of g.at)).0
