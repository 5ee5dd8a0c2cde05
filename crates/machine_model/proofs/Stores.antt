-- A store to a page with a frame: its own bytes change, or those of its file's page
use Rattle.machine_model.proofs.Words.{◌≡◌, ◌≢◌, ℕ, Bool, true, false, cond, refl, sym, ap, subst, Some, None, Option, ◌∙◌, ◌&&◌, Back, Anon, Shared, Private}
use Rattle.machine_model.proofs.Words.{put, Bytes, File, Plain, bytes_in, put_all, put_same, put_other, shows_file, is_private, World, Memory}
use Rattle.vm_base.specs.Plain.{PageEntry}
use Rattle.vm_base.specs.Apply.{stored_entry, stored_own, stored_back, with_byte}
use Rattle.machine_model.specs.Counted.{FilePage, IsCountedState}
use Rattle.machine_model.specs.Invariant.{ShowsPlain, Shows, ShowsPage, ShowsFile, Owns, MayOwn, own_frame, own_frame_of}
use Rattle.machine_model.proofs.SoundPages.{with_bytes, IsFramed, page_kept, file_kept, own_is_frame, own_so, is_it}
use Rattle.machine_model.proofs.SoundMoves.{shows_less}

-- ---- own bytes

-- the plain page map with other bytes of the page
abbrev pub with_own : Plain → ℕ → PageEntry → Bytes → Plain
with_own t p entry x = record t { entry = put t.entry p (Some (record entry { own = Some x })) }

stored_is : (w : World) (t : Plain) (p f i byte : ℕ) (k : IsFramed w t p f) → k.entry.own ≡ Some (w.memory.bytes f)
    → stored_entry t p (t.entry p) i byte ≡ with_own t p k.entry (put (w.memory.bytes f) i byte)
stored_is w t p f i byte k own = ap (λ z. stored_entry t p z i byte) k.at_page ∙ ap (λ own. stored_own t p k.entry own i byte) own

framed_own : (w : World) (t : Plain) (p f : ℕ) (k : IsFramed w t p f) → shows_file w.memory.cached k.info.meta.back f ≡ false
    → own_frame w.memory.cached (w.slots.info p) ≡ Some f
framed_own w t p f k h =
    ap (own_frame w.memory.cached) k.at_slot
    ∙ (ap (own_frame_of w.memory.cached k.info.meta.back) k.frame ∙ own_so w.memory.cached k.info.meta.back f h)

own_stored : (w : World) (t : Plain) (p f : ℕ) (x : Bytes) (k : IsFramed w t p f) → ShowsPlain w t → shows_file w.memory.cached k.info.meta.back f ≡ false
    → MayOwn k.info.meta.back → Shows w.made.file w.slots.info (with_bytes w.memory f x) (with_own t p k.entry x)
own_stored w t p f x k g h may =
    shows_less w t (with_own t p k.entry x) w.slots.info (put w.memory.bytes f x) g
    (put_all (λ q z. ShowsPage (with_bytes w.memory f x) (w.slots.info q) z) t.entry p (Some (record k.entry { own = Some x }))
    (subst (λ o. ShowsPage (with_bytes w.memory f x) o (Some (record k.entry { own = Some x }))) (sym k.at_slot) (
      k.back,
      k.prot,
      subst (λ frame. Owns (with_bytes w.memory f x) k.info.meta.back frame (Some x)) (sym k.frame)
          (subst (λ b. cond b (Some x ≡ None) (MayOwn k.info.meta.back × (Some x ≡ Some (put w.memory.bytes f x f)))) (sym h)
          (may, ap Some (sym (put_same w.memory.bytes f x)))),
    ))
    (λ q ne. page_kept w.memory f x (w.slots.info q) (t.entry q)
    (λ h. ne (sym (g.apart p q f mine (own_is_frame w.memory.cached (w.slots.info q) f h)))) (g.pages q)))
    (λ n. file_kept w.memory.bytes f x (w.memory.cached n) (w.made.file n) (t.file n) (λ l. g.unfiled p n l f mine) (g.files n))
    (λ p f h. h) (λ p f h. h) (λ p f h. g.whole p f h)
  where
    mine : own_frame w.memory.cached (w.slots.info p) ≡ Some f
    mine = framed_own w t p f k h

-- ---- bytes of the file

-- a frame that caches a file's page gets other bytes, and so does the file
file_written : (m : Memory) (n k f i byte : ℕ) (first now : Option File) → m.cached n k ≡ Some f
    → ((l : ℕ) → l ≢ k → m.cached n l ≢ Some f) → ShowsFile m.bytes (m.cached n) first now
    → ShowsFile (put m.bytes f (put (m.bytes f) i byte)) (m.cached n) first (with_byte now k i byte)
file_written m n k f i byte None None at others h = h
file_written m n k f i byte (Some a) (Some b) at others h = (h.0, h.1, bytes)
  where
    x : Bytes
    x = put (m.bytes f) i byte

    -- the file's page has the frame's bytes
    same : b.bytes k ≡ m.bytes f
    same = h.2 k ∙ ap (bytes_in m.bytes (a.bytes k)) at

    kept : (o : Option ℕ) (y : Bytes) → o ≢ Some f → bytes_in m.bytes y o ≡ bytes_in (put m.bytes f x) y o
    kept None y ne = refl
    kept (Some g) y ne = sym (put_other m.bytes f x g (λ e. ne (ap Some e)))

    bytes : (l : ℕ) → put b.bytes k (put (b.bytes k) i byte) l ≡ bytes_in (put m.bytes f x) (a.bytes l) (m.cached n l)
    bytes = put_all (λ l y. y ≡ bytes_in (put m.bytes f x) (a.bytes l) (m.cached n l)) b.bytes k (put (b.bytes k) i byte)
        (ap (λ y. put y i byte) same ∙ (sym (put_same m.bytes f x) ∙ sym (ap (bytes_in (put m.bytes f x) (a.bytes k)) at)))
        (λ l ne. h.2 l ∙ kept (m.cached n l) (a.bytes l) (others l ne))
file_written m n k f i byte _ _ at others h = absurd h

-- the file page that a frame caches is the only one
only_one : (w : World) → IsCountedState w → (n k m l f : ℕ) → w.memory.cached n k ≡ Some f → w.memory.cached m l ≡ Some f → (n ≡ m) × (k ≡ l)
only_one w c n k m l f a b =
    let x = c.caches n k f a in let y = c.caches m l f b in
    let same : one ≡ other = let z : Some one ≡ Some other = sym x ∙ y in cc in
    (ap (λ (p : FilePage). p.file) same, ap (λ (p : FilePage). p.page) same)
  where
    one : FilePage
    one = record { file = n; page = k }

    other : FilePage
    other = record { file = m; page = l }

file_stored : (w : World) (t : Plain) (p f n k i byte : ℕ) (z : IsFramed w t p f) → ShowsPlain w t → IsCountedState w
    → z.entry.back ≡ Shared n k → w.memory.cached n k ≡ Some f
    → Shows w.made.file w.slots.info (with_bytes w.memory f (put (w.memory.bytes f) i byte)) (stored_back t (Shared n k) i byte)
file_stored w t p f n k i byte z g c back at =
    shows_less w t (stored_back t (Shared n k) i byte) w.slots.info (put w.memory.bytes f x) g
    (λ q. page_kept w.memory f x (w.slots.info q) (t.entry q) (λ h. g.unfiled q n k f h at) (g.pages q))
    (put_all (λ m file. ShowsFile (put w.memory.bytes f x) (w.memory.cached m) (w.made.file m) file) t.file n (with_byte (t.file n) k i byte)
    (file_written w.memory n k f i byte (w.made.file n) (t.file n) at (λ l ne b. ne (sym (only_one w c n k n l f at b).1)) (g.files n))
    (λ m ne. file_kept w.memory.bytes f x (w.memory.cached m) (w.made.file m) (t.file m) (λ l b. ne (sym (only_one w c n k m l f at b).0)) (g.files m)))
    (λ p f h. h) (λ p f h. h) (λ p f h. g.whole p f h)
  where
    x : Bytes
    x = put (w.memory.bytes f) i byte

-- ---- either of them

-- where the page isn't a private one that shows its file's page
pub stored_shows : (w : World) (t : Plain) (p f i byte : ℕ) (k : IsFramed w t p f) → ShowsPlain w t → IsCountedState w
    → (is_private k.info.meta.back && shows_file w.memory.cached k.info.meta.back f) ≡ false
    → Shows w.made.file w.slots.info (with_bytes w.memory f (put (w.memory.bytes f) i byte)) (stored_entry t p (t.entry p) i byte)
stored_shows w t p f i byte k g c writes = go (shows_file w.memory.cached k.info.meta.back f) refl writes k.owns
  where
    Now : Plain → Type 0
    Now u = Shows w.made.file w.slots.info (with_bytes w.memory f (put (w.memory.bytes f) i byte)) u

    shared : (back : Back) → k.info.meta.back ≡ back → (is_private back && true) ≡ false → shows_file w.memory.cached back f ≡ true → k.entry.own ≡ None
        → Now (stored_entry t p (t.entry p) i byte)
    shared Anon e priv h own = absurd cc
    shared (Private n l) e priv h own = absurd cc
    shared (Shared n l) e priv h own =
        let back : k.entry.back ≡ Shared n l = sym k.back ∙ e in
        let is : stored_entry t p (t.entry p) i byte ≡ stored_back t (Shared n l) i byte =
        ap (λ z. stored_entry t p z i byte) k.at_page ∙ (ap (λ own. stored_own t p k.entry own i byte) own ∙ ap (λ back. stored_back t back i byte) back) in
        subst Now (sym is) (file_stored w t p f n l i byte k g c back (is_it (w.memory.cached n l) f h))

    go : (b : Bool) → shows_file w.memory.cached k.info.meta.back f ≡ b → (is_private k.info.meta.back && b) ≡ false
        → cond b (k.entry.own ≡ None) (MayOwn k.info.meta.back × (k.entry.own ≡ Some (w.memory.bytes f))) → Now (stored_entry t p (t.entry p) i byte)
    go true e priv own = shared k.info.meta.back refl priv e own
    go false e priv own =
        subst Now (sym (stored_is w t p f i byte k own.1)) (own_stored w t p f (put (w.memory.bytes f) i byte) k g e own.0)
