-- A page gets a frame: of its own, the one that caches its file page, or a copy of that one
use Rattle.machine_model.proofs.Words.{◌≡◌, ◌≢◌, ℕ, Bool, true, false, cond, arith, refl, sym, ap, subst, Some, None, Option, ◌∙◌, ints, if◌then◌else◌, Back}
use Rattle.machine_model.proofs.Words.{Anon, Shared, Private, PageInfo, Access, put, frame_of, info_with_frame, info_with_copy, Bytes, File, Plain, bytes_in}
use Rattle.machine_model.proofs.Words.{zeros, is_anonymous, is_uncopied, detached, put_all, put_same, put_other, Touch, is_cached, is_private_store, Counts}
use Rattle.machine_model.proofs.Words.{Event, Fill, CopyAcks, Install, is_past_end, back_of, file_frame, shows_file, with_cached, page_now, bytes_shown}
use Rattle.machine_model.proofs.Words.{after_zeros, after_first_copy, after_caching, after_sharing, after_copy, taken_in, World, Memory, CanAccess}
use Rattle.vm_base.specs.declared.rights.Access.TheVariants.{Store}
use Rattle.vm_base.specs.Plain.{PageEntry, bytes_of, back_bytes}
use Rattle.vm_base.specs.Apply.{first_own, copied, detached_entry}
use Rattle.machine_model.specs.Orderly.{IsUsable}
use Rattle.machine_model.proofs.Moves.{IsCallOf, call_at}
use Rattle.machine_model.proofs.Shapes.{IsShowing}
use Rattle.machine_model.proofs.CoherenceSteps.{same_shown}
use Rattle.machine_model.proofs.CountsKept.{unused_no_page, cached_positive}
use Rattle.machine_model.specs.Invariant.{ShowsPlain, Shows, ShowsPage, ShowsFile, Owns, MayOwn, own_frame, own_frame_of}
use Rattle.machine_model.proofs.SoundMoves.{IsShown, Leaves, goes_on, copies_on, with_counts_shown}
use Rattle.machine_model.proofs.SoundPages.{with_bytes, IsFramed, framed, can_access, page_kept, file_kept, own_is_frame, own_none, shown_now, is_it}
use Rattle.machine_model.proofs.Stores.{with_own}

-- ---- a frame that a call has taken

-- it is no page's
pub nobodys : (w : World) (f : ℕ) → IsShown w → (c : ℕ) → taken_in (w.calls.phase c) ≡ Some f → (p : ℕ) → frame_of (w.slots.info p) ≢ Some f
nobodys w f well c mine p = unused_no_page w well.order well.counted f p (well.counted.taken c f mine)

-- and caches no file page
pub uncached : (w : World) (f : ℕ) → IsShown w → (c : ℕ) → taken_in (w.calls.phase c) ≡ Some f → (n k : ℕ) → w.memory.cached n k ≢ Some f
uncached w f well c mine n k h =
    let a = cached_positive w well.counted n k f h in let b = (well.counted.taken c f mine).zero in omega (arith, ints, a, b)

pub unshown : (cached : ℕ → ℕ → Option ℕ) (back : Back) (f : ℕ) → ((n k : ℕ) → cached n k ≢ Some f) → shows_file cached back f ≡ false
unshown cached back f none = go (shows_file cached back f) refl
  where
    no : (back : Back) → shows_file cached back f ≡ true → ⊥
    no Anon h = cc
    no (Shared n k) h = none n k (is_it (cached n k) f h)
    no (Private n k) h = none n k (is_it (cached n k) f h)

    go : (b : Bool) → shows_file cached back f ≡ b → b ≡ false
    go false h = refl
    go true h = absurd (no back h)

-- ---- a page with a frame of its own

pub new_frame : (f : ℕ) (o : Option PageInfo) (x : ℕ) → frame_of (info_with_frame f o) ≡ Some x → f ≡ x
new_frame f None x h = absurd cc
new_frame f (Some info) x h = cc

copied_frame : (f : ℕ) (o : Option PageInfo) (x : ℕ) → frame_of (info_with_copy f o) ≡ Some x → f ≡ x
copied_frame f None x h = absurd cc
copied_frame f (Some info) x h = cc

filled_past : (file : ℕ → Option File) (f : ℕ) (o : Option PageInfo) → is_past_end file (info_with_frame f o) ≡ is_past_end file o
filled_past file f None = refl
filled_past file f (Some info) = refl

copied_past : (file : ℕ → Option File) (f : ℕ) (o : Option PageInfo) → is_past_end file (info_with_copy f o) ≡ is_past_end file o
copied_past file f None = refl
copied_past file f (Some info) = refl

usable_past : (file : ℕ → Option File) (o : Option PageInfo) (access : Access) (frame : Option ℕ) → IsUsable file o access frame → is_past_end file o ≡ false
usable_past file None access frame u = absurd u
usable_past file (Some info) access frame u = u.1

-- The page has this now, with a frame that nothing has had, which has these bytes; every other page has in u what it had.
owned_shown : (w : World) (c f page : ℕ) (x : Bytes) (new : Option PageInfo) (u : Plain) (well : IsShown w) → taken_in (w.calls.phase c) ≡ Some f
    → ((y : ℕ) → frame_of new ≡ Some y → f ≡ y) → is_past_end w.made.file new ≡ false
    → ShowsPage (with_bytes w.memory f x) new (u.entry page) → ((p : ℕ) → p ≢ page → u.entry p ≡ well.plain.entry p) → u.file ≡ well.plain.file
    → Shows w.made.file (put w.slots.info page new) (with_bytes w.memory f x) u
owned_shown w c f page x new u well mine its within target others files = record {
  pages = put_all (λ p o. ShowsPage (with_bytes w.memory f x) o (u.entry p)) w.slots.info page new target
      (λ p ne. subst (λ z. ShowsPage (with_bytes w.memory f x) (w.slots.info p) z) (sym (others p ne))
      (page_kept w.memory f x (w.slots.info p) (t.entry p) (λ h. free p (own_is_frame w.memory.cached (w.slots.info p) f h)) (g.pages p)));
  files = λ n. subst (λ file. ShowsFile (put w.memory.bytes f x) (w.memory.cached n) (w.made.file n) (file n)) (sym files)
      (file_kept w.memory.bytes f x (w.memory.cached n) (w.made.file n) (t.file n) (λ l. uncached w f well c mine n l) (g.files n));
  apart = λ p q y. put_all (λ p o. own_frame w.memory.cached o ≡ Some y → frame_of (now q) ≡ Some y → p ≡ q) w.slots.info page new
      (λ h. put_all (λ q o. frame_of o ≡ Some y → page ≡ q) w.slots.info page new (λ _. refl)
      (λ q ne z. absurd (free q (z ∙ ap Some (sym (its y (own_is_frame w.memory.cached new y h)))))) q)
      (λ p ne h. put_all (λ q o. frame_of o ≡ Some y → p ≡ q) w.slots.info page new
      (λ z. absurd (free p (own_is_frame w.memory.cached (w.slots.info p) y h ∙ ap Some (sym (its y z))))) (λ q _ z. g.apart p q y h z) q)
      p;
  unfiled = λ p n k y. put_all (λ p o. own_frame w.memory.cached o ≡ Some y → w.memory.cached n k ≢ Some y) w.slots.info page new
      (λ h i. uncached w f well c mine n k (i ∙ ap Some (sym (its y (own_is_frame w.memory.cached new y h)))))
      (λ p ne h. g.unfiled p n k y h) p;
  whole = λ p y. put_all (λ p o. frame_of o ≡ Some y → is_past_end w.made.file o ≡ false) w.slots.info page new
      (λ _. within) (λ p ne h. g.whole p y h) p;
}
  where
    t : Plain
    t = well.plain

    g : ShowsPlain w t
    g = well.good

    now : ℕ → Option PageInfo
    now = put w.slots.info page new

    free : (p : ℕ) → frame_of (w.slots.info p) ≢ Some f
    free = nobodys w f well c mine

-- ---- zeros

no_frame_yet : (file : ℕ → Option File) (access : Access) (o : Option PageInfo) → IsUsable file o access None → frame_of o ≡ None
no_frame_yet file access None u = refl
no_frame_yet file access (Some info) u = u.2

-- an anonymous page without frame has zero bytes, as its frame does now
zeros_shown : (m : Memory) (f : ℕ) (o : Option PageInfo) (z : Option PageEntry) → back_of o ≡ Anon → frame_of o ≡ None → ShowsPage m o z
    → ShowsPage (with_bytes m f zeros) (info_with_frame f o) z
zeros_shown m f (Some info) (Some entry) a none s =
    let own : entry.own ≡ Some zeros = subst (λ x. Owns m Anon x entry.own) none (subst (λ x. Owns m x info.frame entry.own) a s.2) in
    (s.0, s.1, subst (λ back. Owns (with_bytes m f zeros) back (Some f) entry.own) (sym a) (tt, own ∙ ap Some (sym (put_same m.bytes f zeros))))
zeros_shown m f _ _ a none s = s

pub page_zeroed : (w : World) (event : Event) (c : ℕ) (touch : Touch) (f : ℕ) (counts : Counts) → w.calls.phase c ≡ Fill touch (Some f)
    → back_of (w.slots.info touch.page) ≡ Anon → (well : IsShown w) → Leaves w well.plain event (after_zeros c touch f counts w)
page_zeroed w event c touch f counts e anon well =
    goes_on w event c (Install touch) (after_zeros c touch f counts w).slots w.hardware (after_zeros c touch f counts w).memory well
    (with_counts_shown w.made.file _ (with_bytes w.memory f shown) counts well.plain
    (owned_shown w c f touch.page shown (info_with_frame f (w.slots.info touch.page)) well.plain well (ap taken_in e)
    (new_frame f (w.slots.info touch.page))
    (filled_past w.made.file f (w.slots.info touch.page) ∙ usable_past w.made.file (w.slots.info touch.page) touch.access None k.ready.0)
    (subst (λ x. ShowsPage (with_bytes w.memory f x) (info_with_frame f (w.slots.info touch.page)) (well.plain.entry touch.page)) (sym are_zeros)
    (zeros_shown w.memory f (w.slots.info touch.page) (well.plain.entry touch.page) anon
    (no_frame_yet w.made.file touch.access (w.slots.info touch.page) k.ready.0) (well.good.pages touch.page)))
    (λ p ne. refl) refl))
  where
    k : IsCallOf w c (Fill touch (Some f))
    k = call_at w c (Fill touch (Some f)) e well.order

    shown : Bytes
    shown = bytes_shown w.made.file w.memory (back_of (w.slots.info touch.page))

    are_zeros : shown ≡ zeros
    are_zeros = ap (bytes_shown w.made.file w.memory) anon

-- ---- a copy

-- a private page that shows its file's page, in the slots and in the plain page map
pub record IsUncopied (w : World) (t : Plain) (page : ℕ) (x : Bytes) : Type 0 where
  pub info : PageInfo
  pub entry : PageEntry
  pub at_slot : w.slots.info page ≡ Some info
  pub at_page : t.entry page ≡ Some entry
  pub back : info.meta.back ≡ entry.back
  pub prot : info.meta.prot ≡ entry.prot
  pub may_own : MayOwn info.meta.back
  pub private : is_uncopied entry.back entry.own ≡ true
  pub bytes : bytes_of t.file entry.back entry.own ≡ Some x

-- the plain page map gives it a copy of what it shows
pub its_copy : (w : World) (t : Plain) (page : ℕ) (x : Bytes) (k : IsUncopied w t page x) → detached t page ≡ Some (with_own t page k.entry x)
its_copy w t page x k =
    ap (detached_entry t page) k.at_page
    ∙ (ap (λ b. copied t page k.entry b (bytes_of t.file k.entry.back k.entry.own)) k.private ∙ ap (copied t page k.entry true) k.bytes)

-- the page with its copy
copy_shown : (w : World) (t : Plain) (page f : ℕ) (x : Bytes) (k : IsUncopied w t page x) (new : PageInfo) → new.meta ≡ k.info.meta → new.frame ≡ Some f
    → ((n l : ℕ) → w.memory.cached n l ≢ Some f) → ShowsPage (with_bytes w.memory f x) (Some new) ((with_own t page k.entry x).entry page)
copy_shown w t page f x k new meta frame none =
    subst (λ z. ShowsPage (with_bytes w.memory f x) (Some new) z) (sym (put_same t.entry page (Some (record k.entry { own = Some x })))) (
      ap (λ m. m.back) meta ∙ k.back,
      ap (λ m. m.prot) meta ∙ k.prot,
      subst (λ o. Owns (with_bytes w.memory f x) new.meta.back o (Some x)) (sym frame)
          (subst (λ b. cond b (Some x ≡ None) (MayOwn new.meta.back × (Some x ≡ Some (put w.memory.bytes f x f))))
          (sym (unshown w.memory.cached new.meta.back f none))
          (subst (λ m. MayOwn m.back) (sym meta) k.may_own, ap Some (sym (put_same w.memory.bytes f x)))),
    )

pub private_only : (back : Back) (access : Access) → is_private_store back access ≡ true
    → (access ≡ Store) × (is_uncopied back None ≡ true) × MayOwn back × (back ≢ Anon)
    × (first_own back ≡ None)
private_only (Private n k) Store h = (refl, refl, tt, λ e. cc, refl)
private_only _ _ h = absurd cc

-- a page without a frame
first_uncopied : (w : World) (t : Plain) (page : ℕ) (access : Access) → ShowsPlain w t → IsUsable w.made.file (w.slots.info page) access None
    → is_private_store (back_of (w.slots.info page)) access ≡ true
    → IsUncopied w t page (bytes_shown w.made.file w.memory (back_of (w.slots.info page)))
first_uncopied w t page access g u store = go (w.slots.info page) (t.entry page) refl refl (g.pages page) u store
  where
    go : (o : Option PageInfo) (z : Option PageEntry) → w.slots.info page ≡ o → t.entry page ≡ z → ShowsPage w.memory o z
        → IsUsable w.made.file o access None → is_private_store (back_of o) access ≡ true
        → IsUncopied w t page (bytes_shown w.made.file w.memory (back_of o))
    go None z a b s u store = absurd u
    go (Some info) None a b s u store = absurd s
    go (Some info) (Some entry) a b s u store =
        let p = private_only info.meta.back access store in
        let own : entry.own ≡ None = subst (λ x. Owns w.memory info.meta.back x entry.own) u.2 s.2 ∙ p.4 in
        record {
          info = info;
          entry = entry;
          at_slot = a;
          at_page = b;
          back = s.0;
          prot = s.1;
          may_own = p.2;
          private = ap (is_uncopied entry.back) own ∙ (ap (λ back. is_uncopied back None) (sym s.0) ∙ p.1);
          bytes = ap (bytes_of t.file entry.back) own ∙ (ap (back_bytes t.file) (sym s.0) ∙ shown_now w t info.meta.back g.files p.3 u.1);
        }

pub as_store : (w : World) (t : Plain) (page : ℕ) (access : Access) (frame : Option ℕ) → ShowsPlain w t → IsUsable w.made.file (w.slots.info page) access frame
    → access ≡ Store → CanAccess t.file (t.entry page) Store
as_store w t page access frame g u e = subst (CanAccess t.file (t.entry page)) e (can_access w t page access frame g u)

pub page_first_copied : (w : World) (event : Event) (c : ℕ) (touch : Touch) (f : ℕ) (counts : Counts) → w.calls.phase c ≡ Fill touch (Some f)
    → is_private_store (back_of (w.slots.info touch.page)) touch.access ≡ true → (well : IsShown w) → Leaves w well.plain event (after_first_copy c touch f counts w)
page_first_copied w event c touch f counts e store well =
    copies_on w event c touch.page (Install touch) (after_first_copy c touch f counts w).slots w.hardware (after_first_copy c touch f counts w).memory well
    (with_own well.plain touch.page z.entry x)
    (as_store w well.plain touch.page touch.access None well.good k.ready.0 (private_only (back_of (w.slots.info touch.page)) touch.access store).0)
    (its_copy w well.plain touch.page x z)
    (with_counts_shown w.made.file _ (with_bytes w.memory f x) counts (with_own well.plain touch.page z.entry x)
    (owned_shown w c f touch.page x (info_with_frame f (w.slots.info touch.page)) (with_own well.plain touch.page z.entry x) well (ap taken_in e)
    (new_frame f (w.slots.info touch.page))
    (filled_past w.made.file f (w.slots.info touch.page) ∙ usable_past w.made.file (w.slots.info touch.page) touch.access None k.ready.0)
    (subst (λ o. ShowsPage (with_bytes w.memory f x) (info_with_frame f o) ((with_own well.plain touch.page z.entry x).entry touch.page)) (sym z.at_slot)
    (copy_shown w well.plain touch.page f x z (record z.info { frame = Some f }) refl refl (uncached w f well c (ap taken_in e))))
    (λ p ne. put_other well.plain.entry touch.page (Some (record z.entry { own = Some x })) p ne) refl))
  where
    k : IsCallOf w c (Fill touch (Some f))
    k = call_at w c (Fill touch (Some f)) e well.order

    x : Bytes
    x = bytes_shown w.made.file w.memory (back_of (w.slots.info touch.page))

    z : IsUncopied w well.plain touch.page x
    z = first_uncopied w well.plain touch.page touch.access well.good k.ready.0 store

-- a page whose frame shows its file's page
pub shown_uncopied : (w : World) (t : Plain) (page g : ℕ) (access : Access) (k : IsFramed w t page g)
    → is_private_store (back_of (w.slots.info page)) access ≡ true
    → shows_file w.memory.cached (back_of (w.slots.info page)) g ≡ true → IsUncopied w t page (w.memory.bytes g)
shown_uncopied w t page g access k store shown =
    let p = private_only k.info.meta.back access (ap (λ o. is_private_store (back_of o) access) (sym k.at_slot) ∙ store) in
    let h : shows_file w.memory.cached k.info.meta.back g ≡ true = ap (λ o. shows_file w.memory.cached (back_of o) g) (sym k.at_slot) ∙ shown in
    let own : k.entry.own ≡ None = subst (λ b. cond b (k.entry.own ≡ None) (MayOwn k.info.meta.back × (k.entry.own ≡ Some (w.memory.bytes g)))) h k.owns in
    record {
      info = k.info;
      entry = k.entry;
      at_slot = k.at_slot;
      at_page = k.at_page;
      back = k.back;
      prot = k.prot;
      may_own = p.2;
      private = ap (is_uncopied k.entry.back) own ∙ (ap (λ back. is_uncopied back None) (sym k.back) ∙ p.1);
      bytes = k.bytes;
    }

pub page_copied : (w : World) (event : Event) (c : ℕ) (touch : Touch) (f g : ℕ) (counts : Counts) → w.calls.phase c ≡ CopyAcks touch f
    → frame_of (w.slots.info touch.page) ≡ Some g → (well : IsShown w) → Leaves w well.plain event (after_copy c touch f g counts w)
page_copied w event c touch f g counts e at well =
    copies_on w event c touch.page (Install touch) (after_copy c touch f g counts w).slots w.hardware (after_copy c touch f g counts w).memory well
    (with_own well.plain touch.page z.entry x)
    (as_store w well.plain touch.page touch.access (Some k.ready.0) well.good k.ready.1
    (private_only (back_of (w.slots.info touch.page)) touch.access k.ready.2.store).0)
    (its_copy w well.plain touch.page x z)
    (with_counts_shown w.made.file _ (with_bytes w.memory f x) counts (with_own well.plain touch.page z.entry x)
    (owned_shown w c f touch.page x (info_with_copy f (w.slots.info touch.page)) (with_own well.plain touch.page z.entry x) well (ap taken_in e)
    (copied_frame f (w.slots.info touch.page))
    (copied_past w.made.file f (w.slots.info touch.page) ∙ usable_past w.made.file (w.slots.info touch.page) touch.access (Some k.ready.0) k.ready.1)
    (subst (λ o. ShowsPage (with_bytes w.memory f x) (info_with_copy f o) ((with_own well.plain touch.page z.entry x).entry touch.page)) (sym z.at_slot)
    (copy_shown w well.plain touch.page f x z (record z.info { frame = Some f; cores = 0 }) refl refl (uncached w f well c (ap taken_in e))))
    (λ p ne. put_other well.plain.entry touch.page (Some (record z.entry { own = Some x })) p ne) refl))
  where
    k : IsCallOf w c (CopyAcks touch f)
    k = call_at w c (CopyAcks touch f) e well.order

    x : Bytes
    x = w.memory.bytes g

    framed_by : (o : Option PageInfo) (h : ℕ) → IsUsable w.made.file o touch.access (Some h) → frame_of o ≡ Some h
    framed_by None h u = absurd u
    framed_by (Some info) h u = u.2

    -- the frame of the page is the one that shows its file's page
    same : k.ready.0 ≡ g
    same = let a = framed_by (w.slots.info touch.page) k.ready.0 k.ready.1 in let b = sym a ∙ at in cc

    z : IsUncopied w well.plain touch.page x
    z = shown_uncopied w well.plain touch.page g touch.access (framed w well.plain touch.page g well.good at) k.ready.2.store
        (subst (λ h. shows_file w.memory.cached (back_of (w.slots.info touch.page)) h ≡ true) same k.ready.2.shown)

-- ---- the frame that caches the file's page

-- a page of a file without frame shows the file's page, as by its frame now
file_shown : (m : Memory) (f : ℕ) (o : Option PageInfo) (z : Option PageEntry) → is_anonymous (back_of o) ≡ false → frame_of o ≡ None
    → shows_file m.cached (back_of o) f ≡ true → (before : Memory) → ShowsPage before o z → ShowsPage m (info_with_frame f o) z
file_shown m f None None of_file none h before s = s
file_shown m f None (Some entry) of_file none h before s = s
file_shown m f (Some info) None of_file none h before s = s
file_shown m f (Some info) (Some entry) of_file none h before s = (
  s.0,
  s.1,
  subst (λ b. cond b (entry.own ≡ None) (MayOwn info.meta.back × (entry.own ≡ Some (m.bytes f)))) (sym h)
      (subst (λ x. Owns before info.meta.back x entry.own) none s.2 ∙ bare info.meta.back of_file),
)
  where
    bare : (back : Back) → is_anonymous back ≡ false → first_own back ≡ None
    bare Anon i = absurd cc
    bare _ i = refl

not_anon : (back : Back) → is_anonymous back ≡ false → back ≢ Anon
not_anon Anon h e = cc
not_anon _ h e = cc

framed_own_none : (cached : ℕ → ℕ → Option ℕ) (f : ℕ) (o : Option PageInfo) → shows_file cached (back_of o) f ≡ true
    → own_frame cached (info_with_frame f o) ≡ None
framed_own_none cached f None h = refl
framed_own_none cached f (Some info) h = own_none cached info.meta.back f h

is_itself : (f : ℕ) → is_cached (Some f) f ≡ true
is_itself f = ap (λ b. b) (same f)
  where
    same : (f : ℕ) → is_cached (Some f) f ≡ true
    same f = grind (arith)

shows_cached : (cached : ℕ → ℕ → Option ℕ) (back : Back) (g : ℕ) → file_frame cached back ≡ Some g → shows_file cached back g ≡ true
shows_cached cached back g h = ap (λ o. is_cached o g) h ∙ is_itself g

pub page_shared : (w : World) (event : Event) (c : ℕ) (touch : Touch) (own : Option ℕ) (g : ℕ) (counts : Counts) → w.calls.phase c ≡ Fill touch own
    → IsShowing (w.slots.info touch.page) touch.access → file_frame w.memory.cached (back_of (w.slots.info touch.page)) ≡ Some g → (well : IsShown w)
    → Leaves w well.plain event (after_sharing c touch own g counts w)
page_shared w event c touch own g counts e shows at well =
    goes_on w event c (Install touch) (after_sharing c touch own g counts w).slots w.hardware (after_sharing c touch own g counts w).memory well (record {
      pages = put_all (λ p o. ShowsPage w.memory o (well.plain.entry p)) w.slots.info touch.page new
          (file_shown w.memory g (w.slots.info touch.page) (well.plain.entry touch.page) shows.of_file
          (no_frame_yet w.made.file touch.access (w.slots.info touch.page) k.ready.0) shown w.memory (well.good.pages touch.page))
          (λ p ne. well.good.pages p);
      files = well.good.files;
      apart = λ p q y. put_all (λ p o. own_frame w.memory.cached o ≡ Some y → frame_of (now q) ≡ Some y → p ≡ q) w.slots.info touch.page new
          (λ h. absurd (let a = none in cc))
          (λ p ne h. put_all (λ q o. frame_of o ≡ Some y → p ≡ q) w.slots.info touch.page new
          (λ z. absurd (filed p y h (new_frame g (w.slots.info touch.page) y z))) (λ q _ z. well.good.apart p q y h z) q)
          p;
      unfiled = λ p n l y. put_all (λ p o. own_frame w.memory.cached o ≡ Some y → w.memory.cached n l ≢ Some y) w.slots.info touch.page new
          (λ h. absurd (let a = none in cc)) (λ p ne h. well.good.unfiled p n l y h) p;
      whole = λ p y. put_all (λ p o. frame_of o ≡ Some y → is_past_end w.made.file o ≡ false) w.slots.info touch.page new
          (λ _. filled_past w.made.file g (w.slots.info touch.page) ∙ usable_past w.made.file (w.slots.info touch.page) touch.access None k.ready.0)
          (λ p ne h. well.good.whole p y h) p;
    })
  where
    k : IsCallOf w c (Fill touch own)
    k = call_at w c (Fill touch own) e well.order

    new : Option PageInfo
    new = info_with_frame g (w.slots.info touch.page)

    now : ℕ → Option PageInfo
    now = put w.slots.info touch.page new

    shown : shows_file w.memory.cached (back_of (w.slots.info touch.page)) g ≡ true
    shown = shows_cached w.memory.cached (back_of (w.slots.info touch.page)) g at

    none : own_frame w.memory.cached new ≡ None
    none = framed_own_none w.memory.cached g (w.slots.info touch.page) shown

    -- a page's own frame isn't the file's
    filed : (p y : ℕ) → own_frame w.memory.cached (w.slots.info p) ≡ Some y → g ≡ y → ⊥
    filed p y h same = by (back_of (w.slots.info touch.page)) at
      where
        by : (back : Back) → file_frame w.memory.cached back ≡ Some g → ⊥
        by Anon a = cc
        by (Shared n l) a = well.good.unfiled p n l y h (a ∙ ap Some same)
        by (Private n l) a = well.good.unfiled p n l y h (a ∙ ap Some same)

-- ---- a file's page is cached

-- the frame has the bytes that the file's page has, and caches it
file_cached : (w : World) (f m k : ℕ) (first now : Option File) (n : ℕ) → ((l : ℕ) → w.memory.cached n l ≢ Some f) → w.memory.cached m k ≡ None
    → ShowsFile w.memory.bytes (w.memory.cached n) first now → (x : Bytes) → (n ≡ m → x ≡ page_now w.memory first m k)
    → ShowsFile (put w.memory.bytes f x) (put w.memory.cached m (put (w.memory.cached m) k (Some f)) n) first now
file_cached w f m k (Some a) (Some b) n free none h x is = (h.0, h.1, λ l. at l)
  where
    kept : (o : Option ℕ) (y : Bytes) → o ≢ Some f → bytes_in w.memory.bytes y o ≡ bytes_in (put w.memory.bytes f x) y o
    kept None y ne = refl
    kept (Some g) y ne = sym (put_other w.memory.bytes f x g (λ e. ne (ap Some e)))

    old : (l : ℕ) → b.bytes l ≡ bytes_in (put w.memory.bytes f x) (a.bytes l) (w.memory.cached n l)
    old l = h.2 l ∙ kept (w.memory.cached n l) (a.bytes l) (free l)

    at : (l : ℕ) → b.bytes l ≡ bytes_in (put w.memory.bytes f x) (a.bytes l) (put w.memory.cached m (put (w.memory.cached m) k (Some f)) n l)
    at l = put_all (λ j pages. n ≡ j → b.bytes l ≡ bytes_in (put w.memory.bytes f x) (a.bytes l) (pages l)) w.memory.cached m
        (put (w.memory.cached m) k (Some f))
        (λ e. put_all (λ i o. b.bytes i ≡ bytes_in (put w.memory.bytes f x) (a.bytes i) o) (w.memory.cached m) k (Some f)
        (subst (λ j. b.bytes k ≡ bytes_in w.memory.bytes (a.bytes k) (w.memory.cached j k)) e (h.2 k)
        ∙ (sym (is e) ∙ sym (put_same w.memory.bytes f x)))
        (λ i ne. subst (λ j. b.bytes i ≡ bytes_in (put w.memory.bytes f x) (a.bytes i) (w.memory.cached j i)) e (old i)) l)
        (λ j ne e. subst (λ j. b.bytes l ≡ bytes_in (put w.memory.bytes f x) (a.bytes l) (w.memory.cached j l)) e (old l)) n refl
file_cached w f m k _ _ n free none h x is = h

files_cached : (w : World) (t : Plain) (f : ℕ) (back : Back) → ((n k : ℕ) → w.memory.cached n k ≢ Some f) → file_frame w.memory.cached back ≡ None
    → ((n : ℕ) → ShowsFile w.memory.bytes (w.memory.cached n) (w.made.file n) (t.file n)) → back ≢ Anon
    → (n : ℕ) → ShowsFile (put w.memory.bytes f (bytes_shown w.made.file w.memory back)) (with_cached w.memory.cached back f n) (w.made.file n) (t.file n)
files_cached w t f Anon free none files of_file n = absurd (of_file refl)
files_cached w t f (Shared m k) free none files of_file n =
    file_cached w f m k (w.made.file n) (t.file n) n (free n) none (files n) (bytes_shown w.made.file w.memory (Shared m k))
    (λ e. ap (λ j. page_now w.memory (w.made.file j) m k) (sym e))
files_cached w t f (Private m k) free none files of_file n =
    file_cached w f m k (w.made.file n) (t.file n) n (free n) none (files n) (bytes_shown w.made.file w.memory (Private m k))
    (λ e. ap (λ j. page_now w.memory (w.made.file j) m k) (sym e))

-- a page that doesn't have the frame shows what it did
page_uncached : (m : Memory) (back : Back) (f : ℕ) (x : Bytes) (o : Option PageInfo) (z : Option PageEntry) → file_frame m.cached back ≡ None → frame_of o ≢ Some f
    → ShowsPage (with_bytes m f x) o z → ShowsPage (record (with_bytes m f x) { cached = with_cached m.cached back f }) o z
page_uncached m back f x (Some info) (Some entry) none ne h = (h.0, h.1, go info.frame refl h.2)
  where
    go : (o : Option ℕ) → info.frame ≡ o → Owns (with_bytes m f x) info.meta.back o entry.own
        → Owns (record (with_bytes m f x) { cached = with_cached m.cached back f }) info.meta.back o entry.own
    go None e s = s
    go (Some g) e s =
        subst (λ b. cond b (entry.own ≡ None) (MayOwn info.meta.back × (entry.own ≡ Some (put m.bytes f x g))))
        (sym (same_shown m.cached back info.meta.back f g none (λ i. ne (e ∙ ap Some i)))) s
page_uncached m back f x _ _ none ne h = h

own_uncached : (cached : ℕ → ℕ → Option ℕ) (back : Back) (f : ℕ) (o : Option PageInfo) → file_frame cached back ≡ None → frame_of o ≢ Some f
    → own_frame (with_cached cached back f) o ≡ own_frame cached o
own_uncached cached back f None none ne = refl
own_uncached cached back f (Some info) none ne = go info.frame refl
  where
    go : (o : Option ℕ) → info.frame ≡ o → own_frame_of (with_cached cached back f) info.meta.back o ≡ own_frame_of cached info.meta.back o
    go None e = refl
    go (Some g) e = ap (λ b. if b then None else Some g) (same_shown cached back info.meta.back f g none (λ i. ne (e ∙ ap Some i)))

now_cached_by : (cached : ℕ → ℕ → Option ℕ) (back : Back) (f : ℕ) → back ≢ Anon → file_frame (with_cached cached back f) back ≡ Some f
now_cached_by cached Anon f of_file = absurd (of_file refl)
now_cached_by cached (Shared m k) f of_file = ap (λ pages. pages k) (put_same cached m (put (cached m) k (Some f))) ∙ put_same (cached m) k (Some f)
now_cached_by cached (Private m k) f of_file = ap (λ pages. pages k) (put_same cached m (put (cached m) k (Some f))) ∙ put_same (cached m) k (Some f)

cached_at : (cached : ℕ → ℕ → Option ℕ) (m l f y n k : ℕ) → f ≢ y → cached n k ≢ Some y → put cached m (put (cached m) l (Some f)) n k ≢ Some y
cached_at cached m l f y n k ne = put_all (λ n pages. cached n k ≢ Some y → pages k ≢ Some y) cached m (put (cached m) l (Some f))
    (put_all (λ k o. cached m k ≢ Some y → o ≢ Some y) (cached m) l (Some f) (λ old h. ne cc) (λ k other old. old) k)
    (λ n other old. old) n

-- one file page more is cached, by a frame that isn't this one
more_cached : (cached : ℕ → ℕ → Option ℕ) (back : Back) (f y n k : ℕ) → f ≢ y → cached n k ≢ Some y → with_cached cached back f n k ≢ Some y
more_cached cached Anon f y n k ne old = old
more_cached cached (Shared m l) f y n k ne old = cached_at cached m l f y n k ne old
more_cached cached (Private m l) f y n k ne old = cached_at cached m l f y n k ne old

pub page_cached : (w : World) (event : Event) (c : ℕ) (touch : Touch) (f : ℕ) (counts : Counts) → w.calls.phase c ≡ Fill touch (Some f)
    → IsShowing (w.slots.info touch.page) touch.access → file_frame w.memory.cached (back_of (w.slots.info touch.page)) ≡ None → (well : IsShown w)
    → Leaves w well.plain event (after_caching c touch f counts w)
page_cached w event c touch f counts e shows none well =
    goes_on w event c (Install touch) (after_caching c touch f counts w).slots w.hardware (after_caching c touch f counts w).memory well
    (with_counts_shown w.made.file now m counts well.plain (record {
      pages = put_all (λ p o. ShowsPage m o (well.plain.entry p)) w.slots.info touch.page new
          (file_shown m f (w.slots.info touch.page) (well.plain.entry touch.page) shows.of_file
          (no_frame_yet w.made.file touch.access (w.slots.info touch.page) k.ready.0) shown w.memory (well.good.pages touch.page))
          (λ p ne. page_uncached w.memory back f x (w.slots.info p) (well.plain.entry p) none (free p)
          (page_kept w.memory f x (w.slots.info p) (well.plain.entry p) (λ h. free p (own_is_frame w.memory.cached (w.slots.info p) f h)) (well.good.pages p)));
      files = files_cached w well.plain f back unfiled none well.good.files (not_anon back shows.of_file);
      apart = λ p q y. put_all (λ p o. own_frame cached o ≡ Some y → frame_of (now q) ≡ Some y → p ≡ q) w.slots.info touch.page new
          (λ h. absurd (let a = unowned in cc))
          (λ p ne h. let h2 = sym (own_uncached w.memory.cached back f (w.slots.info p) none (free p)) ∙ h in
          put_all (λ q o. frame_of o ≡ Some y → p ≡ q) w.slots.info touch.page new
          (λ z. absurd (free p (own_is_frame w.memory.cached (w.slots.info p) y h2 ∙ ap Some (sym (new_frame f (w.slots.info touch.page) y z)))))
          (λ q _ z. well.good.apart p q y h2 z) q)
          p;
      unfiled = λ p n l y. put_all (λ p o. own_frame cached o ≡ Some y → cached n l ≢ Some y) w.slots.info touch.page new
          (λ h. absurd (let a = unowned in cc))
          (λ p ne h. let h2 = sym (own_uncached w.memory.cached back f (w.slots.info p) none (free p)) ∙ h in
          more_cached w.memory.cached back f y n l (λ same. free p (own_is_frame w.memory.cached (w.slots.info p) y h2 ∙ ap Some (sym same)))
          (well.good.unfiled p n l y h2)) p;
      whole = λ p y. put_all (λ p o. frame_of o ≡ Some y → is_past_end w.made.file o ≡ false) w.slots.info touch.page new
          (λ _. filled_past w.made.file f (w.slots.info touch.page) ∙ usable_past w.made.file (w.slots.info touch.page) touch.access None k.ready.0)
          (λ p ne h. well.good.whole p y h) p;
    }))
  where
    k : IsCallOf w c (Fill touch (Some f))
    k = call_at w c (Fill touch (Some f)) e well.order

    back : Back
    back = back_of (w.slots.info touch.page)

    x : Bytes
    x = bytes_shown w.made.file w.memory back

    cached : ℕ → ℕ → Option ℕ
    cached = with_cached w.memory.cached back f

    m : Memory
    m = record (with_bytes w.memory f x) { cached = cached }

    new : Option PageInfo
    new = info_with_frame f (w.slots.info touch.page)

    now : ℕ → Option PageInfo
    now = put w.slots.info touch.page new

    free : (p : ℕ) → frame_of (w.slots.info p) ≢ Some f
    free = nobodys w f well c (ap taken_in e)

    unfiled : (n l : ℕ) → w.memory.cached n l ≢ Some f
    unfiled = uncached w f well c (ap taken_in e)

    shown : shows_file cached back f ≡ true
    shown = shows_cached cached back f (now_cached_by w.memory.cached back f (not_anon back shows.of_file))

    unowned : own_frame cached new ≡ None
    unowned = framed_own_none cached f (w.slots.info touch.page) shown
