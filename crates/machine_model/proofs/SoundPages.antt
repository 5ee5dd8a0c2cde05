-- Pages with a frame and without, and what the plain page map answers there
use Rattle.machine_model.proofs.Words.{◌≡◌, ◌≢◌, ℕ, Bool, true, false, cond, refl, sym, ap, subst, Some, None, Option, ◌∙◌, ◌&&◌, nat_lt, is_some}
use Rattle.machine_model.proofs.Words.{if◌then◌else◌, Back, Anon, Shared, Private, PageInfo, Reply, Segv, Bus, MapErr, Access, put, frame_of, Bytes, File}
use Rattle.machine_model.proofs.Words.{Plain, bytes_in, is_allowed, is_uncopied, byte_reply, entry_reply, put_other, eq_true, is_cached, is_past_end}
use Rattle.machine_model.proofs.Words.{shows_file, is_private, page_now, bytes_shown, World, Memory, Translation, permits, CanAccess}
use Rattle.std.specs.Prelude.{not}
use Rattle.vm_base.specs.declared.replies.SegvCode.TheVariants.{AccErr}
use Rattle.vm_base.specs.declared.rights.Access.TheVariants.{Store}
use Rattle.vm_base.specs.Plain.{PageEntry, bytes_of, back_bytes, file_bytes}
use Rattle.vm_base.specs.Apply.{bytes_reply, needs_copy, first_own}
use Rattle.machine_model.specs.Accesses.{lies_past_end}
use Rattle.machine_model.specs.Orderly.{IsUsable}
use Rattle.machine_model.specs.Translations.{Agrees, AgreesWith, HasBytes}
use Rattle.machine_model.specs.Invariant.{ShowsPlain, ShowsPage, ShowsFile, Owns, MayOwn, own_frame, own_frame_of}

-- the memory with other bytes of a frame
abbrev pub with_bytes : Memory → ℕ → Bytes → Memory
with_bytes m f x = record m { bytes = put m.bytes f x }

-- ---- pages of files

is_there : (b : Bool) (x : Bytes) → is_some (if b then Some x else None) ≡ b
is_there true x = refl
is_there false x = refl

-- a file keeps its pages
there_still : (bytes : ℕ → Bytes) (cached : ℕ → Option ℕ) (first now : Option File) (k : ℕ) → ShowsFile bytes cached first now
    → is_some (file_bytes now k) ≡ is_some (file_bytes first k)
there_still bytes cached None None k h = refl
there_still bytes cached (Some a) (Some b) k h =
    is_there (nat_lt k b.count) (b.bytes k) ∙ (ap (nat_lt k) (sym h.1) ∙ sym (is_there (nat_lt k a.count) (a.bytes k)))
there_still bytes cached None (Some b) k h = absurd h
there_still bytes cached (Some a) None k h = absurd h

in_bounds : (b : Bool) (x : Bytes) → is_some (if b then Some x else None) ≡ true → ◌≡◌ {A = Option Bytes} (if b then Some x else None) (Some x)
in_bounds true x h = refl
in_bounds false x h = absurd cc

-- a page of a file that is there has the bytes of its frame, if one caches it, and else the first ones
pub file_now : (m : Memory) (n k : ℕ) (first now : Option File) → ShowsFile m.bytes (m.cached n) first now
    → is_some (file_bytes first k) ≡ true → file_bytes now k ≡ Some (page_now m first n k)
file_now m n k None now h i = absurd cc
file_now m n k (Some a) None h i = absurd h
file_now m n k (Some a) (Some b) h i =
    in_bounds (nat_lt k b.count) (b.bytes k) (there_still m.bytes (m.cached n) (Some a) (Some b) k h ∙ i) ∙ ap Some (h.2 k)

-- a frame that caches a file's page has its bytes
now_cached : (m : Memory) (n k f : ℕ) (first : Option File) → is_some (file_bytes first k) ≡ true → m.cached n k ≡ Some f
    → page_now m first n k ≡ m.bytes f
now_cached m n k f None i h = absurd cc
now_cached m n k f (Some a) i h = ap (bytes_in m.bytes (a.bytes k)) h

not_false : (b : Bool) → not b ≡ false → b ≡ true
not_false true h = refl
not_false false h = absurd cc

pub is_it : (o : Option ℕ) (f : ℕ) → is_cached o f ≡ true → o ≡ Some f
is_it None f h = absurd cc
is_it (Some g) f h = ap Some (eq_true g f h)

-- what a page of a file shows that has no bytes of its own
pub shown_now : (w : World) (t : Plain) (back : Back) → ((n : ℕ) → ShowsFile w.memory.bytes (w.memory.cached n) (w.made.file n) (t.file n))
    → back ≢ Anon → lies_past_end w.made.file back ≡ false → back_bytes t.file back ≡ Some (bytes_shown w.made.file w.memory back)
shown_now w t Anon files of_file within = absurd (of_file refl)
shown_now w t (Shared n k) files of_file within = file_now w.memory n k (w.made.file n) (t.file n) (files n) (not_false _ within)
shown_now w t (Private n k) files of_file within = file_now w.memory n k (w.made.file n) (t.file n) (files n) (not_false _ within)

-- by a frame that caches its file page
shown_by : (w : World) (t : Plain) (back : Back) (f : ℕ) → ((n : ℕ) → ShowsFile w.memory.bytes (w.memory.cached n) (w.made.file n) (t.file n))
    → lies_past_end w.made.file back ≡ false → shows_file w.memory.cached back f ≡ true → back_bytes t.file back ≡ Some (w.memory.bytes f)
shown_by w t Anon f files within h = absurd cc
shown_by w t (Shared n k) f files within h =
    file_now w.memory n k (w.made.file n) (t.file n) (files n) (not_false _ within)
    ∙ ap Some (now_cached w.memory n k f (w.made.file n) (not_false _ within) (is_it (w.memory.cached n k) f h))
shown_by w t (Private n k) f files within h =
    file_now w.memory n k (w.made.file n) (t.file n) (files n) (not_false _ within)
    ∙ ap Some (now_cached w.memory n k f (w.made.file n) (not_false _ within) (is_it (w.memory.cached n k) f h))

-- ---- a page with a frame

pub record IsFramed (w : World) (t : Plain) (p f : ℕ) : Type 0 where
  pub info : PageInfo
  pub entry : PageEntry
  pub at_slot : w.slots.info p ≡ Some info
  pub at_page : t.entry p ≡ Some entry
  pub frame : info.frame ≡ Some f
  pub back : info.meta.back ≡ entry.back
  pub prot : info.meta.prot ≡ entry.prot
  pub owns : cond (shows_file w.memory.cached info.meta.back f) (entry.own ≡ None) (MayOwn info.meta.back × (entry.own ≡ Some (w.memory.bytes f)))
  -- its bytes are the frame's
  pub bytes : bytes_of t.file entry.back entry.own ≡ Some (w.memory.bytes f)

pub framed : (w : World) (t : Plain) (p f : ℕ) → ShowsPlain w t → frame_of (w.slots.info p) ≡ Some f → IsFramed w t p f
framed w t p f g h = go (w.slots.info p) (t.entry p) refl refl (g.pages p) (g.whole p f h) h
  where
    bytes : (info : PageInfo) (entry : PageEntry) → info.meta.back ≡ entry.back → lies_past_end w.made.file info.meta.back ≡ false → (b : Bool)
        → shows_file w.memory.cached info.meta.back f ≡ b → cond b (entry.own ≡ None) (MayOwn info.meta.back × (entry.own ≡ Some (w.memory.bytes f)))
        → bytes_of t.file entry.back entry.own ≡ Some (w.memory.bytes f)
    bytes info entry back within true i own =
        ap (bytes_of t.file entry.back) own ∙ (ap (back_bytes t.file) (sym back) ∙ shown_by w t info.meta.back f g.files within i)
    bytes info entry back within false i own = ap (bytes_of t.file entry.back) own.1

    go : (o : Option PageInfo) (z : Option PageEntry) → w.slots.info p ≡ o → t.entry p ≡ z → ShowsPage w.memory o z
        → is_past_end w.made.file o ≡ false → frame_of o ≡ Some f → IsFramed w t p f
    go None z a b s within h = absurd cc
    go (Some info) None a b s within h = absurd s
    go (Some info) (Some entry) a b s within h =
        let owns = subst (λ x. Owns w.memory info.meta.back x entry.own) h s.2 in
        record {
          info = info;
          entry = entry;
          at_slot = a;
          at_page = b;
          frame = h;
          back = s.0;
          prot = s.1;
          owns = owns;
          bytes = bytes info entry s.0 within (shows_file w.memory.cached info.meta.back f) refl owns;
        }

-- no copy of the page is due where it doesn't show its file's page as a private one
uncopied : (cached : ℕ → ℕ → Option ℕ) (back : Back) (f : ℕ) (own : Option Bytes) (x : Bytes)
    → (is_private back && shows_file cached back f) ≡ false
    → cond (shows_file cached back f) (own ≡ None) (MayOwn back × (own ≡ Some x)) → is_uncopied back own ≡ false
uncopied cached (Private n k) f own x h s = go (shows_file cached (Private n k) f) h s
  where
    go : (b : Bool) → b ≡ false → cond b (own ≡ None) (Unit {0} × (own ≡ Some x)) → is_uncopied (Private n k) own ≡ false
    go true h s = absurd cc
    go false h s = ap (is_uncopied (Private n k)) s.1
uncopied cached _ f own x h s = refl

pub is_copied : (w : World) (t : Plain) (p f : ℕ) (k : IsFramed w t p f)
    → (is_private k.info.meta.back && shows_file w.memory.cached k.info.meta.back f) ≡ false → is_uncopied k.entry.back k.entry.own ≡ false
is_copied w t p f k h =
    ap (λ back. is_uncopied back k.entry.own) (sym k.back)
    ∙ uncopied w.memory.cached k.info.meta.back f k.entry.own (w.memory.bytes f) h k.owns

-- what the plain page map answers to an access of it
abbrev pub answer_of : (ℕ → Option File) → Access → ℕ → Bool → Back → Option Bytes → Option Reply
answer_of files access i allowed back own = cond allowed (bytes_reply (needs_copy access back own) (bytes_of files back own) access i) (Some (Segv AccErr))

no_copy : (access : Access) (back : Back) (own : Option Bytes) → (access ≡ Store → is_uncopied back own ≡ false) → needs_copy access back own ≡ false
no_copy Store back own h = h refl
no_copy _ back own h = refl

pub framed_reply : (w : World) (t : Plain) (p f : ℕ) (access : Access) (i : ℕ) (k : IsFramed w t p f) → is_allowed k.info.meta.prot access ≡ true
    → (access ≡ Store → (is_private k.info.meta.back && shows_file w.memory.cached k.info.meta.back f) ≡ false)
    → entry_reply t.file (t.entry p) access i ≡ Some (byte_reply access (w.memory.bytes f i))
framed_reply w t p f access i k allowed writes =
    ap (λ z. entry_reply t.file z access i) k.at_page
    ∙ (ap (λ b. answer_of t.file access i b k.entry.back k.entry.own) (sym (ap (λ prot. is_allowed prot access) k.prot) ∙ allowed)
    ∙ (ap (λ o. bytes_reply (needs_copy access k.entry.back k.entry.own) o access i) k.bytes
    ∙ ap (λ b. bytes_reply b (Some (w.memory.bytes f)) access i) (no_copy access k.entry.back k.entry.own (λ s. is_copied w t p f k (writes s)))))

-- a translation that leads to the page's frame, and permits only what the page allows, agrees with the plain page map
pub has_frame_bytes : (w : World) (t : Plain) (p : ℕ) (e : Translation) (k : IsFramed w t p e.frame)
    → ((access : Access) → permits e access ≡ true → is_allowed k.info.meta.prot access ≡ true) → Agrees w t p e
has_frame_bytes w t p e k allowed =
    subst (AgreesWith w.memory.bytes e t.file) (sym k.at_page) (
      λ access h. subst (λ prot. is_allowed prot access ≡ true) k.prot (allowed access h),
      subst (HasBytes (w.memory.bytes e.frame)) (sym k.bytes) (λ i lt. refl),
    )

-- ---- replies that need no frame

pub unmapped_reply : (w : World) (t : Plain) (p : ℕ) (access : Access) (i : ℕ) → ShowsPlain w t → w.slots.info p ≡ None
    → entry_reply t.file (t.entry p) access i ≡ Some (Segv MapErr)
unmapped_reply w t p access i g h = go (t.entry p) (subst (λ o. ShowsPage w.memory o (t.entry p)) h (g.pages p))
  where
    go : (z : Option PageEntry) → ShowsPage w.memory None z → entry_reply t.file z access i ≡ Some (Segv MapErr)
    go None s = refl
    go (Some entry) s = absurd s

pub forbidden_reply : (w : World) (t : Plain) (p : ℕ) (access : Access) (i : ℕ) (info : PageInfo) → ShowsPlain w t → w.slots.info p ≡ Some info
    → is_allowed info.meta.prot access ≡ false
    → entry_reply t.file (t.entry p) access i ≡ Some (Segv AccErr)
forbidden_reply w t p access i info g h forbidden = go (t.entry p) (subst (λ o. ShowsPage w.memory o (t.entry p)) h (g.pages p))
  where
    go : (z : Option PageEntry) → ShowsPage w.memory (Some info) z → entry_reply t.file z access i ≡ Some (Segv AccErr)
    go None s = absurd s
    go (Some entry) s = ap (λ b. answer_of t.file access i b entry.back entry.own) (sym (ap (λ prot. is_allowed prot access) s.1) ∙ forbidden)

-- ---- whether a page has bytes

-- without a frame and bytes of its own a page has bytes where its file page is there
none_owned : (w : World) (t : Plain) (back : Back) → ((n : ℕ) → ShowsFile w.memory.bytes (w.memory.cached n) (w.made.file n) (t.file n))
    → is_some (bytes_of t.file back (first_own back)) ≡ not (lies_past_end w.made.file back)
none_owned w t Anon files = refl
none_owned w t (Shared n k) files = there_still w.memory.bytes (w.memory.cached n) (w.made.file n) (t.file n) k (files n) ∙ twice _
  where
    twice : (b : Bool) → b ≡ not (not b)
    twice true = refl
    twice false = refl
none_owned w t (Private n k) files = there_still w.memory.bytes (w.memory.cached n) (w.made.file n) (t.file n) k (files n) ∙ twice _
  where
    twice : (b : Bool) → b ≡ not (not b)
    twice true = refl
    twice false = refl

-- a mapped page has bytes unless its file page lies past its file's end
pub has_bytes : (w : World) (t : Plain) (p : ℕ) (info : PageInfo) (entry : PageEntry) → ShowsPlain w t → w.slots.info p ≡ Some info → t.entry p ≡ Some entry
    → is_some (bytes_of t.file entry.back entry.own) ≡ not (is_past_end w.made.file (Some info))
has_bytes w t p info entry g a b = go info.frame refl
  where
    s : ShowsPage w.memory (Some info) (Some entry)
    s = subst (λ z. ShowsPage w.memory (Some info) z) b (subst (λ o. ShowsPage w.memory o (t.entry p)) a (g.pages p))

    go : (o : Option ℕ) → info.frame ≡ o → is_some (bytes_of t.file entry.back entry.own) ≡ not (is_past_end w.made.file (Some info))
    go None e =
        let own : entry.own ≡ first_own info.meta.back = subst (λ x. Owns w.memory info.meta.back x entry.own) e s.2 in
        ap (λ o. is_some (bytes_of t.file entry.back o)) own
        ∙ (ap (λ back. is_some (bytes_of t.file back (first_own info.meta.back))) (sym s.0) ∙ none_owned w t info.meta.back g.files)
    go (Some f) e =
        let at : frame_of (w.slots.info p) ≡ Some f = ap frame_of a ∙ e in
        let k : IsFramed w t p f = framed w t p f g at in
        let same : k.entry ≡ entry = let x = k.at_page in cc in
        let within : is_past_end w.made.file (Some info) ≡ false = ap (is_past_end w.made.file) (sym a) ∙ g.whole p f at in
        ap (λ (x : PageEntry). is_some (bytes_of t.file x.back x.own)) (sym same) ∙ (ap is_some k.bytes ∙ sym (ap not within))

-- an access to a page past the end of its file
pub past_reply : (w : World) (t : Plain) (p : ℕ) (access : Access) (i : ℕ) (info : PageInfo) → ShowsPlain w t → w.slots.info p ≡ Some info
    → is_allowed info.meta.prot access ≡ true → is_past_end w.made.file (Some info) ≡ true → entry_reply t.file (t.entry p) access i ≡ Some Bus
past_reply w t p access i info g h allowed past = go (t.entry p) refl (subst (λ o. ShowsPage w.memory o (t.entry p)) h (g.pages p))
  where
    bus : (copy : Bool) (o : Option Bytes) → is_some o ≡ false → bytes_reply copy o access i ≡ Some Bus
    bus copy None h = refl
    bus copy (Some x) h = absurd cc

    go : (z : Option PageEntry) → t.entry p ≡ z → ShowsPage w.memory (Some info) z → entry_reply t.file z access i ≡ Some Bus
    go None e s = absurd s
    go (Some entry) e s =
        ap (λ b. answer_of t.file access i b entry.back entry.own) (sym (ap (λ prot. is_allowed prot access) s.1) ∙ allowed)
        ∙ bus (needs_copy access entry.back entry.own) (bytes_of t.file entry.back entry.own) (has_bytes w t p info entry g h e ∙ ap not past)

pub can_access : (w : World) (t : Plain) (p : ℕ) (access : Access) (frame : Option ℕ) → ShowsPlain w t → IsUsable w.made.file (w.slots.info p) access frame
    → CanAccess t.file (t.entry p) access
can_access w t p access frame g u = go (w.slots.info p) (t.entry p) refl refl (g.pages p) u
  where
    go : (o : Option PageInfo) (z : Option PageEntry) → w.slots.info p ≡ o → t.entry p ≡ z → ShowsPage w.memory o z → IsUsable w.made.file o access frame
        → CanAccess t.file z access
    go None z a b s u = absurd u
    go (Some info) None a b s u = absurd s
    go (Some info) (Some entry) a b s u =
        (sym (ap (λ prot. is_allowed prot access) s.1) ∙ u.0, has_bytes w t p info entry g a b ∙ ap not u.1)

-- ---- new bytes of one frame

-- a page that doesn't have the frame for itself shows what it did
owns_kept : (m : Memory) (f : ℕ) (x : Bytes) (back : Back) (frame : Option ℕ) (own : Option Bytes)
    → own_frame_of m.cached back frame ≢ Some f → Owns m back frame own → Owns (with_bytes m f x) back frame own
owns_kept m f x back None own ne h = h
owns_kept m f x back (Some g) own ne h = go (shows_file m.cached back g) ne h
  where
    go : (b : Bool) → (if b then None else Some g) ≢ Some f → cond b (own ≡ None) (MayOwn back × (own ≡ Some (m.bytes g)))
        → cond b (own ≡ None) (MayOwn back × (own ≡ Some (put m.bytes f x g)))
    go true ne h = h
    go false ne h = (h.0, h.1 ∙ ap Some (sym (put_other m.bytes f x g (λ e. ne (ap Some e)))))

pub page_kept : (m : Memory) (f : ℕ) (x : Bytes) (o : Option PageInfo) (z : Option PageEntry)
    → own_frame m.cached o ≢ Some f → ShowsPage m o z → ShowsPage (with_bytes m f x) o z
page_kept m f x (Some info) (Some entry) ne h = (h.0, h.1, owns_kept m f x info.meta.back info.frame entry.own ne h.2)
page_kept m f x _ _ ne h = h

bytes_kept : (bytes : ℕ → Bytes) (f : ℕ) (x first : Bytes) (o : Option ℕ) → o ≢ Some f → bytes_in bytes first o ≡ bytes_in (put bytes f x) first o
bytes_kept bytes f x first None ne = refl
bytes_kept bytes f x first (Some g) ne = sym (put_other bytes f x g (λ e. ne (ap Some e)))

pub file_kept : (bytes : ℕ → Bytes) (f : ℕ) (x : Bytes) (cached : ℕ → Option ℕ) (o z : Option File)
    → ((k : ℕ) → cached k ≢ Some f) → ShowsFile bytes cached o z → ShowsFile (put bytes f x) cached o z
file_kept bytes f x cached (Some a) (Some b) ne h = (h.0, h.1, λ k. h.2 k ∙ bytes_kept bytes f x (a.bytes k) (cached k) (ne k))
file_kept bytes f x cached _ _ ne h = h

-- a page's own frame is its frame
own_of : (cached : ℕ → ℕ → Option ℕ) (back : Back) (frame : Option ℕ) (f : ℕ) → own_frame_of cached back frame ≡ Some f → frame ≡ Some f
own_of cached back None f h = h
own_of cached back (Some g) f h = go (shows_file cached back g) h
  where
    go : (b : Bool) → (if b then None else Some g) ≡ Some f → Some g ≡ Some f
    go true h = absurd cc
    go false h = h

pub own_is_frame : (cached : ℕ → ℕ → Option ℕ) (o : Option PageInfo) (f : ℕ) → own_frame cached o ≡ Some f → frame_of o ≡ Some f
own_is_frame cached None f h = absurd cc
own_is_frame cached (Some info) f h = own_of cached info.meta.back info.frame f h

-- a frame that doesn't show the file's page is the page's own
pub own_so : (cached : ℕ → ℕ → Option ℕ) (back : Back) (f : ℕ) → shows_file cached back f ≡ false → own_frame_of cached back (Some f) ≡ Some f
own_so cached back f h = ap (λ b. if b then None else Some f) h

pub own_none : (cached : ℕ → ℕ → Option ℕ) (back : Back) (f : ℕ) → shows_file cached back f ≡ true → own_frame_of cached back (Some f) ≡ None
own_none cached back f h = ap (λ b. if b then None else Some f) h
