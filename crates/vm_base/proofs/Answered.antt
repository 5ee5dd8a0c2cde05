-- Each request has an answer by the first place: what the definitions ask of a range or a window is found by going through it
use Rattle.std.proofs.Common.{◌≡◌, ℕ, zero, suc, ◌<◌, ◌≤◌, ◌+◌, ◌*◌, ◌-◌, ◌⊎◌, inl, inr, Bool, true, false, is_some}
use Rattle.std.proofs.Common.{refl, sym, subst, arith, Some, None, Option}
use Rattle.std.proofs.lemmas.Bool.{cases_lt}
use Rattle.vm_base.specs.declared.info.Back.{Back}
use Rattle.vm_base.specs.declared.page.PageRange.{PageRange}
use Rattle.vm_base.specs.declared.replies.Reply.{Reply}
use Rattle.vm_base.specs.declared.replies.Reply.TheVariants.{Mapped, Done, Refused}
use Rattle.vm_base.specs.declared.replies.Errno.TheVariants.{ENOMEM, EACCES}
use Rattle.vm_base.specs.declared.requests.Request.{Request}
use Rattle.vm_base.specs.declared.requests.Request.TheVariants.{Mmap, Munmap, Mprotect, Load as LoadOf, Store as StoreOf, Fetch as FetchOf}
use Rattle.vm_base.specs.declared.rights.Prot.{Prot}
use Rattle.vm_base.specs.declared.rights.Access.{Access}
use Rattle.vm_base.specs.declared.rights.Access.TheVariants.{Load, Store, Fetch}
use Rattle.vm_base.specs.Functions.{has}
use Rattle.vm_base.specs.Pages.{are_pages, page_count, page_of, pages_from, pages_of, window_of}
use Rattle.vm_base.specs.Places.{IsFree, IsHint, IsFirstPlace, IsLeastRoom, IsRoom}
use Rattle.vm_base.specs.Places.IsFirstPlace.{at_hint, in_window}
use Rattle.vm_base.specs.Plain.{PageEntry, Plain, mode_of, is_mapped}
use Rattle.vm_base.specs.Refusals.{refusal}
use Rattle.vm_base.specs.Apply.{AppliesAfter, NewMapping, Performs, Maps, MapsAt, Protects, HasPage, Accesses, access_reply, accessed, meta_of, Applies}
use Rattle.vm_base.specs.Apply.{is_absent, is_read_only, after_mapping, after_protecting, range_at, after_unmapping}
use Rattle.vm_base.specs.Apply.Protects.{no_page, no_write, done}
use Rattle.vm_base.specs.Answers.{is_ready, Answers}
use Rattle.vm_base.specs.Copies.{page_due}
use Rattle.vm_base.proofs.Due.{due, after, answered as copy_answers}
use Rattle.vm_base.proofs.Functions.{has_in, in_has}
use Rattle.vm_base.proofs.Ready.{load_ready, fetch_ready, copy_due, store_at_once, uncopied}

-- a page of the range that passes the test, or none

abbrev Seeks : (ℕ → Bool) → ℕ → ℕ → Type 0
Seeks test from n = ((p : ℕ) × (from ≤ p) × (p < from + n) × (test p ≡ true)) ⊎ ((p : ℕ) → from ≤ p → p < from + n → test p ≡ false)

seek : (test : ℕ → Bool) (from n : ℕ) → Seeks test from n
seek test from zero = inr (λ p low high. absurd (omega (arith, low, high)))
seek test from (suc n) = go (seek test from n) (test (from + n)) refl
  where
    none : ((p : ℕ) → from ≤ p → p < from + n → test p ≡ false) → test (from + n) ≡ false → (p : ℕ) → from ≤ p → p < from + suc n
        → (p < from + n) ⊎ (from + n ≤ p) → test p ≡ false
    none below last p low high (inl lt) = below p low lt
    none below last p low high (inr le) = let same : from + n ≡ p = omega (arith, high, le) in subst (λ (q : ℕ). test q ≡ false) same last

    go : Seeks test from n → (b : Bool) → test (from + n) ≡ b → Seeks test from (suc n)
    go (inl found) b e = inl (found.0, found.1, omega (arith, found.2), found.3)
    go (inr below) true e = inl (from + n, omega arith, omega arith, e)
    go (inr below) false e = inr (λ p low high. none below e p low high (cases_lt p (from + n)))

abbrev SeeksIn : (ℕ → Bool) → PageRange → Type 0
SeeksIn test r = ((p : ℕ) × (has r p ≡ true) × (test p ≡ true)) ⊎ ((p : ℕ) → has r p ≡ true → test p ≡ false)

seek_in : (test : ℕ → Bool) (r : PageRange) → SeeksIn test r
seek_in test r = go (seek test r.first (r.end - r.first))
  where
    go : Seeks test r.first (r.end - r.first) → SeeksIn test r
    go (inl found) = inl (found.0, in_has r found.0 found.1 (omega (arith, found.1, found.2)), found.3)
    go (inr none) = inr (λ p h.
        let low : r.first ≤ p = (has_in r p h).0 in
        let high : p < r.end = (has_in r p h).1 in
        none p low (omega (arith, low, high)))

-- a place for a mapping

not_both : (b : Bool) → b ≡ true → b ≡ false → ⊥
not_both b h g = cc

free_or_not : (m : ℕ → Bool) (r : PageRange) → IsFree m r ⊎ (IsFree m r → ⊥)
free_or_not m r = go (seek_in m r)
  where
    go : SeeksIn m r → IsFree m r ⊎ (IsFree m r → ⊥)
    go (inl found) = inr (λ free. not_both (m found.0) found.2 (free found.0 found.1))
    go (inr none) = inl none

hint_or_not : (m : ℕ → Bool) (h n : ℕ) → IsHint m h n ⊎ (IsHint m h n → ⊥)
hint_or_not m h n = go (are_pages (pages_from h n)) refl (free_or_not m (pages_from h n))
  where
    go : (b : Bool) → are_pages (pages_from h n) ≡ b → IsFree m (pages_from h n) ⊎ (IsFree m (pages_from h n) → ⊥) → IsHint m h n ⊎ (IsHint m h n → ⊥)
    go false e f = inr (λ hint. not_both (are_pages (pages_from h n)) hint.0 e)
    go true e (inl free) = inl (e, free)
    go true e (inr none) = inr (λ hint. none hint.1)

room_or_not : (m : ℕ → Bool) (w : PageRange) (n s : ℕ) → IsRoom m w n s ⊎ (IsRoom m w n s → ⊥)
room_or_not m w n s = go (cases_lt s w.first) (cases_lt w.end (s + n)) (free_or_not m (pages_from s n))
  where
    go : (s < w.first) ⊎ (w.first ≤ s) → (w.end < s + n) ⊎ (s + n ≤ w.end) → IsFree m (pages_from s n) ⊎ (IsFree m (pages_from s n) → ⊥)
        → IsRoom m w n s ⊎ (IsRoom m w n s → ⊥)
    go (inl lt) y f = inr (λ room. let low = room.0.low in omega (arith, low, lt))
    go (inr le) (inl lt) f = inr (λ room. let high = room.0.high in omega (arith, high, lt))
    go (inr le) (inr ge) (inl free) = inl (record { low = le; high = ge }, free)
    go (inr le) (inr ge) (inr none) = inr (λ room. none room.1)

-- the least room below a bound, or none
abbrev RoomBelow : (ℕ → Bool) → PageRange → ℕ → ℕ → Type 0
RoomBelow m w n k = ((s : ℕ) × IsLeastRoom m w n (Some s)) ⊎ ((s : ℕ) → s < k → IsRoom m w n s → ⊥)

room_below : (m : ℕ → Bool) (w : PageRange) (n k : ℕ) → RoomBelow m w n k
room_below m w n zero = inr (λ s lt room. omega (arith, lt))
room_below m w n (suc k) = go (room_below m w n k) (room_or_not m w n k)
  where
    neither : ((s : ℕ) → s < k → IsRoom m w n s → ⊥) → (IsRoom m w n k → ⊥) → (s : ℕ) → s < suc k → IsRoom m w n s → (s < k) ⊎ (k ≤ s) → ⊥
    neither below last s lt room (inl less) = below s less room
    neither below last s lt room (inr le) = let same : s ≡ k = omega (arith, lt, le) in last (subst (λ (x : ℕ). IsRoom m w n x) same room)

    go : RoomBelow m w n k → IsRoom m w n k ⊎ (IsRoom m w n k → ⊥) → RoomBelow m w n (suc k)
    go (inl found) r = inl found
    go (inr below) (inl room) = inl (k, (room, below))
    go (inr below) (inr last) = inr (λ s lt room. neither below last s lt room (cases_lt s k))

least_room : (m : ℕ → Bool) (w : PageRange) (n : ℕ) → (place : Option ℕ) × IsLeastRoom m w n place
least_room m w n = go (room_below m w n (suc w.end))
  where
    go : RoomBelow m w n (suc w.end) → (place : Option ℕ) × IsLeastRoom m w n place
    go (inl found) = (Some found.0, found.1)
    go (inr none) = (None, λ s room. let high : s + n ≤ w.end = room.0.high in none s (omega (arith, high)) room)

place : (m : ℕ → Bool) (w : PageRange) (h n : ℕ) → (at : Option ℕ) × IsFirstPlace m w h n at
place m w h n = go (hint_or_not m h n)
  where
    go : IsHint m h n ⊎ (IsHint m h n → ⊥) → (at : Option ℕ) × IsFirstPlace m w h n at
    go (inl hint) = (Some h, at_hint hint refl)
    go (inr none) = let least = least_room m w n in (least.0, in_window none least.1)

-- what each request is answered

abbrev Replies : (Reply → Plain → Type 0) → Type 0
Replies answers = (y : Reply) × (u : Plain) × answers y u

maps : (t : Plain) (o : Option PageRange) (back : Back) (prot : Prot) → Replies (Maps t o back prot)
maps t None back prot = (Refused ENOMEM, t, (refl, refl))
maps t (Some r) back prot = (Mapped (r.first * 4096), after_mapping t r back prot, (refl, refl))

maps_at : (fixed : Bool) (t : Plain) (m : NewMapping) → Replies (MapsAt IsFirstPlace fixed t m)
maps_at true t m = maps t (Some (pages_of m.addr m.len)) m.meta.back m.meta.prot
maps_at false t m =
    let found = place (is_mapped t.entry) (window_of m.core) (page_of m.addr) (page_count m.len) in
    let answer = maps t (range_at found.0 (page_count m.len)) m.meta.back m.meta.prot in
    (answer.0, answer.1, (found.0, found.1, answer.2))

protects : (t : Plain) (r : PageRange) (prot : Prot) → Replies (Protects t r prot)
protects t r prot = go (seek_in (λ p. is_absent (t.entry p)) r) (seek_in (λ p. is_read_only t.file (t.entry p)) r) prot.write refl
  where
    lacks : (test : Option PageEntry → Bool) → ((p : ℕ) → has r p ≡ true → test (t.entry p) ≡ false) → HasPage test t.entry r → ⊥
    lacks test none page = not_both (test (t.entry page.0)) page.2 (none page.0 page.1)

    go : SeeksIn (λ p. is_absent (t.entry p)) r → SeeksIn (λ p. is_read_only t.file (t.entry p)) r → (w : Bool) → prot.write ≡ w → Replies (Protects t r prot)
    go (inl absent) s w e = (Refused ENOMEM, t, no_page absent refl refl)
    go (inr none) (inl read_only) true e = (Refused EACCES, t, no_write (lacks is_absent none) e read_only refl refl)
    go (inr none) (inl read_only) false e = (Done, after_protecting t r prot, done (lacks is_absent none) (λ h. absurd (not_both prot.write h e)) refl refl)
    go (inr none) (inr writable) w e = (Done, after_protecting t r prot, done (lacks is_absent none) (λ h. lacks (is_read_only t.file) writable) refl refl)

accesses : (t : Plain) (addr : ℕ) (a : Access) (byte : ℕ) → is_some (access_reply t addr a) ≡ true → Replies (Accesses t addr a byte)
accesses t addr a byte h = go (access_reply t addr a) refl h
  where
    go : (o : Option Reply) → access_reply t addr a ≡ o → is_some o ≡ true → Replies (Accesses t addr a byte)
    go None e some = absurd cc
    go (Some y) e some = (y, accessed t addr byte y, (e, refl))

performs : (t : Plain) (core : ℕ) (request : Request) → is_ready t request ≡ true → Replies (Performs IsFirstPlace t core request)
performs t core (Mmap addr len prot flags file off) ready =
    maps_at flags.fixed t (record { core = core; addr = addr; len = len; meta = meta_of prot flags file off })
performs t core (Munmap addr len) ready = (Done, after_unmapping t (pages_of addr len), (refl, refl))
performs t core (Mprotect addr len prot) ready = protects t (pages_of addr len) prot
performs t core (LoadOf addr) ready = accesses t addr Load 0 (load_ready t addr)
performs t core (StoreOf addr byte) ready = accesses t addr Store byte ready
performs t core (FetchOf addr) ready = accesses t addr Fetch 0 (fetch_ready t addr)

applies : (t : Plain) (core : ℕ) (request : Request) → is_ready t request ≡ true → Replies (Applies IsFirstPlace t core request)
applies t core request ready = go (refusal (λ n. mode_of (t.file n)) request)
  where
    go : (o : Option Reply) → Replies (AppliesAfter IsFirstPlace o t core request)
    go None = performs t core request ready
    go (Some y) = (y, t, (refl, refl))

at_once : (t : Plain) (core : ℕ) (request : Request) → is_ready t request ≡ true → page_due t request ≡ None → Replies (Answers IsFirstPlace t core request)
at_once t core request ready due =
    let a = applies t core request ready in (
      a.0,
      a.1,
      subst (λ m. Applies IsFirstPlace m core request a.0 a.1) (sym (uncopied t request a.0 due)) a.2,
    )

stores : (t : Plain) (core addr byte : ℕ) → Replies (Answers IsFirstPlace t core (StoreOf addr byte))
stores t core addr byte = go (access_reply t addr Store) refl
  where
    go : (o : Option Reply) → access_reply t addr Store ≡ o → Replies (Answers IsFirstPlace t core (StoreOf addr byte))
    go None e =
        let d = due t addr e in
        let u = accessed (after t addr d) addr byte Done in (
          Done,
          u,
          subst (λ m. Accesses m addr Store byte Done u) (sym (copy_due t addr byte d)) (copy_answers t addr d, refl),
        )
    go (Some y) e =
        let u = accessed t addr byte y in
        (y, u, subst (λ m. Accesses m addr Store byte y u) (sym (store_at_once t addr byte y e)) (e, refl))

pub answered : (t : Plain) (core : ℕ) (request : Request) → Replies (Answers IsFirstPlace t core request)
answered t core (Mmap addr len prot flags file off) = at_once t core (Mmap addr len prot flags file off) refl refl
answered t core (Munmap addr len) = at_once t core (Munmap addr len) refl refl
answered t core (Mprotect addr len prot) = at_once t core (Mprotect addr len prot) refl refl
answered t core (LoadOf addr) = at_once t core (LoadOf addr) refl refl
answered t core (StoreOf addr byte) = stores t core addr byte
answered t core (FetchOf addr) = at_once t core (FetchOf addr) refl refl
