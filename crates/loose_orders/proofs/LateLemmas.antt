-- Accesses that go as before a call
use Rattle.slot_lock.proofs.Words.{◌≡◌, ◌==◌, ◌∙◌, ℕ, Bool, true, false, cond, List, Option, None, Some, IfSome, ap, refl, subst, sym, put, put_same}
use Rattle.slot_lock.proofs.Words.{put_other, eq_true, eq_false}
use Rattle.slot_lock.proofs.Words.{Back, Bytes, PageEntry, File, Plain, Reply, Done, Segv, Access, entry_reply, is_page, is_some, page_of, Prot}
use Rattle.std.specs.Prelude.{◌&&◌}
use Rattle.vm_base.specs.declared.info.Back.TheVariants as BackOf
use Rattle.vm_base.specs.declared.rights.Access.TheVariants as By
use Rattle.vm_base.specs.declared.requests.Request.TheVariants.{Store}
use Rattle.vm_base.specs.declared.replies.SegvCode.TheVariants.{AccErr}
use Rattle.vm_base.specs.Apply.{bytes_reply, needs_copy}
use Rattle.vm_base.specs.Pages.{offset_of}
use Rattle.vm_base.specs.Plain.{file_bytes}
use Rattle.vm_base.specs.Rights.{is_allowed}
use Rattle.audit.specs.Keeping.{byte_at}
use Rattle.loose_orders.specs.declared.keeping.Kept.{Kept}
use Rattle.loose_orders.specs.declared.keeping.Was.{Was}
use Rattle.loose_orders.specs.declared.keeping.Was.TheVariants.{Unmapped, Own, Shared, Private}
use Rattle.loose_orders.specs.Kept.{AllKept, FindsDue, IsKept, IsWas, Olds, kept_stored, was_stored}
use Rattle.loose_orders.specs.Loose.{Loose}
use Rattle.loose_orders.proofs.Maps.{put_back}

-- ---- one that changes nothing

pub same_old : (old : Olds) (call page : ℕ) (e : Option PageEntry) (f : ℕ → Option PageEntry) → old call page ≡ Some e
    → old ≡ put old call (put (old call) page (Some (put f page e page)))
same_old old call page e f is =
    sym (put_back old call (put (old call) page (Some (put f page e page)))
    (put_back (old call) page (Some (put f page e page)) (ap Some (put_same f page e) ∙ sym is)))

-- what is kept speaks of the page and the offset of the access
abbrev pub HasOf : Kept → List Kept → Type 0
HasOf k kept = (old : Olds) → AllKept old kept → IsKept old k

-- the entry's page and reply, in a state of which this is kept
pub record Found (s : Loose) (k : Kept) (addr : ℕ) (a : Access) (y : Reply) : Type 0 where
  pub entry : Option PageEntry
  pub is_old : s.old k.call (page_of addr) ≡ Some entry
  pub valid : is_page (page_of addr) ≡ true
  pub was : IsWas entry (offset_of addr) k.was
  pub reply : entry_reply s.plain.file entry a (offset_of addr) ≡ Some y

pub found : (s : Loose) (t : Plain) (k : Kept) (kept : List Kept) (addr : ℕ) (a : Access) (y : Reply) → s.plain ≡ t → k.page ≡ page_of addr
    → k.offset ≡ offset_of addr → HasOf k kept → AllKept s.old kept → FindsDue t.file (offset_of addr) k.was a y → Found s k addr a y
found s t k kept addr a y e at off has all due =
    let kk = has s.old all in
    let was : IsWas kk.entry (offset_of addr) k.was = subst (λ (i : ℕ). IsWas kk.entry i k.was) off kk.was in
    record {
      entry = kk.entry;
      is_old = subst (λ (p : ℕ). s.old k.call p ≡ Some kk.entry) at kk.is_old;
      valid = subst (λ (p : ℕ). is_page p ≡ true) at kk.valid;
      was = was;
      reply = subst (λ (p : Plain). entry_reply p.file kk.entry a (offset_of addr) ≡ Some y) (sym e) (due kk.entry was);
    }

-- ---- a store to bytes of the page's own

-- an entry with bytes of its own
abbrev pub owned : Back → Prot → Bytes → PageEntry
owned back prot own = record { back = back; prot = prot; own = Some own }

-- one that shows a file's
abbrev pub shown : Back → Prot → PageEntry
shown back prot = record { back = back; prot = prot; own = None }

owned_not_shown : (back : Back) (prot : Prot) (own : Bytes) (b : Back) (p : Prot) → Some (owned back prot own) ≡ Some (shown b p) → ⊥
owned_not_shown back prot own b p e =
    let same : owned back prot own ≡ shown b p = cc in
    let owns : ◌≡◌ {A = Option Bytes} (Some own) None = ap (λ (x : PageEntry). x.own) same in absurd cc

some_same : {A : Type 0} (x y : A) → Some x ≡ Some y → x ≡ y
some_same x y e = cc

-- what is known of the entry holds of it behind the store
was_after : (e : Option PageEntry) (back : Back) (prot : Prot) (own : Bytes) (i j byte : ℕ) (was : Was) → e ≡ Some (owned back prot own)
    → IsWas e j was → (b : Bool) → (j == i) ≡ b
    → IsWas (Some (owned back prot (put own i byte))) j (cond b (was_stored byte was) was)
was_after e back prot own i j byte Unmapped is w b t = let amiss : Some (owned back prot own) ≡ None = sym is ∙ w in absurd cc
was_after e back prot own i j byte (Shared file page p) is w b t =
    absurd (owned_not_shown back prot own (BackOf.Shared file page) p (sym is ∙ w))
was_after e back prot own i j byte (Private file page p) is w b t =
    absurd (owned_not_shown back prot own (BackOf.Private file page) p (sym is ∙ w))
was_after e back prot own i j byte (Own p known) is w true t =
    let both : owned back prot own ≡ owned w.0 p w.1 = some_same (owned back prot own) (owned w.0 p w.1) (sym is ∙ w.2) in
    let same : prot ≡ p = ap (λ (x : PageEntry). x.prot) both in (
      back,
      put own i byte,
      ap (λ (q : Prot). Some (owned back q (put own i byte))) same,
      subst (λ (x : ℕ). put own i byte x ≡ byte) (sym (eq_true j i t)) (put_same own i byte),
    )
was_after e back prot own i j byte (Own p known) is w false t =
    let both : owned back prot own ≡ owned w.0 p w.1 = some_same (owned back prot own) (owned w.0 p w.1) (sym is ∙ w.2) in
    let same : prot ≡ p = ap (λ (x : PageEntry). x.prot) both in
    let bytes : own ≡ w.1 = some_same own w.1 (ap (λ (x : PageEntry). x.own) both) in
    (back, put own i byte, ap (λ (q : Prot). Some (owned back q (put own i byte))) same, known_still known w.3 bytes)
  where
    known_still : (k : Option ℕ) → IfSome k (λ b. w.1 j ≡ b) → own ≡ w.1 → IfSome k (λ b. put own i byte j ≡ b)
    known_still None h same = tt
    known_still (Some b) h same = put_other own i byte j (eq_false j i t) ∙ (ap (λ (f : Bytes). f j) same ∙ h)

-- so does all that is kept
pub kept_after : (old : Olds) (call page i byte : ℕ) (back : Back) (prot : Prot) (own : Bytes) → old call page ≡ Some (Some (owned back prot own))
    → (k : Kept) → IsKept old k
    → IsKept (put old call (put (old call) page (Some (Some (owned back prot (put own i byte)))))) (kept_stored call page i byte k)
kept_after old call page i byte back prot own is k kk = by_call (k.call == call) refl
  where
    e : PageEntry
    e = owned back prot (put own i byte)

    new : Olds
    new = put old call (put (old call) page (Some (Some (owned back prot (put own i byte)))))

    stay : (b : Bool) → b ≡ false → (x : Option PageEntry) → x ≡ kk.entry → new k.call k.page ≡ Some x
        → IsKept new (cond b (record k { was = was_stored byte k.was }) k)
    stay true amiss x same at = absurd cc
    stay false t x same at = record { valid = kk.valid; entry = kk.entry; is_old = at ∙ ap Some same; was = kk.was }

    here : (b : Bool) → (k.offset == i) ≡ b → k.call ≡ call → k.page ≡ page → IsKept new (cond b (record k { was = was_stored byte k.was }) k)
    here b t c p =
        let at : new k.call k.page ≡ Some (Some (owned back prot (put own i byte))) =
        ap (λ (x : ℕ). put old call (put (old call) page (Some (Some e))) x k.page) c
        ∙ (ap (λ (f : ℕ → Option (Option PageEntry)). f k.page) (put_same old call (put (old call) page (Some (Some e))))
        ∙ (ap (put (old call) page (Some (Some e))) p ∙ put_same (old call) page (Some (Some e)))) in
        let before : Some kk.entry ≡ Some (Some (owned back prot own)) =
        sym kk.is_old ∙ (ap (λ (x : ℕ). old x k.page) c ∙ (ap (old call) p ∙ is)) in
        let was : kk.entry ≡ Some (owned back prot own) = some_same kk.entry (Some (owned back prot own)) before in
        there b at (was_after kk.entry back prot own i k.offset byte k.was was kk.was b t)
      where
        there : (b : Bool) → new k.call k.page ≡ Some (Some (owned back prot (put own i byte)))
            → IsWas (Some (owned back prot (put own i byte))) k.offset (cond b (was_stored byte k.was) k.was)
            → IsKept new (cond b (record k { was = was_stored byte k.was }) k)
        there true at w = record { valid = kk.valid; entry = Some (owned back prot (put own i byte)); is_old = at; was = w }
        there false at w = record { valid = kk.valid; entry = Some (owned back prot (put own i byte)); is_old = at; was = w }

    by_page : (b : Bool) → (k.page == page) ≡ b → k.call ≡ call → IsKept new (cond (b && (k.offset == i)) (record k { was = was_stored byte k.was }) k)
    by_page true t c = here (k.offset == i) refl c (eq_true k.page page t)
    by_page false t c = stay false refl kk.entry refl
        (ap (λ (x : ℕ). put old call (put (old call) page (Some (Some e))) x k.page) c
        ∙ (ap (λ (f : ℕ → Option (Option PageEntry)). f k.page) (put_same old call (put (old call) page (Some (Some e))))
        ∙ (put_other (old call) page (Some (Some e)) k.page (eq_false k.page page t) ∙ (ap (λ (x : ℕ). old x k.page) (sym c) ∙ kk.is_old))))

    by_call : (b : Bool) → (k.call == call) ≡ b → IsKept new (cond ((b && (k.page == page)) && (k.offset == i)) (record k { was = was_stored byte k.was }) k)
    by_call true t = by_page (k.page == page) refl (eq_true k.call call t)
    by_call false t = stay false refl kk.entry refl
        (ap (λ (f : ℕ → Option (Option PageEntry)). f k.page) (put_other old call (put (old call) page (Some (Some e))) k.call
        (eq_false k.call call t)) ∙ kk.is_old)

-- ---- a store to a page of a shared file

-- where it is done the file has the page
pub shared_there : (files : ℕ → Option File) (was : Was) (file page i : ℕ) (prot : Prot) → was ≡ Shared file page prot → FindsDue files i was By.Store Done
    → is_some (file_bytes (files file) page) ≡ true
shared_there files was file page i prot is due =
    go (is_allowed prot By.Store) (file_bytes (files file) page)
    (subst (λ (w : Was). FindsDue files i w By.Store Done) is due (Some (shown (BackOf.Shared file page) prot)) refl)
  where
    go : (b : Bool) (bytes : Option Bytes) → cond b (bytes_reply false bytes By.Store i) (Some (Segv AccErr)) ≡ Some Done → is_some bytes ≡ true
    go true None h = absurd cc
    go true (Some x) h = refl
    go false bytes h = absurd cc

-- ---- a store that isn't done

-- to a page that isn't mapped none is
pub store_unmapped : (files : ℕ → Option File) (was : Was) (i : ℕ) → was ≡ Unmapped → FindsDue files i was By.Store Done → ⊥
store_unmapped files was i is due =
    let reply : entry_reply files None By.Store i ≡ Some Done = subst (λ (w : Was). FindsDue files i w By.Store Done) is due None refl in absurd cc

-- nor to one that needs a copy first
pub store_uncopied : (files : ℕ → Option File) (was : Was) (file page i : ℕ) (prot : Prot) → was ≡ Private file page prot
    → FindsDue files i was By.Store Done → ⊥
store_uncopied files was file page i prot is due =
    go (is_allowed prot By.Store) (file_bytes (files file) page)
    (subst (λ (w : Was). FindsDue files i w By.Store Done) is due (Some (shown (BackOf.Private file page) prot)) refl)
  where
    go : (b : Bool) (bytes : Option Bytes) → cond b (bytes_reply true bytes By.Store i) (Some (Segv AccErr)) ≡ Some Done → ⊥
    go true None h = absurd cc
    go true (Some x) h = absurd cc
    go false bytes h = absurd cc

-- ---- what is due

private_prot : (f k g j : ℕ) (p q : Prot) → Private f k p ≡ Private g j q → p ≡ q
private_prot f k g j p q e = cc

-- a page that shows its file's bytes until it gets a copy
pub uncopied_finds : (files : ℕ → Option File) (i file page g j : ℕ) (was : Was) (prot p : Prot) (a : Access) (byte : Option ℕ) (y : Option Reply)
    → was ≡ Private file page prot → was ≡ Private g j p → is_allowed p a ≡ true → byte ≡ byte_at (file_bytes (files file) page) i
    → ((f k : ℕ) (bytes : Option Bytes) (j : ℕ) → byte ≡ byte_at bytes j
    → IfSome y (λ z. bytes_reply (needs_copy a (BackOf.Private f k) None) bytes a j ≡ Some z))
    → IfSome y (FindsDue files i was a)
uncopied_finds files i file page g j was prot p a byte None is at may shows due = tt
uncopied_finds files i file page g j was prot p a byte (Some y) is at may shows due =
    let allowed : is_allowed prot a ≡ true =
    subst (λ (q : Prot). is_allowed q a ≡ true) (private_prot g j file page p prot (sym at ∙ is)) may in
    subst (λ (w : Was). FindsDue files i w a y) (sym is) (λ entry w.
    ap (λ (e : Option PageEntry). entry_reply files e a i) w
    ∙ (ap (λ (b : Bool). cond b (bytes_reply (needs_copy a (BackOf.Private file page) None) (file_bytes (files file) page) a i) (Some (Segv AccErr))) allowed
    ∙ due file page (file_bytes (files file) page) i shows))
