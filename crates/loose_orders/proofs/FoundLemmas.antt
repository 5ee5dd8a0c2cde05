-- What is found of an entry that a call is about to replace
use Rattle.slot_lock.proofs.Words.{◌≡◌, ◌∙◌, ℕ, Bool, true, false, cond, Option, None, Some, IfSome, ap, subst, sym}
use Rattle.slot_lock.proofs.Words.{Back, Bytes, PageEntry, PageInfo, Plain, Prot, Byte, Bus, Segv, MapErr, entry_reply, is_page, page_of}
use Rattle.vm_base.specs.declared.info.Back.TheVariants as BackOf
use Rattle.vm_base.specs.declared.rights.Access.TheVariants as By
use Rattle.vm_base.specs.declared.requests.Request.TheVariants.{Load, Fetch}
use Rattle.vm_base.specs.declared.replies.SegvCode.TheVariants.{AccErr}
use Rattle.vm_base.specs.Apply.{access_reply}
use Rattle.vm_base.specs.Pages.{offset_of}
use Rattle.vm_base.specs.Places.{PlaceRule}
use Rattle.vm_base.specs.Plain.{zeros}
use Rattle.vm_base.specs.Rights.{is_allowed}
use Rattle.audit.specs.Judging.{Judges}
use Rattle.audit.specs.Keeping.{entry_kept, own_kept}
use Rattle.audit.specs.declared.judging.ReplyVerdict.{ReplyVerdict}
use Rattle.audit.specs.declared.judging.ReplyVerdict.TheVariants.{Legal, Illegal}
use Rattle.loose_orders.specs.declared.keeping.Was.{Was}
use Rattle.loose_orders.specs.declared.keeping.Was.TheVariants.{Unmapped, Own}
use Rattle.loose_orders.specs.Kept.{IsWas}

-- ---- reads that were judged

pub load_same : (rule : PlaceRule) (t : Plain) (core addr : ℕ) (v : ReplyVerdict) (u : Plain) → Judges rule t core (Load addr) Bus v u → u ≡ t
load_same rule t core addr Legal u j = j.1
load_same rule t core addr (Illegal due) u j = j.2

pub fetch_same : (rule : PlaceRule) (t : Plain) (core addr : ℕ) (v : ReplyVerdict) (u : Plain) → Judges rule t core (Fetch addr) Bus v u → u ≡ t
fetch_same rule t core addr Legal u j = j.1
fetch_same rule t core addr (Illegal due) u j = j.2

pub load_found : (rule : PlaceRule) (t : Plain) (core addr : ℕ) (b : ℕ) (v : ReplyVerdict) (u : Plain) → v ≡ Illegal (Byte b)
    → Judges rule t core (Load addr) Bus v u
    → access_reply t addr By.Load ≡ Some (Byte b)
load_found rule t core addr b v u is j =
    let k = subst (λ (x : ReplyVerdict). Judges rule t core (Load addr) Bus x u) is j in k.1.1.0

pub fetch_found : (rule : PlaceRule) (t : Plain) (core addr : ℕ) (b : ℕ) (v : ReplyVerdict) (u : Plain) → v ≡ Illegal (Byte b)
    → Judges rule t core (Fetch addr) Bus v u
    → access_reply t addr By.Fetch ≡ Some (Byte b)
fetch_found rule t core addr b v u is j =
    let k = subst (λ (x : ReplyVerdict). Judges rule t core (Fetch addr) Bus x u) is j in k.1.1.0

-- ---- the byte of anonymous memory

byte_there : (v w : Bool) (x b : ℕ) → cond v (cond w (Some (Byte x)) (Some (Segv AccErr))) (Some (Segv MapErr)) ≡ Some (Byte b) → x ≡ b
byte_there true true x b h = let same : Byte x ≡ Byte b = cc in cc
byte_there true false x b h = absurd cc
byte_there false w x b h = absurd cc

-- an entry with bytes of its own
abbrev owned : Back → Prot → Bytes → Option PageEntry
owned back prot own = Some (record { back = back; prot = prot; own = Some own })

load_byte : (t : Plain) (addr b : ℕ) (back : Back) (prot : Prot) (own : Bytes) → t.entry (page_of addr) ≡ owned back prot own
    → access_reply t addr By.Load ≡ Some (Byte b) → own (offset_of addr) ≡ b
load_byte t addr b back prot own is h =
    byte_there (is_page (page_of addr)) (is_allowed prot By.Load) (own (offset_of addr)) b
    (subst (λ (o : Option PageEntry). cond (is_page (page_of addr)) (entry_reply t.file o By.Load (offset_of addr)) (Some (Segv MapErr)) ≡ Some (Byte b)) is h)

fetch_byte : (t : Plain) (addr b : ℕ) (back : Back) (prot : Prot) (own : Bytes) → t.entry (page_of addr) ≡ owned back prot own
    → access_reply t addr By.Fetch ≡ Some (Byte b) → own (offset_of addr) ≡ b
fetch_byte t addr b back prot own is h =
    byte_there (is_page (page_of addr)) (is_allowed prot By.Fetch) (own (offset_of addr)) b
    (subst (λ (o : Option PageEntry). cond (is_page (page_of addr)) (entry_reply t.file o By.Fetch (offset_of addr)) (Some (Segv MapErr)) ≡ Some (Byte b)) is h)

pub was_unmapped : (bytes : ℕ → Bytes) (o : Option PageInfo) (i : ℕ) → o ≡ None → IsWas (entry_kept bytes o) i Unmapped
was_unmapped bytes o i e = ap (entry_kept bytes) e

-- the page has bytes of its own
abbrev HasOwn : (ℕ → Bytes) → PageInfo → Type 0
HasOwn bytes info = (own : Bytes) × (own_kept bytes info.meta.back info.frame ≡ Some own)

-- anonymous memory has, and so has what got a frame
pub anon_own : (bytes : ℕ → Bytes) (back : Back) (frame : Option ℕ) → back ≡ BackOf.Anon → (own : Bytes) × (own_kept bytes back frame ≡ Some own)
anon_own bytes back None is = (zeros, ap (λ (b : Back). own_kept bytes b None) is)
anon_own bytes back (Some f) is = (bytes f, ap (λ (b : Back). own_kept bytes b (Some f)) is)

pub copied_own : (bytes : ℕ → Bytes) (back : Back) (frame : Option ℕ) (file page f : ℕ) → back ≡ BackOf.Private file page → frame ≡ Some f
    → (own : Bytes) × (own_kept bytes back frame ≡ Some own)
copied_own bytes back frame file page f is has =
    (bytes f, ap (λ (b : Back). own_kept bytes b frame) is ∙ ap (own_kept bytes (BackOf.Private file page)) has)

own_entry : (bytes : ℕ → Bytes) (o : Option PageInfo) (info : PageInfo) (entry : Option PageEntry) → entry ≡ entry_kept bytes o → o ≡ Some info
    → (h : HasOwn bytes info) → entry ≡ owned info.meta.back info.meta.prot h.0
own_entry bytes o info entry at is h =
    at ∙ (ap (entry_kept bytes) is
    ∙ ap (λ (own : Option Bytes). Some (record { back = info.meta.back; prot = info.meta.prot; own = own })) h.1)

pub was_shown : (t : Plain) (bytes : ℕ → Bytes) (o : Option PageInfo) (info : PageInfo) (addr : ℕ) (was : Was) → t.entry (page_of addr) ≡ entry_kept bytes o
    → o ≡ Some info → IsWas (entry_kept bytes (Some info)) (offset_of addr) was → IsWas (t.entry (page_of addr)) (offset_of addr) was
was_shown t bytes o info addr was at is w =
    subst (λ (e : Option PageEntry). IsWas e (offset_of addr) was) (sym (at ∙ ap (entry_kept bytes) is)) w

pub was_loaded : (t : Plain) (bytes : ℕ → Bytes) (o : Option PageInfo) (info : PageInfo) (addr : ℕ) (byte : Option ℕ)
    → t.entry (page_of addr) ≡ entry_kept bytes o
    → o ≡ Some info → HasOwn bytes info → IfSome byte (λ b. access_reply t addr By.Load ≡ Some (Byte b))
    → IsWas (t.entry (page_of addr)) (offset_of addr) (Own info.meta.prot byte)
was_loaded t bytes o info addr byte at is h found =
    let entry = own_entry bytes o info (t.entry (page_of addr)) at is h in
    (info.meta.back, h.0, entry, known byte found)
  where
    known : (byte : Option ℕ) → IfSome byte (λ b. access_reply t addr By.Load ≡ Some (Byte b)) → IfSome byte (λ b. h.0 (offset_of addr) ≡ b)
    known None f = tt
    known (Some b) f = load_byte t addr b info.meta.back info.meta.prot h.0 (own_entry bytes o info (t.entry (page_of addr)) at is h) f

pub was_fetched : (t : Plain) (bytes : ℕ → Bytes) (o : Option PageInfo) (info : PageInfo) (addr : ℕ) (byte : Option ℕ)
    → t.entry (page_of addr) ≡ entry_kept bytes o
    → o ≡ Some info → HasOwn bytes info → IfSome byte (λ b. access_reply t addr By.Fetch ≡ Some (Byte b))
    → IsWas (t.entry (page_of addr)) (offset_of addr) (Own info.meta.prot byte)
was_fetched t bytes o info addr byte at is h found =
    let entry = own_entry bytes o info (t.entry (page_of addr)) at is h in
    (info.meta.back, h.0, entry, known byte found)
  where
    known : (byte : Option ℕ) → IfSome byte (λ b. access_reply t addr By.Fetch ≡ Some (Byte b)) → IfSome byte (λ b. h.0 (offset_of addr) ≡ b)
    known None f = tt
    known (Some b) f = fetch_byte t addr b info.meta.back info.meta.prot h.0 (own_entry bytes o info (t.entry (page_of addr)) at is h) f
