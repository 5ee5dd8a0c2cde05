-- Replies to accesses of replaced entries
use Rattle.slot_lock.proofs.Words.{◌≡◌, ◌∙◌, ℕ, Bool, true, false, cond, Option, None, Some, ap, subst, put, put_same}
use Rattle.slot_lock.proofs.Words.{Bytes, PageEntry, File, Plain, Reply, Byte, Segv, Bus, MapErr, Access, bytes_of, entry_reply, is_page, page_of}
use Rattle.vm_base.specs.declared.rights.Access.TheVariants as By
use Rattle.vm_base.specs.declared.requests.Request.TheVariants.{Load, Fetch}
use Rattle.vm_base.specs.declared.replies.SegvCode.TheVariants.{AccErr}
use Rattle.vm_base.specs.Apply.{access_reply, bytes_reply}
use Rattle.vm_base.specs.Pages.{offset_of}
use Rattle.vm_base.specs.Rights.{is_allowed}
use Rattle.loose_orders.specs.Loose.{with_entry}

-- ---- what a read may be answered

abbrev pub IsRead : Reply → Type 0
IsRead (Byte b) = Unit {0}
IsRead (Segv code) = Unit {0}
IsRead Bus = Unit {0}
IsRead y = ⊥

of_bytes : (o : Option Bytes) (i : ℕ) (y : Reply) → bytes_reply false o By.Load i ≡ Some y → IsRead y
of_bytes None i y e = let same : Bus ≡ y = cc in subst IsRead same tt
of_bytes (Some b) i y e = let same : Byte (b i) ≡ y = cc in subst IsRead same tt

of_fetched : (o : Option Bytes) (i : ℕ) (y : Reply) → bytes_reply false o By.Fetch i ≡ Some y → IsRead y
of_fetched None i y e = let same : Bus ≡ y = cc in subst IsRead same tt
of_fetched (Some b) i y e = let same : Byte (b i) ≡ y = cc in subst IsRead same tt

allowed : (b : Bool) (x : Option Reply) (y : Reply) → (x ≡ Some y → IsRead y) → cond b x (Some (Segv AccErr)) ≡ Some y → IsRead y
allowed true x y h e = h e
allowed false x y h e = let same : Segv AccErr ≡ y = cc in subst IsRead same tt

pub load_kind : (files : ℕ → Option File) (o : Option PageEntry) (i : ℕ) (y : Reply) → entry_reply files o By.Load i ≡ Some y → IsRead y
load_kind files None i y e = let same : Segv MapErr ≡ y = cc in subst IsRead same tt
load_kind files (Some x) i y e =
    allowed (is_allowed x.prot By.Load) (bytes_reply false (bytes_of files x.back x.own) By.Load i) y (of_bytes (bytes_of files x.back x.own) i y) e

pub fetch_kind : (files : ℕ → Option File) (o : Option PageEntry) (i : ℕ) (y : Reply) → entry_reply files o By.Fetch i ≡ Some y → IsRead y
fetch_kind files None i y e = let same : Segv MapErr ≡ y = cc in subst IsRead same tt
fetch_kind files (Some x) i y e =
    allowed (is_allowed x.prot By.Fetch) (bytes_reply false (bytes_of files x.back x.own) By.Fetch i) y (of_fetched (bytes_of files x.back x.own) i y) e

-- ---- in a map in which the page has that entry

pub reply_there : (t : Plain) (addr : ℕ) (e : Option PageEntry) (a : Access) (y : Reply) → is_page (page_of addr) ≡ true
    → entry_reply t.file e a (offset_of addr) ≡ Some y → access_reply (with_entry t (page_of addr) e) addr a ≡ Some y
reply_there t addr e a y valid due =
    ap (λ (b : Bool). cond b (entry_reply t.file (put t.entry (page_of addr) e (page_of addr)) a (offset_of addr)) (Some (Segv MapErr))) valid
    ∙ (ap (λ (o : Option PageEntry). entry_reply t.file o a (offset_of addr)) (put_same t.entry (page_of addr) e) ∙ due)
