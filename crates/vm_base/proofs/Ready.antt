-- Loads and fetches have a reply at once, and so has a store once its page's copy is made, if one is due
use Rattle.std.proofs.Common.{◌≡◌, ℕ, Bool, true, false, cond, is_some, Option, Some, None, refl, ◌∙◌, ap}
use Rattle.vm_base.specs.declared.rights.Access.{Access}
use Rattle.vm_base.specs.declared.rights.Access.TheVariants.{Load, Store, Fetch}
use Rattle.vm_base.specs.declared.info.Back.{Back}
use Rattle.vm_base.specs.declared.replies.SegvCode.TheVariants.{MapErr, AccErr}
use Rattle.vm_base.specs.declared.replies.Reply.{Reply}
use Rattle.vm_base.specs.declared.replies.Reply.TheVariants.{Mapped, Done, Byte, Refused, Segv, Bus, NoFrame, NoMemory}
use Rattle.vm_base.specs.declared.requests.Request.{Request}
use Rattle.vm_base.specs.declared.requests.Request.TheVariants.{Store as StoreOf}
use Rattle.vm_base.specs.Rights.{is_allowed}
use Rattle.vm_base.specs.Pages.{page_of, offset_of, is_page}
use Rattle.vm_base.specs.Plain.{Bytes, File, PageEntry, Plain, bytes_of}
use Rattle.vm_base.specs.Apply.{needs_copy, bytes_reply, entry_reply, access_reply, copied, detached, detached_entry, is_uncopied}
use Rattle.vm_base.specs.Copies.{if_copied, or_else, page_copied, page_due, with_copy}
use Rattle.vm_base.proofs.Due.{Due, after, detached_due}

-- without a copy to be made each access has a reply
with_bytes : (a : Access) (i : ℕ) (o : Option Bytes) → is_some (bytes_reply false o a i) ≡ true
with_bytes a i None = refl
with_bytes a i (Some bytes) = refl

of_entry : (files : ℕ → Option File) (o : Option PageEntry) (a : Access) (i : ℕ)
    → ((back : Back) (own : Option Bytes) → needs_copy a back own ≡ false) → is_some (entry_reply files o a i) ≡ true
of_entry files None a i never = refl
of_entry files (Some e) a i never = go (is_allowed e.prot a)
  where
    go : (v : Bool) → is_some (cond v (bytes_reply (needs_copy a e.back e.own) (bytes_of files e.back e.own) a i) (Some (Segv AccErr))) ≡ true
    go false = refl
    go true = ap (λ (c : Bool). is_some (bytes_reply c (bytes_of files e.back e.own) a i)) (never e.back e.own) ∙ with_bytes a i (bytes_of files e.back e.own)

at_once : (t : Plain) (addr : ℕ) (a : Access) → ((back : Back) (own : Option Bytes) → needs_copy a back own ≡ false) → is_some (access_reply t addr a) ≡ true
at_once t addr a never = go (is_page (page_of addr))
  where
    go : (v : Bool) → is_some (cond v (entry_reply t.file (t.entry (page_of addr)) a (offset_of addr)) (Some (Segv MapErr))) ≡ true
    go false = refl
    go true = of_entry t.file (t.entry (page_of addr)) a (offset_of addr) never

pub load_ready : (t : Plain) (addr : ℕ) → is_some (access_reply t addr Load) ≡ true
load_ready t addr = at_once t addr Load (λ b o. refl)

pub fetch_ready : (t : Plain) (addr : ℕ) → is_some (access_reply t addr Fetch) ≡ true
fetch_ready t addr = at_once t addr Fetch (λ b o. refl)

-- ---- the copy before a store

-- a store that is done at once needs no copy
undue : (t : Plain) (addr : ℕ) → access_reply t addr Store ≡ Some Done → detached t (page_of addr) ≡ None
undue t addr h = go (is_page (page_of addr)) (t.entry (page_of addr)) refl h
  where
    with_bytes : (e : PageEntry) (c : Bool) (b : Option Bytes) → is_allowed e.prot Store ≡ true → bytes_reply c b Store (offset_of addr) ≡ Some Done
        → copied t (page_of addr) e c b ≡ None
    with_bytes e c None a h = absurd cc
    with_bytes e false (Some b) a h = refl
    with_bytes e true (Some b) a h = absurd cc

    allowed : (e : PageEntry) (v : Bool) → is_allowed e.prot Store ≡ v
        → cond v (bytes_reply (is_uncopied e.back e.own) (bytes_of t.file e.back e.own) Store (offset_of addr)) (Some (Segv AccErr)) ≡ Some Done
        → detached_entry t (page_of addr) (Some e) ≡ None
    allowed e false a h = absurd cc
    allowed e true a h = with_bytes e (is_uncopied e.back e.own) (bytes_of t.file e.back e.own) a h

    go : (v : Bool) (o : Option PageEntry) → t.entry (page_of addr) ≡ o
        → cond v (entry_reply t.file o Store (offset_of addr)) (Some (Segv MapErr)) ≡ Some Done → detached t (page_of addr) ≡ None
    go false o e h = absurd cc
    go true None e h = absurd cc
    go true (Some x) e h = ap (λ (o : Option PageEntry). detached_entry t (page_of addr) o) e ∙ allowed x (is_allowed x.prot Store) refl h

-- where it is due, the store is done in the map with the copy,
pub copy_due : (t : Plain) (addr byte : ℕ) (d : Due t addr) → with_copy t (page_copied t (StoreOf addr byte) Done) ≡ after t addr d
copy_due t addr byte d =
    ap (λ (x : Option Plain). with_copy t (if_copied x (page_of addr))) (detached_due t addr d)
    ∙ ap (λ (x : Option Plain). or_else t x) (detached_due t addr d)

-- and else as the map is
pub store_at_once : (t : Plain) (addr byte : ℕ) (y : Reply) → access_reply t addr Store ≡ Some y
    → with_copy t (page_copied t (StoreOf addr byte) y) ≡ t
store_at_once t addr byte (Mapped a) h = refl
store_at_once t addr byte Done h = ap (λ (x : Option Plain). with_copy t (if_copied x (page_of addr))) (undue t addr h)
store_at_once t addr byte (Byte b) h = refl
store_at_once t addr byte (Refused e) h = refl
store_at_once t addr byte (Segv s) h = refl
store_at_once t addr byte Bus h = refl
store_at_once t addr byte NoFrame h = refl
store_at_once t addr byte NoMemory h = refl

none_copied : (t : Plain) (request : Request) (y : Reply) → page_due t request ≡ None → page_copied t request y ≡ None
none_copied t request (Mapped a) h = refl
none_copied t request Done h = h
none_copied t request (Byte b) h = refl
none_copied t request (Refused e) h = refl
none_copied t request (Segv s) h = refl
none_copied t request Bus h = refl
none_copied t request NoFrame h = refl
none_copied t request NoMemory h = refl

pub uncopied : (t : Plain) (request : Request) (y : Reply) → page_due t request ≡ None → with_copy t (page_copied t request y) ≡ t
uncopied t request y h = ap (with_copy t) (none_copied t request y h)
