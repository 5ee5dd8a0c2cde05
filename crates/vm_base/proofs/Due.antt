-- A store before which a copy of its page is due, and the state after the copy
use Rattle.std.proofs.Common.{◌≡◌, ℕ, Bool, true, false, cond, Option, Some, None, refl, ◌∙◌, ap}
use Rattle.vm_base.specs.declared.rights.Access.TheVariants.{Store}
use Rattle.vm_base.specs.declared.info.Back.{Back}
use Rattle.vm_base.specs.declared.info.Back.TheVariants.{Anon, Shared, Private}
use Rattle.vm_base.specs.declared.replies.SegvCode.TheVariants.{MapErr, AccErr}
use Rattle.vm_base.specs.declared.replies.Reply.TheVariants.{Done, Segv}
use Rattle.vm_base.specs.Functions.{put}
use Rattle.vm_base.specs.Rights.{is_allowed}
use Rattle.vm_base.specs.Pages.{page_of, offset_of, is_page}
use Rattle.vm_base.specs.Plain.{Bytes, PageEntry, Plain, bytes_of}
use Rattle.vm_base.specs.Apply.{is_uncopied, bytes_reply, entry_reply, access_reply, copied, detached_entry, detached}
use Rattle.vm_base.proofs.Functions.{put_same}

-- the page is valid, mapped and may be written; it isn't copied, and has bytes
abbrev pub Due : Plain → ℕ → Type 0
Due t addr =
    (e : PageEntry) × (bytes : Bytes) × (is_page (page_of addr) ≡ true) × (t.entry (page_of addr) ≡ Some e) × (is_allowed e.prot Store ≡ true)
    × (is_uncopied e.back e.own ≡ true) × (bytes_of t.file e.back e.own ≡ Some bytes)

pub due : (t : Plain) (addr : ℕ) → access_reply t addr Store ≡ None → Due t addr
due t addr h = go (is_page (page_of addr)) (t.entry (page_of addr)) refl refl h
  where
    with_bytes : (e : PageEntry) → is_page (page_of addr) ≡ true → t.entry (page_of addr) ≡ Some e → is_allowed e.prot Store ≡ true → (c : Bool) (b : Option Bytes)
        → is_uncopied e.back e.own ≡ c → bytes_of t.file e.back e.own ≡ b → bytes_reply c b Store (offset_of addr) ≡ None → Due t addr
    with_bytes e ev eo ea c None ec eb h = absurd cc
    with_bytes e ev eo ea false (Some b) ec eb h = absurd cc
    with_bytes e ev eo ea true (Some b) ec eb h = (e, b, ev, eo, ea, ec, eb)

    allowed : (e : PageEntry) → is_page (page_of addr) ≡ true → t.entry (page_of addr) ≡ Some e → (v : Bool) → is_allowed e.prot Store ≡ v
        → cond v (bytes_reply (is_uncopied e.back e.own) (bytes_of t.file e.back e.own) Store (offset_of addr)) (Some (Segv AccErr)) ≡ None → Due t addr
    allowed e ev eo false ea h = absurd cc
    allowed e ev eo true ea h = with_bytes e ev eo ea (is_uncopied e.back e.own) (bytes_of t.file e.back e.own) refl refl h

    go : (v : Bool) (o : Option PageEntry) → is_page (page_of addr) ≡ v → t.entry (page_of addr) ≡ o
        → cond v (entry_reply t.file o Store (offset_of addr)) (Some (Segv MapErr)) ≡ None → Due t addr
    go false o ev eo h = absurd cc
    go true None ev eo h = absurd cc
    go true (Some e) ev eo h = allowed e ev eo (is_allowed e.prot Store) refl h

abbrev pub with_copy : PageEntry → Bytes → PageEntry
with_copy e bytes = record e { own = Some bytes }

abbrev pub after : (t : Plain) (addr : ℕ) → Due t addr → Plain
after t addr d = record t { entry = put t.entry (page_of addr) (Some (with_copy d.0 d.1)) }

pub detached_due : (t : Plain) (addr : ℕ) (d : Due t addr) → detached t (page_of addr) ≡ Some (after t addr d)
detached_due t addr d =
    ap (λ (x : Option PageEntry). detached_entry t (page_of addr) x) d.3
    ∙ (ap (λ (c : Bool). copied t (page_of addr) d.0 c (bytes_of t.file d.0.back d.0.own)) d.5
    ∙ ap (λ (b : Option Bytes). copied t (page_of addr) d.0 true b) d.6)

copied_once : (b : Back) (bytes : Bytes) → is_uncopied b (Some bytes) ≡ false
copied_once Anon bytes = refl
copied_once (Shared file page) bytes = refl
copied_once (Private file page) bytes = refl

pub answered : (t : Plain) (addr : ℕ) (d : Due t addr) → access_reply (after t addr d) addr Store ≡ Some Done
answered t addr d =
    ap (λ (v : Bool). cond v (entry_reply t.file (put t.entry (page_of addr) (Some (with_copy d.0 d.1)) (page_of addr)) Store
    (offset_of addr)) (Some (Segv MapErr))) d.2
    ∙ (ap (λ (x : Option PageEntry). entry_reply t.file x Store (offset_of addr)) (put_same t.entry (page_of addr) (Some (with_copy d.0 d.1)))
    ∙ (ap (λ (v : Bool). cond v (bytes_reply (is_uncopied d.0.back (Some d.1)) (Some d.1) Store (offset_of addr)) (Some (Segv AccErr))) d.4
    ∙ ap (λ (c : Bool). bytes_reply c (Some d.1) Store (offset_of addr)) (copied_once d.0.back d.1)))
