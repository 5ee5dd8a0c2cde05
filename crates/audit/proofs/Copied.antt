-- A copy that was made is the plain map's
use Rattle.slot_lock.proofs.Words.{◌≡◌, ℕ, Bool, arith, not, true, false, List, Option, Some, None, is_some, refl, sym, ◌∙◌, ap, subst, Back, Anon}
use Rattle.slot_lock.proofs.Words.{Shared, Private}
use Rattle.slot_lock.proofs.Words.{PageInfo, Bytes, PageEntry, Plain, bytes_of, Store, put}
use Rattle.std.specs.Prelude.{◌&&◌}
use Rattle.std.proofs.lemmas.Bool.Decides.{nat_tests}
use Rattle.vm_base.specs.Rights.{is_allowed}
use Rattle.vm_base.specs.Apply.{copied, detached, detached_entry, is_uncopied}
use Rattle.vm_base.specs.Copies.{or_else}
use Rattle.vm_base.specs.Log.{CanAccess}
use Rattle.vm_base.specs.Pages.{IsPage, is_page}
use Rattle.frames.specs.Files.{FileParts, cached_in}
use Rattle.frames.specs.Parts.{FrameParts, frame_bytes}
use Rattle.slot_lock.specs.Slots.{IsSlotMap, Slots}
use Rattle.audit.specs.Copying.{Copies, is_copy_due}
use Rattle.audit.specs.Judging.{copied_first}
use Rattle.audit.specs.Keeping.{Keeps, entry_kept, files_kept, own_kept, plain_kept}
use Rattle.audit.specs.Storing.{GetsFrame, is_shared_back}
use Rattle.audit.proofs.Stored.{gets, not_copied}

-- a copy that is due is made
pub due_made : (t : Plain) (page : ℕ) (e : PageEntry) → t.entry page ≡ Some e → is_copy_due t.file (Some e) ≡ true → Copies t page (copied_first t page)
due_made t page e at due = go (is_allowed e.prot Store) refl (is_uncopied e.back e.own) refl (bytes_of t.file e.back e.own) refl due
  where
    go : (a : Bool) → is_allowed e.prot Store ≡ a → (c : Bool) → is_uncopied e.back e.own ≡ c → (b : Option Bytes)
        → bytes_of t.file e.back e.own ≡ b → (a && c && is_some b) ≡ true → Copies t page (copied_first t page)
    go false ia c ic b ib h = absurd cc
    go true ia false ic b ib h = absurd cc
    go true ia true ic None ib h = absurd cc
    go true ia true ic (Some v) ib h =
        let made : detached t page ≡ Some (record t { entry = put t.entry page (Some (record e { own = Some v })) }) =
        ap (detached_entry t page) at ∙ (ap (λ (c : Bool). copied t page e c (bytes_of t.file e.back e.own)) ic ∙ ap (copied t page e true) ib) in
        (subst (λ (o : Option PageEntry). CanAccess t.file o Store) (sym at) (ia, ap is_some ib), made ∙ ap Some (sym (ap (or_else t) made)))

-- and one that isn't, isn't
pub not_due : (t : Plain) (page : ℕ) (o : Option PageEntry) → t.entry page ≡ o → is_copy_due t.file o ≡ false → (u : Plain) → ¬ Copies t page u
not_due t page None at h u c = subst (λ (o : Option PageEntry). CanAccess t.file o Store) at c.0
not_due t page (Some e) at h u c =
    let can : (is_allowed e.prot Store ≡ true) × (is_some (bytes_of t.file e.back e.own) ≡ true) =
    subst (λ (o : Option PageEntry). CanAccess t.file o Store) at c.0 in
    go (is_allowed e.prot Store) refl (is_uncopied e.back e.own) refl (is_some (bytes_of t.file e.back e.own)) refl can.0 can.1
    (sym (ap (detached_entry t page) at) ∙ c.1) h
  where
    go : (a : Bool) → is_allowed e.prot Store ≡ a → (c : Bool) → is_uncopied e.back e.own ≡ c → (b : Bool)
        → is_some (bytes_of t.file e.back e.own) ≡ b → is_allowed e.prot Store ≡ true → is_some (bytes_of t.file e.back e.own) ≡ true
        → copied t page e (is_uncopied e.back e.own) (bytes_of t.file e.back e.own) ≡ Some u
        → (is_allowed e.prot Store && is_uncopied e.back e.own && is_some (bytes_of t.file e.back e.own)) ≡ false → ⊥
    go false ia c ic b ib can some made h = absurd cc
    go true ia c ic false ib can some made h = absurd cc
    go true ia false ic true ib can some made h =
        let none = not_copied t page e (is_uncopied e.back e.own) (bytes_of t.file e.back e.own) ic in absurd cc
    go true ia true ic true ib can some made h = absurd cc

-- the same of what slots and frames keep
pub due_kept_made : (s : Slots) (o : List FileParts) (f : FrameParts) (page : ℕ) (info : PageInfo) (due : Bool) → s.info page ≡ Some info
    → due ≡ is_copy_due (plain_kept s o f).file (entry_kept (frame_bytes f) (Some info)) → due ≡ true
    → Copies (plain_kept s o f) page (copied_first (plain_kept s o f) page)
due_kept_made s o f page info due at is so = go (entry_kept (frame_bytes f) (Some info)) refl
  where
    go : (e : Option PageEntry) → entry_kept (frame_bytes f) (Some info) ≡ e → Copies (plain_kept s o f) page (copied_first (plain_kept s o f) page)
    go None h = absurd cc
    go (Some e) h = due_made (plain_kept s o f) page e (ap (entry_kept (frame_bytes f)) at ∙ h)
        (sym (ap (is_copy_due (plain_kept s o f).file) h) ∙ (sym is ∙ so))

pub none_mapped : (s : Slots) (o : List FileParts) (f : FrameParts) (page : ℕ) → s.info page ≡ None → (u : Plain) → ¬ Copies (plain_kept s o f) page u
none_mapped s o f page at = not_due (plain_kept s o f) page None (ap (entry_kept (frame_bytes f)) at) refl

-- what is no page isn't mapped
pub valid_test : (page : ℕ) → is_page page ≡ false → ¬ IsPage page
valid_test page amiss h = let low = h.0 in let high = h.1 in let so : is_page page ≡ true = grind (arith, nat_tests, low, high) in absurd cc

pub none_valid : (s : Slots) (o : List FileParts) (f : FrameParts) (page : ℕ) → IsSlotMap s → is_page page ≡ false
    → (u : Plain) → ¬ Copies (plain_kept s o f) page u
none_valid s o f page slots amiss = none_mapped s o f page (slots.unmapped page (valid_test page amiss))

-- the page that gets a copy is a private one with bytes
due_private : (back : Back) (own : Option Bytes) → is_uncopied back own ≡ true → is_shared_back back ≡ false
due_private Anon own h = absurd cc
due_private (Shared file page) own h = absurd cc
due_private (Private file page) own h = refl

due_parts : (a : Bool) (back : Back) (own b : Option Bytes) → (a && is_uncopied back own && is_some b) ≡ true
    → (is_shared_back back ≡ false) × (is_some b ≡ true)
due_parts a back own b h = go a (is_uncopied back own) refl (is_some b) refl h
  where
    go : (x y : Bool) → is_uncopied back own ≡ y → (z : Bool) → is_some b ≡ z → (x && y && z) ≡ true
        → (is_shared_back back ≡ false) × (is_some b ≡ true)
    go false y iy z iz h = absurd cc
    go true false iy z iz h = absurd cc
    go true true iy false iz h = absurd cc
    go true true iy true iz h = (due_private back own iy, iz)

-- the page that has its frame has its copy
pub copy_done : (s t : Slots) (o : List FileParts) (old mid : FrameParts) (page : ℕ) (info : PageInfo) (x : ℕ) (due : Bool) → s.info page ≡ Some info
    → due ≡ is_copy_due (plain_kept s o old).file (entry_kept (frame_bytes old) (Some info)) → due ≡ true → Keeps s (cached_in o) old
    → GetsFrame s t o old mid page info x → Copies (plain_kept s o old) page (plain_kept t o mid) × Keeps t (cached_in o) mid
copy_done s t o old mid page info x due at is so k g =
    let parts = due_parts (is_allowed info.meta.prot Store) info.meta.back (own_kept (frame_bytes old) info.meta.back info.frame)
    (bytes_of (files_kept o old) info.meta.back (own_kept (frame_bytes old) info.meta.back info.frame)) (sym is ∙ so) in
    let owned = gets s t o old mid page info x at parts.0 parts.1 k g in
    (subst (Copies (plain_kept s o old) page) (sym owned.plain) (due_kept_made s o old page info due at is so), owned.kept)
