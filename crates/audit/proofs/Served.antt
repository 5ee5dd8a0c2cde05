-- The test whether an access would be served
use Rattle.slot_lock.proofs.Words.{◌≡◌, ◌↔◌, ℕ, Bool, true, false, Option, Some, None, is_some, refl, sym, ◌∙◌, ap, PageInfo, Bytes, PageEntry, File}
use Rattle.slot_lock.proofs.Words.{Plain, bytes_of, Request, Mmap, Munmap}
use Rattle.slot_lock.proofs.Words.{Mprotect, Access, Load, Store, Fetch}
use Rattle.std.specs.Prelude.{◌&&◌}
use Rattle.vm_base.specs.declared.requests.Request.TheVariants.{Load as LoadOf, Store as StoreOf, Fetch as FetchOf}
use Rattle.vm_base.specs.Log.{CanAccess, IsServable}
use Rattle.vm_base.specs.Pages.{is_page, page_of}
use Rattle.slot_lock.specs.Slots.{IsSlotMap, Slots}
use Rattle.vm_base.specs.Rights.{is_allowed}
use Rattle.audit.specs.Keeping.{entry_kept}
use Rattle.audit.specs.Serving.{can_access, is_served}
use Rattle.audit.proofs.Copied.{valid_test}

can : (files : ℕ → Option File) (e : Option PageEntry) (a : Access) → (can_access files e a ≡ true) ↔ CanAccess files e a
can files None a = ((λ h. absurd cc), (λ h. absurd h))
can files (Some e) a = (there (is_allowed e.prot a) (is_some (bytes_of files e.back e.own)), back (is_allowed e.prot a) (is_some (bytes_of files e.back e.own)))
  where
    there : (x y : Bool) → (x && y) ≡ true → (x ≡ true) × (y ≡ true)
    there true true h = (refl, refl)
    there true false h = absurd cc
    there false y h = absurd cc

    back : (x y : Bool) → (x ≡ true) × (y ≡ true) → (x && y) ≡ true
    back true true h = refl
    back true false h = h.1
    back false y h = absurd cc

pub served : (t : Plain) (request : Request) → (is_served t request ≡ true) ↔ IsServable t request
served t (LoadOf addr) = can t.file (t.entry (page_of addr)) Load
served t (StoreOf addr byte) = can t.file (t.entry (page_of addr)) Store
served t (FetchOf addr) = can t.file (t.entry (page_of addr)) Fetch
served t (Mmap addr len prot flags file off) = ((λ h. absurd cc), (λ h. absurd h))
served t (Munmap addr len) = ((λ h. absurd cc), (λ h. absurd h))
served t (Mprotect addr len prot) = ((λ h. absurd cc), (λ h. absurd h))

-- what is no page isn't served
pub invalid_unserved : (s : Slots) (files : ℕ → Option File) (bytes : ℕ → Bytes) (page : ℕ) (a : Access) → IsSlotMap s → is_page page ≡ false
    → false ≡ can_access files (entry_kept bytes (s.info page)) a
invalid_unserved s files bytes page a slots amiss =
    sym (ap (λ (i : Option PageInfo). can_access files (entry_kept bytes i) a) (slots.unmapped page (valid_test page amiss)))
