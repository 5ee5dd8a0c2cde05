-- What is known of entries that calls have replaced
use Rattle.std.specs.Prelude.{◌≡◌, ◌==◌, ◌&&◌, ℕ, true, if◌then◌else◌, All, IfSome, List, slice_get, Option, None, Some}
use Rattle.vm_base.specs.declared.info.Back.{Back}
use Rattle.vm_base.specs.declared.info.Back.TheVariants as BackOf
use Rattle.vm_base.specs.declared.replies.Reply.{Reply}
use Rattle.vm_base.specs.declared.rights.Access.{Access}
use Rattle.vm_base.specs.Apply.{entry_reply}
use Rattle.vm_base.specs.Pages.{is_page}
use Rattle.vm_base.specs.Plain.{Bytes, PageEntry, File, Plain}
use Rattle.orders.specs.declared.history.Timed.{Timed}
use Rattle.loose_orders.specs.declared.keeping.Kept.{Kept}
use Rattle.loose_orders.specs.declared.keeping.Was.{Was}
use Rattle.loose_orders.specs.declared.keeping.Was.TheVariants.{Unmapped, Own, Shared, Private}
use Rattle.loose_orders.specs.Loose.{replaces}

-- what calls have replaced
abbrev pub Olds : Type 0
Olds = ℕ → ℕ → Option (Option PageEntry)

-- an entry is as is known of it, at this offset
abbrev pub IsWas : Option PageEntry → ℕ → Was → Type 0
IsWas entry i Unmapped = entry ≡ None
IsWas entry i (Own prot byte) =
    (back : Back) × (own : Bytes) × (entry ≡ Some (record { back = back; prot = prot; own = Some own })) × IfSome byte (λ b. own i ≡ b)
IsWas entry i (Shared file page prot) = entry ≡ Some (record { back = BackOf.Shared file page; prot = prot; own = None })
IsWas entry i (Private file page prot) = entry ≡ Some (record { back = BackOf.Private file page; prot = prot; own = None })

-- so is what a call has replaced on the page
pub record IsKept (old : Olds) (k : Kept) : Type 0 where
  pub valid : is_page k.page ≡ true
  pub entry : Option PageEntry
  pub is_old : old k.call k.page ≡ Some entry
  pub was : IsWas entry k.offset k.was

abbrev pub AllKept : Olds → List Kept → Type 0
AllKept old ks = All (IsKept old) ks

-- a call has replaced what the map has on its pages
abbrev pub HasReplaced : Olds → List Timed → ℕ → Plain → Type 0
HasReplaced old h call t = (c : Timed) → slice_get h call ≡ Some c → (page : ℕ) → replaces c.call.request c.call.reply page ≡ true
    → old call page ≡ Some (t.entry page)

-- an access at this offset that finds such an entry has this reply, with these files
abbrev pub FindsDue : (ℕ → Option File) → ℕ → Was → Access → Reply → Type 0
FindsDue files i was access reply = (entry : Option PageEntry) → IsWas entry i was → entry_reply files entry access i ≡ Some reply

-- ---- stores

-- what is known once a byte was stored there
abbrev pub was_stored : ℕ → Was → Was
was_stored byte (Own prot b) = Own prot (Some byte)
was_stored byte was = was

-- once a byte was stored to the entry that a call has replaced on a page
abbrev pub kept_stored : ℕ → ℕ → ℕ → ℕ → Kept → Kept
kept_stored call page offset byte k =
    if k.call == call && k.page == page && k.offset == offset then record k { was = was_stored byte k.was } else k
