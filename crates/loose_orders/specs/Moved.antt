-- Where moves lead, as far as it is kept
use Rattle.std.specs.Prelude.{◌≡◌, ℕ, ◌*◌, Bool, true, false, List, Option, Some}
use Rattle.vm_base.specs.declared.replies.Errno.{Errno}
use Rattle.vm_base.specs.declared.replies.Reply.TheVariants.{Done, Refused}
use Rattle.vm_base.specs.declared.requests.Request.{Request}
use Rattle.vm_base.specs.declared.requests.Request.TheVariants.{Mprotect}
use Rattle.vm_base.specs.declared.rights.Prot.{Prot}
use Rattle.vm_base.specs.Log.{RepliesBy}
use Rattle.vm_base.specs.Functions.{has}
use Rattle.vm_base.specs.Pages.{are_pages, pages_of}
use Rattle.vm_base.specs.Places.{PlaceRule}
use Rattle.vm_base.specs.Plain.{PageEntry, Plain}
use Rattle.audit.specs.Placing.{rule_of}
use Rattle.audit.specs.declared.auditor.Call.{Call}
use Rattle.orders.specs.declared.history.Timed.{Timed}
use Rattle.orders.specs.Orders.{CopiesFor}
use Rattle.loose_orders.specs.declared.keeping.Kept.{Kept}
use Rattle.loose_orders.specs.declared.moves.Move.{Move}
use Rattle.loose_orders.specs.Kept.{AllKept}
use Rattle.loose_orders.specs.Kernel.{ByOldRights, FindsGone, HasRights, IsReady, IsUnseen, Leads, MayLag}
use Rattle.loose_orders.specs.Loose.{GetsCopy, Loose, TakesEffect}

-- From each state with the plain map t of which the one is kept, the call takes effect, and leads on to one with the plain map u of which the
-- other is.
abbrev pub TakesOn : PlaceRule → List Timed → Plain → List Kept → ℕ → Plain → List Kept → Type 0
TakesOn rule h t old i u new = (s : Loose) → s.plain ≡ t → AllKept s.old old
    → (m : Loose) × TakesEffect rule h s i m × (m.plain ≡ u) × AllKept m.old new

-- the same of a copy
abbrev pub CopiesOn : List Timed → Plain → List Kept → ℕ → Plain → List Kept → Type 0
CopiesOn h t old i u new = (s : Loose) → s.plain ≡ t → AllKept s.old old → (m : Loose) × GetsCopy h s i m × (m.plain ≡ u) × AllKept m.old new

-- From each state with the plain map t of which the one is kept, the call finds what this one has unmapped on the page, and leads on to a state
-- with the plain map u of which the other is.
abbrev pub GoesBehind : ℕ → ℕ → Plain → List Kept → Plain → List Kept → Call → Type 0
GoesBehind of page t old u new c = (any_place : Bool) (s : Loose) → s.plain ≡ t → AllKept s.old old
    → (m : Loose) × FindsGone (rule_of any_place) s of page c m × (m.plain ≡ u) × AllKept m.old new

-- the same of a move at a place
abbrev pub MovesOn : PlaceRule → Bool → List Timed → List Move → ℕ → Plain → List Kept → Move → Plain → List Kept → Type 0
MovesOn rule moving h moves k t old move u new = (s : Loose) → s.plain ≡ t → AllKept s.old old
    → (m : Loose) × Leads rule moving h moves k s move m × (m.plain ≡ u) × AllKept m.old new

-- ---- by old rights

-- a call has replaced these rights on the page
abbrev pub HadRights : (ℕ → ℕ → Option (Option PageEntry)) → ℕ → ℕ → Prot → Type 0
HadRights old of page prot = (entry : Option PageEntry) × (old of page ≡ Some entry) × HasRights entry prot

-- the call goes by the rights that this one has replaced on the page, and makes no copy if the page was seen new
abbrev pub Lags : PlaceRule → ℕ → ℕ → Bool → Plain → List Kept → Plain → Prot → Call → Type 0
Lags rule of page unseen t old u new c = (s : Loose) → s.plain ≡ t → AllKept s.old old
    → (m : Plain) × (n : Plain) × ByOldRights rule s of page c.core new m n (record { plain = u; old = s.old })
    × RepliesBy rule m c.core c.request c.reply n × (unseen ≡ false → IsReady m c.request)

-- its page is copied by them
abbrev pub CopiesOld : PlaceRule → ℕ → ℕ → Plain → List Kept → Plain → Prot → Call → Type 0
CopiesOld rule of page t old u new c = (s : Loose) → s.plain ≡ t → AllKept s.old old
    → (m : Plain) × (n : Plain) × ByOldRights rule s of page c.core new m n (record { plain = u; old = s.old }) × CopiesFor m c.request n

-- it may go by them there, and does
abbrev pub GoesByRights : PlaceRule → Bool → List Timed → List Move → ℕ → ℕ → ℕ → ℕ → Plain → List Kept → Plain → Prot → Call → Type 0
GoesByRights rule moving h moves a k of page t old u new c = (unseen : Bool) × (unseen ≡ true → IsUnseen h moves a k page)
    × ((request : Request) → unseen ≡ false → MayLag moving h moves a k page request c) × Lags rule of page unseen t old u new c

-- ---- a refused mprotect

-- it changes the pages in front, so many, where this one may not be changed
abbrev pub ChangesFront : PlaceRule → Plain → ℕ → ℕ → ℕ → Prot → Errno → ℕ → ℕ → Plain → Type 0
ChangesFront rule t core addr len prot error count page u = (are_pages (pages_of addr len) ≡ true) × (has (pages_of addr len) page ≡ true)
    × RepliesBy rule t core (Mprotect (page * 4096) 4096 prot) (Refused error) t × RepliesBy rule t core (Mprotect addr (count * 4096) prot) Done u

-- the same of a call
abbrev pub ChangesBy : PlaceRule → Plain → Call → ℕ → ℕ → Plain → Type 0
ChangesBy rule t c count page u = (addr : ℕ) × (len : ℕ) × (prot : Prot) × (error : Errno) × (c.request ≡ Mprotect addr len prot)
    × (c.reply ≡ Refused error) × ChangesFront rule t c.core addr len prot error count page u
