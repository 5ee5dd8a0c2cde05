-- Orders of calls by the rule that kernels keep: a change takes effect whole, at one moment, and until it is over an access may still go by what
-- munmap or mprotect has replaced, on the same frame
use Rattle.std.specs.Prelude.{◌≡◌, ℕ, ◌+◌, ◌*◌, ◌<◌, ◌≤◌, ◌⊎◌, Bool, true, false, List, [], ◌∷◌, length, slice_get, Option, None, Some, ⊤}
use Rattle.vm_base.specs.declared.page.PageRange.{PageRange}
use Rattle.vm_base.specs.declared.replies.Errno.{Errno}
use Rattle.vm_base.specs.declared.replies.Errno.TheVariants.{ENOMEM, EACCES}
use Rattle.vm_base.specs.declared.replies.Reply.{Reply}
use Rattle.vm_base.specs.declared.replies.Reply.TheVariants.{Mapped, Done, Byte, Refused, Segv, NoFrame, NoMemory}
use Rattle.vm_base.specs.declared.replies.SegvCode.{SegvCode}
use Rattle.vm_base.specs.declared.replies.SegvCode.TheVariants.{AccErr}
use Rattle.vm_base.specs.declared.requests.Request.{Request}
use Rattle.vm_base.specs.declared.requests.Request.TheVariants.{Mmap, Munmap, Mprotect, Load, Store, Fetch}
use Rattle.vm_base.specs.declared.rights.Access.{Access}
use Rattle.vm_base.specs.declared.rights.Access.TheVariants as By
use Rattle.vm_base.specs.declared.rights.Prot.{Prot}
use Rattle.vm_base.specs.Apply.{Performs}
use Rattle.vm_base.specs.Functions.{has, put}
use Rattle.vm_base.specs.Log.{RepliesBy}
use Rattle.vm_base.specs.Pages.{are_pages, pages_of}
use Rattle.vm_base.specs.Places.{PlaceRule}
use Rattle.vm_base.specs.Plain.{PageEntry, Plain}
use Rattle.audit.specs.declared.auditor.Call.{Call}
use Rattle.orders.specs.declared.history.Item.{Item}
use Rattle.orders.specs.declared.history.Item.TheVariants as Of
use Rattle.orders.specs.declared.history.Timed.{Timed}
use Rattle.orders.specs.Orders.{CopiesFor, EachOnce, KeepsTime, Precedes}
use Rattle.loose_orders.specs.Loose.{GetsCopy, Loose, TakesEffect, begun, page_accessed, replaced, with_entry}
use Rattle.loose_orders.specs.declared.moves.Move.{Move}
use Rattle.loose_orders.specs.declared.moves.Move.TheVariants.{Reply as Replied, Late, Part, Copy, LateCopy}

-- ---- places of an order

abbrev pub call_of : Move → ℕ
call_of (Replied i) = i
call_of (Late i a) = i
call_of (Part i n p) = i
call_of (Copy i) = i
call_of (LateCopy i a) = i

-- where a call takes effect, or its page is copied
abbrev pub item : Move → Item
item (Replied i) = Of.Reply i
item (Late i a) = Of.Reply i
item (Part i n p) = Of.Reply i
item (Copy i) = Of.Copy i
item (LateCopy i a) = Of.Copy i

abbrev pub items : List Move → List Item
items [] = []
items (move ∷ moves) = item move ∷ items moves

-- the move at this place is of this call
pub record IsAt (h : List Timed) (moves : List Move) (k : ℕ) (c : Timed) : Type 0 where
  pub move : Move
  pub at : slice_get moves k ≡ Some move
  pub call : slice_get h (call_of move) ≡ Some c

-- ---- how long a change goes on

-- the pages that a call changes, or that a refused mprotect was to change
abbrev pub changed : Request → Reply → PageRange
changed (Mmap addr len prot flags file off) (Mapped at) = pages_of at len
changed (Munmap addr len) Done = pages_of addr len
changed (Mprotect addr len prot) Done = pages_of addr len
changed (Mprotect addr len prot) (Refused ENOMEM) = pages_of addr len
changed (Mprotect addr len prot) (Refused EACCES) = pages_of addr len
changed request reply = record { first = 0; end = 0 }

-- they have a page in common
abbrev pub Meet : PageRange → PageRange → Type 0
Meet r q = (p : ℕ) × (has r p ≡ true) × (has q p ≡ true)

abbrev pub Conflict : Timed → Timed → Type 0
Conflict a b = Meet (changed a.call.request a.call.reply) (changed b.call.request b.call.reply)

-- The change at place a goes on at place k: it hasn't ended before anything up to there began, and no change of one of its pages comes between.
pub record GoesOn (h : List Timed) (moves : List Move) (a k : ℕ) (change : Timed) : Type 0 where
  pub before : a < k
  pub not_over : (x : ℕ) (c : Timed) → a < x → x ≤ k → IsAt h moves x c → ¬ Precedes change c
  pub alone : (x : ℕ) (c : Timed) → a < x → x < k → IsAt h moves x c → ¬ Conflict c change

-- ---- what accesses have seen

-- at this place an access of the page goes by the list as it is (without memory, or a frame, it tells nothing)
pub record Sees (h : List Timed) (moves : List Move) (x page : ℕ) (c : Timed) : Type 0 where
  pub call : ℕ
  pub at : slice_get moves x ≡ Some (Replied call)
  pub is_call : slice_get h call ≡ Some c
  pub accesses : page_accessed c.call.request ≡ Some page
  pub memory : ¬ (c.call.reply ≡ NoMemory)
  pub frame : ¬ (c.call.reply ≡ NoFrame)

-- the page wasn't seen new: mprotect may come to it later than to others
abbrev pub IsUnseen : List Timed → List Move → ℕ → ℕ → ℕ → Type 0
IsUnseen h moves a k page = (x : ℕ) (c : Timed) → a < x → x < k → ¬ Sees h moves x page c

-- from where on the page is new for all: from the change on, or, of mprotect, from where it was seen
abbrev pub IsNew : List Timed → List Move → ℕ → ℕ → Request → ℕ → Type 0
IsNew h moves a page (Mprotect addr len prot) m = (a < m) × (c : Timed) × Sees h moves m page c
IsNew h moves a page request m = m ≡ a

abbrev pub kind_of : Request → Option Access
kind_of (Load addr) = Some By.Load
kind_of (Store addr byte) = Some By.Store
kind_of (Fetch addr) = Some By.Fetch
kind_of request = None

-- A core doesn't go back: its access of this kind was refused by the list, and that began after something had ended which comes where the page
-- was new for all.
pub record IsBound (h : List Timed) (moves : List Move) (a k page : ℕ) (request : Request) (c : Call) : Type 0 where
  pub new : ℕ
  pub ended : ℕ
  pub refused : ℕ
  pub is_new : IsNew h moves a page request new
  pub first : new ≤ ended
  pub second : ended < refused
  pub third : refused < k
  pub past : Timed
  pub is_past : IsAt h moves ended past
  pub by : Timed
  pub sees : Sees h moves refused page by
  pub began : Precedes past by
  pub core : by.call.core ≡ c.core
  pub kind : kind_of by.call.request ≡ kind_of c.request
  pub code : SegvCode
  pub segv : by.call.reply ≡ Segv code

-- ---- accesses that go by what a change has replaced

abbrev pub IsServed : Reply → Type 0
IsServed (Byte b) = ⊤
IsServed Done = ⊤
IsServed reply = ⊥

-- By an old translation an access is served, unless its core is bound (where threads move between cores none is), or a fetch is refused: there the
-- processor asks no list.
pub data MayLag (moving : Bool) (h : List Timed) (moves : List Move) (a k page : ℕ) (request : Request) (c : Call) : Type 0 where
  served : IsServed c.reply → (moving ≡ false → ¬ IsBound h moves a k page request c) → MayLag moving h moves a k page request c
  fetch : (addr : ℕ) → c.request ≡ Fetch addr → c.reply ≡ Segv AccErr → MayLag moving h moves a k page request c

-- Behind munmap it finds the entry that was there, and makes no copy. What it stores is lost with that, unless it is a file's.
pub record FindsGone (rule : PlaceRule) (s : Loose) (i page : ℕ) (c : Call) (u : Loose) : Type 0 where
  pub entry : Option PageEntry
  pub is_old : s.old i page ≡ Some entry
  pub after : Plain
  pub performs : Performs rule (with_entry s.plain page entry) c.core c.request c.reply after
  pub plain : u.plain ≡ with_entry after page (s.plain.entry page)
  pub old : u.old ≡ put s.old i (put (s.old i) page (Some (after.entry page)))

-- the entry is of a mapped page with these rights
abbrev pub HasRights : Option PageEntry → Prot → Type 0
HasRights None prot = ⊥
HasRights (Some e) prot = e.prot ≡ prot

-- Behind mprotect the page has its old rights for that moment: as by one mprotect before, and one after that gives back those that it had.
pub record ByOldRights (rule : PlaceRule) (s : Loose) (i page core : ℕ) (new : Prot) (m n : Plain) (u : Loose) : Type 0 where
  pub entry : PageEntry
  pub is_old : s.old i page ≡ Some (Some entry)
  pub has_new : HasRights (s.plain.entry page) new
  pub to_old : RepliesBy rule s.plain core (Mprotect (page * 4096) 4096 entry.prot) Done m
  pub to_new : RepliesBy rule n core (Mprotect (page * 4096) 4096 new) Done u.plain
  pub old : u.old ≡ s.old

-- no copy is due before it
abbrev pub IsReady : Plain → Request → Type 0
IsReady t request = (v : Plain) → ¬ CopiesFor t request v

-- the change at place a, which goes on at place k, where this access of one of its pages comes
pub record IsLateTo (h : List Timed) (moves : List Move) (a k page : ℕ) (change : Timed) (c : Timed) : Type 0 where
  pub at : IsAt h moves a change
  pub goes_on : GoesOn h moves a k change
  pub within : has (changed change.call.request change.call.reply) page ≡ true
  pub accesses : page_accessed c.call.request ≡ Some page

-- a late access
pub data GoesLate (rule : PlaceRule) (moving : Bool) (h : List Timed) (moves : List Move) (a k : ℕ) (s : Loose) (c : Timed) (u : Loose) : Type 0 where
  gone : (page addr len : ℕ) (change : Timed) (late : IsLateTo h moves a k page change c) → change.call.request ≡ Munmap addr len
      → MayLag moving h moves a k page change.call.request c.call → FindsGone rule s (call_of late.at.move) page c.call u
      → GoesLate rule moving h moves a k s c u
  protected : (page addr len : ℕ) (prot : Prot) (change : Timed) (m n : Plain) (late : IsLateTo h moves a k page change c)
      → change.call.request ≡ Mprotect addr len prot
      → IsUnseen h moves a k page ⊎ (MayLag moving h moves a k page change.call.request c.call × IsReady m c.call.request)
      → ByOldRights rule s (call_of late.at.move) page c.call.core prot m n u → RepliesBy rule m c.call.core c.call.request c.call.reply n
      → GoesLate rule moving h moves a k s c u

-- a copy by old rights, of a page that wasn't seen new
pub record CopiesLate (rule : PlaceRule) (h : List Timed) (moves : List Move) (a k : ℕ) (s : Loose) (c : Timed) (u : Loose) : Type 0 where
  pub page : ℕ
  pub addr : ℕ
  pub len : ℕ
  pub prot : Prot
  pub change : Timed
  pub before : Plain
  pub after : Plain
  pub late : IsLateTo h moves a k page change c
  pub protects : change.call.request ≡ Mprotect addr len prot
  pub unseen : IsUnseen h moves a k page
  pub rights : ByOldRights rule s (call_of late.at.move) page c.call.core prot before after u
  pub copies : CopiesFor before c.call.request after

-- ---- a refused mprotect

-- It has changed so many pages, from the first on, before one that it may not change. Its error is that of some page.
pub record ChangesPart (rule : PlaceRule) (s : Loose) (i : ℕ) (c : Call) (count page : ℕ) (u : Loose) : Type 0 where
  pub addr : ℕ
  pub len : ℕ
  pub prot : Prot
  pub error : Errno
  pub request : c.request ≡ Mprotect addr len prot
  pub reply : c.reply ≡ Refused error
  pub valid : are_pages (pages_of addr len) ≡ true
  pub within : has (pages_of addr len) page ≡ true
  pub refused : RepliesBy rule s.plain c.core (Mprotect (page * 4096) 4096 prot) (Refused error) s.plain
  pub done : RepliesBy rule s.plain c.core (Mprotect addr (count * 4096) prot) Done u.plain
  pub old : u.old ≡ put s.old i (replaced s.plain (record { core = c.core; request = Mprotect addr (count * 4096) prot; reply = Done }))

-- ---- orders

-- the move at place k leads from one state to another
abbrev pub Leads : PlaceRule → Bool → List Timed → List Move → ℕ → Loose → Move → Loose → Type 0
Leads rule moving h moves k s (Replied i) u = TakesEffect rule h s i u
Leads rule moving h moves k s (Late i a) u = (c : Timed) × (slice_get h i ≡ Some c) × GoesLate rule moving h moves a k s c u
Leads rule moving h moves k s (Part i n p) u = (c : Timed) × (slice_get h i ≡ Some c) × ChangesPart rule s i c.call n p u
Leads rule moving h moves k s (Copy i) u = GetsCopy h s i u
Leads rule moving h moves k s (LateCopy i a) u = (c : Timed) × (slice_get h i ≡ Some c) × CopiesLate rule h moves a k s c u

-- those from place k on do, one after another
abbrev pub LeadAll : PlaceRule → Bool → List Timed → List Move → ℕ → Loose → List Move → Loose → Type 0
LeadAll rule moving h moves k s [] u = u ≡ s
LeadAll rule moving h moves k s (move ∷ rest) u = (m : Loose) × Leads rule moving h moves k s move m × LeadAll rule moving h moves (k + 1) m rest u

-- The moves are an order of the calls by the kernels' rule that begins with this plain page map.
pub record IsKernelOrder (rule : PlaceRule) (moving : Bool) (t : Plain) (h : List Timed) (moves : List Move) : Type 0 where
  pub each_once : EachOnce (length h) (items moves)
  pub keeps_time : KeepsTime h (items moves)
  pub last : Loose
  pub lead : LeadAll rule moving h moves 0 (begun t) moves last

-- The calls have such an order.
pub record HasKernelOrder (rule : PlaceRule) (moving : Bool) (t : Plain) (h : List Timed) : Type 0 where
  pub moves : List Move
  pub is_order : IsKernelOrder rule moving t h moves
