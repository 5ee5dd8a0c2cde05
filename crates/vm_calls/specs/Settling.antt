-- What an access finds at its page, and what the plain page map answers there
use Rattle.std.specs.Prelude.{◌≡◌, ℕ, ◌==◌, ◌&&◌, ◌||◌, Bool, true, false, not, if◌then◌else◌, Option}
use Rattle.std.specs.Prelude.{None, Some, is_some}
use Rattle.vm_base.specs.declared.info.Back.{Back}
use Rattle.vm_base.specs.declared.info.Back.TheVariants.{Anon, Shared, Private}
use Rattle.vm_base.specs.declared.info.PageInfo.{PageInfo}
use Rattle.vm_base.specs.declared.rights.Access.{Access}
use Rattle.vm_base.specs.declared.rights.Access.TheVariants.{Store}
use Rattle.vm_base.specs.declared.replies.SegvCode.TheVariants as Code
use Rattle.vm_base.specs.declared.replies.Reply.{Reply}
use Rattle.vm_base.specs.declared.replies.Reply.TheVariants as ReplyOf
use Rattle.vm_base.specs.Rights.{is_allowed}
use Rattle.vm_base.specs.Plain.{File, PageEntry, bytes_of}
use Rattle.vm_base.specs.Apply.{byte_reply, is_anonymous}
use Rattle.vm_calls.specs.declared.fault.Settled.{Settled}
use Rattle.vm_calls.specs.declared.fault.Settled.TheVariants.{MapErr, AccErr, Bus, Has, Copies, Cached}
use Rattle.vm_calls.specs.declared.fault.Settled.TheVariants.{Wants}

-- ---- what it finds

-- a store to a private page of a file, which the file is never to see (POSIX.1-2017, mmap,
-- MAP_PRIVATE)
abbrev pub is_private_store : Back → Access → Bool
is_private_store (Private file page) Store = true
is_private_store _ _ = false

-- the frame is the one that caches the page's file page
abbrev pub is_cached : Option ℕ → ℕ → Bool
is_cached None f = false
is_cached (Some g) f = g == f

-- Where the frame comes from of a page with bytes: its own, or else the one that caches its file
-- page. A private store has to have one that caches no file page: a copy, or a new one.
abbrev pub source : Back → Option ℕ → Access → Option ℕ → Settled
source back (Some f) access cached =
    if is_private_store back access && is_cached cached f then Copies f else Has f
source back None access (Some g) =
    if is_private_store back access || is_anonymous back then Wants else Cached g
source back None access None = Wants

-- what an access of a locked page comes to: why it fails, or where its frame is from
abbrev pub settled : Option PageInfo → Access → Bool → Option ℕ → Settled
settled None access past_end cached = MapErr
settled (Some info) access past_end cached =
    if is_allowed info.meta.prot access
    then (if past_end then Bus else source info.meta.back info.frame access cached)
    else AccErr

-- ---- what the plain page map has there

-- The page has own bytes: an anonymous page always, a shared page of a file never, and a private
-- one where it has a frame that isn't its file page's.
abbrev pub has_own : Back → Option ℕ → Option ℕ → Bool
has_own Anon frame cached = true
has_own (Shared file page) frame cached = false
has_own (Private file page) None cached = false
has_own (Private file page) (Some f) cached = not (is_cached cached f)

-- The page's entry in a plain map: none where the page isn't mapped, else backed and protected
-- alike, with bytes of its own or without, and with bytes unless the file page lies past its file's
-- end
abbrev pub IsEntryOf : (ℕ → Option File) → Option PageEntry → Option PageInfo → Bool → Option ℕ → Type 0
IsEntryOf files None None past_end cached = Unit {0}
IsEntryOf files (Some e) (Some info) past_end cached =
    (e.back ≡ info.meta.back) × (e.prot ≡ info.meta.prot)
    × (is_some e.own ≡ has_own info.meta.back info.frame cached)
    × (is_some (bytes_of files e.back e.own) ≡ not past_end)
IsEntryOf files None (Some info) past_end cached = ⊥
IsEntryOf files (Some e) None past_end cached = ⊥

-- the access reaches a byte
abbrev pub Reaches : Access → Option Reply → Type 0
Reaches a y = (byte : ℕ) × (y ≡ Some (byte_reply a byte))

-- a copy of the page is due first
abbrev pub IsDue : Option Reply → Type 0
IsDue y = y ≡ None

-- a new frame is for a page's first byte, or for the copy that is due
abbrev pub IsWanted : Bool → Access → Option Reply → Type 0
IsWanted true a y = IsDue y
IsWanted false a y = Reaches a y

-- whether this stores to a private page
abbrev pub stores_privately : Option PageInfo → Access → Bool
stores_privately None a = false
stores_privately (Some info) a = is_private_store info.meta.back a

-- A fault is what the plain map answers (y). Where a frame is found, the plain map finds a byte;
-- where one is to be copied, a copy is due there; and where one is wanted, one or the other.
abbrev pub IsSettled : Settled → Option PageInfo → Access → Option Reply → Type 0
IsSettled MapErr info a y = y ≡ Some (ReplyOf.Segv Code.MapErr)
IsSettled AccErr info a y = y ≡ Some (ReplyOf.Segv Code.AccErr)
IsSettled Bus info a y = y ≡ Some ReplyOf.Bus
IsSettled (Has f) info a y = Reaches a y
IsSettled (Copies f) info a y = IsDue y
IsSettled (Cached f) info a y = Reaches a y
IsSettled Wants info a y = IsWanted (stores_privately info a) a y
