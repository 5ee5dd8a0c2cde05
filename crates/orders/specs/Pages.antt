-- The calls of single pages for which a call on a range stands
use Rattle.std.specs.Prelude.{◌≡◌, ℕ, zero, suc, ◌+◌, ◌-◌, ◌*◌, ◌^◌, ◌==◌, ◌&&◌, ◌||◌, ◌⊎◌, min, not, nat_le, nat_lt, Bool, true, false}
use Rattle.std.specs.Prelude.{if◌then◌else◌, List, [], ◌∷◌, ◌++◌, ⊤}
use Rattle.vm_base.specs.declared.page.PageRange.{PageRange}
use Rattle.vm_base.specs.declared.replies.Errno.TheVariants.{ENOMEM, EACCES}
use Rattle.vm_base.specs.declared.replies.Reply.{Reply}
use Rattle.vm_base.specs.declared.replies.Reply.TheVariants.{Mapped, Done, Refused, NoMemory}
use Rattle.vm_base.specs.declared.requests.Flags.{Flags}
use Rattle.vm_base.specs.declared.requests.Request.{Request}
use Rattle.vm_base.specs.declared.requests.Request.TheVariants.{Mmap, Munmap, Mprotect}
use Rattle.vm_base.specs.Pages.{pages_of}
use Rattle.audit.specs.declared.auditor.Call.{Call}
use Rattle.orders.specs.declared.history.Timed.{Timed}
use Rattle.orders.specs.declared.pages.Stretch.{Stretch}
use Rattle.orders.specs.declared.splitting.Part.{Part}

-- ---- which pages of a call change each for itself

abbrev pub no_pages : Stretch
no_pages = record { start = 0; count = 0 }

-- the pages of a range, if there are some and all are valid
abbrev pub stretch_in : ℕ → PageRange → Stretch
stretch_in start r =
    if nat_lt r.first 1 || nat_lt (2 ^ 35) r.end || nat_le r.end r.first then no_pages else record { start = start; count = r.end - r.first }

abbrev pub stretch_from : ℕ → ℕ → Stretch
stretch_from start len = stretch_in start (pages_of start len)

abbrev pub is_done : Reply → Bool
is_done Done = true
is_done y = false

-- mprotect met a page that isn't mapped, or may not be made writable
abbrev pub is_refused : Reply → Bool
is_refused (Refused ENOMEM) = true
is_refused (Refused EACCES) = true
is_refused y = false

-- with MAP_FIXED a mapping is where it was asked for
abbrev pub is_at : Flags → ℕ → ℕ → Bool
is_at flags addr at = not flags.fixed || (addr == at)

-- a mapping's pages are where its reply says
abbrev pub pages_mapped : Flags → ℕ → ℕ → Reply → Stretch
pages_mapped flags addr len (Mapped at) = if is_at flags addr at then stretch_from at len else no_pages
pages_mapped flags addr len y = no_pages

abbrev pub stretch_asked : Request → Reply → Stretch
stretch_asked (Mmap addr len prot flags file off) y = pages_mapped flags addr len y
stretch_asked (Munmap addr len) y = if is_done y then stretch_from addr len else no_pages
stretch_asked (Mprotect addr len prot) y = if is_done y || is_refused y then stretch_from addr len else no_pages
stretch_asked request y = no_pages

-- what is refused of a single page leaves it as it was
abbrev pub stretch_of : Call → Stretch
stretch_of call = if is_refused call.reply && nat_le (stretch_asked call.request call.reply).count 1 then no_pages
    else stretch_asked call.request call.reply

-- ---- the call of a page

-- the next page of the file in each (no offset is greater than 2^64 - 1)
abbrev pub page_request : Request → ℕ → ℕ → Request
page_request (Mmap addr len prot flags file off) start k =
    Mmap (start + 4096 * k) 4096 prot flags file (min (off + 4096 * k) (2 ^ 64 - 1))
page_request (Munmap addr len) start k = Munmap (start + 4096 * k) 4096
page_request (Mprotect addr len prot) start k = Mprotect (start + 4096 * k) 4096 prot
page_request request start k = request

-- the page is mapped there, or is unmapped or protected
abbrev pub page_reply : Reply → ℕ → ℕ → Reply
page_reply (Mapped at) start k = Mapped (start + 4096 * k)
page_reply y start k = Done

abbrev pub page_call : Call → ℕ → ℕ → Call
page_call call start k =
    record { core = call.core; request = page_request call.request start k; reply = page_reply call.reply start k }

-- ---- parts of a call

abbrev pub whole : ℕ → Timed → Part
whole n c = record { timed = c; of = n; is_sure = true }

-- one of its pages, under way for as long: it took effect, or may have, where mprotect was refused
abbrev pub part_of_page : ℕ → Timed → ℕ → Part
part_of_page n c k = record {
  timed = record { begin = c.begin; end = c.end; call = page_call c.call (stretch_of c.call).start k };
  of = n;
  is_sure = not (is_refused c.call.reply);
}

-- those of the first so many pages
abbrev pub pages_below : ℕ → Timed → ℕ → List Part
pages_below n c zero = []
pages_below n c (suc k) = pages_below n c k ++ part_of_page n c k ∷ []

-- The call itself is a part where it has no such pages; and where mprotect was refused: at a moment of its own, by the pages as they were then.
abbrev pub stays : Reply → Stretch → Bool
stays y stretch = (stretch.count == 0) || is_refused y

abbrev pub itself : ℕ → Timed → List Part
itself n c = if stays c.call.reply (stretch_of c.call) then whole n c ∷ [] else []

abbrev pub parts_of : ℕ → Timed → List Part
parts_of n c = itself n c ++ pages_below n c (stretch_of c.call).count

-- those of all calls, the first of which has this number
abbrev pub parts_from : ℕ → List Timed → List Part
parts_from n [] = []
parts_from n (c ∷ cs) = parts_of n c ++ parts_from (n + 1) cs

-- ---- which took effect

-- it found no memory, and changed nothing
abbrev pub lost : Timed → Timed
lost c = record { begin = c.begin; end = c.end; call = record { core = c.call.core; request = c.call.request; reply = NoMemory } }

abbrev pub IsChosen : Part → Timed → Type 0
IsChosen p c = (c ≡ p.timed) ⊎ ((p.is_sure ≡ false) × (c ≡ lost p.timed))

abbrev pub AreChosen : List Part → List Timed → Type 0
AreChosen [] [] = ⊤
AreChosen (p ∷ ps) (c ∷ cs) = IsChosen p c × AreChosen ps cs
AreChosen ps cs = ⊥
