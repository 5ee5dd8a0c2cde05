-- Histories without the accesses that may be late, which have an order at one moment if the whole has one by the kernels' rule
use Rattle.std.specs.Prelude.{◌≡◌, ℕ, ◌⊎◌, ◌&&◌, nat_le, nat_lt, Bool, true, false, List, length, slice_get, Some}
use Rattle.vm_base.specs.declared.replies.Reply.{Reply}
use Rattle.vm_base.specs.declared.replies.Reply.TheVariants.{Done, Refused}
use Rattle.vm_base.specs.declared.requests.Request.{Request}
use Rattle.vm_base.specs.declared.requests.Request.TheVariants.{Munmap, Mprotect, Store}
use Rattle.vm_base.specs.Functions.{has}
use Rattle.vm_base.specs.Pages.{is_aligned}
use Rattle.vm_base.specs.Plain.{Plain}
use Rattle.audit.specs.Placing.{rule_of}
use Rattle.audit.specs.declared.auditor.Call.{Call}
use Rattle.orders.specs.declared.history.Timed.{Timed}
use Rattle.orders.specs.Orders.{HasOrder}
use Rattle.orders.specs.Pages.{lost}
use Rattle.cores.specs.Byteless.{AreByteless}
use Rattle.loose_orders.specs.Kernel.{HasKernelOrder, changed}
use Rattle.loose_orders.specs.Loose.{page_accessed}

-- ---- which accesses may be late

-- accesses may be late to munmap and mprotect
abbrev pub lets_lag : Request → Bool
lets_lag (Munmap addr len) = true
lets_lag (Mprotect addr len prot) = true
lets_lag request = false

-- an access of this page may be late to this change: that changes the page, and they overlap
abbrev pub is_beside : Timed → ℕ → Timed → Bool
is_beside c page change = lets_lag change.call.request && has (changed change.call.request change.call.reply) page
    && nat_le change.begin c.end && nat_le c.begin change.end

-- a call accesses this page
abbrev pub IsAccessOfPage : Timed → ℕ → Type 0
IsAccessOfPage c page = page_accessed c.call.request ≡ Some page

-- it may be late to some call of a history
abbrev pub MayBeLate : List Timed → Timed → Type 0
MayBeLate h c = (page : ℕ) × IsAccessOfPage c page × ((i : ℕ) × (change : Timed) × (slice_get h i ≡ Some change) × (is_beside c page change ≡ true))

-- ---- which calls are left

abbrev pub StaysAsTimely : List Timed → Timed → Timed → Type 0
StaysAsTimely h c d = (d ≡ c) × ¬ MayBeLate h c

-- it is told as an access that found no memory, and so changed nothing
abbrev pub IsLeftOut : Timed → Timed → Type 0
IsLeftOut c d = (d ≡ lost c) × ((page : ℕ) × IsAccessOfPage c page)

-- a store, or another call that was done
abbrev pub is_stored : Request → Reply → Bool
is_stored (Store addr byte) reply = true
is_stored request Done = true
is_stored request reply = false

abbrev pub stores : Call → Bool
stores c = is_stored c.request c.reply

abbrev pub IsLeftOutUnstored : Timed → Timed → Type 0
IsLeftOutUnstored c d = IsLeftOut c d × (stores c.call ≡ false)

abbrev pub out_of : Bool → Timed → Timed → Type 0
out_of true c d = IsLeftOutUnstored c d
out_of false c d = IsLeftOut c d

-- Each call stays, which then isn't one that may be late, or is left out.
pub record LateAreLeftOut (out : Timed → Timed → Type 0) (h taken : List Timed) : Type 0 where
  pub count : length taken ≡ length h
  pub each : (i : ℕ) (c : Timed) → slice_get h i ≡ Some c → (d : Timed) × (slice_get taken i ≡ Some d) × (StaysAsTimely h c d ⊎ out c d)

-- no store is left out, or all bytes are forgotten
abbrev pub AreWithoutLate : List Timed → List Timed → Type 0
AreWithoutLate h taken = LateAreLeftOut IsLeftOutUnstored h taken ⊎ ((left : List Timed) × LateAreLeftOut IsLeftOut h left × AreByteless left taken)

-- an mprotect of several pages that was refused, and may have changed some
abbrev pub is_part : Request → Reply → Bool
is_part (Mprotect addr len prot) (Refused error) = is_aligned addr && nat_lt 4096 len
is_part request reply = false

abbrev pub NoneIsPart : List Timed → Type 0
NoneIsPart h = (i : ℕ) (c : Timed) → slice_get h i ≡ Some c → is_part c.call.request c.call.reply ≡ false

-- ---- the law

-- Without them calls that have an order by the kernels' rule have one at one moment.
abbrev pub TimelyOrders : Type 0
TimelyOrders = (any_place moving : Bool) (t : Plain) (h taken : List Timed) → NoneIsPart h → AreWithoutLate h taken
    → HasKernelOrder (rule_of any_place) moving t h → (s : Plain) × HasOrder (rule_of any_place) s taken
