-- Small cores of histories
use Rattle.std.specs.Prelude.{◌≡◌, ◌≢◌, ℕ, suc, ◌<◌, ◌≤◌, ◌⊎◌, ◌||◌, nat_le, nat_lt, Bool, true, false, not}
use Rattle.std.specs.Prelude.{List, [], ◌∷◌, ◌++◌, map, slice_get, Option, None, Some}
use Rattle.vm_base.specs.declared.page.PageRange.{PageRange}
use Rattle.vm_base.specs.Functions.{has}
use Rattle.vm_base.specs.Places.{PlaceRule}
use Rattle.vm_base.specs.Plain.{Plain}
use Rattle.orders.specs.declared.history.Timed.{Timed}
use Rattle.orders.specs.Orders.{HasOrder}
use Rattle.cores.specs.declared.kept.Kept.{Kept}
use Rattle.cores.specs.declared.gathering.Role.{Role}
use Rattle.cores.specs.declared.gathering.Role.TheVariants.{Out, In, Unfit}
use Rattle.cores.specs.Parts.{IsPart, IsReset, IsResetAt, Sets, is_aside}

-- ---- which calls a core has

-- one that ended before the first, or began after the cut, or changes none of these pages
abbrev pub is_left_out : PageRange → Timed → ℕ → Timed → Bool
is_left_out p first cut c = nat_lt c.end first.begin || nat_lt cut c.begin || is_aside p c.call

-- A call of the history, as far as it is one of these pages, at its times. It has surely taken effect at the cut, and after the first: or it
-- is told as open.
pub record IsKept (h : List Timed) (p : PageRange) (number : ℕ) (first : Timed) (cut : ℕ) (k : Kept) : Type 0 where
  pub whole : Timed
  pub at : slice_get h k.number ≡ Some whole
  pub begins : k.timed.begin ≡ whole.begin
  pub ends : k.timed.end ≡ whole.end
  pub part : IsPart p whole.call k.timed.call
  pub other : k.number ≢ number
  pub sure : k.is_open ≡ false → (first.end < whole.begin) × (whole.begin ≤ cut) × (whole.end ≤ cut)

-- in the order of their numbers, from this one on
abbrev pub Rises : ℕ → List Kept → Type 0
Rises low [] = Unit {0}
Rises low (k ∷ ks) = (low ≤ k.number) × Rises (suc k.number) ks

-- the call with this number is among them
abbrev pub IsAmong : ℕ → List Kept → Type 0
IsAmong i ks = (n : ℕ) × (k : Kept) × (slice_get ks n ≡ Some k) × (k.number ≡ i)

-- At the times of the first call this is what it does in these pages.
pub record IsStart (p : PageRange) (first start : Timed) : Type 0 where
  pub begins : start.begin ≡ first.begin
  pub ends : start.end ≡ first.end
  pub part : IsPart p first.call start.call

-- They are those calls that may change these pages from the first one on until the cut, and some others.
pub record AreAll (h : List Timed) (p : PageRange) (number : ℕ) (first : Timed) (cut : ℕ) (ks : List Kept) : Type 0 where
  pub kept : (n : ℕ) (k : Kept) → slice_get ks n ≡ Some k → IsKept h p number first cut k
  pub rises : Rises 0 ks
  pub all : (i : ℕ) (c : Timed) → slice_get h i ≡ Some c → (i ≡ number) ⊎ (is_left_out p first cut c ≡ true) ⊎ IsAmong i ks

-- ---- what is known of these pages, whatever was there before

-- A call of the core that ended by this time maps or unmaps pages, and surely took effect. Others began later.
abbrev pub IsTimely : ℕ → Kept → Type 0
IsTimely built k =
    ((nat_le k.timed.end built ≡ true) × (k.is_open ≡ false) × Sets k.timed.call.request k.timed.call.reply)
    ⊎ ((nat_le k.timed.end built ≡ false) × (built < k.timed.begin))

abbrev pub AreTimely : ℕ → List Kept → Type 0
AreTimely built [] = Unit {0}
AreTimely built (k ∷ ks) = IsTimely built k × AreTimely built ks

-- one of those that ended by then maps or unmaps this page
abbrev pub IsBuiltBy : ℕ → ℕ → List Kept → Type 0
IsBuiltBy x built [] = ⊥
IsBuiltBy x built (k ∷ ks) =
    ((nat_le k.timed.end built ≡ true) × IsResetAt x k.timed.call.request k.timed.call.reply) ⊎ IsBuiltBy x built ks

-- Calls that ended by this time, the first call among them, map or unmap each of these pages. No other call of the core began by then.
pub record IsBuilt (p : PageRange) (start : Timed) (built : ℕ) (ks : List Kept) : Type 0 where
  pub first : nat_le start.end built ≡ true
  pub sets : Sets start.call.request start.call.reply
  pub timely : AreTimely built ks
  pub pages : (x : ℕ) → has p x ≡ true → IsResetAt x start.call.request start.call.reply ⊎ IsBuiltBy x built ks

-- The first call does so with all of these pages; or that and others do, before the rest begins.
abbrev pub IsBase : PageRange → Timed → ℕ → List Kept → Type 0
IsBase p start built ks = IsReset p start.call.request start.call.reply ⊎ IsBuilt p start built ks

pub record IsCore (h : List Timed) (p : PageRange) (number : ℕ) (first start : Timed) (built cut : ℕ) (ks : List Kept) : Type 0 where
  pub at : slice_get h number ≡ Some first
  pub starts : IsStart p first start
  pub base : IsBase p start built ks
  pub all : AreAll h p number first cut ks

-- ---- what becomes of a call of a history

-- it is kept
pub record IsKeptCall (p : PageRange) (number : ℕ) (first : Timed) (cut at : ℕ) (c : Timed) (k : Kept) : Type 0 where
  pub number_of : k.number ≡ at
  pub begins : k.timed.begin ≡ c.begin
  pub ends : k.timed.end ≡ c.end
  pub part : IsPart p c.call k.timed.call
  pub other : at ≢ number
  pub sure : k.is_open ≡ false → (first.end < c.begin) × (c.begin ≤ cut) × (c.end ≤ cut)

abbrev pub IsKeptAs : ℕ → Option Timed → Bool → Role → Type 0
IsKeptAs number (Some timed) is_sure role = role ≡ In (record { number = number; timed = timed; is_open = not is_sure })
IsKeptAs number None is_sure role = role ≡ Unfit

abbrev pub IsRole : PageRange → ℕ → Timed → ℕ → ℕ → Timed → Role → Type 0
IsRole p number first cut at c Out = (at ≡ number) ⊎ (is_left_out p first cut c ≡ true)
IsRole p number first cut at c (In k) = IsKeptCall p number first cut at c k
IsRole p number first cut at c Unfit = Unit {0}

-- ---- which of them have taken effect

-- all but some of the open ones
abbrev pub IsChoice : List Kept → List Kept → Type 0
IsChoice [] chosen = chosen ≡ []
IsChoice (k ∷ ks) chosen =
    ((rest : List Kept) × (chosen ≡ k ∷ rest) × IsChoice ks rest) ⊎ ((k.is_open ≡ true) × IsChoice ks chosen)

abbrev pub timed_of : Kept → Timed
timed_of k = k.timed

-- Whichever have, these calls and they have no order that begins with this map.
abbrev pub HasNone : PlaceRule → Plain → List Timed → List Kept → Type 0
HasNone rule t front ks = (chosen : List Kept) → IsChoice ks chosen → ¬ HasOrder rule t (front ++ map timed_of chosen)
