-- How orders begin
use Rattle.std.specs.Prelude.{◌≡◌, ◌≢◌, ℕ, ◌+◌, ◌-◌, ◌<◌, Bool, true, false, not, nat_lt, if◌then◌else◌, List, ◌++◌, ◌⊎◌, slice_get, Option, None, Some}
use Rattle.vm_base.specs.declared.requests.Request.{Request}
use Rattle.vm_base.specs.declared.requests.Request.TheVariants.{Store}
use Rattle.vm_base.specs.Places.{PlaceRule}
use Rattle.vm_base.specs.Plain.{Plain}
use Rattle.orders.specs.declared.history.Item.{Item}
use Rattle.orders.specs.declared.history.Item.TheVariants.{Reply, Copy}
use Rattle.orders.specs.declared.history.Timed.{Timed}
use Rattle.orders.specs.Orders.{IsOrder, LeadAll, call_of}

-- the items begin with these
abbrev pub Begins : List Item → List Item → Type 0
Begins items all = (rest : List Item) × (items ++ rest ≡ all)

-- no order of the calls begins with these
abbrev pub NoneBegins : PlaceRule → Plain → List Timed → List Item → Type 0
NoneBegins rule t h items = (all : List Item) → IsOrder rule t h all → ¬ Begins items all

-- they lead to some map
abbrev pub LeadsSomewhere : PlaceRule → List Timed → Plain → List Item → Type 0
LeadsSomewhere rule h t items = (u : Plain) × LeadAll rule h t items u

-- ---- what can't come next

-- an item is among these
abbrev pub Stands : List Item → Item → Type 0
Stands items item = (k : ℕ) × (slice_get items k ≡ Some item)

-- This other call must stand before a call, which began here: it ended before, and its reply isn't among the items.
pub record IsAwaited (items : List Item) (number : ℕ) (other : Timed) (call begin : ℕ) : Type 0 where
  pub another : number ≢ call
  pub ended : other.end < begin
  pub missing : ¬ Stands items (Reply number)

-- some other call must
abbrev pub Awaits : List Timed → List Item → ℕ → ℕ → Type 0
Awaits h items call begin = (number : ℕ) × (other : Timed) × (slice_get h number ≡ Some other) × IsAwaited items number other call begin

abbrev pub is_store : Request → Bool
is_store (Store addr byte) = true
is_store request = false

-- a copy, of a call that stores nothing
abbrev pub is_copy_of_none : Item → Request → Bool
is_copy_of_none (Reply i) request = false
is_copy_of_none (Copy i) request = not (is_store request)

-- of a call
abbrev pub IsAmissOf : List Timed → List Item → Item → Timed → Type 0
IsAmissOf h items item c =
    Stands items (Reply (call_of item)) ⊎ Awaits h items (call_of item) c.begin ⊎ (is_copy_of_none item c.call.request ≡ true)

abbrev pub IsAmissIf : List Timed → List Item → Item → Option Timed → Type 0
IsAmissIf h items item None = Unit {0}
IsAmissIf h items item (Some c) = IsAmissOf h items item c

-- The item can't come next behind these: there is no such call, or its reply is there, or it awaits another, or it copies for no store.
abbrev pub IsAmiss : List Timed → List Item → Item → Type 0
IsAmiss h items item = IsAmissIf h items item (slice_get h (call_of item))

-- ---- what can

-- the items of so many calls by their numbers
abbrev pub item_at : ℕ → ℕ → Item
item_at count number = if nat_lt number count then Reply number else Copy (number - count)

-- the number of an item
abbrev pub number_of : ℕ → Item → ℕ
number_of count (Reply i) = i
number_of count (Copy i) = count + i
