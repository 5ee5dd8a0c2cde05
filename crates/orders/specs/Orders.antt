-- Orders of calls that overlap (linearizability: Herlihy and Wing, 1990)
use Rattle.std.specs.Prelude.{◌≡◌, ℕ, ◌<◌, List, [], ◌∷◌, length, slice_get, Option, None, Some}
use Rattle.vm_base.specs.declared.requests.Request.{Request}
use Rattle.vm_base.specs.declared.requests.Request.TheVariants.{Store}
use Rattle.vm_base.specs.Log.{RepliesBy}
use Rattle.vm_base.specs.Pages.{page_of}
use Rattle.vm_base.specs.Places.{PlaceRule}
use Rattle.vm_base.specs.Plain.{Plain}
use Rattle.audit.specs.Copying.{Copies}
use Rattle.orders.specs.declared.history.Item.{Item}
use Rattle.orders.specs.declared.history.Item.TheVariants.{Reply, Copy}
use Rattle.orders.specs.declared.history.Timed.{Timed}

-- ---- times

-- one call ended before another began
abbrev pub Precedes : Timed → Timed → Type 0
Precedes a b = a.end < b.begin

-- the call of an item
abbrev pub call_of : Item → ℕ
call_of (Reply i) = i
call_of (Copy i) = i

-- the item at this place is of this call
pub record IsOf (h : List Timed) (items : List Item) (k : ℕ) (c : Timed) : Type 0 where
  pub item : Item
  pub at : slice_get items k ≡ Some item
  pub call : slice_get h (call_of item) ≡ Some c

-- Nothing of a call stands behind something of one that began after it ended.
abbrev pub KeepsTime : List Timed → List Item → Type 0
KeepsTime h items = (j k : ℕ) (a b : Timed) → j < k → IsOf h items j a → IsOf h items k b → ¬ Precedes b a

-- ---- each call once

-- Of so many calls each takes effect at one place. A page is copied only for one of them, before that takes effect.
pub record EachOnce (count : ℕ) (items : List Item) : Type 0 where
  pub known : (k : ℕ) (item : Item) → slice_get items k ≡ Some item → call_of item < count
  pub some : (i : ℕ) → i < count → (k : ℕ) × (slice_get items k ≡ Some (Reply i))
  pub once : (i j k : ℕ) → slice_get items j ≡ Some (Reply i) → slice_get items k ≡ Some (Reply i) → j ≡ k
  pub copies : (i j k : ℕ) → slice_get items j ≡ Some (Copy i) → slice_get items k ≡ Some (Reply i) → j < k

-- ---- replies

-- the copy that is made for this request: of the page that it stores to
abbrev pub CopiesFor : Plain → Request → Plain → Type 0
CopiesFor t (Store addr byte) u = Copies t (page_of addr) u
CopiesFor t request u = ⊥

-- The item leads from one plain page map to another. A reply is the plain page map's: a private page gets a copy before a
-- store that is done, unless it has one.
abbrev pub Leads : PlaceRule → List Timed → Plain → Item → Plain → Type 0
Leads rule h t (Reply i) u =
    (c : Timed) × (slice_get h i ≡ Some c) × RepliesBy rule t c.call.core c.call.request c.call.reply u
Leads rule h t (Copy i) u = (c : Timed) × (slice_get h i ≡ Some c) × CopiesFor t c.call.request u

-- the items do, one after another
abbrev pub LeadAll : PlaceRule → List Timed → Plain → List Item → Plain → Type 0
LeadAll rule h t [] u = u ≡ t
LeadAll rule h t (item ∷ items) u = (m : Plain) × Leads rule h t item m × LeadAll rule h m items u

-- ---- orders

-- The items are an order of the calls that begins with this plain page map.
pub record IsOrder (rule : PlaceRule) (t : Plain) (h : List Timed) (items : List Item) : Type 0 where
  pub keeps_time : KeepsTime h items
  pub each_once : EachOnce (length h) items
  pub last : Plain
  pub lead : LeadAll rule h t items last

-- The calls have an order.
pub record HasOrder (rule : PlaceRule) (t : Plain) (h : List Timed) : Type 0 where
  pub items : List Item
  pub is_order : IsOrder rule t h items
