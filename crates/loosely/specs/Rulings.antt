-- What is told of a text of calls that overlap, by what it is that they have an order.
use Rattle.std.specs.Prelude.{◌≡◌, ℕ, List, length, Some, slice_get}
use Rattle.vm_base.specs.Plain.{Plain}
use Rattle.vm_base.specs.declared.replies.Reply.{Reply}
use Rattle.audit_text.specs.Legal.{first_map}
use Rattle.orders.specs.declared.history.Timed.{Timed}
use Rattle.orders_text.specs.History.{IsHistory, Read, completed}
use Rattle.overlapping.specs.declared.judging.Ruling.{Ruling}
use Rattle.overlapping.specs.declared.judging.Ruling.TheVariants.{Legal, NoOrder, Undecided}

-- what it is that calls have an order which begins with a plain page map
abbrev pub OrderRule : Type 1
OrderRule = (first : Plain) (calls : List Timed) → Type 0

-- The text is that of a history of so many calls. With some replies of those that wait at its end they have an order, which begins with
-- nothing mapped and the files as declared.
pub record IsLegal (has : OrderRule) (lines : List (List ℕ)) (calls : ℕ) : Type 0 where
  pub read : Read
  pub history : IsHistory lines read
  pub count : calls ≡ length read.calls
  pub replies : ℕ → Reply
  pub order : has (first_map read.declared) (completed replies read)

-- With whatever replies of those that wait at its end, its calls have no order that begins so.
abbrev pub HasNone : OrderRule → Read → Type 0
HasNone has r = (replies : ℕ → Reply) → ¬ has (first_map r.declared) (completed replies r)

-- The text is that of a history whose calls have no order. A call's reply is in this line.
pub record IsUnordered (has : OrderRule) (lines : List (List ℕ)) (line : ℕ) (reply : Reply) : Type 0 where
  pub read : Read
  pub history : IsHistory lines read
  pub none : HasNone has read
  pub number : ℕ
  pub call : Timed
  pub is_call : slice_get read.calls number ≡ Some call
  pub is_line : slice_get read.lines number ≡ Some line
  pub replied : reply ≡ call.call.reply

-- The text is that of a history. Where it is undecided, nothing is claimed of an order.
abbrev pub IsRuling : OrderRule → List (List ℕ) → Ruling → Type 0
IsRuling has lines (Legal calls) = IsLegal has lines calls
IsRuling has lines (NoOrder line reply) = IsUnordered has lines line reply
IsRuling has lines (Undecided line) = (r : Read) × IsHistory lines r
