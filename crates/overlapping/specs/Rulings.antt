-- What is told of a text of calls that overlap.
use Rattle.std.specs.Prelude.{◌≡◌, ℕ, Bool, true, false, List, length, Some, slice_get}
use Rattle.vm_base.specs.declared.replies.Reply.{Reply}
use Rattle.audit.specs.Placing.{rule_of}
use Rattle.audit_text.specs.Legal.{first_map}
use Rattle.orders.specs.declared.history.Timed.{Timed}
use Rattle.orders.specs.Orders.{HasOrder}
use Rattle.orders_text.specs.History.{IsHistory, Read, completed}
use Rattle.overlapping.specs.declared.judging.Ruling.{Ruling}
use Rattle.overlapping.specs.declared.judging.Ruling.TheVariants.{Legal, NoOrder, Undecided}

-- The text is that of a history of so many calls. With some replies of those that wait at its end they have an order, which begins with
-- nothing mapped and the files as declared.
pub record IsLegal (any_place : Bool) (lines : List (List ℕ)) (calls : ℕ) : Type 0 where
  pub read : Read
  pub history : IsHistory lines read
  pub count : calls ≡ length read.calls
  pub replies : ℕ → Reply
  pub order : HasOrder (rule_of any_place) (first_map read.declared) (completed replies read)

-- With whatever replies of those that wait at its end, its calls have no order that begins so.
abbrev pub HasNone : Bool → Read → Type 0
HasNone any_place r = (replies : ℕ → Reply) → ¬ HasOrder (rule_of any_place) (first_map r.declared) (completed replies r)

-- The text is that of a history whose calls have no order. A call's reply is in this line.
pub record IsUnordered (any_place : Bool) (lines : List (List ℕ)) (line : ℕ) (reply : Reply) : Type 0 where
  pub read : Read
  pub history : IsHistory lines read
  pub none : HasNone any_place read
  pub number : ℕ
  pub call : Timed
  pub is_call : slice_get read.calls number ≡ Some call
  pub is_line : slice_get read.lines number ≡ Some line
  pub replied : reply ≡ call.call.reply

-- The text is that of a history. Where it is undecided, nothing is claimed of an order.
abbrev pub IsRuling : Bool → List (List ℕ) → Ruling → Type 0
IsRuling any_place lines (Legal calls) = IsLegal any_place lines calls
IsRuling any_place lines (NoOrder line reply) = IsUnordered any_place lines line reply
IsRuling any_place lines (Undecided line) = (r : Read) × IsHistory lines r
