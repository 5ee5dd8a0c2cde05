-- What is judged of a reply
use Rattle.std.specs.Prelude.{◌≡◌, ◌≢◌, ℕ, ◌<◌, Bool, List, [], ◌∷◌, slice_get, take, Option, None, Some, Ok}
use Rattle.vm_base.specs.declared.replies.Reply.{Reply}
use Rattle.vm_base.specs.declared.replies.Reply.TheVariants.{Done}
use Rattle.vm_base.specs.declared.requests.Request.{Request}
use Rattle.vm_base.specs.Plain.{Plain, mode_of}
use Rattle.vm_base.specs.Places.{PlaceRule}
use Rattle.vm_base.specs.Apply.{detached, stored_entry}
use Rattle.vm_base.specs.Answers.{Answers}
use Rattle.vm_base.specs.Copies.{or_else}
use Rattle.slot_lock.specs.declared.plan.Touch.{Touch}
use Rattle.slot_lock.specs.declared.plan.Plan.{Plan as PlanOf}
use Rattle.vm_calls.specs.Checks.{checked}
use Rattle.audit.specs.Placing.{rule_of}
use Rattle.audit.specs.declared.auditor.Call.{Call}
use Rattle.audit.specs.declared.auditor.Wrong.{Wrong}
use Rattle.audit.specs.declared.judging.ReplyVerdict.{ReplyVerdict}
use Rattle.audit.specs.declared.judging.ReplyVerdict.TheVariants.{Legal, Illegal}

-- some plain map gives this reply
abbrev pub IsGiven : PlaceRule → Plain → ℕ → Request → Reply → Type 0
IsGiven rule t core request y = (u : Plain) × Answers rule t core request y u

-- A reply is legal where it is the plain map's, and then u is what it leaves. Else no plain map has that
-- reply, one that some plain map has is told in its place, and u is the map as it was.
abbrev pub Judges : PlaceRule → Plain → ℕ → Request → Reply → ReplyVerdict → Plain → Type 0
Judges rule t core request y Legal u = Answers rule t core request y u
Judges rule t core request y (Illegal due) u =
    ((v : Plain) → ¬ Answers rule t core request y v) × IsGiven rule t core request due × (u ≡ t)

-- The replies of the calls, one after another, are the plain map's, from t on, and leave u.
abbrev pub AreReplies : PlaceRule → Plain → List Call → Plain → Type 0
AreReplies rule t [] u = u ≡ t
AreReplies rule t (c ∷ cs) u =
    (m : Plain) × Answers rule t c.core c.request c.reply m × AreReplies rule m cs u

-- The replies of so many calls are, and leave u; in u no plain map gives the next one's reply, and some
-- plain map gives another.
pub record IsFirstWrong (rule : PlaceRule) (t : Plain) (calls : List Call) (wrong : Wrong) (u : Plain)
    : Type 0 where
  pub call : Call
  pub is_call : slice_get calls wrong.at ≡ Some call
  pub before : AreReplies rule t (take wrong.at calls) u
  pub none : (v : Plain) → ¬ Answers rule u call.core call.request call.reply v
  pub due : IsGiven rule u call.core call.request wrong.due

-- The replies of so many calls are, and leave u; memory was wanting for the next, whose reply some plain map gives.
pub record IsWanting (rule : PlaceRule) (t : Plain) (calls : List Call) (u : Plain) : Type 0 where
  pub at : ℕ
  pub call : Call
  pub is_call : slice_get calls at ≡ Some call
  pub before : AreReplies rule t (take at calls) u
  pub given : IsGiven rule u call.core call.request call.reply

-- the same of each request that makes this plan
abbrev pub JudgesPlan : Bool → Plain → PlanOf → Reply → ReplyVerdict → Plain → Type 0
JudgesPlan any_place t plan y verdict u = (core : ℕ) (request : Request) → core < 64
    → checked (λ n. mode_of (t.file n)) core request ≡ Ok plan
    → Judges (rule_of any_place) t core request y verdict u

abbrev pub GivesPlan : Bool → Plain → PlanOf → Reply → Type 0
GivesPlan any_place t plan y = (core : ℕ) (request : Request) → core < 64
    → checked (λ n. mode_of (t.file n)) core request ≡ Ok plan
    → IsGiven (rule_of any_place) t core request y

-- where this reply is due
abbrev pub Compares : Reply → Reply → ReplyVerdict → Type 0
Compares y due Legal = y ≡ due
Compares y due (Illegal first) = (y ≢ due) × (first ≡ due)

-- ---- accesses

-- what an access is answered that finds this: where a copy is due, the store after it is done
abbrev pub after_copy : Option Reply → Reply
after_copy None = Done
after_copy (Some y) = y

-- the map after a store, which a copy of its page precedes where one is due
abbrev pub copied_first : Plain → ℕ → Plain
copied_first t page = or_else t (detached t page)

abbrev pub stored : Plain → Touch → Plain
stored t touch = stored_entry (copied_first t touch.page) touch.page
    ((copied_first t touch.page).entry touch.page) touch.offset touch.byte

-- the map after an access that was answered so
abbrev pub touched_after : Plain → Touch → Reply → Plain
touched_after t touch Done = stored t touch
touched_after t touch y = t
