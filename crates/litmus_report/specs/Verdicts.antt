-- What clauses come to.
use Rattle.std.specs.Prelude.{◌≡◌, ℕ, suc, Bool, true, false, not, ◌&&◌, ◌||◌, List, [], ◌∷◌, filter, length, slice_get, Option, None, Some}
use Rattle.std.specs.Prelude.{option_map, if◌then◌else◌, ◌==◌}
use Rattle.std.specs.List.{list_any}
use Rattle.vm_base.specs.declared.replies.Errno.{Errno}
use Rattle.vm_base.specs.declared.replies.Errno.TheVariants.{EINVAL, ENOMEM, EACCES, EBADF, EOVERFLOW}
use Rattle.vm_base.specs.declared.replies.SegvCode.{SegvCode}
use Rattle.vm_base.specs.declared.replies.SegvCode.TheVariants.{MapErr, AccErr}
use Rattle.vm_base.specs.declared.replies.Reply.{Reply}
use Rattle.slot_lock.specs.declared.map_list.MapLine.{MapLine}
use Rattle.vm_base.specs.declared.replies.Reply.TheVariants.{Mapped, Done, Byte, Refused, Segv, Bus, NoFrame, NoMemory}
use Rattle.audit_text.specs.Allowed.{is_lacking}
use Rattle.litmus_merges.specs.declared.asked.Asked.{Asked}
use Rattle.litmus_text.specs.Places.{call_at}
use Rattle.litmus_text.specs.declared.facts.Fact.{Fact}
use Rattle.litmus_text.specs.declared.facts.Fact.TheVariants.{Has, Lacks, Shows}
use Rattle.litmus_text.specs.declared.facts.Connective.{Connective}
use Rattle.litmus_text.specs.declared.facts.Connective.TheVariants.{And, Or}
use Rattle.litmus_text.specs.declared.facts.Term.{Term}
use Rattle.litmus_text.specs.declared.kinds.Quantifier.{Quantifier}
use Rattle.litmus_text.specs.declared.kinds.Quantifier.TheVariants.{Exists, Never, Forall}
use Rattle.litmus_report.specs.declared.verdict.ClauseVerdict.{ClauseVerdict}
use Rattle.litmus_report.specs.declared.verdict.ClauseVerdict.TheVariants.{Holds, Fails, Open}

-- ---- replies

abbrev pub is_errno : Errno → Errno → Bool
is_errno EINVAL EINVAL = true
is_errno ENOMEM ENOMEM = true
is_errno EACCES EACCES = true
is_errno EBADF EBADF = true
is_errno EOVERFLOW EOVERFLOW = true
is_errno one other = false

abbrev pub is_code : SegvCode → SegvCode → Bool
is_code MapErr MapErr = true
is_code AccErr AccErr = true
is_code one other = false

-- two replies are the same
abbrev pub is_reply : Reply → Reply → Bool
is_reply (Mapped a) (Mapped b) = a == b
is_reply Done Done = true
is_reply (Byte a) (Byte b) = a == b
is_reply (Refused a) (Refused b) = is_errno a b
is_reply (Segv a) (Segv b) = is_code a b
is_reply Bus Bus = true
is_reply NoFrame NoFrame = true
is_reply NoMemory NoMemory = true
is_reply one other = false

abbrev pub is_given : Option Reply → Reply → Bool
is_given None reply = false
is_given (Some given) reply = is_reply given reply

-- ---- an outcome

-- the replies to the calls, in their order, what loads of the final addresses show, the mappings in the end, where they are asked for,
-- and whether it is known to come about
pub record Outcome : Type 0 where
  pub replies : List Reply
  pub finals : List Reply
  pub maps : List MapLine
  pub reached : Bool

-- the place of an address among others, the first that it has
abbrev pub place_of : List ℕ → ℕ → Option ℕ
place_of [] addr = None
place_of (a ∷ rest) addr = if a == addr then Some 0 else option_map suc (place_of rest addr)

-- what is answered at a place
abbrev pub at_place : List Reply → Option ℕ → Option Reply
at_place replies None = None
at_place replies (Some k) = slice_get replies k

-- the reply to the core's call with this number
abbrev pub reply_to : List Asked → List Reply → ℕ → ℕ → Option Reply
reply_to calls replies core number = at_place replies (call_at calls core number)

-- what is so of an outcome
abbrev pub fact_holds : List Asked → List ℕ → Outcome → Fact → Bool
fact_holds calls addrs o (Has core number reply) = is_given (reply_to calls o.replies core number) reply
fact_holds calls addrs o (Lacks core number reply) = not (is_given (reply_to calls o.replies core number) reply)
fact_holds calls addrs o (Shows addr shown) = is_given (at_place o.finals (place_of addrs addr)) (Byte shown)

-- it names a reply for want of a frame or of memory
abbrev pub names_lack : Fact → Bool
names_lack (Has core number reply) = is_lacking reply
names_lack (Lacks core number reply) = is_lacking reply
names_lack (Shows addr shown) = false

abbrev pub is_or : Connective → Bool
is_or And = false
is_or Or = true

-- `and` binds closer than `or`: the facts since the last `or` hold so far, or not
abbrev pub holds_from : List Asked → List ℕ → Outcome → Bool → List Term → Bool
holds_from calls addrs o held [] = held
holds_from calls addrs o held (t ∷ ts) = if is_or t.joint
    then (held || holds_from calls addrs o (fact_holds calls addrs o t.fact) ts)
    else holds_from calls addrs o (held && fact_holds calls addrs o t.fact) ts

-- the condition holds of the outcome
abbrev pub condition_holds : List Asked → List ℕ → List Term → Outcome → Bool
condition_holds calls addrs terms o = holds_from calls addrs o false terms

-- it holds, or, where that is wanted, it doesn't
abbrev pub is_so : Bool → Bool → Bool
is_so true held = held
is_so false held = not held

-- ---- all outcomes

-- It is so of one that is known to come about; or of none, where the outcomes are all; or that isn't known.
abbrev pub existence : (Outcome → Bool) → List Outcome → Bool → ClauseVerdict
existence is outcomes whole = if list_any (λ o. o.reached && is o) outcomes then Holds
    else if whole && not (list_any is outcomes) then Fails else Open

abbrev pub opposite : ClauseVerdict → ClauseVerdict
opposite Holds = Fails
opposite Fails = Holds
opposite Open = Open

-- `never C` fails where `exists C` holds, and `forall C` is never not C
abbrev pub judged : Quantifier → (Outcome → Bool) → List Outcome → Bool → ClauseVerdict
judged Exists is outcomes whole = existence is outcomes whole
judged Never is outcomes whole = opposite (existence is outcomes whole)
judged Forall is outcomes whole = opposite (existence (λ o. not (is o)) outcomes whole)

-- of how many outcomes that are known to come about it is so
abbrev pub count_so : (Outcome → Bool) → List Outcome → ℕ
count_so is outcomes = length (filter (λ o. o.reached && is o) outcomes)
