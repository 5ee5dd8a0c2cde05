-- What a call answers whose arguments passed, by its plan
use Rattle.std.specs.Prelude.{◌≡◌, ℕ, ◌*◌, ◌⊎◌, Some, Result, Ok, Err}
use Rattle.vm_base.specs.declared.page.PageRange.{PageRange}
use Rattle.vm_base.specs.declared.rights.Access.{Access}
use Rattle.vm_base.specs.declared.replies.Errno.TheVariants.{ENOMEM}
use Rattle.vm_base.specs.declared.replies.Reply.{Reply}
use Rattle.vm_base.specs.declared.replies.Reply.TheVariants.{Mapped, Done, Refused}
use Rattle.vm_base.specs.Apply.{byte_reply}
use Rattle.vm_base.specs.Runs.{LiesIn}
use Rattle.slot_lock.specs.declared.plan.Change.{Change}
use Rattle.slot_lock.specs.declared.plan.Change.TheVariants.{Put, Clear, Protect}
use Rattle.slot_lock.specs.declared.plan.Place.{Place}
use Rattle.slot_lock.specs.declared.plan.Plan.{Plan}
use Rattle.slot_lock.specs.declared.plan.Plan.TheVariants as PlanOf
use Rattle.vm_calls.specs.declared.decision.Decision.{Decision}
use Rattle.vm_calls.specs.declared.decision.Decision.TheVariants.{Refuse, Act, Again}
use Rattle.live_space.specs.declared.ending.Ending.{Ending}
use Rattle.live_space.specs.declared.ending.Ending.TheVariants.{Answer, GiveUp, GiveBack}
use Rattle.live_space.specs.declared.ending.Ran.{Ran}
use Rattle.live_space.specs.declared.ending.Ran.TheVariants.{Answered, Open}
use Rattle.live_space.specs.Answering.{AnswersProtect, IsFault}

abbrev pub AnswersChange : Change → Reply → Type 0
AnswersChange (Put range meta) reply = reply ≡ Mapped (range.first * 4096)
AnswersChange (Clear range) reply = reply ≡ Done
AnswersChange (Protect range prot) reply = AnswersProtect prot reply

-- it is mapped at its hint, or in its window, or finds no room
pub data AnswersPlace (place : Place) (reply : Reply) : Type 0 where
  at_hint : (range : PageRange) → place.hint ≡ Some range → reply ≡ Mapped (range.first * 4096) → AnswersPlace place reply
  in_window : (first : ℕ) → LiesIn place.window place.count first → reply ≡ Mapped (first * 4096) → AnswersPlace place reply
  no_room : reply ≡ Refused ENOMEM → AnswersPlace place reply

-- what the held pages of a target decide of a placed mapping is one of its replies, or it looks elsewhere
abbrev pub PlacesAt : Place → Decision → Type 0
PlacesAt place (Act range shoot) = AnswersPlace place (Mapped (range.first * 4096))
PlacesAt place (Refuse errno) = AnswersPlace place (Refused errno)
PlacesAt place Again = Unit {0}

abbrev pub AnswersTouch : Access → Reply → Type 0
AnswersTouch access reply = ((byte : ℕ) × (reply ≡ byte_reply access byte)) ⊎ IsFault reply

abbrev pub AnswersPlan : Plan → Reply → Type 0
AnswersPlan (PlanOf.Change change) = AnswersChange change
AnswersPlan (PlanOf.Place place) = AnswersPlace place
AnswersPlan (PlanOf.Touch touch) = AnswersTouch touch.access

-- the reply that the arguments decide, or one of the plan's
abbrev pub AnswersDecided : Result Plan Reply → Reply → Type 0
AnswersDecided (Ok plan) reply = AnswersPlan plan reply
AnswersDecided (Err decided) reply = reply ≡ decided

-- ---- of a call that isn't given up

-- if the call is to be answered, its reply is one of these
abbrev pub EndsIn : (Reply → Type 0) → Ending → Type 0
EndsIn P (Answer reply) = P reply
EndsIn P GiveUp = Unit {0}
EndsIn P (GiveBack own) = Unit {0}

-- if the call was answered or is to be, its reply is one of these
abbrev pub RanIn : (Reply → Type 0) → Ran → Type 0
RanIn P (Answered reply) = P reply
RanIn P (Open ending) = EndsIn P ending

-- the call is to be given up
abbrev pub IsGivenUp : Ending → Type 0
IsGivenUp (Answer reply) = ⊥
IsGivenUp GiveUp = Unit {0}
IsGivenUp (GiveBack own) = Unit {0}
