-- Many calls of one core, one after another
use Rattle.std.specs.Prelude.{◌≡◌, ◌≢◌, ℕ, List, [], ◌∷◌, ◌++◌, length, map, take, drop, slice_get, Option, None, Some}
use Rattle.vm_base.specs.declared.requests.Request.{Request}
use Rattle.vm_base.specs.declared.replies.Reply.{Reply}
use Rattle.vm_base.specs.declared.replies.Reply.TheVariants.{NoMemory}
use Rattle.machine_model.specs.World.{World}
use Rattle.machine_model.specs.Alone.{IsCalm}
use Rattle.shared.specs.declared.history.Replied.{Replied}
use Rattle.shared.specs.declared.series.SeriesEnd.{SeriesEnd}
use Rattle.shared.specs.declared.series.SeriesEnd.TheVariants as For
use Rattle.shared.specs.declared.whole.CallEnd.{CallEnd}
use Rattle.shared.specs.declared.whole.CallEnd.TheVariants as To
use Rattle.shared.specs.Histories.{Adds, Ends, IsFull, IsOver, history_of, logged, replied}

-- these are the first of the calls that were asked for, each with the reply that it got
abbrev pub AreFirst : List (Option Request) → List Replied → Type 0
AreFirst asked added = take (length added) asked ≡ map (λ call. Some call.request) added

-- each reply in its place, and the places behind as they were
abbrev pub AreTold : {T : Type 0} → (Reply → T) → List Replied → List T → List T → Type 0
AreTold told_of added was told =
    told ≡ map (λ call. told_of call.reply) added ++ drop (length added) was

-- memory was refused to none of these calls
abbrev pub AllGranted : List Replied → Type 0
AllGranted [] = Unit {0}
AllGranted (call ∷ calls) = (call.reply ≢ NoMemory) × AllGranted calls

-- memory was refused to the last one alone
abbrev pub LastRefused : List Replied → Type 0
LastRefused added = (front : List Replied) × (request : Request)
    × (added ≡ front ++ replied request NoMemory ∷ []) × AllGranted front

-- why no more than these calls were made: they are all; or what comes next is no call; or memory was
-- refused to the last; or the machine is at a limit
abbrev pub StopsFor : SeriesEnd → List (Option Request) → List Replied → Type 0
StopsFor For.Done asked added = (length added ≡ length asked) × AllGranted added
StopsFor For.NoCall asked added = (slice_get asked (length added) ≡ Some None) × AllGranted added
StopsFor For.NoMemory asked added = LastRefused added
StopsFor For.Refused asked added = AllGranted added
StopsFor For.Spent asked added = AllGranted added

-- what else of the core's may stand in the log: where the limit of events stopped the next call, that one may have its reply there
abbrev pub MoreFor : SeriesEnd → List (Option Request) → List Replied → List Replied → Type 0
MoreFor For.Spent asked added more = (request : Request) × (reply : Option Reply)
    × (slice_get asked (length added) ≡ Some (Some request)) × (more ≡ logged request reply)
MoreFor _ asked added more = more ≡ []

-- how the machine is left: no call is in flight, or a limit is reached
abbrev pub LeftFor : SeriesEnd → World → Type 0
LeftFor For.Refused v = IsCalm v × IsFull v
LeftFor For.Spent v = IsOver v
LeftFor _ v = IsCalm v

-- whole calls, in order, which are all that the log grew by
pub record EndsSeries (w : World) (core : ℕ) (asked : List (Option Request)) (added : List Replied)
    (stop : SeriesEnd) (v : World) : Type 0 where
  pub first : AreFirst asked added
  pub stops : StopsFor stop asked added
  pub more : List Replied
  pub is_more : MoreFor stop asked added more
  pub adds : Adds core (added ++ more) (history_of w) (history_of v)
  pub left : LeftFor stop v

-- ---- one of them

abbrev pub stop_after : Reply → SeriesEnd
stop_after NoMemory = For.NoMemory
stop_after _ = For.Done

abbrev pub stop_for : CallEnd → SeriesEnd
stop_for (To.Reply reply) = stop_after reply
stop_for To.Refused = For.Refused
stop_for To.Spent = For.Spent

abbrev pub told_for : {T : Type 0} → (Reply → T) → CallEnd → T → T
told_for told_of (To.Reply reply) was = told_of reply
told_for told_of _ was = was

-- it is no call, and nothing changes; or it ends, and its reply is told
abbrev pub MakesOne : {T : Type 0} → (Reply → T) → World → ℕ → Option Request → T → SeriesEnd → T → World → Type 0
MakesOne told_of w core None was stop told v = (stop ≡ For.NoCall) × (told ≡ was) × (v ≡ w)
MakesOne told_of w core (Some request) was stop told v = (ended : CallEnd)
    × Ends w core request ended v × (stop ≡ stop_for ended) × (told ≡ told_for told_of ended was)
