-- What clauses see of a core of a shared machine, and what its calls tell
use Rattle.std.specs.Prelude.{◌≡◌, ◌≢◌, ℕ, ◌⊎◌, ◌<◌, List, [], ◌∷◌, ◌++◌, length, Option, None, slice_get, Some}
use Rattle.atomic_table.specs.Seated.{TableId}
use Rattle.vm_base.specs.declared.requests.Request.{Request}
use Rattle.vm_base.specs.declared.replies.Reply.{Reply}
use Rattle.machine_model.specs.declared.event.Outcome.{Outcome}
use Rattle.machine_model.specs.declared.event.Outcome.TheVariants.{Full}
use Rattle.machine_model.specs.World.{World, Made}
use Rattle.machine_model.specs.Alone.{IsCalm}
use Rattle.core_steps.specs.Machine.{IsLegal}
use Rattle.shared.specs.declared.asides.Aside.{Aside}
use Rattle.shared.specs.declared.history.SeenLog.{SeenLog}
use Rattle.shared.specs.declared.history.Replied.{Replied}
use Rattle.shared.specs.declared.history.Turn.{Turn}
use Rattle.shared.specs.declared.history.JoinedCore.{JoinedCore}
use Rattle.shared.specs.declared.space.Answer.{Answer}
use Rattle.shared.specs.declared.space.Answer.TheVariants as To
use Rattle.shared.specs.declared.space.Passed.{Passed}
use Rattle.shared.specs.declared.space.Passed.TheVariants as By
use Rattle.shared.specs.declared.space.ShareFault.{ShareFault}
use Rattle.shared.specs.declared.space.ShareFault.TheVariants as Why
use Rattle.shared.specs.declared.series.SeriesEnd.{SeriesEnd}
use Rattle.shared.specs.declared.series.SeriesEnd.TheVariants as For
use Rattle.shared.specs.declared.space.Calls.{Calls}
use Rattle.shared.specs.declared.space.Calls.TheVariants as Lists
use Rattle.shared.specs.Serial.{AreFirst, AreTold, LeftFor, MoreFor, StopsFor}
use Rattle.shared.specs.Turns.{AreInOrder, HasSeen, IsTold, NoneOf, left_by, log_in, turn}
use Rattle.shared.specs.Histories.{Adds, IsFull, IsOver, StepsAside, event_of, history_of, logged, replied, replied_by}

pub record CoreView (S : Type 0) : Type 0 where
  pub space : TableId
  pub core : ℕ
  -- how many cores it may still split off
  pub spare : ℕ
  -- the machine, as it was shared
  pub first : List S
  -- the turns so far that the core knows of, with all of its own
  pub turns : List (Turn S)
  -- the calls of this core, each with the reply that it was told
  pub mine : List Replied
  -- what the cores knew that it took in
  pub others : List (JoinedCore S)

abbrev pub told_of : {S : Type 0} → CoreView S → JoinedCore S
told_of c = record { core = c.core; turns = c.turns; mine = c.mine }

-- why a machine stays with its owner: a core of it has a call, or it has none; else memory was refused
abbrev pub IsKept : ShareFault → World → Type 0
IsKept Why.NotCalm w = (w.made.cores ≡ 0) ⊎ (IsCalm w → ⊥)
IsKept Why.NoMemory w = IsCalm w

module _ {S : Type 0} (state : S → World) where
  -- what the machine was made with
  abbrev pub made_of : List S → Made
  made_of [] = record { cores = 0; frames = 0; calls = 0; file = λ n. None }
  made_of (x ∷ xs) = (state x).made

  -- the log as the core knows it
  abbrev pub seen_by : CoreView S → SeenLog
  seen_by v = log_in state (left_by v.first v.turns)

  -- core 0 of a machine that was just shared
  abbrev pub new_core : TableId → ℕ → ℕ → List S → CoreView S
  new_core space core spare first = record {
    space = space;
    core = core;
    spare = spare;
    first = first;
    turns = [];
    mine = replied_by core (log_in state first);
    others = [];
  }

  -- a core that is split off from this one: it has made no call since the machine was shared, and knows what this one knows
  abbrev pub split_core : CoreView S → CoreView S
  split_core v = record v { core = v.spare; spare = 0; mine = replied_by v.spare (seen_by v); others = [] }

  -- The core had a turn, in which these calls of it were replied, no other core was replied to, and the machine did this. Its own
  -- turns are those that it knew and this one. What the cores did that it took in stands before.
  pub record HasTurn (v : CoreView S) (added : List Replied) (Does : World → World → Type 0) (w : CoreView S) : Type 0 where
    pub between : List (Turn S)
    pub before : S
    pub after : S
    pub turns : w.turns ≡ (v.turns ++ between) ++ turn v.core after ∷ []
    pub others : NoneOf v.core between
    pub order : AreInOrder state v.first w.turns
    pub begun : left_by v.first (v.turns ++ between) ≡ before ∷ []
    pub legal : IsLegal (state before)
    pub joined : (k : ℕ) (t : JoinedCore S) → slice_get v.others k ≡ Some t → IsTold state v.first (v.turns ++ between) t
    pub adds : Adds v.core added (history_of (state before)) (history_of (state after))
    pub does : Does (state before) (state after)
    pub mine : w.mine ≡ v.mine ++ added
    pub own : replied_by v.core (history_of (state after)) ≡ w.mine
    pub same : w ≡ record v { turns = w.turns; mine = w.mine }

  -- the core had no turn, but learned of those of other cores, after which the machine is at its limit of events
  pub record FindsOver (v : CoreView S) (w : CoreView S) : Type 0 where
    pub between : List (Turn S)
    pub machine : S
    pub others : NoneOf v.core between
    pub order : AreInOrder state v.first (v.turns ++ between)
    pub here : left_by v.first (v.turns ++ between) ≡ machine ∷ []
    pub over : IsOver (state machine)
    pub same : w ≡ record v { turns = v.turns ++ between }

  -- The core has a seat, which isn't this one's, and which this one didn't take in. The first core has
  -- one from the start, and those that could still be split off have none.
  pub record IsLeftOut (c : CoreView S) (core : ℕ) : Type 0 where
    pub here : core < (made_of c.first).cores
    pub other : core ≢ c.core
    pub split : (core ≡ 0) ⊎ (c.spare < core)
    pub away : (k : ℕ) (t : JoinedCore S) → slice_get c.others k ≡ Some t → t.core ≢ core

  -- a core has such a seat
  abbrev pub IsBeside : CoreView S → Type 0
  IsBeside c = (core : ℕ) × IsLeftOut c core

  -- The call was made and replied, in a turn of the core. Or another core had its turn, so that one is beside this one, and nothing was
  -- done. Or this machine is at its limit of calls or of events: no reply is told, but that of this call may stand in the log.
  abbrev pub Answers : CoreView S → Request → Answer → CoreView S → Type 0
  Answers v request (To.Reply reply) w = HasTurn v (replied request reply ∷ []) (λ x y. Unit {0}) w
  Answers v request To.Busy w = (w ≡ v) × IsBeside v
  Answers v request To.Full w = ((reply : Option Reply) × HasTurn v (logged request reply) (λ x y. IsFull y) w) ⊎ FindsOver v w

  -- The core made these calls in one turn, up to what stopped it; or none, at the limit of events.
  abbrev pub GoesFor : SeriesEnd → CoreView S → List (Option Request) → List Replied → CoreView S → Type 0
  GoesFor stop v asked added w =
      ((more : List Replied) × MoreFor stop asked added more × HasTurn v (added ++ more) (λ x y. LeftFor stop y) w)
      ⊎ ((stop ≡ For.Refused) × (added ≡ []) × FindsOver v w)

  -- So many calls were made, one after another, each with the reply in its place. Or another core had its turn, and nothing
  -- was done.
  abbrev pub AnswersAll : {T : Type 0} → CoreView S → List (Option Request) → (Reply → T) → List T → Calls → List T → CoreView S → Type 0
  AnswersAll v asked told_of was (Lists.Made series) told w = (added : List Replied)
      × AreTold told_of added was told × (series.made ≡ length added) × AreFirst asked added
      × StopsFor series.stop asked added × GoesFor series.stop v asked added w
  AnswersAll v asked told_of was Lists.Busy told w = (told ≡ was) × (w ≡ v) × IsBeside v

  -- the core had a turn, in which the machine made the aside, by a step of its own that adds nothing to the log; or it is at its limit of events
  abbrev pub MadeAside : CoreView S → Aside → Outcome → CoreView S → Type 0
  MadeAside v aside outcome w =
      HasTurn v [] (λ x y. StepsAside x (event_of v.core aside) outcome y × IsCalm y) w ⊎ ((outcome ≡ Full) × FindsOver v w)

  -- or another core had its turn, so that one is beside this one, and nothing was done
  abbrev pub Passes : CoreView S → Aside → Passed → CoreView S → Type 0
  Passes v aside (By.Came outcome) w = MadeAside v aside outcome w
  Passes v aside By.Busy w = (w ≡ v) × IsBeside v

  -- The machine is the one that was shared, as the last turn left it. In one order of all turns stand those of this core, and of
  -- each that it took in; their calls in its log are those that they made, in order, with the replies that they got.
  pub record Agrees (machine : S) (c : CoreView S) : Type 0 where
    pub turns : List (Turn S)
    pub order : AreInOrder state c.first turns
    pub last : left_by c.first turns ≡ machine ∷ []
    pub legal : IsLegal (state machine)
    pub made : (state machine).made ≡ made_of c.first
    pub own : IsTold state c.first turns (told_of c)
    pub others : (k : ℕ) (t : JoinedCore S) → slice_get c.others k ≡ Some t → IsTold state c.first turns t
