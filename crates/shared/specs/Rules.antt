-- The rule of the word and of the machine behind it, and what each step tells
use Rattle.std.specs.Prelude.{Bool, ◌≡◌, ◌≢◌, ℕ, ◌-◌, ◌<◌, ◌≤◌, ◌==◌, ◌⊎◌, true, false, List, [], ◌∷◌, ◌++◌, MatchBool}
use mathlib.Core.Option.{some, none}
use lib.ListN.{get_elem?}
use Rattle.atomic_table.specs.Table.{State, Me, Step, rest}
use Rattle.atomic_table.specs.Seated.{TableId}
use Rattle.machine_model.specs.World.{World}
use Rattle.machine_model.specs.Alone.{IsCalm}
use Rattle.core_steps.specs.Machine.{IsLegal}
use Rattle.shared.specs.declared.history.Replied.{Replied}
use Rattle.shared.specs.declared.history.Turn.{Turn}
use Rattle.shared.specs.declared.history.JoinedCore.{JoinedCore}
use Rattle.shared.specs.declared.space.Answer.{Answer}
use Rattle.shared.specs.declared.space.Answer.TheVariants as Tells
use Rattle.shared.specs.declared.space.Known.{Known}
use Rattle.shared.specs.declared.series.SeriesEnd.{SeriesEnd}
use Rattle.shared.specs.declared.series.SeriesEnd.TheVariants as For
use Rattle.shared.specs.declared.whole.CallEnd.{CallEnd}
use Rattle.shared.specs.declared.whole.CallEnd.TheVariants as To
use Rattle.shared.specs.Histories.{IsOver, history_of, replied_by}
use Rattle.shared.specs.Turns.{AreInOrder, HasSeen, IsTold, Leads, NoneOf, left_by, log_in, turn}
use Rattle.shared.specs.Cores.{CoreView, IsBeside, made_of}

-- the word stands in the middle of a row of 17, so that nothing else lies in its cache line
abbrev pub middle : ℕ
middle = 8

abbrev pub padded : ℕ → List ℕ
padded word = 1 ∷ 1 ∷ 1 ∷ 1 ∷ 1 ∷ 1 ∷ 1 ∷ 1 ∷ word ∷ 1 ∷ 1 ∷ 1 ∷ 1 ∷ 1 ∷ 1 ∷ 1 ∷ 1 ∷ []

abbrev pub known : {S : Type 0} → ℕ → ℕ → List S → List (Turn S) → List Replied → Known S
known core spare first turns mine = record {
  core = core;
  spare = spare;
  first = first;
  turns = turns;
  mine = mine;
  holds = false;
  live = true;
  others = [];
}

-- what is left of a core that was taken in
abbrev pub spent_core : {S : Type 0} → Known S
spent_core = record (known 0 0 [] [] []) { live = false }

-- the core knows what the other knew, and whom that one took in
abbrev pub with_other : {S : Type 0} → Known S → Known S → Known S
with_other v w =
    record v { others = v.others ++ (record { core = w.core; turns = w.turns; mine = w.mine }) ∷ w.others }

abbrev pub view_of : {S : Type 0} → TableId → Known S → CoreView S
view_of space v = record {
  space = space;
  core = v.core;
  spare = v.spare;
  first = v.first;
  turns = v.turns;
  mine = v.mine;
  others = v.others;
}

-- the core learned of these turns of others
abbrev pub looked : {S : Type 0} → Known S → List (Turn S) → Known S
looked v rest = record v { turns = v.turns ++ rest }

-- and has the machine
abbrev pub holding : {S : Type 0} → Known S → List (Turn S) → Known S
holding v rest = record (looked v rest) { holds = true }

-- a core that calls has the machine
pub record Holds {S : Type 0} (v : Known S) : Type 0 where
  pub holds : v.holds ≡ true
  pub live : v.live ≡ true

module _ {S : Type 0} (state : S → World) where
  -- the core gave the machine back as this one
  abbrev pub after : Known S → S → Known S
  after v d = record v { turns = v.turns ++ turn v.core d ∷ []; mine = replied_by v.core (history_of (state d)); holds = false }

  -- what the first core knows
  abbrev pub first_known : List S → Known S
  first_known first = known 0 ((made_of state first).cores - 1) first [] (replied_by 0 (log_in state first))

  -- what a core knows that is split off
  abbrev pub split_known : Known S → Known S
  split_known v = known v.spare 0 v.first v.turns (replied_by v.spare (log_in state (left_by v.first v.turns)))

  -- What a core knows is so, where these are all turns, of which core each seat has, and of the cores that are
  -- gone and make no call any more. The cores from 1 to `left` have no seat yet.
  pub record Fits (key : List S) (turns : List (Turn S)) (seat_of : ℕ → ℕ) (gone : ℕ → Bool) (left id : ℕ)
      (v : Known S) : Type 0 where
    pub seen : v.live ≡ true → HasSeen v.core v.turns turns
    pub mine : v.live ≡ true → replied_by v.core (log_in state (left_by key turns)) ≡ v.mine
    pub seat : v.live ≡ true → seat_of v.core ≡ id
    pub core : v.live ≡ true → (v.core ≡ 0) ⊎ (left < v.core)
    pub here : v.live ≡ true → v.core < (made_of state key).cores
    pub first : v.live ≡ true → v.first ≡ key
    pub stays : v.live ≡ true → gone v.core ≡ false
    pub spare : 0 < v.spare → (v.live ≡ true) × (v.core ≡ 0) × (v.spare ≡ left)
    pub told : (k : ℕ) (t : JoinedCore S) → get_elem? v.others k ≡ some t → IsTold state key turns t × (gone t.core ≡ true)

  -- the machine is at home, and nobody has it; where the word is 1, a call can begin, and else the
  -- limit of events is reached
  pub record Home (key : List S) (s : State S (Known S)) (turns : List (Turn S)) : Type 0 where
    pub machine : S
    pub word : ℕ
    pub words : s.words ≡ padded word
    pub homes : s.homes ≡ some machine ∷ []
    pub in_place : word ≢ 0
    pub calm : word ≡ 1 → IsCalm (state machine)
    pub over : word ≢ 1 → IsOver (state machine)
    pub legal : IsLegal (state machine)
    pub made : (state machine).made ≡ made_of state key
    pub last : left_by key turns ≡ machine ∷ []
    pub none_holds : (id : ℕ) (v : Known S) → get_elem? s.views id ≡ some v → v.holds ≡ false

  -- one core has it, which knows all turns
  pub record Out (s : State S (Known S)) (turns : List (Turn S)) : Type 0 where
    pub holder : ℕ
    pub words : s.words ≡ padded 0
    pub homes : s.homes ≡ none ∷ []
    pub held : (v : Known S) × (get_elem? s.views holder ≡ some v) × Holds v
    pub one_holds : (id : ℕ) (v : Known S) → get_elem? s.views id ≡ some v → v.holds ≡ true
        → (id ≡ holder) × (v.turns ≡ turns)

  pub record Kept (key : List S) (s : State S (Known S)) : Type 0 where
    pub turns : List (Turn S)
    pub seat_of : ℕ → ℕ
    pub gone : ℕ → Bool
    pub left : ℕ
    pub few : left < (made_of state key).cores
    pub order : AreInOrder state key turns
    pub each : (id : ℕ) (v : Known S) → get_elem? s.views id ≡ some v
        → Fits key turns seat_of gone left id v
    pub unborn : (core : ℕ) → 1 ≤ core → core ≤ left → NoneOf core turns × (gone core ≡ false)
    pub place : Home key s turns ⊎ Out s turns

  -- a core that looks at the machine learns of these turns of others, the last of which left it as d
  pub record Learns (v : Known S) (rest : List (Turn S)) (d : S) : Type 0 where
    pub others : NoneOf v.core rest
    pub order : AreInOrder state v.first (v.turns ++ rest)
    pub last : left_by v.first (v.turns ++ rest) ≡ d ∷ []
    pub legal : IsLegal (state d)
    pub made : (state d).made ≡ made_of state v.first
    pub here : v.core < (state d).made.cores
    pub mine : replied_by v.core (history_of (state d)) ≡ v.mine
    pub joined : (k : ℕ) (t : JoinedCore S) → get_elem? v.others k ≡ some t → IsTold state v.first (v.turns ++ rest) t

  -- another core had the machine; or no call can begin any more
  abbrev pub Missed : ℕ → Me S (Known S) → Me S (Known S) → Type 0
  Missed n m w = MatchBool (n == 0)
      ((w ≡ m) × (m.0.holds ≡ false → (space : TableId) → IsBeside state (view_of space m.0)))
      ((d : S) × (rest : List (Turn S)) × (w ≡ (looked m.0 rest, m.1)) × Learns m.0 rest d × IsOver (state d))

  -- the machine was taken; or not
  abbrev pub Took : ℕ → Me S (Known S) → Me S (Known S) → Type 0
  Took n m w = MatchBool (n == 1)
      ((d : S) × (rest : List (Turn S)) × (w ≡ (holding m.0 rest, (0, d) ∷ m.1)) × Learns m.0 rest d × IsCalm (state d))
      (Missed n m w)

  abbrev pub Takes : Step S → Me S (Known S) → ℕ → Me S (Known S) → Type 0
  Takes st m n w = Took n m w

  -- the core gave back what it carried first
  abbrev pub given : Known S → List (ℕ × S) → Known S
  given v [] = v
  given v (x ∷ xs) = after v x.1

  abbrev pub Gives : Step S → Me S (Known S) → ℕ → Me S (Known S) → Type 0
  Gives st m n w = w ≡ (given m.0 m.1, rest m.1)

  -- the machine that a core has, once it was used, can be given back with this word
  pub record CanGive (v : Known S) (d : S) (word : ℕ) : Type 0 where
    pub holds : v.holds ≡ true
    pub live : v.live ≡ true
    pub in_place : word ≢ 0
    pub calm : word ≡ 1 → IsCalm (state d)
    pub over : word ≢ 1 → IsOver (state d)
    pub made : (state d).made ≡ made_of state v.first
    pub leads : (x : S) × (left_by v.first v.turns ≡ x ∷ []) × Leads state (state x) v.core (state d)

  -- the machine d that a core has did this, and is another now
  pub record Makes (d : S) (Does : World → World → Type 0) (carried : List (ℕ × S)) : Type 0 where
    pub machine : S
    pub has : carried ≡ (0, machine) ∷ []
    pub does : Does (state d) (state machine)
    pub made : (state machine).made ≡ (state d).made
    pub legal : IsLegal (state machine)

-- the word with which the machine is given back, after a call that came to this
abbrev pub word_of : CallEnd → ℕ
word_of (To.Reply reply) = 1
word_of To.Refused = 1
word_of To.Spent = 2

-- and after calls that came to this
abbrev pub word_after : SeriesEnd → ℕ
word_after For.Spent = 2
word_after _ = 1

-- what the caller is told then
abbrev pub answer_of : CallEnd → Answer
answer_of (To.Reply reply) = Tells.Reply reply
answer_of _ = Tells.Full
