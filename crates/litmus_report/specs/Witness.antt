-- The lines of a trace that stand for events.
use Rattle.std.specs.Prelude.{◌≡◌, ℕ, suc, ◌<◌, ◌≤◌, Bool, true, false, ◌||◌, List, [], ◌∷◌, ◌++◌, ◌==◌, codes, decimal, drop, length, min, take}
use Rattle.std.specs.Prelude.{if◌then◌else◌, replicate}
use Rattle.trace_text.specs.Lists.{start_of}
use Rattle.std.specs.List.{flat_map}
use Rattle.machine_model.specs.declared.event.Event.{Event}
use Rattle.machine_model.specs.declared.event.Event.TheVariants as Ev
use Rattle.trace_words.specs.Written.{core_word, request_words, spaced}
use Rattle.litmus_report.specs.declared.witness.WitnessLine.{WitnessLine}
use Rattle.litmus_report.specs.declared.witness.Piece.{Piece}
use Rattle.litmus_report.specs.declared.witness.WitnessLine.TheVariants.{Now, Finish, One}

-- the next event of the core's call goes on with it, before a new call begins
abbrev pub goes_on : ℕ → List Event → Bool
goes_on core [] = false
goes_on core (Ev.Call c request ∷ events) = if c == core then false else goes_on core events
goes_on core (Ev.Go c ∷ events) = c == core || goes_on core events
goes_on core (Ev.Frame c frame ∷ events) = c == core || goes_on core events
goes_on core (Ev.Guess c page ∷ events) = c == core || goes_on core events
goes_on core (Ev.Whole c ∷ events) = c == core || goes_on core events
goes_on core (Ev.GiveUp c ∷ events) = c == core || goes_on core events
goes_on core (event ∷ events) = goes_on core events

-- so many steps of a core, and no more of its call behind them
abbrev pub Ends : ℕ → ℕ → List Event → List Event → Type 0
Ends core n events rest = (events ≡ replicate (suc n) (Ev.Go core) ++ rest) × (goes_on core rest ≡ false)

-- Parts stand for events: a call with all its steps, where none of another comes between; the last steps of a call; or one event.
abbrev pub StandFor : List WitnessLine → List Event → Type 0
StandFor [] events = events ≡ []
StandFor (Now core request ∷ parts) events = (n : ℕ) × (more : List Event) × (rest : List Event)
    × (events ≡ Ev.Call core request ∷ more) × Ends core n more rest × StandFor parts rest
StandFor (Finish core ∷ parts) events = (n : ℕ) × (rest : List Event) × Ends core n events rest × StandFor parts rest
StandFor (One event ∷ parts) events = (rest : List Event) × (events ≡ event ∷ rest) × StandFor parts rest

-- a part stands for the events from this place up to the next
pub record IsPiece (events : List Event) (at : ℕ) (p : Piece) : Type 0 where
  pub more : at < p.next
  pub within : p.next ≤ length events
  pub stands : (parts : List WitnessLine) → StandFor parts (drop p.next events) → StandFor (p.part ∷ parts) (drop at events)

-- a core's word, and words behind it
abbrev pub core_line : ℕ → List ℕ → List ℕ
core_line core words = core_word core ++ words

-- an event as the line of a trace
abbrev pub event_line : Event → List ℕ
event_line (Ev.Call core request) = core_line core (codes " call" ++ spaced (request_words request))
event_line (Ev.Go core) = core_line core (codes " go")
event_line (Ev.Frame core frame) = core_line core (codes " frame" ++ codes " " ++ decimal frame)
event_line (Ev.Guess core page) = core_line core (codes " guess" ++ codes " " ++ start_of page)
event_line (Ev.Whole core) = core_line core (codes " whole")
event_line (Ev.Take core) = core_line core (codes " take")
event_line (Ev.Walk core page) = core_line core (codes " walk" ++ codes " " ++ start_of page)
event_line (Ev.Evict core page) = core_line core (codes " evict" ++ codes " " ++ start_of page)
event_line (Ev.Flush core) = core_line core (codes " flush")
event_line (Ev.Review core) = core_line core (codes " review")
event_line (Ev.Fold page) = codes "fold " ++ start_of page
event_line (Ev.GiveUp core) = core_line core (codes " giveup")

-- a part as the line of a trace
abbrev pub part_line : WitnessLine → List ℕ
part_line (Now core request) = core_line core (codes "!" ++ spaced (request_words request))
part_line (Finish core) = core_line core (codes " finish")
part_line (One event) = event_line event

abbrev pub part_text : WitnessLine → List ℕ
part_text part = part_line part ++ codes "\n"

-- A trace: a comment that tells the outcome, up to 250 bytes of it, the lines in front, and lines that stand for the events.
pub record IsTrace (outcome front : List ℕ) (events : List Event) (text : List ℕ) : Type 0 where
  pub parts : List WitnessLine
  pub stand : StandFor parts events
  pub is : text ≡ codes "# " ++ take (min (length outcome) 250) outcome ++ codes "\n" ++ front ++ flat_map part_text parts
