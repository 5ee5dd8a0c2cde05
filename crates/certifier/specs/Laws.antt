-- Laws of certificates: what there is one of, and what a refusal rules out
use Rattle.std.specs.Prelude.{◌≡◌, ◌≢◌, ℕ, List, length, None}
use Rattle.slot_lock.specs.Slots.{Slots}
use Rattle.radix_range.specs.Folds.{CanFold, FoldsNode}
use Rattle.radix_range.specs.Found.{in_512}
use Rattle.machine_model.specs.declared.event.Event.{Event}
use Rattle.machine_model.specs.declared.event.Outcome.{Outcome}
use Rattle.machine_model.specs.World.{World, new_world}
use Rattle.machine_model.specs.Sound.{IsReached}
use Rattle.machine_model.specs.declared.setup.Setup.{Setup}
use Rattle.core_steps.specs.Running.{RunsAsMap}
use Rattle.machine_model.specs.Setups.{fault_of, made_of}
use Rattle.seats.specs.declared.noted.Noted.{Noted}
use Rattle.live_levels.specs.declared.close.SlotHistory.{SlotHistory}
use Rattle.certifier.specs.declared.result.CertifyFault.{CertifyFault}
use Rattle.certifier.specs.declared.result.CertifyFault.TheVariants as By
use Rattle.certifier.specs.Following.{AreStates, Fails, IsNewTree, Leads, events_in_order, maps_of, outcomes_in_order}
use Rattle.certifier.specs.Histories.{AllGoAlong}
use Rattle.certifier.specs.Order.{AreNumbered}

-- Where a tree joins and divides the slots, an event of a reached state comes to one outcome, and leaves
-- one state. (A call that is given up for want of memory is an event of its own. A step that is refused
-- for memory is none: it has no outcome, and leaves the state as it is.)
abbrev pub StepsAreExact : Type 0
StepsAreExact =
    (w u v : World) (event : Event) (o p : Outcome) → IsReached w → Leads in_512 CanFold FoldsNode w event o u
    → Leads in_512 CanFold FoldsNode w event p v → (o ≡ p) × (u ≡ v)

module _ {A : Type 0} where
  -- on a new machine of the setup, over some new tree, the events come to these outcomes and leave w
  pub record RunsOverTree (setup : Setup A) (events : List Event) (outcomes : List Outcome) (w : World) : Type 0 where
    pub slots : Slots
    pub new : IsNewTree slots
    pub run : RunsAsMap in_512 CanFold FoldsNode (new_world (made_of setup) slots) events outcomes w

  -- What a fault rules out: a machine of the setup; that each ticket stands once; that the notes, in order of
  -- tickets, are a run; that the histories are those of a run which they are
  abbrev pub RulesOut : Setup A → List Noted → List (SlotHistory A) → CertifyFault → Type 0
  RulesOut setup notes histories (By.Setup fault) = fault_of setup ≢ None
  RulesOut setup notes histories (By.Ticket t) = ¬ AreNumbered notes
  RulesOut setup notes histories (By.Differs t noted expected) = (w : World)
      → ¬ RunsOverTree setup (events_in_order notes) (outcomes_in_order notes) w
  RulesOut setup notes histories (By.Slot page) = (slots : Slots) (states : ℕ → World) → IsNewTree slots
      → AreStates in_512 CanFold FoldsNode (new_world (made_of setup) slots) notes (length notes) states
      → ¬ AllGoAlong (length notes) (maps_of states) histories
  RulesOut setup notes histories By.NoMemory = Unit {0}

-- a setup's machine has one run by the events
abbrev pub RunsAreExact : Type 0 → Type 0
RunsAreExact A =
    (setup : Setup A) (events : List Event) (outcomes others : List Outcome) (u v : World) → fault_of setup ≡ None
    → RunsOverTree setup events outcomes u → RunsOverTree setup events others v → (outcomes ≡ others) × (u ≡ v)

-- what is told of notes that aren't certified is so
abbrev pub RefusalsAreExact : Type 0 → Type 0
RefusalsAreExact A =
    (setup : Setup A) (notes : List Noted) (histories : List (SlotHistory A)) (fault : CertifyFault)
    → Fails in_512 CanFold FoldsNode setup notes histories fault → RulesOut setup notes histories fault
