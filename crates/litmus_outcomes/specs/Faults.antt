-- Why nothing is listed
use Rattle.std.specs.Prelude.{◌≡◌, List, Some}
use Rattle.litmus_merges.specs.declared.asked.Asked.{Asked}
use Rattle.litmus_merges.specs.Laws.{AreNamed}
use Rattle.trace_words.specs.Declarations.{DeclarationView, asked_fault}
use Rattle.litmus_outcomes.specs.declared.fault.Late.{Late}
use Rattle.litmus_outcomes.specs.declared.fault.Late.TheVariants as LateOf
use Rattle.litmus_outcomes.specs.declared.fault.OutcomesFault.{OutcomesFault}
use Rattle.litmus_outcomes.specs.declared.fault.OutcomesFault.TheVariants as Why

-- a call leaves its place open, or the declaration has this fault; the others may come where these don't
abbrev pub Faults : DeclarationView → List Asked → OutcomesFault → Type 0
Faults declared calls Why.Placed = ¬ AreNamed calls
Faults declared calls (Why.Setup fault) = asked_fault declared ≡ Some fault
Faults declared calls (Why.Open core) = Unit {0}
Faults declared calls Why.NotLed = Unit {0}
Faults declared calls Why.NoMemory = Unit {0}

abbrev pub fault_by : Late → OutcomesFault
fault_by (LateOf.Open core) = Why.Open core
fault_by LateOf.NotLed = Why.NotLed
fault_by LateOf.NoMemory = Why.NoMemory
