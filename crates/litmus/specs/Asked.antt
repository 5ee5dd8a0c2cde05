-- What is told of a litmus test, by what is asked for.
use Rattle.std.specs.Prelude.{ℕ, List}
use Rattle.litmus.specs.Kernels.{FailsObserved, FailsProgram, TellsObserved, TellsProgram}
use Rattle.litmus.specs.Live.{FailsLive, TellsLive}
use Rattle.litmus.specs.Tells.{Fails, Tells}
use Rattle.litmus.specs.declared.faults.TestFault.{TestFault}
use Rattle.litmus.specs.declared.telling.LitmusAsk.{LitmusAsk}
use Rattle.litmus.specs.declared.telling.LitmusAsk.TheVariants.{Outcomes as Asks, Program, Observed, Live}

abbrev pub TellsAs : Type 0 → List ℕ → LitmusAsk → ℕ → List (List ℕ) → List (List ℕ) → List ℕ → ℕ → Type 0
TellsAs A name (Asks view) limit counts lines text status = Tells A name view limit lines text status
TellsAs A name Program limit counts lines text status = TellsProgram lines text status
TellsAs A name Observed limit counts lines text status = TellsObserved A limit counts lines text status
TellsAs A name (Live runs) limit counts lines text status = TellsLive limit runs lines text status

abbrev pub FailsAs : Type 0 → LitmusAsk → List (List ℕ) → List (List ℕ) → TestFault → Type 0
FailsAs A (Asks view) counts lines fault = Fails A view lines fault
FailsAs A Program counts lines fault = FailsProgram lines fault
FailsAs A Observed counts lines fault = FailsObserved counts lines fault
FailsAs A (Live runs) counts lines fault = FailsLive lines fault
