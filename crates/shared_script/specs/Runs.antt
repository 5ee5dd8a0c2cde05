-- What running a script on threads over one machine comes to
use Rattle.std.specs.Prelude.{◌≡◌, ℕ, ◌<◌, List, [], ◌∷◌, length, get_or}
use Rattle.machine_model.specs.World.{World}
use Rattle.core_steps.specs.Machine.{IsLegal}
use Rattle.machine_model.specs.declared.setup.SetupFault.TheVariants as Wrong
use Rattle.shared.specs.Histories.{history_of, replied_by}
use Rattle.shared.specs.declared.history.Replied.{Replied}
use Rattle.shared.specs.declared.history.Turn.{Turn}
use Rattle.shared.specs.Turns.{AreInOrder, left_by}
use Rattle.trace_words.specs.Declarations.{made_by}
use Rattle.trace_words.specs.declared.fault.TraceFault.TheVariants.{NoMemory, Setup}
use Rattle.trace_words.specs.Scripts.{Scripted}
use Rattle.shared_script.specs.Tasks.{DidTasks, FindsFull, HasDone, asked_in, calls_of}
use Rattle.shared_script.specs.declared.fault.SharedFault.{SharedFault}
use Rattle.shared_script.specs.declared.fault.SharedFault.TheVariants.{Text, Full}

-- The machine is as it was declared, in a legal state: its log is that of a plain page map. Each core made the calls of its
-- tasks, in order, and the log's replies to it are those that its thread was told. The machine came to this state by turns of the cores,
-- in one order: each core's turns were its tasks, one a turn, in order, each flush and each review a step of the machine's own.
pub record IsRun (script : Scripted) (told : List (List Replied)) (w : World) : Type 0 where
  pub legal : IsLegal w
  pub made : w.made ≡ made_by script.asked
  pub count : length told ≡ script.asked.cores
  pub asked : (core : ℕ) → core < script.asked.cores → asked_in (get_or told core []) ≡ calls_of (get_or script.tasks core [])
  pub logged : (core : ℕ) → core < script.asked.cores → replied_by core (history_of w) ≡ get_or told core []
  pub first : List World
  pub turns : List (Turn World)
  pub order : AreInOrder (λ v. v) first turns
  pub last : left_by first turns ≡ w ∷ []
  pub did : (core : ℕ) → core < script.asked.cores → DidTasks (λ v. v) core first turns (get_or script.tasks core [])

-- In the declared machine, which began with an empty log, this core found it too full for one of its tasks, and each core before it did all
-- of its own.
pub record IsLeastFull (script : Scripted) : Type 0 where
  pub first : World
  pub made : first.made ≡ made_by script.asked
  pub new : first.calls.log ≡ []
  pub core : ℕ
  pub within : core < script.asked.cores
  pub stopped : FindsFull (λ w. w) core (first ∷ []) (get_or script.tasks core [])
  pub below : (k : ℕ) → k < core → (turns : List (Turn World)) × HasDone (λ w. w) k (first ∷ []) turns (get_or script.tasks k [])

-- why a script wasn't run: memory was wanting, for the machine too; or the least core that stopped found the machine at a limit
abbrev pub Fails : Scripted → SharedFault → Type 0
Fails script (Text NoMemory) = Unit {0}
Fails script (Text (Setup fault)) = fault ≡ Wrong.NoMemory
Fails script Full = IsLeastFull script
Fails script _ = ⊥
