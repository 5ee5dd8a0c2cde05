-- What the lines of a script name, and what each core is to do
use Rattle.std.specs.Prelude.{◌≡◌, ℕ, ◌<◌, ◌==◌, Bool, false, List, Option, None, Some, Result, Ok, Err, filter, map, nat_lt, if◌then◌else◌}
use Rattle.std.specs.List.{range_with_len}
use Rattle.trace_text.specs.Words.{Word}
use Rattle.trace_text.specs.Request.{◌>>=◌}
use Rattle.trace_text.specs.Grammar.{Says}
use Rattle.trace_text.specs.Line.{line_of_words}
use Rattle.trace_text.specs.declared.action.Action.{Action}
use Rattle.trace_text.specs.declared.action.Action.TheVariants as Do
use Rattle.trace_text.specs.declared.line.Line.{Line}
use Rattle.trace_text.specs.declared.line.Line.TheVariants.{Blank, Space, File, Act, Fold, Finish, Now}
use Rattle.trace_words.specs.declared.fault.TraceFault.{TraceFault}
use Rattle.trace_words.specs.declared.fault.TraceFault.TheVariants.{NoMemory}
use Rattle.trace_words.specs.Declarations.{DeclarationView}
use Rattle.trace_words.specs.Ends.{Collects, Stops}
use Rattle.trace_words.specs.declared.script.Task.{Task}
use Rattle.trace_words.specs.declared.script.Task.TheVariants.{Call, Flush, Review}
use Rattle.trace_words.specs.declared.script.ScriptLine.{ScriptLine}

-- ---- its lines

-- the line of a trace by which a core is given the task
abbrev pub line_of_task : ℕ → Task → Line
line_of_task core (Call request) = Now core request
line_of_task core Flush = Act core Do.Flush
line_of_task core Review = Act core Do.Review

-- one of the cores of the space is given a task
abbrev pub NamesTask : ℕ → ScriptLine → List Word → Type 0
NamesTask cores line words = (line.core < cores) × Says (line_of_task line.core line.task) words

-- ---- what is read

-- the task of an action
abbrev pub task_done : Action → Option Task
task_done (Do.Call request) = None
task_done Do.Go = None
task_done Do.Take = None
task_done Do.Flush = Some Flush
task_done Do.Review = Some Review
task_done Do.GiveUp = None
task_done (Do.Frame frame) = None
task_done (Do.Guess page) = None
task_done Do.Whole = None
task_done (Do.Walk page) = None
task_done (Do.Evict page) = None

-- of a core of the space
abbrev pub given_to : ℕ → ℕ → Option Task → Option ScriptLine
given_to cores core None = None
given_to cores core (Some task) = if nat_lt core cores then Some (record { core = core; task = task }) else None

-- what a line of a script gives to one core to do
abbrev pub task_said : ℕ → Line → Option ScriptLine
task_said cores Blank = None
task_said cores (Space all frames calls) = None
task_said cores (File n mode len seed) = None
task_said cores (Act core action) = given_to cores core (task_done action)
task_said cores (Fold page) = None
task_said cores (Finish core) = None
task_said cores (Now core request) = given_to cores core (Some (Call request))

unfoldable pub script_line_of : ℕ → List Word → Option ScriptLine
script_line_of cores words = do
  line ← line_of_words words
  task_said cores line

-- ---- all of it

-- what one core is to do, in order of the lines
abbrev pub tasks_of : ℕ → List ScriptLine → List Task
tasks_of core lines = map (λ line. line.task) (filter (λ line. line.core == core) lines)

-- what is asked for, and the tasks of each core
pub record Scripted : Type 0 where
  pub asked : DeclarationView
  pub tasks : List (List Task)

-- the tasks of the cores that are asked for
abbrev pub all_tasks : ℕ → List ScriptLine → List (List Task)
all_tasks cores lines = map (λ core. tasks_of core lines) (range_with_len 0 cores)

-- all lines were read, and this is what they come to
pub record ReadWhole (input : List ℕ) (script : Scripted) : Type 0 where
  pub lines : List ScriptLine
  pub collects : Collects false NamesTask input script.asked lines
  pub tasks : script.tasks ≡ all_tasks script.asked.cores lines

-- why the script wasn't read: not all lines were, or memory for the lists was wanting
pub data Unread (input unread : List ℕ) (f : TraceFault) : Type 0 where
  unread_text : Stops false NamesTask input unread f → Unread input unread f
  unmade : f ≡ NoMemory → unread ≡ input → Unread input unread f
  wanting : f ≡ NoMemory → (asked : DeclarationView) (lines : List ScriptLine) → Collects false NamesTask input asked lines
      → Unread input unread f

-- how the reading of a script ends: all read, or a fault of the text
abbrev pub ReadsScript : List ℕ → List ℕ → Result Scripted TraceFault → Type 0
ReadsScript input unread (Ok script) = ReadWhole input script
ReadsScript input unread (Err f) = Unread input unread f
