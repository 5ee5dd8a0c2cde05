-- The mappings at a trace's end, listed with the names of files.
use Rattle.std.specs.Prelude.{◌≡◌, ℕ, ◌⊎◌, List, [], Option, None, Some, Result, Ok, Err, Vec}
use Rattle.machine_model.specs.declared.setup.CallLimit.{CallLimit}
use Rattle.std.specs.declared.alloc.Global.{Global}
use Rattle.trace_words.specs.declared.fault.TraceFault.{TraceFault}
use Rattle.trace_words.specs.declared.fault.TraceFault.TheVariants.{NoMemory, ReadFailed}
use Rattle.trace_words.specs.declared.show.Show.TheVariants.{Maps}
use Rattle.trace.specs.Ends.{Completes, Stops}

-- the replay of the trace lists these mappings at its end
abbrev pub Listed : CallLimit → List ℕ → List ℕ → Type 0
Listed limit input list = Completes limit Maps input (Some []) (Some list)

-- no list comes of the trace: for a fault of it, for want of memory, or since it couldn't be read
abbrev pub FailsToList : CallLimit → List ℕ → TraceFault → Type 0
FailsToList limit input f = ((unread : List ℕ) × (held : List ℕ) × Stops limit Maps input unread (Some []) (Some held) f)
    ⊎ ((f ≡ NoMemory) ⊎ (f ≡ ReadFailed))

-- what a replay in memory came to
abbrev pub Lists : CallLimit → List ℕ → Result (Vec ℕ Global) TraceFault → Type 0
Lists limit input (Ok list) = Listed limit input list.items
Lists limit input (Err f) = FailsToList limit input f

-- no step is asked for, so that none is lacking
abbrev pub lacking_nothing : List ℕ → Option ℕ
lacking_nothing list = None
