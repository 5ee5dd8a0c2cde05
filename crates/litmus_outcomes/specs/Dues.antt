-- What is still to be said of calls that are performed
use Rattle.std.specs.Prelude.{◌≡◌, ℕ, ◌<◌, ◌==◌, List, [], ◌∷◌, ◌++◌, slice_get, if◌then◌else◌, Some}
use Rattle.vm_base.specs.declared.replies.Reply.{Reply}
use Rattle.vm_base.specs.declared.requests.Request.{Request}
use Rattle.litmus_merges.specs.declared.asked.Asked.{Asked}
use Rattle.litmus_outcomes.specs.Performed.{Said}
use Rattle.litmus_outcomes.specs.Performed.Said.{Asks, Tells}
use Rattle.litmus_outcomes.specs.declared.performing.Due.{Due}
use Rattle.litmus_outcomes.specs.declared.performing.Stage.{Stage}
use Rattle.litmus_outcomes.specs.declared.performing.Stage.TheVariants.{Ahead, Begun, Over}

-- of a call that is so far
abbrev pub stage_said : Stage → Request → Reply → List Said
stage_said Ahead request reply = Asks request ∷ Tells reply ∷ []
stage_said Begun request reply = Tells reply ∷ []
stage_said Over request reply = []

-- by or to this core
abbrev pub due_said : ℕ → Due → List Said
due_said core due = if due.core == core then stage_said due.stage due.request due.reply else []

abbrev pub dues_said : ℕ → List Due → List Said
dues_said core [] = []
dues_said core (due ∷ dues) = due_said core due ++ dues_said core dues

-- no call has begun
abbrev pub dues_of : List Asked → List Reply → List Due
dues_of [] replies = []
dues_of (call ∷ calls) [] = []
dues_of (call ∷ calls) (reply ∷ replies) =
    record { core = call.core; request = call.request; reply = reply; stage = Ahead } ∷ dues_of calls replies

-- the core's first call that isn't over
pub record IsNextDue (dues : List Due) (core k : ℕ) (due : Due) : Type 0 where
  pub is : slice_get dues k ≡ Some due
  pub of : due.core ≡ core
  pub earlier : (j : ℕ) (other : Due) → j < k → slice_get dues j ≡ Some other → other.core ≡ core → other.stage ≡ Over
