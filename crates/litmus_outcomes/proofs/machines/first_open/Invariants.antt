use Rattle.std.proofs.Common.{◌≡◌, ℕ, ◌<◌}
use Rattle.machine_model.specs.declared.phase.Phase.TheVariants.{Free}
use Rattle.core_steps.specs.Machine.{state}
use Rattle.litmus_outcomes.proofs.machines.first_open.Given as goal

-- none so far has a call
abbrev pub invariant-cores : goal.invariant-cores
invariant-cores g l = (c : ℕ) → c < l.index → c < (state l.machine).made.cores → (state l.machine).calls.phase c ≡ Free
