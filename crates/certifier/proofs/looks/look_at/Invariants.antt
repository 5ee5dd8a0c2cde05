use Rattle.machine_model.proofs.Words.{◌≡◌, ℕ, ◌+◌, ◌-◌, ◌≤◌, cond, Option, PageInfo}
use Rattle.core_steps.specs.Machine.{state}
use Rattle.certifier.specs.Looks.{IsLooked}
use Rattle.certifier.proofs.looks.look_at.Given as goal

-- what was known before the first of these looks is known now
abbrev pub invariant-tickets : goal.invariant-tickets
invariant-tickets g l = (n : ℕ) (maps : ℕ → ℕ → Option PageInfo) → l.t ≤ n
    → IsLooked n maps (state l.machine).slots.info l.t l.slot l.fn.look
    → IsLooked n maps (state l.machine).slots.info l.t l.slot l.look

abbrev pub decreases-tickets : goal.decreases-tickets
decreases-tickets g l = cond l.look.is_bad 0 (l.t - l.look.seen + 1)
