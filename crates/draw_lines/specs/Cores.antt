-- Which cores act in a run, and how many are in a set
use Rattle.std.specs.Prelude.{ℕ, zero, suc, ◌+◌, ◌==◌, ◌||◌, Bool, true, false, cond, if◌then◌else◌, List, [], ◌∷◌}
use Rattle.vm_base.specs.Cores.{members, with_member}
use Rattle.draw_steps.specs.declared.moments.Recorded.{Recorded}
use Rattle.draw_steps.specs.declared.moments.Moment.{Moment}
use Rattle.draw_steps.specs.declared.moments.Moment.TheVariants.{Begins, Answers, Told, Took, Did, Mapped, Unmapped}

-- how many of the cores below a number these are
unfoldable pub count_members : (ℕ → Bool) → ℕ → ℕ
count_members s zero = 0
count_members s (suc n) = cond (s n) (count_members s n + 1) (count_members s n)

-- a core has a part in this: it calls, tells or is told, takes or has its message taken, or does something else
abbrev pub acts_in : ℕ → Moment → Bool
acts_in core (Begins call one request) = one == core
acts_in core (Told one cores) = (one == core) || members cores core
acts_in core (Took one sender pass) = (one == core) || (sender == core)
acts_in core (Did one deed) = one == core
acts_in core (Answers call reply) = false
acts_in core (Mapped pages prot back) = false
acts_in core (Unmapped pages) = false

-- or in one of these
abbrev pub acts : List Recorded → ℕ → Bool
acts [] core = false
acts (r ∷ rs) core = if acts_in core r.moment then true else acts rs core

-- those below a number, as a set of cores
unfoldable pub acting : (ℕ → Bool) → ℕ → ℕ
acting s zero = 0
acting s (suc n) = cond (s n) (with_member (acting s n) n) (acting s n)
