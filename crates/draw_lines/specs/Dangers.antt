-- Where translations are in danger
use Rattle.std.specs.Prelude.{ℕ, zero, suc, ◌==◌, ◌&&◌, Bool, false, nat_lt, List, [], ◌∷◌, ◌++◌, Option, None, Some, if◌then◌else◌}
use Rattle.std.specs.List.{flat_map}
use Rattle.vm_base.specs.Cores.{members}
use Rattle.draw_steps.specs.declared.moments.Recorded.{Recorded}
use Rattle.draw_steps.specs.declared.moments.Moment.{Moment}
use Rattle.draw_steps.specs.declared.moments.Moment.TheVariants.{Told, Took}
use Rattle.draw_steps.specs.declared.moments.Pass.TheVariants.{Second}
use Rattle.draw_lines.specs.declared.dangers.Danger.{Danger}

-- the core takes the sender's message for the second time
abbrev pub takes_again : ℕ → ℕ → Moment → Bool
takes_again sender core (Took taker from Second) = (taker == core) && (from == sender)
takes_again sender core _ = false

-- and that after a column
abbrev pub acknowledges : Recorded → ℕ → ℕ → ℕ → Bool
acknowledges r sender core column = takes_again sender core r.moment && nat_lt column r.step

-- the first column in which it does
abbrev pub acknowledged : List Recorded → ℕ → ℕ → ℕ → Option ℕ
acknowledged [] sender core column = None
acknowledged (r ∷ rs) sender core column =
    if acknowledges r sender core column then Some r.step else acknowledged rs sender core column

-- a core that is told may have the translations up to its second take
abbrev pub danger_of : List Recorded → ℕ → ℕ → ℕ → Danger
danger_of all sender core column =
    record { core = core; sender = sender; begin = column; end = acknowledged all sender core column }

-- if it was told
abbrev pub danger_at : List Recorded → ℕ → ℕ → ℕ → ℕ → List Danger
danger_at all sender cores core column = if members cores core then danger_of all sender core column ∷ [] else []

-- of the cores below a number, those that were told
unfoldable pub dangers_below : List Recorded → ℕ → ℕ → ℕ → ℕ → List Danger
dangers_below all sender cores column zero = []
dangers_below all sender cores column (suc n) = dangers_below all sender cores column n ++ danger_at all sender cores n column

abbrev pub dangers_at : List Recorded → ℕ → Moment → List Danger
dangers_at all column (Told sender cores) = dangers_below all sender cores column 64
dangers_at all column _ = []

-- one for each core that this tells
abbrev pub dangers_in : List Recorded → Recorded → List Danger
dangers_in all r = dangers_at all r.step r.moment

abbrev pub dangers_of : List Recorded → List Recorded → List Danger
dangers_of all rs = flat_map (λ r. dangers_in all r) rs
