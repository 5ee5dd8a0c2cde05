-- Where in the lists a call stands.
use Rattle.std.specs.Prelude.{ℕ, suc, ◌-◌, List, [], ◌∷◌, Option, None, Some, option_map, if◌then◌else◌, ◌==◌}
use Rattle.litmus_merges.specs.declared.asked.Asked.{Asked}

-- the place among the calls of the core's call with this number, from 1
abbrev pub call_at : List Asked → ℕ → ℕ → Option ℕ
call_at [] core number = None
call_at (call ∷ calls) core number = if call.core == core
    then (if number == 1 then Some 0 else option_map suc (call_at calls core (number - 1)))
    else option_map suc (call_at calls core number)
