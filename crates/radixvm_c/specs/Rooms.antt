-- What a seat has
use Rattle.std.specs.Prelude.{◌≡◌, true, Option, Some, is_some}
use Rattle.shared.specs.declared.space.SharedMachine.{SharedMachine}
use Rattle.shared.specs.Cores.{CoreView}

-- the room has a space, which the core is of
abbrev pub IsIn : {S : Type 0} → Option (SharedMachine S) → CoreView S → Type 0
IsIn {S} room c =
    (is_some room ≡ true)
    × ((space : SharedMachine S) → room ≡ Some space → c.space ≡ space.table.shared.table_id)
