-- What a handle lends
use Rattle.std.specs.Prelude.{Some}
use Rattle.std.specs.Borrow.{Lends, MutBor, Fml}
use Rattle.coded.specs.declared.held.AnyMachine.{AnyMachine}
use Rattle.radixvm_c.specs.declared.handle.Handle.{Handle}
use Rattle.radixvm_c.specs.declared.chair.Chair.{Chair}
use Rattle.radixvm_c.specs.declared.chair_handle.ChairHandle.{ChairHandle}
use Rattle.radixvm_c.specs.contracts.chair.Chair.{the_row as chair_row}
use Rattle.radixvm_c.specs.contracts.chair_handle.ChairHandle.{the_row as chair_handle_row}
use Rattle.coded.specs.contracts.held.AnyMachine.{the_row as held_row}
use Rattle.radixvm_c.specs.contracts.handle.Handle.{the_row}

-- the handle with another machine at the same place
abbrev pub with_value : Handle → AnyMachine → Handle
with_value h x = record h { value = Some x }

-- once the borrow ends, the handle has the last machine behind r
abbrev pub LendsHeld : MutBor Handle → MutBor AnyMachine → Fml
LendsHeld h r = Lends the_row held_row h r (with_value h.now)

-- likewise of a seat
abbrev pub with_chair : ChairHandle → Chair → ChairHandle
with_chair h x = record h { value = Some x }

abbrev pub LendsChair : MutBor ChairHandle → MutBor Chair → Fml
LendsChair h r = Lends chair_handle_row chair_row h r (with_chair h.now)
