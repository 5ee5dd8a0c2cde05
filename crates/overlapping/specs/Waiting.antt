-- Calls that wait when a text ends
use Rattle.std.specs.Prelude.{◌≡◌, ℕ, ◌<◌, List, Option, None, false, get_or, is_some, length}
use Rattle.orders_text.specs.declared.clock.PendingCall.{PendingCall}

-- no core's call does
abbrev pub NoneWaits : List (Option PendingCall) → Type 0
NoneWaits waiting = (core : ℕ) → core < length waiting → is_some (get_or waiting core None) ≡ false
