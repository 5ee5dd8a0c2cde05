-- Lanes of the seats of a space
use Rattle.std.proofs.Common.{◌≡◌, List, map, arith, sym, subst}
use Rattle.std.proofs.lemmas.List.{get_or-map, length-map}
use Rattle.std.specs.Prelude.{All}
use Rattle.seats.specs.Notes.{SeatView}
use Rattle.live_space.specs.Space.{IsOf, LiveView}
use Rattle.litmus.specs.declared.calling.Lane.{Lane}

abbrev seat_of : Lane → SeatView
seat_of lane = lane.seat

-- their seats are the space's
pub own_lanes : (l : LiveView) (lanes first : List Lane) (seats : List SeatView) → map (λ (lane : Lane). lane.seat) lanes ≡ seats → All (IsOf l) seats
    → first ≡ lanes → All (λ (lane : Lane). IsOf l lane.seat) first
own_lanes l lanes first seats same own is =
    subst (λ ls. All (λ (lane : Lane). IsOf l lane.seat) ls) (sym is)
    (λ k d lt. subst (λ s. IsOf l s) (get_or-map seat_of lanes k d d.seat lt)
    (subst (λ ss. All (IsOf l) ss) (sym same) own k d.seat (omega (arith, lt, length-map lanes seat_of))))
