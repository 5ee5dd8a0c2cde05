use Rattle.std.proofs.Common.{rules, arith, ◌≡◌, ℕ, suc, ◌<◌, List, [], ◌∷◌, length, sym, subst}
use Rattle.std.specs.Prelude.{All, slice_index_or, remove}
use Rattle.live_space.specs.Space.{IsOf}
use Rattle.test_lanes.proofs.lane.lanes_of.Goals as goal

-- what holds of all holds of the first
first_of : {A : Type 0} (P : A → Type 0) (xs : List A) (x : A) → All P xs → 0 < length xs → x ≡ slice_index_or xs 0 x → P x
first_of P xs x all lt is = subst P (sym is) (all 0 x lt)

-- and of all others
rest_of : {A : Type 0} (P : A → Type 0) (xs new : List A) → All P xs → new ≡ remove xs 0 → All P new
rest_of P [] new all e = subst (λ l. All P l) (sym e) (λ k d lt. absurd (omega (arith, lt)))
rest_of P (x ∷ xs) new all e = subst (λ l. All P l) (sym e) (λ k d lt. all (suc k) d (omega (arith, lt)))

pub new-requires : goal.new-requires
new-requires g c =
    first_of (λ s. IsOf c.args.live.now s) c.seats.seats.items _ c.seats.invariant.own (search (rules, arith)) c.remove-seat.ensures.value

pub seats-preserved : goal.seats-preserved
seats-preserved g c = record {
  own = rest_of (λ s. IsOf c.args.live.now s) c.seats.seats.items _ c.seats.invariant.own c.remove-seat.ensures.items;
}
