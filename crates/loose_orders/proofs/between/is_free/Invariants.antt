use Rattle.std.proofs.Common.{ℕ, ◌<◌}
use Rattle.loose_orders.proofs.BetweenLemmas.{Free, Lasts}
use Rattle.loose_orders.proofs.between.is_free.Given as goal

-- none so far was refused that binds the access, and nothing so far had ended before this time
abbrev pub invariant-between : goal.invariant-between
invariant-between l = record {
  free : (x : ℕ) → l.place < x → x < l.at → Free l.history l.moves l.place l.page l.call x;
  lasts : (e : ℕ) → e < l.at → Lasts l.history l.moves l.place l.ended e;
}
