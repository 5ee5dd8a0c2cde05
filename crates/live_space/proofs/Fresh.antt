-- A fact of each seat and its number, where there is one seat more.
use Rattle.std.proofs.Common.{◌≡◌, ℕ, zero, suc, ◌+◌, ◌<◌, List, [], ◌∷◌, ◌++◌, length, get_or, arith, subst, sym}
use Rattle.std.proofs.lemmas.List.{length_push}
use Rattle.std.specs.Prelude.{sum_by}
use Rattle.atomic_table.specs.Seated.{TableId}
use Rattle.seats.specs.Gathered.{AreAll}
use Rattle.seats.specs.Notes.{SeatView}
use Rattle.live_space.specs.Space.{AreFresh, IsFresh}

pub each_push : (P : ℕ → SeatView → Type 0) (xs : List SeatView) (x : SeatView) → ((k : ℕ) (d : SeatView) → k < length xs → P k (get_or xs k d))
    → P (length xs) x → (k : ℕ) (d : SeatView) → k < length xs + 1 → P k (get_or (xs ++ x ∷ []) k d)
each_push P [] x h last zero d lt = last
each_push P [] x h last (suc k) d lt = absurd (omega arith)
each_push P (y ∷ ys) x h last zero d lt = h zero d (omega arith)
each_push P (y ∷ ys) x h last (suc k) d lt = each_push (λ j s. P (suc j) s) ys x (λ j e less. h (suc j) e (omega arith)) last k d (omega arith)

pub fresh_push : (w : TableId) (n : ℕ) (ss : List SeatView) (s : SeatView) → AreFresh w n ss → IsFresh w n s → AreFresh w (n + 1) (ss ++ s ∷ [])
fresh_push w n ss s h new = record {
  count = omega (arith, length_push ss s, h.count);
  each = λ k d lt. each_push (λ j t. IsFresh w j t) ss s (λ j e less. h.each j e (omega (arith, h.count)))
      (subst (λ (m : ℕ). IsFresh w m s) (sym h.count) new) k d (omega (arith, h.count));
}

-- with the last one they are all seats of the word
pub all_push : (w : TableId) (n : ℕ) (ss : List SeatView) (s : SeatView) → AreFresh w n ss → s.word ≡ w
    → sum_by (λ (x : SeatView). x.spare + 1) (ss ++ s ∷ []) ≡ 64 → AreAll w (ss ++ s ∷ [])
all_push w n ss s h word sum = record {
  own = λ k d lt. each_push (λ j t. t.word ≡ w) ss s (λ j e less. (h.each j e (omega (arith, less, h.count))).word) word k d
      (omega (arith, lt, length_push ss s));
  all = sum;
}
