-- Where lanes begin
use Rattle.std.proofs.Common.{◌≡◌, ℕ, zero, suc, ◌+◌, ◌*◌, ◌<◌, ◌≤◌, ◌⊎◌, inl, inr, Bool, true, false, List, [], ◌∷◌, ◌++◌, arith, length, length-append, refl, sym, ap, ◌∙◌, slice_index_or, if◌then◌else◌, min}
use Rattle.draw_lives.specs.Histories.{SceneView, first_tops, is_busy, lane_top, lit_of, worded_of}

at_front : (xs : List ℕ) (y n : ℕ) → n < length xs → slice_index_or (xs ++ y ∷ []) n 0 ≡ slice_index_or xs n 0
at_front [] y n h = absurd (omega (arith, h))
at_front (x ∷ xs) y zero h = refl
at_front (x ∷ xs) y (suc n) h = at_front xs y n (omega (arith, h))

at_end : (xs : List ℕ) (y n : ℕ) → n ≡ length xs → slice_index_or (xs ++ y ∷ []) n 0 ≡ y
at_end [] y zero h = refl
at_end [] y (suc n) h = absurd (omega (arith, h))
at_end (x ∷ xs) y zero h = absurd (omega (arith, h))
at_end (x ∷ xs) y (suc n) h = at_end xs y n (omega (arith, h))

pub tops_length : (s : SceneView) (n : ℕ) → length (first_tops s n) ≡ n
unfolding first_tops
tops_length s zero = refl
tops_length s (suc n) = length-append (first_tops s n) (lane_top s n ∷ []) ∙ omega (arith, tops_length s n)

split : (n k : ℕ) → n < suc k → (n < k) ⊎ (n ≡ k)
split n k h = grind (arith, h)

pub top_in : (s : SceneView) (n core : ℕ) → core < n → slice_index_or (first_tops s n) core 0 ≡ lane_top s core
unfolding first_tops
top_in s zero core h = absurd (omega (arith, h))
top_in s (suc n) core h = go (split core n h) (λ less. top_in s n core less)
  where
    go : (core < n) ⊎ (core ≡ n) → (core < n → slice_index_or (first_tops s n) core 0 ≡ lane_top s core) → slice_index_or (first_tops s n ++ lane_top s n ∷ []) core 0 ≡ lane_top s core
    go (inl less) lower = at_front (first_tops s n) (lane_top s n) core (omega (arith, less, tops_length s n)) ∙ lower less
    go (inr is) lower = at_end (first_tops s n) (lane_top s n) core (is ∙ sym (tops_length s n)) ∙ ap (lane_top s) (sym is)

few_words : (b : Bool) (n : ℕ) → (if b then min n 60 else 0) ≤ 60
few_words true n = omega arith
few_words false n = omega arith

low_lane : (b : Bool) (n : ℕ) → n ≤ 60 → (if b then 20 + 18 * n else 0) ≤ 1100
low_lane true n h = omega (arith, h)
low_lane false n h = omega arith

pub top_low : (s : SceneView) (core : ℕ) → lane_top s core ≤ 48 + 1100 * core
unfolding lane_top
top_low s zero = omega arith
top_low s (suc core) = omega (arith, top_low s core, low_lane (is_busy core s.calls) (worded_of s core) (few_words s.worded (lit_of s.listed core s.calls)))
