-- What a set of numbers with a summary keeps
use Rattle.std.proofs.Common.{◌≡◌, ◌≢◌, ℕ, ◌+◌, ◌-◌, ◌*◌, ◌/◌, ◌<◌, ◌≤◌, Bool, true, false, nat_lt, List, length, get_or, arith, refl, sym, ◌∙◌, ap}
use Rattle.std.proofs.Math.Path.{fun_ext}
use Rattle.std.proofs.lemmas.Bool.{true≢false, lt-ltb, ltb-false}
use Rattle.vm_base.specs.Functions.{put}
use Rattle.vm_base.proofs.Functions.{put_all, put_same}
use Rattle.frames.specs.Bits.{bit_in, count_below}
use Rattle.frames.specs.Parts.{IsCounted, IsSummed}
use Rattle.frames.proofs.BitSets.{bit_in-some, bit_in-none, bit_in-empty}
use Rattle.frames.proofs.Counting.{as_number, count-put, count-none}

-- a summary whose bit of one word is the word's test
summed-put : (words words' summary summary' : List ℕ) (w : ℕ) (b : Bool) → IsSummed words summary
    → ((v : ℕ) → v ≢ w → get_or words' v 0 ≡ get_or words v 0) → bit_in summary' ≡ put (bit_in summary) w b
    → b ≡ nat_lt 0 (get_or words' w 0) → IsSummed words' summary'
summed-put words words' summary summary' w b summed others change here v =
    ap (λ f. f v) change ∙ put_all (λ u x. x ≡ nat_lt 0 (get_or words' u 0)) (bit_in summary) w b here
    (λ u ne. summed u ∙ sym (ap (λ n. nat_lt 0 n) (others u ne))) v

-- the word of a new member is not 0
pub summed-insert : (words words' summary summary' : List ℕ) (k : ℕ) → IsSummed words summary → bit_in words' ≡ put (bit_in words) k true
    → ((v : ℕ) → v ≢ k / 64 → get_or words' v 0 ≡ get_or words v 0) → bit_in summary' ≡ put (bit_in summary) (k / 64) true
    → IsSummed words' summary'
summed-insert words words' summary summary' k summed change others sum_change =
    let member : bit_in words' k ≡ true = ap (λ f. f k) change ∙ put_same (bit_in words) k true in
    summed-put words words' summary summary' (k / 64) true summed others sum_change (sym (lt-ltb 0 (get_or words' (k / 64) 0) (bit_in-some words' k member)))

-- the word of a former member is 0
pub summed-none : (words words' summary summary' : List ℕ) (k : ℕ) → IsSummed words summary
    → ((v : ℕ) → v ≢ k / 64 → get_or words' v 0 ≡ get_or words v 0) → get_or words' (k / 64) 0 ≡ 0 → bit_in summary' ≡ put (bit_in summary)
    (k / 64) false → IsSummed words' summary'
summed-none words words' summary summary' k summed others none sum_change =
    summed-put words words' summary summary' (k / 64) false summed others sum_change (sym (ap (λ n. nat_lt 0 n) none))

put-same-value : (f : ℕ → Bool) (k : ℕ) (v : Bool) → f k ≡ v → f ≡ put f k v
put-same-value f k v e = sym (fun_ext (put_all (λ j x. x ≡ f j) f k v (sym e) (λ j ne. refl)))

-- it is not 0, and wasn't before
pub summed-some : (words words' summary : List ℕ) (k : ℕ) → IsSummed words summary → bit_in words k ≡ true
    → ((v : ℕ) → v ≢ k / 64 → get_or words' v 0 ≡ get_or words v 0) → 0 < get_or words' (k / 64) 0 → IsSummed words' summary
summed-some words words' summary k summed had others some =
    let was : bit_in summary (k / 64) ≡ true = summed (k / 64) ∙ lt-ltb 0 (get_or words (k / 64) 0) (bit_in-some words k had) in
    summed-put words words' summary summary (k / 64) true summed others (put-same-value (bit_in summary) (k / 64) true was)
    (sym (lt-ltb 0 (get_or words' (k / 64) 0) some))

-- no bit of the summary is set
pub summed-empty : (words summary : List ℕ) → IsSummed words summary → ((w : ℕ) → bit_in summary w ≡ false) → (k : ℕ) → bit_in words k ≡ false
summed-empty words summary summed empty k =
    let test : nat_lt 0 (get_or words (k / 64) 0) ≡ false = sym (summed (k / 64)) ∙ empty (k / 64) in
    let most : get_or words (k / 64) 0 ≤ 0 = ltb-false 0 (get_or words (k / 64) 0) test in
    bit_in-none words k (omega (arith, most))

-- one member more
pub inserted : (words words' summary summary' : List ℕ) (limit size k : ℕ) → IsCounted words summary limit size → bit_in words k ≡ false
    → k < limit → length words' ≡ length words → bit_in words' ≡ put (bit_in words) k true → IsSummed words' summary'
    → IsCounted words' summary' limit (size + 1)
inserted words words' summary summary' limit size k h new lt len change summed = record {
  room = rw len h.room;
  few = h.few;
  short = rw len h.short;
  below = λ j e. below_put j (sym (ap (λ f. f j) change) ∙ e);
  summed = summed;
  counted =
      let more : count_below (put (bit_in words) k true) limit + as_number (bit_in words k) ≡ count_below (bit_in words) limit + 1 =
      count-put (bit_in words) k true limit lt in
      let none : as_number (bit_in words k) ≡ 0 = ap as_number new in
      let was : size ≡ count_below (bit_in words) limit = h.counted in
      let now : count_below (bit_in words') limit ≡ count_below (put (bit_in words) k true) limit = ap (λ s. count_below s limit) change in
      omega (arith, more, none, was, now);
}
  where
    below_put : (j : ℕ) → put (bit_in words) k true j ≡ true → j < limit
    below_put = put_all (λ j v. v ≡ true → j < limit) (bit_in words) k true (λ e. lt) (λ j ne. h.below j)

-- the count of a set with a member less
pub smaller : (words : List ℕ) (limit k : ℕ) → bit_in words k ≡ true → k < limit
    → count_below (put (bit_in words) k false) limit + 1 ≡ count_below (bit_in words) limit
smaller words limit k had lt =
    let less : count_below (put (bit_in words) k false) limit + as_number (bit_in words k) ≡ count_below (bit_in words) limit + 0 =
    count-put (bit_in words) k false limit lt in
    let one : as_number (bit_in words k) ≡ 1 = ap as_number had in
    omega (arith, less, one)

-- one member less
pub removed : (words words' summary summary' : List ℕ) (limit size k : ℕ) → IsCounted words summary limit size → bit_in words k ≡ true
    → length words' ≡ length words → bit_in words' ≡ put (bit_in words) k false → IsSummed words' summary'
    → IsCounted words' summary' limit (size - 1)
removed words words' summary summary' limit size k h had len change summed = record {
  room = rw len h.room;
  few = h.few;
  short = rw len h.short;
  below = λ j e. below_put j (sym (ap (λ f. f j) change) ∙ e);
  summed = summed;
  counted =
      let fewer : count_below (put (bit_in words) k false) limit + 1 ≡ count_below (bit_in words) limit = smaller words limit k had (h.below k had) in
      let was : size ≡ count_below (bit_in words) limit = h.counted in
      let now : count_below (bit_in words') limit ≡ count_below (put (bit_in words) k false) limit = ap (λ s. count_below s limit) change in
      omega (arith, fewer, was, now);
}
  where
    below_put : (j : ℕ) → put (bit_in words) k false j ≡ true → j < limit
    below_put = put_all (λ j v. v ≡ true → j < limit) (bit_in words) k false (λ e. absurd (true≢false (sym e))) (λ j ne. h.below j)

-- a set with a member is not empty
pub counted-some : (words summary : List ℕ) (limit size k : ℕ) → IsCounted words summary limit size → bit_in words k ≡ true → 1 ≤ size
counted-some words summary limit size k h had =
    let fewer : count_below (put (bit_in words) k false) limit + 1 ≡ count_below (bit_in words) limit = smaller words limit k had (h.below k had) in
    let was : size ≡ count_below (bit_in words) limit = h.counted in
    omega (arith, fewer, was)

-- no member
pub nothing : (words summary : List ℕ) (limit : ℕ) → limit ≤ 65536 → length words ≤ 1024 → limit ≤ length words * 64
    → ((w : ℕ) → get_or words w 0 ≡ 0) → ((w : ℕ) → get_or summary w 0 ≡ 0) → IsCounted words summary limit 0
nothing words summary limit few short room none sum_none = record {
  room = room;
  few = few;
  short = short;
  below = λ k e. absurd (true≢false (sym e ∙ ap (λ f. f k) (bit_in-empty words none)));
  summed = λ w. ap (λ f. f w) (bit_in-empty summary sum_none) ∙ sym (ap (λ n. nat_lt 0 n) (none w));
  counted = sym (ap (λ s. count_below s limit) (bit_in-empty words none) ∙ count-none limit);
}
