-- The free frames as bits in words: what a change of one leaves, and which bit is found first
use Rattle.std.proofs.Common.{◌≡◌, ◌≢◌, ℕ, ◌+◌, ◌-◌, ◌*◌, ◌/◌, ◌%◌, ◌<◌, ◌≤◌, ◌^◌, Bool, true, false, ◌==◌, ◌&&◌, not, nat_lt, ◌⊎◌, inl, inr}
use Rattle.std.proofs.Common.{List, length, get_or, arith, refl, subst, sym, ap, ◌∙◌, w64}
use Rattle.std.specs.Int.{bit_at, trailing_zeros}
use Rattle.std.proofs.lemmas.Bool.{cases_lt, true≢false, lt-ltb, le-ltb}
use Rattle.std.proofs.lemmas.List.{get_or_past}
use Rattle.std.proofs.lemmas.Nat.{shr-shr}
use Rattle.std.proofs.lemmas.Nat.Bits.{bit_at_above, bit_at-trailing_zeros, bit_at-zero}
use Rattle.vm_base.specs.Functions.{put}
use Rattle.vm_base.specs.Cores.{members}
use Rattle.vm_base.proofs.Functions.{put_all}
use Rattle.frames.specs.Bits.{bit_in, count_below}
use Rattle.frames.proofs.BitSets.{bit_in-is, bit_in-none}
use Rattle.frames.proofs.Counted.{smaller}
use Rattle.frames.proofs.Counting.{as_number, count-put, count-none}
use Rattle.live_pages.specs.Free.{FreeView, IsCounted, IsFirstFrom, IsInWord, Gives, GivesOne, free_frames}

-- no frame is free yet
pub none_free : (words : List ℕ) (frames : ℕ) → frames ≤ 65536 → length words ≤ 1024 → frames ≤ length words * 64 → bit_in words ≡ (λ k. false)
    → IsCounted words frames 0
none_free words frames few short room none = record {
  room = room;
  few = few;
  short = short;
  below = λ k e. absurd (true≢false (sym e ∙ ap (λ s. s k) none));
  counted = sym (ap (λ s. count_below s frames) none ∙ count-none frames);
}

-- one frame more is free
pub one_more_free : (words words' : List ℕ) (frames count k : ℕ) → IsCounted words frames count → bit_in words k ≡ false → k < frames
    → length words' ≡ length words → bit_in words' ≡ put (bit_in words) k true → IsCounted words' frames (count + 1)
one_more_free words words' frames count k h new lt len change = record {
  room = rw len h.room;
  few = h.few;
  short = rw len h.short;
  below = λ j e. below_put j (sym (ap (λ f. f j) change) ∙ e);
  counted =
      let more : count_below (put (bit_in words) k true) frames + as_number (bit_in words k) ≡ count_below (bit_in words) frames + 1 =
      count-put (bit_in words) k true frames lt in
      let none : as_number (bit_in words k) ≡ 0 = ap as_number new in
      let was : count ≡ count_below (bit_in words) frames = h.counted in
      let now : count_below (bit_in words') frames ≡ count_below (put (bit_in words) k true) frames = ap (λ s. count_below s frames) change in
      omega (arith, more, none, was, now);
}
  where
    below_put : (j : ℕ) → put (bit_in words) k true j ≡ true → j < frames
    below_put = put_all (λ j v. v ≡ true → j < frames) (bit_in words) k true (λ e. lt) (λ j ne. h.below j)

-- one frame fewer is free
pub one_fewer_free : (words words' : List ℕ) (frames count k : ℕ) → IsCounted words frames count → bit_in words k ≡ true
    → length words' ≡ length words → bit_in words' ≡ put (bit_in words) k false → IsCounted words' frames (count - 1)
one_fewer_free words words' frames count k h had len change = record {
  room = rw len h.room;
  few = h.few;
  short = rw len h.short;
  below = λ j e. below_put j (sym (ap (λ f. f j) change) ∙ e);
  counted =
      let fewer : count_below (put (bit_in words) k false) frames + 1 ≡ count_below (bit_in words) frames = smaller words frames k had (h.below k had) in
      let was : count ≡ count_below (bit_in words) frames = h.counted in
      let now : count_below (bit_in words') frames ≡ count_below (put (bit_in words) k false) frames = ap (λ s. count_below s frames) change in
      omega (arith, fewer, was, now);
}
  where
    below_put : (j : ℕ) → put (bit_in words) k false j ≡ true → j < frames
    below_put = put_all (λ j v. v ≡ true → j < frames) (bit_in words) k false (λ e. absurd (true≢false (sym e))) (λ j ne. h.below j)

-- where a frame is free, one is counted
pub some_free : (words : List ℕ) (frames count k : ℕ) → IsCounted words frames count → bit_in words k ≡ true → 1 ≤ count
some_free words frames count k h had =
    let fewer : count_below (put (bit_in words) k false) frames + 1 ≡ count_below (bit_in words) frames = smaller words frames k had (h.below k had) in
    let was : count ≡ count_below (bit_in words) frames = h.counted in
    omega (arith, fewer, was)

-- where none is counted, none is free
pub none_counted : (words : List ℕ) (frames count : ℕ) → IsCounted words frames count → count ≡ 0 → (k : ℕ) → bit_in words k ≡ false
none_counted words frames count h none k = by (bit_in words k) refl
  where
    by : (b : Bool) → bit_in words k ≡ b → bit_in words k ≡ false
    by true e = let some = some_free words frames count k h e in absurd (omega (arith, some, none))
    by false e = e

-- ---- what giving a frame back does

pub gives_one : (f : ℕ) (v w : FreeView) → f < v.frames → free_frames v f ≡ false → GivesOne f v w → Gives f v w
gives_one f v w lt taken h =
    let test : (nat_lt f v.frames && not (free_frames v f)) ≡ true = ap (λ b. b && not (free_frames v f)) (lt-ltb f v.frames lt) ∙ ap not taken in
    rw test h

pub gives_none : (f : ℕ) (v : FreeView) → free_frames v f ≡ true → Gives f v v
gives_none f v free =
    let test : (nat_lt f v.frames && not (free_frames v f)) ≡ false = ap (λ b. nat_lt f v.frames && not b) free ∙ no_and (nat_lt f v.frames) in
    rw test refl
  where
    no_and : (b : Bool) → (b && false) ≡ false
    no_and true = refl
    no_and false = refl

pub gives_past : (f : ℕ) (v : FreeView) → v.frames ≤ f → Gives f v v
gives_past f v le =
    let test : (nat_lt f v.frames && not (free_frames v f)) ≡ false = ap (λ b. b && not (free_frames v f)) (le-ltb f v.frames le) in
    rw test refl

-- ---- the first bit in a word

-- bit i of a word that is shifted
shifted : (n b i : ℕ) → bit_at (n / 2 ^ b) i ≡ bit_at n (b + i)
shifted n b i = ap (λ x. x % 2) (shr-shr n b i)

-- a set bit is below 64
within : (n i : ℕ) → n < 2 ^ 64 → bit_at n i ≡ 1 → i < 64
within n i fits one = by (cases_lt i 64)
  where
    by : (i < 64) ⊎ (64 ≤ i) → i < 64
    by (inl lt) = lt
    by (inr le) = let none : bit_at n i ≡ 0 = bit_at_above n 64 i fits le in absurd (omega (arith, none, one))

less_than : (a n : ℕ) → n < 2 ^ 64 → n / 2 ^ a < 2 ^ 64
less_than a n fits = let less : n / 2 ^ a ≤ n = omega arith in omega (arith, less, fits)

module _ (words : List ℕ) (at bit : ℕ) (fits : get_or words at 0 < 2 ^ 64) where
  -- bit k of the word, from the bit of this number on
  at_shifted : (k : ℕ) → IsInWord at k → at * 64 + bit ≤ k → bit_in words k ≡ (bit_at (get_or words at 0 / 2 ^ bit) (k - (at * 64 + bit)) == 1)
  at_shifted k is le =
      let place : k % 64 ≡ bit + (k - (at * 64 + bit)) = omega (arith, is, le) in
      bit_in-is words k
      ∙ (ap (λ w. members (get_or words w 0) (k % 64)) is
      ∙ (ap (members (get_or words at 0)) place
      ∙ sym (ap (λ n. n == 1) (shifted (get_or words at 0) bit (k - (at * 64 + bit))))))

  -- where nothing is left of the word
  pub none_in : get_or words at 0 / 2 ^ bit ≡ 0 → (k : ℕ) → IsInWord at k → at * 64 + bit ≤ k → bit_in words k ≡ false
  none_in none k is le = at_shifted k is le
      ∙ (ap (λ n. bit_at n (k - (at * 64 + bit)) == 1) none ∙ ap (λ n. n == 1) (bit_at-zero (k - (at * 64 + bit))))

  -- where something is left, its lowest bit
  module _ (some : 0 < get_or words at 0 / 2 ^ bit) where
    abbrev lowest : ℕ
    lowest = trailing_zeros w64 (get_or words at 0 / 2 ^ bit)

    rest_fits : get_or words at 0 / 2 ^ bit < 2 ^ 64
    rest_fits = less_than bit (get_or words at 0) fits

    pub low : bit + trailing_zeros w64 (get_or words at 0 / 2 ^ bit) < 64
    low = within (get_or words at 0) (bit + lowest) fits
        (sym (shifted (get_or words at 0) bit lowest) ∙ (bit_at-trailing_zeros w64 (get_or words at 0 / 2 ^ bit) some rest_fits).1)

    pub in_word : IsInWord at (at * 64 + bit + trailing_zeros w64 (get_or words at 0 / 2 ^ bit))
    in_word = omega (arith, low)

    pub first_there : IsFirstFrom (bit_in words) (at * 64 + bit) (at * 64 + bit + trailing_zeros w64 (get_or words at 0 / 2 ^ bit))
    first_there = record {
      above = omega arith;
      member =
          let rest : at * 64 + bit + lowest - (at * 64 + bit) ≡ lowest = omega arith in
          at_shifted (at * 64 + bit + lowest) in_word (omega arith)
          ∙ (ap (λ i. bit_at (get_or words at 0 / 2 ^ bit) i == 1) rest
          ∙ ap (λ n. n == 1) (bit_at-trailing_zeros w64 (get_or words at 0 / 2 ^ bit) some rest_fits).1);
      least = λ j le lt.
          let is : IsInWord at j = omega (arith, low, le, lt) in
          let less : j - (at * 64 + bit) < lowest = omega (arith, le, lt) in
          at_shifted j is le ∙ ap (λ n. n == 1) ((bit_at-trailing_zeros w64 (get_or words at 0 / 2 ^ bit) some rest_fits).2 (j - (at * 64 + bit)) less);
    }

-- there is no such word
pub none_past : (words : List ℕ) (at : ℕ) → length words ≤ at → (k : ℕ) → IsInWord at k → bit_in words k ≡ false
none_past words at past k is = bit_in-none words k (ap (λ w. get_or words w 0) is ∙ get_or_past words at 0 past)

-- ---- the words one after another

-- where no bit before the word is set from this one on, the first of the word is the first
pub first_later : (s : ℕ → Bool) (from at k : ℕ) → from ≤ at * 64 → ((j : ℕ) → from ≤ j → j < at * 64 → s j ≡ false) → IsFirstFrom s (at * 64 + 0) k
    → IsFirstFrom s from k
first_later s from at k le none h = record {
  above = let start = h.above in omega (arith, le, start);
  member = h.member;
  least = λ j up lt. by j up lt (cases_lt j (at * 64));
}
  where
    by : (j : ℕ) → from ≤ j → j < k → (j < at * 64) ⊎ (at * 64 ≤ j) → s j ≡ false
    by j up lt (inl less) = none j up less
    by j up lt (inr more) = h.least j (omega (arith, more)) lt

-- one word more has none
pub none_up_to : (s : ℕ → Bool) (from at : ℕ) → ((j : ℕ) → from ≤ j → j < at * 64 → s j ≡ false)
    → ((j : ℕ) → IsInWord at j → at * 64 + 0 ≤ j → s j ≡ false) → (j : ℕ) → from ≤ j → j < (at + 1) * 64 → s j ≡ false
none_up_to s from at before here j up lt = by (cases_lt j (at * 64))
  where
    by : (j < at * 64) ⊎ (at * 64 ≤ j) → s j ≡ false
    by (inl less) = before j up less
    by (inr more) = let is : IsInWord at j = omega (arith, more, lt) in here j is (omega (arith, more))

-- the first bit of a word that is read, where something is left of it
pub first_in_word : (words : List ℕ) (at bit w : ℕ) → get_or words at 0 < 2 ^ 64 → get_or words at 0 ≡ w → w / 2 ^ bit ≢ 0
    → IsInWord at (at * 64 + bit + trailing_zeros w64 (w / 2 ^ bit))
    × IsFirstFrom (bit_in words) (at * 64 + bit) (at * 64 + bit + trailing_zeros w64 (w / 2 ^ bit))
first_in_word words at bit w fits is ne = subst (λ v. IsInWord at (at * 64 + bit + trailing_zeros w64 (v / 2 ^ bit))
    × IsFirstFrom (bit_in words) (at * 64 + bit) (at * 64 + bit + trailing_zeros w64 (v / 2 ^ bit))) is
    (let left : get_or words at 0 / 2 ^ bit ≢ 0 = subst (λ v. v / 2 ^ bit ≢ 0) (sym is) ne in
    let some : 0 < get_or words at 0 / 2 ^ bit = omega (arith, left) in
    (in_word words at bit fits some, first_there words at bit fits some))

-- behind the last word there is none
pub none_behind : (words : List ℕ) (from at : ℕ) → length words ≤ at → ((k : ℕ) → from ≤ k → k < at * 64 → bit_in words k ≡ false)
    → (k : ℕ) → from ≤ k → bit_in words k ≡ false
none_behind words from at past before k up = by (cases_lt k (at * 64))
  where
    by : (k < at * 64) ⊎ (at * 64 ≤ k) → bit_in words k ≡ false
    by (inl less) = before k up less
    by (inr more) = none_past words (k / 64) (omega (arith, past, more)) k refl
