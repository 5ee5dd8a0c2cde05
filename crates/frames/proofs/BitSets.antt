-- Sets of numbers as bits in words
use Rattle.std.proofs.Common.{◌≡◌, ◌≢◌, ℕ, ◌+◌, ◌*◌, ◌/◌, ◌%◌, ◌<◌, ◌≤◌, ◌^◌, Bool, true, false, ◌==◌, ◌⊎◌, inl, inr, List, length, get_or}
use Rattle.std.proofs.Common.{set, replicate, arith, refl, sym, ◌∙◌, ap, w64}
use Rattle.std.proofs.Math.Path.{fun_ext}
use Rattle.std.specs.Int.{bit_not, trailing_zeros}
use Rattle.std.specs.Int.RustNames.{bit_or}
use lib.Bits.{bit_and}
use Rattle.std.proofs.lemmas.Bool.{cases_lt, cases_eq, true≢false}
use Rattle.std.proofs.lemmas.List.{get_or-set_same, get_or-set_other, get_or-replicate, get_or_past, length-replicate}
use Rattle.std.proofs.lemmas.Nat.Bits.{shr_and_one, bit_at-zero, bit_at-trailing_zeros}
use Rattle.vm_base.specs.Functions.{put}
use Rattle.vm_base.specs.Cores.{members}
use Rattle.vm_base.proofs.Functions.{put_all, put_same, put_other}
use Rattle.vm_base.proofs.CoreSets.{members-set, members-clear, members-least, members-below}
use Rattle.frames.specs.Bits.{bit_in}

pub bit_in-is : (words : List ℕ) (k : ℕ) → bit_in words k ≡ members (get_or words (k / 64) 0) (k % 64)
unfolding bit_in
bit_in-is words k = refl

-- the test of a bit
pub bit_in-read : (words : List ℕ) (k : ℕ) → (bit_and (get_or words (k / 64) 0 / 2 ^ (k % 64)) 1 == 1) ≡ bit_in words k
bit_in-read words k = ap (λ n. n == 1) (shr_and_one (get_or words (k / 64) 0) (k % 64)) ∙ sym (bit_in-is words k)

-- bit i of word w
pub bit_in-at : (words : List ℕ) (w i : ℕ) → i < 64 → bit_in words (w * 64 + i) ≡ members (get_or words w 0) i
bit_in-at words w i lt =
    let word : (w * 64 + i) / 64 ≡ w = omega arith in
    let place : (w * 64 + i) % 64 ≡ i = omega arith in
    bit_in-is words (w * 64 + i) ∙ (ap (λ n. members (get_or words n 0) ((w * 64 + i) % 64)) word ∙ ap (members (get_or words w 0)) place)

-- a word that is 0 has no member
pub bit_in-none : (words : List ℕ) (k : ℕ) → get_or words (k / 64) 0 ≡ 0 → bit_in words k ≡ false
bit_in-none words k e = bit_in-is words k ∙ (ap (λ n. members n (k % 64)) e ∙ ap (λ n. n == 1) (bit_at-zero (k % 64)))

pub bit_in-some : (words : List ℕ) (k : ℕ) → bit_in words k ≡ true → 0 < get_or words (k / 64) 0
bit_in-some words k e = by (cases_lt 0 (get_or words (k / 64) 0))
  where
    by : (0 < get_or words (k / 64) 0) ⊎ (get_or words (k / 64) 0 ≤ 0) → 0 < get_or words (k / 64) 0
    by (inl lt) = lt
    by (inr le) =
        let none : get_or words (k / 64) 0 ≡ 0 = omega arith in
        absurd (true≢false (sym e ∙ bit_in-none words k none))

same_word : (words : List ℕ) (k j : ℕ) → j / 64 ≡ k / 64 → bit_in words j ≡ members (get_or words (k / 64) 0) (j % 64)
same_word words k j e = bit_in-is words j ∙ ap (λ n. members (get_or words n 0) (j % 64)) e

-- a write of one word that changes one bit
pub bit_in-put : (words : List ℕ) (k x : ℕ) (b : Bool) → k < length words * 64 → members x ≡ put (members (get_or words (k / 64) 0))
    (k % 64) b → bit_in (set words (k / 64) x) ≡ put (bit_in words) k b
bit_in-put words k x b lt e = fun_ext (put_all (λ j v. bit_in (set words (k / 64) x) j ≡ v) (bit_in words) k b here there)
  where
    written : get_or (set words (k / 64) x) (k / 64) 0 ≡ x
    written = get_or-set_same words (k / 64) x 0 (omega arith)

    here : bit_in (set words (k / 64) x) k ≡ b
    here = bit_in-is (set words (k / 64) x) k
        ∙ (ap (λ w. members w (k % 64)) written ∙ (ap (λ f. f (k % 64)) e ∙ put_same (members (get_or words (k / 64) 0)) (k % 64) b))

    by : (j : ℕ) → j ≢ k → (j / 64 ≡ k / 64) ⊎ (j / 64 ≡ k / 64 → ⊥) → bit_in (set words (k / 64) x) j ≡ bit_in words j
    by j ne (inl same) =
        let apart : j % 64 ≢ k % 64 = omega arith in
        same_word (set words (k / 64) x) k j same
        ∙ (ap (λ w. members w (j % 64)) written
        ∙ (ap (λ f. f (j % 64)) e ∙ (put_other (members (get_or words (k / 64) 0)) (k % 64) b (j % 64) apart
        ∙ sym (same_word words k j same))))
    by j ne (inr other) = bit_in-is (set words (k / 64) x) j
        ∙ (ap (λ w. members w (j % 64)) (get_or-set_other words (k / 64) (j / 64) x 0 other) ∙ sym (bit_in-is words j))

    there : (j : ℕ) → j ≢ k → bit_in (set words (k / 64) x) j ≡ bit_in words j
    there j ne = by j ne (cases_eq (j / 64) (k / 64))

pub bit_in-insert : (words : List ℕ) (k : ℕ) → k < length words * 64
    → bit_in (set words (k / 64) (bit_or (get_or words (k / 64) 0) (1 * 2 ^ (k % 64) % 2 ^ 64))) ≡ put (bit_in words) k true
bit_in-insert words k lt = bit_in-put words k _ true lt (members-set (get_or words (k / 64) 0) (k % 64) (omega arith))

pub bit_in-remove : (words : List ℕ) (k : ℕ) → k < length words * 64 → get_or words (k / 64) 0 < 2 ^ 64
    → bit_in (set words (k / 64) (bit_and (get_or words (k / 64) 0) (bit_not w64 (1 * 2 ^ (k % 64) % 2 ^ 64)))) ≡ put (bit_in words) k false
bit_in-remove words k lt fits = bit_in-put words k _ false lt (members-clear (get_or words (k / 64) 0) (k % 64) fits (omega arith))

-- the least member, in the first word that is not 0
pub lowest_place : (n : ℕ) → 0 < n → n < 2 ^ 64 → trailing_zeros w64 n < 64
lowest_place n some fits = (bit_at-trailing_zeros w64 n some fits).0

pub lowest_member : (words : List ℕ) (w : ℕ) → 0 < get_or words w 0 → get_or words w 0 < 2 ^ 64
    → bit_in words (w * 64 + trailing_zeros w64 (get_or words w 0)) ≡ true
lowest_member words w some fits = bit_in-at words w (trailing_zeros w64 (get_or words w 0)) (lowest_place (get_or words w 0) some fits)
    ∙ members-least (get_or words w 0) some fits

pub lowest_least : (words : List ℕ) (w : ℕ) → 0 < get_or words w 0 → get_or words w 0 < 2 ^ 64 → ((v : ℕ) → v < w → get_or words v 0 ≡ 0)
    → (k : ℕ) → k < w * 64 + trailing_zeros w64 (get_or words w 0) → bit_in words k ≡ false
lowest_least words w some fits first k lt = by (cases_lt (k / 64) w)
  where
    by : (k / 64 < w) ⊎ (w ≤ k / 64) → bit_in words k ≡ false
    by (inl less) = bit_in-none words k (first (k / 64) less)
    by (inr more) =
        let place : trailing_zeros w64 (get_or words w 0) < 64 = lowest_place (get_or words w 0) some fits in
        let word : k / 64 ≡ w = omega arith in
        let under : k % 64 < trailing_zeros w64 (get_or words w 0) = omega arith in
        bit_in-is words k ∙ (ap (λ n. members (get_or words n 0) (k % 64)) word ∙ members-below (get_or words w 0) some fits (k % 64) under)

-- words that are 0
pub bit_in-empty : (words : List ℕ) → ((w : ℕ) → get_or words w 0 ≡ 0) → bit_in words ≡ (λ k. false)
bit_in-empty words none = fun_ext (λ k. bit_in-none words k (none (k / 64)))

pub zero_words : (n w : ℕ) → get_or (replicate {A = ℕ} n 0) w 0 ≡ 0
zero_words n w = by (cases_lt w n)
  where
    by : (w < n) ⊎ (n ≤ w) → get_or (replicate {A = ℕ} n 0) w 0 ≡ 0
    by (inl lt) = get_or-replicate n w 0 0 lt
    by (inr le) =
        let len : length (replicate {A = ℕ} n 0) ≡ n = length-replicate n 0 in
        get_or_past (replicate {A = ℕ} n 0) w 0 (omega (arith, len, le))

-- a word that is not 0 is in the list
pub word_within : (words : List ℕ) (w : ℕ) → 0 < get_or words w 0 → w < length words
word_within words w some = by (cases_lt w (length words))
  where
    by : (w < length words) ⊎ (length words ≤ w) → w < length words
    by (inl lt) = lt
    by (inr le) = let none : get_or words w 0 ≡ 0 = get_or_past words w 0 le in absurd (omega (arith, none, some))

-- the words that are there are 0
pub bit_in-all_zero : (words : List ℕ) → ((w : ℕ) → w < length words → get_or words w 0 ≡ 0) → (k : ℕ) → bit_in words k ≡ false
bit_in-all_zero words none k = bit_in-none words k (by (cases_lt (k / 64) (length words)))
  where
    by : (k / 64 < length words) ⊎ (length words ≤ k / 64) → get_or words (k / 64) 0 ≡ 0
    by (inl lt) = none (k / 64) lt
    by (inr le) = get_or_past words (k / 64) 0 le
