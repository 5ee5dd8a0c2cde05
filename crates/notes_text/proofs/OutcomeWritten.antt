-- The text of an outcome names it.
use Rattle.machine_model.proofs.Words.{◌≡◌, ◌≢◌, inl, inr, ℕ, zero, suc, ◌+◌, ◌-◌, ◌^◌, ◌<◌, ◌≤◌, Bool, true, false, cond, eqb, ltb, List, [], ◌∷◌, ◌++◌}
use Rattle.machine_model.proofs.Words.{subst, codes, decimal, map, arith, refl, sym, ap, ◌∙◌, cases_lt, or_right, nat_tests, filter, range_with_len, members}
use Rattle.machine_model.proofs.Words.{with_member, EINVAL, MapErr, Reply, Mapped, Byte, Refused, Segv}
use Rattle.std.proofs.Common.{◌&&◌, ◌||◌}
use Rattle.std.proofs.lemmas.Bool.{cases_eq}
use Rattle.std.proofs.lemmas.Nat.Bits.{bit_at-zero, bit_at-pow_same, bit_at-pow_other, bit_at_above}
use Rattle.std.specs.Prelude.{flat_map}
use Rattle.vm_base.proofs.CoreSets.{members-or, members-same}
use Rattle.trace_text.specs.Words.{words_of}
use Rattle.trace_text.specs.Printing.{hexadecimal, text_of, core_text, cores_text}
use Rattle.trace_text.proofs.SpellingLemmas.{decimal_is, hexadecimal_is}
use Rattle.trace_words.specs.Written.{spaced}
use Rattle.notes_text.specs.Grammar.{NamesReply, NamesAcks, Ascend, with_cores}
use Rattle.seats.specs.Fitting.{FitsReply}
use Rattle.trace_text.proofs.WordLemmas.{words_join}
use Rattle.notes_text.proofs.WrittenLemmas.{AreWords, address_word, decimal_word, words_spaced}

-- ---- replies

pub replies_written : (reply : Reply) → FitsReply reply → NamesReply reply (words_of (text_of reply))
replies_written (Mapped a) h = (hexadecimal a, address_word a h, hexadecimal_is a, h)
replies_written (Byte b) h = let low : b < 2 ^ 64 = omega (arith, h) in (decimal b, decimal_word b low, decimal_is b low, h)
replies_written (Refused EINVAL) h = refl
replies_written (Segv MapErr) h = refl
replies_written r h = refl

-- ---- cores that are waited for

-- those of the set among n cores from one on
among : ℕ → ℕ → ℕ → List ℕ
among set from n = filter (members set) (range_with_len from n)

ascending : (set n from least : ℕ) → least ≤ from → from + n ≤ 64 → Ascend least (among set from n)
unfolding among
ascending set zero from least low high = tt
ascending set (suc n) from least low high = go (λ l h. ascending set n (from + 1) l h (omega (arith, high))) (members set from)
  where
    go : ((l : ℕ) → l ≤ from + 1 → Ascend l (filter (members set) (range_with_len (from + 1) n)))
        → (b : Bool) → Ascend least (cond b (from ∷ filter (members set) (range_with_len (from + 1) n)) (filter (members set) (range_with_len (from + 1) n)))
    go rest true = (low, omega (arith, high), rest (suc from) (omega arith))
    go rest false = rest least (omega (arith, low))

-- s has the members of the set that are below a core
Below : ℕ → ℕ → ℕ → Type 0
Below set s from = (k : ℕ) → members s k ≡ ltb k from && members set k

pub power_same : (k : ℕ) → members (2 ^ k) k ≡ true
power_same k = ap (λ n. eqb n 1) (bit_at-pow_same k)

power_other : (k i : ℕ) → i ≢ k → members (2 ^ k) i ≡ false
power_other k i h = ap (λ n. eqb n 1) (bit_at-pow_other k i h)

pub with_one : (s c k : ℕ) → members (with_member s c) k ≡ members s k || members (2 ^ c) k
with_one s c k = ap (λ f. f k) (members-or s (2 ^ c))

false_or : (a b : Bool) → b ≡ false → a || b ≡ a
false_or true b e = refl
false_or false b e = e

below_with : (set s from : ℕ) → members set from ≡ true → Below set s from → Below set (with_member s from) (from + 1)
unfolding Below
below_with set s from is old k = with_one s from k ∙ go
  where
    go : members s k || members (2 ^ from) k ≡ ltb k (from + 1) && members set k
    go = elim (cases_eq k from) [
      | inl e ↦
          let one : members (2 ^ from) k ≡ true = ap (members (2 ^ from)) e ∙ power_same from in
          let low : ltb k (from + 1) ≡ true = grind (arith, nat_tests) in
          let mine : members set k ≡ true = ap (members set) e ∙ is in
          or_right _ _ one ∙ sym (ap (λ b. b && members set k) low ∙ mine)
      | inr ne ↦
          let none : members (2 ^ from) k ≡ false = power_other from k ne in
          let same : ltb k from ≡ ltb k (from + 1) = grind (arith, nat_tests) in
          false_or _ _ none ∙ old k ∙ ap (λ b. b && members set k) same
    ]

below_without : (set s from : ℕ) → members set from ≡ false → Below set s from → Below set s (from + 1)
unfolding Below
below_without set s from is old k = old k ∙ go
  where
    nothing : (a b : Bool) → a && false ≡ b && false
    nothing true true = refl
    nothing true false = refl
    nothing false true = refl
    nothing false false = refl

    go : ltb k from && members set k ≡ ltb k (from + 1) && members set k
    go = elim (cases_eq k from) [
      | inl e ↦
          let mine : members set k ≡ false = ap (members set) e ∙ is in
          ap (λ b. ltb k from && b) mine ∙ nothing (ltb k from) (ltb k (from + 1)) ∙ sym (ap (λ b. ltb k (from + 1) && b) mine)
      | inr ne ↦
          let same : ltb k from ≡ ltb k (from + 1) = grind (arith, nat_tests) in
          ap (λ b. b && members set k) same
    ]

gathered : (set n from s : ℕ) → Below set s from → Below set (with_cores s (among set from n)) (from + n)
unfolding among
gathered set zero from s h = subst (Below set s) (omega arith) h
gathered set (suc n) from s h = subst (Below set (with_cores s (among set from (suc n)))) sum
    (go (λ t k. gathered set n (from + 1) t k) (members set from) refl)
  where
    sum : from + 1 + n ≡ from + suc n
    sum = omega arith

    go : ((t : ℕ) → Below set t (from + 1) → Below set (with_cores t (filter (members set) (range_with_len (from + 1) n))) (from + 1 + n))
        → (b : Bool) → members set from ≡ b
        → Below set (with_cores s (cond b (from ∷ filter (members set) (range_with_len (from + 1) n)) (filter (members set) (range_with_len (from + 1) n))))
        (from + 1 + n)
    go more true e = more (with_member s from) (below_with set s from e h)
    go more false e = more s (below_without set s from e h)

all_gathered : (set n : ℕ) → n ≡ 64 → set < 2 ^ 64 → with_cores 0 (among set 0 n) ≡ set
unfolding Below
all_gathered set n e h = members-same _ _ same
  where
    none : (k : ℕ) → ltb k 0 ≡ false
    none k = grind (arith, nat_tests)

    all : Below set (with_cores 0 (among set 0 n)) (0 + n)
    all = gathered set n 0 0 (λ k. ap (λ b. eqb b 1) (bit_at-zero k) ∙ sym (ap (λ b. b && members set k) (none k)))

    same : (k : ℕ) → members (with_cores 0 (among set 0 n)) k ≡ members set k
    same k = all k ∙ elim (cases_lt k 64) [
      | inl low ↦ let test : ltb k (0 + n) ≡ true = grind (arith, nat_tests) in ap (λ b. b && members set k) test
      | inr high ↦
          let none : members set k ≡ false = ap (λ b. eqb b 1) (bit_at_above set 64 k h high) in
          let test : ltb k (0 + n) ≡ false = grind (arith, nat_tests) in
          ap (λ b. b && members set k) test ∙ sym none
    ]

-- ---- and their text

spaced_cores : (cores : List ℕ) → flat_map core_text cores ≡ spaced (map decimal cores)
spaced_cores [] = refl
spaced_cores (c ∷ cs) = ap (λ l. core_text c ++ l) (spaced_cores cs)

cores_are_words : (least : ℕ) (cores : List ℕ) → Ascend least cores → AreWords (map decimal cores)
cores_are_words least [] a = tt
cores_are_words least (c ∷ cs) (low, small, more) = (decimal_word c (omega (arith, small)), cores_are_words (suc c) cs more)

cores_text_is : (set n : ℕ) → n ≡ 64 → cores_text set ≡ spaced (map decimal (among set 0 n))
unfolding cores_text among
cores_text_is set n e =
    ap (λ m. flat_map core_text (filter (members set) (range_with_len 0 m))) (sym e) ∙ spaced_cores (filter (members set) (range_with_len 0 n))

pub acks_written : (set : ℕ) → 0 < set → set < 2 ^ 64 → NamesAcks set (words_of (codes "wait acks" ++ cores_text set))
acks_written set some h = named 64 refl
  where
    go : (n : ℕ) → n ≡ 64 → (cores : List ℕ) → among set 0 n ≡ cores → Ascend 0 cores → with_cores 0 cores ≡ set
        → NamesAcks set (words_of (codes "wait acks" ++ spaced (map decimal cores)))
    go n e [] is a w = absurd (omega (arith, some, w))
    go n e (c ∷ cs) is a w = (
      c,
      cs,
      words_join (codes "wait acks") (decimal c ++ spaced (map decimal cs))
          ∙ ap (λ l. codes "wait" ∷ codes "acks" ∷ l) (words_spaced (map decimal (c ∷ cs)) (cores_are_words 0 (c ∷ cs) a)),
      a,
      sym w,
    )

    named : (n : ℕ) → n ≡ 64 → NamesAcks set (words_of (codes "wait acks" ++ cores_text set))
    named n e = subst (λ t. NamesAcks set (words_of (codes "wait acks" ++ t))) (sym (cores_text_is set n e))
        (go n e (among set 0 n) refl (ascending set n 0 0 (omega arith) (omega (arith, e))) (all_gathered set n e h))
