-- What is written has no bytes but printable ones.
use Rattle.machine_model.proofs.Words.{◌≡◌, ℕ, zero, suc, ◌+◌, ◌^◌, ◌<◌, ◌≤◌, Bool, true, false, cond, List, [], ◌∷◌, decimal, arith, refl, sym, ap, ◌∙◌}
use Rattle.machine_model.proofs.Words.{subst, nat_le, ◌&&◌, filter, range_with_len, members, Reply}
use Rattle.std.proofs.lemmas.Bool.{and_parts}
use Rattle.std.specs.Prelude.{flat_map}
use Rattle.trace_io.specs.Lines.{IsUnbroken}
use Rattle.trace_text.specs.Line.{are_printable}
use Rattle.trace_text.specs.Printing.{core_text, cores_text, text_of}
use Rattle.trace_text.proofs.BytesLemmas.{append_has, decimal_has, fits_printable, reply_fits}
use Rattle.seats.specs.Fitting.{FitsReply}

abbrev pub printable : ℕ → Bool
printable c = nat_le 32 c && nat_le c 126

-- no newline is among printable bytes
pub printable_unbroken : (xs : List ℕ) → are_printable xs ≡ true → IsUnbroken xs
printable_unbroken [] p k low e = absurd (omega (arith, low))
printable_unbroken (x ∷ xs) p zero low e =
    let bad : printable 10 ≡ true = ap printable (sym e) ∙ (and_parts (printable x) (are_printable xs) p).0 in absurd (cc)
printable_unbroken (x ∷ xs) p (suc k) low e = printable_unbroken xs (and_parts (printable x) (are_printable xs) p).1 k (omega (arith, low)) e

pub decimal_printable : (n : ℕ) → n < 2 ^ 64 → are_printable (decimal n) ≡ true
decimal_printable n h = decimal_has printable (refl, refl, refl) n h

-- ---- outcomes

pub reply_printable : (reply : Reply) → FitsReply reply → are_printable (text_of reply) ≡ true
reply_printable reply h = fits_printable (text_of reply) (reply_fits reply (λ a e. subst FitsReply e h) (λ b e. subst FitsReply e h))

-- of those of n cores from one on
some_printable : (set n from : ℕ) → from + n ≤ 64 → are_printable (flat_map core_text (filter (members set) (range_with_len from n))) ≡ true
some_printable set zero from h = refl
some_printable set (suc n) from h = go (some_printable set n (from + 1) (omega (arith, h))) (members set from)
  where
    core : are_printable (core_text from) ≡ true
    core = decimal_printable from (omega (arith, h))

    go : are_printable (flat_map core_text (filter (members set) (range_with_len (from + 1) n))) ≡ true → (b : Bool)
        → are_printable (flat_map core_text (cond b (from ∷ filter (members set) (range_with_len (from + 1) n))
        (filter (members set) (range_with_len (from + 1) n)))) ≡ true
    go more true = append_has printable (core_text from) _ core more
    go more false = more

pub cores_printable : (set : ℕ) → are_printable (cores_text set) ≡ true
unfolding cores_text
cores_printable set = all 64 refl
  where
    all : (n : ℕ) → n ≡ 64 → are_printable (flat_map core_text (filter (members set) (range_with_len 0 64))) ≡ true
    all n e = subst (λ m. are_printable (flat_map core_text (filter (members set) (range_with_len 0 m))) ≡ true) e
        (some_printable set n 0 (omega (arith, e)))
