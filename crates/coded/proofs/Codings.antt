-- Sets of cores by their bits
use Rattle.machine_model.proofs.Words.{◌≡◌, ℕ, ◌+◌, ◌*◌, ◌^◌, ◌%◌, refl, sym, ◌∙◌, arith, subst}
use Rattle.std.specs.Int.{bit_at}
use Rattle.std.proofs.lemmas.Nat.{mod-pow-add}

-- the bits below the next place are those below this one, and the one here
pub bits_more : (n k : ℕ) → n % 2 ^ k + bit_at n k * 2 ^ k ≡ n % 2 ^ (k + 1)
bits_more n k =
    let e : n % 2 ^ (1 + k) ≡ bit_at n k * 2 ^ k + n % 2 ^ k = mod-pow-add n 1 k in
    let s : k + 1 ≡ 1 + k = omega arith in
    let t : n % 2 ^ k + bit_at n k * 2 ^ k ≡ bit_at n k * 2 ^ k + n % 2 ^ k = omega arith in
    t ∙ sym e ∙ subst (λ m. n % 2 ^ (1 + k) ≡ n % 2 ^ m) (sym s) refl
