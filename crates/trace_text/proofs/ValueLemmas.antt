-- A reply that is a number is read from what is printed of it.
use Rattle.std.proofs.Common.{◌≡◌, inl, inr, ℕ, ◌^◌, ◌<◌, ◌≤◌, false, cond, [], ◌∷◌, ◌++◌, Some, None, codes, arith, refl, ap, ◌∙◌}
use Rattle.std.proofs.lemmas.Bool.Decides.{nat_tests}
use Rattle.std.specs.Prelude.{nat_lt}
use Rattle.vm_base.specs.declared.replies.Reply.TheVariants.{Mapped, Byte}
use Rattle.trace_text.specs.Words.{Word}
use Rattle.trace_text.specs.Number.{number_of}
use Rattle.trace_text.specs.Request.{◌>>=◌}
use Rattle.trace_text.specs.Spelling.{SpellsIn}
use Rattle.trace_text.specs.Values.{is_hexadecimal, value_of}
use Rattle.trace_text.proofs.SpellingLemmas.{no_x, number_all}

-- decimal digits don't begin as an address does
pub not_hexadecimal : (w : Word) (n : ℕ) → SpellsIn 10 w n → is_hexadecimal w ≡ false
not_hexadecimal [] n s = refl
not_hexadecimal (c ∷ []) n s = refl
not_hexadecimal (c ∷ (d ∷ ds)) n s = no_x c d ds s.digits s.each

pub decimal_value : (w : Word) (n : ℕ) → SpellsIn 10 w n → n ≤ 255 → value_of w ≡ Some (Byte n)
unfolding value_of
decimal_value w n s h =
    let k : number_of w ≡ Some n = number_all w n (omega arith, inl s) in
    let no : is_hexadecimal w ≡ false = not_hexadecimal w n s in
    let test : nat_lt 255 n ≡ false = grind (arith, nat_tests) in
    ap (λ o. o >>= λ m. cond (is_hexadecimal w) (Some (Mapped m)) (cond (nat_lt 255 m) None (Some (Byte m)))) k
    ∙ ap (λ b. cond b (Some (Mapped n)) (cond (nat_lt 255 n) None (Some (Byte n)))) no
    ∙ ap (λ b. cond b None (Some (Byte n))) test

pub hexadecimal_value : (digits : Word) (n : ℕ) → SpellsIn 16 digits n → n < 2 ^ 64 → value_of (codes "0x" ++ digits) ≡ Some (Mapped n)
unfolding value_of
hexadecimal_value digits n s h =
    let w = codes "0x" ++ digits in
    let k : number_of w ≡ Some n = number_all w n (h, inr (digits, refl, s)) in
    ap (λ o. o >>= λ m. Some (Mapped m)) k
