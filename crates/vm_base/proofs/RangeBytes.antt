use Rattle.std.proofs.Common.{◌≡◌, ℕ, ◌<◌, ◌≤◌, ◌+◌, ◌*◌, ◌/◌, Bool, true, false, cond, refl, ap, arith, max, ◌==◌}
use Rattle.std.specs.Prelude.{◌↔◌}
use Rattle.vm_base.specs.Functions.{has}
use Rattle.vm_base.specs.Pages.{pages_of}
use Rattle.vm_base.specs.Laws.{HasByte}
use Rattle.vm_base.proofs.Functions.{has_in, in_has, eq_true, eq_false}

zero_end : (addr len : ℕ) → (len == 0) ≡ true → (pages_of addr len).end ≡ addr / 4096
zero_end addr len h = ap (λ b. cond b (addr / 4096) ((addr + len + 4095) / 4096)) h

some_end : (addr len : ℕ) → (len == 0) ≡ false → (pages_of addr len).end ≡ (addr + len + 4095) / 4096
some_end addr len h = ap (λ b. cond b (addr / 4096) ((addr + len + 4095) / 4096)) h

there : (addr len p : ℕ) (b : Bool) → (len == 0) ≡ b → has (pages_of addr len) p ≡ true → HasByte addr len p
there addr len p true e h =
    let in_range = has_in (pages_of addr len) p h in
    let end = zero_end addr len e in
    absurd (omega (arith, in_range, end))
there addr len p false e h =
    let in_range = has_in (pages_of addr len) p h in
    let end = some_end addr len e in
    let low : addr / 4096 ≤ p = in_range.0 in
    let high : p < (addr + len + 4095) / 4096 = rw end at in_range.1 in
    let some = eq_false len 0 e in
    (max addr (p * 4096), omega arith, omega (arith, high, low, some), omega (arith, low))

back : (addr len p : ℕ) (b : Bool) → (len == 0) ≡ b → HasByte addr len p → has (pages_of addr len) p ≡ true
back addr len p true e s =
    let zero = eq_true len 0 e in
    let low = s.1 in
    let high = s.2 in
    absurd (omega (arith, zero, low, high))
back addr len p false e s =
    let low : addr ≤ s.0 = s.1 in
    let high : s.0 < addr + len = s.2 in
    let page : s.0 / 4096 ≡ p = s.3 in
    let end = some_end addr len e in
    let first : addr / 4096 ≤ p = omega (arith, low, page) in
    let last : p < (addr + len + 4095) / 4096 = omega (arith, high, page) in
    in_has (pages_of addr len) p first (rw end last)

pub pages_have : (addr len p : ℕ) → (has (pages_of addr len) p ≡ true) ↔ HasByte addr len p
pages_have addr len p = (there addr len p (len == 0) refl, back addr len p (len == 0) refl)
