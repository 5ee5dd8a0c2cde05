-- The core that told first, core by core
use Rattle.std.proofs.Common.{◌≡◌, ℕ, ◌+◌, Bool, List, Option, None, Some, ◌&&◌, if◌then◌else◌, refl, ap, ◌∙◌, sym, add-one}
use Rattle.mmu.specs.Inboxes.{awaited}
use Rattle.machine_model.specs.World.{World}
use Rattle.draw_records.specs.Looking.{first_teller, told_before}

pub teller_none : (w : World) (told : List ℕ) (core : ℕ) → first_teller w told core 0 ≡ None
unfolding first_teller
teller_none w told core = refl

teller_next : (w : World) (told : List ℕ) (core n : ℕ) → first_teller w told core (n + 1)
    ≡ (if awaited w.hardware.inbox n core && told_before told n (first_teller w told core n) then Some n else first_teller w told core n)
unfolding first_teller
teller_next w told core n = rw add-one refl

-- one core more is looked at
pub teller_at : (w : World) (told : List ℕ) (core n other : ℕ) (before : Option ℕ) (r b : Bool) → other ≡ n → before ≡ first_teller w told core n
    → r ≡ (awaited w.hardware.inbox other core && told_before told other before) → r ≡ b → (if b then Some other else before) ≡ first_teller w told core (n + 1)
teller_at w told core n other before r b same is looked e =
    ap (λ (x : Bool). if x then Some other else before) (sym e ∙ looked)
    ∙ (ap (λ (k : ℕ). if awaited w.hardware.inbox k core && told_before told k before then Some k else before) same
    ∙ (ap (λ (o : Option ℕ). if awaited w.hardware.inbox n core && told_before told n o then Some n else o) is ∙ sym (teller_next w told core n)))
