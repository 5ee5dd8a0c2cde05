use Rattle.std.proofs.Common.{List, ℕ, ◌∙◌}
use Rattle.trace_text.specs.Halves.{AreHalves}
use Rattle.trace_text.proofs.HalvesLemmas.{halves_at, halves_some, if_none}
use Rattle.trace_text.proofs.sign.halves.Goals as goal

pub returns-in_err-front-clause-none : goal.returns-in_err-front-clause-none
returns-in_err-front-clause-none c =
    let none : (front behind : List ℕ) → AreHalves c.args.bytes.now front behind → ⊥ = (λ front behind k.
    let (before, rest) = halves_at _ front behind _ c.in_ok-at.ensures.within c.in_ok-at.ensures.sign c.in_ok-at.ensures.clear k in
    c.in_err-front.ensures.none front (c.split_at.ensures.front ∙ before)) in
    if_none _ _ none

pub returns-in_err-behind-clause-none : goal.returns-in_err-behind-clause-none
returns-in_err-behind-clause-none c =
    let none : (front behind : List ℕ) → AreHalves c.args.bytes.now front behind → ⊥ = (λ front behind k.
    let (before, rest) = halves_at _ front behind _ c.in_ok-at.ensures.within c.in_ok-at.ensures.sign c.in_ok-at.ensures.clear k in
    c.in_err-behind.ensures.none behind (c.split_at.ensures.back ∙ rest)) in
    if_none _ _ none

pub returns-clause-some : goal.returns-clause-some
returns-clause-some c =
    halves_some _ _ _ _ _ _ c.split_at.ensures.front c.split_at.ensures.back c.in_ok-front.ensures.some c.in_ok-behind.ensures.some
    c.in_ok-at.ensures.clear
