use Rattle.std.proofs.Common.{◌≡◌, ℕ, List, [], ◌∷◌, ap, ◌∙◌, subst, sym}
use Rattle.core_steps.specs.Machine.{IsLegal}
use Rattle.shared.proofs.space.SharedMachine.make_each.Goals as goal

-- the machine in the first slot
abbrev first_of : {S : Type 0} → S → List (ℕ × S) → S
first_of d [] = d
first_of d (x ∷ xs) = x.1

pub call_each-requires-clause-legal : goal.call_each-requires-clause-legal
call_each-requires-clause-legal g c =
    let has = c.requires.has in
    let same : has.0 ≡ c.slot_mut.result.now = ap (first_of has.0) (sym has.1 ∙ c.slot_mut.ensures.value) in
    subst (λ (d : g.row.S.Denot). IsLegal (g.S.Whole.state d)) same has.4
