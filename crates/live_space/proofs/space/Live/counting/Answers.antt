use Rattle.std.proofs.Common.{◌≡◌, ℕ, rules, subst}
use Rattle.std.specs.Prelude.{IfSome}
use Rattle.live_space.proofs.space.Live.counting.Goals as goal

pub returns-clause-own : goal.returns-clause-own
returns-clause-own g c =
    let same : c.deref.result.now.inbox.core ≡ c.args.core = search rules in
    subst (λ (n : ℕ). IfSome c.by.result (λ k. k.core ≡ n)) same c.by.ensures.core
