use Rattle.std.proofs.Common.{◌≡◌, ◌++◌, ℕ, arith, subst}
use Rattle.std.proofs.lemmas.Bool.Decides.{nat_tests}
use Rattle.draw_lives.specs.Histories.{lanes_text}
use Rattle.draw_lives.proofs.histories.put_lanes.Goals as goal

pub returns : goal.returns
returns c =
    let all : c.cores.core ≡ 64 = grind (arith, nat_tests, c.cores-test.false, c.cores.invariant.within) in
    subst (λ (n : ℕ). c.cores.out.items ≡ c.args.out.now.items ++ lanes_text c.args.scene.now n) all c.cores.invariant.same
