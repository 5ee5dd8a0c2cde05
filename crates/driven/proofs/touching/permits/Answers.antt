use Rattle.machine_model.proofs.Words.{◌≡◌, sym, subst, arith, nat_tests}
use Rattle.std.specs.Prelude.{◌/◌, ◌%◌, ◌<◌, ◌^◌}
use Rattle.driven.specs.Served.{IsPermitted}
use Rattle.driven.proofs.Served.{may_write, may_fetch}
use Rattle.driven.proofs.touching.permits.Goals as goal

pub returns-in-Store : goal.returns-in-Store
returns-in-Store c e is h =
    let odd : c.args.word / 2 % 2 ≡ 1 = grind (arith, nat_tests) in
    subst (IsPermitted e) (sym c.in-Store.is) (may_write e c.args.word is odd)

pub returns-in-Fetch : goal.returns-in-Fetch
returns-in-Fetch c e is h =
    let low : c.args.word < 2 ^ 63 = grind (arith, nat_tests) in
    subst (IsPermitted e) (sym c.in-Fetch.is) (may_fetch e c.args.word is low)
