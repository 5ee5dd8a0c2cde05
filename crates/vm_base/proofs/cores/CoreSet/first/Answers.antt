use Rattle.std.proofs.Common.{◌<◌, ◌≡◌, Bool, arith, subst}
use Rattle.std.specs.Prelude.{IsTrue}
use Rattle.vm_base.proofs.CoreSets.{members-least, members-below}
use Rattle.vm_base.proofs.cores.CoreSet.first.Goals as goal

pub returns-clause-member : goal.returns-clause-member
returns-clause-member c =
    let other : ¬ c.args.self ≡ 0 = λ e. let z = subst (λ (b : Bool). IsTrue b) c.if-is_empty.false (c.is_empty.ensures.1 e) in cc in
    let some : 0 < c.self.inside.bits = omega arith in
    rw (← c.self.view_is, c.new.ensures) (members-least _ some (omega arith))

pub returns-clause-least : goal.returns-clause-least
returns-clause-least c =
    let other : ¬ c.args.self ≡ 0 = λ e. let z = subst (λ (b : Bool). IsTrue b) c.if-is_empty.false (c.is_empty.ensures.1 e) in cc in
    let some : 0 < c.self.inside.bits = omega arith in
    rw (← c.self.view_is, c.new.ensures) (members-below _ some (omega arith))
