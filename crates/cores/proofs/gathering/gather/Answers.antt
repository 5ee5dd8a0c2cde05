use Rattle.std.proofs.Common.{arith, subst}
use Rattle.cores.specs.Cores.{IsRole}
use Rattle.cores.specs.declared.gathering.Role.{Role}
use Rattle.cores.proofs.Gathered.{all_gathered, one_in, one_out}
use Rattle.cores.proofs.gathering.gather.Goals as goal
use Rattle.cores.proofs.gathering.gather.Goals.{in-Out, in-In+else-len-ge-MOST+else-open-gt-OPEN+in_ok-push-in-In}

pub calls-preserved : goal.calls-preserved
calls-preserved g c =
    let p = c.args.pages in
    let n = c.args.number in
    let first = c.args.first.now in
    let cut = c.args.cut in
    let at = c.calls.at-counter in
    let call = c.index-history-at.result in
    elim c.match-become_of.branch [
      | in-Out w ↦
          rw w.kept-is (one_out c.args.history.now p n first cut c.calls.kept.items at call c.calls-test.true c.index-history-at.is
          (subst (λ (r : Role). IsRole p n first cut at call r) w.in-Out.is c.become_of.ensures) c.calls.invariant)
      | in-In+else-len-ge-MOST+else-open-gt-OPEN+in_ok-push-in-In w ↦
          rw w.kept-is (one_in c.args.history.now p n first cut c.calls.kept.items w.push.new.self.items at call w.in-In.call c.calls-test.true
          c.index-history-at.is w.in_ok-push-in-In.ensures.items (subst (λ (r : Role). IsRole p n first cut at call r) w.in-In.is c.become_of.ensures)
          c.calls.invariant)
    ]

pub returns : goal.returns
returns g c =
    all_gathered c.args.history.now c.args.pages c.args.number c.args.first.now c.args.cut c.calls.kept.items c.calls.at-counter
    (let end = c.calls-test.false in omega (arith, end)) c.calls.invariant
