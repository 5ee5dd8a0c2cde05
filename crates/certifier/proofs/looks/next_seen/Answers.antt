use Rattle.std.proofs.Common.{rules, sym, ◌∙◌}
use Rattle.certifier.proofs.Histories.{next_later}
use Rattle.certifier.proofs.looks.next_seen.Goals as goal

pub returns-then-look-changes-clause-next : goal.returns-then-look-changes-clause-next
returns-then-look-changes-clause-next c = λ n dated h.
    next_later n _ _ c.args.t c.args.changes.now c.args.look.now c.index-changes-look.result dated h c.if-look-changes.true (search rules)
