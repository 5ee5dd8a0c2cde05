use Rattle.import_log.proofs.OwnedLemmas.{owned_known}
use Rattle.import_log.proofs.owned.own_lines.Goals as goal

pub returns-clause-lines : goal.returns-clause-lines
returns-clause-lines g c =
    owned_known c.args.lines c.new-lines.result c.own_by-2.result c.in_ok-made.made c.root_of-root.result c.is_mixed.result c.new-lines.ensures
    c.is_mixed.ensures c.if-not-is_mixed.false c.in_ok-made.ensures c.root_of-root.ensures c.own_by-2.ensures
