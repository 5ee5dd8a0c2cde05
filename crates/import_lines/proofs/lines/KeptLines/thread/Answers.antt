use Rattle.std.proofs.Common.{ap}
use Rattle.import_lines.proofs.LineLemmas.{line_known}
use Rattle.import_lines.proofs.lines.KeptLines.thread.Goals as goal

pub returns : goal.returns
returns c =
    ap (λ p. p.0) (line_known _ _ c.self.inside.rares c.self.inside.entries.items c.self.inside.order.items c.args.place c.index.result.now c.index-2.result.now
    c.self.invariant c.self.view_is c.requires c.index.ensures c.index-2.ensures)
