-- next_line
use Rattle.slot_lock.proofs.MapWalks.{line_is}
use Rattle.litmus_merges.proofs.mappings.next_line.Goals as goal

pub returns-clause-some : goal.returns-clause-some
returns-clause-some g c =
    line_is _ c.args.from c.in-Some.first c.in-Some.meta c.line_end-end.result c.requires.from c.requires.begins c.in-Some.ensures.some
    c.line_end-end.ensures.run c.line_end-end.ensures.ends
