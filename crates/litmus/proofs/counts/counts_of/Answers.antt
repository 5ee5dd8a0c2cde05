use Rattle.std.proofs.Common.{rules}
use Rattle.litmus_report.specs.Counts.{bytes_of}
use Rattle.litmus.proofs.CountLemmas.{counted_next}
use Rattle.litmus.proofs.counts.counts_of.Goals as goal

pub texts-preserved : goal.texts-preserved
texts-preserved c = counted_next bytes_of c.args.texts.now c.texts.at c.index-texts-at.result c.as_slice.result.now c.texts.out.items
    c.add_first.new.out.items _ c.texts-test.true (search rules) c.texts.invariant (search rules)
