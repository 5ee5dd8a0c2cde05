use Rattle.std.proofs.Common.{arith, ap, sym, ◌∙◌}
use Rattle.import_lines.specs.Made.{fork_of, maker_of, process_of}
use Rattle.import_log.proofs.ProcessLemmas.{counted_more}
use Rattle.import_log.proofs.processes.count_lines.Goals as goal

pub lines-preserved : goal.lines-preserved
lines-preserved g c = record {
  within = omega (arith, c.lines-test.true, c.len.ensures);
  all = counted_more c.args.lines.now c.args.made.now c.lines.at _ _ _ _ c.lines.invariant.all c.in_ok-count_line.ensures
      (c.recall-known.ensures.known ∙ ap (process_of c.args.made.now) c.thread.ensures) c.in_ok-asks.ensures;
  known = c.recall-known.ensures.known ∙ ap (process_of c.args.made.now) (sym c.recall-known.ensures.thread);
  own = c.recall-known.ensures.own ∙ ap (λ t. fork_of (maker_of c.args.made.now (process_of c.args.made.now t))) (sym c.recall-known.ensures.thread);
}
