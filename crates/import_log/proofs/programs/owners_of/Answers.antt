use Rattle.std.proofs.Common.{◌<◌, [], length, arith, ap, sym, ◌∙◌}
use Rattle.import_lines.specs.Made.{fork_of, maker_of, process_of}
use Rattle.import_log.proofs.EachLemmas.{mapped_more}
use Rattle.import_log.proofs.programs.owners_of.Goals as goal

pub lines-preserved : goal.lines-preserved
lines-preserved c =
    let all = c.args.lines.now in
    let low : c.lines.at < length all = omega (arith, c.lines-test.true, c.len.ensures) in
    record {
      within = omega (arith, low);
      value = c.in_ok-push.ensures.items ∙ mapped_more (λ s. process_of c.args.made.now s.0) all c.lines.at (0, []) _ _ low c.lines.invariant.value
          (c.recall-known.ensures.known ∙ ap (process_of c.args.made.now) c.thread.ensures);
      known = c.recall-known.ensures.known ∙ ap (process_of c.args.made.now) (sym c.recall-known.ensures.thread);
      own = c.recall-known.ensures.own ∙ ap (λ t. fork_of (maker_of c.args.made.now (process_of c.args.made.now t))) (sym c.recall-known.ensures.thread);
    }
