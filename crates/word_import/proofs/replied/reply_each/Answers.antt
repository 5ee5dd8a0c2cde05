use Rattle.std.proofs.Common.{length, map, arith, ap, sym, ◌∙◌}
use Rattle.import_lackey.specs.Replies.{replied_so_far}
use Rattle.import_lines.specs.Made.{fork_of, maker_of, process_of}
use Rattle.import_log.specs.Imported.{end_of, is_ours}
use Rattle.word_import.specs.Replied.{line_text, replied_if}
use Rattle.word_import.proofs.RepliedLemmas.{replied_more}
use Rattle.word_import.proofs.replied.reply_each.Goals as goal

pub lines-preserved : goal.lines-preserved
lines-preserved g c =
    let raw = map line_text c.args.raw.now in
    let start = replied_so_far c.args.start.now in
    let all = c.args.lines.now in
    let ours = c.is_ours-is_ours.ensures
    ∙ ap (λ e. is_ours c.args.made.now c.args.process e c.recall-known.result.thread c.lines.at) c.lines.invariant.end
    ∙ ap (λ t. is_ours c.args.made.now c.args.process (end_of c.args.made.now c.args.process all (length all)) t c.lines.at)
    (c.recall-known.ensures.thread ∙ c.thread.ensures) in
    record {
      within = omega (arith, c.lines-test.true, c.len.ensures);
      value = replied_more raw start all c.args.made.now c.args.process c.lines.at _ _ _ _ _ c.lines.invariant.value
          (c.in_ok-fate.ensures ∙ ap (λ b. replied_if b raw start (replied_so_far c.lines.replies) all c.lines.at) ours) c.and-counts.ensures.value;
      known = c.recall-known.ensures.known ∙ ap (process_of c.args.made.now) (sym c.recall-known.ensures.thread);
      own = c.recall-known.ensures.own ∙ ap (λ t. fork_of (maker_of c.args.made.now (process_of c.args.made.now t))) (sym c.recall-known.ensures.thread);
      end = c.lines.invariant.end;
      first = c.lines.invariant.first;
      total = omega (arith, c.and-counts.ensures.total, c.lines.invariant.total);
    }
