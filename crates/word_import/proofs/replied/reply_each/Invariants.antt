use Rattle.std.proofs.Common.{◌≡◌, ◌≤◌, ◌-◌, length, map}
use Rattle.import_lines.specs.Made.{fork_of, maker_of, process_of}
use Rattle.import_log.specs.Imported.{end_of}
use Rattle.import_steps.specs.Counts.{total}
use Rattle.import_lackey.specs.Replies.{replied_so_far}
use Rattle.word_import.specs.Replied.{line_text, replied}
use Rattle.word_import.proofs.replied.reply_each.Given as goal

abbrev pub invariant-lines : goal.invariant-lines
invariant-lines g l = record {
  within : l.at ≤ length l.lines;
  value : (replied_so_far l.replies, l.counts) ≡ replied (map line_text l.raw) (replied_so_far l.start) l.lines l.made l.process l.at;
  known : l.known.process ≡ process_of l.made l.known.thread;
  own : l.known.own ≡ fork_of (maker_of l.made (process_of l.made l.known.thread));
  end : l.end ≡ end_of l.made l.process l.lines (length l.lines);
  first : l.own ≡ fork_of (maker_of l.made l.process);
  total : total l.counts ≡ l.at;
}

abbrev pub decreases-lines : goal.decreases-lines
decreases-lines g l = length l.lines - l.at
