use Rattle.std.proofs.Common.{rules}
use Rattle.litmus.proofs.ReadLemmas.{parts_of}
use Rattle.litmus.proofs.running.read_steps.Goals as goal

pub returns : goal.returns
returns c = record {
  first = c.split_at.result.0.now;
  middle = c.split_at-2.result.0.now;
  last = c.split_at-2.result.1.now;
  are = parts_of _ _ _ _ _ _ _ c.split_at.ensures.front c.split_at.ensures.back c.split_at-2.ensures.front c.split_at-2.ensures.back;
  firsts = c.split_at-3.result.0.now;
  middles = c.split_at-4.result.0.now;
  lasts = c.split_at-4.result.1.now;
  came = parts_of _ _ _ _ _ _ _ c.split_at-3.ensures.front c.split_at-3.ensures.back c.split_at-4.ensures.front c.split_at-4.ensures.back;
  opens = c.in_ok-opens.ensures (search rules);
  performs = search rules;
  shows = search rules;
}
