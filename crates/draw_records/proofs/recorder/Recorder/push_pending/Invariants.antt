use Rattle.std.proofs.Common.{◌-◌, ◌≡◌, ◌≤◌, ◌<◌, length, drop}
use Rattle.draw_records.specs.Recording.{all_pushed}
use Rattle.draw_records.proofs.recorder.Recorder.push_pending.Given as goal

-- of all calls those that are left are still to be recorded
abbrev pub invariant-calls : goal.invariant-calls
invariant-calls g l = record {
  few : l.at ≤ 64;
  all : 0 < l.at → length l.fn.self.pending ≡ 64;
  same : l.self.pending ≡ l.fn.self.pending;
  rest : all_pushed l.self (drop l.at l.fn.self.pending) ≡ all_pushed l.fn.self l.fn.self.pending;
}

abbrev pub decreases-calls : goal.decreases-calls
decreases-calls g l = 64 - l.at
