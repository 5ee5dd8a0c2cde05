use Rattle.std.proofs.Common.{◌≡◌, ◌≤◌, length}
use Rattle.std.specs.Prelude.{vec_len, vec_capacity}
use Rattle.live_space.proofs.making.new_frames.Given as goal

abbrev pub invariant-frames : goal.invariant-frames
invariant-frames g l = record {
  count : vec_len l.frames ≡ l.number;
  room : l.fn.count ≤ vec_capacity l.frames;
}
