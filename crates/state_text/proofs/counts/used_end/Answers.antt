use Rattle.std.proofs.Common.{◌≡◌, ◌+◌, ◌<◌, ◌≤◌, ℕ, arith, ap, sym}
use Rattle.core_steps.specs.Machine.{state}
use Rattle.frames.specs.Bits.{count_below}
use Rattle.frames.proofs.Counting.{as_number}
use Rattle.state_text.proofs.UsedFrames.{all_members, count_after, count_grows, count_start}
use Rattle.state_text.proofs.counts.used_end.Goals as goal
use Rattle.state_text.proofs.counts.used_end.Goals.{then-is_free, else-is_free}

pub frames-init : goal.frames-init
frames-init g c = record {
  left =
      let none : count_below (state c.args.machine.now).memory.is_free 0 ≡ 0 = count_start (state c.args.machine.now).memory.is_free in
      omega (arith, none, c.free_frames-free.ensures);
}

pub returns-then-free-frames : goal.returns-then-free-frames
returns-then-free-frames g c =
    let s = (state c.args.machine.now).memory.is_free in
    let in_range : c.frames.frame ≤ (state c.args.machine.now).made.frames = omega (arith, c.frames.auto.frame-end, c.frames-frames.ensures) in (
      in_range,
      all_members s c.frames.frame (state c.args.machine.now).made.frames in_range
          (omega (arith, c.frames.invariant.left, c.if-free-frames.true, c.frames-frames.ensures)),
    )

pub overflow_sub-free : goal.overflow_sub-free
overflow_sub-free g c =
    let s = (state c.args.machine.now).memory.is_free in
    let more : count_below s (c.frames.frame + 1) ≡ as_number (s c.frames.frame) + count_below s c.frames.frame = count_after s c.frames.frame in
    let one : as_number (s c.frames.frame) ≡ 1 = ap as_number (sym c.if-is_free.ensures) in
    let grows : count_below s (c.frames.frame + 1) ≤ count_below s (state c.args.machine.now).made.frames =
    count_grows s (c.frames.frame + 1) (state c.args.machine.now).made.frames (omega (arith, c.frames-test.true, c.frames-frames.ensures)) in
    omega (arith, c.frames.invariant.left, more, one, grows)

pub frames-preserved : goal.frames-preserved
frames-preserved g c = record {
  left =
      let s = (state c.args.machine.now).memory.is_free in
      let more : count_below s (c.frames.frame + 1) ≡ as_number (s c.frames.frame) + count_below s c.frames.frame = count_after s c.frames.frame in
      elim c.if-is_free.branch [
        | then-is_free w ↦
            let one : as_number (s c.frames.frame) ≡ 1 = ap as_number (sym w.if-is_free.ensures) in
            let grows : count_below s (c.frames.frame + 1) ≤ count_below s (state c.args.machine.now).made.frames =
            count_grows s (c.frames.frame + 1) (state c.args.machine.now).made.frames (omega (arith, c.frames-test.true, c.frames-frames.ensures)) in
            omega (arith, c.frames.invariant.left, more, one, grows, w.free-is)
        | else-is_free w ↦
            let none : as_number (s c.frames.frame) ≡ 0 = ap as_number (sym w.if-is_free.ensures) in
            omega (arith, c.frames.invariant.left, more, none, w.free-is)
      ];
}
