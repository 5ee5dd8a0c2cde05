use Rattle.std.proofs.Common.{◌≡◌, nat_lt}
use Rattle.live_pages.specs.Free.{free_frames}
use Rattle.live_pages.proofs.free_frames.FreeFrames.all.Given as goal

abbrev pub invariant-frames : goal.invariant-frames
invariant-frames g l = (free_frames l.free ≡ (λ j. nat_lt j l.frame)) × (l.free.frames ≡ l.frames)
