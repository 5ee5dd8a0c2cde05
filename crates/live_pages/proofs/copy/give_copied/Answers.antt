use Rattle.std.proofs.Common.{arith, neg_ℤ, pos, rules}
use Rattle.live_pages.proofs.HeldFrames.{way_beside}
use Rattle.live_pages.proofs.copy.give_copied.Goals as goal

pub count-requires : goal.count-requires
count-requires g c = (
  omega arith,
  (
    search rules,
    way_beside c.args.shown c.args.own c.args.shown (neg_ℤ (pos 1)) c.args.core.now.counts c.args.frames.now c.copy.new.self c.copy.ensures.copied
        c.requires.way,
  ),
)
