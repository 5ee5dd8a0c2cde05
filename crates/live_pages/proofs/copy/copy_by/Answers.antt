use Rattle.std.proofs.Common.{None, arith, neg_ℤ, pos, rules}
use Rattle.live_pages.proofs.HeldFrames.{can_make_way}
use Rattle.live_pages.proofs.copy.copy_by.Goals as goal

pub give_copied-requires : goal.give_copied-requires
give_copied-requires g c =
    let way = can_make_way c.args.shown (neg_ℤ (pos 1)) c.args.core.now.counts c.in-Some.frames c.in_the_way-evicted.result
    c.in_the_way-evicted.ensures.some c.in_the_way-evicted.ensures.none (c.can_evict.ensures.can c.if-not-can_evict.false) in
    let each = c.in-Some.ensures.each in
    (omega arith, (omega arith, (search rules, (search rules, (way, (each 0 None (omega arith), (each 1 None (omega arith), (search rules, search rules))))))))
