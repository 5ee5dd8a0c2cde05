use Rattle.std.proofs.Common.{None, arith, pos, rules}
use Rattle.live_pages.proofs.HeldFrames.{can_make_way}
use Rattle.live_pages.proofs.filling.share_by.Goals as goal

pub give_shown-requires : goal.give_shown-requires
give_shown-requires g c =
    let way = can_make_way c.args.shown (pos 1) c.args.core.now.counts c.in-Some.frames c.in_the_way-evicted.result
    c.in_the_way-evicted.ensures.some c.in_the_way-evicted.ensures.none (c.can_evict.ensures.can c.if-not-can_evict.false) in (
      omega arith,
      (
        omega arith,
        (
          search rules,
          (
            search rules,
            (
              way,
              (
                c.in-Some.ensures.each 0 None (omega arith),
                (
                  c.requires.free,
                  (c.requires.backed, (c.requires.caches, c.requires.core)),
                ),
              ),
            ),
          ),
        ),
      ),
    )
