use Rattle.std.proofs.Common.{◌≡◌, ap, arith, subst}
use Rattle.live_pages.specs.Posting.{AreLocked}
use Rattle.live_pages.proofs.Posting.{next_core, none_locked}
use Rattle.live_pages.proofs.telling.lock_set.Goals as goal

pub cores-init : goal.cores-init
cores-init g c = none_locked c.args.core c.args.set c.args.places.now.items c.requires

pub cores-preserved : goal.cores-preserved
cores-preserved g c =
    let locks = rw c.new.ensures at (c.lock_member.ensures.member c.if-not-lock_member.false) in
    let stays = rw c.new.ensures at c.lock_member.ensures.other in
    next_core c.args.core c.args.set c.cores.index c.cores.places.items c.lock_member.new.places.items c.cores.invariant locks
    (λ other. ap (λ v. v.items) (stays other))

pub returns : goal.returns
returns g c =
    let end : c.cores.index ≡ 64 = omega arith in
    λ t. subst (λ n. AreLocked c.args.core c.args.set n c.cores.places.items) end c.cores.invariant
