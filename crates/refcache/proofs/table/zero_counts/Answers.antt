use Rattle.std.proofs.Common.{sym, subst, arith}
use Rattle.std.specs.List.{All}
use Rattle.std.proofs.lemmas.List.Elements.{All-push}
use Rattle.refcache.specs.Pieces.{IsNewCount}
use Rattle.refcache.proofs.table.zero_counts.Goals as goal

pub objects-preserved : goal.objects-preserved
objects-preserved g c =
    let len = c.in_ok-push.ensures.len in
    let before = c.objects.invariant.0 in (
      omega (arith, len, before),
      subst (All IsNewCount) (sym c.in_ok-push.ensures.items) (All-push IsNewCount c.objects.counts.items _ c.objects.invariant.1 c.new.ensures),
    )
