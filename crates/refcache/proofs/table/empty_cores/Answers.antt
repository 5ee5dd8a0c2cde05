use Rattle.std.proofs.Common.{◌+◌, sym, subst, arith}
use Rattle.std.specs.List.{All}
use Rattle.std.proofs.lemmas.List.Elements.{All-push}
use Rattle.refcache.specs.Pieces.{IsNewCore}
use Rattle.refcache.proofs.table.empty_cores.Goals as goal

pub cores-preserved : goal.cores-preserved
cores-preserved g c =
    let len = c.in_ok-push.ensures.len in
    let before = c.cores.invariant.0 in (
      omega (arith, len, before),
      subst (All (IsNewCore (c.args.objects + 1))) (sym c.in_ok-push.ensures.items)
          (All-push (IsNewCore (c.args.objects + 1)) c.cores.parts.items c.in-Ok.core c.cores.invariant.1 c.in-Ok.ensures),
    )
