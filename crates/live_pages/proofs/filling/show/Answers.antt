use Rattle.std.proofs.Common.{◌≡◌, None, Some, arith, rules, subst, sym}
use Rattle.vm_base.specs.declared.info.Back.TheVariants.{Shared}
use Rattle.machine_model.specs.Files.{back_of}
use Rattle.live_tree.specs.Shown.{shown}
use Rattle.live_pages.specs.Cached.{IsPageOf}
use Rattle.live_pages.proofs.FilePages.{backs_as}
use Rattle.live_pages.proofs.filling.show.Goals as goal

pub share-requires : goal.share-requires
share-requires g c =
    let at = c.deref-in-Some-get.result.now in
    let same : IsPageOf (Shared c.args.file c.args.page) at = subst (IsPageOf (Shared c.args.file c.args.page))
    (sym c.deref-in-Some-get.ensures) c.in-Some.ensures in
    let backs = backs_as (back_of ((shown c.args.held.now.slots).info c.args.at)) c.args.file c.args.page at c.requires.backed same in
    let cached : at.cached ≡ Some c.in-Some-get.shown = search rules in
    (omega arith, (search rules, (backs, cached)))

pub cache-requires : goal.cache-requires
cache-requires g c =
    let at = c.deref_mut.result.now in
    let same : IsPageOf (Shared c.args.file c.args.page) at = subst (IsPageOf (Shared c.args.file c.args.page))
    (sym c.deref_mut.ensures.value) c.in-Some.ensures in
    let backs = backs_as (back_of ((shown c.args.held.now.slots).info c.args.at)) c.args.file c.args.page at c.requires.backed same in
    let cached : at.cached ≡ None = search rules in
    (omega arith, (search rules, (backs, cached)))
