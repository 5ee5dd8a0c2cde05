use Rattle.std.proofs.Common.{◌≡◌, None, Some, arith, rules, subst, sym}
use Rattle.vm_base.specs.declared.info.Back.TheVariants.{Shared}
use Rattle.machine_model.specs.Files.{back_of}
use Rattle.live_tree.specs.Shown.{shown}
use Rattle.live_pages.specs.Cached.{IsPageOf}
use Rattle.live_pages.proofs.FilePages.{backs_as}
use Rattle.live_pages.proofs.filling.fill_copy.Goals as goal

pub copy_shown-requires : goal.copy_shown-requires
copy_shown-requires g c =
    let at = c.deref-in-Some-get.result.now in
    let same : IsPageOf (Shared c.args.file c.args.page) at = subst (IsPageOf (Shared c.args.file c.args.page))
    (sym c.deref-in-Some-get.ensures) c.in-Some.ensures in
    let backs = backs_as (back_of ((shown c.args.held.now.slots).info c.args.at)) c.args.file c.args.page at c.requires.backed same in
    let cached : at.cached ≡ Some c.in-Some-get.shown = search rules in
    (omega arith, (search rules, (backs, cached)))

pub fill_bytes-requires : goal.fill_bytes-requires
fill_bytes-requires g c =
    let at = c.deref-in-None.result.now in
    let same : IsPageOf (Shared c.args.file c.args.page) at = subst (IsPageOf (Shared c.args.file c.args.page))
    (sym c.deref-in-None.ensures) c.in-Some.ensures in
    let backs = backs_as (back_of ((shown c.args.held.now.slots).info c.args.at)) c.args.file c.args.page at c.requires.backed same in
    let cached : at.cached ≡ None = search rules in
    (omega arith, (search rules, (backs, cached)))
