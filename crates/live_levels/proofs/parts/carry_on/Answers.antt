use Rattle.std.proofs.Common.{◌≡◌, ℕ, ◌+◌, ◌*◌, ◌^◌, ◌<◌, ◌≤◌, ◌∙◌, Option, Some, None, arith, ap, sym, subst}
use Rattle.vm_base.specs.declared.info.Back.{Back}
use Rattle.vm_base.specs.declared.info.Back.TheVariants.{Anon, Shared, Private}
use Rattle.vm_base.specs.declared.info.PageInfo.{PageInfo}
use Rattle.vm_base.specs.Info.{advance_back, file_page, info_file_page}
use Rattle.live_levels.specs.declared.act.Act.{Act}
use Rattle.live_levels.specs.Parts.{carried_act}
use Rattle.live_levels.specs.Slots.{SlotView, Suits}
use Rattle.live_levels.proofs.parts.carry_on.Goals as goal

back_suits : (b : Back) (by n : ℕ) → file_page b + (by + n) ≤ 2 ^ 36 → file_page (advance_back b by) + n ≤ 2 ^ 36
back_suits Anon by n h = omega (arith, h)
back_suits (Shared file page) by n h = omega (arith, h)
back_suits (Private file page) by n h = omega (arith, h)

-- the act by which a part begins suits its pages
part_suits : (o : Option PageInfo) (by n : ℕ) → info_file_page o + (by + n) ≤ 2 ^ 36 → Suits (carried_act o by) n
part_suits None by n h = tt
part_suits (Some info) by n h = back_suits info.meta.back by n h

pub restart-requires : goal.restart-requires
restart-requires g c =
    let k = c.slots.k in
    let pages = c.args.pages in
    let content = c.args.divided.now.content in
    let low : k < 512 = c.slots-test.true in
    let placed = c.slots.invariant.rest k _ (omega arith) low in
    let count : c.index_mut.result.now.count ≡ pages = ap (λ (s : SlotView). s.count) c.index_mut.ensures.value ∙ placed.1 in
    let all = c.requires.carry.fits in
    let inside : k * pages + pages ≤ 512 * pages = grind arith in
    let fits : info_file_page content + (k * pages + c.index_mut.result.now.count) ≤ 2 ^ 36 = omega (arith, all, inside, count) in
    record {
      suits = subst (λ (a : Act). Suits a c.index_mut.result.now.count) (sym c.carried_act-act.ensures.act)
          (part_suits content (k * pages) c.index_mut.result.now.count fits);
    }
