use Rattle.std.proofs.Common.{◌≡◌, ◌<◌, ◌≤◌, length, map, ap, arith, subst, sym, ◌∙◌, true}
use Rattle.std.specs.Prelude.{All, IsSome}
use Rattle.std.proofs.lemmas.List.Elements.{All-set}
use Rattle.vm_base.specs.Cores.{members}
use Rattle.mmu.specs.contracts.cpu.CpuHardware.TheImpl.{ghosts}
use Rattle.live_tree.proofs.Along.{one_more}
use Rattle.live_pages.specs.Posting.{core_of, number_of, told}
use Rattle.live_pages.proofs.Posting.{all_changed, rest_after}
use Rattle.live_pages.proofs.telling.post_to.Goals as goal

pub places-preserved : goal.places-preserved
places-preserved g c =
    let cpu = ghosts g.row.A g.A.Allocator g.A.Allocator-dict g.A.Clone g.A.Clone-dict g.A.Destruct-dict in
    let f = core_of cpu.table cpu.tlb in
    let lt : c.places.place-index < length c.places.place-items = omega arith in
    let here : c.places.place-index < length c.as_mut_slice-place-items.result.now = omega arith in
    let le : c.places.place-index ≤ c.places.place-index = omega arith in
    let same = c.places.invariant.rest c.places.place-index c.place-item.result le in
    record {
      some = All-set IsSome c.places.place-items c.places.place-index c.tell.new.place c.tell.ensures.some c.places.invariant.some;
      rest = rest_after c.places.place-items c.as_mut_slice-place-items.result.now c.places.place-index c.tell.new.place c.places.invariant.rest;
      told = λ set m. one_more f (told c.args.core set c.args.range) c.places.place-items
          (map f c.as_mut_slice-place-items.result.now) c.places.place-index c.place-item.result c.tell.new.place
          (c.places.invariant.told set m) lt c.place-item.is
          (c.tell.ensures.told set (subst (λ p. members set (number_of p) ≡ true) (sym same) (m c.places.place-index c.place-item.result here))
          ∙ ap (λ z. told c.args.core set c.args.range (f z)) (sym c.place-item.is));
    }

pub returns-clause-told : goal.returns-clause-told
returns-clause-told g c =
    let cpu = ghosts g.row.A g.A.Allocator g.A.Allocator-dict g.A.Clone g.A.Clone-dict g.A.Destruct-dict in
    let is = c.as_mut_slice-place-items.ensures.value in
    let le : length c.as_mut_slice-place-items.result.now ≤ c.places.place-index = omega arith in
    λ set m. all_changed (core_of cpu.table cpu.tlb) (told c.args.core set c.args.range) c.args.places.now.items c.as_mut_slice-place-items.result.now
    c.places.place-items c.places.place-index is c.places.auto.place-items le
    (c.places.invariant.told set (subst (All (λ p. members set (number_of p) ≡ true)) (sym is) m))
