use Rattle.machine_model.proofs.Words.{◌<◌, ◌≤◌, ⊎_elim, arith, sym, subst, cases_lt, frames_in}
use Rattle.slot_lock.specs.Framed.{ListsFrames}
use Rattle.slot_lock.proofs.Listing.{list_moves, list_whole}
use Rattle.machine_model.proofs.CountingDown.{counts_from}
use Rattle.core_steps.proofs.rows.Lost.{listed_all, listed_known, listed_next}
use Rattle.core_steps.proofs.rows.commit.count_frames.Goals as goal

pub lists-init : goal.lists-init
lists-init g c = record {
  low = omega arith;
  high = let some = c.requires.pages.some in omega (arith, some);
  counted = counts_from c.args.core _ c.args.range.first _;
}

pub pages-init : goal.pages-init
pages-init g c =
    let frame = frames_in (g.M.SlotRead.slots c.args.map.now) in
    let e = c.list_frames-from.ensures in
    record {
      from = c.lists.from;
      low = c.lists.invariant.low;
      high = e.low;
      left = subst (ListsFrames frame c.lists.from c.list_frames-from.result) (sym c.deref-framed.ensures.0)
          (list_whole frame c.lists.from c.list_frames-from.result c.clear.new.self.items c.list_frames-from.new.list.items c.clear.ensures e.added);
      counted = c.lists.invariant.counted;
    }

pub dec-requires : goal.dec-requires
dec-requires g c =
    let known = listed_known (g.M.SlotRead.slots c.args.map.now) c.args.core c.args.range.first _ _ c.pages.k _ _ c.pages-test.true c.requires.counted
    c.requires.here c.pages.invariant in
    record { core = known.0; object = known.1.object; used = known.1.used }

pub pages-preserved : goal.pages-preserved
pages-preserved g c = listed_next c.args.core _ c.args.range.first _ _ c.pages.k _ _ _ c.pages-test.true c.pages.invariant c.dec.ensures.step

pub lists-smaller : goal.lists-smaller
lists-smaller g c =
    let frame = frames_in (g.M.SlotRead.slots c.args.map.now) in
    let e = c.list_frames-from.ensures in
    let more : c.lists.from < c.list_frames-from.result = ⊎_elim
    (λ (l : c.list_frames-from.result < c.args.range.end).
    let full = e.full l in
    list_moves frame c.lists.from c.list_frames-from.result c.list_frames-from.new.list.items (omega (arith, full))
    (list_whole frame c.lists.from c.list_frames-from.result c.clear.new.self.items c.list_frames-from.new.list.items c.clear.ensures e.added))
    (λ (l : c.args.range.end ≤ c.list_frames-from.result). omega (arith, c.lists-test.true))
    (cases_lt c.list_frames-from.result c.args.range.end) in
    omega (arith, more, c.lists-test.true)

pub lists-preserved : goal.lists-preserved
lists-preserved g c =
    let low = c.lists.invariant.low in
    let on = c.list_frames-from.ensures.low in
    record {
      low = omega (arith, low, on);
      high = c.list_frames-from.ensures.high;
      counted = listed_all c.args.core _ c.args.range.first _ _ c.pages.k _ _ c.pages-test.false c.pages.invariant;
    }
