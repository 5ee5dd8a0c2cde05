use Rattle.slot_lock.proofs.Words.{◌≡◌, ◌<◌, ◌≤◌, ◌∙◌, ⊎_elim, ap, arith, refl, sym, subst, cases_lt}
use Rattle.frames.specs.Parts.{free_frames}
use Rattle.slot_lock.specs.Framed.{frames_in}
use Rattle.slot_lock.proofs.Listing.{list_moves, list_whole}
use Rattle.audit.specs.Keeping.{AreTaken, Forgets, freed, none_cached}
use Rattle.audit.proofs.Kept.{kept_cleared, kept_listed, listed_taken, upto}
use Rattle.audit.proofs.changing.forget_bytes.Goals as goal

pub lists-init : goal.lists-init
lists-init g c = record {
  low = omega arith;
  high = let some = c.requires.pages.some in omega (arith, some);
  kept = kept_cleared (g.M.SlotRead.slots c.args.map.now) (upto c.args.range c.args.range.first) none_cached c.args.frames.now c.requires.kept;
  forgets = record {
    bytes = refl;
    kept = λ cached k. kept_cleared (g.M.SlotRead.slots c.args.map.now) (upto c.args.range c.args.range.first) cached c.args.frames.now k;
  };
}

pub give_list-requires : goal.give_list-requires
give_list-requires g c =
    let s = g.M.SlotRead.slots c.args.map.now in
    let lists = list_whole (frames_in s) c.lists.from c.list_frames-from.result c.clear.new.self.items c.list_frames-from.new.list.items
    c.clear.ensures c.list_frames-from.ensures.added in
    record {
      taken = subst (λ xs. AreTaken xs c.lists.frames.count (free_frames c.lists.frames)) (sym c.deref.ensures.0)
          (listed_taken s c.args.range c.lists.from c.list_frames-from.result c.list_frames-from.new.list.items c.lists.frames
          c.lists.invariant.kept lists);
    }

pub lists-smaller : goal.lists-smaller
lists-smaller g c =
    let frame = frames_in (g.M.SlotRead.slots c.args.map.now) in
    let lists = list_whole frame c.lists.from c.list_frames-from.result c.clear.new.self.items c.list_frames-from.new.list.items
    c.clear.ensures c.list_frames-from.ensures.added in
    let more : c.lists.from < c.list_frames-from.result = ⊎_elim
    (λ (l : c.list_frames-from.result < c.args.range.end).
    let full = c.list_frames-from.ensures.full l in
    list_moves frame c.lists.from c.list_frames-from.result c.list_frames-from.new.list.items (omega (arith, full)) lists)
    (λ (l : c.args.range.end ≤ c.list_frames-from.result). omega (arith, c.lists-test.true))
    (cases_lt c.list_frames-from.result c.args.range.end) in
    omega (arith, more, c.lists-test.true)

pub lists-preserved : goal.lists-preserved
lists-preserved g c =
    let i = c.lists.invariant in
    let e = c.list_frames-from.ensures in
    let s = g.M.SlotRead.slots c.args.map.now in
    let lists = list_whole (frames_in s) c.lists.from c.list_frames-from.result c.clear.new.self.items c.list_frames-from.new.list.items
    c.clear.ensures e.added in
    let given = c.give_list.ensures in
    let free = subst (λ xs. free_frames c.give_list.new.frames ≡ freed xs (free_frames c.lists.frames)) c.deref.ensures.0 given.free in
    let low = i.low in
    let more = e.low in
    record {
      low = omega (arith, low, more);
      high = e.high;
      kept = kept_listed s c.args.range none_cached c.lists.from c.list_frames-from.result c.list_frames-from.new.list.items c.lists.frames
          c.give_list.new.frames low more lists free given.count i.kept;
      forgets = record {
        bytes = given.bytes ∙ i.forgets.bytes;
        kept = λ cached k. kept_listed s c.args.range cached c.lists.from c.list_frames-from.result c.list_frames-from.new.list.items
            c.lists.frames c.give_list.new.frames low more lists free given.count (i.forgets.kept cached k);
      };
    }

pub returns : goal.returns
returns g c =
    let high = c.lists.invariant.high in
    let past = c.lists-test.false in
    let all : c.lists.from ≡ c.args.range.end = omega (arith, high, past) in
    subst (λ n. Forgets (g.M.SlotRead.slots c.args.map.now) c.args.frames.now c.lists.frames (upto c.args.range n)) all c.lists.invariant.forgets
