use Rattle.std.proofs.Common.{◌+◌, ◌<◌, ◌∙◌, ap, arith, drop, get_or, sym, subst}
use Rattle.std.proofs.lemmas.List.{drop_all, drop_more}
use Rattle.slot_lock.specs.declared.framed.Framed.{Framed}
use Rattle.frames.specs.Parts.{free_frames}
use Rattle.audit.specs.Keeping.{AreTaken, freed}
use Rattle.audit.proofs.Kept.{freed_more}
use Rattle.audit.proofs.changing.give_list.Goals as goal

-- what an index past the end would read
abbrev unread : Framed
unread = record { page = 0; frame = 0 }

pub give-requires-clause-taken : goal.give-requires-clause-taken
give-requires-clause-taken g c = (subst (λ xs. AreTaken xs c.pages.frames.count (free_frames c.pages.frames))
    (drop_more c.args.list.now c.pages.k unread c.pages-test.true) c.pages.invariant.taken).1

pub give-requires-clause-in_range : goal.give-requires-clause-in_range
give-requires-clause-in_range g c = (subst (λ xs. AreTaken xs c.pages.frames.count (free_frames c.pages.frames))
    (drop_more c.args.list.now c.pages.k unread c.pages-test.true) c.pages.invariant.taken).0

pub pages-preserved : goal.pages-preserved
pages-preserved g c =
    let i = c.pages.invariant in
    let more = drop_more c.args.list.now c.pages.k unread c.pages-test.true in
    let e = c.give.ensures in
    let left = drop (c.pages.k + 1) c.args.list.now in
    record {
      taken = subst (λ n. AreTaken left n (free_frames c.give.new.self)) (sym e.count)
          (subst (λ free. AreTaken left c.pages.frames.count free) (sym e.free)
          (subst (λ xs. AreTaken xs c.pages.frames.count (free_frames c.pages.frames)) more i.taken).2);
      rest = ap (freed left) e.free ∙ (freed_more (get_or c.args.list.now c.pages.k unread) left (free_frames c.pages.frames)
          ∙ (ap (λ xs. freed xs (free_frames c.pages.frames)) (sym more) ∙ i.rest));
      bytes = e.bytes ∙ i.bytes;
      count = e.count ∙ i.count;
    }

-- at the end none is left to be given back
pub returns-clause-free : goal.returns-clause-free
returns-clause-free g c =
    ap (λ xs. freed xs (free_frames c.pages.frames)) (sym (drop_all c.pages.k c.args.list.now (omega (arith, c.pages-test.false))))
    ∙ c.pages.invariant.rest
