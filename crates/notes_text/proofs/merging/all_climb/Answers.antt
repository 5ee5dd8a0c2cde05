use Rattle.std.proofs.Common.{Bor, List, arith, refl}
use Rattle.seats.specs.declared.noted.Noted.{Noted}
use Rattle.seats.specs.Packing.{shown}
use Rattle.notes_text.proofs.MergeLemmas.{climb_more, climb_whole}
use Rattle.notes_text.proofs.merging.all_climb.Goals as goal

pub lists-preserved : goal.lists-preserved
lists-preserved c = climb_more shown c.args.lists.now c.lists.at c.index-lists-at.result c.lists-test.true c.index-lists-at.is
    (c.if-not-climbs.ensures refl) c.lists.invariant

pub returns : goal.returns
returns c = λ e. climb_whole shown c.args.lists.now c.lists.at (omega (arith, c.lists-test.false)) c.lists.invariant
