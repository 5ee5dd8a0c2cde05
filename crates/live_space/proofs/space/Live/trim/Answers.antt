use Rattle.live_space.proofs.Folding.{fold_noted}
use Rattle.live_space.proofs.space.Live.trim.Goals as goal

pub returns-clause-noted : goal.returns-clause-noted
returns-clause-noted g c = record {
  limit = c.in_ok-reserve_notes.ensures.limit;
  room = c.reserve_notes.new.seat.room;
  noted = fold_noted c.args.seat.now c.reserve_notes.new.seat c.set_plain_fold.new.self c.fold-is_noted.new.seat c.set_plain_go.new.self
      c.args.page c.fold-is_noted.result c.requires.plain c.in_ok-reserve_notes.ensures.same c.set_plain_fold.ensures c.fold-is_noted.ensures.noted
      c.set_plain_go.ensures;
}
