use Rattle.std.proofs.Common.{◌+◌, rules, arith}
use Rattle.std.proofs.lemmas.Result.{err_from_is_err_and}
use Rattle.audit_text.proofs.TextLemmas.{lines_empty, some_left}
use Rattle.orders_text.specs.Steps.{read_of}
use Rattle.orders_text.proofs.PlaceLemmas.{fault_here, place_first, place_last, place_more, refused_here}
use Rattle.orders_text.proofs.reading.read_lines.Goals as goal

pub lines-init : goal.lines-init
lines-init g c = record {
  place = place_first _ (read_of c.args.history.now) c.requires.fresh;
  few = c.requires.few;
  places = c.requires.places;
  most = search rules;
  room = omega arith;
}

pub returns-then-is_empty-clause-ok : goal.returns-then-is_empty-clause-ok
returns-then-is_empty-clause-ok g c = place_last _ _ c.lines.number (read_of c.lines.history) c.lines.invariant.place
    (lines_empty _ _ c.is_empty.ensures c.if-is_empty.true)

pub returns-in_err-told-clause-err : goal.returns-in_err-told-clause-err
returns-in_err-told-clause-err g c =
    let p = err_from_is_err_and c.from_residual.result c.from_residual.ensures.1 in
    rw p.1 (rw p.2 (fault_here _ _ _ c.lines.number (read_of c.lines.history) c.front_line.result.0.now c.in_err-told.field-0.0
    c.lines.invariant.place c.front_line.ensures.lines c.in_err-told.ensures.err))

pub returns-in_err-add-clause-err : goal.returns-in_err-add-clause-err
returns-in_err-add-clause-err g c =
    let p = err_from_is_err_and c.from_residual-in_err-add.result c.from_residual-in_err-add.ensures.1 in
    rw p.1 (rw p.2 (refused_here _ _ _ c.lines.number (read_of c.lines.history) c.front_line.result.0.now c.in_ok-told.told c.in_err-add.field-0.0
    c.lines.invariant.place c.front_line.ensures.lines c.in_ok-told.ensures.ok.0 c.in_ok-told.ensures.ok.1 c.in_err-add.ensures.err))

pub overflow_add-number : goal.overflow_add-number
overflow_add-number g c = let left = some_left _ _ c.is_empty.ensures c.if-is_empty.false in
    omega (arith, c.lines.invariant.room, c.lines.invariant.most, left)

pub lines-preserved : goal.lines-preserved
lines-preserved g c = record {
  place = place_more _ _ _ c.lines.number (read_of c.lines.history) (read_of c.add.new.self) c.front_line.result.0.now c.in_ok-told.told
      c.lines.invariant.place c.front_line.ensures.lines c.in_ok-told.ensures.ok.0 c.in_ok-told.ensures.ok.1 c.in_ok-add.ensures.ok;
  few = c.in_ok-add.ensures.few;
  places = c.in_ok-add.ensures.places;
  most = c.lines.invariant.most;
  room = omega (arith, c.front_line.ensures.less, c.lines.invariant.room);
}
