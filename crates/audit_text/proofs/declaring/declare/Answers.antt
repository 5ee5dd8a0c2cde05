use Rattle.std.proofs.Common.{◌+◌, rules, arith, refl}
use Rattle.std.proofs.lemmas.Result.{err_from_is_err_and}
use Rattle.audit_text.specs.Heard.{Front}
use Rattle.audit_text.specs.Legal.{first_map}
use Rattle.audit_text.specs.Steps.{declared_of}
use Rattle.audit_text.proofs.PlaceLemmas.{at_line, bad_at, ended_front, fault_here, place_first, place_more}
use Rattle.audit_text.proofs.declaring.declare.Goals as goal

pub lines-init : goal.lines-init
lines-init g c = record {
  place = place_first _ (declared_of c.args.declaration.now) c.requires.fresh;
  few = c.requires.few;
  most = search rules;
  room = omega arith;
}

pub returns-in_err-said-clause-err : goal.returns-in_err-said-clause-err
returns-in_err-said-clause-err g c =
    let d = declared_of c.lines.declaration in
    let p = err_from_is_err_and c.from_residual.result c.from_residual.ensures.1 in
    rw p.1 (rw p.2 (λ terms. fault_here terms _ _ _ c.lines.number (Front d) (first_map d) c.front_line.result.0.now c.in_err-said.field-0.0
    c.lines.invariant.place refl c.front_line.ensures.lines c.in_err-said.ensures.err))

pub returns-in-Ok-Bad-clause-err : goal.returns-in-Ok-Bad-clause-err
returns-in-Ok-Bad-clause-err g c =
    let d = declared_of c.lines.declaration in
    let bad = rw c.in-Ok-Bad.field-0-is at c.in-Ok-Bad.ensures.adds in
    λ terms. bad_at terms _ _ (c.lines.number + 1) (Front d) (first_map d) c.in_ok-said.said
    (at_line _ _ _ c.lines.number (Front d) c.front_line.result.0.now c.in_ok-said.said c.lines.invariant.place c.front_line.ensures.lines
    c.in_ok-said.ensures.ok)
    refl bad.0 bad.1

pub returns-in-Ok-Ended-clause-ok : goal.returns-in-Ok-Ended-clause-ok
returns-in-Ok-Ended-clause-ok g c =
    let ended = rw c.in-Ok-Ended.field-0-is at c.in-Ok-Ended.ensures.adds in
    ended_front _ _ _ c.lines.number (declared_of c.lines.declaration) (declared_of c.add.new.self) c.front_line.result.0.now c.in_ok-said.said
    c.lines.invariant.place c.front_line.ensures.lines c.in_ok-said.ensures.ok ended

pub lines-preserved : goal.lines-preserved
lines-preserved g c =
    let part = rw c.in-Ok-Part.field-0-is at c.in-Ok-Part.ensures.adds in
    record {
      place = place_more _ _ _ _ _ _ c.front_line.result.0.now c.in_ok-said.said c.lines.invariant.place c.front_line.ensures.lines
          c.in_ok-said.ensures.ok part;
      few = c.in-Ok-Part.ensures.few;
      most = c.lines.invariant.most;
      room = omega (arith, c.front_line.ensures.less, c.lines.invariant.room);
    }
