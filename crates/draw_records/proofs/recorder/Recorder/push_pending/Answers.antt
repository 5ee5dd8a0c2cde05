use Rattle.std.proofs.Common.{arith, refl, sym, ap, ◌∙◌, length}
use Rattle.draw_records.specs.Recording.{Recording}
use Rattle.draw_records.proofs.Pending.{all_called, begin_pending, call_pushed}
use Rattle.draw_records.proofs.recorder.Recorder.push_pending.Goals as goal

pub calls-init : goal.calls-init
calls-init g c = record { few = omega arith; all = λ some. absurd (omega (arith, some)); same = refl; rest = refl }

pub calls-preserved : goal.calls-preserved
calls-preserved g c =
    let same = c.calls.invariant.same in
    let there = c.calls-test.true in
    record {
      few = omega (arith, there);
      all = λ some. ap length (sym same) ∙ c.pending_at-pending.ensures.all;
      same = ap (λ (r : Recording). r.pending) c.push_begin.ensures ∙ (begin_pending c.calls.self c.pending_at-pending.result ∙ same);
      rest = call_pushed c.calls.self _ c.push_begin.new.self _ c.pending_at-pending.result c.calls.at there c.pending_at-pending.ensures.all same
          c.pending_at-pending.ensures.value c.push_begin.ensures c.calls.invariant.rest;
    }

pub returns : goal.returns
returns g c = let past = c.calls-test.false in all_called c.calls.self _ _ c.calls.at (omega (arith, past)) c.calls.invariant.all c.calls.invariant.rest
