use Rattle.std.proofs.Common.{◌≡◌, Some, true, refl}
use Rattle.std.proofs.lemmas.Result.{on_ok_weaker}
use Rattle.trace_text.specs.Line.{are_printable, line_of}
use Rattle.trace_text.specs.Front.{access_asked, step_asked}
use Rattle.trace_text.specs.declared.line.Line.TheVariants.{Act, Now}
use Rattle.trace.proofs.Acting.{event_acts, event_failed}
use Rattle.trace.proofs.Seeing.{event_line_grows}
use Rattle.trace.proofs.replayer.ReplayerStaged.act.Goals as goal

pub returns-in-Some : goal.returns-in-Some
returns-in-Some g c =
    let p : are_printable c.args.line.now ≡ true = c.in-Some.ensures.printable in
    let e : Some (Now c.in-Some.begun.0 (access_asked c.in-Some.begun.1)) ≡ line_of c.args.line.now = c.in-Some.ensures.said in
    record {
      ok = on_ok_weaker c.act_on_access.result (λ h. event_acts _ _ c.args.line.now _ (Some (Now c.in-Some.begun.0 (access_asked c.in-Some.begun.1))) p e refl h)
          c.act_on_access.ensures.ok;
      seen = on_ok_weaker c.act_on_access.result (λ h first lines before s. event_line_grows g.X.Watch.after first.watch c.args.self.now.watch
          c.act_on_access.new.self.watch _ _ lines c.args.line.now before c.act_on_access.new.text.bytes
          (Some (Now c.in-Some.begun.0 (access_asked c.in-Some.begun.1))) e h s)
          c.act_on_access.ensures.seen;
      err = event_failed g.L.Ledger.keeps c.act_on_access.result _ c.args.number c.args.line.now
          (Some (Now c.in-Some.begun.0 (access_asked c.in-Some.begun.1))) p e refl c.act_on_access.ensures.err;
    }

pub returns-in-Some-read_step : goal.returns-in-Some-read_step
returns-in-Some-read_step g c =
    let p : are_printable c.args.line.now ≡ true = c.in-Some-read_step.ensures.printable in
    let e : Some (Act c.in-Some-read_step.told.0 (step_asked c.in-Some-read_step.told.1)) ≡ line_of c.args.line.now = c.in-Some-read_step.ensures.said in
    record {
      ok = on_ok_weaker c.act_on_step.result (λ h. event_acts _ _ c.args.line.now _ (Some (Act c.in-Some-read_step.told.0
          (step_asked c.in-Some-read_step.told.1))) p e refl h) c.act_on_step.ensures.ok;
      seen = on_ok_weaker c.act_on_step.result (λ h first lines before s. event_line_grows g.X.Watch.after first.watch c.args.self.now.watch
          c.act_on_step.new.self.watch _ _ lines c.args.line.now before c.act_on_step.new.text.bytes
          (Some (Act c.in-Some-read_step.told.0 (step_asked c.in-Some-read_step.told.1))) e h s)
          c.act_on_step.ensures.seen;
      err = event_failed g.L.Ledger.keeps c.act_on_step.result _ c.args.number c.args.line.now
          (Some (Act c.in-Some-read_step.told.0 (step_asked c.in-Some-read_step.told.1))) p e refl c.act_on_step.ensures.err;
    }
