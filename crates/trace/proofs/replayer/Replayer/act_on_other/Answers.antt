use Rattle.std.proofs.Common.{◌≡◌, Some, true, rules, ap, refl, sym, ◌∙◌}
use Rattle.std.proofs.lemmas.Result.{on_ok_weaker}
use Rattle.trace_text.specs.Line.{are_printable, line_of}
use Rattle.trace_text.specs.declared.line.Line.TheVariants.{Now}
use Rattle.trace.specs.Gives.{is_event}
use Rattle.trace.proofs.Acting.{event_acts, event_failed}
use Rattle.trace.proofs.Seeing.{blank_grows, event_line_grows, file_grows, space_grows}
use Rattle.trace.proofs.replayer.Replayer.act_on_other.Goals as goal

pub returns-in-Blank-clause-seen : goal.returns-in-Blank-clause-seen
returns-in-Blank-clause-seen g c = λ first lines before s. blank_grows g.X.Watch.after first.watch c.args.self.now.watch _ lines c.args.line.now before
    c.clear.new.self.bytes (sym c.read_line-said.ensures ∙ c.in-Some-said.is ∙ ap Some c.in-Blank.is) c.clear.ensures s

pub returns-in-Space-clause-seen : goal.returns-in-Space-clause-seen
returns-in-Space-clause-seen g c =
    on_ok_weaker c.act_on_space.result
    (λ h first lines before s. space_grows g.X.Watch.after first.watch c.args.self.now.watch c.act_on_space.new.self.watch _ _ lines
    c.args.line.now before c.act_on_space.new.text.bytes _ _ _ (sym c.read_line-said.ensures ∙ c.in-Some-said.is ∙ ap Some c.in-Space.is) h
    c.act_on_space.ensures.watch s)
    c.act_on_space.ensures.ok

pub returns-in-File-clause-seen : goal.returns-in-File-clause-seen
returns-in-File-clause-seen g c =
    on_ok_weaker c.act_on_file.result
    (λ h first lines before s. file_grows g.X.Watch.after first.watch c.args.self.now.watch c.act_on_file.new.self.watch _ _ lines
    c.args.line.now before c.act_on_file.new.text.bytes _ _ _ _ (sym c.read_line-said.ensures ∙ c.in-Some-said.is ∙ ap Some c.in-File.is) h
    c.act_on_file.ensures.watch s)
    c.act_on_file.ensures.ok

pub returns-in-Act : goal.returns-in-Act
returns-in-Act g c =
    let p : are_printable c.args.line.now ≡ true = search rules in
    let i : is_event (Some c.in-Some-said.said) ≡ true = search rules in
    let e = sym c.in-Some-said.is ∙ c.read_line-said.ensures in
    record {
      ok = on_ok_weaker c.act_on_event.result (λ h. event_acts _ _ c.args.line.now _ (Some c.in-Some-said.said) p e i h)
          c.act_on_event.ensures.ok;
      seen = on_ok_weaker c.act_on_event.result (λ h first lines before s. event_line_grows g.X.Watch.after first.watch c.args.self.now.watch
          c.act_on_event.new.self.watch _ _ lines c.args.line.now before c.act_on_event.new.text.bytes (Some c.in-Some-said.said) e h s)
          c.act_on_event.ensures.seen;
      err = event_failed g.L.Ledger.keeps c.act_on_event.result _ c.args.number c.args.line.now
          (Some c.in-Some-said.said) p e i c.act_on_event.ensures.err;
    }

pub returns-in-Some : goal.returns-in-Some
returns-in-Some g c =
    let p : are_printable c.args.line.now ≡ true = c.in-Some.ensures.printable in
    let e : Some (Now c.in-Some.begun.0 c.in-Some.begun.1) ≡ line_of c.args.line.now = c.in-Some.ensures.said in
    record {
      ok = on_ok_weaker c.act_on_call.result (λ h. event_acts _ _ c.args.line.now _ (Some (Now c.in-Some.begun.0 c.in-Some.begun.1)) p e refl h)
          c.act_on_call.ensures.ok;
      seen = on_ok_weaker c.act_on_call.result (λ h first lines before s. event_line_grows g.X.Watch.after first.watch c.args.self.now.watch
          c.act_on_call.new.self.watch _ _ lines c.args.line.now before c.act_on_call.new.text.bytes
          (Some (Now c.in-Some.begun.0 c.in-Some.begun.1)) e h s)
          c.act_on_call.ensures.seen;
      err = event_failed g.L.Ledger.keeps c.act_on_call.result _ c.args.number c.args.line.now
          (Some (Now c.in-Some.begun.0 c.in-Some.begun.1)) p e refl c.act_on_call.ensures.err;
    }
