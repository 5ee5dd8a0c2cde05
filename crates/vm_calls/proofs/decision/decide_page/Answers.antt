use Rattle.std.proofs.Common.{sym, ◌∙◌}
use Rattle.vm_calls.proofs.OnePage.{absent_by, decides_absent, decides_made, decides_read_only, may_change, may_protect}
use Rattle.vm_calls.proofs.decision.decide_page.Goals as goal
use Rattle.vm_calls.proofs.decision.decide_page.Goals.{in-Protect+else-is_none+else-prot, in_default}
use Rattle.vm_calls.proofs.decision.decide_page.Goals.{else-prot-via-then-prot+else-is_read_only, else-prot-via-else-prot}

pub returns-then-is_none-clause-refused : goal.returns-then-is_none-clause-refused
returns-then-is_none-clause-refused g c =
    decides_absent _ c.args.change _ c.in-Protect.prot c.args.info c.in-Protect.is c.requires.one
    (absent_by c.args.info c.is_none.result c.is_none.ensures ∙ c.if-is_none.true)

pub returns-then-is_read_only-clause-refused : goal.returns-then-is_read_only-clause-refused
returns-then-is_read_only-clause-refused g c =
    decides_read_only _ c.args.change _ c.in-Protect.prot c.args.info c.in-Protect.is c.requires.one
    (absent_by c.args.info c.is_none.result c.is_none.ensures ∙ c.if-is_none.false) c.if-prot.true (sym c.is_read_only.ensures ∙ c.if-is_read_only.true)

pub returns-clause-made : goal.returns-clause-made
returns-clause-made g c =
    decides_made _ c.args.change c.args.info c.recorded_cores.result c.requires.one c.recorded_cores.ensures.recorded (elim c.match-change.branch [
      | in-Protect+else-is_none+else-prot w ↦
          may_protect _ c.args.info c.args.change _ w.in-Protect.prot w.in-Protect.is
          (absent_by c.args.info w.is_none.result w.is_none.ensures ∙ w.if-is_none.false) (elim w.else-prot.branch [
            | else-prot-via-then-prot+else-is_read_only x ↦ λ write. sym x.is_read_only.ensures ∙ x.if-is_read_only.false
            | else-prot-via-else-prot x ↦ λ write. absurd (let not' = x.if-prot.false in cc)
          ])
      | in_default w ↦ may_change _ c.args.info c.args.change w.in_default.not-Protect
    ])
