use Rattle.std.proofs.Common.{refl}
use Rattle.frames.specs.Files.{files_of}
use Rattle.vm_calls.proofs.Surveyed.{may_change, may_protect, none_read_only, protected_range, surveyed_absent, surveyed_made, surveyed_read_only}
use Rattle.vm_calls.proofs.decision.decide_surveyed.Goals as goal
use Rattle.vm_calls.proofs.decision.decide_surveyed.Goals.{in-Protect+else-found+then-prot+then-found-2+else-has_read_only}
use Rattle.vm_calls.proofs.decision.decide_surveyed.Goals.{in-Protect+else-found+else-prot, else-prot-via-then-prot+else-found-2}
use Rattle.vm_calls.proofs.decision.decide_surveyed.Goals.{else-prot-via-else-prot, in_default}

pub returns-then-found-clause-refused : goal.returns-then-found-clause-refused
returns-then-found-clause-refused g c =
    surveyed_absent (files_of c.args.objects.now) (g.M.SlotRead.slots c.args.map.now) c.args.change c.in-Protect.range c.in-Protect.prot c.args.found c.in-Protect.is c.requires.survey c.if-found.true

pub returns-then-has_read_only-clause-refused : goal.returns-then-has_read_only-clause-refused
returns-then-has_read_only-clause-refused g c =
    surveyed_read_only (files_of c.args.objects.now) (g.M.SlotRead.slots c.args.map.now) c.args.change c.in-Protect.range c.in-Protect.prot c.args.found c.in-Protect.is c.requires.survey c.if-found.false
    c.if-prot.true ((c.if-has_read_only.ensures {u = tt}).0 refl)

pub returns-clause-made : goal.returns-clause-made
returns-clause-made g c =
    surveyed_made (files_of c.args.objects.now) (g.M.SlotRead.slots c.args.map.now) c.args.change c.args.found c.requires.survey (elim c.match-change.branch [
      | in-Protect+else-found+then-prot+then-found-2+else-has_read_only w ↦
          may_protect (files_of c.args.objects.now) (g.M.SlotRead.slots c.args.map.now) c.args.change w.in-Protect.range w.in-Protect.prot c.args.found w.in-Protect.is c.requires.survey w.if-found.false
          (λ _ bad. absurd (let wrong = (w.if-has_read_only.ensures {u = tt}).1 bad in cc))
      | in-Protect+else-found+else-prot w ↦
          may_protect (files_of c.args.objects.now) (g.M.SlotRead.slots c.args.map.now) c.args.change w.in-Protect.range w.in-Protect.prot c.args.found w.in-Protect.is c.requires.survey w.if-found.false
          (elim w.else-prot.branch [
            | else-prot-via-then-prot+else-found-2 x ↦ λ _. none_read_only (files_of c.args.objects.now) (g.M.SlotRead.slots c.args.map.now) w.in-Protect.range c.args.found (protected_range (g.M.SlotRead.slots c.args.map.now) c.args.change w.in-Protect.range w.in-Protect.prot c.args.found w.in-Protect.is c.requires.survey)
                x.if-found-2.false
            | else-prot-via-else-prot x ↦ λ write. absurd (let not' = x.if-prot.false in cc)
          ])
      | in_default w ↦ may_change (files_of c.args.objects.now) (g.M.SlotRead.slots c.args.map.now) c.args.change w.in_default.not-Protect
    ])
