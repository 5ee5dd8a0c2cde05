use Rattle.std.proofs.Common.{◌≡◌, subst, sym}
use Rattle.trace_io.specs.Lines.{lines_of}
use Rattle.litmus_report.specs.Counts.{counts_status, counts_text}
use Rattle.litmus_report.specs.declared.reporting.Searched.{Searched}
use Rattle.litmus_text.specs.Scripts.{read_of}
use Rattle.litmus.specs.Tells.{known_with}
use Rattle.litmus.proofs.telling.judged.Goals as goal

pub returns-in-Ok-clause-ok : goal.returns-in-Ok-clause-ok
returns-in-Ok-clause-ok g c =
    let k = known_with c.args.maps (read_of c.args.script.now) c.args.found.now in
    let lines = lines_of c.args.counts.now in
    let told : c.in-Ok.judged.text.items ≡ counts_text k c.searched_of-searched.result lines =
    rw (sym c.as_slice.ensures.value) (rw (sym c.as_slice-2.ensures.value) (rw (sym c.as_slice-3.ensures.value) c.in-Ok.ensures.text)) in
    let status : c.in-Ok.judged.status ≡ counts_status k c.searched_of-searched.result.whole lines =
    rw (sym c.as_slice.ensures.value) (rw (sym c.as_slice-2.ensures.value) (rw (sym c.as_slice-3.ensures.value) c.in-Ok.ensures.status)) in
    record {
      text_is = subst (λ (s : Searched). c.in-Ok.judged.text.items ≡ counts_text k s lines) c.searched_of-searched.ensures told;
      status_is = subst (λ (s : Searched). c.in-Ok.judged.status ≡ counts_status k s.whole lines) c.searched_of-searched.ensures status;
    }
