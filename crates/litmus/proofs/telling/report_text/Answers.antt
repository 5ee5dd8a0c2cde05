use Rattle.std.proofs.Common.{◌≡◌, map, subst, sym}
use Rattle.litmus_report.specs.Reports.{report_text, row_text}
use Rattle.litmus_report.specs.declared.reporting.Searched.{Searched}
use Rattle.litmus_text.specs.Scripts.{read_of}
use Rattle.litmus.specs.Tells.{known_of}
use Rattle.litmus.proofs.telling.report_text.Goals as goal

pub returns : goal.returns
returns g c =
    let r = read_of c.args.script.now in
    let rows = map row_text c.args.rows.now in
    let told : c.in_ok-text.text.items ≡ report_text c.args.name.now (known_of r c.args.found.now) c.searched_of-searched.result r.clauses rows =
    rw (sym c.as_slice.ensures.value) (rw (sym c.as_slice-2.ensures.value) (rw (sym c.as_slice-3.ensures.value)
    (rw (sym c.as_slice-4.ensures.value) c.in_ok-text.ensures))) in
    record {
      rows = c.args.rows.now;
      order = c.requires.order;
      is = subst (λ (s : Searched). c.in_ok-text.text.items ≡ report_text c.args.name.now (known_of r c.args.found.now) s r.clauses rows)
          c.searched_of-searched.ensures told;
    }
