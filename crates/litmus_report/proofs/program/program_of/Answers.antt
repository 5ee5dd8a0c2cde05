use Rattle.litmus_report.proofs.TextLemmas.{alone, joined}
use Rattle.litmus_report.proofs.program.program_of.Goals as goal

pub returns : goal.returns
returns g c =
    let old = c.new-out.result.items in
    let one = joined old _ _ _ _ c.in_ok-add_text.ensures c.in_ok-add_files.ensures in
    let two = joined old _ _ _ _ one c.in_ok-add_text-2.ensures in
    let three = joined old _ _ _ _ two c.in_ok-add_calls.ensures in
    let four = joined old _ _ _ _ three c.in_ok-add_lists.ensures in
    alone old _ _ c.new-out.ensures.items four
