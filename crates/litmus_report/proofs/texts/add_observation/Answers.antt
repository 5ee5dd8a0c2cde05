use Rattle.std.proofs.Common.{◌++◌, codes}
use Rattle.litmus_report.specs.Texts.{counts_text}
use Rattle.litmus_report.proofs.TextLemmas.{joined}
use Rattle.litmus_report.proofs.texts.add_observation.Goals as goal

pub returns : goal.returns
returns g c =
    let old = c.args.out.now.items in
    let name = c.args.name.now in
    joined old c.add_text-2.new.out.items c.add_counts.new.out.items (codes "Observation " ++ name ++ codes " ") (counts_text c.args.positive c.args.negative)
    (joined old c.extend_from_slice.new.self.items c.add_text-2.new.out.items (codes "Observation " ++ name) (codes " ")
    (joined old c.add_text.new.out.items c.extend_from_slice.new.self.items (codes "Observation ") name c.in_ok-add_text.ensures
    c.in_ok-extend_from_slice.ensures.items) c.in_ok-add_text-2.ensures) c.in_ok-add_counts.ensures
