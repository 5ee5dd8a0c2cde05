use Rattle.std.proofs.Common.{ap, get_or, ◌∙◌, ◌++◌, [], append-nil, arith, sym}
use Rattle.state_seen.specs.Lists.{at_page}
use Rattle.machine_model.specs.declared.phase.Phase.TheVariants.{Free}
use Rattle.state_seen.specs.Held.{nothing_held}
use Rattle.state_text.specs.Texts.{core_text, seen_core}
use Rattle.state_seen.proofs.Lines.{cores_more, cores_none, element}
use Rattle.state_text.proofs.texts.put_cores.Goals as goal

pub cores-init : goal.cores-init
cores-init g c = record {
  written = sym (ap (λ l. c.args.out.now.items ++ l) (cores_none (seen_core c.args.form c.args.phases.now c.args.cores.now c.args.tables.now))
      ∙ append-nil c.args.out.now.items);
}

pub cores-preserved : goal.cores-preserved
cores-preserved g c =
    let n = c.cores.index in
    let many = c.requires.phases in
    let all = c.requires.cores in
    let each = c.requires.tables in
    let below = c.cores-test.true in
    let phase = c.index-phases-at.result in
    let held = c.index-cores-at.result in
    let table = c.index-tables-at.result in
    record {
      written = cores_more (seen_core c.args.form c.args.phases.now c.args.cores.now c.args.tables.now) n c.args.out.now.items c.cores.out.items
          c.put_core.new.out.items c.cores.invariant.written
          (c.in_ok-put_core.ensures
          ∙ ap (λ k. c.cores.out.items ++ core_text c.args.form k phase held (at_page table)) c.new.ensures
          ∙ ap (λ p. c.cores.out.items ++ core_text c.args.form n p held (at_page table))
          (element c.args.phases.now n c.from-at.result phase Free c.from-at.ensures c.index-phases-at.is (omega (arith, many, below)))
          ∙ ap (λ h. c.cores.out.items ++ core_text c.args.form n (get_or c.args.phases.now n Free) h (at_page table))
          (element c.args.cores.now n c.from-at.result held nothing_held c.from-at.ensures c.index-cores-at.is (omega (arith, all, below)))
          ∙ ap (λ t. c.cores.out.items ++ core_text c.args.form n (get_or c.args.phases.now n Free) (get_or c.args.cores.now n nothing_held) (at_page t))
          (element c.args.tables.now n c.from-at.result table [] c.from-at.ensures c.index-tables-at.is (omega (arith, each, below))));
    }
