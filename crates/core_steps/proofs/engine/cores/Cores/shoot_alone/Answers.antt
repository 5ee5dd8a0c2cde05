use Rattle.std.proofs.Common.{sym, ◌∙◌}
use Rattle.core_steps.specs.Parts.{parts}
use Rattle.core_steps.proofs.engine.Each.{nothing_dropped, own_dropped}
use Rattle.core_steps.proofs.engine.cores.Cores.shoot_alone.Goals as goal

pub returns-then-contains-clause-after : goal.returns-then-contains-clause-after
returns-then-contains-clause-after g c =
    c.drop_own.ensures.after ∙ sym (own_dropped (parts c.args.self.now).hardware c.args.core c.args.set c.args.range c.requires.alone)

pub returns-else-contains-clause-after : goal.returns-else-contains-clause-after
returns-else-contains-clause-after g c =
    let h = (parts c.args.self.now).hardware in
    sym (own_dropped h c.args.core c.args.set c.args.range c.requires.alone
    ∙ nothing_dropped h c.args.core c.args.range (c.requires.dropped (sym c.contains.ensures ∙ c.if-contains.false)))
