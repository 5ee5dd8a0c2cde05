use Rattle.std.proofs.Common.{take, ◌++◌, arith, ap, ◌∙◌}
use Rattle.trace.proofs.LogLineLemmas.{front_put}
use Rattle.trace.proofs.log_lines.Leading.put_into.Goals as goal

pub returns-clause-text : goal.returns-clause-text
returns-clause-text c =
    front_put c.args.bytes.now c.put.new.bytes c.args.self.now.digits c.args.at c.args.self.now.len c.put.result (omega (arith, c.requires)) (omega arith)
    c.put.ensures.end c.put.ensures.text
    ∙ ap (λ l. take c.args.at c.args.bytes.now ++ l) c.args.self.now.spelled
