use Rattle.std.proofs.Common.{take, length, ◌+◌, ◌-◌, ◌++◌, arith, ap, ◌∙◌}
use Rattle.std.proofs.lemmas.Slice.{take-put_mid}
use Rattle.trace.proofs.log_lines.put.Goals as goal

pub returns-clause-text : goal.returns-clause-text
returns-clause-text c =
    let same = c.copy_from_slice.ensures.after in
    let end = c.args.at + length c.args.piece.now in
    take-put_mid c.args.at (end - c.args.at) c.args.bytes.now c.copy_from_slice.new.self end (omega (arith, ap length same)) (omega (arith, c.requires))
    ∙ ap (λ l. take c.args.at c.args.bytes.now ++ l) same
