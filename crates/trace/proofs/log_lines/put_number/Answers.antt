use Rattle.std.proofs.Common.{◌+◌, ◌/◌, ◌%◌, [], ◌∷◌, ◌++◌, take, decimal, arith, sym, ap, ◌∙◌, append_assoc}
use Rattle.trace.proofs.LogLineLemmas.{two_more}
use Rattle.trace.proofs.log_lines.put_number.Goals as goal

pub returns-clause-text : goal.returns-clause-text
returns-clause-text c =
    let n = c.args.number in
    let front = take c.args.at c.args.bytes.now in
    let last = (48 + n % 100 / 10) ∷ (48 + n % 100 % 10) ∷ [] in
    c.put_pair.ensures.text
    ∙ ap (λ k. take c.put_into-end.result c.put_into-end.new.bytes ++ (48 + k / 10) ∷ (48 + k % 10) ∷ []) c.last_two-last.ensures.last
    ∙ ap (λ l. l ++ last) (c.put_into-end.ensures.text ∙ ap (λ k. front ++ decimal k) c.last_two-last.ensures.leading)
    ∙ append_assoc front (decimal (n / 100)) last
    ∙ ap (λ l. front ++ l) (sym (two_more n (omega (arith, c.if-number-lt100.false)) (omega (arith, c.ranges.number))))
