use Rattle.std.proofs.Common.{ℕ, ◌+◌, ◌*◌, ◌/◌, [], ◌∷◌, ◌++◌, take, get_or, ap, ◌∙◌}
use Rattle.trace.specs.declared.log_lines.TheConstants.{PAIRS}
use Rattle.trace.proofs.PairTable.{tens_at, ones_at}
use Rattle.trace.proofs.LogLineLemmas.{two_put}
use Rattle.trace.proofs.log_lines.put_pair.Goals as goal

pub returns-clause-text : goal.returns-clause-text
returns-clause-text c =
    let k = c.args.number in
    let front = take c.args.at c.args.bytes.now in
    two_put c.args.bytes.now c.args.at (get_or PAIRS (2 * k) 0) (get_or PAIRS (2 * k + 1) 0) c.requires.room
    ∙ ap (λ (t : ℕ). front ++ t ∷ get_or PAIRS (2 * k + 1) 0 ∷ []) (tens_at k c.requires.below)
    ∙ ap (λ (o : ℕ). front ++ (48 + k / 10) ∷ o ∷ []) (ones_at k c.requires.below)
