use Rattle.std.proofs.Common.{◌≤◌, ℕ, List, length, subst, sym, ◌∙◌}
use Rattle.trace_io.proofs.LineLemmas.{reads_then, on_err, nothing_comes, found_line, found_long, found_last}
use Rattle.trace_io.specs.Lines.{IsUnbroken}
use Rattle.trace_io.proofs.lines.LineReader.read_line.Goals as goal

pub returns-in-Line-clause-found : goal.returns-in-Line-clause-found
returns-in-Line-clause-found g c =
    reads_then _ _ _ _ _ _ c.loop-self.invariant.kept c.fill.ensures.kept (λ xs ys zs k p q. found_line zs _ _ _ (q ∙ p) c.in-Line.ensures.found)

pub returns-in-TooLong-clause-found : goal.returns-in-TooLong-clause-found
returns-in-TooLong-clause-found g c =
    reads_then _ _ _ _ _ _ c.loop-self.invariant.kept c.fill.ensures.kept (λ xs ys zs k p q. found_long zs _ _ _ (q ∙ p) c.in-TooLong.ensures.found)

pub returns-in_err-fill-clause-kept : goal.returns-in_err-fill-clause-kept
returns-in_err-fill-clause-kept g c =
    on_err _ _ (reads_then _ _ _ _ _ _ c.loop-self.invariant.kept c.fill.ensures.kept (λ xs ys zs k p q. q ∙ p))

pub returns-then-branch-eq0-clause-found : goal.returns-then-branch-eq0-clause-found
returns-then-branch-eq0-clause-found g c =
    let none = c.if-branch-eq0.true in
    let same = c.in_ok-fill.ensures.same none in
    let short = subst (λ (l : List ℕ). length l ≤ 256) (sym same) c.loop-self.invariant.short in
    let unbroken = subst IsUnbroken (sym same) c.loop-self.invariant.unbroken in
    reads_then _ _ _ _ _ _ c.loop-self.invariant.kept c.fill.ensures.kept
    (λ xs ys zs k p q. found_last zs _ _ _ _ (q ∙ p) (nothing_comes _ zs (c.in_ok-fill.ensures.end none) k) short unbroken c.take_last.ensures)
