use Rattle.std.proofs.Common.{ap, ◌∙◌, ◌++◌, ℕ, Bool}
use Rattle.state_text.specs.Counts.{flushed_text}
use Rattle.state_seen.proofs.Lines.{three}
use Rattle.state_text.proofs.counts.put_core.Goals as goal

pub returns : goal.returns
returns g c =
    three c.args.out.now.items c.put_deltas.new.out.items c.put_reviews.new.out.items c.put_flushed.new.out.items _ _ _
    c.in_ok-put_deltas.ensures c.in_ok-put_reviews.ensures
    (c.in_ok-put_flushed.ensures ∙ ap (λ b. c.put_reviews.new.out.items ++ flushed_text c.args.form c.args.core b) c.contains-has_flushed.ensures
    ∙ ap (λ (f : ℕ → Bool). c.put_reviews.new.out.items ++ flushed_text c.args.form c.args.core (f c.args.core)) c.flushed.ensures)
