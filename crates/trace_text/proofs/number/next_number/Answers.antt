use Rattle.std.proofs.Common.{sym, ◌∙◌}
use Rattle.trace_text.proofs.FrontLemmas.{short_front}
use Rattle.trace_text.proofs.number.next_number.Goals as goal

pub returns-then-is_some : goal.returns-then-is_some
returns-then-is_some c =
    short_front (λ rest. rest.now) c.short_number-short.result c.trimmed-word.result.now c.args.bytes.now (sym c.is_some.ensures ∙ c.if-is_some.true)
    c.short_number-short.ensures c.trimmed-word.ensures
