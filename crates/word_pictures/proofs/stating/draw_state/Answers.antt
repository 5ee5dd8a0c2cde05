use Rattle.std.proofs.Common.{inl}
use Rattle.std.proofs.KnownBytes.{Keeps-refl}
use Rattle.word_pictures.proofs.StateLemmas.{state_drawn, state_unseen}
use Rattle.word_pictures.proofs.stating.draw_state.Goals as goal

pub returns-in-Ok-see-clause-ends : goal.returns-in-Ok-see-clause-ends
returns-in-Ok-see-clause-ends g c =
    state_drawn c.args.form c.args.at c.args.trace.now c.front_of-front.result.now _ _ c.in-Ok.mirror c.in-Ok-see.sight c.lacking_line-lacking.result
    c.write_seen.result c.front_of-front.ensures c.lacking_line-lacking.ensures c.in-Ok.ensures c.in-Ok-see.ensures.ends
    c.write_seen.ensures.ok c.write_seen.ensures.err

pub returns-in-Err-clause-ends : goal.returns-in-Err-clause-ends
returns-in-Err-clause-ends g c =
    inl (state_unseen c.args.at c.args.trace.now c.front_of-front.result.now _ c.front_of-front.ensures c.in-Err.ensures.ends, Keeps-refl _)
