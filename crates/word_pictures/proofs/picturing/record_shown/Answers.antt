use Rattle.std.proofs.Common.{Bool, List, ℕ, [], Some, ap, cond, sym, subst, ◌∙◌}
use Rattle.trace.specs.Shown.{limit_for}
use Rattle.word_pictures.specs.Picture.{Fails}
use Rattle.word_pictures.proofs.PictureLemmas.{all_recorded, none_recorded}
use Rattle.word_pictures.proofs.picturing.record_shown.Goals as goal
use denote.Ref.{Bor}

pub returns-in-Ok-clause-ends : goal.returns-in-Ok-clause-ends
returns-in-Ok-clause-ends g c =
    let r = c.new-reader.result in
    let known = ap (λ (b : Bool). cond b (Some []) (Some r.reader.now)) c.new-reader.ensures.ended
    ∙ ap (λ (s : Bor (List ℕ)). Some s.now) c.new-reader.ensures.reader in
    let beside = c.replay_watched-beside.result in
    all_recorded _ _ _ _ beside.watch c.args.show (limit_for c.args.show c.args.limit) c.args.trace.now _ _ beside.replayed.ended c.in-Ok.field-0 known
    c.in-Ok.is c.replay_watched-beside.ensures.ends c.replay_watched-beside.ensures.seen

pub returns-in-Err-clause-ends : goal.returns-in-Err-clause-ends
returns-in-Err-clause-ends g c =
    let r = c.new-reader.result in
    let known = ap (λ (b : Bool). cond b (Some []) (Some r.reader.now)) c.new-reader.ensures.ended
    ∙ ap (λ (s : Bor (List ℕ)). Some s.now) c.new-reader.ensures.reader in
    let limit = limit_for c.args.show c.args.limit in
    subst (Fails limit c.args.trace.now) (sym c.in_memory.ensures.value)
    (none_recorded _ _ c.args.show limit c.args.trace.now _ _ c.replay_watched-beside.result.replayed.ended c.in-Err.fault known c.in-Err.is
    c.replay_watched-beside.ensures.ends)
