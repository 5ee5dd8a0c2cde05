use Rattle.std.proofs.Common.{Bool, List, ℕ, [], Some, Vec, ap, cond, ◌∙◌, refl}
use Rattle.std.specs.declared.alloc.Global.{Global}
use Rattle.word_pictures.proofs.ChangingLemmas.{was_echoed}
use Rattle.word_pictures.proofs.changing.echoed.Goals as goal
use denote.Ref.{Bor}

pub returns-in-Ok : goal.returns-in-Ok
returns-in-Ok c =
    let r = c.new-reader.result in
    let known = ap (λ (b : Bool). cond b (Some []) (Some r.reader.now)) c.new-reader.ensures.ended
    ∙ ap (λ (s : Bor (List ℕ)). Some s.now) c.new-reader.ensures.reader in
    let none = ap (λ (v : Vec ℕ Global). Some v.items) c.new-held.ensures.bytes ∙ ap Some c.new-bytes.ensures.items in
    was_echoed c.args.shows.coloured c.args.shows.logs _ _ _ c.args.trace.now _ _ _ c.replay_echoing-replayed.result.ended _ known none refl c.in-Ok.is
    c.replay_echoing-replayed.ensures.ends
