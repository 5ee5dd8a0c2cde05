use Rattle.std.proofs.Common.{Bool, List, ℕ, [], Some, Vec, ap, cond, sym, subst, ◌∙◌, refl}
use Rattle.std.specs.declared.alloc.Global.{Global}
use Rattle.word_pictures.specs.Listing.{FailsToList}
use Rattle.word_pictures.proofs.PictureLemmas.{no_list_in_memory, was_listed, was_not_listed}
use Rattle.word_pictures.proofs.listing.list.Goals as goal
use denote.Ref.{Bor}

pub returns-in-Ok-clause-ends : goal.returns-in-Ok-clause-ends
returns-in-Ok-clause-ends c =
    let r = c.new-reader.result in
    let known = ap (λ (b : Bool). cond b (Some []) (Some r.reader.now)) c.new-reader.ensures.ended
    ∙ ap (λ (s : Bor (List ℕ)). Some s.now) c.new-reader.ensures.reader in
    let none = ap (λ (v : Vec ℕ Global). Some v.items) c.new-held.ensures.bytes ∙ ap Some c.new-bytes.ensures.items in
    was_listed _ _ c.args.limit c.args.trace.now _ _ _ c.replay_telling-replayed.result.ended _ known none refl c.in-Ok.is
    c.replay_telling-replayed.ensures.ends

pub returns-in-Err-clause-ends : goal.returns-in-Err-clause-ends
returns-in-Err-clause-ends c =
    let r = c.new-reader.result in
    let known = ap (λ (b : Bool). cond b (Some []) (Some r.reader.now)) c.new-reader.ensures.ended
    ∙ ap (λ (s : Bor (List ℕ)). Some s.now) c.new-reader.ensures.reader in
    let none = ap (λ (v : Vec ℕ Global). Some v.items) c.new-held.ensures.bytes ∙ ap Some c.new-bytes.ensures.items in
    let fails = was_not_listed _ _ c.args.limit c.args.trace.now _ _ _ c.replay_telling-replayed.result.ended c.in-Err.fault known none refl
    c.in-Err.is c.replay_telling-replayed.ensures.ends in
    subst (FailsToList c.args.limit c.args.trace.now) (sym c.in_memory.ensures.value) (no_list_in_memory c.args.limit c.args.trace.now c.in-Err.fault fails)
