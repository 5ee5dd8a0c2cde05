use Rattle.std.proofs.Common.{◌≡◌, Bool, List, ℕ, [], Some, Vec, ap, cond, sym, subst, ◌∙◌, refl, rules}
use Rattle.std.specs.Prelude.{option_map}
use Rattle.std.specs.declared.alloc.Global.{Global}
use Rattle.core_steps.specs.Machine.{state}
use Rattle.machine_model.specs.declared.setup.CallLimit.TheVariants.{Usual}
use Rattle.state_text.specs.Counts.{counts_at}
use Rattle.word_pictures.specs.Listing.{FailsToList}
use Rattle.word_pictures.proofs.PictureLemmas.{no_list_in_memory, was_not_listed}
use Rattle.word_pictures.proofs.StateLemmas.{was_seen}
use Rattle.word_pictures.proofs.stating.see.Goals as goal
use Rattle.word_pictures.proofs.stating.see.Goals.{in-Some-3, in-None-3}
use denote.Ref.{Bor}

pub returns-clause-ends : goal.returns-clause-ends
returns-clause-ends c =
    let r = c.new-reader.result in
    let known = ap (λ (b : Bool). cond b (Some []) (Some r.reader.now)) c.new-reader.ensures.ended
    ∙ ap (λ (s : Bor (List ℕ)). Some s.now) c.new-reader.ensures.reader in
    let none = ap (λ (v : Vec ℕ Global). Some v.items) c.new-held.ensures.bytes ∙ ap Some c.new-bytes.ensures.items in
    let stood = c.replay_standing-stood.result in
    let machine = option_map state stood.machine in
    let seen = was_seen _ _ c.args.mirror stood.watch machine c.args.trace.now _ _ _ stood.ended _ known none refl c.in_default.is
    c.replay_standing-stood.ensures.seen in
    let counts : c.put_counts_at.new.out.items ≡ counts_at c.args.form machine = search rules in
    elim c.match-stood-4.branch [ in-Some-3 w ↦ (machine, seen, counts) | in-None-3 w ↦ (machine, seen, counts) ]

pub returns-in-Err-clause-ends : goal.returns-in-Err-clause-ends
returns-in-Err-clause-ends c =
    let r = c.new-reader.result in
    let known = ap (λ (b : Bool). cond b (Some []) (Some r.reader.now)) c.new-reader.ensures.ended
    ∙ ap (λ (s : Bor (List ℕ)). Some s.now) c.new-reader.ensures.reader in
    let none = ap (λ (v : Vec ℕ Global). Some v.items) c.new-held.ensures.bytes ∙ ap Some c.new-bytes.ensures.items in
    let fails = was_not_listed _ _ Usual c.args.trace.now _ _ _ c.replay_standing-stood.result.ended c.in-Err.fault known none refl
    c.in-Err.is c.replay_standing-stood.ensures.ends in
    subst (FailsToList Usual c.args.trace.now) (sym c.in_memory.ensures.value) (no_list_in_memory Usual c.args.trace.now c.in-Err.fault fails)
