use Rattle.std.proofs.Common.{◌≡◌, ◌<◌, ℕ, Bool, true, false, ap, ◌∙◌, arith, length, sym, refl, cond, ◌==◌, ◌++◌, ◌∷◌, [], is_some}
use Rattle.std.proofs.lemmas.Nat.Bits.{bit_at-zero}
use Rattle.vm_base.specs.Functions.{put}
use Rattle.vm_base.specs.Cores.{members}
use Rattle.mmu.specs.Inboxes.{inbox, owner}
use Rattle.mmu.specs.Messages.{message_of, posted}
use Rattle.mmu.proofs.Targets.{done, sent_to, sent_next, not_done, all_done, none_done, passed_next}
use Rattle.mmu.proofs.inboxes.deliver.Goals as goal

pub targets-init : goal.targets-init
targets-init c = record {
  left = λ k e. e;
  passed = λ k h. absurd (omega arith);
  owners = refl;
  messages = none_done c.args.from c.args.range (members c.args.to) (inbox c.args.inboxes.now);
}

pub returns-in_default-clause-messages : goal.returns-in_default-clause-messages
returns-in_default-clause-messages c =
    let none : c.targets.rest ≡ 0 = c.in_default.ensures.none in
    c.targets.invariant.messages ∙ all_done c.args.from c.args.range (members c.args.to) (members c.targets.rest)
    (inbox c.args.inboxes.now) (λ k. rw none (ap (λ b. b == 1) (bit_at-zero k)))

pub post_at-requires-clause-other : goal.post_at-requires-clause-other
post_at-requires-clause-other c = λ e.
    let t = c.in-Some.target in
    let there : members c.args.to t ≡ true = c.targets.invariant.left t c.in-Some.ensures.member in
    let own : owner c.targets.inboxes t ≡ t = ap (λ f. f t) c.targets.invariant.owners ∙ c.requires.own t (c.requires.within t there) in
    let same : members c.args.to c.args.from ≡ true = ap (members c.args.to) (e ∙ own) ∙ there in
    let other : members c.args.to c.args.from ≡ false = c.requires.others in
    cc

pub post_at-requires-clause-none : goal.post_at-requires-clause-none
post_at-requires-clause-none c =
    let t = c.in-Some.target in
    let same : inbox c.targets.inboxes t ≡ inbox c.args.inboxes.now t = ap (λ f. f t) c.targets.invariant.messages
    ∙ ap (λ b. cond b (inbox c.args.inboxes.now t ++ posted c.args.from c.args.range ∷ []) (inbox c.args.inboxes.now t))
    (not_done (members c.args.to) (members c.targets.rest) t c.in-Some.ensures.member) in
    ap (λ ms. is_some (message_of ms c.args.from)) same ∙ c.requires.idle t

pub targets-preserved : goal.targets-preserved
targets-preserved c =
    let t = c.in-Some.target in
    let to = members c.args.to in
    let rest = members c.targets.rest in
    let start = inbox c.args.inboxes.now in
    let member : rest t ≡ true = c.in-Some.ensures.member in
    let less : members c.without-rest.result ≡ put rest t false = c.without-rest.ensures in
    let there : to t ≡ true = c.targets.invariant.left t member in
    record {
      left = λ k e. c.targets.invariant.left k (was rest t k (sym (ap (λ f. f k) less) ∙ e));
      passed = λ k h. ap (λ f. f k) less ∙ passed_next rest c.targets._turn t c.targets.invariant.passed member c.in-Some.ensures.least k h;
      owners = c.post_at.ensures.owners ∙ c.targets.invariant.owners;
      messages = c.post_at.ensures.messages
          ∙ ap (λ f. put f t (f t ++ posted c.args.from c.args.range ∷ [])) c.targets.invariant.messages
          ∙ sent_next c.args.from c.args.range to rest start t there member
          ∙ ap (λ f. sent_to c.args.from c.args.range (done to f) start) (sym less);
    }
  where
    was : (f : ℕ → Bool) (t k : ℕ) → put f t false k ≡ true → f k ≡ true
    was f t k e = go (k == t) e
      where
        go : (b : Bool) → cond b false (f k) ≡ true → f k ≡ true
        go true h = absurd (cc)
        go false h = h

pub returns-clause-messages : goal.returns-clause-messages
returns-clause-messages c =
    c.targets.invariant.messages ∙ all_done c.args.from c.args.range (members c.args.to) (members c.targets.rest)
    (inbox c.args.inboxes.now) (λ k. none k (members c.targets.rest k) refl)
  where
    none : (k : ℕ) (b : Bool) → members c.targets.rest k ≡ b → members c.targets.rest k ≡ false
    none k false e = e
    none k true e =
        let in_range : k < length c.args.inboxes.now = c.requires.within k (c.targets.invariant.left k e) in
        c.targets.invariant.passed k (omega arith)
