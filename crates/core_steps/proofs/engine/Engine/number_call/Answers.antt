use Rattle.machine_model.proofs.Words.{◌<◌, [], ◌∷◌, ap, arith, length, length-append, subst, sym}
use Rattle.refcache.specs.Parts.{counts_of}
use Rattle.core_steps.specs.Parts.{parts}
use Rattle.core_steps.proofs.events.Calling.{numbered}
use Rattle.core_steps.proofs.engine.Engine.number_call.Goals as goal

pub returns : goal.returns
returns g c =
    let s = c.args.self.now in
    let requests = g.L.Ledger.requests s.calls.ledger in
    numbered (g.M.SlotRead.slots s.map) (parts s.cores).hardware s.frames (counts_of s.counts) s.objects s.calls.phases.items s.calls.numbers.items
    requests _ (g.L.Ledger.entries s.calls.ledger) _ s.calls.limit s.calls.events c.args.core _ _ c.args.request
    (subst (λ n. c.args.core < n) (sym s.calls.numbered) c.requires.here) c.index.ensures.value c.begin-number.ensures.requests
    c.begin-number.ensures.items
    (omega (arith, c.begin-number.ensures.count, ap length c.begin-number.ensures.requests, length-append requests (c.args.request ∷ [])))
