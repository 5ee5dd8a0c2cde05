-- Requests are looked up by number, and logs grow at their end.
use Rattle.machine_model.proofs.Words.{refl, subst, List, [], ◌∷◌, ◌++◌, Request, Plain, Entry, Detach, EntryLeads, Replays}
use Rattle.vm_base.specs.declared.log.Entry.TheVariants.{Answer}
use Rattle.machine_model.proofs.Numbered.{at_old}

goes_on_more : (rs : List Request) (r : Request) (t : Plain) (e : Entry) (u : Plain) → EntryLeads rs t e u → EntryLeads (rs ++ r ∷ []) t e u
goes_on_more rs r t (Answer step call core reply) u h = (h.0, at_old rs r call h.0 h.1, h.2)
goes_on_more rs r t (Detach step call page) u h = h

-- one request more changes nothing of what the log says
pub replays_requests : (rs : List Request) (r : Request) (es : List Entry) (t u : Plain) → Replays rs t es u → Replays (rs ++ r ∷ []) t es u
replays_requests rs r [] t u h = h
replays_requests rs r (e ∷ es) t u h = (h.0, goes_on_more rs r t e h.0 h.1, replays_requests rs r es h.0 u h.2)

-- one entry more goes on from where the log led
pub replays_more : (rs : List Request) (es : List Entry) (t u v : Plain) (e : Entry) → Replays rs t es u → EntryLeads rs u e v → Replays rs t (es ++ e ∷ []) v
replays_more rs [] t u v e r g = (v, subst (λ x. EntryLeads rs x e v) r g, refl)
replays_more rs (x ∷ xs) t u v e r g = (r.0, r.1, replays_more rs xs r.0 u v e r.2 g)
