-- The replies that a run performs are a combination: each entry that it logs is a turn.
use Rattle.machine_model.proofs.Words.{◌≡◌, ◌≢◌, ℕ, zero, suc, ◌==◌, ◌++◌, ◌∷◌, [], Bool, true, false, List, length, Option, Some, None, refl, sym}
use Rattle.machine_model.proofs.Words.{◌∙◌, ap, subst}
use Rattle.machine_model.proofs.Words.{nth, put, Plain, EntryLeads, Replays, Reply, NoFrame, NoMemory, Request}
use Rattle.machine_model.proofs.Words.{World, Step, Run, after_call, to, answer_entry, detach_entry, put_other, put_same}
use Rattle.machine_model.specs.declared.event.Event.{Event}
use Rattle.machine_model.specs.declared.event.Event.TheVariants.{Call, Go}
use Rattle.machine_model.specs.declared.event.Outcome.{Outcome}
use Rattle.machine_model.specs.declared.event.Outcome.TheVariants.{Stepped, Answered}
use Rattle.machine_model.specs.declared.phase.Phase.{Phase}
use Rattle.machine_model.specs.declared.phase.Phase.TheVariants.{Free, Check}
use Rattle.std.proofs.Common.{map, replicate, set}
use Rattle.std.proofs.lemmas.List.{length-replicate, length-set}
use Rattle.vm_base.specs.Plain.{nothing_mapped}
use Rattle.vm_base.proofs.Functions.{eq_true, eq_false}
use Rattle.machine_model.specs.Step.{with_event}
use Rattle.machine_model.specs.Brackets.{IsStoreTo}
use Rattle.machine_model.proofs.Effects.{Status, Closed, Asked, Told, status, statuses, Effect, keeps, tells, detaches, opens, closes, effect_of}
use Rattle.machine_model.proofs.Numbered.{at_new, at_old}
use Rattle.machine_model.proofs.Shapes.{Comes, IsInner, acts, comes, stopped}
use Rattle.machine_model.specs.Invariant.{IsWellFormed}
use Rattle.machine_model.specs.Log.{LeadsTo}
use Rattle.machine_model.proofs.SoundKept.{fine_step, reached_fine}
use Rattle.machine_model.proofs.Logs.{replays_requests}
use Rattle.litmus_merges.specs.declared.asked.Asked.{Asked as Call'}
use Rattle.litmus_merges.specs.Finals.{loads_by}
use Rattle.litmus_merges.proofs.Loads.{loads_are_shown, loads_stay}
use Rattle.litmus_merges.specs.Merging.{IsEnd, Merges, TurnAt, start}
use Rattle.litmus_merges.specs.OneTurn.{TurnsTo}
use Rattle.litmus_outcomes.specs.Performed.{ArePlain, FinalsAreShown, IsAtRest, PerformedAreCombinations, PerformedEndAtRest, PerformsScript, Said, said}
use Rattle.litmus_outcomes.specs.Performed.Said.{Asks, Tells}
use Rattle.litmus_outcomes.proofs.Entries.{answer_turns, copy_turns, entry_leads}
use Rattle.litmus_outcomes.proofs.Handed.{call_says, call_silent, handed, inner_more, reply_says, reply_silent}
use Rattle.litmus_outcomes.proofs.MadeKept.{made_kept}
use Rattle.litmus_outcomes.proofs.Saying.{Agrees, NextCall, agrees_more, all_told, at_first, next_call, none_agrees, others_stay, set_again, untold}

-- ---- a core between two events

-- what is left of the script for a core, and what is still said, by where its call stands
abbrev pub Fits : List Said → List Request → ℕ → Status → List Said → Type 0
Fits left rs number Closed rest = rest ≡ left
Fits left rs number Asked rest = (q : Request) × (nth rs number ≡ Some q) × (Asks q ∷ rest ≡ left)
Fits left rs number (Told y) rest = rest ≡ Tells y ∷ left

carry : (left left' : List Said) (rs rs' : List Request) (number number' : ℕ) (s s' : Status) (rest rest' : List Said) → left' ≡ left → rs' ≡ rs
    → number' ≡ number → s' ≡ s → rest' ≡ rest → Fits left rs number s rest → Fits left' rs' number' s' rest'
carry left left' rs rs' number number' s s' rest rest' el er en es ey h =
    subst (λ (l : List Said). Fits l rs' number' s' rest') (sym el)
    (subst (λ (r : List Request). Fits left r number' s' rest') (sym er)
    (subst (λ (n : ℕ). Fits left rs n s' rest') (sym en)
    (subst (λ (x : Status). Fits left rs number x rest') (sym es)
    (subst (λ (y : List Said). Fits left rs number s y) (sym ey) h))))

fits_more : (left : List Said) (rs : List Request) (q : Request) (number : ℕ) (s : Status) (rest : List Said) → Fits left rs number s rest
    → Fits left (rs ++ q ∷ []) number s rest
fits_more left rs q number Closed rest h = h
fits_more left rs q number Asked rest h = (h.0, at_old rs q number h.0 h.1, h.2)
fits_more left rs q number (Told y) rest h = h

as_is : (left : List Said) (rs : List Request) (number : ℕ) (s x : Status) (rest : List Said) → s ≡ x → Fits left rs number s rest → Fits left rs number x rest
as_is left rs number s x rest e h = subst (λ (y : Status). Fits left rs number y rest) e h

-- ---- a run, from here on

record Here (calls : List Call') (replies : List Reply) (t0 : Plain) (w : World) (es : List Event) (os : List Outcome) : Type 0 where
  told : List (Option Reply)
  map : Plain
  turns : ℕ
  leads : LeadsTo w map
  merges : Merges calls (start calls t0) turns (record { told = told; map = map })
  long : length told ≡ length calls
  agrees : Agrees told replies
  fits : (core : ℕ) → Fits (untold core calls told replies) w.calls.requests (w.calls.number core) (statuses w core) (said core es os)

same_leads : (w v : World) (t : Plain) → LeadsTo w t → v.made ≡ w.made → v.calls.requests ≡ w.calls.requests → v.calls.log ≡ w.calls.log → LeadsTo v t
same_leads w v t h made requests log =
    subst (λ l. Replays v.calls.requests (nothing_mapped v.made.file) l t) (sym log)
    (subst (λ r. Replays r (nothing_mapped v.made.file) w.calls.log t) (sym requests)
    (subst (λ m. Replays w.calls.requests (nothing_mapped m) w.calls.log t) (sym (ap (λ m. m.file) made)) h))

-- ---- an event that logs nothing, and says nothing

quiet : (calls : List Call') (replies : List Reply) (t0 : Plain) (w v : World) (e : Event) (o : Outcome) (es : List Event) (os : List Outcome)
    → Here calls replies t0 w (e ∷ es) (o ∷ os) → IsInner e o → v.made ≡ w.made → v.calls.requests ≡ w.calls.requests → v.calls.number ≡ w.calls.number
    → v.calls.log ≡ w.calls.log → ((d : ℕ) → statuses v d ≡ statuses w d) → Here calls replies t0 v es os
quiet calls replies t0 w v e o es os h i made requests number log stat = record {
  told = h.told;
  map = h.map;
  turns = h.turns;
  leads = same_leads w v h.map h.leads made requests log;
  merges = h.merges;
  long = h.long;
  agrees = h.agrees;
  fits = λ core. carry (untold core calls h.told replies) (untold core calls h.told replies) w.calls.requests v.calls.requests (w.calls.number core)
      (v.calls.number core) (statuses w core) (statuses v core) (said core (e ∷ es) (o ∷ os)) (said core es os) refl requests
      (ap (λ (n : ℕ → ℕ). n core) number) (stat core) (sym (inner_more core e o es os i)) (h.fits core);
}

-- ---- a reply

replied : (calls : List Call') (replies : List Reply) (t0 : Plain) (w v x : World) (e : Event) (o : Outcome) (es : List Event) (os : List Outcome) (c : ℕ)
    (y : Reply) → ArePlain replies → IsWellFormed v → Run v es os x → Here calls replies t0 w (e ∷ es) (o ∷ os) → IsInner e o → v.made ≡ w.made
    → v.calls.requests ≡ w.calls.requests → v.calls.number ≡ w.calls.number → statuses w c ≡ Asked
    → v.calls.log ≡ w.calls.log ++ answer_entry (with_event w) c y ∷ [] → ((d : ℕ) → statuses v d ≡ put (statuses w) c (Told y) d)
    → Here calls replies t0 v es os
replied calls replies t0 w v x e o es os c y plain well run h i made requests number asked log stat = record {
  told = told';
  map = entry.0;
  turns = suc h.turns;
  leads = entry.1;
  merges = (record { told = h.told; map = h.map }, h.merges, (next.at, turn));
  long = length-set h.told next.at (Some y) ∙ h.long;
  agrees = agrees_more h.told replies next.at y h.agrees (next.due ∙ ap Some (sym same));
  fits = λ core. choose core (core == c) refl;
}
  where
    mine : Fits (untold c calls h.told replies) w.calls.requests (w.calls.number c) Asked (said c es os)
    mine = as_is (untold c calls h.told replies) w.calls.requests (w.calls.number c) (statuses w c) Asked (said c es os) asked
        (carry (untold c calls h.told replies) (untold c calls h.told replies) w.calls.requests w.calls.requests (w.calls.number c) (w.calls.number c)
        (statuses w c) (statuses w c) (said c (e ∷ es) (o ∷ os)) (said c es os) refl refl refl refl (sym (inner_more c e o es os i)) (h.fits c))

    next : NextCall c calls h.told replies mine.0 (said c es os)
    next = next_call c calls h.told replies mine.0 (said c es os) mine.2

    told-there : statuses v c ≡ Told y
    told-there = stat c ∙ put_same (statuses w) c (Told y)

    same : y ≡ next.reply
    same = handed es os v x c y next.reply (untold c calls (set h.told next.at (Some y)) replies) well run told-there (next.tells y)

    told' : List (Option Reply)
    told' = set h.told next.at (Some y)

    entry : (u : Plain) × LeadsTo v u × EntryLeads w.calls.requests h.map (answer_entry (with_event w) c y) u
    entry = entry_leads w v h.map (answer_entry (with_event w) c y) h.leads well made requests log

    no_frame : y ≢ NoFrame
    no_frame e' = (plain next.at next.reply next.due).0 (sym same ∙ e')

    no_memory : y ≢ NoMemory
    no_memory e' = (plain next.at next.reply next.due).1 (sym same ∙ e')

    turns_to : TurnsTo h.map c mine.0 (Some y) entry.0
    turns_to = answer_turns w.calls.requests h.map entry.0 (with_event w).calls.events (w.calls.number c) c mine.0 y mine.1 no_frame no_memory entry.2

    turn : TurnAt calls (record { told = h.told; map = h.map }) next.at (record { told = told'; map = entry.0 })
    turn = record {
      call = next.call;
      next = next.next;
      reply = Some y;
      map = entry.0;
      turns = subst (λ (d : ℕ). TurnsTo h.map d next.call.request (Some y) entry.0) (sym next.of)
          (subst (λ (r : Request). TurnsTo h.map c r (Some y) entry.0) (sym next.asks) turns_to);
      is = refl;
    }

    choose : (core : ℕ) (b : Bool) → (core == c) ≡ b
        → Fits (untold core calls told' replies) v.calls.requests (v.calls.number core) (statuses v core) (said core es os)
    choose core true b =
        let one : core ≡ c = eq_true core c b in
        subst (λ (d : ℕ). Fits (untold d calls told' replies) v.calls.requests (v.calls.number d) (statuses v d) (said d es os)) (sym one)
        (as_is (untold c calls told' replies) v.calls.requests (v.calls.number c) (Told y) (statuses v c) (said c es os) (sym told-there)
        (next.tells y ∙ ap (λ (z : Reply). Tells z ∷ untold c calls told' replies) (sym same)))
    choose core false b =
        let ne : core ≢ c = eq_false core c b in
        carry (untold core calls h.told replies) (untold core calls told' replies) w.calls.requests v.calls.requests (w.calls.number core)
        (v.calls.number core) (statuses w core) (statuses v core) (said core (e ∷ es) (o ∷ os)) (said core es os)
        (others_stay core calls h.told replies next.at next.call y next.next.is_call (λ z. ne (sym (sym next.of ∙ z)))) requests
        (ap (λ (n : ℕ → ℕ). n core) number) (stat core ∙ put_other (statuses w) c (Told y) core ne) (sym (inner_more core e o es os i)) (h.fits core)

-- ---- a copy

copied : (calls : List Call') (replies : List Reply) (t0 : Plain) (w v : World) (e : Event) (o : Outcome) (es : List Event) (os : List Outcome) (c page : ℕ)
    (request : Request) → IsWellFormed w → IsWellFormed v → Here calls replies t0 w (e ∷ es) (o ∷ os) → IsInner e o → v.made ≡ w.made
    → v.calls.requests ≡ w.calls.requests → v.calls.number ≡ w.calls.number → statuses w c ≡ Asked
    → nth w.calls.requests (w.calls.number c) ≡ Some request → IsStoreTo request page
    → v.calls.log ≡ w.calls.log ++ detach_entry (with_event w) c page ∷ [] → ((d : ℕ) → statuses v d ≡ statuses w d) → Here calls replies t0 v es os
copied calls replies t0 w v e o es os c page request fine well h i made requests number asked begun store log stat = record {
  told = h.told;
  map = entry.0;
  turns = suc h.turns;
  leads = entry.1;
  merges = (record { told = h.told; map = h.map }, h.merges, (next.at, turn));
  long = h.long;
  agrees = h.agrees;
  fits = λ core. carry (untold core calls h.told replies) (untold core calls h.told replies) w.calls.requests v.calls.requests (w.calls.number core)
      (v.calls.number core) (statuses w core) (statuses v core) (said core (e ∷ es) (o ∷ os)) (said core es os) refl requests
      (ap (λ (n : ℕ → ℕ). n core) number) (stat core) (sym (inner_more core e o es os i)) (h.fits core);
}
  where
    mine : Fits (untold c calls h.told replies) w.calls.requests (w.calls.number c) Asked (said c es os)
    mine = as_is (untold c calls h.told replies) w.calls.requests (w.calls.number c) (statuses w c) Asked (said c es os) asked
        (carry (untold c calls h.told replies) (untold c calls h.told replies) w.calls.requests w.calls.requests (w.calls.number c) (w.calls.number c)
        (statuses w c) (statuses w c) (said c (e ∷ es) (o ∷ os)) (said c es os) refl refl refl refl (sym (inner_more c e o es os i)) (h.fits c))

    next : NextCall c calls h.told replies mine.0 (said c es os)
    next = next_call c calls h.told replies mine.0 (said c es os) mine.2

    entry : (u : Plain) × LeadsTo v u × EntryLeads w.calls.requests h.map (detach_entry (with_event w) c page) u
    entry = entry_leads w v h.map (detach_entry (with_event w) c page) h.leads well made requests log

    same : request ≡ mine.0
    same = let asked' : nth w.calls.requests (w.calls.number c) ≡ Some mine.0 = mine.1 in cc

    turns_to : TurnsTo h.map c mine.0 None entry.0
    turns_to = copy_turns w fine h.map entry.0 h.leads w.calls.requests (with_event w).calls.events (w.calls.number c) page c mine.0
        (subst (λ (q : Request). IsStoreTo q page) same store) entry.2

    turn : TurnAt calls (record { told = h.told; map = h.map }) next.at (record { told = h.told; map = entry.0 })
    turn = record {
      call = next.call;
      next = next.next;
      reply = None;
      map = entry.0;
      turns = subst (λ (d : ℕ). TurnsTo h.map d next.call.request None entry.0) (sym next.of)
          (subst (λ (r : Request). TurnsTo h.map c r None entry.0) (sym next.asks) turns_to);
      is = ap (λ (l : List (Option Reply)). record { told = l; map = entry.0 }) (sym (set_again h.told next.at next.next.untold));
    }

-- ---- a call

called : (calls : List Call') (replies : List Reply) (t0 : Plain) (w : World) (es : List Event) (os : List Outcome) (c : ℕ) (q : Request)
    → Here calls replies t0 w (Call c q ∷ es) (Stepped ∷ os) → statuses w c ≡ Closed → Here calls replies t0 (after_call c q (with_event w)) es os
called calls replies t0 w es os c q h closed = record {
  told = h.told;
  map = h.map;
  turns = h.turns;
  leads = replays_requests w.calls.requests q w.calls.log (nothing_mapped w.made.file) h.map h.leads;
  merges = h.merges;
  long = h.long;
  agrees = h.agrees;
  fits = λ core. choose core (core == c) refl;
}
  where
    v : World
    v = after_call c q (with_event w)

    choose : (core : ℕ) (b : Bool) → (core == c) ≡ b
        → Fits (untold core calls h.told replies) (w.calls.requests ++ q ∷ []) (put w.calls.number c (suc (length w.calls.requests)) core)
        (status (put w.calls.phase c (Check q) core)) (said core es os)
    choose core true b =
        let one : core ≡ c = eq_true core c b in
        let was : said core (Call c q ∷ es) (Stepped ∷ os) ≡ untold core calls h.told replies =
        as_is (untold core calls h.told replies) w.calls.requests (w.calls.number core) (statuses w core) Closed (said core (Call c q ∷ es) (Stepped ∷ os))
        (ap (statuses w) one ∙ closed) (h.fits core) in
        let asks : Fits (untold core calls h.told replies) (w.calls.requests ++ q ∷ []) (suc (length w.calls.requests)) Asked (said core es os) =
        (q, at_new w.calls.requests q, sym (call_says core c q es os (sym one)) ∙ was) in
        carry (untold core calls h.told replies) (untold core calls h.told replies) (w.calls.requests ++ q ∷ []) (w.calls.requests ++ q ∷ [])
        (suc (length w.calls.requests)) (put w.calls.number c (suc (length w.calls.requests)) core) Asked (status (put w.calls.phase c (Check q) core))
        (said core es os) (said core es os) refl refl
        (ap (put w.calls.number c (suc (length w.calls.requests))) one ∙ put_same w.calls.number c (suc (length w.calls.requests)))
        (ap (λ (d : ℕ). status (put w.calls.phase c (Check q) d)) one ∙ ap status (put_same w.calls.phase c (Check q))) refl asks
    choose core false b =
        let ne : core ≢ c = eq_false core c b in
        carry (untold core calls h.told replies) (untold core calls h.told replies) (w.calls.requests ++ q ∷ []) (w.calls.requests ++ q ∷ [])
        (w.calls.number core) (put w.calls.number c (suc (length w.calls.requests)) core) (statuses w core) (status (put w.calls.phase c (Check q) core))
        (said core (Call c q ∷ es) (Stepped ∷ os)) (said core es os) refl refl (put_other w.calls.number c (suc (length w.calls.requests)) core ne)
        (ap status (put_other w.calls.phase c (Check q) core ne)) (sym (call_silent core c q es os (λ z. ne (sym z))))
        (fits_more (untold core calls h.told replies) w.calls.requests q (w.calls.number core) (statuses w core)
        (said core (Call c q ∷ es) (Stepped ∷ os)) (h.fits core))

-- ---- an answer

answered : (calls : List Call') (replies : List Reply) (t0 : Plain) (w : World) (es : List Event) (os : List Outcome) (c : ℕ) (y : Reply)
    → Here calls replies t0 w (Go c ∷ es) (Answered y ∷ os) → statuses w c ≡ Told y → Here calls replies t0 (to c Free (with_event w)) es os
answered calls replies t0 w es os c y h told = record {
  told = h.told;
  map = h.map;
  turns = h.turns;
  leads = h.leads;
  merges = h.merges;
  long = h.long;
  agrees = h.agrees;
  fits = λ core. choose core (core == c) refl;
}
  where
    choose : (core : ℕ) (b : Bool) → (core == c) ≡ b
        → Fits (untold core calls h.told replies) w.calls.requests (w.calls.number core) (status (put w.calls.phase c Free core)) (said core es os)
    choose core true b =
        let one : core ≡ c = eq_true core c b in
        let was : said core (Go c ∷ es) (Answered y ∷ os) ≡ Tells y ∷ untold core calls h.told replies =
        as_is (untold core calls h.told replies) w.calls.requests (w.calls.number core) (statuses w core) (Told y) (said core (Go c ∷ es) (Answered y ∷ os))
        (ap (statuses w) one ∙ told) (h.fits core) in
        let both : Tells y ∷ said core es os ≡ Tells y ∷ untold core calls h.told replies = sym (reply_says core c y es os (sym one)) ∙ was in
        let left : said core es os ≡ untold core calls h.told replies = cc in
        as_is (untold core calls h.told replies) w.calls.requests (w.calls.number core) Closed (status (put w.calls.phase c Free core)) (said core es os)
        (sym (ap (λ (d : ℕ). status (put w.calls.phase c Free d)) one ∙ ap status (put_same w.calls.phase c Free))) left
    choose core false b =
        let ne : core ≢ c = eq_false core c b in
        carry (untold core calls h.told replies) (untold core calls h.told replies) w.calls.requests w.calls.requests (w.calls.number core)
        (w.calls.number core) (statuses w core) (status (put w.calls.phase c Free core)) (said core (Go c ∷ es) (Answered y ∷ os)) (said core es os) refl refl
        refl (ap status (put_other w.calls.phase c Free core ne)) (sym (reply_silent core c y es os (λ z. ne (sym z)))) (h.fits core)

-- ---- every event

one_more : (calls : List Call') (replies : List Reply) (t0 : Plain) (w v x : World) (e : Event) (o : Outcome) (es : List Event) (os : List Outcome)
    → ArePlain replies → IsWellFormed w → Step w e o v → Run v es os x → Here calls replies t0 w (e ∷ es) (o ∷ os) → Here calls replies t0 v es os
one_more calls replies t0 w v x e o es os plain fine step run h = go (comes w e o v step)
  where
    well : IsWellFormed v
    well = (fine_step w v e o fine step).0

    made : v.made ≡ w.made
    made = made_kept w e o v step

    by : Effect (with_event w) e o v → Here calls replies t0 v es os
    by (keeps i k l st) = quiet calls replies t0 w v e o es os h i made k.requests k.number l st
    by (tells c y i k asked l st) = replied calls replies t0 w v x e o es os c y plain well run h i made k.requests k.number asked l st
    by (detaches c page request i k asked number store l st) =
        copied calls replies t0 w v e o es os c page request fine well h i made k.requests k.number asked number store l st
    by (opens c request is-call stepped closed after) =
        let h' : Here calls replies t0 w (Call c request ∷ es) (Stepped ∷ os) =
        subst (λ (a : Event). Here calls replies t0 w (a ∷ es) (Stepped ∷ os)) is-call
        (subst (λ (b : Outcome). Here calls replies t0 w (e ∷ es) (b ∷ os)) stepped h) in
        subst (λ (a : World). Here calls replies t0 a es os) (sym after) (called calls replies t0 w es os c request h' closed)
    by (closes c y is-go answers told after) =
        let h' : Here calls replies t0 w (Go c ∷ es) (Answered y ∷ os) =
        subst (λ (a : Event). Here calls replies t0 w (a ∷ es) (Answered y ∷ os)) is-go
        (subst (λ (b : Outcome). Here calls replies t0 w (e ∷ es) (b ∷ os)) answers h) in
        subst (λ (a : World). Here calls replies t0 a es os) (sym after) (answered calls replies t0 w es os c y h' told)

    go : Comes w e o v → Here calls replies t0 v es os
    go (stopped n i same) = quiet calls replies t0 w v e o es os h i (ap (λ (a : World). a.made) same) (ap (λ (a : World). a.calls.requests) same)
        (ap (λ (a : World). a.calls.number) same) (ap (λ (a : World). a.calls.log) same) (λ d. ap (λ (a : World). statuses a d) same)
    go (acts n shape) = by (effect_of (with_event w) e o v fine.order shape)

-- ---- the end

-- nothing more is said, so each core is through
through : (calls : List Call') (told : List (Option Reply)) (replies : List Reply) (rs : List Request) (number core : ℕ) (s : Status)
    → Fits (untold core calls told replies) rs number s [] → ([] ≡ untold core calls told replies) × (s ≡ Closed)
through calls told replies rs number core Closed h = (h, refl)
through calls told replies rs number core Asked h =
    let next = next_call core calls told replies h.0 [] h.2 in
    let more = next.tells next.reply in
    absurd cc
through calls told replies rs number core (Told y) h = absurd cc

closed_free : (p : Phase) → status p ≡ Closed → p ≡ Free
closed_free Free e = refl
closed_free p e = absurd cc

-- all turns were had, and no core has a call
record Ended (calls : List Call') (replies : List Reply) (t0 : Plain) (v : World) : Type 0 where
  map : Plain
  end : IsEnd calls t0 replies map
  rest : IsAtRest v map
  fine : IsWellFormed v

all_events : (calls : List Call') (replies : List Reply) (t0 : Plain) (w v : World) (es : List Event) (os : List Outcome) → ArePlain replies
    → length replies ≡ length calls → IsWellFormed w → Run w es os v → Here calls replies t0 w es os → Ended calls replies t0 v
all_events calls replies t0 w v [] [] plain each fine run h = subst (Ended calls replies t0) (sym run) (record {
  map = h.map;
  end = (
    h.turns,
    subst (λ (l : List (Option Reply)). Merges calls (start calls t0) h.turns (record { told = l; map = h.map }))
        (all_told calls h.told replies h.long each h.agrees (λ core. (still core).0)) h.merges,
  );
  rest = record { free = λ core. closed_free (w.calls.phase core) (still core).1; leads = h.leads };
  fine = fine;
})
  where
    still : (core : ℕ) → ([] ≡ untold core calls h.told replies) × (statuses w core ≡ Closed)
    still core = through calls h.told replies w.calls.requests (w.calls.number core) core (statuses w core) (h.fits core)
all_events calls replies t0 w v [] (o ∷ os) plain each fine run h = absurd run
all_events calls replies t0 w v (e ∷ es) [] plain each fine run h = absurd run
all_events calls replies t0 w v (e ∷ es) (o ∷ os) plain each fine run h =
    all_events calls replies t0 run.0 v es os plain each (fine_step w run.0 e o fine run.1).0 run.2
    (one_more calls replies t0 w run.0 v e o es os plain fine run.1 run.2 h)

ended : (w v : World) (t : Plain) (es : List Event) (os : List Outcome) (calls : List Call') (replies : List Reply) → IsWellFormed w → IsAtRest w t
    → Run w es os v → PerformsScript calls replies es os → ArePlain replies → Ended calls replies t v
ended w v t es os calls replies fine rest run performs plain =
    all_events calls replies t w v es os plain performs.each fine run (record {
      told = replicate (length calls) None;
      map = t;
      turns = zero;
      leads = rest.leads;
      merges = refl;
      long = length-replicate (length calls) None;
      agrees = none_agrees (length calls) replies;
      fits = λ core. as_is (untold core calls (replicate (length calls) None) replies) w.calls.requests (w.calls.number core) Closed (statuses w core)
          (said core es os) (sym (ap status (rest.free core))) (performs.says core ∙ sym (at_first core calls replies));
    })

pub performed_end_at_rest : PerformedEndAtRest
performed_end_at_rest w v t es os calls replies reached rest run performs plain =
    let z = ended w v t es os calls replies (reached_fine w reached) rest run performs plain in
    (z.map, z.end, z.rest)

pub performed_are_combinations : PerformedAreCombinations
performed_are_combinations w v t es os calls replies reached free leads run performs plain =
    let z = performed_end_at_rest w v t es os calls replies reached (record { free = free; leads = leads }) run performs plain in
    (z.0, z.1)

-- loads then show the map that was left, and leave it
pub finals_shown : FinalsAreShown
finals_shown w v x t es later os ends calls replies finals core addrs reached rest run performs plain again loads whole =
    let z = ended w v t es os calls replies (reached_fine w reached) rest run performs plain in
    let l = ended v x z.map later ends (loads_by core addrs) finals z.fine z.rest again loads whole in
    let still = loads_stay z.map l.map core addrs finals l.end in
    (z.map, z.end, loads_are_shown z.map core addrs finals (l.map, l.end), subst (IsAtRest x) still l.rest)
