-- Parts that stand for events.
use Rattle.std.proofs.Common.{◌≡◌, ℕ, zero, suc, ◌+◌, ◌<◌, ◌≤◌, Bool, true, false, List, [], ◌∷◌, ◌++◌, Some, length, drop, get_or, replicate}
use Rattle.std.proofs.Common.{slice_get, refl, sym, ap, ◌∙◌, subst, arith, append-nil, append_assoc}
use Rattle.std.proofs.lemmas.List.{drop_more, drop_all}
use Rattle.vm_base.specs.declared.requests.Request.{Request}
use Rattle.machine_model.specs.declared.event.Event.{Event}
use Rattle.machine_model.specs.declared.event.Event.TheVariants.{Call, Go}
use Rattle.litmus_report.specs.Witness.{StandFor, goes_on}
use Rattle.litmus_report.specs.declared.witness.WitnessLine.{WitnessLine}
use Rattle.litmus_report.specs.declared.witness.WitnessLine.TheVariants.{Now, Finish, One}

replicate_more : {X : Type 0} (n : ℕ) (x : X) (ys : List X) → replicate n x ++ x ∷ ys ≡ replicate (suc n) x ++ ys
replicate_more zero x ys = refl
replicate_more (suc n) x ys = ap (λ l. x ∷ l) (replicate_more n x ys)

-- one step more
pub steps_more : (core from count : ℕ) (events : List Event) (d : Event) → from + count < length events → get_or events (from + count) d ≡ Go core
    → drop from events ≡ replicate count (Go core) ++ drop (from + count) events
    → drop from events ≡ replicate (count + 1) (Go core) ++ drop (from + (count + 1)) events
steps_more core from count events d p is h =
    let one : count + 1 ≡ suc count = omega arith in
    let two : from + (count + 1) ≡ from + count + 1 = omega arith in
    h ∙ ap (λ l. replicate count (Go core) ++ l) (drop_more events (from + count) d p)
    ∙ ap (λ e. replicate count (Go core) ++ e ∷ drop (from + count + 1) events) is
    ∙ replicate_more count (Go core) (drop (from + count + 1) events)
    ∙ ap (λ n. replicate n (Go core) ++ drop (from + count + 1) events) (sym one)
    ∙ ap (λ n. replicate (count + 1) (Go core) ++ drop n events) (sym two)

drop_got : {X : Type 0} (xs : List X) (at : ℕ) (x : X) → slice_get xs at ≡ Some x → drop at xs ≡ x ∷ drop (at + 1) xs
drop_got [] at x e = absurd (cc)
drop_got (y ∷ ys) zero x e = let same : y ≡ x = cc in ap (λ z. z ∷ ys) same
drop_got (y ∷ ys) (suc n) x e = let s : suc n + 1 ≡ suc (n + 1) = omega arith in
    drop_got ys n x e ∙ ap (λ k. x ∷ drop k (y ∷ ys)) (sym s)

-- one event stands for itself
pub one_stands : (events : List Event) (at : ℕ) (d : Event) → at < length events → (parts : List WitnessLine) → StandFor parts (drop (at + 1) events)
    → StandFor (One (get_or events at d) ∷ parts) (drop at events)
one_stands events at d p parts h = (drop (at + 1) events, drop_more events at d p, h)

-- a call with its steps
pub now_stands : (events : List Event) (at count core : ℕ) (request : Request) → slice_get events at ≡ Some (Call core request) → 0 < count
    → drop (at + 1) events ≡ replicate count (Go core) ++ drop (at + 1 + count) events → goes_on core (drop (at + 1 + count) events) ≡ false
    → (parts : List WitnessLine) → StandFor parts (drop (at + 1 + count) events) → StandFor (Now core request ∷ parts) (drop at events)
now_stands events at zero core request is p steps ends parts h = absurd (omega (arith, p))
now_stands events at (suc n) core request is p steps ends parts h =
    (n, drop (at + 1) events, drop (at + 1 + suc n) events, drop_got events at (Call core request) is, (steps, ends), h)

-- the last steps of a call
pub finish_stands : (events : List Event) (at count core : ℕ) → 0 < count → drop at events ≡ replicate count (Go core) ++ drop (at + count) events
    → goes_on core (drop (at + count) events) ≡ false → (parts : List WitnessLine) → StandFor parts (drop (at + count) events)
    → StandFor (Finish core ∷ parts) (drop at events)
finish_stands events at zero core p steps ends parts h = absurd (omega (arith, p))
finish_stands events at (suc n) core p steps ends parts h = (n, drop (at + suc n) events, (steps, ends), h)

-- one part more
pub parts_more : (parts : List WitnessLine) (part : WitnessLine) (events : List Event) (at next : ℕ)
    → ((ps : List WitnessLine) → StandFor ps (drop at events) → StandFor (parts ++ ps) events)
    → ((ps : List WitnessLine) → StandFor ps (drop next events) → StandFor (part ∷ ps) (drop at events))
    → (ps : List WitnessLine) → StandFor ps (drop next events) → StandFor ((parts ++ part ∷ []) ++ ps) events
parts_more parts part events at next all one ps h =
    subst (λ l. StandFor l events) (sym (append_assoc parts (part ∷ []) ps)) (all (part ∷ ps) (one ps h))

-- none is left
pub parts_all : (parts : List WitnessLine) (events : List Event) (at : ℕ) → length events ≤ at
    → ((ps : List WitnessLine) → StandFor ps (drop at events) → StandFor (parts ++ ps) events) → StandFor parts events
parts_all parts events at p all = subst (λ l. StandFor l events) (append-nil parts) (all [] (drop_all at events p))
