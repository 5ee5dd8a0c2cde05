-- Notes that grow step by step
use Rattle.std.proofs.Common.{◌≡◌, ℕ, ◌==◌, ◌+◌, ◌&&◌, true, [], ◌∷◌, ◌++◌, append_assoc, refl, sym, ap, ◌∙◌, subst}
use Rattle.std.specs.List.{list_all}
use Rattle.std.proofs.lemmas.List.{append-nil}
use Rattle.std.proofs.lemmas.Bool.{eq-eqb}
use Rattle.std.proofs.lemmas.List.Folds.{list_all-append}
use Rattle.machine_model.specs.declared.event.Outcome.TheVariants.{Stepped}
use Rattle.seats.specs.declared.noted.Noted.{Noted}
use Rattle.seats.specs.Notes.{SeatView, noted, with_note}
use Rattle.machine_model.specs.declared.event.Event.{Event}
use Rattle.seats.specs.Growing.{IsSame, Grew, Steps, are_steps, is_step}

pub same_trans : (a b c : SeatView) → IsSame a b → IsSame b c → IsSame a c
same_trans a b c h k = record { word = k.word ∙ h.word; spare = k.spare ∙ h.spare; core = k.core ∙ h.core; plain = k.plain ∙ h.plain }

-- of the same seat, where nothing was noted
pub grew_same : (a b : SeatView) → IsSame a b → b.begun ≡ a.begun → b.notes ≡ a.notes → Grew a b
grew_same a b h n e = record { same = h; begun = n; more = []; are = e ∙ sym (append-nil a.notes); steps = λ own. refl }

pub grew_none : (a b : SeatView) → b ≡ a → Grew a b
grew_none a b e = subst (λ c. Grew a c) (sym e) (grew_same a a (record { word = refl; spare = refl; core = refl; plain = refl }) refl refl)

-- but for how much room there is, and where the core looks next, nothing has changed
grew_beside : (a b : SeatView) (r f p : ℕ) → b ≡ record a { room = r; next_frame = f; next_page = p } → Grew a b
grew_beside a b r f p e = grew_same a b (record {
  word = ap (λ (s : SeatView). s.word) e;
  spare = ap (λ (s : SeatView). s.spare) e;
  core = ap (λ (s : SeatView). s.core) e;
  plain = ap (λ (s : SeatView). s.plain) e;
}) (ap (λ (s : SeatView). s.begun) e) (ap (λ (s : SeatView). s.notes) e)

pub grew_room : (a b : SeatView) → b ≡ record a { room = b.room } → Grew a b
grew_room a b e = grew_beside a b b.room a.next_frame a.next_page e

pub grew_next_page : (a b : SeatView) → b ≡ record a { next_page = b.next_page } → Grew a b
grew_next_page a b e = grew_beside a b a.room a.next_frame b.next_page e

-- plain steps that are the core's stay so
pub own_after : (a b : SeatView) → IsSame a b → is_step a.core a.plain Stepped ≡ true → is_step b.core b.plain Stepped ≡ true
own_after a b h own = subst (λ n. is_step n b.plain Stepped ≡ true) (sym h.core)
    (subst (λ (e : Event). is_step a.core e Stepped ≡ true) (sym h.plain) own)

pub grew_trans : (a b c : SeatView) → Grew a b → Grew b c → Grew a c
grew_trans a b c h k = record {
  same = same_trans a b c h.same k.same;
  begun = k.begun ∙ h.begun;
  more = h.more ++ k.more;
  are = k.are ∙ (ap (λ l. l ++ k.more) h.are ∙ append_assoc a.notes h.more k.more);
  steps = λ own.
      let first = h.steps own in
      let then : are_steps a.core k.more ≡ true = subst (λ n. are_steps n k.more ≡ true) h.same.core (k.steps (own_after a b h.same own)) in
      list_all-append (λ (n : Noted). is_step a.core n.event n.outcome) h.more k.more ∙ (λ i. first i && then i);
}

-- a step was noted, which is one of the core's call if plain ones are
note_grew : (s t : SeatView) (n : Noted) → t ≡ with_note s n
    → (is_step s.core s.plain Stepped ≡ true → is_step s.core n.event n.outcome ≡ true) → Grew s t
note_grew s t n e step = record {
  same = record {
    word = ap (λ (s : SeatView). s.word) e;
    spare = ap (λ (s : SeatView). s.spare) e;
    core = ap (λ (s : SeatView). s.core) e;
    plain = ap (λ (s : SeatView). s.plain) e;
  };
  begun = ap (λ (s : SeatView). s.begun) e;
  more = n ∷ [];
  are = ap (λ (s : SeatView). s.notes) e;
  steps = λ own. let is = step own in (λ i. is i && true);
}

-- a step of the core's call was noted, or a take
pub grew_note : (s t : SeatView) (n : Noted) → t ≡ with_note s n → is_step s.core n.event n.outcome ≡ true → Grew s t
grew_note s t n e step = note_grew s t n e (λ own. step)

pub grew_steps : (s t : SeatView) (ticket : ℕ) → Steps s ticket t → Grew s t
grew_steps s t ticket h = note_grew s t (noted ticket s.plain Stepped) h (λ own. own)

-- each core's steps are its own
pub own_core : (core other : ℕ) → core ≡ other → (core == other) ≡ true
own_core core other e = eq-eqb core other e
