-- Calls that end, in their seats' notes
use Rattle.std.proofs.Common.{◌≡◌, ◌≢◌, ℕ, ◌+◌, ◌&&◌, true, List, [], ◌∷◌, ◌++◌, append_assoc, refl, sym, ap, subst, ◌∙◌}
use Rattle.std.proofs.lemmas.List.{append-nil}
use Rattle.std.proofs.lemmas.List.Folds.{list_all-append}
use Rattle.machine_model.specs.declared.event.Event.TheVariants.{Call, Go, GiveUp}
use Rattle.machine_model.specs.declared.event.Outcome.TheVariants.{Stepped, Answered}
use Rattle.seats.specs.Growing.{Grew, GivenUp, GivesUp, IsSame, OneCall, are_steps, is_step}
use Rattle.seats.specs.Notes.{SeatView, noted, with_note}
use Rattle.seats.specs.declared.noted.Noted.{Noted}
use Rattle.seats.proofs.Growing.{grew_none, grew_steps, grew_trans, own_after, same_trans}
use Rattle.vm_base.specs.declared.replies.Reply.{Reply}
use Rattle.vm_base.specs.declared.replies.Reply.TheVariants.{Mapped, Done, Byte, Refused, Segv, Bus, NoFrame, NoMemory}
use Rattle.vm_base.specs.declared.requests.Request.{Request}
use Rattle.live_pages.specs.Ending.{Answers, Ends, Finishes, GivesUpFor}
use Rattle.live_pages.specs.Steps.{StepsAndAnswers}

-- no reply but NoMemory has it noted that the call is given up
pub never_given : (core : ℕ) (reply : Reply) → reply ≢ NoMemory → GivenUp core reply []
never_given core (Mapped n) not_ = refl
never_given core Done not_ = refl
never_given core (Byte n) not_ = refl
never_given core (Refused e) not_ = refl
never_given core (Segv c) not_ = refl
never_given core Bus not_ = refl
never_given core NoFrame not_ = refl
never_given core NoMemory not_ = absurd (not_ refl)

pub gives_nothing : (s : SeatView) (reply : Reply) → reply ≢ NoMemory → GivesUpFor s reply s
gives_nothing s reply not_ = record {
  same = record { word = refl; spare = refl; core = refl; plain = refl };
  begun = refl;
  given = [];
  are = sym (append-nil s.notes);
  given_up = never_given s.core reply not_;
}

pub gives_up : (s t : SeatView) → GivesUp s t → GivesUpFor s NoMemory t
gives_up s t h = record {
  same = record {
    word = ap (λ (v : SeatView). v.word) h.1;
    spare = ap (λ (v : SeatView). v.spare) h.1;
    core = ap (λ (v : SeatView). v.core) h.1;
    plain = ap (λ (v : SeatView). v.plain) h.1;
  };
  begun = ap (λ (v : SeatView). v.begun) h.1;
  given = noted h.0 (GiveUp s.core) Stepped ∷ [];
  are = ap (λ (v : SeatView). v.notes) h.1;
  given_up = (h.0, refl);
}

-- the rest of a call, after steps of it
pub ends_after : (s t u : SeatView) (reply : Reply) → Grew s t → Ends t reply u → Ends s reply u
ends_after s t u reply g e = record {
  before = e.before;
  given = e.given;
  grew = grew_trans s t e.before g e.grew;
  gives = e.gives;
  finishes = e.finishes;
}

-- the answer, after steps of the call
pub finishes_with : (s t u : SeatView) (reply : Reply) → Grew s t → Answers t reply u → Finishes s reply u
finishes_with s t u reply g a = record { before = t; grew = g; answers = a }

-- the same of a call that isn't given up
pub ends_with : (s t u : SeatView) (reply : Reply) → Grew s t → Answers t reply u → reply ≢ NoMemory → Ends s reply u
ends_with s t u reply g a not_ = record {
  before = s;
  given = s;
  grew = grew_none s s refl;
  gives = gives_nothing s reply not_;
  finishes = finishes_with s t u reply g a;
}

-- the rest of a call that was given up, where its reply says so
pub ends_given : (s t u : SeatView) (reply : Reply) → GivesUpFor s reply t → Finishes t reply u → Ends s reply u
ends_given s t u reply g f = record { before = s; given = t; grew = grew_none s s refl; gives = g; finishes = f }

-- the answer, right after a step
pub ends_next : (s t : SeatView) (reply : Reply) → StepsAndAnswers s reply t → reply ≢ NoMemory → Ends s reply t
ends_next s t reply h not_ = ends_with s h.between t reply (grew_steps s h.between h.steps.0 h.steps.1) h.answers not_

-- no call begins in the rest of one
pub begun_once : (s t : SeatView) (reply : Reply) → Ends s reply t → t.begun ≡ s.begun
begun_once s t reply e = ap (λ (v : SeatView). v.begun) e.finishes.answers.1
    ∙ (e.finishes.grew.begun ∙ (e.gives.begun ∙ e.grew.begun))

-- all of a call: its beginning, and the rest of it
pub one_call : (s b t : SeatView) (request : Request) (reply : Reply) (first : ℕ) → IsSame s b
    → b.notes ≡ s.notes ++ noted first (Call s.core request) Stepped ∷ [] → is_step b.core b.plain Stepped ≡ true → Ends b reply t → OneCall s request reply t
one_call s b t request reply first same begins own e = record {
  same = same_trans s e.finishes.before t last_same (record {
    word = ap (λ (v : SeatView). v.word) e.finishes.answers.1;
    spare = ap (λ (v : SeatView). v.spare) e.finishes.answers.1;
    core = ap (λ (v : SeatView). v.core) e.finishes.answers.1;
    plain = ap (λ (v : SeatView). v.plain) e.finishes.answers.1;
  });
  first = first;
  last = e.finishes.answers.0;
  before = before;
  given = given;
  after = after;
  are = ap (λ (v : SeatView). v.notes) e.finishes.answers.1
      ∙ (ap (λ n. e.finishes.before.notes ++ noted e.finishes.answers.0 (Go n) (Answered reply) ∷ []) last_same.core
      ∙ ap (λ l. l ++ noted e.finishes.answers.0 (Go s.core) (Answered reply) ∷ []) noted_so);
  steps = list_all-append (λ (n : Noted). is_step s.core n.event n.outcome) before after ∙ (λ i. steps_before i && steps_after i);
  given_up = subst (λ n. GivenUp n reply given) before_same.core e.gives.given_up;
}
  where
    before : List Noted
    before = e.grew.more

    given : List Noted
    given = e.gives.given

    after : List Noted
    after = e.finishes.grew.more

    before_same : IsSame s e.before
    before_same = same_trans s b e.before same e.grew.same

    given_same : IsSame s e.given
    given_same = same_trans s e.before e.given before_same e.gives.same

    last_same : IsSame s e.finishes.before
    last_same = same_trans s e.given e.finishes.before given_same e.finishes.grew.same

    steps_before : are_steps s.core before ≡ true
    steps_before = subst (λ n. are_steps n before ≡ true) same.core (e.grew.steps own)

    steps_after : are_steps s.core after ≡ true
    steps_after = subst (λ n. are_steps n after ≡ true) given_same.core
        (e.finishes.grew.steps (own_after e.before e.given e.gives.same (own_after b e.before e.grew.same own)))

    begin : List Noted
    begin = noted first (Call s.core request) Stepped ∷ []

    noted_so : e.finishes.before.notes ≡ s.notes ++ noted first (Call s.core request) Stepped ∷ (before ++ given ++ after)
    noted_so = e.finishes.grew.are ∙ (ap (λ l. l ++ after) (e.gives.are ∙ ap (λ l. l ++ given) (e.grew.are ∙ ap (λ l. l ++ before) begins))
        ∙ (ap (λ l. l ++ after) (append_assoc (s.notes ++ begin) before given) ∙ (append_assoc (s.notes ++ begin) (before ++ given) after
        ∙ append_assoc s.notes begin (before ++ given ++ after))))
