-- The lines of a trace make one run.
use Rattle.machine_model.proofs.Words.{◌≡◌, ℕ, zero, suc, ◌≤◌, List, [], ◌∷◌, ◌++◌, Option, None, Some, refl, sym, ap, subst, append_assoc, append-nil}
use Rattle.machine_model.proofs.Words.{IsSomeAnd, Request, World, Step, StepsTo, Run}
use Rattle.machine_model.specs.declared.event.Event.{Event}
use Rattle.machine_model.specs.declared.event.Outcome.{Outcome}
use Rattle.machine_model.specs.declared.event.Outcome.TheVariants.{Stepped, Wait, Idle, Answered, Full}
use Rattle.std.specs.Prelude.{replicate}
use Rattle.radix_range.proofs.New.{new_tree_new}
use Rattle.machine_model.specs.declared.event.Event.TheVariants as Ev
use Rattle.machine_model.proofs.Bracketed.{bracketed}
use Rattle.machine_model.proofs.SoundKept.{runs_sound}
use Rattle.core_steps.specs.declared.machine.Finished.{Finished}
use Rattle.core_steps.specs.declared.machine.Finished.TheVariants.{Last, Stuck}
use Rattle.core_steps.specs.Finishing.{EndsIn}
use Rattle.machine_model.specs.declared.setup.CallLimit.{CallLimit}
use Rattle.watched.proofs.Watched.{replicate_more}
use Rattle.trace_words.specs.Declarations.{DeclarationView, made_by}
use Rattle.trace_text.specs.Line.{line_of}
use Rattle.trace_text.specs.declared.line.Line.{Line}
use Rattle.trace_text.specs.declared.line.Line.TheVariants.{Blank, Space, File, Act, Fold, Finish, Now}
use Rattle.trace_words.specs.Events.{event_of}
use Rattle.trace.specs.FinishedText.{finished_text}
use Rattle.radix_range.specs.Folds.{CanFold, FoldsNode}
use Rattle.trace.specs.Gives.{Gives, TellsFinish, TellsCall}
use Rattle.trace.specs.Stage.{Stage, Start, Declared, Running, Opens, LineActs, EventActs, new_machine}
use Rattle.trace.specs.Runs.{Runs}
use Rattle.trace.proofs.Opening.{few_cores}
use Rattle.trace.specs.EventRuns.{AsksFinish, Asks, AllAsk, IsRun}

-- ---- runs one after another

run_then : (es fs : List Event) (os ps : List Outcome) (w m v : World) → Run w es os m → Run m fs ps v → Run w (es ++ fs) (os ++ ps) v
run_then [] fs [] ps w m v r s = subst (λ x. Run x fs ps v) r s
run_then [] fs (o ∷ os) ps w m v r s = absurd r
run_then (e ∷ es) fs [] ps w m v r s = absurd r
run_then (e ∷ es) fs (o ∷ os) ps w m v r s = (r.0, r.1, run_then es fs os ps r.0 m v r.2 s)

steps_run : (n core : ℕ) (w v : World) → StepsTo w core n v → Run w (replicate n (Ev.Go core)) (replicate n Stepped) v
steps_run zero core w v s = s
steps_run (suc n) core w v s =
    subst (λ es. Run w es (replicate (suc n) Stepped) v) (replicate_more n (Ev.Go core))
    (subst (λ os. Run w (replicate n (Ev.Go core) ++ Ev.Go core ∷ []) os v) (replicate_more n Stepped)
    (run_then (replicate n (Ev.Go core)) (Ev.Go core ∷ []) (replicate n Stepped) (Stepped ∷ []) w s.0 v (steps_run n core w s.0 s.1) (v, s.2, refl)))

-- ---- what a line asks for

-- a line asks for events that lead from w to v
pub record IsMoved (line : Line) (w v : World) (text : List ℕ) : Type 0 where
  pub events : List Event
  pub outcomes : List Outcome
  pub asks : Asks line events outcomes text
  pub run : Run w events outcomes v

pub record IsFinished (core : ℕ) (w v : World) (text : List ℕ) : Type 0 where
  pub events : List Event
  pub outcomes : List Outcome
  pub asks : AsksFinish core events outcomes text
  pub run : Run w events outcomes v

finished : (core n : ℕ) (f : Finished) (w v : World) (text : List ℕ) → EndsIn w core n f v → text ≡ finished_text f → IsFinished core w v text
finished core n (Last o) w v text h t = record {
  events = replicate n (Ev.Go core) ++ Ev.Go core ∷ [];
  outcomes = replicate n Stepped ++ o ∷ [];
  asks = (n, Last o, (h.0, h.1, refl, refl), t);
  run = run_then (replicate n (Ev.Go core)) (Ev.Go core ∷ []) (replicate n Stepped) (o ∷ []) w h.2.0 v (steps_run n core w h.2.0 h.2.1) (v, h.2.2, refl);
}
finished core n Stuck w v text h t = record {
  events = replicate n (Ev.Go core);
  outcomes = replicate n Stepped;
  asks = (n, Stuck, (h.0, refl, refl), t);
  run = steps_run n core w v h.1;
}

told : (core : ℕ) (w v : World) (text : List ℕ) → TellsFinish w core v text → IsFinished core w v text
told core w v text h = finished core h.1.0 h.0 w v text h.1.1 h.2

called : (core : ℕ) (request : Request) (o : Outcome) (w m v : World) (text : List ℕ) → Step w (Ev.Call core request) o m
    → TellsCall m core o v text → IsMoved (Now core request) w v text
called core request Stepped w m v text s h =
    let f : IsFinished core m v text = told core m v text h in
    record {
      events = Ev.Call core request ∷ f.events;
      outcomes = Stepped ∷ f.outcomes;
      asks = (Stepped, (f.events, f.outcomes, f.asks, refl, refl));
      run = (m, s, f.run);
    }
called core request (Wait b) w m v text s h = record {
  events = Ev.Call core request ∷ [];
  outcomes = Wait b ∷ [];
  asks = (Wait b, (refl, refl, h.1));
  run = (m, s, h.0);
}
called core request Idle w m v text s h = record {
  events = Ev.Call core request ∷ [];
  outcomes = Idle ∷ [];
  asks = (Idle, (refl, refl, h.1));
  run = (m, s, h.0);
}
called core request (Answered r) w m v text s h = record {
  events = Ev.Call core request ∷ [];
  outcomes = Answered r ∷ [];
  asks = (Answered r, (refl, refl, h.1));
  run = (m, s, h.0);
}
called core request Full w m v text s h = record {
  events = Ev.Call core request ∷ [];
  outcomes = Full ∷ [];
  asks = (Full, (refl, refl, h.1));
  run = (m, s, h.0);
}

moved : (line : Line) (w v : World) (text : List ℕ) → Gives CanFold FoldsNode w line v text → IsMoved line w v text
moved Blank w v text h = absurd h
moved (Space cores frames calls) w v text h = absurd h
moved (File n mode len seed) w v text h = absurd h
moved (Act core action) w v text h = record { events = event_of core action ∷ []; outcomes = h.0 ∷ []; asks = (h.0, refl, refl, h.2); run = (v, h.1, refl) }
moved (Fold page) w v text h = record { events = Ev.Fold page ∷ []; outcomes = h.0 ∷ []; asks = (h.0, refl, refl, h.2); run = (v, h.1, refl) }
moved (Finish core) w v text h =
    let f : IsFinished core w v text = told core w v text h in record { events = f.events; outcomes = f.outcomes; asks = f.asks; run = f.run }
moved (Now core request) w v text h = called core request h.0 w h.1 v text h.2 h.3

-- ---- stages

pub record HasRun (w : World) (es : List Event) (os : List Outcome) : Type 0 where
  pub asked : DeclarationView
  pub few : asked.cores ≤ 64
  pub run : Run (new_machine asked) es os w

-- so many events came before the stage
abbrev pub HasReached : Stage → List Event → List Outcome → Type 0
HasReached (Start limit) es os = (es ≡ []) × (os ≡ [])
HasReached (Declared limit s) es os = (es ≡ []) × (os ≡ [])
HasReached (Running w) es os = HasRun w es os

opened : (s : Stage) (w : World) (es : List Event) (os : List Outcome) → HasReached s es os → Opens s w → HasRun w es os
opened (Start limit) w es os r o = absurd o
opened (Declared limit s) w es os r o = record {
  asked = s;
  few = few_cores limit s o.0;
  run = subst (λ es. Run (new_machine s) es os w) (sym r.0) (subst (λ os. Run (new_machine s) [] os w) (sym r.1) o.1);
}
opened (Running m) w es os r o = subst (λ x. HasRun x es os) (sym o) r

-- the line was acted on: what it asks for comes after what came before
pub record IsNext (line : Line) (new : Stage) (es : List Event) (os : List Outcome) (text : List ℕ) : Type 0 where
  pub events : List Event
  pub outcomes : List Outcome
  pub asks : Asks line events outcomes text
  pub reached : HasReached new (es ++ events) (os ++ outcomes)

nothing_asked : (line : Line) (new : Stage) (es : List Event) (os : List Outcome) (text : List ℕ) → Asks line [] [] text
    → HasReached new es os → IsNext line new es os text
nothing_asked line new es os text a r = record {
  events = [];
  outcomes = [];
  asks = a;
  reached = subst (λ es. HasReached new es (os ++ [])) (sym (append-nil es)) (subst (λ os. HasReached new es os) (sym (append-nil os)) r);
}

event_next : (line : Line) (old new : Stage) (es : List Event) (os : List Outcome) (text : List ℕ) → HasReached old es os
    → EventActs old line new text → IsNext line new es os text
event_next line old new es os text r (w, v, opens, gives, is) =
    let h : HasRun w es os = opened old w es os r opens in
    let m : IsMoved line w v text = moved line w v text gives in
    record {
      events = m.events;
      outcomes = m.outcomes;
      asks = m.asks;
      reached = subst (λ s. HasReached s (es ++ m.events) (os ++ m.outcomes)) (sym is)
          (record {
            asked = h.asked;
            few = h.few;
            run = run_then es m.events os m.outcomes (new_machine h.asked) w v h.run m.run;
          });
    }

space_next : (limit : CallLimit) (a : DeclarationView) (old new : Stage) (es : List Event) (os : List Outcome) → HasReached old es os → old ≡ Start limit
    → new ≡ Declared limit a → HasReached new es os
space_next limit a old new es os r e n = subst (λ x. HasReached x es os) (sym n) (subst (λ x. HasReached x es os) e r)

file_next : (limit : CallLimit) (a b : DeclarationView) (old new : Stage) (es : List Event) (os : List Outcome) → HasReached old es os → old ≡ Declared limit a
    → new ≡ Declared limit b → HasReached new es os
file_next limit a b old new es os r e n = subst (λ x. HasReached x es os) (sym n) (subst (λ x. HasReached x es os) e r)

line_next : (line : Line) (old new : Stage) (es : List Event) (os : List Outcome) (text : List ℕ) → HasReached old es os
    → LineActs old line new text → IsNext line new es os text
line_next Blank old new es os text r a = nothing_asked Blank new es os text (refl, refl, a.1) (subst (λ s. HasReached s es os) (sym a.0) r)
line_next (Space cores frames calls) old new es os text r a =
    nothing_asked (Space cores frames calls) new es os text (refl, refl, a.3) (space_next a.0 _ old new es os r a.1 a.2)
line_next (File n mode len seed) old new es os text r a =
    nothing_asked (File n mode len seed) new es os text (refl, refl, a.5) (file_next a.0 a.1 _ old new es os r a.2 a.4)
line_next (Act core action) old new es os text r a = event_next (Act core action) old new es os text r a
line_next (Fold page) old new es os text r a = event_next (Fold page) old new es os text r a
line_next (Finish core) old new es os text r a = event_next (Finish core) old new es os text r a
line_next (Now core request) old new es os text r a = event_next (Now core request) old new es os text r a

-- the same of a line in bytes
pub record IsTaken (line : Option Line) (new : Stage) (es : List Event) (os : List Outcome) (text : List ℕ) : Type 0 where
  pub events : List Event
  pub outcomes : List Outcome
  pub asks : IsSomeAnd line (λ said. Asks said events outcomes text)
  pub reached : HasReached new (es ++ events) (os ++ outcomes)

taken : (line : Option Line) (old new : Stage) (es : List Event) (os : List Outcome) (text : List ℕ) → HasReached old es os
    → IsSomeAnd line (λ said. LineActs old said new text) → IsTaken line new es os text
taken None old new es os text r a = absurd a
taken (Some line) old new es os text r a =
    let n : IsNext line new es os text = line_next line old new es os text r a in record {
      events = n.events;
      outcomes = n.outcomes;
      asks = n.asks;
      reached = n.reached;
    }

-- ---- lines

pub record AreTaken (lines : List (List ℕ)) (new : Stage) (es : List Event) (os : List Outcome) (text : List ℕ) : Type 0 where
  pub events : List Event
  pub outcomes : List Outcome
  pub asks : AllAsk lines events outcomes text
  pub reached : HasReached new (es ++ events) (os ++ outcomes)

all_taken : (lines : List (List ℕ)) (old new : Stage) (es : List Event) (os : List Outcome) (text : List ℕ) → HasReached old es os
    → Runs old lines new text → AreTaken lines new es os text
all_taken [] old new es os text r h = record {
  events = [];
  outcomes = [];
  asks = (refl, refl, h.1);
  reached = subst (λ s. HasReached s (es ++ []) (os ++ [])) (sym h.0) (subst (λ es. HasReached old es (os ++ [])) (sym (append-nil es))
      (subst (λ os. HasReached old es os) (sym (append-nil os)) r));
}
all_taken (l ∷ ls) old new es os text r (mid, front, rest, short, acts, more, is) =
    let a : IsTaken (line_of l) mid es os front = taken (line_of l) old mid es os front r acts.acts in
    let b : AreTaken ls new (es ++ a.events) (os ++ a.outcomes) rest = all_taken ls mid new (es ++ a.events) (os ++ a.outcomes) rest a.reached more in
    record {
      events = a.events ++ b.events;
      outcomes = a.outcomes ++ b.outcomes;
      asks = record {
        first = a.events;
        later = b.events;
        outcome = a.outcomes;
        outcomes = b.outcomes;
        front = front;
        rest = rest;
        asks = a.asks;
        others = b.asks;
        events = refl;
        came = refl;
        prints = is;
      };
      reached = subst (λ es. HasReached new es (os ++ (a.outcomes ++ b.outcomes))) (append_assoc es a.events b.events)
          (subst (λ os. HasReached new ((es ++ a.events) ++ b.events) os) (append_assoc os a.outcomes b.outcomes) b.reached);
    }

pub traces_are_runs : (limit : CallLimit) (lines : List (List ℕ)) (text : List ℕ) (w : World) → Runs (Start limit) lines (Running w) text
    → IsRun lines text w
traces_are_runs limit lines text w r =
    let a : AreTaken lines (Running w) [] [] text = all_taken lines (Start limit) (Running w) [] [] text (refl, refl) r in
    let h : HasRun w a.events a.outcomes = a.reached in
    record {
      asked = h.asked;
      events = a.events;
      outcomes = a.outcomes;
      asks = a.asks;
      run = h.run;
      sound = runs_sound (made_by h.asked) _ a.events a.outcomes w h.few new_tree_new h.run;
      brackets = bracketed (made_by h.asked) _ a.events a.outcomes w h.few new_tree_new h.run;
    }
