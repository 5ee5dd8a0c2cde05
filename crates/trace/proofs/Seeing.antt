-- What is seen of lines, and of a whole replay
use Rattle.machine_model.proofs.Words.{◌≡◌, ℕ, ◌≤◌, List, [], ◌∷◌, ◌++◌, Option, None, Some, Result, Ok, Err, OnOk, length, refl, sym, ap, ◌∙◌, subst}
use Rattle.machine_model.proofs.Words.{append_assoc, append-nil, IfOk, IsSomeAnd, Keeps, Appends, Appends-nil, Appends-trans, Appends-kept, Request, Mode}
use Rattle.machine_model.proofs.Words.{World, Step}
use Rattle.machine_model.specs.declared.event.Event.{Event}
use Rattle.machine_model.specs.declared.event.Outcome.{Outcome}
use Rattle.machine_model.specs.declared.event.Outcome.TheVariants.{Stepped, Wait, Idle, Answered, Full}
use Rattle.machine_model.specs.declared.event.Event.TheVariants as Ev
use Rattle.core_steps.specs.declared.machine.Finished.{Finished}
use Rattle.core_steps.specs.declared.machine.Finished.TheVariants.{Last}
use Rattle.watched.specs.Watching.{Watches, WatchesAfter, WatchesCall, WatchesFinish}
use Rattle.watched.proofs.Watched.{watches_then}
use Rattle.trace_io.specs.Lines.{lines_of, TakesLine}
use Rattle.trace_text.specs.Line.{line_of}
use Rattle.trace_text.specs.declared.line.Line.{Line}
use Rattle.trace_text.specs.declared.line.Line.TheVariants.{Blank, Space, File, Act, Fold, Finish, Now}
use Rattle.trace_words.specs.declared.fault.TraceFault.{TraceFault}
use Rattle.trace_words.specs.declared.show.Show.{Show}
use Rattle.trace_words.specs.Declarations.{DeclarationView}
use Rattle.trace.specs.EventRuns.{AllAsk, Asks, AsksCall, AsksFinish, AsksOne}
use Rattle.trace_words.specs.OutcomeText.{outcome_text}
use Rattle.trace.specs.FinishedText.{finished_text}
use Rattle.machine_model.specs.declared.setup.CallLimit.{CallLimit}
use Rattle.trace.specs.Seen.{AdvancesSeen, Grows, HasMachine, IsSeen, IsSeenWith, Leads, Sees, SeesAll, SeesEvent, Writes}
use Rattle.trace.specs.Shown.{Closes, IsBehind, told}
use Rattle.trace.specs.Stage.{Stage, Start, Declared, Running, Acts, CanOpen, LineActs, Opens, new_machine, stage_of}
use Rattle.trace.specs.Turns.{Advances, IsOver, Scene}
use Rattle.trace_io.proofs.TakenLemmas.{next_line}
use Rattle.trace.proofs.ShownLemmas.{told_more, told_none}
use Rattle.trace.proofs.TurnLemmas.{line_told}

-- ---- what a line of an event asks for

pub step_seen : {S : Type 0} (after : S → World → Event → Outcome → World → S → Type 0) (e : Event) (o : Outcome) (one other : S) (w v : World) (text : List ℕ)
    → Step w e o v → after one w e o v other → text ≡ outcome_text o → Sees after one w (AsksOne e) v other text
step_seen after e o one other w v text s is t = (e ∷ [], o ∷ [], (o, refl, refl, t), (v, other, s, is, (refl, refl)))

pub finish_seen : {S : Type 0} (after : S → World → Event → Outcome → World → S → Type 0) (core : ℕ) (f : Finished) (one other : S) (w v : World) (text : List ℕ)
    → WatchesFinish after one w core f v other → text ≡ finished_text f → Sees after one w (AsksFinish core) v other text
finish_seen after core f one other w v text h t = (h.1, h.2, (h.0, f, h.3, t), h.4)

pub call_seen : {S : Type 0} (after : S → World → Event → Outcome → World → S → Type 0) (core : ℕ) (request : Request) (f : Finished) (one other : S) (w v : World)
    (text : List ℕ) → WatchesCall after one w core request f v other → text ≡ finished_text f → Sees after one w (Asks (Now core request)) v other text
call_seen after core request f one other w v text (o, m, mid, step, made, more) t = go o step made more
  where
    alone : (o : Outcome) → Step w (Ev.Call core request) o m → after one w (Ev.Call core request) o m mid → (v ≡ m) × (other ≡ mid) × (f ≡ Last o)
        → ((text ≡ outcome_text o) → AsksCall core request o (Ev.Call core request ∷ []) (o ∷ []) text)
        → Sees after one w (Asks (Now core request)) v other text
    alone o step made (stays, is, last) asks =
        (Ev.Call core request ∷ [], o ∷ [], (o, asks (t ∙ ap finished_text last)), (m, mid, step, made, (stays, is)))

    go : (o : Outcome) → Step w (Ev.Call core request) o m → after one w (Ev.Call core request) o m mid → WatchesAfter after mid m core o f v other
        → Sees after one w (Asks (Now core request)) v other text
    go Stepped step made (n, es, os, goes, watches) =
        (Ev.Call core request ∷ es, Stepped ∷ os, (Stepped, (es, os, (n, f, goes, t), refl, refl)), (m, mid, step, made, watches))
    go (Wait blocker) step made r = alone (Wait blocker) step made r (λ t. (refl, refl, t))
    go Idle step made r = alone Idle step made r (λ t. (refl, refl, t))
    go (Answered reply) step made r = alone (Answered reply) step made r (λ t. (refl, refl, t))
    go Full step made r = alone Full step made r (λ t. (refl, refl, t))

-- of the machine that the line finds
pub event_seen : {U S : Type 0} (r : Result U TraceFault) (after : S → World → Event → Outcome → World → S → Type 0) (line : Option Line) (old : Stage) (w v : World)
    (one other : S) (text : List ℕ) → Opens old w → OnOk r (IsSomeAnd line (λ l. Sees after one w (Asks l) v other text))
    → OnOk r (IsSomeAnd line (λ l. SeesEvent after old one l (Running v) other text))
event_seen (Ok u) after (Some l) old w v one other text o h = (w, v, o, refl, h)
event_seen (Ok u) after None old w v one other text o h = h
event_seen (Err f) after line old w v one other text o h = tt

-- ---- lines in order

-- one line more
all_ask_more : (lines : List (List ℕ)) (line : List ℕ) (es fs : List Event) (os ps : List Outcome) (text more : List ℕ) → AllAsk lines es os text
    → IsSomeAnd (line_of line) (λ said. Asks said fs ps more) → AllAsk (lines ++ line ∷ []) (es ++ fs) (os ++ ps) (text ++ more)
all_ask_more [] line es fs os ps text more h a = record {
  first = fs;
  later = [];
  outcome = ps;
  outcomes = [];
  front = more;
  rest = [];
  asks = a;
  others = (refl, refl, refl);
  events = ap (λ x. x ++ fs) h.0 ∙ sym (append-nil fs);
  came = ap (λ x. x ++ ps) h.1 ∙ sym (append-nil ps);
  prints = ap (λ x. x ++ more) h.2 ∙ sym (append-nil more);
}
all_ask_more (l ∷ lines) line es fs os ps text more h a = record {
  first = h.first;
  later = h.later ++ fs;
  outcome = h.outcome;
  outcomes = h.outcomes ++ ps;
  front = h.front;
  rest = h.rest ++ more;
  asks = h.asks;
  others = all_ask_more lines line h.later fs h.outcomes ps h.rest more h.others a;
  events = ap (λ x. x ++ fs) h.events ∙ append_assoc h.first h.later fs;
  came = ap (λ x. x ++ ps) h.came ∙ append_assoc h.outcome h.outcomes ps;
  prints = ap (λ x. x ++ more) h.prints ∙ append_assoc h.front h.rest more;
}

-- the run up to the machine that a line finds
opened : {S : Type 0} (after : S → World → Event → Outcome → World → S → Type 0) (first mid : S) (s : Stage) (w : World) (es : List Event) (os : List Outcome)
    → Leads after first s es os mid → Opens s w → (asked : DeclarationView) × Watches after first (new_machine asked) es os w mid
opened after first mid (Start limit) w es os r o = absurd o
opened after first mid (Declared limit a) w es os r o = (
  a,
  subst (λ es. Watches after first (new_machine a) es os w mid) (sym r.0)
      (subst (λ os. Watches after first (new_machine a) [] os w mid) (sym r.1) (o.1, r.2)),
)
opened after first mid (Running m) w es os r o = (r.0, subst (λ x. Watches after first (new_machine r.0) es os x mid) (sym o) r.1)

event_grows : {S : Type 0} (after : S → World → Event → Outcome → World → S → Type 0) (first mid other : S) (old new : Stage) (lines : List (List ℕ))
    (line before text : List ℕ) (l : Line) → line_of line ≡ Some l → SeesEvent after old mid l new other text → SeesAll after first old lines before mid
    → SeesAll after first new (lines ++ line ∷ []) (before ++ text) other
event_grows after first mid other old new lines line before text l e (w, v, opens, is, (fs, ps, asks, watches)) (es, os, all, leads) =
    let (asked, came) = opened after first mid old w es os leads opens in (
      es ++ fs,
      os ++ ps,
      all_ask_more lines line es fs os ps before text all (subst (λ o. IsSomeAnd o (λ said. Asks said fs ps text)) (sym e) asks),
      subst (λ s. Leads after first s (es ++ fs) (os ++ ps) other) (sym is)
          (asked, watches_then after es fs os ps first mid other (new_machine asked) w v came watches),
    )

-- the line of an event, as it was read
pub event_line_grows : {S : Type 0} (after : S → World → Event → Outcome → World → S → Type 0) (first mid other : S) (old new : Stage) (lines : List (List ℕ))
    (line before text : List ℕ) (said : Option Line) → said ≡ line_of line → IsSomeAnd said (λ l. SeesEvent after old mid l new other text)
    → SeesAll after first old lines before mid → SeesAll after first new (lines ++ line ∷ []) (before ++ text) other
event_line_grows after first mid other old new lines line before text (Some l) e h s =
    event_grows after first mid other old new lines line before text l (sym e) h s
event_line_grows after first mid other old new lines line before text None e h s = absurd h

-- a line that is none leads on from stage to stage
quiet_grows : {S : Type 0} (after : S → World → Event → Outcome → World → S → Type 0) (first mid : S) (old new : Stage) (lines : List (List ℕ))
    (line before text : List ℕ) (l : Line) → line_of line ≡ Some l → Asks l [] [] text
    → ((es : List Event) (os : List Outcome) → Leads after first old es os mid → Leads after first new es os mid)
    → SeesAll after first old lines before mid → SeesAll after first new (lines ++ line ∷ []) (before ++ text) mid
quiet_grows after first mid old new lines line before text l e asks leads (es, os, all, came) = (
  es ++ [],
  os ++ [],
  all_ask_more lines line es [] os [] before text all (subst (λ o. IsSomeAnd o (λ said. Asks said [] [] text)) (sym e) asks),
  subst (λ x. Leads after first new x (os ++ []) mid) (sym (append-nil es))
      (subst (λ x. Leads after first new es x mid) (sym (append-nil os)) (leads es os came)),
)

pub blank_grows : {S : Type 0} (after : S → World → Event → Outcome → World → S → Type 0) (first mid : S) (stage : Stage) (lines : List (List ℕ))
    (line before text : List ℕ) → line_of line ≡ Some Blank → text ≡ [] → SeesAll after first stage lines before mid
    → SeesAll after first stage (lines ++ line ∷ []) (before ++ text) mid
blank_grows after first mid stage lines line before text e none s =
    quiet_grows after first mid stage stage lines line before text Blank e (refl, refl, none) (λ es os h. h) s

pub space_grows : {S : Type 0} (after : S → World → Event → Outcome → World → S → Type 0) (first mid other : S) (old new : Stage) (lines : List (List ℕ))
    (line before text : List ℕ) (cores frames calls : ℕ) → line_of line ≡ Some (Space cores frames calls) → LineActs old (Space cores frames calls) new text
    → other ≡ mid → SeesAll after first old lines before mid → SeesAll after first new (lines ++ line ∷ []) (before ++ text) other
space_grows after first mid other old new lines line before text cores frames calls e (limit, was, is, none) same s =
    subst (SeesAll after first new (lines ++ line ∷ []) (before ++ text)) (sym same)
    (quiet_grows after first mid old new lines line before text (Space cores frames calls) e (refl, refl, none)
    (λ es os h. subst (λ x. Leads after first x es os mid) (sym is) (subst (λ x. Leads after first x es os mid) was h)) s)

pub file_grows : {S : Type 0} (after : S → World → Event → Outcome → World → S → Type 0) (first mid other : S) (old new : Stage) (lines : List (List ℕ))
    (line before text : List ℕ) (n : ℕ) (mode : Mode) (len seed : ℕ) → line_of line ≡ Some (File n mode len seed) → LineActs old (File n mode len seed) new text
    → other ≡ mid → SeesAll after first old lines before mid → SeesAll after first new (lines ++ line ∷ []) (before ++ text) other
file_grows after first mid other old new lines line before text n mode len seed e (limit, a, was, next, is, none) same s =
    subst (SeesAll after first new (lines ++ line ∷ []) (before ++ text)) (sym same)
    (quiet_grows after first mid old new lines line before text (File n mode len seed) e (refl, refl, none)
    (λ es os h. subst (λ x. Leads after first x es os mid) (sym is) (subst (λ x. Leads after first x es os mid) was h)) s)

-- ---- a replay

-- a line that was shown was seen
pub line_seen : {R : Type 0} (saw : R → R → List (List ℕ) → List ℕ → Type 0) (shown : List ℕ → List ℕ → List ℕ) (r q : R) (old new : Scene)
    (mid : Option (List ℕ)) (line seen text : List ℕ) → TakesLine old.left line new.left → seen ≡ line → Acts old.stage seen new.stage text
    → Keeps old.written mid → Appends mid new.written (shown seen text) → Grows saw r seen q text → AdvancesSeen saw shown r q old new
unfolding line_told
line_seen saw shown r q old new mid line seen text takes same acts keeps wrote grows =
    (line_told shown old new mid line seen text takes same acts keeps wrote, subst (λ l. Grows saw r l q text) same grows)

-- the lines so far were seen, and what is left has the others
pub record HasSeen (Holds : List (List ℕ) → List ℕ → Type 0) (show : Show) (input : List ℕ) (old : Option (List ℕ)) (now : Scene) : Type 0 where
  pub done : List (List ℕ)
  pub text : List ℕ
  pub holds : Holds done text
  pub lines : lines_of input ≡ done ++ lines_of now.left
  pub appends : Appends old now.written (told show text)

pub seen_none : (Holds : List (List ℕ) → List ℕ → Type 0) (show : Show) (input : List ℕ) (old : Option (List ℕ)) (now : Scene) → Holds [] [] → now.left ≡ input
    → now.written ≡ old → HasSeen Holds show input old now
seen_none Holds show input old now h e w = record {
  done = [];
  text = [];
  holds = h;
  lines = ap lines_of (sym e);
  appends = subst (Appends old now.written) (sym (told_none show)) (subst (λ o. Appends old o []) (sym w) (Appends-nil old));
}

pub seen_more : {R : Type 0} (saw : R → R → List (List ℕ) → List ℕ → Type 0) (show : Show) (first r q : R) (input : List ℕ) (old : Option (List ℕ))
    (now next : Scene) → HasSeen (saw first r) show input old now → AdvancesSeen saw (λ line text. told show text) r q now next → HasSeen (saw first q) show input old next
seen_more saw show first r q input old now next h (a, grows) = record {
  done = h.done ++ a.line ∷ [];
  text = h.text ++ a.text;
  holds = grows first h.done h.text h.holds;
  lines = next_line input a.line now.left next.left h.done h.lines a.takes.unbroken a.takes.first ∙ sym (append_assoc h.done (a.line ∷ []) (lines_of next.left));
  appends = subst (Appends old next.written) (sym (told_more show h.text a.text)) (Appends-trans _ _ _ _ _ h.appends a.appends);
}

pub seen_all : {R : Type 0} (saw : R → R → List (List ℕ) → List ℕ → Type 0) (show : Show) (first r q : R) (input : List ℕ) (old new : Option (List ℕ))
    (now next : Scene) → q ≡ r → HasSeen (saw first r) show input old now → IsOver now next → Closes show next.stage next.written new
    → Writes (saw first q) next.stage show input old new
seen_all saw show first r q input old new now next same h v c =
    let none = ap lines_of v.ended in
    record {
      text = h.text;
      behind = c.behind;
      holds = subst (λ q. saw first q (lines_of input) h.text) (sym same)
          (subst (λ ls. saw first r ls h.text) (sym (h.lines ∙ ap (λ l. h.done ++ l) none ∙ append-nil h.done)) h.holds);
      opens = c.opens;
      is = c.is;
      appends = Appends-trans _ _ _ _ _ (Appends-kept _ _ _ _ h.appends v.written) c.appends;
    }

-- a flush keeps what was written
pub writes_kept : (Holds : List (List ℕ) → List ℕ → Type 0) (stage : Stage) (show : Show) (input : List ℕ) (a b c : Option (List ℕ))
    → Writes Holds stage show input a b → Keeps b c → Writes Holds stage show input a c
writes_kept Holds stage show input a b c h k = record {
  text = h.text;
  behind = h.behind;
  holds = h.holds;
  opens = h.opens;
  is = h.is;
  appends = Appends-kept _ _ _ _ h.appends k;
}

pub seen_kept : {S : Type 0} (after : S → World → Event → Outcome → World → S → Type 0) (one other : S) (show : Show) (input : List ℕ) (a b c : Option (List ℕ))
    → IsSeen after one other show input a b → Keeps b c → IsSeen after one other show input a c
seen_kept after one other show input a b c (stage, h) k = (stage, writes_kept _ stage show input a b c h k)

-- the end of a replay that could be closed
pub seen_over : {T U : Type 0} (r : Result T U) (P Q : Type 0) → (P → Q) → OnOk r P → IfOk r (λ u. Q)
seen_over (Ok x) P Q f h = f h
seen_over (Err e) P Q f h = tt

-- who watched from the start to the end
pub is_seen : {S : Type 0} (after : S → World → Event → Outcome → World → S → Type 0) (one first last other : S) (stage : Stage) (show : Show) (input : List ℕ)
    (a b : Option (List ℕ)) → first ≡ one → other ≡ last → Writes (λ lines text. SeesAll after first stage lines text last) stage show input a b
    → IsSeen after one other show input a b
is_seen after one first last other stage show input a b e f h = (
  stage,
  subst (λ x. Writes (λ lines text. SeesAll after x stage lines text other) stage show input a b) e
      (subst (λ x. Writes (λ lines text. SeesAll after first stage lines text x) stage show input a b) (sym f) h),
)

-- the machine at a stage that is told by its parts
has_machine : (limit : CallLimit) (asked : Option DeclarationView) (machine : Option World) → HasMachine (stage_of limit asked machine) machine
has_machine limit asked (Some w) = refl
has_machine limit (Some a) None = refl
has_machine limit None None = refl

-- the same with the machine at the end
pub seen_with : {S : Type 0} (after : S → World → Event → Outcome → World → S → Type 0) (one first last other : S) (limit : CallLimit) (asked : Option DeclarationView)
    (now machine : Option World) (show : Show) (input : List ℕ) (a b : Option (List ℕ)) → first ≡ one → other ≡ last → machine ≡ now
    → Writes (λ lines text. SeesAll after first (stage_of limit asked now) lines text last) (stage_of limit asked now) show input a b
    → IsSeenWith after one other machine show input a b
unfolding is_seen
seen_with after one first last other limit asked now machine show input a b e f same h =
    let seen = is_seen after one first last other (stage_of limit asked now) show input a b e f h in
    (stage_of limit asked now, subst (HasMachine (stage_of limit asked now)) (sym same) (has_machine limit asked now), seen.1)
