-- Lines that are shown, one at a time.
use Rattle.std.proofs.Common.{◌≡◌, ℕ, ◌+◌, ◌≤◌, true, false, Bool, List, [], ◌∷◌, ◌++◌, Option, Result, Ok, Err, IfErr, OnOk, length}
use Rattle.std.proofs.lemmas.List.{drop_min}
use Rattle.std.specs.List.{flat_map}
use Rattle.std.proofs.Common.{arith, drop, min, suc, refl, sym, ap, ◌∙◌, subst, append_assoc, append-nil}
use Rattle.std.proofs.KnownBytes.{Appends-nil, Appends-trans, Appends-kept}
use Rattle.std.specs.Io.KnownBytes.{Keeps, Appends}
use Rattle.trace_io.specs.Lines.{lines_of}
use Rattle.vm_base.specs.declared.log.Entry.{Entry}
use Rattle.trace_io.specs.Sink.{AppendsFront}
use Rattle.trace_io.proofs.IoLemmas.{front_kept, front_longer, front_more, whole_front}
use Rattle.machine_model.specs.declared.setup.CallLimit.{CallLimit}
use Rattle.trace_words.specs.declared.fault.TraceFault.{TraceFault}
use Rattle.trace_words.specs.declared.fault.TraceFault.TheVariants.{TooLong, ReadFailed, WriteFailed}
use Rattle.trace.specs.Stage.{Stage, Start, LineFails, LineWants, CanOpen, OpenFails, Acts}
use Rattle.trace.specs.Turns.{Scene, Advances, IsOver, Fails, read_fails, unsent, too_long, no_memory, refused, unwritten}
use Rattle.trace_io.proofs.TakenLemmas.{lines-first, long_first, HasTaken, none_taken, line_taken, all_taken}
use Rattle.trace.proofs.TurnLemmas as Own
use Rattle.trace.specs.Numbered.{text_at}
use Rattle.trace.specs.Shown.{log_at}
use Rattle.trace.specs.Asking.{NotesLine, asks_after, at_next, nothing_asked, whose_text}
use Rattle.trace.specs.declared.asking.Asks.{Asks}
use Rattle.trace.specs.Echo.{Standing, added_text, behind_line, begun_at, below, echo, entry_line, Echoes}
use Rattle.trace.specs.Echo.{EchoFront, EchoStops, reading, unmade, wanting, overlong, refusing, unopened, writing, EchoEnds}

-- the entries behind the first ones, where there are as many of these
pub added_same : (logs : Bool) (whose : List ℕ) (n m : ℕ) (log : List Entry) → (logs ≡ true → n ≡ m) → added_text logs whose n log ≡ added_text logs whose m log
added_same true whose n m log h = ap (λ k. added_text true whose k log) (h refl)
added_same false whose n m log h = refl

-- the lines of entries that were written
pub added_is : (wanted : Bool) (whose bytes : List ℕ) (first from : ℕ) (log at : List Entry) → wanted ≡ true → bytes ≡ whose → log ≡ at
    → from ≡ min first (length log)
    → flat_map (entry_line bytes) (drop from log) ≡ added_text wanted whose first at
added_is wanted whose bytes first from log at shown same is least =
    ap (λ k. flat_map (entry_line bytes) (drop k log)) least
    ∙ ap (flat_map (entry_line bytes)) (drop_min first log)
    ∙ ap (λ b. flat_map (entry_line b) (drop first log)) same
    ∙ ap (added_text true whose first) is
    ∙ ap (λ b. added_text b whose first at) (sym shown)

-- what is known of calls grows by a line
pub notes_grow : (one old new : Asks) (line text : List ℕ) (lines : List (List ℕ)) (before : List ℕ) → new ≡ asks_after old line text
    → NotesLine one old lines before → NotesLine one new (lines ++ line ∷ []) (before ++ text)
notes_grow one old new line text [] before is (same, none) =
    is ∙ ap (λ a. asks_after a line text) same ∙ ap (λ t. asks_after one line (t ++ text)) (sym none)
notes_grow one old new line text (l ∷ []) before is h = tt
notes_grow one old new line text (l ∷ k ∷ ls) before is h = tt

abbrev pub standing : Asks → Stage → Standing
standing asks stage = record { asks = asks; stage = stage }

-- one line more, and what stands below it
echoes-snoc : (coloured : Bool) (texts : List (List ℕ)) (s m : Standing) (n : Stage) (ls : List (List ℕ)) (l t shown : List ℕ) → Echoes coloured texts s ls m shown
    → length l ≤ 256 → Acts m.stage l n t
    → Echoes coloured texts s (ls ++ l ∷ []) (behind_line m l t n) ((shown ++ echo coloured l t) ++ below texts m (behind_line m l t n))
echoes-snoc coloured texts s m n [] l t shown e p a =
    let it = echo coloured l t in (
      n,
      t,
      [],
      p,
      subst (λ (x : Standing). Acts x.stage l n t) e.0 a,
      (ap (λ x. behind_line x l t n) e.0, refl),
      ap (λ x. (x ++ it) ++ below texts m (behind_line m l t n)) e.1 ∙ ap (λ x. it ++ below texts x (behind_line x l t n)) e.0
          ∙ sym (append-nil (it ++ below texts s (behind_line s l t n))),
    )
echoes-snoc coloured texts s m n (k ∷ ks) l t shown e p a =
    let it = echo coloured l t in
    let under = below texts m (behind_line m l t n) in
    let first = echo coloured k e.1 ++ below texts s (behind_line s k e.1 e.0) in (
      e.0,
      e.1,
      (e.2 ++ it) ++ under,
      e.3,
      e.4,
      echoes-snoc coloured texts (behind_line s k e.1 e.0) m n ks l t e.2 e.5 p a,
      ap (λ x. (x ++ it) ++ under) e.6 ∙ ap (λ x. x ++ under) (append_assoc first e.2 it) ∙ append_assoc first (e.2 ++ it) under,
    )

-- the lines so far were acted on and shown
pub record HasEchoed (coloured logs : Bool) (texts : List (List ℕ)) (limit : CallLimit) (input : List ℕ) (old : Option (List ℕ)) (now : Scene) (asks : Asks)
    (number : ℕ) : Type 0 where
  pub at : HasTaken input now.left number
  pub shown : List ℕ
  pub echoes : Echoes coloured texts (begun_at logs limit) at.done (standing asks now.stage) shown
  pub appends : Appends old now.written shown
  pub line : asks.line ≡ number

-- nothing has been read yet
pub echoed_none : (coloured logs : Bool) (texts : List (List ℕ)) (limit : CallLimit) (input : List ℕ) (old : Option (List ℕ)) (now : Scene) (asks : Asks) → now.left ≡ input
    → now.stage ≡ Start limit → now.written ≡ old → asks ≡ nothing_asked logs → HasEchoed coloured logs texts limit input old now asks 0
unfolding none_taken
echoed_none coloured logs texts limit input old now asks e s w none = record {
  at = none_taken input now.left e;
  shown = [];
  echoes = (ap (λ a. standing a now.stage) none ∙ ap (λ x. standing (nothing_asked logs) x) s, refl);
  appends = subst (λ o. Appends old o []) (sym w) (Appends-nil old);
  line = ap (λ (a : Asks). a.line) none;
}

-- how they stand behind the line
next_standing : (asks more : Asks) (stage next : Stage) (line text : List ℕ) (number : ℕ) → asks.line ≡ number
    → more ≡ asks_after (record asks { line = number + 1 }) line text → behind_line (standing asks stage) line text next ≡ standing more next
next_standing asks more stage next line text number is e =
    let same : suc asks.line ≡ number + 1 = omega (arith, is) in
    ap (λ k. standing (asks_after (record asks { line = k }) line text) next) same ∙ ap (λ a. standing a next) (sym e)

-- what was written below a line
pub below_is : (texts : List (List ℕ)) (asks more : Asks) (stage next : Stage) (first : ℕ) (change : List ℕ) (number : ℕ) → more.is_wanted ≡ asks.is_wanted
    → (asks.is_wanted ≡ true → first ≡ length (log_at stage)) → change ≡ text_at number texts → asks.line ≡ number
    → added_text more.is_wanted (whose_text more) first (log_at next) ++ change ≡ below texts (standing asks stage) (standing more next)
below_is texts asks more stage next first change number wanted count is line =
    ap (λ b. added_text b (whose_text more) first (log_at next) ++ change) wanted
    ∙ ap (λ t. t ++ change) (added_same asks.is_wanted (whose_text more) first (length (log_at stage)) (log_at next) count)
    ∙ ap (λ t. added_text asks.is_wanted (whose_text more) (length (log_at stage)) (log_at next) ++ t) (is ∙ ap (λ k. text_at k texts) (sym line))

-- a line was acted on and shown, and then what stands below it
pub echoed_more : (coloured logs : Bool) (texts : List (List ℕ)) (limit : CallLimit) (input : List ℕ) (old : Option (List ℕ)) (now next : Scene) (written : Option (List ℕ))
    (asks more : Asks) (number : ℕ) → HasEchoed coloured logs texts limit input old now asks number → (a : Advances (echo coloured) now next)
    → more ≡ asks_after (record asks { line = number + 1 }) a.line a.text → Appends next.written written (below texts (standing asks now.stage) (standing more next.stage))
    → HasEchoed coloured logs texts limit input old (record next { written = written }) more (number + 1)
unfolding line_taken
echoed_more coloured logs texts limit input old now next written asks more number h a e under =
    let there = next_standing asks more now.stage next.stage a.line a.text number h.line e in record {
      at = line_taken input now.left a.line next.left number h.at a.takes.unbroken a.takes.first;
      shown = (h.shown ++ echo coloured a.line a.text) ++ below texts (standing asks now.stage) (standing more next.stage);
      echoes = subst (λ s. Echoes coloured texts (begun_at logs limit) (h.at.done ++ a.line ∷ []) s
          ((h.shown ++ echo coloured a.line a.text) ++ below texts (standing asks now.stage) s)) there
          (echoes-snoc coloured texts (begun_at logs limit) (standing asks now.stage) next.stage h.at.done a.line a.text h.shown h.echoes a.takes.short a.acts);
      appends = Appends-trans _ _ _ _ _ (Appends-trans _ _ _ _ _ h.appends a.appends) under;
      line = ap (λ (x : Asks). x.line) e;
    }

-- the same, but of what stands below it a front was written
pub echoed_cut : (coloured logs : Bool) (texts : List (List ℕ)) (limit : CallLimit) (input : List ℕ) (old : Option (List ℕ)) (now next : Scene) (written : Option (List ℕ))
    (asks more : Asks) (number : ℕ) → HasEchoed coloured logs texts limit input old now asks number → (a : Advances (echo coloured) now next)
    → more ≡ asks_after (record asks { line = number + 1 }) a.line a.text
    → AppendsFront next.written written (below texts (standing asks now.stage) (standing more next.stage))
    → EchoStops coloured logs texts limit input old written WriteFailed
unfolding line_taken
echoed_cut coloured logs texts limit input old now next written asks more number h a e under =
    let there = next_standing asks more now.stage next.stage a.line a.text number h.line e in writing refl (record {
      done = h.at.done ++ a.line ∷ [];
      more = lines_of next.left;
      last = standing more next.stage;
      shown = (h.shown ++ echo coloured a.line a.text) ++ below texts (standing asks now.stage) (standing more next.stage);
      lines = (line_taken input now.left a.line next.left number h.at a.takes.unbroken a.takes.first).lines;
      echoes = subst (λ s. Echoes coloured texts (begun_at logs limit) (h.at.done ++ a.line ∷ []) s
          ((h.shown ++ echo coloured a.line a.text) ++ below texts (standing asks now.stage) s)) there
          (echoes-snoc coloured texts (begun_at logs limit) (standing asks now.stage) next.stage h.at.done a.line a.text h.shown h.echoes a.takes.short a.acts);
    }) (front_more old next.written written _ _ (Appends-trans _ _ _ _ _ h.appends a.appends) under)

-- what was acted on so far
front_of : (coloured logs : Bool) (texts : List (List ℕ)) (limit : CallLimit) (input : List ℕ) (old : Option (List ℕ)) (now : Scene) (asks : Asks) (number : ℕ) → HasEchoed coloured logs texts limit input old now asks number
    → EchoFront coloured logs texts limit input
front_of coloured logs texts limit input old now asks number h =
    record { done = h.at.done; more = lines_of now.left; last = standing asks now.stage; shown = h.shown; lines = h.at.lines; echoes = h.echoes }

pub echoed_fails : (coloured logs : Bool) (texts : List (List ℕ)) (limit : CallLimit) (keeps : Bool) → keeps ≡ logs → (input : List ℕ) (old : Option (List ℕ)) (now next : Scene) (asks : Asks) (number : ℕ) (f : TraceFault)
    → HasEchoed coloured logs texts limit input old now asks number
    → Fails keeps (echo coloured) now next number f → EchoStops coloured logs texts limit input old next.written f
unfolding front_of line_taken
echoed_fails coloured logs texts limit keeps rule input old now next asks number f h (read_fails e held u l m k) = reading e (front_of coloured logs texts limit input old now asks number h) (Appends-kept _ _ _ _ h.appends k)
echoed_fails coloured logs texts limit keeps rule input old now next asks number f h (unsent e k) =
    writing e (front_of coloured logs texts limit input old now asks number h) (whole_front _ _ _ (Appends-kept _ _ _ _ h.appends k))
echoed_fails coloured logs texts limit keeps rule input old now next asks number f h (too_long e b k) =
    let l = long_first 256 now.left b.0 b.1 in
    overlong (front_of coloured logs texts limit input old now asks number h) l.line l.others l.lines l.long (e ∙ ap (λ n. TooLong (n + 1)) h.at.count)
    (Appends-kept _ _ _ _ h.appends k)
echoed_fails coloured logs texts limit keeps rule input old now next asks number f h (no_memory e line held t l w k) =
    wanting e (front_of coloured logs texts limit input old now asks number h) line (lines_of next.left) (lines-first now.left line next.left t.unbroken t.first)
    (subst (λ b. LineWants b now.stage line) rule w) (Appends-kept _ _ _ _ h.appends k)
echoed_fails coloured logs texts limit keeps rule input old now next asks number f h (refused line t b k) =
    refusing (front_of coloured logs texts limit input old now asks number h) line (lines_of next.left) (lines-first now.left line next.left t.unbroken t.first)
    (subst (λ n. LineFails now.stage (n + 1) line f) h.at.count b) (Appends-kept _ _ _ _ h.appends k)
echoed_fails coloured logs texts limit keeps rule input old now next asks number f h (unwritten e line text t a w) =
    writing e (record {
      done = h.at.done ++ line ∷ [];
      more = lines_of next.left;
      last = behind_line (standing asks now.stage) line text next.stage;
      shown = (h.shown ++ echo coloured line text) ++ below texts (standing asks now.stage) (behind_line (standing asks now.stage) line text next.stage);
      lines = (line_taken input now.left line next.left number h.at t.unbroken t.first).lines;
      echoes = echoes-snoc coloured texts (begun_at logs limit) (standing asks now.stage) next.stage h.at.done line text h.shown h.echoes t.short a;
    }) (front_longer _ _ _ _ (front_more old now.written next.written _ _ h.appends w))

-- the text has ended
pub echoed_ends : {T : Type 0} (coloured logs : Bool) (texts : List (List ℕ)) (limit : CallLimit) (input : List ℕ) (old : Option (List ℕ)) (now next : Scene) (asks : Asks) (n : ℕ) (r : Result T TraceFault)
    → HasEchoed coloured logs texts limit input old now asks n → IsOver now next → OnOk r (CanOpen next.stage) → IfErr r (λ f. OpenFails next.stage f)
    → EchoEnds coloured logs texts limit input old next.written r
unfolding front_of
echoed_ends coloured logs texts limit input old now next asks n (Ok x) h v o e = record {
  last = standing asks now.stage;
  shown = h.shown;
  echoes = subst (λ ls. Echoes coloured texts (begun_at logs limit) ls (standing asks now.stage) h.shown) (sym (all_taken input now.left n h.at v.ended)) h.echoes;
  opens = subst CanOpen v.stage o;
  appends = Appends-kept _ _ _ _ h.appends v.written;
}
echoed_ends coloured logs texts limit input old now next asks n (Err f) h v o e =
    unopened (front_of coloured logs texts limit input old now asks n h) (ap lines_of v.ended) (subst (λ s. OpenFails s f) v.stage e)
    (Appends-kept _ _ _ _ h.appends v.written)

-- the end is neither the reader's fault nor the writer's
pub end_not_read : {T X : Type 0} (now next : Scene) (r : Result T TraceFault) → IsOver now next → IfErr r (λ f. OpenFails next.stage f)
    → r ≡ Err ReadFailed → X
end_not_read now next (Ok x) v h e = absurd (cc)
end_not_read now next (Err f) v h e = Own.end_not_read next.stage f h (cc)

pub end_not_write : {T X : Type 0} (now next : Scene) (r : Result T TraceFault) → IsOver now next → IfErr r (λ f. OpenFails next.stage f)
    → r ≡ Err WriteFailed → X
end_not_write now next (Ok x) v h e = absurd (cc)
end_not_write now next (Err f) v h e = Own.end_not_write next.stage f h (cc)

-- ---- the flush behind

-- a flush keeps what was written
pub stops_kept : (coloured logs : Bool) (texts : List (List ℕ)) (limit : CallLimit) (input : List ℕ) (a b c : Option (List ℕ)) (f : TraceFault) → EchoStops coloured logs texts limit input a b f → Keeps b c
    → EchoStops coloured logs texts limit input a c f
stops_kept coloured logs texts limit input a b c f (reading e p w) k = reading e p (Appends-kept _ _ _ _ w k)
stops_kept coloured logs texts limit input a b c f (unmade e w) k = unmade e (Appends-kept _ _ _ _ w k)
stops_kept coloured logs texts limit input a b c f (wanting e p line others m n w) k = wanting e p line others m n (Appends-kept _ _ _ _ w k)
stops_kept coloured logs texts limit input a b c f (overlong p line others e l q w) k = overlong p line others e l q (Appends-kept _ _ _ _ w k)
stops_kept coloured logs texts limit input a b c f (refusing p line others e l w) k = refusing p line others e l (Appends-kept _ _ _ _ w k)
stops_kept coloured logs texts limit input a b c f (unopened p e q w) k = unopened p e q (Appends-kept _ _ _ _ w k)
stops_kept coloured logs texts limit input a b c f (writing e p w) k = writing e p (front_kept _ _ _ _ w k)

pub ends_kept : {T : Type 0} (coloured logs : Bool) (texts : List (List ℕ)) (limit : CallLimit) (input : List ℕ) (a b c : Option (List ℕ)) (r : Result T TraceFault) → EchoEnds coloured logs texts limit input a b r → Keeps b c
    → EchoEnds coloured logs texts limit input a c r
ends_kept coloured logs texts limit input a b c (Ok x) h k = record {
  last = h.last;
  shown = h.shown;
  echoes = h.echoes;
  opens = h.opens;
  appends = Appends-kept _ _ _ _ h.appends k;
}
ends_kept coloured logs texts limit input a b c (Err f) h k = stops_kept coloured logs texts limit input a b c f h k

nothing_shown : (coloured logs : Bool) (texts : List (List ℕ)) (limit : CallLimit) (input : List ℕ) → EchoFront coloured logs texts limit input
nothing_shown coloured logs texts limit input = record { done = []; more = lines_of input; last = begun_at logs limit; shown = []; lines = refl; echoes = (refl, refl) }

stops_lost : (coloured logs : Bool) (texts : List (List ℕ)) (limit : CallLimit) (input : List ℕ) (a b : Option (List ℕ)) (f : TraceFault) → EchoStops coloured logs texts limit input a b f → EchoStops coloured logs texts limit input a b WriteFailed
unfolding nothing_shown
stops_lost coloured logs texts limit input a b f (reading e p w) = writing refl p (whole_front _ _ _ w)
stops_lost coloured logs texts limit input a b f (unmade e w) = writing refl (nothing_shown coloured logs texts limit input) (whole_front _ _ _ w)
stops_lost coloured logs texts limit input a b f (wanting e p line others m n w) = writing refl p (whole_front _ _ _ w)
stops_lost coloured logs texts limit input a b f (overlong p line others e l q w) = writing refl p (whole_front _ _ _ w)
stops_lost coloured logs texts limit input a b f (refusing p line others e l w) = writing refl p (whole_front _ _ _ w)
stops_lost coloured logs texts limit input a b f (unopened p e q w) = writing refl p (whole_front _ _ _ w)
stops_lost coloured logs texts limit input a b f (writing e p w) = writing refl p w

pub ends_lost : {T : Type 0} (coloured logs : Bool) (texts : List (List ℕ)) (limit : CallLimit) (input : List ℕ) (a b : Option (List ℕ)) (r : Result T TraceFault) → EchoEnds coloured logs texts limit input a b r
    → EchoStops coloured logs texts limit input a b WriteFailed
ends_lost coloured logs texts limit input a b (Ok x) h = writing refl (record {
  done = lines_of input;
  more = [];
  last = h.last;
  shown = h.shown;
  lines = sym (append-nil (lines_of input));
  echoes = h.echoes;
}) (whole_front _ _ _ h.appends)
ends_lost coloured logs texts limit input a b (Err f) h = stops_lost coloured logs texts limit input a b f h
