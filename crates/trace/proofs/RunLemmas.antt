-- Whole runs, a line at a time.
use Rattle.machine_model.proofs.Words.{◌≡◌, ℕ, ◌+◌, ◌≤◌, Bool, List, [], ◌∷◌, ◌++◌, Option, Result, Ok, Err, OnOk, length}
use Rattle.machine_model.proofs.Words.{◌⊎◌, inl, inr, refl, sym, ap, ◌∙◌, subst, append_assoc, append-nil, Appends-nil}
use Rattle.machine_model.proofs.Words.{Appends-trans, Appends-kept, Keeps, Appends}
use Rattle.std.proofs.Common.{IfErr}
use Rattle.trace_io.specs.Lines.{lines_of, IsUnbroken}
use Rattle.trace_io.specs.Sink.{AppendsFront}
use Rattle.machine_model.specs.declared.setup.CallLimit.{CallLimit}
use Rattle.trace_words.specs.declared.fault.TraceFault.{TraceFault}
use Rattle.trace_words.specs.declared.fault.TraceFault.TheVariants.{TooLong, WriteFailed}
use Rattle.trace.specs.Stage.{Stage, Start, LineFails, LineWants, CanOpen, OpenFails, Acts}
use Rattle.trace.specs.Runs.{Runs}
use Rattle.trace_words.specs.declared.show.Show.{Show}
use Rattle.trace.specs.Shown.{keeps_log, told, IsBehind, IsBegunBehind, Closes, CloseFails}
use Rattle.trace.proofs.PlainTextLemmas.{traces_plain}
use Rattle.trace_io.proofs.IoLemmas.{front_kept, front_more, whole_front}
use Rattle.trace_io.proofs.TakenLemmas.{lines-first, long_first, taken_more, HasTaken, none_taken, line_taken, all_taken, known_read}
use Rattle.trace.proofs.ShownLemmas.{begun_behind, told_more, told_none}
use Rattle.trace.specs.Turns.{Scene, Advances, IsOver, Fails, read_fails, unsent, too_long, no_memory, refused, unwritten}
use Rattle.trace.specs.Ends.{Front, Stops, reading, unmade, wanting, overlong, refusing, unopened, writing, closing, Ends}

-- one line more
runs-snoc : (s m n : Stage) (ls : List (List ℕ)) (l t u : List ℕ) → Runs s ls m t → length l ≤ 256 → Acts m l n u → Runs s (ls ++ l ∷ []) n (t ++ u)
runs-snoc s m n [] l t u r p a =
    (n, u, [], p, subst (λ x. Acts x l n u) r.0 a, (refl, refl), ap (λ x. x ++ u) r.1 ∙ sym (append-nil u))
runs-snoc s m n (k ∷ ks) l t u r p a =
    (r.0, r.1, r.2 ++ u, r.3, r.4, runs-snoc r.0 m n ks l r.2 u r.5 p a, ap (λ x. x ++ u) r.6 ∙ append_assoc r.1 r.2 u)

-- the lines so far were acted on
pub record HasRun (limit : CallLimit) (show : Show) (input : List ℕ) (old : Option (List ℕ)) (now : Scene) (number : ℕ) : Type 0 where
  pub at : HasTaken input now.left number
  pub text : List ℕ
  pub runs : Runs (Start limit) at.done now.stage text
  pub appends : Appends old now.written (told show text)

-- nothing has been read yet
pub run_none : (limit : CallLimit) (show : Show) (input : List ℕ) (old : Option (List ℕ)) (now : Scene) → now.left ≡ input → now.stage ≡ Start limit
    → now.written ≡ old → HasRun limit show input old now 0
unfolding none_taken
run_none limit show input old now e s w = record {
  at = none_taken input now.left e;
  text = [];
  runs = (s, refl);
  appends = subst (Appends old now.written) (sym (told_none show)) (subst (λ o. Appends old o []) (sym w) (Appends-nil old));
}

pub run_more : (limit : CallLimit) (show : Show) (input : List ℕ) (old : Option (List ℕ)) (now next : Scene) (number : ℕ)
    → HasRun limit show input old now number → Advances (λ line text. told show text) now next → HasRun limit show input old next (number + 1)
unfolding line_taken
run_more limit show input old now next number h a = record {
  at = line_taken input now.left a.line next.left number h.at a.takes.unbroken a.takes.first;
  text = h.text ++ a.text;
  runs = runs-snoc (Start limit) now.stage next.stage h.at.done a.line h.text a.text h.runs a.takes.short a.acts;
  appends = subst (Appends old next.written) (sym (told_more show h.text a.text)) (Appends-trans _ _ _ _ _ h.appends a.appends);
}

-- what was acted on so far
front_of : (limit : CallLimit) (show : Show) (input : List ℕ) (old : Option (List ℕ)) (now : Scene) (number : ℕ) → HasRun limit show input old now number
    → Front limit input
front_of limit show input old now number h =
    record { done = h.at.done; more = lines_of now.left; stage = now.stage; text = h.text; lines = h.at.lines; runs = h.runs }

pub run_fails : (limit : CallLimit) (show : Show) (keeps : Bool) → keeps ≡ keeps_log show → (input : List ℕ) (old : Option (List ℕ)) (now next : Scene)
    (number : ℕ) (f : TraceFault)
    → HasRun limit show input old now number → Fails keeps (λ line text. told show text) now next number f
    → Stops limit show input next.unread old next.written f
unfolding front_of line_taken
run_fails limit show keeps rule input old now next number f h (read_fails e held u l m k) =
    let (r, same) = known_read input h.at.whole now.left held h.at.done next.left next.unread h.at.taken m l.0 l.1 in
    reading e (front_of limit show input old now number h) r (subst IsUnbroken (sym same) u) (Appends-kept _ _ _ _ h.appends k)
run_fails limit show keeps rule input old now next number f h (unsent e k) =
    writing e (front_of limit show input old now number h) (whole_front _ _ _ (Appends-kept _ _ _ _ h.appends k))
run_fails limit show keeps rule input old now next number f h (too_long e b k) =
    let l = long_first 256 now.left b.0 b.1 in
    overlong (front_of limit show input old now number h) l.line l.others l.lines l.long (e ∙ ap (λ n. TooLong (n + 1)) h.at.count)
    (Appends-kept _ _ _ _ h.appends k)
run_fails limit show keeps rule input old now next number f h (no_memory e line held t l w k) =
    let (whole, taken) = taken_more input h.at.whole now.left line next.left h.at.done h.at.taken t.unbroken t.first in
    let (r, same) = known_read input whole next.left held (h.at.done ++ line ∷ []) next.left next.unread taken refl l.0 l.1 in
    wanting e (front_of limit show input old now number h) line (lines_of next.left) (lines-first now.left line next.left t.unbroken t.first) r
    (subst (λ b. LineWants b now.stage line) rule w) (Appends-kept _ _ _ _ h.appends k)
run_fails limit show keeps rule input old now next number f h (refused line t b k) =
    refusing (front_of limit show input old now number h) line (lines_of next.left) (lines-first now.left line next.left t.unbroken t.first) t.short
    (subst (λ n. LineFails now.stage (n + 1) line f) h.at.count b) (Appends-kept _ _ _ _ h.appends k)
run_fails limit show keeps rule input old now next number f h (unwritten e line text t a w) =
    writing e (record {
      done = h.at.done ++ line ∷ [];
      more = lines_of next.left;
      stage = next.stage;
      text = h.text ++ text;
      lines = (line_taken input now.left line next.left number h.at t.unbroken t.first).lines;
      runs = runs-snoc (Start limit) now.stage next.stage h.at.done line h.text text h.runs t.short a;
    }) (subst (AppendsFront old next.written) (sym (told_more show h.text text)) (front_more old now.written next.written _ _ h.appends w))

-- and the trace is closed
pub run_ends : {T : Type 0} (limit : CallLimit) (show : Show) (input : List ℕ) (wo wn : Option (List ℕ)) (now next : Scene) (n : ℕ) (r : Result T TraceFault)
    → HasRun limit show input wo now n → IsOver now next → OnOk r (Closes show next.stage next.written wn)
    → IfErr r (λ f. CloseFails show next.stage next.written wn f) → Ends limit show input next.unread wo wn r
unfolding front_of
run_ends limit show input wo wn now next n (Ok x) h v o e =
    let runs : Runs (Start limit) (lines_of input) now.stage h.text =
    subst (λ ls. Runs (Start limit) ls now.stage h.text) (sym (all_taken input now.left n h.at v.ended)) h.runs in
    let opens : CanOpen now.stage = subst CanOpen v.stage o.opens in
    let is : IsBehind show now.stage o.behind = subst (λ s. IsBehind show s o.behind) v.stage o.is in
    record {
      stage = now.stage;
      text = h.text;
      behind = o.behind;
      runs = runs;
      opens = opens;
      is = is;
      plain = traces_plain limit show (lines_of input) now.stage h.text o.behind runs opens is;
      appends = Appends-trans _ _ _ _ _ (Appends-kept _ _ _ _ h.appends v.written) o.appends;
    }
run_ends limit show input wo wn now next n (Err f) h v o (inl e) =
    unopened (front_of limit show input wo now n h) (ap lines_of v.ended) (subst (λ s. OpenFails s f) v.stage e.0)
    (Appends-kept _ _ _ _ (Appends-kept _ _ _ _ h.appends v.written) e.1)
run_ends limit show input wo wn now next n (Err f) h v o (inr e) =
    closing e.0 (front_of limit show input wo now n h) (ap lines_of v.ended) (subst CanOpen v.stage e.1.opens) e.1.behind
    (subst (λ s. IsBegunBehind show s e.1.behind) v.stage e.1.is) (front_more _ _ _ _ _ (Appends-kept _ _ _ _ h.appends v.written) e.1.appends)

-- a flush keeps what was written
pub stops_kept : (limit : CallLimit) (show : Show) (input : List ℕ) (unread : List ℕ) (a b c : Option (List ℕ)) (f : TraceFault)
    → Stops limit show input unread a b f → Keeps b c → Stops limit show input unread a c f
stops_kept limit show input unread a b c f (reading e p r u w) k = reading e p r u (Appends-kept _ _ _ _ w k)
stops_kept limit show input unread a b c f (unmade e u w) k = unmade e u (Appends-kept _ _ _ _ w k)
stops_kept limit show input unread a b c f (wanting e p line others m r n w) k = wanting e p line others m r n (Appends-kept _ _ _ _ w k)
stops_kept limit show input unread a b c f (overlong p line others e l q w) k = overlong p line others e l q (Appends-kept _ _ _ _ w k)
stops_kept limit show input unread a b c f (refusing p line others e q l w) k = refusing p line others e q l (Appends-kept _ _ _ _ w k)
stops_kept limit show input unread a b c f (unopened p e q w) k = unopened p e q (Appends-kept _ _ _ _ w k)
stops_kept limit show input unread a b c f (writing e p w) k = writing e p (front_kept _ _ _ _ w k)
stops_kept limit show input unread a b c f (closing e p m o behind is w) k = closing e p m o behind is (front_kept _ _ _ _ w k)

pub ends_kept : {T : Type 0} (limit : CallLimit) (show : Show) (input : List ℕ) (unread : List ℕ) (a b c : Option (List ℕ)) (r : Result T TraceFault)
    → Ends limit show input unread a b r → Keeps b c
    → Ends limit show input unread a c r
ends_kept limit show input unread a b c (Ok x) h k = record {
  stage = h.stage;
  text = h.text;
  behind = h.behind;
  runs = h.runs;
  opens = h.opens;
  is = h.is;
  plain = h.plain;
  appends = Appends-kept _ _ _ _ h.appends k;
}
ends_kept limit show input unread a b c (Err f) h k = stops_kept limit show input unread a b c f h k

nothing_run : (limit : CallLimit) (input : List ℕ) → Front limit input
nothing_run limit input = record { done = []; more = lines_of input; stage = Start limit; text = []; lines = refl; runs = (refl, refl) }

stops_lost : (limit : CallLimit) (show : Show) (input : List ℕ) (unread : List ℕ) (a b : Option (List ℕ)) (f : TraceFault) → Stops limit show input unread a b f
    → Stops limit show input unread a b WriteFailed
unfolding nothing_run
stops_lost limit show input unread a b f (reading e p r u w) = writing refl p (whole_front _ _ _ w)
stops_lost limit show input unread a b f (unmade e u w) =
    writing refl (nothing_run limit input) (subst (AppendsFront a b) (sym (told_none show)) (whole_front _ _ _ w))
stops_lost limit show input unread a b f (wanting e p line others m r n w) = writing refl p (whole_front _ _ _ w)
stops_lost limit show input unread a b f (overlong p line others e l q w) = writing refl p (whole_front _ _ _ w)
stops_lost limit show input unread a b f (refusing p line others e q l w) = writing refl p (whole_front _ _ _ w)
stops_lost limit show input unread a b f (unopened p e q w) = writing refl p (whole_front _ _ _ w)
stops_lost limit show input unread a b f (writing e p w) = writing refl p w
stops_lost limit show input unread a b f (closing e p m o behind is w) = closing refl p m o behind is w

pub ends_lost : {T : Type 0} (limit : CallLimit) (show : Show) (input : List ℕ) (unread : List ℕ) (a b : Option (List ℕ)) (r : Result T TraceFault)
    → Ends limit show input unread a b r
    → Stops limit show input unread a b WriteFailed
ends_lost limit show input unread a b (Ok x) h =
    closing refl (record {
      done = lines_of input;
      more = [];
      stage = h.stage;
      text = h.text;
      lines = sym (append-nil (lines_of input));
      runs = h.runs;
    }) refl h.opens h.behind (begun_behind show h.stage h.behind h.is) (whole_front _ _ _ h.appends)
ends_lost limit show input unread a b (Err f) h = stops_lost limit show input unread a b f h

-- what isn't `write failed` leaves the writer's mark as it was
pub mark_kept : {T : Type 0} (r : Result T TraceFault) (x : T) (a b : Bool) → r ≡ Ok x → (r ≡ Err WriteFailed) ⊎ (b ≡ a) → b ≡ a
mark_kept r x a b e (inl w) = let clash : Ok x ≡ Err WriteFailed = sym e ∙ w in absurd (cc)
mark_kept r x a b e (inr k) = k

pub fault_kept : {T U : Type 0} (r : Result T TraceFault) (s : Result U TraceFault) (f : TraceFault) (a b c : Bool) → r ≡ Err f → s ≡ Err f
    → (r ≡ Err WriteFailed) ⊎ (c ≡ b) → b ≡ a → (s ≡ Err WriteFailed) ⊎ (c ≡ a)
fault_kept r s f a b c e d (inl w) k = let same : f ≡ WriteFailed = cc in inl (d ∙ ap Err same)
fault_kept r s f a b c e d (inr l) k = inr (l ∙ k)

pub mark_then : {T : Type 0} (r : Result T TraceFault) (a b c : Bool) → (r ≡ Err WriteFailed) ⊎ (c ≡ b) → b ≡ a
    → (r ≡ Err WriteFailed) ⊎ (c ≡ a)
mark_then r a b c (inl w) k = inl w
mark_then r a b c (inr l) k = inr (l ∙ k)
