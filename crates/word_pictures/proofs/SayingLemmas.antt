-- What is said of a trace's states
use Rattle.std.proofs.Common.{◌≡◌, ℕ, ◌⊎◌, ◌<◌, inl, inr, true, false, List, [], ◌++◌, Option, None, Some, Result, Ok, Err, IfOk, IfErr, Vec, ap, length, refl, subst, sym, ◌∙◌}
use Rattle.trace_io.specs.Lines.{lines_of}
use Rattle.std.specs.declared.alloc.Global.{Global}
use Rattle.trace_words.specs.declared.fault.TraceFault.{TraceFault}
use Rattle.trace_words.specs.declared.fault.TraceFault.TheVariants.{NoMemory, WriteFailed}
use Rattle.machine_model.specs.declared.setup.CallLimit.TheVariants.{Usual}
use Rattle.trace_words.specs.declared.show.Show.TheVariants.{Outcomes}
use Rattle.state_text.specs.declared.form.Form.TheVariants.{Text}
use Rattle.state_text.specs.Fronts.{IsFront, lines_to}
use Rattle.state_text.specs.Traces.{Told, told_text}
use Rattle.state_seen.specs.Shown.{IsNothing, Seen}
use Rattle.state_changes.specs.Behind.{SaysChanges, SaysSteps}
use Rattle.state_changes.specs.Leads.{IsTold}
use Rattle.state_changes.specs.Pages.{ShowsStates, text_behind}
use Rattle.state_changes.specs.Recorded.{IsFresh, Recorded, Records}
use Rattle.state_changes.specs.Seeking.{HasWords, Seeks}
use Rattle.state_changes.specs.declared.seeking.Sought.{Sought}
use Rattle.state_changes.proofs.Lines.{states_shown}
use Rattle.state_changes.proofs.Walking.{changes_said}
use Rattle.trace.specs.Numbered.{texts_of}
use Rattle.word_parts.specs.declared.asked.Condition.{Condition}
use Rattle.word_pictures.proofs.PageLemmas.{first_of, second_of}
use Rattle.word_pictures.proofs.StateLemmas.{front_lines, told_as}
use Rattle.std.specs.Io.KnownBytes.{Keeps}
use Rattle.trace_io.specs.Sink.{AppendsFront}
use Rattle.word_pictures.specs.Changing.{as_it_is}
use Rattle.word_pictures.specs.Picture.{Fails, IsHistory, LacksMemory, ShowsText, TextEnds, Watched, lacking_calls}
use Rattle.word_pictures.specs.Saying.{SaysFirst, SeeksIn, TellsSought, TellsState, lacking_said, text_said, words_for}
use Rattle.word_pictures.specs.State.{FailsTo, SeesState, sight_text}
use Rattle.word_pictures.specs.Stepping.{is_whole}
use Rattle.word_pictures.specs.declared.saying.Say.{Say}
use Rattle.word_pictures.specs.declared.stating.Sight.{Sight}

-- what was seen of the front of a trace is the state behind its last line
pub state_told : (at : Option ℕ) (input front text : List ℕ) (one : Seen) (s : Sight) → IsFront at input front → IsNothing one → SeesState Text one front (Ok s)
    → s.mirror.whole ≡ true → text ≡ sight_text Text s → TellsState at input text
state_told at input front text one s is n w whole e =
    let to = told_as Text one s front n w whole in
    (to.0, subst (λ ls. IsTold ls to.0) (front_lines at input front is) to.1, e ∙ to.2)

pub states_told : (at : Option ℕ) (input front : List ℕ) (one : Seen) (s : Sight) (r : Result (Vec ℕ Global) TraceFault) → IsFront at input front → IsNothing one
    → SeesState Text one front (Ok s) → IfOk r (λ text. s.mirror.whole ≡ true) → IfOk r (λ text. text.items ≡ sight_text Text s)
    → IfOk r (λ text. TellsState at input text.items)
states_told at input front one s (Ok text) is n w whole e = state_told at input front text.items one s is n w whole e
states_told at input front one s (Err f) is n w whole e = tt

pub wants_memory : {T : Type 0} (at : Option ℕ) (input : List ℕ) (r : Result T TraceFault) → IfErr r (λ f. f ≡ NoMemory) → IfErr r (FailsTo at input)
wants_memory at input (Ok x) e = tt
wants_memory at input (Err f) e = inr (inl e)

-- all was recorded
pub was_shown : (input : List ℕ) (one r : Recorded) → IsFresh one → Watched Records one input r → is_whole r → ShowsStates (lines_of input) r
was_shown input one r fresh w whole =
    states_shown one r Outcomes input None None fresh w (first_of r.whole r.seen.whole whole) (second_of r.whole r.seen.whole whole)

pub changes_told_all : (lines : List (List ℕ)) (r : Recorded) (result : Result (Vec (Vec ℕ Global) Global) TraceFault) → ShowsStates lines r
    → IfOk result (λ texts. SaysSteps lines r (texts_of texts.items)) → IfOk result (λ texts. SaysChanges lines (texts_of texts.items))
changes_told_all lines r (Ok texts) shows h = changes_said lines r (texts_of texts.items) shows h
changes_told_all lines r (Err f) shows h = tt

pub wants_replay : {T : Type 0} (input : List ℕ) (r : Result T TraceFault) → IfErr r (λ f. f ≡ NoMemory) → IfErr r (Fails Usual input)
wants_replay input (Ok x) e = tt
wants_replay input (Err f) e = inr (inl e)

-- what is sought among recorded states, told
pub seeks_said : {E : Type 0} (condition : Condition) (input words : List ℕ) (r : Recorded) (s : Sought) (result : Result Say E) → words ≡ words_for condition
    → Seeks words (length (lines_of input)) (λ n. text_behind n (lines_of input) r.moments r.first) s → IfOk result (TellsSought s)
    → IfOk result (SeeksIn condition input r)
seeks_said condition input words r s (Ok say) is seeks tells =
    (s, subst (λ ws. Seeks ws (length (lines_of input)) (λ n. text_behind n (lines_of input) r.moments r.first) s) is seeks, tells)
seeks_said condition input words r s (Err f) is seeks tells = tt

-- what is sought in texts that are the same
sought_as : (words : List ℕ) (all : ℕ) (one other : ℕ → List ℕ) (s : Sought) → ((n : ℕ) → one n ≡ other n) → Seeks words all one s → Seeks words all other s
sought_as words all one other s same h = record {
  is = h.is ∙ same s.lines;
  before = λ n k has. h.before n k (subst (HasWords words) (sym (same n)) has);
  has = λ e. subst (HasWords words) (same s.lines) (h.has e);
  none = λ e. ((h.none e).0, λ has. (h.none e).1 (subst (HasWords words) (sym (same s.lines)) has));
}

pub first_said : (condition : Condition) (input : List ℕ) (r : Recorded) (say : Say) → ShowsStates (lines_of input) r → SeeksIn condition input r say
    → SaysFirst condition input say
first_said condition input r say shows (s, seeks, tells) = record {
  behind = λ n. (shows n).0;
  told = λ n. (shows n).1;
  sought = s;
  seeks = sought_as (words_for condition) (length (lines_of input)) _ (λ n. told_text Text (shows n).0) s (λ n. (shows n).2) seeks;
  tells = tells;
}

-- the picture of a history was written, or wasn't
pub history_drawn : (input : List ℕ) (old new : Option (List ℕ)) (say : Say) (ended : Result (Option ℕ) TraceFault) → IsHistory input (text_said say)
    → lacking_said say ≡ lacking_calls input (text_said say) → IfOk ended (λ x. (x ≡ lacking_said say) × ShowsText x (text_said say) old new)
    → IfErr ended (λ f. ((f ≡ NoMemory) × Keeps old new) ⊎ ((f ≡ WriteFailed) × AppendsFront old new (text_said say)))
    → TextEnds (IsHistory input) LacksMemory (lacking_calls input) as_it_is old new ended
history_drawn input old new say (Ok x) is lacking (e, w) err = (text_said say, is, e ∙ lacking, w)
history_drawn input old new say (Err f) is lacking ok (inl (none, kept)) = inl (inl none, kept)
history_drawn input old new say (Err f) is lacking ok (inr (failed, front)) = inr (failed, inr (text_said say, is, front))
