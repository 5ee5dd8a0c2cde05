-- Notes and their grammar.
use Rattle.machine_model.proofs.Words.{◌≡◌, ◌≢◌, ℕ, suc, ◌<◌, Bool, true, false, not, eqb, List, [], ◌∷◌, ◌++◌, Option, Some, None, codes, decimal, map, arith}
use Rattle.machine_model.proofs.Words.{refl, sym, ap, ◌∙◌, subst, IfSome, IfNone, nat_tests, EINVAL, MapErr, Reply, Mapped, Byte, Refused, Segv}
use Rattle.machine_model.specs.declared.event.Blocker.TheVariants.{Slot}
use Rattle.machine_model.specs.declared.event.Event.{Event}
use Rattle.machine_model.specs.declared.event.Outcome.{Outcome}
use Rattle.machine_model.specs.declared.event.Outcome.TheVariants.{Stepped, Wait, Idle, Answered, Full}
use Rattle.std.specs.List.{list_all}
use Rattle.machine_model.specs.declared.event.Blocker.TheVariants.{Acks}
use Rattle.seats.specs.declared.noted.Noted.{Noted}
use Rattle.seats.specs.Notes.{noted}
use Rattle.trace_text.specs.Words.{Word, words_of, begins_word}
use Rattle.trace_text.specs.Request.{◌>>=◌, front_number}
use Rattle.trace_text.specs.Line.{line_of_words}
use Rattle.trace_text.proofs.Choices.{bind_some}
use Rattle.trace_text.proofs.LineLemmas.{said_is_read, read_is_said}
use Rattle.trace_text.proofs.BytesLemmas.{decimal_has, digits_have, words_have}
use Rattle.trace_text.proofs.SpellingLemmas.{front_all, front_only}
use Rattle.trace_text.proofs.WordLemmas.{words_join}
use Rattle.notes_text.specs.Outcomes.{outcome_of}
use Rattle.notes_text.specs.Grammar.{NamesReply, NamesOutcome, NamesEvent, NamesNote, Ascend, event_said}
use Rattle.notes_text.specs.Laws.{ReadsAllOutcomes, ReadsOnlyOutcomes, NotesAreOne}
use Rattle.trace_text.specs.Halves.{are_clear, AreHalves}
use Rattle.notes_text.specs.Halves.{event_named, note_of}
use Rattle.notes_text.proofs.OutcomeLemmas.{outcome_all, outcome_only}
use Rattle.notes_text.proofs.SplitLemmas.{splits}
use Rattle.trace_text.proofs.HalvesLemmas.{halves_one}

-- ---- the words of an outcome have no sign

-- no sign
abbrev unsigned : ℕ → Bool
unsigned c = not (eqb c 61)

decimal_clear : (n : ℕ) → n < 64 → are_clear (decimal n) ≡ true
decimal_clear n h = decimal_has unsigned (refl, refl, refl) n (omega (arith, h))

cores_clear : (least : ℕ) (cores : List ℕ) → Ascend least cores → list_all are_clear (map decimal cores) ≡ true
cores_clear least [] a = refl
cores_clear least (c ∷ cs) (low, small, more) =
    let one : are_clear (decimal c) ≡ true = decimal_clear c small in
    let others : list_all are_clear (map decimal cs) ≡ true = cores_clear (suc c) cs more in
    rw (one, others) refl

reply_clear : (r : Reply) (words : List Word) → NamesReply r words → list_all are_clear words ≡ true
reply_clear (Mapped a) words (digits, e, s, h) =
    let one : are_clear digits ≡ true = digits_have unsigned (refl, refl, refl) 16 digits s.digits s.each in rw (e, one) refl
reply_clear (Byte b) words (w, e, s, h) =
    let one : are_clear w ≡ true = digits_have unsigned (refl, refl, refl) 10 w s.digits s.each in rw (e, one) refl
reply_clear (Refused EINVAL) words e = rw e refl
reply_clear (Segv MapErr) words e = rw e refl
reply_clear r words e = rw e refl

outcome_clear : (o : Outcome) (words : List Word) → NamesOutcome o words → list_all are_clear words ≡ true
outcome_clear Stepped words e = rw e refl
outcome_clear (Wait (Slot core)) words (h, e) = let one : are_clear (decimal core) ≡ true = decimal_clear core h in rw (e, one) refl
outcome_clear (Wait (Acks set)) words (first, others, e, a, s) =
    ap (list_all are_clear) e ∙ cores_clear 0 (first ∷ others) a
outcome_clear Idle words e = rw e refl
outcome_clear (Answered r) words e = reply_clear r words e
outcome_clear Full words e = rw e refl

-- an outcome has words
outcome_some : (o : Outcome) → NamesOutcome o [] → ⊥
unfolding outcome_of
outcome_some o h = let read : outcome_of [] ≡ Some o = outcome_all o [] h in absurd (cc)

-- ---- events

event_all : (e : Event) (words : List Word) → NamesEvent e words → event_named words ≡ Some e
unfolding event_named
event_all e words (line, said, asks) = ap (λ o. o >>= event_said) (said_is_read line words said) ∙ asks

event_only : (e : Event) (words : List Word) → event_named words ≡ Some e → NamesEvent e words
unfolding event_named
event_only e words k =
    let (line, read, asks) = bind_some (line_of_words words) event_said e k in
    (line, read_is_said line words read, asks)

-- ---- notes

-- where a line that names a note is divided
pub record Found (line : List ℕ) (note : Noted) : Type 0 where
  pub front : List ℕ
  pub behind : List ℕ
  pub halves : AreHalves line front behind
  pub reads : note_of (words_of front) (words_of behind) ≡ Some note

behind_sign : (behind : List ℕ) → begins_word behind ≡ false → words_of behind ≢ [] → (rest : List ℕ) × (behind ≡ 32 ∷ rest) × (words_of behind ≡ words_of rest)
behind_sign [] e some = absurd (some refl)
behind_sign (x ∷ xs) e some =
    let space : x ≡ 32 = flip (eqb x 32) refl e in
    (xs, ap (λ c. c ∷ xs) space, ap (λ c. words_of (c ∷ xs)) space)
  where
    flip : (b : Bool) → eqb x 32 ≡ b → not b ≡ false → x ≡ 32
    flip true e f = grind (arith, nat_tests, e)
    flip false e f = absurd (cc)

pub note_found : (line : List ℕ) (note : Noted) → NamesNote note (words_of line) → Found line note
unfolding note_of
note_found line note (ticket, event, outcome, e, spelled, named, came) =
    let s = splits line (ticket ∷ event) outcome e (λ e. absurd (cc)) in
    let (rest, is, same) = behind_sign s.behind s.edge (λ e. outcome_some note.outcome (subst (NamesOutcome note.outcome) (sym s.after ∙ e) came)) in
    let after : words_of rest ≡ outcome = sym same ∙ s.after in
    record {
      front = s.front;
      behind = rest;
      halves = record {
        is = s.is ∙ ap (λ l. s.front ++ 32 ∷ 61 ∷ l) is;
        clear = words_have unsigned refl rest (ap (list_all are_clear) after ∙ outcome_clear note.outcome outcome came);
      };
      reads = ap (λ l. note_of l (words_of rest)) s.before ∙ ap (λ l. note_of (ticket ∷ event) l) after
          ∙ ap (λ o. o >>= λ t. event_named t.1 >>= λ e. outcome_of outcome >>= λ o. Some (noted t.0 e o)) (front_all ticket event note.ticket spelled)
          ∙ ap (λ o. o >>= λ e. outcome_of outcome >>= λ o. Some (noted note.ticket e o)) (event_all note.event event named)
          ∙ ap (λ o. o >>= λ o. Some (noted note.ticket note.event o)) (outcome_all note.outcome outcome came);
    }

pub note_only : (line front behind : List ℕ) (note : Noted) → AreHalves line front behind
    → note_of (words_of front) (words_of behind) ≡ Some note → NamesNote note (words_of line)
unfolding note_of
note_only line front behind note h k =
    let is : line ≡ front ++ 32 ∷ 61 ∷ 32 ∷ behind = h.is in
    let words : words_of line ≡ words_of front ++ codes "=" ∷ words_of behind = ap words_of is ∙ words_join front (61 ∷ 32 ∷ behind) in
    let (ticket, et, e1) = bind_some (front_number (words_of front)) _ note k in
    let (event, ee, e2) = bind_some (event_named ticket.1) _ note e1 in
    let (outcome, eo, e3) = bind_some (outcome_of (words_of behind)) (λ o. Some (noted ticket.0 event o)) note e2 in
    let same : noted ticket.0 event outcome ≡ note = cc in
    let (t, begins, spelled) = front_only (words_of front) ticket et in
    subst (λ n. NamesNote n (words_of line)) same (
      t,
      ticket.1,
      words_of behind,
      words ∙ ap (λ l. l ++ codes "=" ∷ words_of behind) begins,
      spelled,
      event_only event ticket.1 ee,
      outcome_only (words_of behind) outcome eo,
    )

-- a line divided so names no note
pub not_found : (line front behind : List ℕ) (note : Noted) → AreHalves line front behind
    → note_of (words_of front) (words_of behind) ≡ None → NamesNote note (words_of line) → ⊥
not_found line front behind note h none names =
    let f = note_found line note names in
    let (p, q) = halves_one line f.front f.behind front behind f.halves h in
    let clash : None ≡ Some note = sym none ∙ ap (λ l. note_of (words_of l) (words_of behind)) (sym p)
    ∙ ap (λ l. note_of (words_of f.front) (words_of l)) (sym q) ∙ f.reads in
    absurd (cc)

-- ---- the laws

pub reads_all : ReadsAllOutcomes
reads_all = outcome_all

pub reads_only : ReadsOnlyOutcomes
reads_only outcome words e = outcome_only words outcome e

pub notes_one : NotesAreOne
notes_one a b line p q =
    let f = note_found line a p in
    let g = note_found line b q in
    let (front, behind) = halves_one line f.front f.behind g.front g.behind f.halves g.halves in
    let same : Some a ≡ Some b = sym f.reads ∙ ap (λ l. note_of (words_of l) (words_of f.behind)) front
    ∙ ap (λ l. note_of (words_of g.front) (words_of l)) behind ∙ g.reads in
    cc

-- ---- what the code reads

pub names_some : (r : Option Noted) (line front behind : List ℕ) → AreHalves line front behind → r ≡ note_of (words_of front) (words_of behind)
    → IfSome r (λ note. NamesNote note (words_of line))
names_some None line front behind h e = tt
names_some (Some note) line front behind h e = note_only line front behind note h (sym e)

pub names_none : (r : Option Noted) (line front behind : List ℕ) → AreHalves line front behind → r ≡ note_of (words_of front) (words_of behind)
    → IfNone r ((note : Noted) → NamesNote note (words_of line) → ⊥)
names_none None line front behind h e = λ note names. not_found line front behind note h (sym e) names
names_none (Some note) line front behind h e = tt
