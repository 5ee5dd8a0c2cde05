-- How an import of a log of lackey ends.
use Rattle.std.proofs.Common.{◌≡◌, ℕ, List, Option, length, ap, ◌∙◌, subst}
use Rattle.std.specs.Io.KnownBytes.{Appends}
use Rattle.trace_io.specs.Lines.{lines_of}
use Rattle.trace_io.specs.Sink.{AppendsFront}
use Rattle.import_steps.specs.Counts.{total}
use Rattle.import_log.specs.Ends.{MakesText}
use Rattle.import_steps.specs.declared.counts.LineCounts.{LineCounts}
use Rattle.import_log.specs.declared.import.Ending.{Ending}
use Rattle.import_lackey.specs.Traced.{ended_text, ending_from, ending_of, traced_text}
use Rattle.import_lackey.specs.Tracing.{State, trace_of}

-- the text is that of the log's import
text_known : (input text : List ℕ) (counts : LineCounts) (ending : Ending) (s : State) → (s, counts) ≡ trace_of input → ending ≡ ending_of input
    → text ≡ ended_text ending s.taken → text ≡ traced_text input
text_known input text counts ending s h g e =
    e ∙ ap (λ x. ended_text x s.taken) g ∙ ap (λ (p : State × LineCounts). ended_text (ending_of input) p.0.taken) h

pub traces_all : (input text : List ℕ) (old new : Option (List ℕ)) (counts : LineCounts) (ending : Ending) (s : State)
    → (s, counts) ≡ trace_of input → ending ≡ ending_of input → total counts ≡ length (lines_of input) → text ≡ ended_text ending s.taken
    → Appends old new text → MakesText (traced_text input) (trace_of input).1 counts input old new
traces_all input text old new counts ending s h g t e w = record {
  written = subst (Appends old new) (text_known input text counts ending s h g e) w;
  told = ap (λ (p : State × LineCounts). p.1) h;
  all = t;
}

pub traces_front : (input text : List ℕ) (old new : Option (List ℕ)) (counts : LineCounts) (ending : Ending) (s : State)
    → (s, counts) ≡ trace_of input → ending ≡ ending_of input → text ≡ ended_text ending s.taken → AppendsFront old new text
    → AppendsFront old new (traced_text input)
traces_front input text old new counts ending s h g e w = subst (AppendsFront old new) (text_known input text counts ending s h g e) w

-- the ending is that of what was taken
pub ending_known : (input : List ℕ) (counts : LineCounts) (ending : Ending) (s : State) → (s, counts) ≡ trace_of input
    → ending ≡ ending_from s → ending ≡ ending_of input
ending_known input counts ending s h e = e ∙ ap (λ (p : State × LineCounts). ending_from p.0) h
