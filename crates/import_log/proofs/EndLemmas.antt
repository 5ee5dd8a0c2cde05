-- How an import ends.
use Rattle.std.proofs.Common.{◌≡◌, ℕ, List, Option, refl, ap, ◌∙◌, subst}
use Rattle.std.specs.Io.KnownBytes.{Appends}
use Rattle.trace_io.specs.Sink.{AppendsFront}
use Rattle.trace_io.specs.Source.{Stream, Reads}
use Rattle.trace_io.specs.declared.fault.IoFault.{IoFault}
use Rattle.trace_io.specs.declared.fault.IoFault.TheVariants.{ReadFailed, NoMemory, WriteFailed}
use Rattle.trace_io.proofs.IoLemmas.{keeps_same}
use Rattle.trace_io.proofs.LineLemmas.{reads_map}
use Rattle.import_log.specs.Ends.{ImportsAll, IsImported, MakeStops, ended_text, made_text}
use Rattle.import_log.specs.Imported.{ending_of, import_of}
use Rattle.import_steps.specs.Taking.{SoFar}
use Rattle.import_steps.specs.declared.counts.LineCounts.{LineCounts}
use Rattle.import_log.specs.declared.import.Ending.{Ending}
use Rattle.import_log.specs.declared.import.Report.{Report}
use Rattle.import_log.specs.declared.processes.Choice.{Choice}

-- the text is that of the log's import
text_known : (start : SoFar) (choice : Choice) (input text : List ℕ) (counts : LineCounts) (ending : Ending) (s : SoFar)
    → (s, counts) ≡ import_of start choice input → ending ≡ ending_of start choice input → text ≡ ended_text ending s → text ≡ made_text start choice input
text_known start choice input text counts ending s h g e =
    e ∙ ap (λ x. ended_text x s) g ∙ ap (λ (p : SoFar × LineCounts). ended_text (ending_of start choice input) p.0) h

pub imports_all : (start : SoFar) (choice : Choice) (input text : List ℕ) (old new : Option (List ℕ)) (s : SoFar) (report : Report)
    → IsImported start choice input s report → text ≡ ended_text report.ending s → Appends old new text → ImportsAll start choice input old new report
imports_all start choice input text old new s report is e w = record {
  log = record {
    written = subst (Appends old new) (text_known start choice input text report.counts report.ending s is.value is.ending e) w;
    told = ap (λ (p : SoFar × LineCounts). p.1) is.value;
    all = is.total;
  };
  ending = is.ending;
  processes = is.processes;
  programs = is.programs;
  process = is.process;
  unread = is.unread;
}

pub imports_front : (start : SoFar) (choice : Choice) (input text : List ℕ) (old new : Option (List ℕ)) (s : SoFar) (report : Report)
    → IsImported start choice input s report → text ≡ ended_text report.ending s → AppendsFront old new text
    → AppendsFront old new (made_text start choice input)
imports_front start choice input text old new s report is e w =
    subst (AppendsFront old new) (text_known start choice input text report.counts report.ending s is.value is.ending e) w

pub stops_here : (text : List ℕ) (o : Option (List ℕ)) (f : IoFault) → (f ≡ WriteFailed → ⊥) → MakeStops text o o f
stops_here text o ReadFailed n = keeps_same o
stops_here text o NoMemory n = keeps_same o
stops_here text o WriteFailed n = absurd (n refl)

pub stopped : (a b : Stream) (made : List ℕ → List ℕ) (o : Option (List ℕ)) (f : IoFault) → (f ≡ WriteFailed → ⊥) → Reads a b (λ xs ys. xs ≡ xs)
    → Reads a b (λ input unread. MakeStops (made input) o o f)
stopped a b made o f n r = reads_map a b _ _ r (λ xs ys k e. stops_here (made xs) o f n)
