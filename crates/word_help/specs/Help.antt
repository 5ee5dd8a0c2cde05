-- Which text each topic of the help has.
use Rattle.std.specs.Prelude.{◌≡◌, ℕ, List, take}
use Rattle.word_help.specs.declared.TheConstants as Text
use Rattle.word_help.specs.declared.traces.TheConstants as OfTraces
use Rattle.word_help.specs.declared.texts.TheConstants as OfTexts
use Rattle.word_help.specs.declared.Topic.{Topic}
use Rattle.word_help.specs.declared.Topic.TheVariants.{Overview, Run, Trace, Outcomes, Log, Maps, Faults, Cores, Formats, Notes, Threads, Import}
use Rattle.word_help.specs.declared.Topic.TheVariants.{Audit, Picture, State, Page, Litmus}

abbrev pub page_of : Topic → List ℕ
page_of Overview = Text.OVERVIEW.now
page_of Run = OfTraces.RUN.now
page_of Trace = OfTraces.TRACE.now
page_of Outcomes = OfTraces.OUTCOMES.now
page_of Log = OfTraces.LOG.now
page_of Maps = OfTraces.MAPS.now
page_of Faults = OfTraces.FAULTS.now
page_of Cores = OfTraces.CORES.now
page_of Formats = OfTraces.FORMATS.now
page_of Notes = OfTexts.NOTES.now
page_of Threads = OfTexts.THREADS.now
page_of Import = OfTexts.IMPORT.now
page_of Audit = OfTexts.AUDIT.now
page_of Picture = OfTexts.PICTURE.now
page_of State = OfTraces.STATE.now
page_of Page = OfTraces.PAGE.now
page_of Litmus = OfTexts.LITMUS.now

-- these bytes are the first ones of the text
abbrev pub IsFront : List ℕ → List ℕ → Type 0
IsFront text front = (count : ℕ) × (front ≡ take count text)
