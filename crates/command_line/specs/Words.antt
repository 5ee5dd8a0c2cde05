-- What each word of the command line does: how it ends, what is read and written by then, and the status.
use Rattle.std.specs.Prelude.{◌≡◌, ℕ, Bool}
use Rattle.word_runs.specs.Litmus.{TellsTest}
use Rattle.word_runs.specs.Witness.{PicturesWitness}
use Rattle.word_grammar.specs.declared.asking.Work.{Work}
use Rattle.word_grammar.specs.declared.asking.Work.TheVariants as For
use Rattle.slot_lock.specs.Slots.{Slots}
use Rattle.trace_io.specs.Io.{ReadFrom, WrittenTo}
use Rattle.vm_base.specs.declared.page.PageRange.{PageRange}
use Rattle.word_runs.specs.Words.{ReplaysTrace, EchoesTrace, CertifiesNotes, RunsScript, WritesHistory, CertifiesRun, SharesScript}
use Rattle.word_import.specs.Words.{ImportsLog, ImportsReplies, ImportsEach, ImportsAccesses}
use Rattle.word_audit.specs.Words.{AuditsReplies, ReviewsReplies, JudgesOrGivesUp, JudgesByKernel}
use Rattle.word_pictures.specs.Words.{PicturesTrace}

-- what the words ask for: an import reads a list besides, a litmus test counts, and the others nothing
abbrev pub DoesWork : Type 0 → (PageRange → ℕ → ℕ → Bool) → (Slots → ℕ → Type 0) → (Slots → Slots → ℕ → Type 0)
    → Work → ReadFrom → ReadFrom → WrittenTo → ℕ → Type 0
DoesWork A parts CanFold Folds (For.Replay shows) list text out n = ReplaysTrace shows text out n
DoesWork A parts CanFold Folds (For.Echo limit coloured logs) list text out n = EchoesTrace coloured logs limit text out n
DoesWork A parts CanFold Folds For.Certify list text out n = CertifiesNotes A parts CanFold Folds text out n
DoesWork A parts CanFold Folds (For.Live sums) list text out n = RunsScript text out n
DoesWork A parts CanFold Folds (For.CertifyLive sums) list text out n = CertifiesRun A parts CanFold Folds text out n
DoesWork A parts CanFold Folds (For.LiveHistory sums) list text out n = WritesHistory text out n
DoesWork A parts CanFold Folds For.ShareLive list text out n = SharesScript text out n
DoesWork A parts CanFold Folds (For.Import choice) list text out n = ImportsLog choice list text out n
DoesWork A parts CanFold Folds (For.ImportReplies choice several) list text out n = ImportsReplies choice several list text out n
DoesWork A parts CanFold Folds For.ImportEach list text out n = ImportsEach text n × (out.after ≡ out.before)
DoesWork A parts CanFold Folds For.ImportAccesses list text out n = ImportsAccesses text out n
DoesWork A parts CanFold Folds (For.Audit terms) list text out n = AuditsReplies terms text out n
DoesWork A parts CanFold Folds (For.AuditAll terms) list text out n = ReviewsReplies terms text out n
DoesWork A parts CanFold Folds (For.Overlapping overlaps is_alone) list text out n = JudgesOrGivesUp A is_alone overlaps.any_place text out n
DoesWork A parts CanFold Folds (For.ByKernel any_place moving) list text out n = JudgesByKernel A any_place moving text out n
DoesWork A parts CanFold Folds (For.Picture drawing) list text out n = PicturesTrace drawing text out n
DoesWork A parts CanFold Folds (For.Litmus wanted limit) list text out n = TellsTest (record { wanted = wanted; limit = limit }) list text out n
DoesWork A parts CanFold Folds (For.PictureWitness asked) list text out n = PicturesWitness asked text out n
