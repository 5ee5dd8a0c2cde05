use Rattle.std.proofs.Common.{◌≡◌, ℕ, List, [], ◌∷◌, Option, map, refl, ap, ◌∙◌}
use Rattle.word_import.specs.Joined.{log_of}
use Rattle.word_import.specs.declared.joined.TimedLog.{TimedLog}
use Rattle.word_import.proofs.gathering.gather.Goals as goal

-- the logs' threads
threads_of : (logs : List TimedLog) → map (λ (f : Option ℕ × List ℕ). f.0) (map log_of logs) ≡ map (λ (l : TimedLog). l.thread) logs
threads_of [] = refl
threads_of (l ∷ ls) = ap (λ ts. l.thread ∷ ts) (threads_of ls)

pub returns-in-Ok-join_logs : goal.returns-in-Ok-join_logs
returns-in-Ok-join_logs g c = record {
  logs = map log_of c.as_slice.result.now;
  named = threads_of c.as_slice.result.now ∙ ap (map (λ (l : TimedLog). l.thread)) c.as_slice.ensures.value ∙ c.in-Ok.ensures;
  joined = c.in-Ok-join_logs.ensures.text;
  timeless = c.in-Ok-join_logs.ensures.untimed;
  placeless = c.in-Ok-join_logs.ensures.unplaced;
}
