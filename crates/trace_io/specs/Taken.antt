-- Lines that were taken, and what was read.
use Rattle.std.specs.Prelude.{◌≡◌, ℕ, ◌≤◌, List, ◌++◌, length}
use Rattle.trace_io.specs.Lines.{lines_of}

-- these lines were read, and behind them what the reader has given besides, at most a chunk of
-- 65,536 bytes
pub record AreRead (input unread : List ℕ) (done : List (List ℕ)) : Type 0 where
  pub whole : List ℕ
  pub held : List ℕ
  pub bytes : input ≡ whole ++ held ++ unread
  pub lines : lines_of whole ≡ done
  pub few : length held ≤ 65536
