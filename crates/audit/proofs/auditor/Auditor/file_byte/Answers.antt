use Rattle.std.proofs.Common.{Some}
use Rattle.audit.proofs.auditor.Auditor.file_byte.Goals as goal

pub file_byte-requires-clause-cached : goal.file_byte-requires-clause-cached
file_byte-requires-clause-cached g c = λ n k f e. (c.args.self.now.kept.taken (Some n) k f e).0
