use Rattle.std.proofs.Common.{ap, refl}
use Rattle.command_line.proofs.DoneLemmas.{is_each, other_work}
use Rattle.command_line.proofs.command.act.Goals as goal

pub returns-in-Replay-clause-does : goal.returns-in-Replay-clause-does
returns-in-Replay-clause-does g c = rw c.in-Replay.is c.run.ensures.ends

pub returns-in-Echo-clause-does : goal.returns-in-Echo-clause-does
returns-in-Echo-clause-does g c = rw c.in-Echo.is c.run_echoing.ensures.ends

pub returns-in-Certify-clause-does : goal.returns-in-Certify-clause-does
returns-in-Certify-clause-does g c = rw c.in-Certify.is c.certify.ensures.ends

pub returns-in-Live-clause-does : goal.returns-in-Live-clause-does
returns-in-Live-clause-does g c = rw c.in-Live.is c.live.ensures.ends

pub returns-in-CertifyLive-clause-does : goal.returns-in-CertifyLive-clause-does
returns-in-CertifyLive-clause-does g c = rw c.in-CertifyLive.is c.certify_live.ensures.ends

pub returns-in-LiveHistory-clause-does : goal.returns-in-LiveHistory-clause-does
returns-in-LiveHistory-clause-does g c = rw c.in-LiveHistory.is c.live_history.ensures.ends

pub returns-in-ShareLive-clause-does : goal.returns-in-ShareLive-clause-does
returns-in-ShareLive-clause-does g c = rw c.in-ShareLive.is c.share_live.ensures.ends

pub returns-in-Import-clause-does : goal.returns-in-Import-clause-does
returns-in-Import-clause-does g c = rw c.in-Import.is c.import.ensures.ends

pub returns-in-ImportReplies-clause-does : goal.returns-in-ImportReplies-clause-does
returns-in-ImportReplies-clause-does g c = rw c.in-ImportReplies.is c.import_calls.ensures.ends

pub returns-in-ImportEach-clause-does : goal.returns-in-ImportEach-clause-does
returns-in-ImportEach-clause-does g c = rw c.in-ImportEach.is (c.import_each.ensures.ends, refl)

pub returns-in-ImportAccesses-clause-does : goal.returns-in-ImportAccesses-clause-does
returns-in-ImportAccesses-clause-does g c = rw c.in-ImportAccesses.is c.import_accesses.ensures.ends

pub returns-in-Audit-clause-does : goal.returns-in-Audit-clause-does
returns-in-Audit-clause-does g c = rw c.in-Audit.is c.audit.ensures.ends

pub returns-in-Picture-clause-does : goal.returns-in-Picture-clause-does
returns-in-Picture-clause-does g c = rw c.in-Picture.is c.picture.ensures.ends

pub returns-in-Replay-clause-parts : goal.returns-in-Replay-clause-parts
returns-in-Replay-clause-parts g c = other_work (ap is_each c.in-Replay.is)

pub returns-in-Echo-clause-parts : goal.returns-in-Echo-clause-parts
returns-in-Echo-clause-parts g c = other_work (ap is_each c.in-Echo.is)

pub returns-in-Certify-clause-parts : goal.returns-in-Certify-clause-parts
returns-in-Certify-clause-parts g c = other_work (ap is_each c.in-Certify.is)

pub returns-in-Live-clause-parts : goal.returns-in-Live-clause-parts
returns-in-Live-clause-parts g c = other_work (ap is_each c.in-Live.is)

pub returns-in-CertifyLive-clause-parts : goal.returns-in-CertifyLive-clause-parts
returns-in-CertifyLive-clause-parts g c = other_work (ap is_each c.in-CertifyLive.is)

pub returns-in-LiveHistory-clause-parts : goal.returns-in-LiveHistory-clause-parts
returns-in-LiveHistory-clause-parts g c = other_work (ap is_each c.in-LiveHistory.is)

pub returns-in-ShareLive-clause-parts : goal.returns-in-ShareLive-clause-parts
returns-in-ShareLive-clause-parts g c = other_work (ap is_each c.in-ShareLive.is)

pub returns-in-Import-clause-parts : goal.returns-in-Import-clause-parts
returns-in-Import-clause-parts g c = other_work (ap is_each c.in-Import.is)

pub returns-in-ImportReplies-clause-parts : goal.returns-in-ImportReplies-clause-parts
returns-in-ImportReplies-clause-parts g c = other_work (ap is_each c.in-ImportReplies.is)

pub returns-in-ImportAccesses-clause-parts : goal.returns-in-ImportAccesses-clause-parts
returns-in-ImportAccesses-clause-parts g c = other_work (ap is_each c.in-ImportAccesses.is)

pub returns-in-Audit-clause-parts : goal.returns-in-Audit-clause-parts
returns-in-Audit-clause-parts g c = other_work (ap is_each c.in-Audit.is)

pub returns-in-AuditAll-clause-parts : goal.returns-in-AuditAll-clause-parts
returns-in-AuditAll-clause-parts g c = other_work (ap is_each c.in-AuditAll.is)

pub returns-in-Overlapping-clause-parts : goal.returns-in-Overlapping-clause-parts
returns-in-Overlapping-clause-parts g c = other_work (ap is_each c.in-Overlapping.is)

pub returns-in-ByKernel-clause-parts : goal.returns-in-ByKernel-clause-parts
returns-in-ByKernel-clause-parts g c = other_work (ap is_each c.in-ByKernel.is)

pub returns-in-Picture-clause-parts : goal.returns-in-Picture-clause-parts
returns-in-Picture-clause-parts g c = other_work (ap is_each c.in-Picture.is)

pub returns-in-Litmus-clause-parts : goal.returns-in-Litmus-clause-parts
returns-in-Litmus-clause-parts g c = other_work (ap is_each c.in-Litmus.is)

pub returns-in-PictureWitness-clause-parts : goal.returns-in-PictureWitness-clause-parts
returns-in-PictureWitness-clause-parts g c = other_work (ap is_each c.in-PictureWitness.is)
