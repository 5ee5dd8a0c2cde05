use Rattle.std.proofs.Common.{subst}
use Rattle.std.proofs.KnownBytes.{Appends-trans}
use Rattle.std.specs.Io.KnownBytes.{Appends}
use Rattle.word_parts.proofs.pointing.tell_place.Goals as goal

pub returns : goal.returns
returns g c =
    let held = g.E.Write.contents in
    let name = subst (Appends (held c.write_all.new.self) (held c.write_all-2.new.self)) c.as_bytes.ensures.value c.in_ok-write_all-2.ensures.bytes in
    let what = subst (Appends (held c.write_all-3.new.self) (held c.write_all-4.new.self)) c.as_bytes-2.ensures.value c.in_ok-write_all-4.ensures.bytes in
    let first = Appends-trans _ _ _ _ _ c.in_ok-write_all.ensures.bytes name in
    let second = Appends-trans _ _ _ _ _ first c.in_ok-write_spot.ensures in
    let third = Appends-trans _ _ _ _ _ second c.in_ok-write_all-3.ensures.bytes in
    let fourth = Appends-trans _ _ _ _ _ third what in
    Appends-trans _ _ _ _ _ fourth c.in_ok-write_all-5.ensures.bytes
