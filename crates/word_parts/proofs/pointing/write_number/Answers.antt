use Rattle.std.proofs.Common.{subst, ◌∙◌}
use Rattle.std.proofs.KnownBytes.{Appends-trans}
use Rattle.std.specs.Io.KnownBytes.{Appends}
use Rattle.word_parts.proofs.pointing.write_number.Goals as goal

pub returns : goal.returns
returns g c =
    let text = c.as_bytes.ensures.value ∙ c.as_str.ensures.value ∙ c.number_text.ensures in
    Appends-trans _ _ _ _ _ c.in_ok-write_all.ensures.bytes
    (subst (Appends (g.E.Write.contents c.write_all.new.self) (g.E.Write.contents c.write_all-2.new.self)) text c.in_ok-write_all-2.ensures.bytes)
