use Rattle.std.proofs.Common.{refl}
use Rattle.command_line.proofs.command.perform_on.Goals as goal

pub returns : goal.returns
returns g c = record {
  does = record {
    list = _;
    text = _;
    listed = (c.new-list.ensures.given, rw (c.new-list.ensures.ended, c.new-list.ensures.reader, c.new.ensures.reader) refl);
    read = (c.new-reader.ensures.given, rw (c.new-reader.ensures.ended, c.new-reader.ensures.reader, c.new-2.ensures.reader) refl);
    did = c.perform_over.ensures;
  };
}
