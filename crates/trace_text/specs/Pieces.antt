-- Pieces of a text.
use Rattle.std.specs.Prelude.{ℕ, List, decimal}
use Rattle.trace_text.specs.Lists.{start_of}
use Rattle.trace_text.specs.Printing.{address_of, text_of}
use Rattle.trace_text.specs.Spelling.{rights_text}
use Rattle.trace_text.specs.declared.pieces.Piece.{Piece}
use Rattle.trace_text.specs.declared.pieces.Piece.TheVariants.{Words, Number, Core, Address, Start, Reply, Rights}

abbrev pub piece_text : Piece → List ℕ
piece_text (Words words) = words.now
piece_text (Number n) = decimal n
piece_text (Core core) = decimal core
piece_text (Address address) = address_of address
piece_text (Start page) = start_of page
piece_text (Reply reply) = text_of reply
piece_text (Rights prot) = rights_text prot
