-- Only contracts need this file. The text that a command writes for an event (not part of FM 94
-- BUFR).
use Rattle.std.specs.Prelude.{ℕ, ◌≡◌, ◌==◌, List, flat_map, Option, Some, None, if◌then◌else◌}
use Rattle.bufr_frame.specs.Prelude.{StreamEvent}
use Rattle.bufr_cli.specs.Prelude.{Piece, output_of, errors_of, is_accepted, ls_piece, dump_piece, Tallies}
use Rattle.bufr_cli.specs.declared.outcome.Tally.{Tally}
use Rattle.bufr_text.specs.declared.encode.Form.{Form}
use Rattle.bufr_text.specs.declared.encode.Form.TheVariants.{AsWritten, Plain, Compressed}
use Rattle.bufr_c.specs.declared.command.Command.{Command}
use Rattle.bufr_c.specs.declared.command.Command.TheVariants as command
use Rattle.bufr_c.specs.declared.command.EventText.{EventText}

-- the piece of output that a command writes for an event
abbrev pub piece_by : Command → StreamEvent → Piece
piece_by command.List = ls_piece
piece_by (command.Dump b d) = dump_piece b.now d.now

-- `text` contains the piece's output and error text, and indicates whether the piece was accepted.
pub record IsTextOf (text : EventText) (piece : Piece) : Type 0 where
  pub output : text.output.octets.items ≡ output_of piece
  pub errors : text.errors.octets.items ≡ errors_of piece
  pub accepted : text.accepted ≡ is_accepted piece

-- `text` contains the output and error text of all pieces, and `tally` counts the pieces.
pub record IsTextOfAll (pieces : List Piece) (text : EventText) (tally : Tally) : Type 0 where
  pub output : text.output.octets.items ≡ flat_map output_of pieces
  pub errors : text.errors.octets.items ≡ flat_map errors_of pieces
  pub tallies : Tallies tally pieces

-- the form (as written, plain or compressed) with the given number, if any
abbrev pub form_by : ℕ → Option Form
form_by number =
    if number == 0 then Some AsWritten
    else if number == 1 then Some Plain
    else if number == 2 then Some Compressed
    else None
