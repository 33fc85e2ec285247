-- `hex_line::is_strange` meets its contract. By one test over all 256 characters.
-- Assumes nothing.
use Rattle.std.proofs.Common.{Fits, w8, rules}
use Rattle.hex_line.specs.Digit.{digit_of, read_number}
use Rattle.hex_line.proofs.Digits.{strange_found}
use Rattle.hex_line.proofs.is_strange.Goals as goal

pub returns : goal.returns
unfolding digit_of read_number
returns c =
    let f : Fits w8 c.args.c = search rules in
    strange_found _ _ _ _ tt c.args.c f.fits
