-- `answer::bytes_of` meets its contract. Byte by byte.
-- Assumes nothing.
use Rattle.std.proofs.Common.{Fits, w8, rules}
use Rattle.answer.proofs.Spelt.{bytes_are}
use Rattle.answer.proofs.bytes_of.Goals as goal

pub returns : goal.returns
returns c =
    let f : Fits w8 c.args.a.number = search rules in
    rw (c.to_be_bytes.ensures, c.to_be_bytes-2.ensures, c.to_be_bytes-3.ensures) (bytes_are c.args.a f.fits)
