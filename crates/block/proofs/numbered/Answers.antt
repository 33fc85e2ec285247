-- `block::numbered` meets its contract. A number below 256 takes the last byte.
-- Assumes nothing.
use mathlib.Core.Path.{sym}
use mir.Syntax.{w8}
use mir.Val.{Fits}
use borrow.Author.Rules.{rules}
use Rattle.block.proofs.Block.{numbered_byte}
use Rattle.block.proofs.numbered.Goals as goal

pub returns : goal.returns
returns c = let f : Fits w8 c.args.i = search rules in sym (numbered_byte c.args.i f.fits)
