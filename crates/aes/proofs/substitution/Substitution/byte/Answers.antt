-- `aes::substitution::Substitution::byte` meets its contract. The table is the substitution's, and x is below 256.
-- Assumes nothing.
use Rattle.field.proofs.Table.{sbox_at}
use Rattle.aes.proofs.substitution.Substitution.byte.Goals as goal

pub returns : goal.returns
returns c = rw c.args.self.now.is_sbox (sbox_at c.args.x c.ranges.x.fits)
