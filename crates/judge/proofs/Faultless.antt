-- What it tells that there is no fault, and what it takes.
-- Assumes nothing.
use Rattle.std.proofs.Common.{◌≡◌, false, ℕ, ◌-◌, ◌*◌, ◌≤◌, arith, leb, leb-true, le-leb}
use Rattle.laws.proofs.Fault.{unless_holds, unless_none}
use Rattle.laws.proofs.Up.{up_most}
use Rattle.block.specs.Block.{blocks}
use Rattle.chain.specs.Count.{whole_for}
use Rattle.chain.specs.Stream.{settled}
use Rattle.pcmac.specs.Limits.{message_limit}
use Rattle.judge.specs.declared.Stream.{Stream}
use Rattle.judge.specs.Stream.{formed}
use Rattle.judge.specs.Fault.{stream_number, length_number, empty_number}
use Rattle.judge.proofs.Formed.{Formed, is_formed, formed_is}
use Rattle.judge.proofs.Total.{total}

-- the stream is well formed
pub stream_formed : (d : ℕ) (s : Stream) → stream_number d s ≡ 0 → Formed d s
unfolding stream_number
stream_formed d s e = is_formed d s (unless_none 3 (formed d s) e)

pub formed_stream : (d : ℕ) (s : Stream) → Formed d s → 0 ≡ stream_number d s
unfolding stream_number
formed_stream d s f = unless_holds 4 (formed_is d s f)

-- the message is not too long
pub length_fits : (n : ℕ) → length_number n ≡ 0 → n ≤ message_limit
unfolding length_number
length_fits n e = leb-true n message_limit (unless_none 4 (leb n message_limit) e)

pub fits_length : (n : ℕ) → n ≤ message_limit → 0 ≡ length_number n
unfolding length_number
fits_length n h = unless_holds 5 (le-leb n message_limit h)

-- there is at least one byte
pub empty_some : (n : ℕ) → empty_number false n ≡ 0 → 1 ≤ n
unfolding empty_number
empty_some n e = leb-true 1 n (unless_none 5 (leb 1 n) e)

pub some_empty : (n : ℕ) → 1 ≤ n → 0 ≡ empty_number false n
unfolding empty_number
some_empty n h = unless_holds 6 (le-leb 1 n h)

-- the counts of a well-formed stream are no more than its blocks
pub record Few (s : Stream) : Type 0 where
  pub wholes_few : 16 * s.whole ≤ message_limit
  pub fours_few : 16 * s.four ≤ message_limit

pub formed_few : (d : ℕ) (s : Stream) → Formed d s → Few s
unfolding settled
formed_few d s f =
    let most : whole_for d s.total ≤ blocks s.total - 1 = up_most d (blocks s.total - 1) in
    let sum = (total s.total).sum in
    record {
      wholes_few = omega (arith, f.most.wholes, f.most.size);
      fours_few = omega (arith, f.most.fours, f.most.size);
    }
