-- `state::doubled` meets its contract. What it does to a byte is {02} times the byte, by one test over all bytes; a word is four of them.
-- Assumes nothing.
use Rattle.std.proofs.Common.{rules}
use Rattle.field.specs.Field.{mul}
use Rattle.laws.proofs.Bytes.{Bytes}
use Rattle.state.proofs.Words.{three, twice, twice_is, word_agree}
use Rattle.state.proofs.doubled.Goals as goal

pub returns : goal.returns
unfolding twice three
returns c =
    let b : Bytes c.args.p = λ j. search rules in
    rw (
      c.xor_word-2.ensures,
      c.xor_word.ensures,
      c.up-3.ensures,
      c.up-2.ensures,
      c.xor_word-three.ensures,
      c.up.ensures,
      c.tops-top.ensures,
    )
    (word_agree twice (mul 2) c.args.p b twice_is)
