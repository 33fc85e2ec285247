-- `aes::expand::next_word` meets its contract. Its callees, put together, are the definition.
-- Assumes nothing.
use Rattle.aes.specs.Schedule.{next_word}
use Rattle.aes.proofs.expand.next_word.Goals as goal

pub returns : goal.returns
unfolding next_word
returns c =
    rw (
      c.xor_word.ensures,
      c.temp.ensures,
      c.word_at-2.ensures,
      c.word_at.ensures,
    )
