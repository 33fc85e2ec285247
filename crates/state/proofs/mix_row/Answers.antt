-- `state::mix_row` meets its contract. Its callees' words, put together, are a row of MixColumns with one doubling in place of two.
-- Assumes nothing.
use Rattle.laws.proofs.Bytes.{Bytes}
use Rattle.state.proofs.Words.{mix_rows}
use borrow.Author.Rules.{rules}
use Rattle.state.proofs.mix_row.Goals as goal

pub returns : goal.returns
returns c =
    let a = c.args in
    let bp : Bytes a.p = λ j. search rules in
    let bq : Bytes a.q = λ j. search rules in
    rw (
      c.xor_word-4.ensures,
      c.xor_word-3.ensures,
      c.xor_word-2.ensures,
      c.doubled.ensures,
      c.xor_word.ensures,
    )
    (mix_rows a.p a.q a.t a.v bp bq)
