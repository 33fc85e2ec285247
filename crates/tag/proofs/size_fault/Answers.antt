-- `tag::size_fault` meets its contract. By whether the slice has the size that is handed back.
-- Assumes nothing.
use Rattle.std.proofs.Common.{sym, ◌∙◌}
use Rattle.numbers.specs.Told.{number, number_of}
use Rattle.tag.proofs.Number.{fits_size, other_size}
use Rattle.tag.proofs.size_fault.Goals as goal

pub returns-then-n-size : goal.returns-then-n-size
unfolding number
returns-then-n-size c = fits_size _ _ (c.if-n-size.true ∙ c.size.ensures)

pub returns-else-n-size : goal.returns-else-n-size
unfolding number number_of
returns-else-n-size c = other_size _ _ (λ e. c.if-n-size.false (e ∙ sym c.size.ensures))
