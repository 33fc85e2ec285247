-- Where a promise gives the answer by a definition, any two outcomes that it permits are equal.
-- Assumes nothing.
use mathlib.Core.Path.{◌≡◌, sym, ◌∙◌}

pub once : {A : Type 0} {answer r r' : A} → r ≡ answer → r' ≡ answer → r ≡ r'
once p q = p ∙ sym q
