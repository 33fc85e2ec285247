-- Wrong outcomes that the promise does not permit.
-- Assumes nothing.
use Rattle.std.proofs.Common.{◌≡◌, ap, sym, ◌∙◌, List, ℕ, length}
use Rattle.numbers.specs.declared.Refusal.TheVariants.{BadLength}
use Rattle.numbers.specs.Told.{number_of}
use Rattle.keys.specs.Told.{told_keys}
use Rattle.keys.specs.declared.KeyAnswer.{KeyAnswer}
use Rattle.keyline.specs.Promise.{ReadPromise}
use Rattle.keyline.proofs.Answered.{number_length, read_refused}

-- a line of another length, a longer one as any, that is refused for its characters, or for anything but its length, or taken
pub length_not_first : (line : List ℕ) (r : KeyAnswer) → (length line ≡ 68 → ⊥) → (r.number ≡ 8 → ⊥) → ReadPromise line r → ⊥
unfolding told_keys number_of
length_not_first line r h w p = w (ap (λ (a : KeyAnswer). a.number) (p ∙ sym (read_refused line BadLength (number_length line h))))
