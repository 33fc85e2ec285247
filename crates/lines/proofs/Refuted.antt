-- Wrong outcomes that the promises do not permit.
-- Assumes nothing.
use Rattle.std.proofs.Common.{◌≡◌, ap, ◌∙◌, List, [], ◌∷◌, ◌++◌, ℕ, ◌<◌, arith, get_or, take, get_or-take}
use Rattle.laws.proofs.Filled.{filled_at}
use Rattle.lines.specs.declared.Gathered.{Gathered}
use Rattle.lines.specs.Lines.{line_feed, plain}
use Rattle.lines.specs.Reader.{kept_chars}
use Rattle.lines.specs.Gather.{laid, gathered}
use Rattle.lines.proofs.Reader.{kept_most}
use Rattle.lines.specs.Promise.{TidyPromise, HeldPromise, GatherPromise, FindPromise}

-- a character of a line that is lost, or another in its place
pub character_lost : (line : List ℕ) (count : ℕ) (r : List ℕ) (i : ℕ) → i < count → i < kept_chars → TidyPromise line count r
    → (get_or r i 0 ≡ get_or line i 0 → ⊥) → ⊥
unfolding laid
character_lost line count r i h l e w =
    w (ap (λ (x : List ℕ). get_or x i 0) e ∙ filled_at kept_chars (take count line) i l ∙ get_or-take count line i 0 h)

-- more characters counted than are kept
pub held_without_bound : (count r : ℕ) → HeldPromise count r → kept_chars < r → ⊥
held_without_bound count r e h = omega arith

-- a line that ends at a carriage return
pub carriage_return_ends_a_line : (r : ℕ) → FindPromise (13 ∷ []) 0 r → r ≡ 0 → ⊥
unfolding plain
carriage_return_ends_a_line r e z = omega (arith, e)

-- a line feed that is passed over: the line behind it is taken for the same one
pub line_feed_passed : (r : ℕ) → FindPromise (65 ∷ line_feed ∷ 66 ∷ []) 0 r → 1 < r → ⊥
unfolding plain
line_feed_passed r e h = omega (arith, e)

-- a character behind what is kept
pub kept_without_bound : (line : List ℕ) (count : ℕ) (more : List ℕ) (r : Gathered) → GatherPromise line count more r
    → kept_chars < r.count → ⊥
unfolding gathered
kept_without_bound line count more r e h =
    omega (arith, ap (λ (g : Gathered). g.count) e, kept_most (take count line ++ more))
