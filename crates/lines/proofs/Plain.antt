-- The characters before the first line feed: a list splits there, or has none; and the lines of a list that so splits.
-- Assumes nothing.
use Rattle.std.proofs.Common.{◌≡◌, refl, ap, ap₂, sym, ◌∙◌, Bool, true, false, List, [], ◌∷◌, ◌++◌, ℕ, suc, ◌+◌, ◌≤◌, ◌<◌, not-suc-le-zero}
use Rattle.std.proofs.Common.{add-one, arith, eqb, length, get_or, take, drop, eqb-true}
use Rattle.std.proofs.Math.Seq.{split_at}
use Rattle.lines.specs.Lines.{line_feed, begins, lines, plain}

-- at a line feed, and at another character
pub plain_feed : (c : ℕ) (l : List ℕ) → eqb c line_feed ≡ true → plain (c ∷ l) ≡ []
unfolding plain
plain_feed c l e = rw e

pub plain_more : (c : ℕ) (l : List ℕ) → eqb c line_feed ≡ false → plain (c ∷ l) ≡ c ∷ plain l
unfolding plain
plain_more c l e = rw e

-- a list without a line feed: its first character is none, and the others have none
pub plain_cons : (c : ℕ) (l : List ℕ) → plain (c ∷ l) ≡ c ∷ l → (eqb c line_feed ≡ false) × (plain l ≡ l)
plain_cons c l h = by (eqb c line_feed) refl
  where
    by : (b : Bool) → eqb c line_feed ≡ b → (eqb c line_feed ≡ false) × (plain l ≡ l)
    by true e = absurd (let z : ◌≡◌ {A = ℕ} 0 1 = cc (plain_feed c l e) in omega arith)
    by false e = (e, cc (plain_more c l e))

-- what is before the first line feed has none
pub plain_plain : (l : List ℕ) → plain (plain l) ≡ plain l
unfolding plain
plain_plain [] = refl
plain_plain (c ∷ l) = by (plain_plain l) (eqb c line_feed) refl
  where
    by : plain (plain l) ≡ plain l → (b : Bool) → eqb c line_feed ≡ b → plain (plain (c ∷ l)) ≡ plain (c ∷ l)
    by i true e = ap plain (plain_feed c l e) ∙ sym (plain_feed c l e)
    by i false e = rw e (rw e (ap (λ (x : List ℕ). c ∷ x) i))

pub plain_most : (l : List ℕ) → length (plain l) ≤ length l
unfolding plain
plain_most [] = omega arith
plain_most (c ∷ l) = by (plain_most l) (eqb c line_feed) refl
  where
    by : length (plain l) ≤ length l → (b : Bool) → eqb c line_feed ≡ b → length (plain (c ∷ l)) ≤ suc (length l)
    by i true e = rw e (omega arith)
    by i false e = rw e (omega arith)

-- it is the front of the list
pub plain_front : (l : List ℕ) → take (length (plain l)) l ≡ plain l
unfolding plain
plain_front [] = refl
plain_front (c ∷ l) = by (plain_front l) (eqb c line_feed) refl
  where
    by : take (length (plain l)) l ≡ plain l → (b : Bool) → eqb c line_feed ≡ b → take (length (plain (c ∷ l))) (c ∷ l) ≡ plain (c ∷ l)
    by i true e = rw e
    by i false e = rw e (ap (λ (x : List ℕ). c ∷ x) i)

-- where it is not the whole list, a line feed stands behind it
plain_end : (l : List ℕ) → length (plain l) < length l → get_or l (length (plain l)) 0 ≡ line_feed
unfolding plain
plain_end [] h = absurd (not-suc-le-zero h)
plain_end (c ∷ l) h = by (plain_end l) (eqb c line_feed) refl
  where
    by : (length (plain l) < length l → get_or l (length (plain l)) 0 ≡ line_feed) → (b : Bool) → eqb c line_feed ≡ b
        → get_or (c ∷ l) (length (plain (c ∷ l))) 0 ≡ line_feed
    by i true e = rw e (eqb-true c line_feed e)
    by i false e = rw e (i (omega (arith, ap length (plain_more c l e))))

-- where the list splits
pub plain_split : (l : List ℕ) → length (plain l) < length l → l ≡ plain l ++ (line_feed ∷ drop (length (plain l) + 1) l)
plain_split l h =
    split_at l (length (plain l)) 0 h
    ∙ rw add-one
    (ap₂ (λ (x : List ℕ) (y : ℕ). x ++ (y ∷ drop (suc (length (plain l))) l)) (plain_front l) (plain_end l h))

-- characters without a line feed, and others behind them
pub plain_append : (p q : List ℕ) → plain p ≡ p → plain (p ++ q) ≡ p ++ plain q
plain_append [] q h = refl
plain_append (c ∷ p) q h =
    let f = plain_cons c p h in
    plain_more c (p ++ q) f.0 ∙ ap (λ (x : List ℕ). c ∷ x) (plain_append p q f.1)

-- their lines: the first line feed behind them ends one
pub lines_feed : (l p : List ℕ) → plain l ≡ l → lines (l ++ (line_feed ∷ p)) ≡ l ∷ lines p
unfolding lines begins
lines_feed [] p h = refl
lines_feed (c ∷ l) p h =
    let f = plain_cons c l h in
    rw f.0 (ap (begins c) (lines_feed l p f.1))

-- and where there is none, they are the last one
pub lines_last : (c : ℕ) (l : List ℕ) → plain (c ∷ l) ≡ c ∷ l → lines (c ∷ l) ≡ (c ∷ l) ∷ []
unfolding lines begins
lines_last c [] h = rw (plain_cons c [] h).0
lines_last c (d ∷ l) h =
    let f = plain_cons c (d ∷ l) h in
    rw f.0 (ap (begins c) (lines_last d l f.1))
