-- What one test over all numbers below n tells of each of them, and of a table.
-- Assumes nothing.
use Rattle.std.proofs.Common.{◌≡◌, refl, ap, subst, sym, ◌∙◌, ⊎_elim, List, [], ◌∷◌, ◌++◌, ℕ, zero, suc, ◌+◌, ◌<◌, not-suc-le-zero}
use Rattle.std.proofs.Common.{le_of_suc-le-suc, eq-or-lt_of_le, arith, T, eqb, eqb→eq, length, get_or, ext_get_or}
use Rattle.laws.specs.Agree.{agree, from, table}
use Rattle.laws.proofs.Both.{both_left, both_right}

-- the test holds, so the functions agree at each number below n
pub agreed : (f g : ℕ → ℕ) (n : ℕ) → T (agree f g n) → (x : ℕ) → x < n → f x ≡ g x
agreed f g zero t x h = absurd (not-suc-le-zero h)
agreed f g (suc n) t x h =
    ⊎_elim (λ e. subst (λ (m : ℕ). f m ≡ g m) (sym e) (eqb→eq (f n) (g n) (both_left (eqb (f n) (g n)) (agree f g n) t)))
    (λ l. agreed f g n (both_right (eqb (f n) (g n)) (agree f g n) t) x l)
    (eq-or-lt_of_le (le_of_suc-le-suc h))

from_length : {A : Type 0} (f : ℕ → A) (i n : ℕ) → length (from i n f) ≡ n
from_length f i zero = refl
from_length f i (suc n) = ap suc (from_length f (suc i) n)

from_at : {A : Type 0} (z : A) (f : ℕ → A) (i n x : ℕ) → x < n → get_or (from i n f) x z ≡ f (x + i)
from_at z f i zero x h = absurd (not-suc-le-zero h)
from_at z f i (suc n) zero h = ap f (omega arith)
from_at z f i (suc n) (suc x) h = from_at z f (suc i) n x (le_of_suc-le-suc h) ∙ ap f (omega arith)

-- a table has as many entries as were asked for
pub table_length : {A : Type 0} (f : ℕ → A) (n : ℕ) → length (table f n) ≡ n
table_length f n = from_length f 0 n

-- the entry at each place below n, whatever stands in for the places from n on
pub table_entry : {A : Type 0} (z : A) (f : ℕ → A) (n x : ℕ) → x < n → get_or (table f n) x z ≡ f x
table_entry z f n x h = from_at z f 0 n x h ∙ ap f (omega arith)

-- the same of a table of numbers
pub table_at : (f : ℕ → ℕ) (n x : ℕ) → x < n → get_or (table f n) x 0 ≡ f x
table_at f n x h = table_entry 0 f n x h

-- a list of n entries that are f's is f's table
pub is_table : {A : Type 0} (z : A) (f : ℕ → A) (l : List A) (n : ℕ) → length l ≡ n → ((i : ℕ) → i < n → get_or l i z ≡ f i) → l ≡ table f n
is_table z f l n h at =
    ext_get_or z l (table f n) (h ∙ sym (table_length f n))
    (λ i b. let b' : i < n = rw h at b in at i b' ∙ sym (table_entry z f n i b'))

-- and so is one of numbers that passes the test against f
pub tabled : (f : ℕ → ℕ) (l : List ℕ) (n : ℕ) → length l ≡ n → T (agree (λ x. get_or l x 0) f n) → l ≡ table f n
tabled f l n h t = is_table 0 f l n h (agreed (λ x. get_or l x 0) f n t)

from_more : {A : Type 0} (f : ℕ → A) (i n : ℕ) → from i (suc n) f ≡ from i n f ++ (f (i + n) ∷ [])
from_more f i zero = ap (λ (x : ℕ). f x ∷ []) (omega arith)
from_more {A} f i (suc n) =
    ap (λ (l : List A). f i ∷ l) (from_more f (suc i) n ∙ ap (λ (x : ℕ). from (suc i) n f ++ (f x ∷ [])) (omega arith))

-- a table of one entry more has it at its end
pub table_more : {A : Type 0} (f : ℕ → A) (n : ℕ) → table f (suc n) ≡ table f n ++ (f n ∷ [])
table_more f n = from_more f 0 n ∙ ap (λ (x : ℕ). table f n ++ (f x ∷ [])) (omega arith)
