-- A line in its array, with zeros behind it: at no characters, and with more copied behind them.
-- Assumes nothing.
use Rattle.std.proofs.Common.{◌≡◌, refl, ap, ap₂, sym, ◌∙◌, List, [], ◌∷◌, ◌++◌, ℕ, zero, suc, ◌+◌, ◌-◌, ◌≤◌, min, length, take, drop}
use Rattle.std.proofs.Common.{replicate, append_assoc, length-append, arith}
use Rattle.std.proofs.Math.ListN.{length-take}
use Rattle.std.proofs.Math.Seq.{take-append-add, drop-drop, drop-append-add}
use Rattle.std.proofs.lemmas.List.{drop-replicate}
use borrow.Rule.Slice.PartMut.{put_mid}
use Rattle.laws.proofs.Filled.{filled_length, filled_short, filled_front}
use Rattle.lines.specs.Reader.{kept_chars}
use Rattle.lines.specs.Gather.{laid, longer, gathered}

pub laid_length : (l : List ℕ) → length (laid l) ≡ kept_chars
unfolding laid
laid_length l = filled_length kept_chars l

-- no characters, and zeros
pub laid_none : replicate kept_chars 0 ≡ laid []
unfolding laid
laid_none = sym (filled_short kept_chars [] (omega arith))

-- the characters are the front of the array
pub laid_front : (l : List ℕ) → length l ≤ kept_chars → take (length l) (laid l) ≡ l
unfolding laid
laid_front l h = filled_front kept_chars l h

-- more characters stored behind them
pub laid_put : (b x : List ℕ) → length b + length x ≤ kept_chars → put_mid (length b) (length x) (laid b) x ≡ laid (b ++ x)
unfolding laid
laid_put b x h =
    let n = length b in
    let k = length x in
    let short : laid b ≡ b ++ replicate (kept_chars - n) 0 = filled_short kept_chars b (omega arith) in
    let size : length (b ++ x) ≡ n + k = length-append b x in
    let rest : drop (n + k) (laid b) ≡ replicate (kept_chars - (n + k)) 0 =
    ap (drop (n + k)) short ∙ drop-append-add b (replicate (kept_chars - n) 0) k ∙ drop-replicate k (kept_chars - n) 0
    ∙ ap (λ (j : ℕ). replicate j 0) (omega arith) in
    let behind : drop k (drop n (laid b)) ≡ replicate (kept_chars - length (b ++ x)) 0 =
    drop-drop k n (laid b) ∙ rest ∙ ap (λ (j : ℕ). replicate (kept_chars - j) 0) (sym size) in
    ap₂ (λ (y z : List ℕ). y ++ (x ++ z)) (laid_front b (omega arith)) behind
    ∙ sym (append_assoc b x (replicate (kept_chars - length (b ++ x)) 0)) ∙ sym (filled_short kept_chars (b ++ x) (omega arith))

-- as many as there are
take_again : (n : ℕ) (l : List ℕ) → take (length (take n l)) l ≡ take n l
take_again zero l = refl
take_again (suc n) [] = refl
take_again (suc n) (c ∷ l) = ap (λ (x : List ℕ). c ∷ x) (take_again n l)

-- the first characters of a line, copied into an array of zeros
pub tidied : {x z : List ℕ} (line : List ℕ) (count : ℕ) {n : ℕ} → z ≡ replicate kept_chars 0 → length line ≡ kept_chars
    → n ≡ min count kept_chars → x ≡ take n line → x ++ drop n z ≡ laid (take count line)
tidied {x} {z} line count {n} f s m e =
    let b = take count line in
    let size : length b ≡ n = length-take count line ∙ ap (min count) s ∙ sym m in
    let first : x ≡ b = e ∙ ap (λ (j : ℕ). take j line) (sym size) ∙ take_again count line in
    ap₂ (λ (y : List ℕ) (j : ℕ). y ++ drop j z) first (sym size) ∙ ap (λ (y : List ℕ). b ++ drop (length b) y) (f ∙ laid_none)
    ∙ laid_put [] b (omega (arith, size))

-- a line, counted, and more characters copied behind it, as many as are kept
pub gathers : {r x : List ℕ} (line : List ℕ) (count : ℕ) (more : List ℕ) {n k : ℕ} → length line ≡ kept_chars
    → r ≡ laid (take count line) → n ≡ min count kept_chars → k ≡ min (length more) (kept_chars - n) → x ≡ take (n + k - n) more
    → record { line = put_mid n (n + k - n) r x; count = n + k } ≡ gathered line count more
unfolding gathered
gathers {r} {x} line count more {n} {k} s t m l e =
    let b = take count line in
    let y = take (kept_chars - n) more in
    let size : length b ≡ n = length-take count line ∙ ap (min count) s ∙ sym m in
    let few : length y ≡ k = length-take (kept_chars - n) more ∙ omega arith in
    let part : n + k - n ≡ length y = omega arith in
    let taken : x ≡ y = e ∙ ap (λ (j : ℕ). take j more) part ∙ take_again (kept_chars - n) more in
    let room : length b + (kept_chars - n) ≡ kept_chars = omega arith in
    let all : longer line count more ≡ b ++ y =
    ap (λ (j : ℕ). take j (b ++ more)) (sym room) ∙ take-append-add b more (kept_chars - n) in
    let put : put_mid n (n + k - n) r x ≡ laid (longer line count more) =
    ap₂ (λ (i j : ℕ). put_mid i j r x) (sym size) part ∙ ap₂ (put_mid (length b) (length y)) t taken
    ∙ laid_put b y (omega arith) ∙ ap laid (sym all) in
    let counted : n + k ≡ length (longer line count more) = omega (arith, length-append b y, ap length all) in
    λ i. record { line = put i; count = counted i }
