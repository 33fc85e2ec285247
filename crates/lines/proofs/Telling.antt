-- A text told in a space that has room for it, and in one that has not.
-- Assumes nothing.
use Rattle.std.proofs.Common.{◌≡◌, refl, ap, ap₂, sym, ◌∙◌, List, [], ◌∷◌, ◌++◌, append-nil, append_assoc, ℕ, suc, ◌+◌, ◌-◌, ◌≤◌, ◌<◌}
use Rattle.std.proofs.Common.{arith, length, get_or, take, drop, set, length-drop, take-append-drop, drop-cons, drop-drop, le-leb}
use Rattle.std.proofs.Math.Seq.{set_at, append_snoc}
use borrow.Author.Tests.{lt-leb}
use Rattle.laws.proofs.Lent.{lent_rest, lent_back}
use Rattle.lines.specs.Lines.{line_feed}
use Rattle.lines.specs.Moves.{Wrote}
use Rattle.lines.specs.Tell.{told_in, TellsIn}

module _ (most : ℕ) (text space : List ℕ) where
  -- with room for the longest text
  told_room : most ≤ length space → told_in most (length space) text ≡ text
  unfolding told_in
  told_room h = rw (le-leb most (length space) h)

  pub tells_text : {r : ℕ} {after : List ℕ} → most ≤ length space → TellsIn most text space r after
      → (r ≡ length text) × (after ≡ text ++ drop (length text) space)
  tells_text h p =
      let e = told_room h in
      (p.0 ∙ ap length e, p.1 ∙ ap (λ (x : List ℕ). x ++ drop (length x) space) e)

  pub text_tells : {r : ℕ} {after : List ℕ} → most ≤ length space → r ≡ length text → after ≡ text ++ drop r space
      → TellsIn most text space r after
  text_tells h n e =
      let t = sym (told_room h) in
      (n ∙ ap length t, e ∙ ap (λ (k : ℕ). text ++ drop k space) n ∙ ap (λ (x : List ℕ). x ++ drop (length x) space) t)

  -- without it
  pub tells_nothing : length space < most → TellsIn most text space 0 space
  unfolding told_in
  tells_nothing h =
      let e : told_in most (length space) text ≡ [] = rw (lt-leb most (length space) h) in
      (sym (ap length e), sym (ap (λ (x : List ℕ). x ++ drop (length x) space) e))

-- a line feed is stored behind characters that stand at the front of a space
pub fed_behind : (line space : List ℕ) {mid : List ℕ} {n : ℕ} → n ≡ length line → n < length space → mid ≡ line ++ drop n space
    → set mid n line_feed ≡ (line ++ (line_feed ∷ [])) ++ drop (n + 1) space
fed_behind line space {mid} {n} e h is =
    let more : suc n ≡ n + 1 = omega arith in
    let cons : drop n space ≡ get_or space n 0 ∷ drop (n + 1) space =
    drop-cons space n 0 h ∙ ap (λ (k : ℕ). get_or space n 0 ∷ drop k space) more in
    ap (λ (x : List ℕ). set x n line_feed) (is ∙ ap (λ (x : List ℕ). line ++ x) cons)
    ∙ set_at line (get_or space n 0) (drop (n + 1) space) line_feed n (sym e)
    ∙ sym (append_snoc line line_feed (drop (n + 1) space))

-- nothing is written
pub wrote_none : (space : List ℕ) (out : ℕ) → Wrote [] space out 0 space
wrote_none space out =
    let n : out + 0 ≡ out = omega arith in
    record {
      size = refl;
      space_is =
          sym
          (ap₂ (λ (x : List ℕ) (k : ℕ). x ++ drop k space) (append-nil (take out space)) n ∙ take-append-drop out space);
    }

-- a text is written at the front of a space
module _ {text space : List ℕ} {n : ℕ} {after : List ℕ} where
  pub wrote_front : n ≡ length text → after ≡ text ++ drop n space → Wrote text space 0 n after
  wrote_front e is =
      let m : n ≡ 0 + n = omega arith in
      record { size = e; space_is = is ∙ ap (λ (k : ℕ). text ++ drop k space) m }

  pub front_wrote : Wrote text space 0 n after → after ≡ text ++ drop n space
  front_wrote w =
      let m : 0 + n ≡ n = omega arith in
      w.space_is ∙ ap (λ (k : ℕ). text ++ drop k space) m

-- a text is told in what is left of the space from a place on, which is lent for it
pub wrote_text : (most : ℕ) (text space : List ℕ) (out : ℕ) {n : ℕ} {x : List ℕ} → out + most ≤ length space
    → TellsIn most text (take (length space - out) (drop out space)) n x
    → Wrote text space out n (take out space ++ (x ++ drop (length space - out) (drop out space)))
wrote_text most text space out {n} {x} room p =
    let left : TellsIn most text (drop out space) n x = rw (lent_rest space out) at p in
    let t = tells_text most text (drop out space) (omega (arith, length-drop out space)) left in
    record {
      size = t.0;
      space_is =
          lent_back space x out
          ∙ ap (λ (y : List ℕ). take out space ++ y)
          (t.1
          ∙ ap (λ (y : List ℕ). text ++ y)
          (drop-drop (length text) out space ∙ ap (λ (k : ℕ). drop (out + k) space) (sym t.0)))
          ∙ sym (append_assoc (take out space) text (drop (out + n) space));
    }
