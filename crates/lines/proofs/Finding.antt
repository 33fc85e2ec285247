-- Where the next line feed stands: a search that passes over characters without one, and what is ahead of it.
-- Assumes nothing.
use Rattle.std.proofs.Common.{◌≡◌, refl, ap, sym, ◌∙◌, Bool, true, false, cond, Some, None, List, [], ◌∷◌, ◌++◌, ℕ, ◌+◌, ◌-◌, ◌≤◌, ◌<◌, eqb}
use Rattle.std.proofs.Common.{ltb, bit_or, length, get_or, take, drop, length-append, length-drop, take-append-drop, add-one, arith}
use Rattle.std.proofs.Common.{eqb-true, ltb-false}
use Rattle.std.specs.List.{position, position_or_len}
use Rattle.std.specs.Option.{unwrap_or}
use Rattle.std.proofs.Math.ListN.{drop_of_length-le}
use Rattle.std.proofs.Math.Seq.{take-suc, take-add, take_all, length-take-le}
use Rattle.std.proofs.lemmas.List.{take_rest}
use Rattle.std.proofs.lemmas.List.Recursion.{is_position_or_len}
use mir.Val.{bool_byte}
use Rattle.laws.specs.Pick.{pick}
use Rattle.laws.proofs.Or.{or_none}
use Rattle.lines.specs.Lines.{line_feed, plain}
use Rattle.lines.specs.Gather.{line_end}
use Rattle.lines.proofs.Plain.{plain_more, plain_most, plain_append}

-- characters of which none is a line feed, and those behind them, up to another place
pub passed_more : (part : List ℕ) (n end : ℕ) → n ≤ end → plain (take n part) ≡ take n part
    → plain (take (end - n) (drop n part)) ≡ take (end - n) (drop n part) → plain (take end part) ≡ take end part
passed_more part n end h p q =
    let e : n + (end - n) ≡ end = omega arith in
    let t = ap (λ (k : ℕ). take k part) (sym e) ∙ take-add n (end - n) part in
    ap plain t ∙ plain_append (take n part) (take (end - n) (drop n part)) p ∙ ap (λ (x : List ℕ). take n part ++ x) q ∙ sym t

-- so the line ends behind them where it ends in what is left
pub passed_end : (part : List ℕ) (at : ℕ) {rest : List ℕ} {n a : ℕ} → rest ≡ drop at part → n ≤ length rest
    → plain (take n rest) ≡ take n rest → a ≡ length (plain (take (length rest - n) (drop n rest))) → at + n + a ≡ line_end part at
passed_end part at {rest} {n} {a} e h p q =
    let size : length (take n rest) ≡ n = length-take-le n rest h in
    let z : plain rest ≡ take n rest ++ plain (drop n rest) =
    ap plain (sym (take-append-drop n rest)) ∙ plain_append (take n rest) (drop n rest) p in
    let l = ap length z ∙ length-append (take n rest) (plain (drop n rest)) in
    let b : a ≡ length (plain (drop n rest)) = q ∙ ap (λ (x : List ℕ). length (plain x)) (take_rest rest n) in
    let d : length (plain rest) ≡ length (plain (drop at part)) = ap (λ (x : List ℕ). length (plain x)) e in
    omega (arith, l, size)

-- within the part
pub end_within : (part : List ℕ) (at : ℕ) → at ≤ length part → line_end part at ≤ length part
end_within part at h = omega (arith, plain_most (drop at part), length-drop at part)

-- at the part's end there are none
pub ends_behind : (part : List ℕ) (at : ℕ) → length part ≤ at → at ≡ line_end part at
unfolding plain
ends_behind part at h = omega (arith, ap (λ (x : List ℕ). length (plain x)) (drop_of_length-le part h))

-- so many stand before the first line feed, or all where there is none
plain_position : (part : List ℕ) → length (plain part) ≡ position_or_len (λ c. eqb c line_feed) part
unfolding plain
plain_position part = is_position_or_len (λ x. length (plain x)) (λ c. eqb c line_feed) refl more part
  where
    more : (c : ℕ) (cs : List ℕ) → length (plain (c ∷ cs)) ≡ cond (eqb c line_feed) 0 (1 + length (plain cs))
    more c cs = by (eqb c line_feed)
      where
        by : (t : Bool) → length (pick t [] (c ∷ plain cs)) ≡ cond t 0 (1 + length (plain cs))
        by true = refl
        by false = omega arith

pub plain_ahead : (part : List ℕ) → unwrap_or (position (λ c. eqb c line_feed) part) (length part) ≡ length (plain part)
plain_ahead part = by (ltb (position_or_len (λ c. eqb c line_feed) part) (length part)) refl
  where
    by : (t : Bool) → ltb (position_or_len (λ c. eqb c line_feed) part) (length part) ≡ t
        → unwrap_or (cond t (Some (position_or_len (λ c. eqb c line_feed) part)) None) (length part) ≡ length (plain part)
    by true e = sym (plain_position part)
    by false e =
        let n : length part ≤ position_or_len (λ c. eqb c line_feed) part = ltb-false _ _ e in
        omega (arith, plain_position part, plain_most part)

-- where nothing was gathered, none of the first i characters is a line feed
pub record Clear (l : List ℕ) (n i : ℕ) : Type 0 where
  pub none : n ≡ 0 → plain (take i l) ≡ take i l

pub clear_none : (l : List ℕ) → Clear l 0 0
unfolding plain
clear_none l = record { none = λ e. refl }

bool_none : (b : Bool) → bool_byte b ≡ 0 → b ≡ false
bool_none true e = absurd (omega arith)
bool_none false e = refl

pub clear_more : {l : List ℕ} {n i x : ℕ} → Clear l n i → i < length l → x ≡ get_or l i 0
    → Clear l (bit_or n (bool_byte (eqb x line_feed))) (i + 1)
unfolding plain
clear_more {l} {n} {i} {x} v h q = record {
  none =
      λ e.
      let f = or_none n (bool_byte (eqb x line_feed)) e in
      let c = get_or l i 0 in
      let g : eqb c line_feed ≡ false = ap (λ (y : ℕ). eqb y line_feed) (sym q) ∙ bool_none (eqb x line_feed) f.1 in
      let t : take (i + 1) l ≡ take i l ++ (c ∷ []) = rw add-one (take-suc l i 0 h) in
      ap plain t ∙ plain_append (take i l) (c ∷ []) (v.none f.0)
      ∙ ap (λ (y : List ℕ). take i l ++ y) (plain_more c [] g) ∙ sym t;
}

pub clear_all : {l : List ℕ} {n i : ℕ} → Clear l n i → length l ≤ i → eqb n 0 ≡ true → plain l ≡ l
clear_all {l} {n} {i} v h e = rw (take_all i l h) at (v.none (eqb-true n 0 e))
