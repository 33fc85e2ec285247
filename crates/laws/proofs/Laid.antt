-- A loop that copies the front of a list into a slice, from a place of it on: from its start, by one byte more, to its end.
-- Assumes nothing.
use Rattle.std.proofs.Common.{◌≡◌, ap, ap₂, sym, ◌∙◌, List, [], ◌∷◌, ◌++◌, append-nil, append_assoc, ℕ, suc, ◌+◌, ◌-◌, ◌≤◌, ◌<◌, zero-add}
use Rattle.std.proofs.Common.{add-one, arith, length, get_or, take, drop, set, length-drop, length-append, take-append-drop, take-suc}
use Rattle.std.proofs.Common.{take_all, drop-cons, length-take-le}
use lib.Seq.{set_at, append_snoc}

-- s is l with the first i of x's bytes over it from o on, and up to m may be copied
pub record Laid (x l : List ℕ) (o m : ℕ) (s : List ℕ) (i : ℕ) : Type 0 where
  pub within : i ≤ m
  pub source : m ≤ length x
  pub room : o + m ≤ length l
  pub same : s ≡ take o l ++ take i x ++ drop (o + i) l

pub laid_none : (x l : List ℕ) (o m : ℕ) → m ≤ length x → o + m ≤ length l → Laid x l o m l 0
laid_none x l o m a b = record {
  within = omega arith;
  source = a;
  room = b;
  same =
      let e : o + 0 ≡ o = omega arith in
      sym (take-append-drop o l) ∙ ap₂ (λ (y z : List ℕ). y ++ z) (sym (append-nil (take o l))) (ap (λ (j : ℕ). drop j l) (sym e));
}

-- what stands before the next place
front : (x l : List ℕ) (o m i : ℕ) → i ≤ m → m ≤ length x → o + m ≤ length l → length (take o l ++ take i x) ≡ o + i
front x l o m i a b c =
    let p : length (take o l) ≡ o = length-take-le o l (omega arith) in
    let q : length (take i x) ≡ i = length-take-le i x (omega arith) in
    length-append (take o l) (take i x) ∙ omega arith

-- the slice is as long as it was
pub laid_length : {x l s : List ℕ} {o m i : ℕ} → Laid x l o m s i → length s ≡ length l
laid_length {x} {l} {s} {o} {m} {i} v =
    let a = front x l o m i v.within v.source v.room in
    let b : length (drop (o + i) l) ≡ length l - (o + i) = length-drop (o + i) l in
    ap length v.same ∙ length-append (take o l ++ take i x) (drop (o + i) l) ∙ omega (arith, v.within, v.room)

-- the next place is within it
laid_within : {x l s : List ℕ} {o m i : ℕ} → Laid x l o m s i → i < m → o + i < length s
laid_within v h = omega (arith, laid_length v, v.room)

pub laid_more : {x l s : List ℕ} {o m i : ℕ} → Laid x l o m s i → i < m → Laid x l o m (set s (o + i) (get_or x i 0)) (i + 1)
laid_more {x} {l} {s} {o} {m} {i} v h = record {
  within = omega arith;
  source = v.source;
  room = v.room;
  same =
      let a : i < length x = omega (arith, v.source) in
      let b : o + i < length l = omega (arith, v.room) in
      let y = take o l ++ take i x in
      let n : suc (o + i) ≡ o + suc i = omega arith in
      ap (λ (z : List ℕ). set z (o + i) (get_or x i 0)) (v.same ∙ ap (λ (z : List ℕ). y ++ z) (drop-cons l (o + i) 0 b))
      ∙ set_at y (get_or l (o + i) 0) (drop (suc (o + i)) l) (get_or x i 0) (o + i) (front x l o m i v.within v.source v.room)
      ∙ sym (append_snoc y (get_or x i 0) (drop (suc (o + i)) l))
      ∙ rw add-one
      (ap₂ (λ (z : List ℕ) (j : ℕ). z ++ drop j l)
      (append_assoc (take o l) (take i x) (get_or x i 0 ∷ []) ∙ ap (λ (z : List ℕ). take o l ++ z) (sym (take-suc x i 0 a))) n);
}

-- the same from the first place of the slice on
pub front_within : {x l s : List ℕ} {m i : ℕ} → Laid x l 0 m s i → i < m → i < length s
front_within v h = omega (arith, laid_within v h)

pub front_more : {x l s : List ℕ} {m i : ℕ} → Laid x l 0 m s i → i < m → Laid x l 0 m (set s i (get_or x i 0)) (i + 1)
front_more {x} {l} {s} {m} {i} v h = rw zero-add at (laid_more v h)

-- by what was found to be the next one
pub front_put : {x l s : List ℕ} {m i v : ℕ} → Laid x l 0 m s i → i < m → v ≡ get_or x i 0 → Laid x l 0 m (set s i v) (i + 1)
front_put w h e = rw e (front_more w h)

pub front_same : {x l s : List ℕ} {m i : ℕ} → Laid x l 0 m s i → s ≡ take i x ++ drop i l
front_same {x} {l} {s} {m} {i} v = v.same ∙ ap (λ (j : ℕ). take i x ++ drop j l) (zero-add i)

front_all : {x l s : List ℕ} {m i : ℕ} → Laid x l 0 m s i → m ≤ i → s ≡ take m x ++ drop m l
front_all {x} {l} {s} {m} {i} v h =
    let e : i ≡ m = omega (arith, v.within) in
    front_same v ∙ ap (λ (j : ℕ). take j x ++ drop j l) e

-- all of a list
pub front_list : {x l s : List ℕ} {m i : ℕ} → Laid x l 0 m s i → m ≤ i → length x ≡ m → s ≡ x ++ drop m l
front_list {x} {l} {s} {m} {i} v h n = front_all v h ∙ ap (λ (y : List ℕ). y ++ drop m l) (take_all m x (omega arith))
