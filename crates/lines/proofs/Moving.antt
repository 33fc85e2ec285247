-- A loop over a part: it stays, it moves on and on, over a line that goes on behind the part, and over one that ends in it.
-- Assumes nothing.
use Rattle.std.proofs.Common.{◌≡◌, refl, ap, ap₂, sym, ◌∙◌, List, [], ◌∷◌, ◌++◌, append-nil, append_assoc, ℕ, ◌+◌, ◌-◌, ◌≤◌, ◌<◌, arith}
use Rattle.std.proofs.Common.{length, take, drop, length-append, length-drop, take-append-drop, drop_of_length-le, take_all, take-add}
use Rattle.std.proofs.Common.{take_at, drop-drop, length-take-le}
use Rattle.std.proofs.Math.Seq.{take-append-add, drop-append-add}
use Rattle.lines.specs.Lines.{line_feed, plain}
use Rattle.lines.specs.Reader.{kept_chars, kept_line, Reader, next, reads, said, takes}
use Rattle.lines.specs.Gather.{line_end}
use Rattle.lines.specs.Moves.{Wrote, Moves}
use Rattle.lines.proofs.Plain.{plain_plain, plain_front, plain_split, plain_most}
use Rattle.lines.proofs.Reader.{reads_append, reads_plain, said_append, said_plain, said_feed, takes_plain, takes_feed}

-- the line that goes on at a place, as it is lent: up to its line feed, or to the end of the part
lent_line : (part : List ℕ) (at : ℕ) {end : ℕ} → end ≡ line_end part at → take (end - at) (drop at part) ≡ plain (drop at part)
lent_line part at {end} e =
    let k : end - at ≡ length (plain (drop at part)) = omega (arith, e) in
    ap (λ (j : ℕ). take j (drop at part)) k ∙ plain_front (drop at part)

-- it ends within the part
pub line_within : (part : List ℕ) (at : ℕ) {end : ℕ} → end ≡ line_end part at → at ≤ length part → (at ≤ end) × (end ≤ length part)
line_within part at e h =
    (omega (arith, e), omega (arith, e, plain_most (drop at part), length-drop at part))

module _ {A : Type 0} (turn : A → List ℕ → A) (tell : A → List ℕ → List ℕ) (width : ℕ) (part : List ℕ) where
  -- nothing is taken
  pub moves_none : (r : Reader A) (at out : ℕ) (space : List ℕ) → at ≤ length part → out ≤ length space
      → Moves turn tell width part r at out space r at out space
  unfolding reads said
  moves_none r at out space h k = record {
    taken = 0;
    at_is = omega arith;
    most = h;
    reader_is = refl;
    out_is = omega arith;
    room = k;
    space_is = sym (ap (λ (x : List ℕ). x ++ drop out space) (append-nil (take out space)) ∙ take-append-drop out space);
    goes_on = omega arith;
  }

  -- the space is as long as it was
  pub moves_length : {r r' : Reader A} {at out at' out' : ℕ} {space space' : List ℕ}
      → Moves turn tell width part r at out space r' at' out' space' → length space' ≡ length space
  moves_length {r} {r'} {at} {out} {at'} {out'} {space} {space'} m =
      let s = said turn tell r (take m.taken (drop at part)) in
      let a : length (take out space) ≡ out = length-take-le out space (omega (arith, m.out_is, m.room)) in
      let b : length (take out space ++ s) ≡ length (take out space) + length s = length-append (take out space) s in
      let d : length (drop out' space) ≡ length space - out' = length-drop out' space in
      ap length m.space_is ∙ length-append (take out space ++ s) (drop out' space) ∙ omega (arith, m.out_is, m.room)

  -- of readers that are the same
  pub moves_as : {r r₀ r' r'' : Reader A} {at out at' out' : ℕ} {space space' : List ℕ} → r₀ ≡ r → r'' ≡ r'
      → Moves turn tell width part r at out space r' at' out' space' → Moves turn tell width part r₀ at out space r'' at' out' space'
  moves_as e f m = rw (e, f) m

  -- one move after another
  pub moves_on : {r r₁ r₂ : Reader A} {at out at₁ out₁ at₂ out₂ : ℕ} {space space₁ space₂ : List ℕ}
      → Moves turn tell width part r at out space r₁ at₁ out₁ space₁ → Moves turn tell width part r₁ at₁ out₁ space₁ r₂ at₂ out₂ space₂
      → Moves turn tell width part r at out space r₂ at₂ out₂ space₂
  moves_on {r} {r₁} {r₂} {at} {out} {at₁} {out₁} {at₂} {out₂} {space} {space₁} {space₂} m n =
      let q = take m.taken (drop at part) in
      let q₁ = take n.taken (drop at₁ part) in
      let both : take (m.taken + n.taken) (drop at part) ≡ q ++ q₁ =
      take-add m.taken n.taken (drop at part)
      ∙ ap (λ (x : List ℕ). q ++ take n.taken x) (drop-drop m.taken at part ∙ ap (λ (k : ℕ). drop k part) (sym m.at_is)) in
      let s = said turn tell r q in
      let s₁ = said turn tell r₁ q₁ in
      let says : said turn tell r (take (m.taken + n.taken) (drop at part)) ≡ s ++ s₁ =
      ap (said turn tell r) both ∙ said_append turn tell r q q₁
      ∙ ap (λ (x : Reader A). s ++ said turn tell x q₁) (sym m.reader_is) in
      let size = moves_length m in
      let front : length (take out space ++ s) ≡ out₁ =
      length-append (take out space) s
      ∙ omega (arith, length-take-le out space (omega (arith, m.out_is, m.room)), m.out_is) in
      let kept : take out₁ space₁ ≡ take out space ++ s =
      ap (take out₁) m.space_is ∙ take_at (take out space ++ s) (drop out₁ space) out₁ front in
      let sum : out₂ ≡ length (take out space ++ s) + length s₁ = omega (arith, n.out_is, front) in
      let behind : drop out₂ space₁ ≡ drop out₂ space =
      ap₂ (λ (j : ℕ) (x : List ℕ). drop j x) sum m.space_is
      ∙ drop-append-add (take out space ++ s) (drop out₁ space) (length s₁) ∙ drop-drop (length s₁) out₁ space
      ∙ ap (λ (j : ℕ). drop j space) (sym n.out_is) in
      let left : takes turn tell width r₁ (length space - out₁) (drop at₁ part)
      ≡ n.taken + takes turn tell width r₂ (length space - out₂) (drop at₂ part) =
      (λ i. takes turn tell width r₁ (sym size i - out₁) (drop at₁ part)) ∙ n.goes_on
      ∙ (λ i. n.taken + takes turn tell width r₂ (size i - out₂) (drop at₂ part)) in
      record {
        taken = m.taken + n.taken;
        at_is = omega (arith, m.at_is, n.at_is);
        most = n.most;
        reader_is =
            n.reader_is ∙ ap (λ (x : Reader A). reads turn x q₁) m.reader_is ∙ sym (reads_append turn r q q₁)
            ∙ ap (reads turn r) (sym both);
        out_is = omega (arith, m.out_is, n.out_is, ap length says ∙ length-append s s₁);
        room = omega (arith, n.room, size);
        space_is =
            n.space_is ∙ ap₂ (λ (x y : List ℕ). x ++ s₁ ++ y) kept behind
            ∙ ap (λ (x : List ℕ). x ++ drop out₂ space)
            (append_assoc (take out space) s s₁ ∙ ap (λ (x : List ℕ). take out space ++ x) (sym says));
        goes_on = omega (arith, m.goes_on, left);
      }

  -- over a line that is begun, or starts, at a place, with room for a text
  module _
      (r : Reader A)
      (at out : ℕ)
      (space : List ℕ)
      {end : ℕ}
      (kept : length r.line ≤ kept_chars)
      (room : out + width ≤ length space)
      (stop : end ≡ line_end part at)
    where
      -- what is left of the part, and the characters before the next line feed, as they are lent
      abbrev left : List ℕ
      left = drop at part

      abbrev lent : List ℕ
      lent = take (end - at) left

      -- what is kept of the line with them
      abbrev line : List ℕ
      line = kept_line (r.line ++ lent)

      lent_is : lent ≡ plain left
      lent_is = lent_line part at stop

      lent_size : length lent ≡ end - at
      lent_size = omega (arith, stop, ap length lent_is)

      lent_plain : plain lent ≡ lent
      lent_plain = ap plain lent_is ∙ plain_plain left ∙ sym lent_is

      reads_lent : reads turn r lent ≡ record { session = r.session; line = line }
      reads_lent = reads_plain turn r lent lent_plain kept

      takes_lent : (rest : List ℕ)
          → takes turn tell width r (length space - out) (lent ++ rest)
          ≡ (end - at) + takes turn tell width (record { session = r.session; line = line }) (length space - out) rest
      takes_lent rest =
          takes_plain turn tell width r (length space - out) lent rest lent_plain (omega arith)
          ∙ ap₂ (λ (n : ℕ) (x : Reader A). n + takes turn tell width x (length space - out) rest) lent_size reads_lent

      -- the part ends before the line does
      pub moves_part : at ≤ length part → length part ≤ end
          → Moves turn tell width part r at out space (record { session = r.session; line = line }) end out space
      unfolding takes
      moves_part h past =
          let n = length-drop at part in
          let all : lent ≡ left = take_all (end - at) left (omega arith) in
          let said-none = said_plain turn tell r lent lent_plain in
          let none : drop end part ≡ [] = drop_of_length-le part past in
          let w = line_within part at stop h in
          record {
            taken = end - at;
            at_is = omega (arith, w.0);
            most = w.1;
            reader_is = sym reads_lent;
            out_is = omega (arith, ap length said-none);
            room = omega arith;
            space_is =
                sym
                (ap (λ (x : List ℕ). take out space ++ x ++ drop out space) said-none
                ∙ ap (λ (x : List ℕ). x ++ drop out space) (append-nil (take out space)) ∙ take-append-drop out space);
            goes_on =
                ap (takes turn tell width r (length space - out)) (sym all ∙ sym (append-nil lent)) ∙ takes_lent []
                ∙ rw none;
          }

      -- it ends in the part, and is answered
      module _ (within : end < length part) where
        split : left ≡ lent ++ (line_feed ∷ drop (end + 1) part)
        split =
            let n = length (plain left) in
            let k : at + (n + 1) ≡ end + 1 = omega (arith, stop) in
            plain_split left (omega (arith, stop, length-drop at part))
            ∙ ap₂ (λ (x y : List ℕ). x ++ (line_feed ∷ y)) (sym lent_is) (drop-drop (n + 1) at part ∙ ap (λ (j : ℕ). drop j part) k)

        upto : take (end - at + 1) left ≡ lent ++ (line_feed ∷ [])
        upto =
            let n : end - at + 1 ≡ length lent + 1 = omega (arith, lent_size) in
            ap₂ (λ (j : ℕ) (x : List ℕ). take j x) n split ∙ take-append-add lent (line_feed ∷ drop (end + 1) part) 1

        abbrev behind : Reader A
        behind = record { session = turn r.session line; line = [] }

        reads_upto : reads turn r (lent ++ (line_feed ∷ [])) ≡ behind
        unfolding reads next
        reads_upto = reads_append turn r lent (line_feed ∷ []) ∙ ap (λ (x : Reader A). reads turn x (line_feed ∷ [])) reads_lent

        said_upto : said turn tell r (lent ++ (line_feed ∷ [])) ≡ tell r.session line
        unfolding said
        said_upto =
            said_append turn tell r lent (line_feed ∷ [])
            ∙ ap₂ (λ (x : List ℕ) (y : Reader A). x ++ said turn tell y (line_feed ∷ [])) (said_plain turn tell r lent lent_plain)
            reads_lent
            ∙ said_feed turn tell (record { session = r.session; line = line }) [] ∙ append-nil (tell r.session line)

        pub moves_line : {n : ℕ} {after : List ℕ} → Wrote (tell r.session line) space out n after → n ≤ width → at ≤ end
            → Moves turn tell width part r at out space (record { session = turn r.session line; line = [] }) (end + 1) (out + n) after
        moves_line {n} {after} w fits h =
            let o = tell r.session line in
            let says : said turn tell r (take (end - at + 1) left) ≡ o = ap (said turn tell r) upto ∙ said_upto in
            let rest = drop (end + 1) part in
            let room-left : length space - out - length o ≡ length space - (out + n) = omega (arith, w.size) in
            record {
              taken = end - at + 1;
              at_is = omega arith;
              most = omega arith;
              reader_is = sym (ap (reads turn r) upto ∙ reads_upto);
              out_is = omega (arith, w.size, ap length says);
              room = omega arith;
              space_is = w.space_is ∙ ap (λ (x : List ℕ). take out space ++ x ++ drop (out + n) space) (sym says);
              goes_on =
                  ap (takes turn tell width r (length space - out)) split ∙ takes_lent (line_feed ∷ rest)
                  ∙ ap (λ (k : ℕ). (end - at) + k)
                  (takes_feed turn tell width (record { session = r.session; line = line }) (length space - out) rest (omega arith))
                  ∙ rw room-left (omega arith);
            }
