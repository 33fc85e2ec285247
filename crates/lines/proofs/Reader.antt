-- The reader: over two parts, over characters without a line feed, at a line feed, with little room, and over a whole input.
-- Assumes nothing.
use Rattle.std.proofs.Common.{◌≡◌, refl, ap, ap₂, sym, ◌∙◌, Bool, true, false, ⊎_elim, List, [], ◌∷◌, ◌++◌, append-nil, append_assoc, ℕ}
use Rattle.std.proofs.Common.{suc, ◌+◌, ◌-◌, ◌*◌, ◌≤◌, ◌<◌, not-suc-le-zero, arith, eqb, length, take, length-append, length-take, take_all}
use Rattle.std.proofs.Common.{take-take, length-take-le, eqb-true, ne_eqb, lt-ltb, le-ltb}
use Rattle.std.proofs.Math.Seq.{take-append-le, append_snoc}
use Rattle.laws.proofs.Cases.{below_or_not}
use Rattle.lines.specs.Lines.{line_feed, lines, plain}
use Rattle.lines.specs.Reader.{kept_chars, kept_line, Reader, next, reads, says, said, takes, closing}
use Rattle.lines.proofs.Plain.{plain_cons, plain_more, plain_append, lines_feed, lines_last}

-- the answers to lines one after the other, where each is told from what the lines before it have made of a session
module _ {A : Type 0} (turn : A → List ℕ → A) (tell : A → List ℕ → List ℕ) where
  unfoldable pub answers : A → List (List ℕ) → List ℕ
  answers a [] = []
  answers a (l ∷ ls) = tell a l ++ answers (turn a l) ls

-- what is kept of a line that grows is what is kept of the whole
kept : (n : ℕ) (a b : List ℕ) → take n (take n a ++ b) ≡ take n (a ++ b)
kept n a b = ⊎_elim short long (below_or_not (length a) n)
  where
    short : length a < n → take n (take n a ++ b) ≡ take n (a ++ b)
    short h = ap (λ (x : List ℕ). take n (x ++ b)) (take_all n a (omega arith))

    long : n ≤ length a → take n (take n a ++ b) ≡ take n (a ++ b)
    long h =
        let e : length (take n a) ≡ n = length-take-le n a h in
        take-append-le n (take n a) b (omega arith) ∙ take-take n n a (omega arith) ∙ sym (take-append-le n a b h)

kept_append : (a b : List ℕ) → kept_line (kept_line a ++ b) ≡ kept_line (a ++ b)
kept_append a b = kept kept_chars a b

pub kept_most : (l : List ℕ) → length (kept_line l) ≤ kept_chars
kept_most l = omega (arith, length-take kept_chars l)

module _ {A : Type 0} (turn : A → List ℕ → A) where
  -- a part after another
  pub reads_append : (r : Reader A) (p q : List ℕ) → reads turn r (p ++ q) ≡ reads turn (reads turn r p) q
  unfolding reads
  reads_append r [] q = refl
  reads_append r (c ∷ p) q = reads_append (next turn r c) p q

  -- at a character that is no line feed
  next_more : (r : Reader A) (c : ℕ) → eqb c line_feed ≡ false
      → next turn r c ≡ record { session = r.session; line = kept_line (r.line ++ (c ∷ [])) }
  unfolding next
  next_more r c e = rw e

  -- at a line feed with others behind it
  reads_feed : (r : Reader A) (p : List ℕ)
      → reads turn r (line_feed ∷ p) ≡ reads turn (record { session = turn r.session r.line; line = [] }) p
  unfolding reads next
  reads_feed r p = refl

  -- over characters without a line feed
  pub reads_plain : (r : Reader A) (q : List ℕ) → plain q ≡ q → length r.line ≤ kept_chars
      → reads turn r q ≡ record { session = r.session; line = kept_line (r.line ++ q) }
  unfolding reads
  reads_plain r [] h k =
      let e : r.line ≡ kept_line (r.line ++ []) = sym (take_all kept_chars (r.line ++ []) (rw append-nil k) ∙ append-nil r.line) in
      λ i. record { session = r.session; line = e i }
  reads_plain r (c ∷ q) h k =
      let f = plain_cons c q h in
      let r' : Reader A = record { session = r.session; line = kept_line (r.line ++ (c ∷ [])) } in
      let e : kept_line (r'.line ++ q) ≡ kept_line (r.line ++ (c ∷ q)) =
      kept_append (r.line ++ (c ∷ [])) q ∙ ap (take kept_chars) (append_snoc r.line c q) in
      ap (λ (x : Reader A). reads turn x q) (next_more r c f.0)
      ∙ reads_plain r' q f.1 (kept_most (r.line ++ (c ∷ [])))
      ∙ (λ i. record { session = r.session; line = e i })

  -- what is kept of a line stays within its bound
  next_kept : (r : Reader A) (c : ℕ) → length (next turn r c).line ≤ kept_chars
  unfolding next
  next_kept r c = by (eqb c line_feed) refl
    where
      by : (b : Bool) → eqb c line_feed ≡ b → length (next turn r c).line ≤ kept_chars
      by true e = rw e (omega arith)
      by false e = rw e (kept_most (r.line ++ (c ∷ [])))

  pub reads_kept : (r : Reader A) (p : List ℕ) → length r.line ≤ kept_chars → length (reads turn r p).line ≤ kept_chars
  unfolding reads
  reads_kept r [] h = h
  reads_kept r (c ∷ p) h = reads_kept (next turn r c) p (next_kept r c)

module _ {A : Type 0} (tell : A → List ℕ → List ℕ) where
  -- nothing is said at a character that is no line feed
  says_more : (r : Reader A) (c : ℕ) → eqb c line_feed ≡ false → says tell r c ≡ []
  unfolding says
  says_more r c e = rw e

module _ {A : Type 0} (turn : A → List ℕ → A) (tell : A → List ℕ → List ℕ) where
  -- what is said over a part after another, at a line feed, and over characters without one
  pub said_append : (r : Reader A) (p q : List ℕ) → said turn tell r (p ++ q) ≡ said turn tell r p ++ said turn tell (reads turn r p) q
  unfolding said reads
  said_append r [] q = refl
  said_append r (c ∷ p) q =
      ap (λ (x : List ℕ). says tell r c ++ x) (said_append (next turn r c) p q)
      ∙ sym (append_assoc (says tell r c) (said turn tell (next turn r c) p) (said turn tell (reads turn (next turn r c) p) q))

  pub said_feed : (r : Reader A) (p : List ℕ)
      → said turn tell r (line_feed ∷ p)
      ≡ tell r.session r.line ++ said turn tell (record { session = turn r.session r.line; line = [] }) p
  unfolding said says next
  said_feed r p = refl

  pub said_plain : (r : Reader A) (q : List ℕ) → plain q ≡ q → said turn tell r q ≡ []
  unfolding said
  said_plain r [] h = refl
  said_plain r (c ∷ q) h =
      let f = plain_cons c q h in
      ap₂ (λ (x y : List ℕ). x ++ y) (says_more tell r c f.0) (said_plain (next turn r c) q f.1)

  -- how many characters are taken: with too little room none, and otherwise the next one
  pub takes_none : (width : ℕ) (r : Reader A) (room : ℕ) (p : List ℕ) → room < width → takes turn tell width r room p ≡ 0
  unfolding takes
  takes_none width r room [] h = refl
  takes_none width r room (c ∷ p) h = rw (lt-ltb room width h)

  takes_next : (width : ℕ) (r : Reader A) (room c : ℕ) (p : List ℕ) → width ≤ room
      → takes turn tell width r room (c ∷ p) ≡ 1 + takes turn tell width (next turn r c) (room - length (says tell r c)) p
  unfolding takes
  takes_next width r room c p h = rw (le-ltb room width h)

  pub takes_feed : (width : ℕ) (r : Reader A) (room : ℕ) (p : List ℕ) → width ≤ room
      → takes turn tell width r room (line_feed ∷ p)
      ≡ 1
      + takes turn tell width (record { session = turn r.session r.line; line = [] })
      (room - length (tell r.session r.line)) p
  unfolding next says
  takes_feed width r room p h = takes_next width r room line_feed p h

  pub takes_plain : (width : ℕ) (r : Reader A) (room : ℕ) (q p : List ℕ) → plain q ≡ q → width ≤ room
      → takes turn tell width r room (q ++ p) ≡ length q + takes turn tell width (reads turn r q) room p
  unfolding reads
  takes_plain width r room [] p h k = omega arith
  takes_plain width r room (c ∷ q) p h k =
      let f = plain_cons c q h in
      let e : room - length (says tell r c) ≡ room = omega (arith, ap length (says_more tell r c f.0)) in
      takes_next width r room c (q ++ p) k
      ∙ rw e (omega (arith, takes_plain width (next turn r c) room q p f.1 k))

  pub takes_most : (width : ℕ) (r : Reader A) (room : ℕ) (p : List ℕ) → takes turn tell width r room p ≤ length p
  unfolding takes
  takes_most width r room [] = omega arith
  takes_most width r room (c ∷ p) =
      ⊎_elim (λ h. omega (arith, takes_none width r room (c ∷ p) h))
      (λ h. omega (arith, takes_next width r room c p h, takes_most width (next turn r c) (room - length (says tell r c)) p))
      (below_or_not room width)

  pub takes_some : (width : ℕ) (r : Reader A) (room : ℕ) (p : List ℕ) → width ≤ room → 1 ≤ length p → 1 ≤ takes turn tell width r room p
  takes_some width r room [] h k = absurd (not-suc-le-zero k)
  takes_some width r room (c ∷ p) h k = omega (arith, takes_next width r room c p h)

-- where each answer has at most `width` bytes
module _
    {A : Type 0}
    (turn : A → List ℕ → A)
    (tell : A → List ℕ → List ℕ)
    (width : ℕ)
    (fits : (a : A) (l : List ℕ) → length (tell a l) ≤ width)
  where
    says_most : (r : Reader A) (c : ℕ) → length (says tell r c) ≤ width
    unfolding says
    says_most r c = by (eqb c line_feed) refl
      where
        by : (b : Bool) → eqb c line_feed ≡ b → length (says tell r c) ≤ width
        by true e = rw e (fits r.session r.line)
        by false e = rw e (omega arith)

    -- with room for an answer at each character all are taken
    pub takes_all : (r : Reader A) (room : ℕ) (p : List ℕ) → width * length p ≤ room → takes turn tell width r room p ≡ length p
    unfolding takes
    takes_all r room [] h = refl
    takes_all r room (c ∷ p) h =
        takes_next turn tell width r room c p (omega arith)
        ∙ omega (arith, takes_all (next turn r c) (room - length (says tell r c)) p (omega (arith, says_most r c)))

    -- the answers to what is taken have room
    pub said_room : (r : Reader A) (room : ℕ) (p : List ℕ) → length (said turn tell r (take (takes turn tell width r room p) p)) ≤ room
    unfolding said takes
    said_room r room [] = omega arith
    said_room r room (c ∷ p) = ⊎_elim none (some (said_room (next turn r c) (room - length (says tell r c)) p)) (below_or_not room width)
      where
        none : room < width → length (said turn tell r (take (takes turn tell width r room (c ∷ p)) (c ∷ p))) ≤ room
        none h = rw (takes_none turn tell width r room (c ∷ p) h) (omega arith)

        n : ℕ
        n = takes turn tell width (next turn r c) (room - length (says tell r c)) p

        some : length (said turn tell (next turn r c) (take n p)) ≤ room - length (says tell r c) → width ≤ room
            → length (said turn tell r (take (takes turn tell width r room (c ∷ p)) (c ∷ p))) ≤ room
        some i h =
            let e : takes turn tell width r room (c ∷ p) ≡ suc n = takes_next turn tell width r room c p h ∙ omega arith in
            rw e (rw length-append (omega (arith, says_most r c)))

-- where an answer is told, and a session becomes another, by what is kept of a line
module _
    {A : Type 0}
    (turn : A → List ℕ → A)
    (tell : A → List ℕ → List ℕ)
    (turn_kept : (a : A) (l : List ℕ) → turn a (kept_line l) ≡ turn a l)
    (tell_kept : (a : A) (l : List ℕ) → tell a (kept_line l) ≡ tell a l)
  where
    -- at an input's end the line that is begun is answered
    closing_says : (r : Reader A) (l : List ℕ) → r.line ≡ kept_line l → plain l ≡ l
        → said turn tell r (closing r) ≡ answers turn tell r.session (lines l)
    unfolding said closing answers lines
    closing_says r [] e h = rw e
    closing_says r (c ∷ l) e h =
        let last : closing r ≡ line_feed ∷ [] = rw (ne_eqb (length r.line) 0 (λ z. omega (arith, ap length e))) in
        ap (said turn tell r) last ∙ said_feed turn tell r []
        ∙ ap (λ (x : List ℕ). x ++ []) (ap (tell r.session) e ∙ tell_kept r.session (c ∷ l))
        ∙ ap (answers turn tell r.session) (sym (lines_last c l h))

    -- what is said over some characters and at the end behind them
    ends : Reader A → List ℕ → List ℕ
    ends r p = said turn tell r p ++ said turn tell (reads turn r p) (closing (reads turn r p))

    ends_feed : (r : Reader A) (l p : List ℕ) → r.line ≡ kept_line l
        → ends (record { session = turn r.session r.line; line = [] }) p ≡ answers turn tell (turn r.session r.line) (lines p)
        → ends r (line_feed ∷ p) ≡ answers turn tell r.session (l ∷ lines p)
    unfolding ends answers
    ends_feed r l p e i =
        let r' : Reader A = record { session = turn r.session r.line; line = [] } in
        rw (said_feed turn tell r p, reads_feed turn r p)
        (append_assoc (tell r.session r.line) (said turn tell r' p) (said turn tell (reads turn r' p) (closing (reads turn r' p)))
        ∙ ap₂ (λ (x y : List ℕ). x ++ y) (ap (tell r.session) e ∙ tell_kept r.session l)
        (i ∙ ap (λ (a : A). answers turn tell a (lines p)) (ap (turn r.session) e ∙ turn_kept r.session l)))

    ends_more : (r : Reader A) (c : ℕ) (p : List ℕ) → eqb c line_feed ≡ false → ends r (c ∷ p) ≡ ends (next turn r c) p
    unfolding ends said reads
    ends_more r c p e = rw (says_more tell r c e)

    -- what is said over an input that goes on with a line, and at its end, is the answers to its lines
    whole : (r : Reader A) (l p : List ℕ) → r.line ≡ kept_line l → plain l ≡ l → ends r p ≡ answers turn tell r.session (lines (l ++ p))
    unfolding ends said reads plain
    whole r l [] e h = closing_says r l e h ∙ ap (λ (x : List ℕ). answers turn tell r.session (lines x)) (sym (append-nil l))
    whole r l (c ∷ p) e h = by (λ r' l' a b. whole r' l' p a b) (eqb c line_feed) refl
      where
        by : ((r' : Reader A) (l' : List ℕ) → r'.line ≡ kept_line l' → plain l' ≡ l'
            → ends r' p ≡ answers turn tell r'.session (lines (l' ++ p)))
            → (b : Bool) → eqb c line_feed ≡ b → ends r (c ∷ p) ≡ answers turn tell r.session (lines (l ++ (c ∷ p)))
        by i true q =
            let f : c ≡ line_feed = eqb-true c line_feed q in
            let r' : Reader A = record { session = turn r.session r.line; line = [] } in
            rw f (ends_feed r l p e (i r' [] refl refl) ∙ ap (answers turn tell r.session) (sym (lines_feed l p h)))
        by i false q =
            let r' : Reader A = record { session = r.session; line = kept_line (r.line ++ (c ∷ [])) } in
            let k : r'.line ≡ kept_line (l ++ (c ∷ [])) =
            ap (λ (x : List ℕ). kept_line (x ++ (c ∷ []))) e ∙ kept_append l (c ∷ []) in
            let g : plain (l ++ (c ∷ [])) ≡ l ++ (c ∷ []) =
            plain_append l (c ∷ []) h ∙ ap (λ (x : List ℕ). l ++ x) (plain_more c [] q) in
            ends_more r c p q ∙ ap (λ (x : Reader A). ends x p) (next_more turn r c q)
            ∙ i r' (l ++ (c ∷ [])) k g
            ∙ ap (λ (x : List ℕ). answers turn tell r.session (lines x)) (append_snoc l c p)

    said_whole : (r : Reader A) (l p : List ℕ) → r.line ≡ kept_line l → plain l ≡ l
        → said turn tell r p ++ said turn tell (reads turn r p) (closing (reads turn r p)) ≡ answers turn tell r.session (lines (l ++ p))
    unfolding ends
    said_whole r l p e h = whole r l p e h

    -- and over an input from its start on
    pub said_all : (r : Reader A) (p : List ℕ) → r.line ≡ []
        → said turn tell r p ++ said turn tell (reads turn r p) (closing (reads turn r p)) ≡ answers turn tell r.session (lines p)
    unfolding plain
    said_all r p e = said_whole r [] p e refl
