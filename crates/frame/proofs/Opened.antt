-- What opening a frame hands back, by the verdict on it.
-- Assumes nothing.
use Rattle.std.proofs.Common.{◌≡◌, refl, ap, sym, ◌∙◌, Bool, true, false, List, [], ℕ, ◌≤◌, arith, length, take, eq-eqb, ne_eqb}
use Rattle.std.proofs.Common.{Result, Ok, Err}
use Rattle.std.specs.Result.{result_unwrap_or}
use Rattle.numbers.specs.declared.Refusal.{Refusal}
use Rattle.numbers.specs.Told.{number}
use Rattle.numbers.proofs.Number.{not_done}
use Rattle.laws.specs.Pick.{pick}
use Rattle.keys.specs.declared.KeySet.{KeySet}
use Rattle.frame.specs.declared.FrameAnswer.{FrameAnswer}
use Rattle.frame.specs.declared.Judged.{Judged}
use Rattle.frame.specs.Told.{told_frame}
use Rattle.frame.specs.Frame.{body_length, body_of, frame_answer, accepts}
use Rattle.frame.specs.Open.{opened, opened_or, opened_at}
use Rattle.frame.proofs.Verdict.{is_accepted}

-- opening is opening or no bytes, at the frame's own place
module _ (k : KeySet) (f : List ℕ) where
  pub opened_or_nothing : opened_or k f [] ≡ opened k f
  unfolding opened opened_or
  opened_or_nothing = refl

  pub opened_at_frame : (a : ℕ × ℕ) → opened_at k f a a ≡ a
  unfolding opened_at
  opened_at_frame a = by (accepts k f)
    where
      by : (t : Bool) → pick t a a ≡ a
      by true = refl
      by false = refl

-- of an accepted frame: the body, which lies where the frame does
module _ (k : KeySet) (f : List ℕ) (z : (frame_answer k f).number ≡ 0) where
  pub opened_accepted : opened k f ≡ body_of k f
  unfolding opened
  opened_accepted = rw (eq-eqb (frame_answer k f).number 0 z)

  pub opened_or_accepted : (t : List ℕ) → opened_or k f t ≡ body_of k f
  unfolding opened_or
  opened_or_accepted t = rw (eq-eqb (frame_answer k f).number 0 z)

  pub opened_at_accepted : (a b : ℕ × ℕ) → opened_at k f a b ≡ a
  unfolding opened_at
  opened_at_accepted a b = rw (eq-eqb (frame_answer k f).number 0 z)

-- of a refused one: no bytes, or the table, which lies where it did
module _ (k : KeySet) (f : List ℕ) (h : (frame_answer k f).number ≡ 0 → ⊥) where
  pub opened_refused : opened k f ≡ []
  unfolding opened
  opened_refused = rw (ne_eqb (frame_answer k f).number 0 h)

  pub opened_or_refused : (t : List ℕ) → opened_or k f t ≡ t
  unfolding opened_or
  opened_or_refused t = rw (ne_eqb (frame_answer k f).number 0 h)

  pub opened_at_refused : (a b : ℕ × ℕ) → opened_at k f a b ≡ b
  unfolding opened_at
  opened_at_refused a b = rw (ne_eqb (frame_answer k f).number 0 h)

-- the same by a verdict that was handed back: of an accepted frame the body is its first bytes, as many as the verdict says
module _ (k : KeySet) (f : List ℕ) {v : FrameAnswer} (e : v ≡ frame_answer k f) where
  pub number_is : v.number ≡ (frame_answer k f).number
  number_is = ap (λ (r : FrameAnswer). r.number) e

  pub body_is : v.number ≡ 0 → v.body ≡ body_length k f
  body_is z = ap (λ (r : FrameAnswer). r.body) e ∙ (is_accepted k f (sym number_is ∙ z)).body

  pub body_within : v.number ≡ 0 → v.body ≤ length f
  body_within z = omega (arith, body_is z)

  pub front_is : v.number ≡ 0 → take v.body f ≡ body_of k f
  unfolding body_of
  front_is z = ap (λ (n : ℕ). take n f) (body_is z)

  pub open_none : (v.number ≡ 0 → ⊥) → [] ≡ opened k f
  open_none h = sym (opened_refused k f (λ z. h (number_is ∙ z)))

  pub open_or_body : (t : List ℕ) (a b : ℕ × ℕ) → v.number ≡ 0 → (take v.body f ≡ opened_or k f t) × (a ≡ opened_at k f a b)
  open_or_body t a b z =
      let n = sym number_is ∙ z in
      (front_is z ∙ sym (opened_or_accepted k f n t), sym (opened_at_accepted k f n a b))

  pub open_or_table : (t : List ℕ) (a b : ℕ × ℕ) → (v.number ≡ 0 → ⊥) → (t ≡ opened_or k f t) × (b ≡ opened_at k f a b)
  open_or_table t a b h =
      let n : (frame_answer k f).number ≡ 0 → ⊥ = λ z. h (number_is ∙ z) in
      (sym (opened_or_refused k f n t), sym (opened_at_refused k f n a b))

-- the same by what was judged: how long the body is, or why there is none
module _ (k : KeySet) (f : List ℕ) (j : Judged) (e : told_frame j ≡ frame_answer k f) where
  told_done : (n : ℕ) → j.body ≡ Ok n → (told_frame j).number ≡ 0
  unfolding told_frame number
  told_done n q = ap number q

  told_length : (n : ℕ) → j.body ≡ Ok n → (told_frame j).body ≡ n
  unfolding told_frame
  told_length n q = ap (λ (r : Result ℕ Refusal). result_unwrap_or r 0) q

  told_refused : (why : Refusal) → j.body ≡ Err why → (told_frame j).number ≡ 0 → ⊥
  unfolding told_frame number
  told_refused why q z = not_done why (sym (ap number q) ∙ z)

  pub judged_within : (n : ℕ) → j.body ≡ Ok n → n ≤ length f
  judged_within n q = rw (told_length n q) at (body_within k f e (told_done n q))

  pub open_refused : (why : Refusal) → j.body ≡ Err why → [] ≡ opened k f
  open_refused why q = open_none k f e (told_refused why q)

  pub open_or_judged : (t : List ℕ) (a b : ℕ × ℕ) (n : ℕ) → j.body ≡ Ok n → (take n f ≡ opened_or k f t) × (a ≡ opened_at k f a b)
  open_or_judged t a b n q = rw (told_length n q) at (open_or_body k f e t a b (told_done n q))

  pub open_or_refused : (t : List ℕ) (a b : ℕ × ℕ) (why : Refusal) → j.body ≡ Err why
      → (t ≡ opened_or k f t) × (b ≡ opened_at k f a b)
  open_or_refused t a b why q = open_or_table k f e t a b (told_refused why q)
