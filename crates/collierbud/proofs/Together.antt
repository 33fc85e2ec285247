-- The three promises, each from what the key call, the call under its key set and the writing of the counts hand back.
-- Assumes nothing.
use Rattle.std.proofs.Common.{◌≡◌, ap, ◌∙◌, List, ℕ, length, Result, Ok, [], ◌∷◌}
use Rattle.keys.specs.declared.KeySet.{KeySet}
use Rattle.keys.specs.declared.KeyAnswer.{KeyAnswer}
use Rattle.keys.specs.Answer.{key_answer}
use Rattle.std.specs.Result.{result_and, result_unwrap_or}
use Rattle.numbers.specs.declared.Refusal.{Refusal}
use Rattle.numbers.specs.Told.{number}
use Rattle.tag.specs.declared.Counts.{Counts}
use Rattle.tag.specs.declared.Checked.{Checked}
use Rattle.tag.specs.Told.{told_made, told_checked}
use Rattle.tag.specs.declared.TagAnswer.{TagAnswer}
use Rattle.tag.specs.Answer.{refused_tag}
use Rattle.message.specs.Answer.{tag_answer, tag_slice, verdict}
use Rattle.frame.specs.declared.FrameAnswer.{FrameAnswer}
use Rattle.frame.specs.Frame.{refused_frame, frame_answer}
use Rattle.collierbud.specs.Answer.{tagging, tagged_space, checking, opening, two_counts, three_counts}
use Rattle.collierbud.specs.Inner.{Starts, tagged_from, space_from, checked_from, opened_from, counted}
use Rattle.collierbud.specs.Promise.{TagPromise, CheckPromise, OpenPromise}
use Rattle.collierbud.proofs.Answered.{start_gives, tag_number, tag_counts, two_counted, three_counted}

-- where the call starts from, by what the key call answers
started : {made made' : KeyAnswer} (n places : ℕ) (s : Result KeySet Refusal) → made ≡ made' → Starts made n places s
    → Starts made' n places s
started n places s e p = rw e at p

module _ (order bits : ℕ) (K L : List ℕ) {made : KeyAnswer} (e : made ≡ key_answer order bits K L) (s : Result KeySet Refusal) where
  pub tag_together : (message space counts : List ℕ) (r : Result Counts Refusal) {c : Counts} {n : ℕ} {after counted' : List ℕ}
      → Starts made 2 (length counts) s → told_made r ≡ tagged_from s message (length space) → after ≡ space_from s message space
      → n ≡ number (result_and {U = Unit {0}} r (Ok (tt {0}))) → c ≡ result_unwrap_or r (record { whole = 0; four = 0 })
      → counted' ≡ counted (c.whole ∷ c.four ∷ []) counts → TagPromise order bits K L message space counts n after counted'
  unfolding tagging tagged_space
  tag_together message space counts r {c} p t a n d w =
      let g = started 2 _ s e p in
      let q = t ∙ start_gives (key_answer order bits K L) 2 _ s g (λ k. tag_answer k message (length space)) refused_tag in (
        n ∙ tag_number r ∙ ap (λ (b : TagAnswer). b.number) q,
        a ∙ start_gives (key_answer order bits K L) 2 _ s g (λ k. tag_slice k message space) (λ _. space),
        w ∙ ap (λ (l : List ℕ). counted l counts) (tag_counts r d) ∙ two_counted (told_made r) counts
            ∙ ap (λ (b : TagAnswer). two_counts b counts) q,
      )

  pub check_together : (message received counts : List ℕ) (v : Checked) {n : ℕ} {after : List ℕ}
      → Starts made 2 (length counts) s → told_checked v ≡ checked_from s message received → n ≡ number v.outcome
      → after ≡ counted (v.counts.whole ∷ v.counts.four ∷ []) counts → CheckPromise order bits K L message received counts n after
  unfolding told_checked checking
  check_together message received counts v p t n w =
      let q = t ∙ start_gives (key_answer order bits K L) 2 _ s (started 2 _ s e p) (λ k. verdict k message received) refused_tag in (
        n ∙ ap (λ (b : TagAnswer). b.number) q,
        w ∙ two_counted (told_checked v) counts ∙ ap (λ (b : TagAnswer). two_counts b counts) q,
      )

  pub open_together : (frame counts : List ℕ) {a b : FrameAnswer} {after : List ℕ} → Starts made 3 (length counts) s → a ≡ b
      → b ≡ opened_from s frame → after ≡ counted (a.whole ∷ a.four ∷ a.body ∷ []) counts
      → OpenPromise order bits K L frame counts a.number after
  unfolding opening
  open_together frame counts {a} {b} p f t w =
      let q = f ∙ t ∙ start_gives (key_answer order bits K L) 3 _ s (started 3 _ s e p) (λ k. frame_answer k frame) refused_frame in (
        ap (λ (b : FrameAnswer). b.number) q,
        w ∙ three_counted a counts ∙ ap (λ (b : FrameAnswer). three_counts b counts) q,
      )
