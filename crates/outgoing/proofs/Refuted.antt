-- Wrong outcomes that the promise does not permit.
-- Assumes nothing.
use Rattle.std.proofs.Common.{◌≡◌, ap, ◌∙◌, true, false, List, [], ◌∷◌, append_assoc, ℕ, ◌+◌, ◌-◌, ◌≤◌, ◌<◌, arith, length, get_or, drop}
use Rattle.std.proofs.Math.Seq.{get_or_at}
use Rattle.keys.specs.declared.KeySet.{KeySet}
use Rattle.hex_line.specs.Line.{decoded}
use Rattle.lines.specs.Lines.{line_feed}
use Rattle.lines.proofs.Telling.{tells_text, tells_nothing}
use Rattle.outgoing.specs.Text.{most_text, is_sent, sent_line, sent_text}
use Rattle.outgoing.specs.Promise.{TellPromise, tell_once}
use Rattle.writer.specs.Line.{line_of}
use Rattle.writer.proofs.Framed.{line_some}
use Rattle.outgoing.proofs.Sent.{sent_told, unsent_line, text_length_is}

module _ (k : KeySet) (line space : List ℕ) (r : ℕ) (after : List ℕ) (p : TellPromise k line space r after) where
  -- how long the text is, with room for it
  told : most_text ≤ length space → r ≡ length (sent_line k line) + 1
  told h = (tells_text most_text (sent_text k line) space h p).0 ∙ text_length_is k line

  -- no empty line for a refused body: nothing at all
  pub refused_body_unanswered : most_text ≤ length space → r ≡ 0 → ⊥
  refused_body_unanswered h z = omega (arith, told h)

  -- or some characters
  pub refused_body_written : most_text ≤ length space → is_sent k line ≡ false → 1 < r → ⊥
  refused_body_written h e l = omega (arith, told h, ap length (unsent_line k line e))

  -- a body that is not refused, and is answered by an empty line all the same
  pub good_body_unsent : most_text ≤ length space → is_sent k line ≡ true → r ≡ 1 → ⊥
  unfolding sent_line
  good_body_unsent h e z =
      let is : sent_line k line ≡ line_of k (decoded line) = rw e in
      omega (arith, told h, ap length is, line_some k (decoded line) (sent_told k line e).fits)

  -- a text that does not end with its line feed
  pub line_feed_lost : most_text ≤ length space → (get_or after (r - 1) 0 ≡ line_feed → ⊥) → ⊥
  unfolding sent_text
  line_feed_lost h wrong =
      let l = sent_line k line in
      let rest = drop (length (sent_text k line)) space in
      let n : length l ≡ r - 1 = omega (arith, told h) in
      wrong
      (ap (λ (x : List ℕ). get_or x (r - 1) 0)
      ((tells_text most_text (sent_text k line) space h p).1 ∙ append_assoc l (line_feed ∷ []) rest)
      ∙ get_or_at l line_feed rest 0 (r - 1) n)

  -- one that is cut, or told though there is no room for the longest
  pub cramped_text_told : length space < most_text → 1 ≤ r → ⊥
  cramped_text_told h l =
      omega (arith, (tell_once k line space r 0 after space p (tells_nothing most_text (sent_text k line) space h)).0)
