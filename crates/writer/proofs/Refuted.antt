-- Wrong outcomes that the promise does not permit.
-- Assumes nothing.
use Rattle.std.proofs.Common.{◌≡◌, refl, ap, sym, ◌∙◌, List, ◌++◌, ℕ, ◌+◌, ◌-◌, ◌*◌, ◌/◌, ◌≤◌, ◌<◌, arith, length, get_or, drop}
use Rattle.std.proofs.Common.{length-append, get_or-drop, get_or-append-add}
use Rattle.std.proofs.Math.ListN.{get_or-append}
use Rattle.block.specs.Bits.{bytes}
use Rattle.keys.specs.declared.KeySet.{KeySet}
use Rattle.keys.specs.SetNumber.{set_number}
use Rattle.tag.specs.Tag.{tag_bytes}
use Rattle.message.specs.Answer.{tagged}
use Rattle.hex_line.specs.Digit.{character_of}
use Rattle.hex_line.proofs.BothWays.{encoded_length, encoded_high}
use Rattle.frame.specs.Frame.{longest_frame}
use Rattle.writer.specs.declared.Written.{Written}
use Rattle.writer.specs.Line.{frame_of, line_of, done_write}
use Rattle.writer.specs.Promise.{WritePromise}
use Rattle.writer.proofs.Number.{write_cramped}
use Rattle.writer.proofs.TagBits.{tagged_length}
use Rattle.writer.proofs.Told.{number_is, is_written, is_refused}

module _ (k : KeySet) (body space : List ℕ) (w : Written) (after : List ℕ) (p : WritePromise k body space w after) where
  -- the high digit of byte i of the frame stands at 2i
  frame_digit : w.number ≡ 0 → (i : ℕ) → i < length (frame_of k body)
      → get_or after (2 * i) 0 ≡ character_of (get_or (frame_of k body) i 0 / 16)
  frame_digit z i h =
      let v = is_written k body space p z in
      let l = line_of k body in
      ap (λ (x : List ℕ). get_or x (2 * i) 0) v.laid
      ∙ get_or-append l (drop (length l) space) 0 (2 * i) (omega (arith, encoded_length (frame_of k body)))
      ∙ encoded_high (frame_of k body) i h

  -- a line in which the tag stands before the body, or the body does not stand at all: another digit than the body's first
  pub tag_before_body : w.number ≡ 0 → (get_or after 0 0 ≡ character_of (get_or body 0 0 / 16) → ⊥) → ⊥
  unfolding frame_of
  tag_before_body z wrong =
      let v = is_written k body space p z in
      let tag = bytes (tagged k body).tag in
      let n = length-append body tag in
      let some = v.fits.some in
      wrong
      (frame_digit z 0 (omega (arith, n, some))
      ∙ ap (λ (b : ℕ). character_of (b / 16)) (get_or-append body tag 0 0 (omega (arith, some))))

  -- one whose tag is another: behind the body does not stand the tag's first digit
  pub other_tag_behind : w.number ≡ 0
      → (get_or after (2 * length body) 0 ≡ character_of (get_or (bytes (tagged k body).tag) 0 0 / 16) → ⊥) → ⊥
  unfolding frame_of
  other_tag_behind z wrong =
      let v = is_written k body space p z in
      let tag = bytes (tagged k body).tag in
      let n = length-append body tag in
      let size = tagged_length k body v.fits.set.tag.high in
      let none : length body + 0 ≡ length body = omega arith in
      wrong
      (frame_digit z (length body) (omega (arith, n, size, v.fits.set.tag.low))
      ∙ ap (λ (b : ℕ). character_of (b / 16))
      (ap (λ (i : ℕ). get_or (body ++ tag) i 0) (sym none) ∙ get_or-append-add body tag 0 0))

  -- a letter in lower case: of a body whose first byte is A0
  pub lower_case_written : w.number ≡ 0 → get_or body 0 0 ≡ 0xA0 → get_or after 0 0 ≡ 97 → ⊥
  lower_case_written z a e =
      tag_before_body z (λ q. let n : 97 ≡ 65 = sym e ∙ q ∙ ap (λ (b : ℕ). character_of (b / 16)) a in omega arith)

  -- a byte behind the line that does not keep its value
  pub written_behind_the_line : w.number ≡ 0 → (i : ℕ) → w.written ≤ i → (get_or after i 0 ≡ get_or space i 0 → ⊥) → ⊥
  unfolding done_write
  written_behind_the_line z i h wrong =
      let v = is_written k body space p z in
      let l = line_of k body in
      let n : w.written ≡ length l = ap (λ (x : Written). x.written) v.answer in
      let j : i ≡ length l + (i - length l) = omega (arith, n) in
      wrong
      (ap (λ (x : List ℕ). get_or x i 0) v.laid ∙ ap (λ (m : ℕ). get_or (l ++ drop (length l) space) m 0) j
      ∙ get_or-append-add l (drop (length l) space) (i - length l) 0 ∙ get_or-drop (length l) space (i - length l) 0
      ∙ ap (λ (m : ℕ). get_or space m 0) (sym j))

  -- a body of one byte too many, or of more, that is written
  pub long_body_written : longest_frame < length body + tag_bytes k.bits → w.number ≡ 0 → ⊥
  long_body_written h z = omega (arith, (is_written k body space p z).fits.most)

  -- an empty one
  pub empty_body_written : length body ≡ 0 → w.number ≡ 0 → ⊥
  empty_body_written h z = omega (arith, (is_written k body space p z).fits.some)

  -- a space under 510 bytes that is taken as the line is short
  pub small_space_taken : length space < 510 → w.number ≡ 0 → ⊥
  small_space_taken h z = omega (arith, (is_written k body space p z).room)

  -- the body judged before the space
  pub ten_before_three : set_number k ≡ 0 → length space < 510 → w.number ≡ 10 → ⊥
  ten_before_three s h e =
      omega (arith, number_is k body space p, write_cramped k (length space) (length body) (sym s) refl h)

  -- a refusal that writes, and one that counts
  pub refusal_writes_a_line : (w.number ≡ 0 → ⊥) → (after ≡ space → ⊥) → ⊥
  refusal_writes_a_line h wrong = wrong (is_refused k body space p h).0

  pub refusal_with_counts : (w.number ≡ 0 → ⊥) → 1 ≤ w.whole + w.four + w.written → ⊥
  refusal_with_counts h c = let r = is_refused k body space p h in omega (arith, r.1, r.2, r.3)
