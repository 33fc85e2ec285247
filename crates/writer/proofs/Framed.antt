-- The frame of a body and its line, both ways: it decodes to the frame, of which the body is the body, and the tag the tag.
-- Assumes nothing.
use Rattle.std.proofs.Common.{◌≡◌, refl, ap, sym, ◌∙◌, true, ⊎_elim, List, ◌++◌, ℕ, ◌+◌, ◌-◌, ◌≤◌, ◌<◌, arith, length, get_or, take, drop}
use Rattle.std.proofs.Common.{length-append, take-append-drop, take_at, drop_at, length-take-le, get_or-drop, get_or-append-add}
use Rattle.std.proofs.Math.ListN.{get_or-append}
use Rattle.laws.proofs.Bytes.{Bytes}
use Rattle.laws.proofs.Cases.{below_or_not}
use Rattle.laws.proofs.Fault.{unless_holds}
use Rattle.block.specs.Bits.{bytes}
use Rattle.keys.specs.declared.KeySet.{KeySet}
use Rattle.tag.specs.Tag.{tag_bytes}
use Rattle.message.specs.Answer.{tagged}
use Rattle.hex_line.specs.Answer.{decode_number}
use Rattle.hex_line.specs.Line.{decoded, encoded}
use Rattle.hex_line.proofs.BothWays.{encoded_length, encoded_hex, decoded_encoded, decoded_bytes, encoded_decoded}
use Rattle.hex_line.proofs.Outcome.{number_rest}
use Rattle.hex_line.proofs.Told.{decodes}
use Rattle.frame.specs.Frame.{body_length, body_of, tag_of, frame_number, frame_answer}
use Rattle.frame.proofs.Number.{framed, framed_none}
use Rattle.frame.proofs.Made.{tag_length}
use Rattle.frame.proofs.Verdict.{tag_accepted, checked, is_accepted}
use Rattle.writer.specs.Line.{frame_of, line_of}
use Rattle.writer.proofs.Number.{Fits}
use Rattle.writer.proofs.TagBits.{tagged_length, tagged_bytes, tagged_spelt}

-- bytes and then others are bytes, and so are those of a rest
bytes_append : (a b : List ℕ) → Bytes a → Bytes b → Bytes (a ++ b)
bytes_append a b h k j = record { fits = ⊎_elim front behind (below_or_not j (length a)) }
  where
    front : j < length a → get_or (a ++ b) j 0 < 256
    front l = rw (get_or-append a b 0 j l) (h j).fits

    behind : length a ≤ j → get_or (a ++ b) j 0 < 256
    behind l =
        let n : j ≡ length a + (j - length a) = omega arith in
        let e : get_or (a ++ b) j 0 ≡ get_or b (j - length a) 0 =
        ap (λ (i : ℕ). get_or (a ++ b) i 0) n ∙ get_or-append-add a b (j - length a) 0 in
        rw e (k (j - length a)).fits

bytes_drop : (n : ℕ) (l : List ℕ) → Bytes l → Bytes (drop n l)
bytes_drop n l h j = record { fits = rw (get_or-drop n l j 0) (h (n + j)).fits }

module _ (k : KeySet) (body : List ℕ) (fits : Fits k (length body)) where
  abbrev f : List ℕ
  f = frame_of k body

  -- how long the frame is, and where its body ends
  frame_length : length f ≡ length body + tag_bytes k.bits
  unfolding frame_of
  frame_length = length-append body (bytes (tagged k body).tag) ∙ omega (arith, tagged_length k body fits.set.tag.high)

  pub line_some : 1 ≤ length (line_of k body)
  line_some = omega (arith, encoded_length f, frame_length, fits.some)

  body_ends : body_length k f ≡ length body
  body_ends = omega (arith, frame_length)

  pub frame_body : body_of k f ≡ body
  unfolding body_of frame_of
  frame_body = take_at body (bytes (tagged k body).tag) (body_length k f) (sym body_ends)

  frame_tag : tag_of k f ≡ bytes (tagged k body).tag
  unfolding tag_of frame_of
  frame_tag = drop_at body (bytes (tagged k body).tag) (body_length k f) (sym body_ends)

  frame_none : frame_number k (length f) ≡ 0
  frame_none =
      framed_none k (length f)
      (record { set = fits.set; fits = omega (arith, frame_length, fits.most); some = omega (arith, frame_length, fits.some) })

  -- its tag is its body's
  frame_accepted : tag_accepted k f ≡ true
  frame_accepted =
      let l = fits.set.tag.high in
      rw (frame_body, frame_tag) ((tagged_spelt k body l (bytes (tagged k body).tag) (tagged_bytes k body) (tagged_length k body l)).1 refl)

  -- the verdict on it: 0, the counts of the body's tag, and the body's length
  pub frame_verdict : frame_answer k f
      ≡ record { number = 0; whole = (tagged k body).whole; four = (tagged k body).four; body = length body }
  frame_verdict =
      let c = checked k f frame_none in
      let number : (frame_answer k f).number ≡ 0 = c.number ∙ rw frame_accepted in
      let whole = c.whole ∙ ap (λ (M : List ℕ). (tagged k M).whole) frame_body in
      let four = c.four ∙ ap (λ (M : List ℕ). (tagged k M).four) frame_body in
      let size : (frame_answer k f).body ≡ length body = c.body ∙ rw frame_accepted body_ends in
      λ i. record { number = number i; whole = whole i; four = four i; body = size i }

  -- and the line of a body of bytes decodes to it
  module _ (h : Bytes body) where
    frame_bytes : Bytes f
    unfolding frame_of
    frame_bytes = bytes_append body (bytes (tagged k body).tag) h (tagged_bytes k body)

    pub line_decodes : decode_number 255 (line_of k body) ≡ 0
    line_decodes =
        sym
        (number_rest 255 (line_of k body) (omega arith) (omega (arith, encoded_length f, frame_length, fits.most))
        (unless_holds 9 (encoded_hex f frame_bytes)))

    pub line_frame : decoded (line_of k body) ≡ f
    line_frame = decoded_encoded f frame_bytes

-- the other way: a frame of bytes that is accepted is the frame of its body
module _ (k : KeySet) (g : List ℕ) (h : Bytes g) (z : (frame_answer k g).number ≡ 0) where
  frame_whole : body_of k g ++ tag_of k g ≡ g
  unfolding body_of tag_of
  frame_whole = take-append-drop (body_length k g) g

  tag_bytes_is : Bytes (tag_of k g)
  unfolding tag_of
  tag_bytes_is = bytes_drop (body_length k g) g h

  pub frame_again : frame_of k (body_of k g) ≡ g
  unfolding frame_of
  frame_again =
      let a = is_accepted k g z in
      let f = framed k (length g) a.none in
      let spelt = tagged_spelt k (body_of k g) f.set.tag.high (tag_of k g) tag_bytes_is (tag_length k g (omega (arith, f.some))) in
      ap (λ (x : List ℕ). body_of k g ++ x) (sym (spelt.0 a.tag)) ∙ frame_whole

-- and a line that decodes to it is the line of its body
module _ (k : KeySet) (line : List ℕ) (read : decode_number 255 line ≡ 0) (z : (frame_answer k (decoded line)).number ≡ 0) where
  abbrev g : List ℕ
  g = decoded line

  pub body_fits : Fits k (length (body_of k g))
  unfolding body_of
  body_fits =
      let a = framed k (length g) (is_accepted k g z).none in
      let n : length (take (body_length k g) g) ≡ body_length k g = length-take-le (body_length k g) g (omega arith) in
      record { set = a.set; some = omega (arith, n, a.some); most = omega (arith, n, a.fits, a.some) }

  pub line_again : line_of k (body_of k g) ≡ line
  line_again = ap encoded (frame_again k g (decoded_bytes line) z) ∙ encoded_decoded line (decodes 255 line read).hex
