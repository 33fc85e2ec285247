-- The characters at a body line, by what decoding it and writing its frame line answer; how many they are; and the text of them.
-- Assumes nothing.
use Rattle.std.proofs.Common.{◌≡◌, refl, ap, sym, ◌∙◌, Bool, true, false, ⊎_elim, List, [], ◌∷◌, ◌++◌, ℕ, ◌+◌, ◌≤◌, ◌<◌, arith, eqb, length}
use Rattle.std.proofs.Common.{take, drop, set, length-append, eq-eqb, ne_eqb, eqb-true}
use Rattle.laws.specs.Pick.{pick}
use Rattle.laws.proofs.Both.{both_holds}
use Rattle.laws.proofs.Cases.{none_or_some}
use Rattle.block.specs.Bits.{bytes}
use Rattle.keys.specs.declared.KeySet.{KeySet}
use Rattle.message.specs.Answer.{tagged}
use Rattle.hex_line.specs.declared.LineAnswer.{LineAnswer}
use Rattle.hex_line.specs.Answer.{decode_number, written_space}
use Rattle.hex_line.specs.Line.{decoded}
use Rattle.hex_line.specs.Promise.{DecodePromise}
use Rattle.hex_line.proofs.BothWays.{encoded_length}
use Rattle.hex_line.proofs.Told.{is_written, least_number}
use Rattle.lines.specs.Lines.{line_feed}
use Rattle.lines.specs.Moves.{Wrote}
use Rattle.lines.proofs.Telling.{text_tells, fed_behind, wrote_none, wrote_front, front_wrote}
use Rattle.writer.specs.declared.Written.{Written}
use Rattle.writer.specs.Line.{least_room, write_number, frame_of, line_of, refused_write, done_write, write_answer}
use Rattle.writer.specs.Promise.{WritePromise}
use Rattle.writer.proofs.Number.{Fits, writes_told, writes_none}
use Rattle.writer.proofs.TagBits.{tagged_length}
use Rattle.outgoing.specs.Text.{most_text, is_sent, sent_line, sent_text}
use Rattle.outgoing.specs.Promise.{TellPromise}

-- the frame line of a body that fits
pub line_length : (k : KeySet) (body : List ℕ) → Fits k (length body) → length (line_of k body) ≤ 510
unfolding frame_of
line_length k body f =
    omega (
      arith,
      encoded_length (frame_of k body),
      length-append body (bytes (tagged k body).tag),
      tagged_length k body f.set.tag.high,
      f.most,
    )

module _ (k : KeySet) (line : List ℕ) where
  -- what is told of a line that is sent
  pub record Sent : Type 0 where
    pub reads : decode_number 255 line ≡ 0
    pub fits : Fits k (length (decoded line))

  pub sent_told : is_sent k line ≡ true → Sent
  unfolding is_sent
  sent_told e =
      let b = both_holds (eqb (decode_number 255 line) 0) (eqb (write_number k least_room (length (decoded line))) 0) e in
      record {
        reads = eqb-true (decode_number 255 line) 0 b.0;
        fits = (writes_told k least_room (length (decoded line)) (eqb-true (write_number k least_room (length (decoded line))) 0 b.1)).1;
      }

  -- it is sent
  pub sent_line_is : decode_number 255 line ≡ 0 → Fits k (length (decoded line)) → sent_line k line ≡ line_of k (decoded line)
  unfolding sent_line is_sent
  sent_line_is z f =
      let n = writes_none k least_room (length (decoded line)) (omega arith) f in
      rw (eq-eqb (decode_number 255 line) 0 z, eq-eqb (write_number k least_room (length (decoded line))) 0 n)

  -- or not
  pub unsent_line : is_sent k line ≡ false → sent_line k line ≡ []
  unfolding sent_line
  unsent_line e = rw e

  -- as it does not decode, or as its body does not fit
  pub unread_line : (decode_number 255 line ≡ 0 → ⊥) → sent_line k line ≡ []
  unfolding sent_line is_sent
  unread_line h = rw (ne_eqb (decode_number 255 line) 0 h)

  unfit_line : decode_number 255 line ≡ 0 → (Fits k (length (decoded line)) → ⊥) → sent_line k line ≡ []
  unfolding sent_line is_sent
  unfit_line z h =
      rw (
        eq-eqb (decode_number 255 line) 0 z,
        ne_eqb (write_number k least_room (length (decoded line))) 0 (λ n. h (writes_told k least_room (length (decoded line)) n).1),
      )

  -- at most so many characters
  pub sent_most : length (sent_line k line) ≤ 510
  unfolding sent_line
  sent_most = by (is_sent k line) refl
    where
      by : (b : Bool) → is_sent k line ≡ b → length (pick b (line_of k (decoded line)) []) ≤ 510
      by true e = line_length k (decoded line) (sent_told e).fits
      by false e = omega arith

  -- and a line feed
  pub text_length_is : length (sent_text k line) ≡ length (sent_line k line) + 1
  unfolding sent_text
  text_length_is = length-append (sent_line k line) (line_feed ∷ [])

  -- nothing of a line that is not sent
  none_laid : (space : List ℕ) → sent_line k line ≡ [] → Wrote (sent_line k line) space 0 0 space
  none_laid space e = rw e (wrote_none space 0)

  -- it is decoded into a space of 255 bytes
  module _
      (room : List ℕ)
      {d : LineAnswer}
      {read : List ℕ}
      (size : length room ≡ 255)
      (p : DecodePromise line room d read)
    where
      number : decode_number 255 line ≡ d.number
      number = least_number line room size p

      -- it does not decode
      pub laid_unread : (space : List ℕ) → (d.number ≡ 0 → ⊥) → Wrote (sent_line k line) space 0 0 space
      laid_unread space h = none_laid space (unread_line (λ z. h (sym number ∙ z)))

      -- it does: its body is written, or refused
      module _ (space : List ℕ) (big : least_room ≤ length space) (z : d.number ≡ 0) where
        abbrev fault : ℕ
        fault = write_number k (length space) (length (decoded line))

        written : {w : Written} {after : List ℕ} → WritePromise k (decoded line) space w after → fault ≡ 0
            → Wrote (sent_line k line) space 0 w.written after
        unfolding write_answer done_write written_space
        written q n =
            let holds = eq-eqb fault 0 n in
            let is = sent_line_is (number ∙ z) (writes_told k (length space) (length (decoded line)) n).1 in
            let size = ap (λ (x : Written). x.written) (rw holds at q.0) ∙ ap length (sym is) in
            wrote_front size
            ((rw holds at q.1) ∙ ap (λ (x : List ℕ). x ++ drop (length x) space) (sym is)
            ∙ ap (λ (n : ℕ). sent_line k line ++ drop n space) (sym size))

        refused : {w : Written} {after : List ℕ} → WritePromise k (decoded line) space w after → (fault ≡ 0 → ⊥)
            → Wrote (sent_line k line) space 0 w.written after
        unfolding write_answer refused_write written_space
        refused {w} q h =
            let fails = ne_eqb fault 0 h in
            let none = unfit_line (number ∙ z) (λ f. h (writes_none k (length space) (length (decoded line)) big f)) in
            let size : w.written ≡ 0 = ap (λ (x : Written). x.written) (rw fails at q.0) in
            rw (size, rw fails at q.1) (none_laid space none)

        pub laid_body : {w : Written} {after : List ℕ} → WritePromise k (take d.written read) space w after
            → Wrote (sent_line k line) space 0 w.written after
        laid_body {w} {after} q =
            let body : take d.written read ≡ decoded line = (is_written line room p z).front in
            let q' : WritePromise k (decoded line) space w after = rw body at q in
            ⊎_elim (written q') (refused q') (none_or_some fault)

  -- a line feed behind the characters
  pub fed_within : (space : List ℕ) {n : ℕ} {mid : List ℕ} → most_text ≤ length space → Wrote (sent_line k line) space 0 n mid
      → n < length space
  fed_within space room w = omega (arith, w.size, sent_most, room)

  pub tells_fed : (space : List ℕ) {n : ℕ} {mid : List ℕ} → most_text ≤ length space → Wrote (sent_line k line) space 0 n mid
      → TellPromise k line space (n + 1) (set mid n line_feed)
  unfolding sent_text
  tells_fed space room w =
      text_tells most_text (sent_text k line) space room (ap (λ (m : ℕ). m + 1) w.size ∙ sym text_length_is)
      (fed_behind (sent_line k line) space w.size (fed_within space room w) (front_wrote w))
