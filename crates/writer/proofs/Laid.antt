-- The outcome of writing a line, by what was found on the way to it.
-- Assumes nothing.
use Rattle.std.proofs.Common.{◌≡◌, ap, ap₂, sym, ◌∙◌, List, ◌++◌, append_assoc, ℕ, ◌+◌, ◌-◌, ◌*◌, ◌≤◌, arith, length, take, drop}
use Rattle.std.proofs.Common.{length-append, length-drop, take_at, drop_at, drop-drop, eq-eqb, ne_eqb, Ok, Err}
use Rattle.laws.proofs.Lent.{lent_rest, lent_back}
use Rattle.block.specs.Bits.{bytes}
use Rattle.numbers.specs.declared.Refusal.{Refusal}
use Rattle.numbers.specs.Told.{number_of}
use Rattle.numbers.proofs.Number.{not_done}
use Rattle.keys.specs.declared.KeySet.{KeySet}
use Rattle.tag.specs.declared.Counts.{Counts}
use Rattle.tag.specs.Told.{told_made}
use Rattle.tag.specs.declared.TagAnswer.{TagAnswer}
use Rattle.tag.specs.Answer.{made_tag}
use Rattle.tag.specs.Tag.{tag_bytes}
use Rattle.tag.proofs.Answered.{making_is, slice_is}
use Rattle.message.specs.Answer.{message_number, tagged}
use Rattle.message.specs.Promise.{TagPromise}
use Rattle.message.proofs.Number.{tags_none}
use Rattle.hex_line.specs.Told.{told_line}
use Rattle.hex_line.specs.Line.{encoded}
use Rattle.hex_line.specs.Answer.{written_space}
use Rattle.hex_line.specs.Promise.{EncodePromise}
use Rattle.hex_line.proofs.BothWays.{encoded_length, encoded_append}
use Rattle.hex_line.proofs.Told.{encoded_before, encoded_all, encoded_refused}
use Rattle.writer.specs.Told.{told_write}
use Rattle.writer.specs.declared.Written.{Written}
use Rattle.writer.specs.Line.{write_number, frame_of, line_of, refused_write, done_write, write_answer}
use Rattle.writer.specs.Promise.{WritePromise}
use Rattle.writer.proofs.Number.{Fits, writes_told}

module _ (k : KeySet) (body space : List ℕ) where
  -- refused: the answer is the refusal, and the space as it was
  pub write_refused : (why : Refusal) → number_of why ≡ write_number k (length space) (length body)
      → WritePromise k body space (told_write (Err why)) space
  unfolding told_write refused_write write_answer written_space
  write_refused why e =
      let fails = ne_eqb (write_number k (length space) (length body)) 0 (λ z. not_done why (e ∙ z)) in
      (rw fails (ap refused_write e), rw fails)

  -- no fault: 0, the counts, and the line over the front of the space
  pub write_done : {r : Written} {after : List ℕ} → write_number k (length space) (length body) ≡ 0 → r ≡ done_write k body
      → after ≡ line_of k body ++ drop (length (line_of k body)) space → WritePromise k body space r after
  unfolding write_answer written_space
  write_done z e q =
      let holds = eq-eqb (write_number k (length space) (length body)) 0 z in
      (rw holds e, rw holds q)

  module _ (z : write_number k (length space) (length body) ≡ 0) where
    fits : Fits k (length body)
    fits = (writes_told k (length space) (length body) z).1

    room : 510 ≤ length space
    room = (writes_told k (length space) (length body) z).0

    -- the body's tag, made in a slice of its size
    module _
        (slice : List ℕ)
        {tag : List ℕ}
        {t : TagAnswer}
        (size : length slice ≡ tag_bytes k.bits)
        (p : TagPromise k body slice t tag)
      where
        none : message_number k (length body) (length slice) ≡ 0
        none =
            tags_none k (length body) (length slice)
            (record { set = fits.set; size = size; fits = omega (arith, fits.most); some = fits.some })

        tag_made : tag ≡ bytes (tagged k body).tag
        tag_made = p.1 ∙ slice_is _ (tagged k body) slice none

        tag_answer_is : t ≡ made_tag (tagged k body)
        tag_answer_is = p.0 ∙ making_is _ (tagged k body) none

        pub tag_refused : (why : Refusal) → t ≡ told_made (Err why) → ⊥
        unfolding told_made made_tag
        tag_refused why e = not_done why (ap (λ (a : TagAnswer). a.number) (sym e ∙ tag_answer_is))

    pub body_room : 2 * length body ≤ length space
    body_room = omega (arith, fits.most, room)

    -- the body is encoded at the front of the space, and its tag behind it
    module _
        (end : ℕ)
        (slice tag mid : List ℕ)
        (t : TagAnswer)
        (size : length slice ≡ tag_bytes k.bits)
        (same : length tag ≡ length slice)
        (made : TagPromise k body slice t tag)
        (p : EncodePromise body space (told_line (Ok end)) mid)
      where
        front_is : length (encoded body) ≡ end
        front_is = encoded_length body ∙ sym (encoded_all body space body_room end p)

        laid : mid ≡ encoded body ++ drop end space
        laid = encoded_before body space body_room p ∙ ap (λ (i : ℕ). encoded body ++ drop i space) front_is

        left : take (length mid - end) (drop end mid) ≡ drop end space
        left = lent_rest mid end ∙ ap (drop end) laid ∙ drop_at (encoded body) (drop end space) end front_is

        pub end_within : end ≤ length mid
        end_within = omega (arith, ap length laid, length-append (encoded body) (drop end space), front_is)

        tag_room : 2 * length tag ≤ length (take (length mid - end) (drop end mid))
        tag_room =
            omega (arith, ap length left, length-drop end space, encoded_length body, front_is, fits.most, room, same, size)

        pub more_refused : {x : List ℕ} (why : Refusal)
            → EncodePromise tag (take (length mid - end) (drop end mid)) (told_line (Err why)) x → ⊥
        more_refused why q = encoded_refused tag _ tag_room why q

        module _ {x : List ℕ} (more : ℕ) (q : EncodePromise tag (take (length mid - end) (drop end mid)) (told_line (Ok more)) x) where
          behind_is : length (encoded tag) ≡ more
          behind_is = encoded_length tag ∙ sym (encoded_all tag _ tag_room more q)

          line : encoded body ++ encoded tag ≡ line_of k body
          unfolding frame_of
          line = sym (encoded_append body tag) ∙ ap (λ (y : List ℕ). encoded (body ++ y)) (tag_made slice size made)

          long : end + more ≡ length (line_of k body)
          long = omega (arith, sym (length-append (encoded body) (encoded tag)) ∙ ap length line, front_is, behind_is)

          pub line_within : end + more ≤ 510
          line_within = omega (arith, encoded_length body, encoded_length tag, front_is, behind_is, fits.most, same, size)

          whole : take end mid ++ (x ++ drop (length mid - end) (drop end mid)) ≡ line_of k body ++ drop (length (line_of k body)) space
          whole =
              let tag-laid : x ≡ encoded tag ++ drop more (drop end space) =
              encoded_before tag _ tag_room q ∙ ap₂ (λ (i : ℕ) (y : List ℕ). encoded tag ++ drop i y) behind_is left in
              lent_back mid x end
              ∙ ap₂ (λ (y w : List ℕ). y ++ w) (ap (take end) laid ∙ take_at (encoded body) (drop end space) end front_is) tag-laid
              ∙ sym (append_assoc (encoded body) (encoded tag) (drop more (drop end space)))
              ∙ ap₂ (λ (y w : List ℕ). y ++ w) line (drop-drop more end space ∙ ap (λ (i : ℕ). drop i space) long)

          -- so the answer is that of a line written
          pub written_whole : (counts : Counts) → t ≡ told_made (Ok counts)
              → WritePromise k body space (told_write (Ok (record { counts = counts; length = end + more })))
              (take end mid ++ (x ++ drop (length mid - end) (drop end mid)))
          unfolding told_made told_write done_write made_tag
          written_whole counts e =
              let answer = sym e ∙ tag_answer_is slice size made in
              write_done z (λ i. record { number = 0; whole = (answer i).whole; four = (answer i).four; written = long i }) whole
