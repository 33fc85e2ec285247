-- What an outcome of writing a line tells its caller: which number is given, what 0 says, and what then stands in the space.
-- Assumes nothing.
use Rattle.std.proofs.Common.{◌≡◌, refl, ap, sym, ◌∙◌, Bool, true, false, List, ◌++◌, ℕ, ◌≤◌, eqb, length, take, drop, eq-eqb, ne_eqb}
use Rattle.std.proofs.Common.{eqb-true}
use Rattle.std.proofs.Math.Seq.{take-append_seam}
use Rattle.laws.specs.Pick.{pick}
use Rattle.keys.specs.declared.KeySet.{KeySet}
use Rattle.hex_line.specs.Answer.{written_space}
use Rattle.writer.specs.declared.Written.{Written}
use Rattle.writer.specs.Line.{least_room, write_number, line_of, refused_write, done_write, write_answer}
use Rattle.writer.specs.Promise.{WritePromise}
use Rattle.writer.proofs.Number.{Fits, writes_told}

-- a line that was written: the body fits, the answer is the definition's, and the line stands at the front of the space
pub record LineWritten (k : KeySet) (body space : List ℕ) (w : Written) (after : List ℕ) : Type 0 where
  pub room : least_room ≤ length space
  pub fits : Fits k (length body)
  pub answer : w ≡ done_write k body
  pub laid : after ≡ line_of k body ++ drop (length (line_of k body)) space
  pub line : take w.written after ≡ line_of k body

module _ (k : KeySet) (body space : List ℕ) {w : Written} {after : List ℕ} (p : WritePromise k body space w after) where
  abbrev fault : ℕ
  fault = write_number k (length space) (length body)

  -- the number that is given is that of the first fault
  pub number_is : w.number ≡ fault
  unfolding write_answer done_write refused_write
  number_is = ap (λ (x : Written). x.number) p.0 ∙ by (eqb fault 0) refl
    where
      by : (t : Bool) → eqb fault 0 ≡ t → (pick t (done_write k body) (refused_write fault)).number ≡ fault
      by true e = sym (eqb-true fault 0 e)
      by false e = refl

  pub is_written : w.number ≡ 0 → LineWritten k body space w after
  unfolding write_answer written_space done_write
  is_written z =
      let none = sym number_is ∙ z in
      let holds = eq-eqb fault 0 none in
      let told = writes_told k (length space) (length body) none in
      let answer = rw holds at p.0 in
      let laid = rw holds at p.1 in
      record {
        room = told.0;
        fits = told.1;
        answer = answer;
        laid = laid;
        line =
            ap (λ (n : ℕ). take n after) (ap (λ (x : Written). x.written) answer) ∙ ap (take (length (line_of k body))) laid
            ∙ take-append_seam (line_of k body) (drop (length (line_of k body)) space);
      }

  -- refused: every byte of the space as it was, and zeros
  pub is_refused : (w.number ≡ 0 → ⊥) → (after ≡ space) × (w.whole ≡ 0) × (w.four ≡ 0) × (w.written ≡ 0)
  unfolding write_answer written_space refused_write
  is_refused h =
      let fails = ne_eqb fault 0 (λ z. h (number_is ∙ z)) in
      let answer = rw fails at p.0 in (
        rw fails at p.1,
        ap (λ (x : Written). x.whole) answer,
        ap (λ (x : Written). x.four) answer,
        ap (λ (x : Written). x.written) answer,
      )
