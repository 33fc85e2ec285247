-- Each call gives the number of its first fault, in the order in which they are judged.
-- Assumes nothing.
use Rattle.std.specs.Prelude.{◌≡◌, refl, Bool, true, false, not, ◌↔◌, List, [], ◌∷◌, ℕ, ◌+◌, ◌*◌, ◌<◌, eqb, ltb, length, get_or}
use Rattle.std.proofs.Common.{ap, subst, ◌∙◌, inl, inr, ⊎_elim, arith}
use Rattle.laws.specs.Agree.{both}
use Rattle.laws.specs.Fault.{unless, first_fault}
use Rattle.laws.specs.Pick.{pick}
use Rattle.block.specs.Bits.{bits}
use Rattle.pcmac.specs.Taggen.{Tagged}
use Rattle.pcmac.specs.Tagver.{accepted}
use Rattle.keys.specs.declared.KeyAnswer.{KeyAnswer}
use Rattle.keys.specs.declared.KeySet.{KeySet}
use Rattle.keys.specs.Answer.{key_number}
use Rattle.keys.specs.Promise.{KeyCallPromise}
use Rattle.keys.specs.SetNumber.{bits_number, set_number}
use Rattle.tag.specs.declared.TagAnswer.{TagAnswer}
use Rattle.tag.specs.Answer.{checked_tag, making_answer, checking_answer}
use Rattle.tag.specs.Fault.{size_number}
use Rattle.tag.specs.Tag.{tag_bytes}
use Rattle.tag.proofs.Answered.{checking_is, making_number, checking_number}
use Rattle.tag.proofs.Told.{verdict_by}
use Rattle.judge.specs.declared.Stream.{Stream}
use Rattle.judge.specs.Stream.{formed}
use Rattle.judge.specs.Fault.{stream_number, length_number, empty_number}
use Rattle.stream.specs.declared.Added.{Added}
use Rattle.stream.specs.Answer.{add_number, close_number}
use Rattle.stream.specs.Promise.{AddPromise}
use Rattle.message.specs.Answer.{message_number}
use Rattle.hex_line.specs.Answer.{decode_number, encode_number}
use Rattle.hex_line.specs.Line.{is_hex, decoded}
use Rattle.hex_line.proofs.Told.{number_by, number_is}
use Rattle.keyline.specs.KeyLine.{key_line_number}
use Rattle.keyline.specs.Promise.{ReadPromise}
use Rattle.frame.specs.declared.FrameAnswer.{FrameAnswer}
use Rattle.frame.specs.Frame.{frame_number, refused_frame}
use Rattle.frame.specs.Promise.{JudgePromise}
use Rattle.frame.proofs.Verdict.{faulty, checked, tag_accepted}
use Rattle.frame.proofs.Opened as opened
use Rattle.answer.specs.Promise.{OfLinePromise}
use Rattle.writer.specs.Line.{write_number}
use Rattle.writer.proofs.Told as written
use Rattle.demands.specs.Numbers.{
  when◌give◌otherwise◌,
  Done,
  Verdict,
  NoOrder,
  NoTagLength,
  KeysGive,
  AddGives,
  StreamGives,
  MessageGives,
  LineGives,
  KeyLineGives,
  FrameGives,
  WriteGives,
  Numbers,
}
use Rattle.demands.proofs.KeySet.{key_number_is}
use Rattle.demands.proofs.Lines as of-lines
use Rattle.demands.proofs.Sent.{send_empties}
use Rattle.demands.proofs.When.{By, by_fault, judged, at_last, two_first, tells_most, tells_some, tells_above}
use Rattle.demands.proofs.When.{tells_not_above, tells_equal, tells_itself, tells_both, tells_up_to}
use Rattle.stream.proofs.Number.{added_by, refused_by}

-- the lists of tests
module _ {last : ℕ → Type 0} {n : ℕ} where
  -- the key set's two, and then the others
  of_set : (k : KeySet) (ns : List ℕ) {rest : Type 0} → (By (first_fault ns) last n → rest) → By (first_fault (set_number k ∷ ns)) last n
      → (NoOrder k → n ≡ 1) × ((NoOrder k → ⊥) → (NoTagLength k → n ≡ 2) × ((NoTagLength k → ⊥) → rest))
  unfolding set_number bits_number
  of_set k ns others b =
      judged 0 _ (tells_up_to 5 k.order) (judged 1 ns (tells_up_to 128 k.bits) others)
      (subst (λ (f : ℕ). By f last n) (two_first _ _ ns) b)

  of_stream : (k : KeySet) (s : Stream) (l : List ℕ) → By (close_number k s (length l)) last n → StreamGives k s l last n
  unfolding close_number size_number stream_number empty_number
  of_stream k s l b =
      of_set k _
      (judged 2 _ (tells_equal (length l) (tag_bytes k.bits))
      (judged 3 _ (tells_itself (formed k.order s)) (judged 5 _ (tells_some s.total) at_last))) b

  of_message : (k : KeySet) (M l : List ℕ) → By (message_number k (length M) (length l)) last n → MessageGives k M l last n
  unfolding message_number size_number length_number empty_number
  of_message k M l b =
      of_set k _
      (judged 2 _ (tells_equal (length l) (tag_bytes k.bits))
      (judged 4 _ (tells_most (length M) 1048576) (judged 5 _ (tells_some (length M)) at_last))) b

  of_decoding : (line : List ℕ) (space : ℕ) → By (decode_number space line) last n
      → (space < 255 → n ≡ 3) × ((space < 255 → ⊥) → LineGives line last n)
  unfolding decode_number
  of_decoding line space b =
      judged 2 _ (tells_most 255 space)
      (judged 7 _ (tells_most (length line) 510) (judged 8 _ (tells_itself (is_hex line)) at_last)) b

module _ {n : ℕ} where
  of_encoding : (bytes : List ℕ) (space : ℕ) → By (encode_number space bytes) Done n
      → (space < 2 * length bytes → n ≡ 3) × ((space < 2 * length bytes → ⊥) → Done n)
  unfolding encode_number
  of_encoding bytes space b = judged 2 _ (tells_most (2 * length bytes) space) at_last b

  of_part : (k : KeySet) (s : Stream) (p : List ℕ) → By (add_number k s (length p)) Done n → AddGives k s p n
  unfolding add_number stream_number length_number
  of_part k s p b =
      of_set k _
      (judged 3 _ (tells_itself (formed k.order s)) (judged 4 _ (tells_most (s.total + length p) 1048576) at_last)) b

  of_frame : (k : KeySet) (f : List ℕ) → By (frame_number k (length f)) Verdict n → FrameGives k f n
  unfolding frame_number
  of_frame k f b =
      of_set k _
      (judged 7 _ (tells_both _ _ (tells_most (length f) 255) (tells_above (length f) (tag_bytes k.bits))) at_last) b

  of_writing : (k : KeySet) (body : List ℕ) (space : List ℕ) → By (write_number k (length space) (length body)) Done n
      → WriteGives k body space n
  unfolding write_number
  of_writing k body space b =
      of_set k _
      (judged 2 _ (tells_most 510 (length space))
      (judged 9 _ (tells_both _ _ (tells_some (length body)) (tells_most (length body + tag_bytes k.bits) 255)) at_last)) b

-- the key call's tests, in turn
in_turn : (s t u : Bool)
    → pick {A = ℕ} s 1 (pick t 2 (pick u 0 3)) ≡ first_fault (unless (not s) 1 ∷ unless (not t) 2 ∷ unless u 3 ∷ [])
unfolding first_fault unless
in_turn true t u = refl
in_turn false true u = refl
in_turn false false true = refl
in_turn false false false = refl

key_call_gives : (order bits : ℕ) (K L : List ℕ) (made : KeyAnswer) → KeyCallPromise order bits K L made
    → KeysGive order bits K L made.number
unfolding key_number
key_call_gives order bits K L made e =
    judged 0 _ (tells_not_above order 5)
    (judged 1 _ (tells_not_above bits 128)
    (judged 2 _ (tells_both _ _ (tells_equal (length K) 16) (tells_equal (length L) 16)) at_last))
    (by_fault
    (key_number_is order bits K L made e ∙ in_turn (ltb 5 order) (ltb 128 bits) (both (eqb (length K) 16) (eqb (length L) 16))))

-- the answers' numbers, by the first fault
making_by : {r : TagAnswer} (f : ℕ) (t : Tagged) → r ≡ making_answer f t → By f Done r.number
making_by f t e = by_fault (ap (λ (x : TagAnswer). x.number) e ∙ making_number f t)

-- and where the test decides P, the number is 0 exactly where P is so
pub decided : (b : Bool) {P : Type 0} {n : ℕ} → n ≡ pick b 0 7 → (b ≡ true → P) → (P → b ≡ true) → ((n ≡ 0) ↔ P) × Verdict n
decided true e f g = ((λ z. f refl, λ p. e), inl e)
decided false e f g = ((λ z. absurd (omega arith), λ p. absurd (let z : ◌≡◌ {A = ℕ} 0 1 = cc (g p) in omega arith)), inr e)

pub checking_by : {r : TagAnswer} (f p : ℕ) (l : List ℕ) (t : Tagged) → r ≡ checking_answer f p l t → By f Verdict r.number
unfolding checked_tag
checking_by f p l t e = record {
  some = λ h. ap (λ (x : TagAnswer). x.number) e ∙ checking_number f p l t h;
  none =
      λ z.
      verdict_by (accepted p (bits l) t.tag) (ap (λ (x : TagAnswer). x.number) (e ∙ checking_is f t p l z));
}

pub adding_by : (k : KeySet) (s : Stream) (p : List ℕ) (a : Added) → AddPromise k s p a → By (add_number k s (length p)) Done a.number
adding_by k s p a e = record { some = λ h. (refused_by k s p a e h).0; none = λ z. (added_by k s p a e z).0 }

judging_by : {r : FrameAnswer} (k : KeySet) (f : List ℕ) → JudgePromise k f r → By (frame_number k (length f)) Verdict r.number
judging_by k f e = record {
  some = λ h. opened.number_is k f e ∙ (faulty k f h).number;
  none = λ z. verdict_by (tag_accepted k f) (opened.number_is k f e ∙ (checked k f z).number);
}

-- a key line's order and tag length are judged as the key call's; that it says K and L of 16 bytes leaves no 3
abbrev SaidGive : List ℕ → ℕ → Type 0
SaidGive line = when 5 < get_or (decoded line) 0 0 give 1 otherwise when 128 < get_or (decoded line) 1 0 give 2 otherwise Done

reading_by : (line : List ℕ) (made : KeyAnswer) → ReadPromise line made → By (key_line_number line) (SaidGive line) made.number
reading_by line made e = record { some = of-lines.faulty_number line made e; none = said }
  where
    said : key_line_number line ≡ 0 → SaidGive line made.number
    said z =
        let h = of-lines.sized line z in
        let g = key_call_gives _ _ _ _ made (of-lines.read line made e z) in
        let k = of-lines.part_size line 2 (omega arith) h in
        let l = of-lines.part_size line 18 (omega arith) h in
        (g.0, λ a. ((g.1 a).0, λ b. ((g.1 a).1 b).1 (⊎_elim (λ w. w k) (λ w. w l))))

key_line_gives : (line : List ℕ) (made : KeyAnswer) → ReadPromise line made → KeyLineGives line made.number
unfolding key_line_number
key_line_gives line made e =
    judged 7 _ (tells_equal (length line) 68) (judged 8 _ (tells_itself (is_hex line)) at_last) (reading_by line made e)

-- a frame line
line_by : (k : KeySet) (line : List ℕ) (r : FrameAnswer) → OfLinePromise k line r
    → By (decode_number 255 line) (FrameGives k (decoded line)) r.number
unfolding refused_frame
line_by k line r e = record {
  some = λ h. ap (λ (x : FrameAnswer). x.number) (of-lines.line_faulty k line r e h);
  none = λ z. of_frame k (decoded line) (judging_by k (decoded line) (of-lines.line_read k line r e z));
}

pub numbers : Numbers
numbers = record {
  key_call_gives = key_call_gives;
  add_gives = λ k s p a e. of_part k s p (adding_by k s p a e);
  close_gives = λ k s l after r e. of_stream k s l (making_by _ _ e.0);
  check_gives = λ k s l r e. of_stream k s l (checking_by _ _ _ _ e);
  tag_gives = λ k M l after r e. of_message k M l (making_by _ _ e.0);
  verify_gives = λ k M l r e. of_message k M l (checking_by _ _ _ _ e);
  decode_gives = λ line space after r e. of_decoding line (length space) (by_fault (number_is line space e));
  encode_gives = λ bytes space after r e. of_encoding bytes (length space) (by_fault (number_by _ _ _ e));
  key_line_gives = key_line_gives;
  judge_gives = λ k f r e. of_frame k f (judging_by k f e);
  frame_line_gives = λ k line r e. (of_decoding line 255 (line_by k line r e)).1 (λ h. omega arith);
  send_empties = send_empties;
  write_gives = λ k body space after w e. of_writing k body space (by_fault (written.number_is k body space e));
}
