-- Demand 1 holds.
-- Assumes nothing.
use Rattle.std.specs.Prelude.{◌≡◌, refl, true, List, [], ◌++◌, ℕ, ◌+◌, ◌≤◌, length, drop}
use Rattle.std.proofs.Common.{◌∙◌, arith}
use Rattle.pcmac.specs.Taggen.{step_of}
use Rattle.keys.specs.declared.KeySet.{KeySet}
use Rattle.keys.specs.Answer.{key_answer}
use Rattle.keys.specs.KeysIn.{keys_in}
use Rattle.keys.specs.SetNumber.{set_number}
use Rattle.keys.proofs.SetNumber.{set_taken}
use Rattle.tag.proofs.Told.{making_leaves, checking_leaves}
use Rattle.judge.specs.declared.Stream.{Stream}
use Rattle.judge.specs.Stream.{started, formed}
use Rattle.judge.proofs.Formed.{is_formed}
use Rattle.stream.specs.declared.Added.{Added}
use Rattle.stream.specs.Answer.{add_answer, close_answer, close_slice, check_answer}
use Rattle.stream.specs.Promise.{AddPromise}
use Rattle.stream.proofs.Number.{adds_none, added_by, refused_by}
use Rattle.message.specs.Answer.{tag_answer, tag_slice, verdict}
use Rattle.hex_line.specs.declared.LineAnswer.{LineAnswer}
use Rattle.hex_line.specs.Line.{decoded, encoded}
use Rattle.hex_line.specs.Answer.{decode_number, encode_number, written_answer, written_space}
use Rattle.hex_line.specs.Promise.{Writes}
use Rattle.hex_line.proofs.Told.{unwritten}
use Rattle.keyline.specs.KeyLine.{key_line_answer}
use Rattle.frame.specs.Frame.{frame_answer}
use Rattle.lines.specs.Reader.{closing}
use Rattle.lines.specs.Tell.{told_in, TellsIn}
use Rattle.answer.specs.Line.{line_answer}
use Rattle.answer.specs.Text.{text_length, text_of}
use Rattle.writer.specs.Line.{write_answer, write_space}
use Rattle.writer.proofs.Told.{is_refused}
use Rattle.outgoing.specs.Text.{most_text, sent_text}
use Rattle.session.specs.declared.State.{State}
use Rattle.session.specs.declared.Stepped.{Stepped}
use Rattle.session.specs.Session.{width, begun, reader_of, state_of, over}
use Rattle.session.specs.Promise.{taken_of, said_over, step_answer, StepPromise}
use Rattle.demands.specs.One.{Answers, Refusals, RefusalsOfLinesAndFrames, Demand1}
use Rattle.demands.proofs.Cutting.{added_none}
use Rattle.demands.proofs.Frames as of-frames
use Rattle.demands.proofs.KeySet.{refused_keys_is}
use Rattle.demands.proofs.Lines as of-lines
use Rattle.demands.proofs.Numbers.{numbers}

nothing_added : (k : KeySet) (s : Stream) (a : Added) → set_number k ≡ 0 → formed k.order s ≡ true → length s.held ≡ 16
    → AddPromise k s [] a → (a.number ≡ 0) × (a.stream ≡ s)
nothing_added k s a set form size e =
    let f = is_formed k.order s form in
    let total-most : s.total + 0 ≤ 1048576 = omega (arith, f.most.size) in
    let none = adds_none k s 0 (record { set = set_taken k set; form = f; fits = total-most }) in
    let is = added_by k s [] a e none in
    (is.0, is.1 ∙ added_none (record { form = f; size = size }) (step_of (keys_in k)))

stepped : (s : State) (part space : List ℕ) → (r : Stepped) × (after : List ℕ) × StepPromise s part space r after
stepped s part space =
    let n = taken_of s part (length space) in
    let said = said_over s part n in
    (step_answer s part n, said ++ drop (length said) space, (refl, refl))

-- what a call that writes in a space answers, and what the space then holds
wrote : (space : List ℕ) (n : ℕ) (x : List ℕ) → (r : LineAnswer) × (after : List ℕ) × Writes n x space r after
wrote space n x = (written_answer n x, written_space space n x, (refl, refl))

-- what one that tells a text in a space does
told : (most : ℕ) (text space : List ℕ) → (r : ℕ) × (after : List ℕ) × TellsIn most text space r after
told most text space =
    let said = told_in most (length space) text in
    (length said, said ++ drop (length said) space, (refl, refl))

answers : Answers
answers = record {
  makes_keys = λ order bits K L. (key_answer order bits K L, refl);
  starts = (started, refl);
  adds = λ k s p. (add_answer k s p, refl);
  closes = λ k s l. (close_answer k s (length l), close_slice k s l, (refl, refl));
  checks = λ k s l. (check_answer k s l, refl);
  tags = λ k M l. (tag_answer k M (length l), tag_slice k M l, (refl, refl));
  verifies = λ k M l. (verdict k M l, refl);
  decodes = λ line space. wrote space (decode_number (length space) line) (decoded line);
  encodes = λ bytes space. wrote space (encode_number (length space) bytes) (encoded bytes);
  reads = λ line. (key_line_answer line, refl);
  judges = λ k f. (frame_answer k f, refl);
  opens = of-frames.opens;
  opens_or = of-frames.opens_or;
  opens_or_keeps = of-frames.opens_or;
  judges_line = λ k line. (line_answer k line, refl);
  writes = λ k body space. (write_answer k body (length space), write_space k body space, (refl, refl));
  tells = λ a space. told text_length (text_of a) space;
  sends = λ k line space. told most_text (sent_text k line) space;
  has_width = λ kind. (width kind, refl);
  begins = λ kind. (state_of kind (record { session = begun; line = [] }), refl);
  steps = λ s part space. stepped s part space;
  finishes = λ s space. stepped s (closing (reader_of s)) space;
  is_over_is = λ s. (over s, refl);
}

refusals : Refusals
refusals = record {
  keys_refused = refused_keys_is;
  add_refused = λ k s p a e h. (refused_by k s p a e (λ z. h (added_by k s p a e z).0)).1;
  close_refused = λ k s l after r e h. making_leaves _ _ l after r e.0 e.1 h;
  tag_refused = λ k M l after r e h. making_leaves _ _ l after r e.0 e.1 h;
  check_refused = λ k s l r e a b. checking_leaves _ k.bits l _ r e a b;
  verify_refused = λ k M l r e a b. checking_leaves _ k.bits l _ r e a b;
}

refusals_of_lines_and_frames : RefusalsOfLinesAndFrames
refusals_of_lines_and_frames = record {
  decode_refused = λ line space after r e h. unwritten _ _ space e h;
  encode_refused = λ bytes space after r e h. unwritten _ _ space e h;
  write_refused = λ k body space after w e h. is_refused k body space e h;
  key_line_refused = of-lines.key_line_refused;
  judge_refused = of-frames.judge_refused;
  frame_line_refused = of-frames.frame_line_refused;
  judge_differs = of-frames.judge_differs;
  open_refused = of-frames.open_refused;
  open_or_refused = of-frames.open_or_refused;
  open_or_keep_refused = of-frames.open_or_refused;
}

-- DEMAND 1
pub demand_1 : Demand1
demand_1 = record {
  answers = answers;
  numbers = numbers;
  refusals = refusals;
  refusals_of_lines_and_frames = refusals_of_lines_and_frames;
  add_nothing = nothing_added;
}
