-- SHORE AND SHIP. What the writer writes check accepts, with the same body; a line that check accepts is the one that the writer gives for
-- its body, so that no two of them have one body: under every key set, so under each that the key call answers. And what send writes check
-- answers line by line, a frame line with 0 and an empty one with 8: under the key set of every key line that is accepted.
-- Assumes nothing.
use Rattle.std.specs.Prelude.{◌≡◌, List, ◌∷◌, ◌++◌, ℕ, ◌≤◌, eqb, length, take}
use Rattle.std.specs.Borrow.{Bor}
use Rattle.laws.specs.Pick.{pick}
use Rattle.keys.specs.declared.KeySet.{KeySet}
use Rattle.keys.specs.declared.KeyAnswer.{KeyAnswer}
use Rattle.message.specs.Answer.{tagged}
use Rattle.hex_line.specs.Line.{decoded}
use Rattle.keyline.specs.Promise.{ReadPromise}
use Rattle.frame.specs.declared.FrameAnswer.{FrameAnswer}
use Rattle.frame.specs.Frame.{refused_frame}
use Rattle.frame.specs.Promise.{JudgePromise, OpenPromise}
use Rattle.lines.specs.Lines.{line_feed, lines}
use Rattle.answer.specs.Text.{text_of}
use Rattle.answer.specs.Promise.{OfLinePromise}
use Rattle.writer.specs.declared.Written.{Written}
use Rattle.writer.specs.Promise.{WritePromise}
use Rattle.outgoing.specs.Text.{sent_line}
use Rattle.session.specs.declared.State.{State}
use Rattle.session.specs.declared.Stepped.{Stepped}
use Rattle.session.specs.Output.{told_at, check_output, send_output}
use Rattle.session.specs.Session.{check_kind, send_kind, width}
use Rattle.session.specs.Promise.{BeginPromise, FinishPromise}
use Rattle.session.specs.Cut.{Call, Run, taken, wrote}
use Rattle.demands.specs.Terms.{Octets}

-- what check answers to the line that send writes at a body line: to an empty one 8 and zeros, to another 0, the counts of the body's tag
-- and the body's length
unfoldable pub arrival : KeySet → List ℕ → FrameAnswer
arrival keys line =
    pick (eqb (length (sent_line keys line)) 0) (refused_frame 8)
    (record {
      number = 0;
      whole = (tagged keys (decoded line)).whole;
      four = (tagged keys (decoded line)).four;
      body = length (decoded line);
    })

-- the text of that
unfoldable pub arrival_text : KeySet → List ℕ → List ℕ
arrival_text keys line = text_of (arrival keys line)

-- a program of a kind ran: by calls of its step from its start on, and finish, it took an input, however that was cut and whatever room
-- there was, and wrote a text
pub record Ran (kind : ℕ) (input text : List ℕ) : Type 0 where
  pub start : State
  pub end : State
  pub calls : List Call
  pub space : List ℕ
  pub last : Stepped
  pub after : List ℕ
  pub begun : BeginPromise kind start
  pub stepped : Run start calls end
  pub room : width kind ≤ length space
  pub finished : FinishPromise end space last after
  pub took : taken calls ≡ input
  pub told : text ≡ wrote calls ++ take last.written after

-- all of it
pub record ShoreAndShip : Type 0 where
  -- ROUND TRIP. The line that was written for a body is accepted, with the writer's counts and the body's length
  pub written_accepted : (keys : KeySet) (body space after : List ℕ) (w : Written) (v : FrameAnswer) → Octets body
      → WritePromise keys body space w after → w.number ≡ 0 → OfLinePromise keys (take w.written after) v
      → v ≡ record { number = 0; whole = w.whole; four = w.four; body = length body }
  -- and opening its frame hands back that body
  pub written_opened : (keys : KeySet) (body space after : List ℕ) (w : Written) (frame o : Bor (List ℕ)) → Octets body
      → WritePromise keys body space w after → w.number ≡ 0 → frame.now ≡ decoded (take w.written after) → OpenPromise keys frame o
      → o.now ≡ body
  -- CONVERSE. Where a line is accepted, the writer gives for its body just that line, with the verdict's counts: at every tag length
  pub accepted_written : (keys : KeySet) (line space after : List ℕ) (w : Written) (v : FrameAnswer) → OfLinePromise keys line v
      → v.number ≡ 0 → 510 ≤ length space → WritePromise keys (take v.body (decoded line)) space w after
      → (w.number ≡ 0) × (take w.written after ≡ line) × (w.whole ≡ v.whole) × (w.four ≡ v.four)
  -- ONE SPELLING. Lines that are accepted under one key set, and have the same body, are the same line
  pub one_line : (keys : KeySet) (line line' : List ℕ) (v v' : FrameAnswer) → OfLinePromise keys line v → OfLinePromise keys line' v'
      → v.number ≡ 0 → v'.number ≡ 0 → take v.body (decoded line) ≡ take v'.body (decoded line') → line ≡ line'
  -- and so are frames
  pub one_frame : (keys : KeySet) (f f' : List ℕ) (v v' : FrameAnswer) → Octets f → Octets f' → JudgePromise keys f v
      → JudgePromise keys f' v' → v.number ≡ 0 → v'.number ≡ 0 → take v.body f ≡ take v'.body f' → f ≡ f'
  -- THE TWO PROGRAMS. Whatever send is given behind a key line that is accepted: check, given that key line and then what send wrote,
  -- answers each line of it, in order. By their outputs
  pub sent_checked : (key rest : List ℕ) (made : KeyAnswer) → ReadPromise key made → made.number ≡ 0
      → check_output (key ++ (line_feed ∷ send_output (key ++ (line_feed ∷ rest)))) ≡ told_at arrival_text made.keys (lines rest)
  -- and by what they wrote, of every run of both
  pub ran_sent_checked : (key rest sent checked : List ℕ) (made : KeyAnswer) → ReadPromise key made → made.number ≡ 0
      → Ran send_kind (key ++ (line_feed ∷ rest)) sent → Ran check_kind (key ++ (line_feed ∷ sent)) checked
      → checked ≡ told_at arrival_text made.keys (lines rest)
