-- Where no order is said, order 2 is meant: by the key call, a key line, check and send.
-- Assumes nothing.
use Rattle.std.specs.Prelude.{◌≡◌, refl, List, [], ◌∷◌, ℕ, zero, suc, eqb}
use Rattle.std.proofs.Common.{ap, ap₂, sym, ◌∙◌, arith}
use Rattle.laws.specs.Pick.{pick}
use Rattle.keys.specs.declared.KeySet.{KeySet}
use Rattle.keys.specs.declared.KeyAnswer.{KeyAnswer}
use Rattle.keys.specs.Answer.{refused_keys}
use Rattle.keys.proofs.KeysIn.{key_steps}
use Rattle.keys.proofs.Number.{order_unsaid}
use Rattle.pcmac.specs.Limits.{resolved}
use Rattle.hex_line.specs.Digit.{digit_of, read_number, read_value}
use Rattle.hex_line.specs.Line.{all_digits, is_hex, decoded}
use Rattle.hex_line.proofs.BothWays.{decoded_first}
use Rattle.keyline.specs.KeyLine.{key_line_number, said_keys, key_line_answer}
use Rattle.lines.specs.Lines.{begins, lines}
use Rattle.session.specs.Output.{under_keys, lines_told, output, check_output, send_output, refusal_text, verdict_text, no_text}
use Rattle.session.specs.Cut.{InParts}
use Rattle.session.proofs.Cutting.{check_in_parts, send_in_parts}
use Rattle.outgoing.specs.Text.{sent_text}
use Rattle.demands.specs.Terms.{Made}
use Rattle.demands.specs.Unsaid.{from_zero, from_two, OrderUnsaid}
use Rattle.demands.specs.Shore.{Ran}
use Rattle.demands.proofs.KeySet.{made_faultless}
use Rattle.demands.proofs.Shore.{ran_output}

-- a key line has the same faults, and says the same
module _ (rest : List ℕ) where
  number_unsaid : key_line_number (from_zero rest) ≡ key_line_number (from_two rest)
  unfolding key_line_number is_hex all_digits digit_of read_number
  number_unsaid = refl

  said_unsaid : said_keys (decoded (from_zero rest)) ≡ said_keys (decoded (from_two rest))
  unfolding said_keys digit_of read_value
  said_unsaid =
      ap said_keys (decoded_first 0x30 0x30 rest) ∙ order_unsaid _ _ _ ∙ sym (ap said_keys (decoded_first 0x30 0x32 rest))

  answer_unsaid : key_line_answer (from_zero rest) ≡ key_line_answer (from_two rest)
  unfolding key_line_answer
  answer_unsaid = ap₂ (λ (n : ℕ) (said : KeyAnswer). pick (eqb n 0) said (refused_keys n)) number_unsaid said_unsaid

-- a program, whatever it tells
module _ (refusal : ℕ → List ℕ) (tell : KeySet → List ℕ → List ℕ) where
  told_unsaid : (l : List (List ℕ))
      → lines_told refusal tell (begins 0x30 (begins 0x30 l)) ≡ lines_told refusal tell (begins 0x30 (begins 0x32 l))
  unfolding lines_told begins
  told_unsaid [] = ap (λ (k : KeyAnswer). under_keys refusal tell k []) (answer_unsaid [])
  told_unsaid (l ∷ ls) = ap (λ (k : KeyAnswer). under_keys refusal tell k ls) (answer_unsaid l)

  output_unsaid : (rest : List ℕ) → output refusal tell (from_zero rest) ≡ output refusal tell (from_two rest)
  unfolding output lines
  output_unsaid rest = told_unsaid (lines rest)

-- what was written
alike : {kind : ℕ} {out : List ℕ → List ℕ} {rest told told' : List ℕ} → InParts kind out → out (from_zero rest) ≡ out (from_two rest)
    → Ran kind (from_zero rest) told → Ran kind (from_two rest) told' → told ≡ told'
alike parts e a b = ran_output parts a ∙ e ∙ sym (ran_output parts b)

-- check is every kind but send's
ran_unsaid : (kind : ℕ) (rest told told' : List ℕ) → Ran kind (from_zero rest) told → Ran kind (from_two rest) told' → told ≡ told'
unfolding check_output send_output
ran_unsaid zero rest told told' = alike (check_in_parts 0 (λ z. omega arith)) (output_unsaid refusal_text verdict_text rest)
ran_unsaid (suc zero) rest told told' = alike send_in_parts (output_unsaid no_text sent_text rest)
ran_unsaid (suc (suc n)) rest told told' =
    alike (check_in_parts (suc (suc n)) (λ z. omega arith)) (output_unsaid refusal_text verdict_text rest)

unsaid_steps : (bits : ℕ) (K L : List ℕ) (made : KeyAnswer) → Made 0 bits K L made → made.steps ≡ 7
unfolding resolved
unsaid_steps bits K L made m = ap (λ (a : KeyAnswer). a.steps) m.answered ∙ key_steps 0 bits K L (made_faultless m)

pub order_unsaid_holds : OrderUnsaid
unfolding check_output send_output
order_unsaid_holds = record {
  call_unsaid = λ bits K L made made' p q. p ∙ order_unsaid bits K L ∙ sym q;
  unsaid_steps = unsaid_steps;
  line_unsaid = λ rest made made' p q. p ∙ answer_unsaid rest ∙ sym q;
  check_unsaid = output_unsaid refusal_text verdict_text;
  send_unsaid = output_unsaid no_text sent_text;
  ran_unsaid = ran_unsaid;
}
