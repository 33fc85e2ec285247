-- What number 0 tells of a call over a stream, and what it takes.
-- Assumes nothing.
use Rattle.std.proofs.Common.{◌≡◌, refl, ap, sym, ◌∙◌, false, List, ℕ, ◌+◌, ◌≤◌, arith, length, eq-eqb, ne_eqb, Ok, Err}
use Rattle.laws.proofs.Cases.{none_told}
use Rattle.laws.proofs.Fault.{unless_fails, fault_found, fault_pass, none_of_three, three_none, none_of_four}
use Rattle.chain.specs.Walk.{Step}
use Rattle.pcmac.specs.Limits.{message_limit}
use Rattle.pcmac.specs.Taggen.{step_of}
use Rattle.keys.specs.declared.KeySet.{KeySet}
use Rattle.keys.specs.KeysIn.{keys_in}
use Rattle.keys.specs.SetNumber.{set_number}
use Rattle.keys.proofs.SetNumber.{Taken, set_taken, taken_set}
use Rattle.engine.specs.Engine.{chain_step}
use Rattle.engine.proofs.Together.{engine_step}
use Rattle.tag.specs.Fault.{size_number}
use Rattle.tag.specs.Tag.{tag_bytes}
use Rattle.tag.proofs.Number.{size_fits, other_size}
use Rattle.judge.specs.declared.Stream.{Stream}
use Rattle.judge.specs.Stream.{formed}
use Rattle.judge.specs.Fault.{stream_number, length_number, empty_number}
use Rattle.judge.proofs.Formed.{Formed}
use Rattle.judge.proofs.Faultless.{stream_formed, formed_stream, length_fits, fits_length, empty_some}
use Rattle.numbers.specs.declared.Refusal.{Refusal}
use Rattle.numbers.specs.Told.{number}
use Rattle.numbers.proofs.Number.{not_done}
use Rattle.stream.specs.Told.{told_added}
use Rattle.stream.specs.declared.Added.{Added}
use Rattle.stream.specs.Promise.{AddPromise}
use Rattle.stream.specs.Answer.{add_number, added_to, add_answer, close_number}

-- a part of n bytes may be added
pub record Adds (k : KeySet) (s : Stream) (n : ℕ) : Type 0 where
  pub set : Taken k
  pub form : Formed k.order s
  pub fits : s.total + n ≤ message_limit

pub adds : (k : KeySet) (s : Stream) (n : ℕ) → add_number k s n ≡ 0 → Adds k s n
unfolding add_number
adds k s n e =
    let f = none_of_three (set_number k) (stream_number k.order s) (length_number (s.total + n)) e in
    record {
      set = set_taken k f.0;
      form = stream_formed k.order s f.1;
      fits = length_fits (s.total + n) f.2;
    }

pub adds_none : (k : KeySet) (s : Stream) (n : ℕ) → Adds k s n → add_number k s n ≡ 0
unfolding add_number
adds_none k s n a =
    three_none (set_number k) (stream_number k.order s) (length_number (s.total + n)) (sym (taken_set k a.set))
    (sym (formed_stream k.order s a.form)) (sym (fits_length (s.total + n) a.fits))

-- a stream that is not well formed gives 4, however long the part is
pub adds_unformed : (k : KeySet) (s : Stream) (n : ℕ) → 0 ≡ set_number k → formed k.order s ≡ false → 4 ≡ add_number k s n
unfolding add_number stream_number
adds_unformed k s n z h = fault_pass _ z refl (fault_found _ (unless_fails 4 h) (λ q. omega arith))

-- the two answers
module _ (k : KeySet) (s : Stream) (p : List ℕ) where
  pub add_refused : {r : ℕ} → r ≡ add_number k s (length p) → (r ≡ 0 → ⊥) → record { number = r; stream = s } ≡ add_answer k s p
  unfolding add_answer
  add_refused e h = rw (ne_eqb (add_number k s (length p)) 0 (λ z. h (e ∙ z))) (λ i. record { number = e i; stream = s })

  add_done : {t : Stream} → add_number k s (length p) ≡ 0 → t ≡ added_to k.order (step_of (keys_in k)) s p
      → record { number = 0; stream = t } ≡ add_answer k s p
  unfolding add_answer
  add_done e q = rw (eq-eqb (add_number k s (length p)) 0 e) (λ i. record { number = 0; stream = q i })

  -- by the engine's step
  add_walked : {t : Stream} → add_number k s (length p) ≡ 0 → t ≡ added_to k.order (chain_step k.round k.subkeys) s p
      → record { number = 0; stream = t } ≡ add_answer k s p
  add_walked e q = add_done e (q ∙ ap (λ (f : Step). added_to k.order f s p) (engine_step k))

  -- the same of what is handed back
  pub add_err : (why : Refusal) → number {A = Unit {0}} (Err why) ≡ add_number k s (length p) → told_added s (Err why) ≡ add_answer k s p
  unfolding number told_added
  add_err why e = add_refused e (not_done why)

  pub add_ok : {t : Stream} → add_number k s (length p) ≡ 0 → t ≡ added_to k.order (chain_step k.round k.subkeys) s p
      → told_added s (Ok t) ≡ add_answer k s p
  unfolding told_added
  add_ok e q = add_walked e q

-- an answer of adding by its number
module _ (k : KeySet) (s : Stream) (p : List ℕ) (a : Added) (e : AddPromise k s p a) where
  pub added_by : add_number k s (length p) ≡ 0 → (a.number ≡ 0) × (a.stream ≡ added_to k.order (step_of (keys_in k)) s p)
  added_by z =
      let q = e ∙ sym (add_done k s p z refl) in
      (ap (λ (x : Added). x.number) q, ap (λ (x : Added). x.stream) q)

  pub refused_by : (add_number k s (length p) ≡ 0 → ⊥) → (a.number ≡ add_number k s (length p)) × (a.stream ≡ s)
  refused_by z =
      let q = e ∙ sym (add_refused k s p refl z) in
      (ap (λ (x : Added). x.number) q, ap (λ (x : Added). x.stream) q)

  -- number 0 says that there is no fault
  pub add_number_is : a.number ≡ 0 → add_number k s (length p) ≡ 0
  add_number_is z = none_told (add_number k s (length p)) (λ h. (refused_by h).0) z

-- a stream may be closed into a slice of n bytes, or checked against one
pub record Closes (k : KeySet) (s : Stream) (n : ℕ) : Type 0 where
  pub set : Taken k
  pub size : n ≡ tag_bytes k.bits
  pub form : Formed k.order s
  pub some : 1 ≤ s.total

pub closes : (k : KeySet) (s : Stream) (n : ℕ) → close_number k s n ≡ 0 → Closes k s n
unfolding close_number
closes k s n e =
    let f = none_of_four (set_number k) (size_number k.bits n) (stream_number k.order s) (empty_number false s.total) e in
    record {
      set = set_taken k f.0;
      size = size_fits k.bits n f.1;
      form = stream_formed k.order s f.2;
      some = empty_some s.total f.3;
    }

-- a slice of another size gives 3, whatever the stream is
pub other_slice : (k : KeySet) (s : Stream) (n : ℕ) → 0 ≡ set_number k → (n ≡ tag_bytes k.bits → ⊥) → 3 ≡ close_number k s n
unfolding close_number
other_slice k s n z h = fault_pass _ z refl (fault_found _ (other_size k.bits n h) (λ q. omega arith))
