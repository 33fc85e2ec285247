-- A message in parts, from the start: what the stream is then, and that closing it is the one call on the message.
-- Assumes nothing.
use Rattle.std.specs.Prelude.{◌≡◌, refl, false, List, [], ◌∷◌, ◌++◌, ℕ, ◌+◌, ◌≤◌, length}
use Rattle.std.proofs.Common.{ap, ap₂, sym, ◌∙◌, ⊎_elim, zero-add, arith, length-append}
use Rattle.laws.specs.Joined.{joined}
use Rattle.laws.specs.Up.{up}
use Rattle.laws.proofs.Fault.{fault_found}
use Rattle.laws.proofs.Up.{up_none}
use Rattle.block.specs.Block.{blocks}
use Rattle.block.proofs.Sixteen.{sixteen_front}
use Rattle.chain.specs.Stream.{start, settled, add}
use Rattle.chain.proofs.Cut.{held_most}
use Rattle.pcmac.specs.Limits.{message_limit}
use Rattle.pcmac.specs.Taggen.{step_of, sealed}
use Rattle.pcmac.proofs.Taggen.{taggen_stream}
use Rattle.keys.specs.declared.KeySet.{KeySet}
use Rattle.keys.specs.KeysIn.{keys_in}
use Rattle.keys.specs.SetNumber.{set_number}
use Rattle.keys.proofs.SetNumber.{Taken, set_taken}
use Rattle.tag.specs.Fault.{size_number}
use Rattle.judge.specs.declared.Stream.{Stream}
use Rattle.judge.specs.Stream.{started, view_of, stream_of}
use Rattle.judge.specs.Fault.{stream_number, length_number, empty_number}
use Rattle.judge.proofs.Faultless.{formed_stream, fits_length}
use Rattle.judge.proofs.Held.{Fine}
use Rattle.judge.proofs.Total.{held_none}
use Rattle.judge.proofs.Zeros.{are_zeros}
use Rattle.stream.specs.Answer.{added_to, close_number, closed}
use Rattle.stream.proofs.Number.{adds_none, added_by}
use Rattle.stream.proofs.Adding.{added_total}
use Rattle.message.specs.Answer.{message_number, tagged}
use Rattle.demands.specs.Terms.{AddedAll}
use Rattle.laws.proofs.Cases.{none_or_some}
use Rattle.demands.proofs.Cutting.{added_again, added_none, fine_added}

-- the stream of no bytes is well formed for every order
pub fine_start : (d : ℕ) → Fine d started
unfolding blocks
fine_start d = record {
  form = record {
    most = record {
      size = omega arith;
      count = held_none 0 refl;
      rest = are_zeros 16;
      wholes = sym (up_none d);
      fours = omega (arith, up_none d);
    };
    fresh = λ h. are_zeros 16;
  };
  size = refl;
}

-- parts that stay within the limit, added to a well-formed stream under a key set that is taken: the message that they make, added
pub parts_added : (k : KeySet) (s : Stream) (ps : List (List ℕ)) (t : Stream) → Taken k → Fine k.order s
    → s.total + length (joined ps) ≤ message_limit → AddedAll k s ps t
    → t ≡ added_to k.order (step_of (keys_in k)) s (joined ps)
unfolding joined
parts_added k s [] t set fine fits e = sym e ∙ sym (added_none fine (step_of (keys_in k)))
parts_added k s (p ∷ ps) t set fine fits e =
    let f = step_of (keys_in k) in
    let n : length (p ++ joined ps) ≡ length p + length (joined ps) = length-append p (joined ps) in
    let room : s.total + length p ≤ message_limit = omega arith in
    let none = adds_none k s (length p) (record { set = set; form = fine.form; fits = room }) in
    let is = (added_by k s p e.0 e.1 none).1 in
    let rest : AddedAll k (added_to k.order f s p) ps t = rw is at e.2 in
    let within : (added_to k.order f s p).total + length (joined ps) ≤ message_limit = omega (arith, added_total k.order f s p) in
    parts_added k (added_to k.order f s p) ps t set (fine_added fine f p room) within rest ∙ added_again fine f p (joined ps)

-- of a message from the start: closed, it has the tag and the counts of Algorithm 2.2
pub closed_start : (k : KeySet) (M : List ℕ) → closed k (added_to k.order (step_of (keys_in k)) started M) ≡ tagged k M
unfolding closed tagged added_to stream_of view_of settled blocks
closed_start k M =
    let d = k.order in
    let t = add d (step_of (keys_in k)) start M in
    let n : up (0 + length M) 16 ≡ up (length M) 16 = ap (λ (x : ℕ). up x 16) (zero-add (length M)) in
    let h = sixteen_front t.held (held_most d (step_of (keys_in k)) start M) in
    ap₂ (λ (m : ℕ) (last : List ℕ). sealed (keys_in k) k.bits m t.chain last) n h
    ∙ sym (taggen_stream (keys_in k) d k.bits M)

-- closing a stream and the one call on a message, into a slice of n bytes, alike: the same number, and the same tag where it is 0
pub record Alike (k : KeySet) (t : Stream) (M : List ℕ) (n : ℕ) : Type 0 where
  pub number : close_number k t n ≡ message_number k (length M) n
  pub tag : close_number k t n ≡ 0 → closed k t ≡ tagged k M

-- under a key set that is taken
taken_alike : (k : KeySet) (M : List ℕ) (n : ℕ) → Taken k → length M ≤ message_limit
    → Alike k (added_to k.order (step_of (keys_in k)) started M) M n
unfolding close_number message_number
taken_alike k M n set fits =
    let f = step_of (keys_in k) in
    let t = added_to k.order f started M in
    let size : t.total ≡ length M = added_total k.order f started M ∙ zero-add (length M) in
    let room : 0 + length M ≤ message_limit = rw zero-add fits in
    let formed = formed_stream k.order t (fine_added (fine_start k.order) f M room).form in
    record {
      number = rw (← formed, ← fits_length (length M) fits, size);
      tag = λ z. closed_start k M;
    }

-- under one that is refused both calls give its number
refused_alike : (k : KeySet) (t : Stream) (M : List ℕ) (n : ℕ) → (set_number k ≡ 0 → ⊥) → Alike k t M n
unfolding close_number message_number
refused_alike k t M n h =
    let closes = stream_number k.order t ∷ empty_number false t.total ∷ [] in
    let tags = length_number (length M) ∷ empty_number false (length M) ∷ [] in
    let a = fault_found (size_number k.bits n ∷ closes) refl h in
    let b = fault_found (size_number k.bits n ∷ tags) refl h in
    record { number = sym a ∙ b; tag = λ z. absurd (h (a ∙ z)) }

-- start, any parts that stay within the limit, and then closing: the one call on the message that they make
pub parts_alike : (k : KeySet) (ps : List (List ℕ)) (s t : Stream) (n : ℕ) → s ≡ started → length (joined ps) ≤ message_limit
    → AddedAll k s ps t → Alike k t (joined ps) n
parts_alike k ps s t n e fits all = ⊎_elim taken (refused_alike k t (joined ps) n) (none_or_some (set_number k))
  where
    taken : set_number k ≡ 0 → Alike k t (joined ps) n
    taken z =
        let set = set_taken k z in
        let all' : AddedAll k started ps t = rw e at all in
        let room : 0 + length (joined ps) ≤ message_limit = rw zero-add fits in
        let is = parts_added k started ps t set (fine_start k.order) room all' in
        rw is (taken_alike k (joined ps) n set fits)
