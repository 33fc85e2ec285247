-- The bytes that a well-formed stream holds: how many they are, alone and with a part behind them.
-- Assumes nothing.
use Rattle.std.proofs.Common.{◌≡◌, ap, ◌∙◌, List, ◌++◌, ℕ, ◌+◌, ◌*◌, ◌≤◌, arith, length, length-append, length-take-le}
use Rattle.chain.specs.Stream.{settled}
use Rattle.judge.specs.declared.Stream.{Stream}
use Rattle.judge.specs.Stream.{held_of}
use Rattle.judge.proofs.Formed.{Formed}
use Rattle.judge.proofs.Total.{total}

-- a stream that is well formed, and whose array of held bytes has sixteen, as its type says
pub record Fine (d : ℕ) (s : Stream) : Type 0 where
  pub form : Formed d s
  pub size : length s.held ≡ 16

-- what is held is at most a block, and with the blocks settled it makes the total
pub record Holds (s : Stream) : Type 0 where
  pub most : s.count ≤ 16
  pub sum : 16 * settled s.total + s.count ≡ s.total

pub formed_holds : (d : ℕ) (s : Stream) → Formed d s → Holds s
formed_holds d s f =
    let t = total s.total in
    record { most = omega (arith, f.most.count, t.held_most); sum = omega (arith, f.most.count, t.sum) }

-- the held bytes are as many as the count says
pub held_count : {d : ℕ} {s : Stream} → Fine d s → length (held_of s) ≡ s.count
held_count {d} {s} f = length-take-le s.count s.held (omega (arith, (formed_holds d s f.form).most, f.size))

-- and with a part behind them
pub joined_count : {d : ℕ} {s : Stream} → Fine d s → (p : List ℕ) → length (held_of s ++ p) ≡ s.count + length p
joined_count {d} {s} f p = length-append (held_of s) p ∙ ap (λ (n : ℕ). n + length p) (held_count f)
