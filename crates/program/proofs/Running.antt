-- The loop, turn by turn: it goes on, or it stops there.
-- Assumes nothing.
use Rattle.std.specs.Prelude.{◌≡◌, Bool, List, ℕ, zero, suc, ◌-◌, ◌≤◌, ◌<◌, ℤ, length}
use Rattle.std.proofs.Common.{ap, inl, inr, arith, not-suc-le-zero}
use Rattle.session.specs.declared.State.{State}
use Rattle.session.specs.Session.{width}
use Rattle.program.specs.declared.Heard.{Heard}
use Rattle.program.specs.declared.Ran.{Ran}
use Rattle.program.specs.declared.Reason.TheVariants.{GoesOn}
use Rattle.program.specs.Hear.{HearPromise}
use Rattle.program.specs.Run.{Hearing, Runs}

module _
    (s : State)
    (got : ℤ)
    (interrupted : Bool)
    (input space : List ℕ)
    {h : Heard}
    {after : List ℕ}
    (room : width s.kind ≤ length space)
    (p : HearPromise s got interrupted input space h after)
  where
    abbrev turn : Hearing s
    turn = record {
      got = got;
      interrupted = interrupted;
      input = input;
      space = space;
      room = room;
      heard = h;
      after = after;
      permitted = p;
    }

    -- whatever it may hand back from the state after a turn, it may from the state before
    pub runs_more : (left : ℕ) (r : Ran) → 0 < left → h.reason ≡ GoesOn → Runs (left - 1) h.state r → Runs left s r
    runs_more zero r k e q = absurd (not-suc-le-zero k)
    runs_more (suc n) r k e q =
        let m : suc n - 1 ≡ n = omega arith in
        (turn, inl (e, rw m at q))

    -- and it may stop with the turn's reason
    pub runs_stop : (left : ℕ) → 0 < left → (h.reason ≡ GoesOn → ⊥)
        → Runs left s (record { reason = h.reason; reads = left - 1; state = h.state })
    runs_stop zero k e = absurd (not-suc-le-zero k)
    runs_stop (suc n) k e =
        let m : suc n - 1 ≡ n = omega arith in
        (turn, inr (e, ap (λ (x : ℕ). record { reason = h.reason; reads = x; state = h.state }) m))

-- with no read left
pub runs_none : (left : ℕ) (s : State) → left ≡ 0 → Runs left s (record { reason = GoesOn; reads = 0; state = s })
runs_none left s e = rw e
