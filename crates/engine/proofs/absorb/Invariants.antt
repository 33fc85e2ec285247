-- What each turn of `engine::absorb` keeps: the chain is that after the blocks so far, and the place is that of the next one.
-- Assumes nothing.
use Rattle.std.proofs.Common.{◌<◌}
use Rattle.engine.specs.Engine.{chain_step}
use Rattle.engine.proofs.Walking.{Walking}
use Rattle.engine.proofs.absorb.Given as goal

abbrev pub invariant-loop-b : goal.invariant-loop-b
invariant-loop-b l = (l.d < 256) × Walking l.d (chain_step l.round l.subkeys) l.done l.initial.r l.part l.r l.w l.b-index
