-- `writer::fault` meets its contract. One test after the other.
-- Assumes nothing.
use Rattle.std.proofs.Common.{refl, arith}
use Rattle.numbers.specs.Told.{number, number_of}
use Rattle.numbers.proofs.Number.{not_done, handed_on}
use Rattle.writer.proofs.Number.{write_set, write_cramped, write_empty, write_long, write_none}
use Rattle.writer.proofs.fault.Goals as goal

pub returns-in_err-set_fault : goal.returns-in_err-set_fault
unfolding number
returns-in_err-set_fault c =
    rw (handed_on c.from_residual.result c.from_residual.ensures.1) (write_set _ _ _ c.in_err-set_fault.ensures (not_done _))

pub returns-then-room-lt-LEAST_ROOM : goal.returns-then-room-lt-LEAST_ROOM
unfolding number number_of
returns-then-room-lt-LEAST_ROOM c = write_cramped _ _ _ c.in_ok-set_fault.ensures refl c.if-room-lt-LEAST_ROOM.true

pub returns-then-n-eq0 : goal.returns-then-n-eq0
unfolding number number_of
returns-then-n-eq0 c = write_empty _ _ _ c.in_ok-set_fault.ensures refl c.if-room-lt-LEAST_ROOM.false c.if-n-eq0.true

pub returns-then-n-size : goal.returns-then-n-size
unfolding number number_of
returns-then-n-size c =
    write_long _ _ _ c.in_ok-set_fault.ensures refl c.if-room-lt-LEAST_ROOM.false
    (omega (arith, c.if-n-eq0.false)) (omega (arith, c.size.ensures, c.if-n-size.true))

pub returns : goal.returns
unfolding number
returns c =
    write_none _ _ _ c.in_ok-set_fault.ensures refl c.if-room-lt-LEAST_ROOM.false
    (omega (arith, c.if-n-eq0.false)) (omega (arith, c.size.ensures, c.if-n-size.false))
