-- Where no order is said, the exported calls have the outcomes of order 2: the key set that they make is the same.
-- Assumes nothing.
use Rattle.keys.proofs.Number.{order_unsaid}
use Rattle.collierbud.specs.Promise.{tag_once, check_once, open_once}
use Rattle.collierbud.specs.Unsaid.{OrderUnsaid}

pub order_unsaid_holds : OrderUnsaid
order_unsaid_holds = record {
  tagged_unsaid =
      λ bits K L message space counts r r' after after' counted counted' p q.
      tag_once 2 bits K L message space counts r r' after after' counted counted' (rw (order_unsaid bits K L) at p) q;
  checked_unsaid =
      λ bits K L message received counts r r' after after' p q.
      check_once 2 bits K L message received counts r r' after after' (rw (order_unsaid bits K L) at p) q;
  opened_unsaid =
      λ bits K L frame counts r r' after after' p q.
      open_once 2 bits K L frame counts r r' after after' (rw (order_unsaid bits K L) at p) q;
}
