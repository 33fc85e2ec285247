-- The loop of a program of lines: its turns, one after the other, each what was made of a read. No contract can see what a read brings, so
-- what is promised of the loop is that there are turns, each of them permitted, by which it ends as it does. That rules out that it stops
-- with reads left where more may be read, that it hands back as many reads as it was given, that it was another program (its kind stands
-- in the state at the end), and that there was no room for a last text. It does not rule out another number of
-- reads left, a loop that reads something else than standard input, or one that says that the input has ended where it has not, as there
-- might have been such reads. (The loop that is here is shown to hand on each turn's state and reason by its proof; and runs show what it
-- reads.)
-- Assumes nothing.
use Rattle.std.specs.Prelude.{◌≡◌, Bool, ◌⊎◌, List, [], ◌∷◌, ℕ, zero, suc, ◌≤◌, ℤ, length, get_or, drop}
use Rattle.std.proofs.Common.{ap, sym, ◌∙◌, inl, inr}
use Rattle.session.specs.declared.State.{State}
use Rattle.session.specs.Session.{width}
use Rattle.program.specs.declared.Heard.{Heard}
use Rattle.program.specs.declared.Ran.{Ran}
use Rattle.program.specs.declared.Reason.TheVariants.{GoesOn}
use Rattle.program.specs.Hear.{HearPromise}

-- a turn from a state on: what a read gave and brought, a space with room for a last text, and what was made of it
pub record Hearing (s : State) : Type 0 where
  pub got : ℤ
  pub interrupted : Bool
  pub input : List ℕ
  pub space : List ℕ
  pub room : width s.kind ≤ length space
  pub heard : Heard
  pub after : List ℕ
  pub permitted : HearPromise s got interrupted input space heard after

-- after a turn that was made so much of, with n reads left: it goes on, or ends with that reason
abbrev pub Ends : ℕ → Heard → Type 0 → Ran → Type 0
Ends n heard on r =
    ((heard.reason ≡ GoesOn) × on)
    ⊎ ((heard.reason ≡ GoesOn → ⊥) × (r ≡ record { reason = heard.reason; reads = n; state = heard.state }))

-- the loop from a state on, with so many reads left: with none it ends, and says that it would go on; otherwise one turn is taken, and it
-- goes on from there, or ends
abbrev pub Runs : ℕ → State → Ran → Type 0
Runs zero s r = r ≡ record { reason = GoesOn; reads = 0; state = s }
Runs (suc n) s r = (t : Hearing s) × Ends n t.heard (Runs n t.heard.state r) r

-- what follows a turn
abbrev Follows : {s : State} → ℕ → Hearing s → Ran → Type 0
Follows n t r = Ends n t.heard (Runs n t.heard.state r) r

-- what was made of the reads behind it
abbrev behind : {s : State} (n : ℕ) (t : Hearing s) (r : Ran) → (Runs n t.heard.state r → List Heard) → Follows n t r → List Heard
behind n t r rest (inl f) = rest f.1
behind n t r rest (inr g) = []

-- what was made of the reads, one after the other
unfoldable pub heard_in : (n : ℕ) (s : State) (r : Ran) → Runs n s r → List Heard
heard_in zero s r p = []
heard_in (suc n) s r p = p.0.heard ∷ behind n p.0 r (λ f. heard_in n p.0.heard.state r f) p.1

-- it decides how the loop ended
pub heard_once : (n : ℕ) (s s' : State) (r r' : Ran) → s ≡ s' → (p : Runs n s r) (q : Runs n s' r')
    → heard_in n s r p ≡ heard_in n s' r' q → r ≡ r'
unfolding heard_in
heard_once zero s s' r r' a p q e = p ∙ ap (λ (x : State). record { reason = GoesOn; reads = 0; state = x }) a ∙ sym q
heard_once (suc n) s s' r r' a p q e =
    let h : p.0.heard ≡ q.0.heard = ap (λ (l : List Heard). get_or l 0 p.0.heard) e in
    by p.0 q.0
    (λ f g. heard_once n p.0.heard.state q.0.heard.state r r' (ap (λ (x : Heard). x.state) h) f g) p.1 q.1 h
    (ap (λ (l : List Heard). drop 1 l) e)
  where
    by : (t : Hearing s) (t' : Hearing s')
        → ((f : Runs n t.heard.state r) (g : Runs n t'.heard.state r')
        → heard_in n t.heard.state r f ≡ heard_in n t'.heard.state r' g → r ≡ r')
        → (c : Follows n t r) (d : Follows n t' r') → t.heard ≡ t'.heard
        → behind n t r (λ f. heard_in n t.heard.state r f) c ≡ behind n t' r' (λ g. heard_in n t'.heard.state r' g) d → r ≡ r'
    by t t' i (inl f) (inl g) h e = i f.1 g.1 e
    by t t' i (inl f) (inr g) h e = absurd (g.0 (sym (ap (λ (x : Heard). x.reason) h) ∙ f.0))
    by t t' i (inr f) (inl g) h e = absurd (f.0 (ap (λ (x : Heard). x.reason) h ∙ g.0))
    by t t' i (inr f) (inr g) h e =
        f.1 ∙ ap (λ (x : Heard). record { reason = x.reason; reads = n; state = x.state }) h ∙ sym g.1
