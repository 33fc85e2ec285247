-- The key call, by the number of its first fault; and the key set that it answers for K and L: later calls take it, and under it
-- Algorithm 2.2 does what it does under K and L.
-- Assumes nothing.
use Rattle.std.specs.Prelude.{◌≡◌, refl, List, ℕ, length}
use Rattle.std.proofs.Common.{ap, ap₂, sym, ◌∙◌, ⊎_elim}
use Rattle.pcmac.specs.Limits.{resolved_order, resolved_tag}
use Rattle.pcmac.specs.Taggen.{TAGGEN}
use Rattle.keys.specs.Told.{no_set}
use Rattle.keys.specs.declared.KeyAnswer.{KeyAnswer}
use Rattle.keys.specs.Answer.{key_number, set_of, done_keys, refused_keys}
use Rattle.keys.specs.Promise.{KeyCallPromise}
use Rattle.keys.proofs.KeysIn.{key_tag}
use Rattle.keys.proofs.Number.{number_faultless, answer_done, answer_refused, order_within, tag_within}
use Rattle.keys.proofs.SetNumber.{Taken}
use Rattle.message.specs.Answer.{tagged}
use Rattle.demands.specs.Terms.{Made}
use Rattle.laws.proofs.Cases.{none_or_some}

-- what the key call answers
module _ (order bits : ℕ) (K L : List ℕ) (made : KeyAnswer) (e : KeyCallPromise order bits K L made) where
  pub key_number_is : made.number ≡ key_number order bits (length K) (length L)
  unfolding done_keys refused_keys
  key_number_is =
      ⊎_elim (λ z. ap (λ (x : KeyAnswer). x.number) (e ∙ sym (answer_done order bits K L z refl refl refl refl)) ∙ sym z)
      (λ h. ap (λ (x : KeyAnswer). x.number) (e ∙ sym (answer_refused order bits K L h)))
      (none_or_some (key_number order bits (length K) (length L)))

  pub refused_keys_is : (made.number ≡ 0 → ⊥) → (made.steps ≡ 0) × (made.keys ≡ no_set)
  unfolding refused_keys
  refused_keys_is h =
      let is = e ∙ sym (answer_refused order bits K L (λ z. h (key_number_is ∙ z))) in
      (ap (λ (x : KeyAnswer). x.steps) is, ap (λ (x : KeyAnswer). x.keys) is)

-- the key call's set, where it is done
module _ {order bits : ℕ} {K L : List ℕ} {made : KeyAnswer} (m : Made order bits K L made) where
  pub made_faultless : key_number order bits (length K) (length L) ≡ 0
  made_faultless = sym (key_number_is order bits K L made m.answered) ∙ m.done

  -- it has the order and the tag length that are meant
  pub made_meant : (made.keys.order ≡ resolved_order order) × (made.keys.bits ≡ resolved_tag bits)
  unfolding done_keys set_of
  made_meant =
      let is = m.answered ∙ sym (answer_done order bits K L made_faultless refl refl refl refl) in
      (ap (λ (x : KeyAnswer). x.keys.order) is, ap (λ (x : KeyAnswer). x.keys.bits) is)

  -- later calls take it
  pub made_taken : Taken made.keys
  made_taken =
      let f = number_faultless order bits (length K) (length L) made_faultless in
      record {
        order = rw made_meant.0 (order_within order f.order_fits);
        tag = rw made_meant.1 (tag_within bits f.tag_fits);
      }

  -- and the tag under it is TAGGEN's of K and L
  pub made_tag_is : (M : List ℕ) → (tagged made.keys M).tag ≡ TAGGEN made.keys.order made.keys.bits K L M
  unfolding tagged
  made_tag_is M =
      ap (λ (x : KeyAnswer). (tagged x.keys M).tag) m.answered ∙ key_tag order bits K L M made_faultless
      ∙ ap₂ (λ (d p : ℕ). TAGGEN d p K L M) (sym made_meant.0) (sym made_meant.1)
