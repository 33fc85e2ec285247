-- When send answers a body line by an empty line, in numbers.
-- Assumes nothing.
use Rattle.std.specs.Prelude.{◌≡◌, refl, Bool, true, false, ◌⊎◌, ◌↔◌, List, ℕ, ◌+◌, ◌≤◌, ◌<◌, length}
use Rattle.std.proofs.Common.{ap, sym, ◌∙◌, inl, inr, ⊎_elim, arith}
use Rattle.laws.proofs.Cases.{below_or_not, none_or_some}
use Rattle.laws.proofs.Fault.{unless_holds}
use Rattle.laws.proofs.UpTo.{Within}
use Rattle.keys.specs.declared.KeySet.{KeySet}
use Rattle.keys.proofs.SetNumber.{Taken}
use Rattle.tag.specs.Tag.{tag_bytes}
use Rattle.hex_line.specs.Line.{is_hex, decoded}
use Rattle.hex_line.proofs.Outcome.{number_rest}
use Rattle.hex_line.proofs.Told.{decodes}
use Rattle.lines.proofs.Telling.{tells_text}
use Rattle.writer.proofs.Number.{Fits}
use Rattle.writer.proofs.Framed.{line_some}
use Rattle.outgoing.specs.Text.{is_sent, sent_line, sent_text}
use Rattle.outgoing.specs.Promise.{TellPromise}
use Rattle.outgoing.proofs.Sent.{sent_told, sent_line_is, unsent_line, text_length_is}
use Rattle.demands.specs.Numbers.{NotSent}

-- a number that is not none is some
some : (n : ℕ) → (n ≡ 0 → ⊥) → 1 ≤ n
some n h = ⊎_elim (λ l. absurd (h (omega arith))) (λ l. l) (below_or_not n 1)

-- a number is none, beyond a bound, or within it
within_or_not : (most n : ℕ) → ((n ≡ 0) ⊎ (most < n)) ⊎ Within most n
within_or_not most n =
    ⊎_elim (λ z. inl (inl z))
    (λ h. ⊎_elim (λ l. inl (inr l)) (λ l. inr (record { low = some n h; high = l })) (below_or_not most n)) (none_or_some n)

true_or_false : (b : Bool) → (b ≡ false) ⊎ (b ≡ true)
true_or_false true = inr refl
true_or_false false = inl refl

module _ (k : KeySet) (line : List ℕ) where
  -- a line that decodes to a body that fits
  record Fitting : Type 0 where
    short : length line ≤ 510
    digits : is_hex line ≡ true
    fits : Fits k (length (decoded line))

  -- it is not sent, or it is such a line
  not_or_fitting : NotSent k line ⊎ Fitting
  not_or_fitting = ⊎_elim (λ l. inl (inl l)) digits (below_or_not 510 (length line))
    where
      body : length line ≤ 510 → is_hex line ≡ true → Taken k → NotSent k line ⊎ Fitting
      body l x set =
          let n = length (decoded line) in
          ⊎_elim (λ z. inl (inr (inr (inr (inr (inl z))))))
          (λ h. ⊎_elim (λ m. inl (inr (inr (inr (inr (inr m))))))
          (λ m. inr (record { short = l; digits = x; fits = record { set = set; some = some n h; most = m } }))
          (below_or_not 255 (n + tag_bytes k.bits)))
          (none_or_some n)

      keys : length line ≤ 510 → is_hex line ≡ true → NotSent k line ⊎ Fitting
      keys l x =
          ⊎_elim (λ n. inl (inr (inr (inl n))))
          (λ o. ⊎_elim (λ n. inl (inr (inr (inr (inl n))))) (λ t. body l x (record { order = o; tag = t })) (within_or_not 128 k.bits))
          (within_or_not 5 k.order)

      digits : length line ≤ 510 → NotSent k line ⊎ Fitting
      digits l = ⊎_elim (λ e. inl (inr (inl e))) (keys l) (true_or_false (is_hex line))

  -- and it is not both
  sent_is_fitting : is_sent k line ≡ true → NotSent k line → ⊥
  sent_is_fitting e =
      let s = sent_told k line e in
      let d = decodes 255 line s.reads in
      ⊎_elim (λ l. omega (arith, d.fits))
      (⊎_elim (λ x. let z : ◌≡◌ {A = ℕ} 0 1 = cc (sym x ∙ d.hex) in omega arith)
      (⊎_elim (⊎_elim (λ z. omega (arith, s.fits.set.order.low)) (λ l. omega (arith, s.fits.set.order.high)))
      (⊎_elim (⊎_elim (λ z. omega (arith, s.fits.set.tag.low)) (λ l. omega (arith, s.fits.set.tag.high)))
      (⊎_elim (λ z. omega (arith, s.fits.some)) (λ m. omega (arith, s.fits.most))))))

  pub send_empties : (space after : List ℕ) (r : ℕ) → 511 ≤ length space → TellPromise k line space r after → (r ≡ 1) ↔ NotSent k line
  send_empties space after r room p = (empty, unsent)
    where
      told : r ≡ length (sent_line k line) + 1
      told = (tells_text 511 (sent_text k line) space room p).0 ∙ text_length_is k line

      empty : r ≡ 1 → NotSent k line
      empty z =
          ⊎_elim (λ n. n)
          (λ f.
          let read = sym (number_rest 255 line (omega arith) f.short (unless_holds 9 f.digits)) in
          let is = sent_line_is k line read f.fits in
          absurd (omega (arith, told, z, ap length is, line_some k (decoded line) f.fits)))
          not_or_fitting

      unsent : NotSent k line → r ≡ 1
      unsent n = by (is_sent k line) refl
        where
          by : (b : Bool) → is_sent k line ≡ b → r ≡ 1
          by true e = absurd (sent_is_fitting e n)
          by false e = omega (arith, told, ap length (unsent_line k line e))
