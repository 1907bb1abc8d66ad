-- The stretches from one change instant to the next, and the BASELINEs that are made of them. Assumes nothing.
use Prim.Native.Nat.{ℕ, suc, ◌≤◌, ◌<◌}
use mathlib.Core.Path.{◌≡◌, refl, ap, sym}
use mathlib.Core.List.{List, ◌∷◌, []}
use mathlib.Core.Bool.{true}
use mathlib.Core.Logic.{◌⊎◌, inl, inr, ⊎_elim}
use native.Mathlib.Omega.{arith}
use lib.ListN.{length}
use Rattle.laws.specs.Keyed.{In, Rising}
use Rattle.laws.proofs.Tests.{tests}
use Rattle.laws.proofs.Orders.{true_lex}
use Rattle.numbers.specs.Numbers.{no_instant, none, is_none, given, before, lower_sequence}
use Rattle.numbers.specs.declared.Instant.{Instant}
use Rattle.slice.specs.Record.{Slice, baseline, key_less, same_key}
use Rattle.history.specs.Permanent.{Standing, refuses, known, permanent_at}
use Rattle.history.specs.Changes.{next_of}
use Rattle.history.specs.Derived.{Stretch, stretch, stretches_from, baseline_of, numbered_from}
use Rattle.history.proofs.Selection.{append_in}
use Rattle.history.proofs.Changes.{Risen, next_in, next_least, next-none}
use Rattle.history.specs.Counted.{slice_key}

module _ (slices : List Slice) where
  -- each begins at one of the instants, ends at one or never, and has the state at its begin
  pub record Stretched (us : List Instant) (s : Stretch) : Type 0 where
    pub begins : In s.period.begin us
    pub ends : (s.period.end ≡ none) ⊎ In s.period.end us
    pub has : permanent_at s.period.begin slices ≡ known s.state

  pub stretched : (us : List Instant) (s : Stretch) → In s (stretches_from slices us) → Stretched us s
  stretched [] s m = elim m [ ]
  stretched (t ∷ ts) s m =
      ⊎_elim (λ n. here (permanent_at t slices) refl n) (λ n. let h = stretched ts s n in
      record { begins = inr h.begins; ends = ⊎_elim inl (λ i. inr (inr i)) h.ends; has = h.has })
      ((append_in (stretch t (next_of ts) (permanent_at t slices)) (stretches_from slices ts) s).0 m)
    where
      here : (v : Standing) → permanent_at t slices ≡ v → In s (stretch t (next_of ts) v) → Stretched (t ∷ ts) s
      here (refuses n) e m = absurd m
      here (known k) e (inl q) = rw q (record { begins = inl refl; ends = ⊎_elim inl (λ i. inr (inr i)) (next_in ts); has = e })
      here (known k) e (inr m) = absurd m

  -- its end is none or after its begin, no instant lies between, and none comes after the begin of one without an end
  pub record Next (us : List Instant) (s : Stretch) : Type 0 where
    pub ahead : (s.period.end.0 ≡ no_instant) ⊎ (s.period.begin.0 < s.period.end.0)
    pub least : (x : Instant) → In x us → s.period.begin.0 < x.0 → s.period.end.0 ≤ x.0
    pub last : is_none s.period.end ≡ true → (x : Instant) → In x us → x.0 ≤ s.period.begin.0

  pub stretch_next : (us : List Instant) → Risen us → ((x : Instant) → In x us → given x ≡ true) → (s : Stretch)
      → In s (stretches_from slices us) → Next us s
  unfolding before
  stretch_next [] _ g s m = elim m [ ]
  stretch_next (t ∷ ts) (low, up) g s m =
      ⊎_elim (here (permanent_at t slices)) (λ n. let h = stretch_next ts up (λ x i. g x (inr i)) s n in
      let later = low s.period.begin (stretched ts s n).begins in
      record {
        ahead = h.ahead;
        least = λ x. ⊎_elim (λ e l. absurd (omega (tests, ap (λ i. i.0) e))) (h.least x);
        last = λ y x. ⊎_elim (λ e. omega (tests, ap (λ i. i.0) e)) (h.last y x);
      })
      ((append_in (stretch t (next_of ts) (permanent_at t slices)) (stretches_from slices ts) s).0 m)
    where
      here : (v : Standing) → In s (stretch t (next_of ts) v) → Next (t ∷ ts) s
      here (refuses n) m = absurd m
      here (known k) (inl q) = rw q (record {
        ahead = ⊎_elim (λ e. inl (ap (λ i. i.0) e)) (λ i. inr (omega (tests, low (next_of ts) i))) (next_in ts);
        least = λ x. ⊎_elim (λ e l. absurd (omega (tests, ap (λ i. i.0) e))) (λ i _. next_least ts up x i);
        last = λ y x. ⊎_elim (λ e. omega (tests, ap (λ i. i.0) e))
            (λ i. absurd (rw (next-none ts (λ z j. g z (inr j)) y) at i));
      })
      here (known k) (inr m) = absurd m

module _ (unknown : List ℕ) where
  -- each BASELINE is made of a stretch
  pub numbered_in : (n : ℕ) (l : List Stretch) (b : Slice) → In b (numbered_from unknown n l)
      → (k : ℕ) × (s : Stretch) × In s l × (b ≡ baseline_of unknown k s)
  numbered_in n [] b x' = elim x' [ ]
  numbered_in n (s ∷ l) b (inl e) = (n, s, inl refl, e)
  numbered_in n (s ∷ l) b (inr m) = let (k, x, i, e) = numbered_in (suc n) l b m in (k, x, inr i, e)

  pub numbered_length : (n : ℕ) (l : List Stretch) → length (numbered_from unknown n l) ≡ length l
  numbered_length n [] = refl
  numbered_length n (s ∷ l) = ap suc (numbered_length (suc n) l)

  -- they rise by their sequence numbers
  numbered_above : (n : ℕ) (l : List Stretch) (b : Slice) → In b (numbered_from unknown n l)
      → (b.kind ≡ baseline) × (n ≤ b.sequence.0)
  unfolding baseline_of
  numbered_above n [] b x' = elim x' [ ]
  numbered_above n (s ∷ l) b (inl e) = (ap (λ x. x.kind) e, omega (arith, ap (λ x. x.sequence.0) e))
  numbered_above n (s ∷ l) b (inr m) = let h = numbered_above (suc n) l b m in (h.0, omega (arith, h.1))

  pub numbered_rising : (n : ℕ) (l : List Stretch) → Rising slice_key key_less same_key (numbered_from unknown n l)
  unfolding baseline_of key_less lower_sequence
  numbered_rising n [] = tt
  numbered_rising n (s ∷ l) = (
    λ y m. let h = numbered_above (suc n) l y m in
        true_lex baseline n y.kind y.sequence.0 (inr (sym h.0, omega (arith, h.1))),
    numbered_rising (suc n) l,
  )
