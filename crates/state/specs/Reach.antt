-- What an arrival at a table may change of the answers about an instant (demand 3). Assumes nothing.
use Rattle.std.specs.Prelude.{ℕ, ◌≡◌, List, true, ◌⊎◌}
use Rattle.std.proofs.Math.Option.{some}
use Rattle.numbers.specs.declared.Instant.{Instant}
use Rattle.slice.specs.Record.{record_size, view_of}
use Rattle.table.specs.Header.{stride_of, records_of}
use Rattle.table.specs.Arriving.{record_of, stored_of}
use Rattle.history.specs.Reach.{reaches}
use Rattle.state.specs.Asking.{permanent_state_of, snapshot_of, after_state, after_snapshot, place_of, source_of, bytes_at}

-- an instant lies in the reach of a slice that arrives at a table, or of the stored record of its kind and sequence number
abbrev pub Reached : Instant → List ℕ → List ℕ → Type 0
Reached at t s =
    (reaches at (view_of (stride_of t) (record_of s)) ≡ true)
    ⊎ ((x : List ℕ) × (stored_of (record_of s) (records_of (record_size (stride_of t)) t) ≡ some x)
    × (reaches at (view_of (stride_of t) x) ≡ true))

module _ (at : Instant) (p p' : List ℕ) where
  -- two permanent tables answer alike for the permanent state, and leave the same bytes in the buffer
  abbrev pub SameState : List ℕ → Type 0
  SameState buffer =
      (permanent_state_of p' at buffer ≡ permanent_state_of p at buffer)
      × (after_state (permanent_state_of p' at buffer) p' at buffer ≡ after_state (permanent_state_of p at buffer) p at buffer)

  module _ (t t' : List ℕ) where
    -- with two temporary tables they answer alike for the snapshot, and leave the same bytes in the buffer
    abbrev pub SameSnapshot : List ℕ → Type 0
    SameSnapshot buffer =
        (snapshot_of p' t' at buffer ≡ snapshot_of p t at buffer)
        × (after_snapshot (snapshot_of p' t' at buffer) p' t' at buffer ≡ after_snapshot (snapshot_of p t at buffer) p t at buffer)

    -- they answer alike which table property n is from, and hand back the same bytes; their place may be another
    abbrev pub SameProperty : ℕ → Type 0
    SameProperty n =
        (source_of (place_of p' t' at n) ≡ source_of (place_of p t at n))
        × (bytes_at p' t' (place_of p' t' at n) ≡ bytes_at p t (place_of p t at n))
