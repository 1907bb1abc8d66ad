-- A derivation that is not refused leaves a table whose records are the derived ones, so that their text is the listing.
-- Assumes nothing.
use Prim.Native.Nat.{ℕ, ◌≤◌}
use mathlib.Core.Path.{◌≡◌, sym, ap, ◌∙◌, subst}
use mathlib.Core.List.{List, []}
use lib.ListN.{replicate}
use Rattle.slice.specs.Record.{record_size}
use Rattle.table.specs.Header.{count_of, stride_of, room_of, records_of}
use Rattle.baselines.specs.Deriving.{derived_records, derivation_of, after_deriving}
use Rattle.baselines.specs.Deriving.{Derivation}
use Rattle.std.specs.Prelude.{Ok, Err}
use Rattle.baselines.proofs.DerivedTable.{Deriving, derived_told, derived_counts, derived_holds, derived_room as table-room}
use Rattle.text.specs.Listing.{text_of, listing_of}

abbrev output : List ℕ
output = replicate 57376 0

module _ (p : List ℕ) (r : Derivation) (answer : r ≡ derivation_of p output) where
  module _ (after : List ℕ) (buffer : after ≡ after_deriving r p output) (n : ℕ) (told : r ≡ Ok n) where
    deriving' : Deriving p output n
    deriving' = derived_told p output n (sym answer ∙ told)

    is_held : after ≡ after_deriving (Ok n) p output
    is_held = buffer ∙ ap (λ (a : Derivation). after_deriving a p output) told

    pub derived_room : count_of after ≤ room_of (record_size (stride_of after)) after
    derived_room =
        subst (λ (t : List ℕ). count_of t ≤ room_of (record_size (stride_of t)) t) (sym is_held) (table-room p output n deriving')

    pub derived_text : text_of (Ok (count_of after)) (stride_of after) (records_of (record_size (stride_of after)) after)
        ≡ listing_of p
    unfolding listing_of
    derived_text =
        ap (λ (t : List ℕ). text_of (Ok (count_of t)) (stride_of t) (records_of (record_size (stride_of t)) t)) is_held
        ∙ (λ i. text_of (Ok (derived_counts p output n deriving' i)) (stride_of p) (derived_holds p output n deriving' i))
        ∙ ap (λ (a : Derivation). text_of a (stride_of p) (derived_records p)) (sym (sym answer ∙ told))

  pub refused_text : (f : ℕ) → r ≡ Err f → text_of (Err f) 0 [] ≡ listing_of p
  unfolding listing_of
  refused_text f told = ap (λ (a : Derivation). text_of a (stride_of p) (derived_records p)) (sym told ∙ answer)
