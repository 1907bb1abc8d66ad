-- The promise of each exported function asks nothing and leaves one answer and one content of the lent memory. Assumes nothing.
use mathlib.Core.Path.{refl}
use Rattle.laws.specs.OneAnswer.{OneAnswer}
use Rattle.laws.proofs.OneAnswer.{same, both}
use Rattle.timeslices_c.proofs.tsl_new_table.Kinds as tsl-new-table-k
use Rattle.timeslices_c.proofs.tsl_new_table.Reads as tsl-new-table
use Rattle.timeslices_c.proofs.tsl_arrive.Kinds as tsl-arrive-k
use Rattle.timeslices_c.proofs.tsl_arrive.Reads as tsl-arrive
use Rattle.timeslices_c.proofs.tsl_permanent_state.Kinds as tsl-permanent-state-k
use Rattle.timeslices_c.proofs.tsl_permanent_state.Reads as tsl-permanent-state
use Rattle.timeslices_c.proofs.tsl_snapshot.Kinds as tsl-snapshot-k
use Rattle.timeslices_c.proofs.tsl_snapshot.Reads as tsl-snapshot
use Rattle.timeslices_c.proofs.tsl_property.Kinds as tsl-property-k
use Rattle.timeslices_c.proofs.tsl_touched.Kinds as tsl-touched-k
use Rattle.timeslices_c.proofs.tsl_derive.Kinds as tsl-derive-k
use Rattle.timeslices_c.proofs.tsl_listing.Kinds as tsl-listing-k
use Rattle.timeslices_c.proofs.tsl_property.Reads as tsl-property
use Rattle.timeslices_c.proofs.tsl_touched.Reads as tsl-touched
use Rattle.timeslices_c.proofs.tsl_derive.Reads as tsl-derive
use Rattle.timeslices_c.proofs.tsl_listing.Reads as tsl-listing

pub tsl_new_table_one : OneAnswer tsl-new-table-k.ps tsl-new-table-k.r tsl-new-table.Asked tsl-new-table.Learnt
tsl_new_table_one κs a = (tt, λ z z' ws ws' p q. (same p.0 q.0, both (same p.1 q.1) refl))

pub tsl_arrive_one : OneAnswer tsl-arrive-k.ps tsl-arrive-k.r tsl-arrive.Asked tsl-arrive.Learnt
tsl_arrive_one κs a = (tt, λ z z' ws ws' p q. (same p.0 q.0, both (same p.1 q.1) refl))

pub tsl_permanent_state_one : OneAnswer tsl-permanent-state-k.ps tsl-permanent-state-k.r tsl-permanent-state.Asked tsl-permanent-state.Learnt
tsl_permanent_state_one κs a = (tt, λ z z' ws ws' p q. (same p.0 q.0, both refl (both refl (both (same p.1 q.1) refl))))

pub tsl_snapshot_one : OneAnswer tsl-snapshot-k.ps tsl-snapshot-k.r tsl-snapshot.Asked tsl-snapshot.Learnt
tsl_snapshot_one κs a = (tt, λ z z' ws ws' p q. (same p.0 q.0, both refl (both refl (both refl (both (same p.1 q.1) refl)))))

pub tsl_property_one : OneAnswer tsl-property-k.ps tsl-property-k.r tsl-property.Asked tsl-property.Learnt
tsl_property_one κs a = (tt, λ z z' ws ws' p q. (same p q, refl))

pub tsl_touched_one : OneAnswer tsl-touched-k.ps tsl-touched-k.r tsl-touched.Asked tsl-touched.Learnt
tsl_touched_one κs a = (tt, λ z z' ws ws' p q. (same p q, refl))

pub tsl_derive_one : OneAnswer tsl-derive-k.ps tsl-derive-k.r tsl-derive.Asked tsl-derive.Learnt
tsl_derive_one κs a = (tt, λ z z' ws ws' p q. (same p.0 q.0, both refl (both (same p.1 q.1) refl)))

pub tsl_listing_one : OneAnswer tsl-listing-k.ps tsl-listing-k.r tsl-listing.Asked tsl-listing.Learnt
tsl_listing_one κs a = (tt, λ z z' ws ws' p q. (same p.0 q.0, both refl (both (same p.1 q.1) refl)))
