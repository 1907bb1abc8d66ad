-- What writing a text returns is told apart by its numbers. Assumes nothing.
use Prim.Native.Nat.{zero, suc}
use mathlib.Core.Path.{◌≡◌, refl}
use Rattle.std.specs.Prelude.{Ok, Err}
use Rattle.laws.specs.Replies.{Reply, refused_with, accepted_as}
use Rattle.laws.proofs.Replies.{lossless}
use Rattle.text.specs.Listing.{Listing, listing_reply}

-- nothing is refused
abbrev back : Reply → Listing
back (refused_with n) = Ok 0
back (accepted_as zero n) = Ok n
back (accepted_as (suc zero) n) = Ok n
back (accepted_as (suc (suc k)) n) = Err (record { 0 = n })

is_back : (l : Listing) → back (listing_reply l) ≡ l
unfolding listing_reply
is_back (Ok n) = refl
is_back (Err n) = refl

-- texts whose numbers are the same are the same answer
pub listing_told : (a b : Listing) → listing_reply a ≡ listing_reply b → a ≡ b
listing_told = lossless listing_reply back is_back
