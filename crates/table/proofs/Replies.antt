-- What an arrival returns is told apart by its numbers. Assumes nothing.
use Prim.Native.Nat.{ℕ, zero, suc}
use mathlib.Core.Path.{◌≡◌, refl}
use Rattle.std.specs.Prelude.{Result, Ok, Err}
use Rattle.slice.specs.Refusing.{told}
use Rattle.slice.specs.declared.refusal.Refusal.{Refusal}
use Rattle.slice.proofs.Replies.{read_back, reply_same, reply_tells}
use Rattle.table.specs.Arriving.{Creation, creation_reply, Arrived, arrival_reply}
use Rattle.table.specs.declared.arrival.Arrival.{Arrival}
use Rattle.table.specs.declared.arrival.Arrival.TheVariants as arrival

-- ---- a new table
creation_back : (c : Creation) → read_back (λ k v. tt) (creation_reply c) ≡ c
unfolding creation_reply
creation_back (Ok _) = refl
creation_back (Err n) = refl

-- new tables whose numbers are the same are the same answer
pub creation_same : (a b : Creation) → creation_reply a ≡ creation_reply b → a ≡ b
creation_same = reply_same creation_reply (λ k v. tt) creation_back

pub creation_told : (a b : Result Unit Refusal) → creation_reply (told a) ≡ creation_reply (told b) → a ≡ b
creation_told = reply_tells creation_reply (λ k v. tt) creation_back

-- ---- an arrival
abbrev accepted_back : ℕ → ℕ → Arrival
accepted_back zero v = arrival.Added
accepted_back (suc zero) v = arrival.Added
accepted_back (suc (suc zero)) v = arrival.Replaced
accepted_back (suc (suc (suc zero))) v = arrival.Superseded
accepted_back (suc (suc (suc (suc k)))) v = arrival.Repeat

arrival_back : (a : Arrived) → read_back accepted_back (arrival_reply a) ≡ a
unfolding arrival_reply
arrival_back (Ok arrival.Added) = refl
arrival_back (Ok arrival.Replaced) = refl
arrival_back (Ok arrival.Superseded) = refl
arrival_back (Ok arrival.Repeat) = refl
arrival_back (Err n) = refl

-- arrivals whose numbers are the same are the same answer
pub arrival_same : (a b : Arrived) → arrival_reply a ≡ arrival_reply b → a ≡ b
arrival_same = reply_same arrival_reply accepted_back arrival_back

pub arrival_told : (a b : Result Arrival Refusal) → arrival_reply (told a) ≡ arrival_reply (told b) → a ≡ b
arrival_told = reply_tells arrival_reply accepted_back arrival_back
