-- `timeslices::tsl_listing` meets its contract: a case for each answer. Assumes nothing.
use Rattle.std.proofs.Common.{◌≡◌, ◌≤◌, List, ℕ, ap, ◌∙◌, arith}
use Rattle.text.specs.Listing.{Listing, listing_of, put_of, listing_reply, after_put}
use Rattle.text.proofs.Lengths.{listing_most, length_in, put_length}
use Rattle.text.proofs.Replies.{listing_told}
use Rattle.timeslices.specs.Answers.{numbers_of}
use Rattle.timeslices.proofs.tsl_listing.Goals as goal

-- a listing is short
short : (a : Listing) (p t : List ℕ) → listing_reply a ≡ listing_reply (put_of (listing_of p) t) → length_in a ≤ 10771
short a p t e =
    let l : length_in a ≡ _ = ap length_in (listing_told a (put_of (listing_of p) t) e) ∙ put_length (listing_of p) t in
    omega (arith, l, listing_most p)

pub overflow_cast-length : goal.overflow_cast-length
overflow_cast-length c = omega (arith, short _ _ _ (rw c.in-Ok.is at c.list.ensures.answer))

pub overflow_cast-length-in-Err : goal.overflow_cast-length-in-Err
overflow_cast-length-in-Err c = omega (arith, short _ _ _ (rw c.in-Err.is at c.list.ensures.answer))

pub returns-in-Ok : goal.returns-in-Ok
unfolding listing_reply
returns-in-Ok c =
    let g = c.args in
    let x = c.list.ensures in
    record {
      answer = c.accepted.ensures ∙ ap numbers_of (rw c.in-Ok.is at x.answer);
      buffer = x.buffer ∙ ap (λ (a : Listing). after_put a (listing_of g.permanent.now) g.text.now) (listing_told _ _ x.answer);
    }

pub returns-in-Err : goal.returns-in-Err
unfolding listing_reply
returns-in-Err c =
    let g = c.args in
    let x = c.list.ensures in
    record {
      answer = c.accepted-in-Err.ensures ∙ ap numbers_of (rw c.in-Err.is at x.answer);
      buffer = x.buffer ∙ ap (λ (a : Listing). after_put a (listing_of g.permanent.now) g.text.now) (listing_told _ _ x.answer);
    }
