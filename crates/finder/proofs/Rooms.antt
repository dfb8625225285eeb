-- The intervals of all servers, exchange by exchange.
use Rattle.finder.proofs.Common.{◌≡◌, ◌≢◌, ℕ, ◌<◌, ◌≤◌, ◌^◌, ℤ, pos, neg_ℤ, int_lt, unsigned_abs, false, not, ◌&&◌, ◌||◌, List, [], ◌∷◌, ◌++◌, length, set, replicate, refl, sym, ◌∙◌, arith, ◌==◌, ints, get_or-replicate, list_any-append, leaves_out, Interval, Exchange, admits, AreRooms, IsNear, IsRoom, refuses, room_at, eq-eqb, ne_eqb, or-false}
use Rattle.finder.proofs.List.{holds_with_set}

abbrev none : Interval
none = record { lo = pos 0; hi = pos 0 }

-- ---- before any exchange

abbrev every : Interval
every = record { lo = neg_ℤ (pos (2 ^ 80)); hi = pos (2 ^ 80) }

every_room : (allowance : ℤ) (server : ℕ) → IsRoom allowance [] server every
every_room allowance server = record {
  leaves_out_refused = λ error near.
      let a : int_lt error every.lo ≡ false = grind (arith, ints) in
      let b : int_lt every.hi error ≡ false = grind (arith, ints) in
      rw (a, b) refl;
  low = omega arith;
  high = omega arith;
}

pub rooms_of_none : (allowance : ℤ) (rooms : List Interval) → rooms ≡ replicate 32 every
    → AreRooms allowance [] rooms
rooms_of_none allowance rooms is server below =
    let at : room_at rooms server ≡ every = rw is (get_or-replicate 32 server every none below) in
    rw at (every_room allowance server)

-- ---- one more exchange

module _ (allowance : ℤ) (xs : List Exchange) (x : Exchange) where
  refuses_more : (error : ℤ) (server : ℕ) → refuses allowance (xs ++ x ∷ []) error server
      ≡ (refuses allowance xs error server || (((x.server == server) && not (admits allowance error x)) || false))
  refuses_more error server = rw (list_any-append, xs) refl

  of_server : (error : ℤ) (server : ℕ) → x.server ≡ server
      → refuses allowance (xs ++ x ∷ []) error server
      ≡ (refuses allowance xs error server || not (admits allowance error x))
  of_server error server same =
      rw (refuses_more error server, eq-eqb x.server server same, or-false (not (admits allowance error x))) refl

  of_other : (error : ℤ) (server : ℕ) → x.server ≢ server
      → refuses allowance (xs ++ x ∷ []) error server ≡ refuses allowance xs error server
  of_other error server other =
      rw (refuses_more error server, ne_eqb x.server server other, or-false (refuses allowance xs error server)) refl

  module _ (rooms : List Interval) (count : length rooms ≡ 32) (are : AreRooms allowance xs rooms)
      (listed : x.server < 32) (new : Interval)
      (narrows : (error : ℤ) → IsNear error → leaves_out new error
      ≡ (leaves_out (room_at rooms x.server) error || not (admits allowance error x)))
      (low : unsigned_abs new.lo ≤ 2 ^ 80) (high : unsigned_abs new.hi ≤ 2 ^ 80) where
    new_room : IsRoom allowance (xs ++ x ∷ []) x.server new
    new_room = record {
      leaves_out_refused = λ error near.
          rw (of_server error x.server refl, ← (are x.server listed).leaves_out_refused error near)
          (narrows error near);
      low = low;
      high = high;
    }

    old_room : (server : ℕ) → server < 32 → x.server ≢ server
        → IsRoom allowance (xs ++ x ∷ []) server (room_at rooms server)
    old_room server below other =
        let old = are server below in
        record {
          leaves_out_refused = λ error near.
              old.leaves_out_refused error near ∙ sym (of_other error server other);
          low = old.low;
          high = old.high;
        }

    pub rooms_more : AreRooms allowance (xs ++ x ∷ []) (set rooms x.server new)
    rooms_more =
        holds_with_set (λ server room. IsRoom allowance (xs ++ x ∷ []) server room) rooms x.server 32 new none
        (omega (arith, count, listed)) new_room (λ server below other. old_room server below (λ same. other (sym same)))
