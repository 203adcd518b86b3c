-- The answers of `time_ok` and `hours_ok`.
use mathlib.Core.Path.{◌≡◌}
use mathlib.Core.Bool.{Bool, true, false}
use mathlib.Core.List.{List}
use Prim.Native.Nat.{ℕ, ◌+◌, ◌≤◌, ◌<◌}
use lib.Dec.{ltb}
use borrow.Author.Tests.{lt-ltb, le-ltb, eq-eqb, ne_eqb}
use lib.ListN.{length, get_or}
use Rattle.big_endian.specs.Be.{be32}
use Rattle.book.specs.Accepts.{is_time, is_hours}
use Rattle.book.proofs.Bytes.{time_test, time-says, hours_test, hours-says}
use Rattle.model.specs.Instant.{day_seconds, second}

-- from the bounds that their tests show
module _ (l : List ℕ) (p : ℕ) {x : ℕ} (h : p + 8 ≤ length l) (ex : x ≡ be32 l p) where
  pub time-late : day_seconds ≤ x → false ≡ is_time l p
  unfolding time_test
  time-late k = time-says l p h (rw (← ex, le-ltb x day_seconds k))

  pub time-left : {y : ℕ} → x < day_seconds → y ≡ be32 l (p + 4) → ltb y second ≡ is_time l p
  unfolding time_test
  time-left k ey = time-says l p h (rw (← ex, ← ey, lt-ltb x day_seconds k))

module _ (l : List ℕ) (p : ℕ) (h : p ≤ length l) where
  pub hours-length : (length l ≡ p + 17 → ⊥) → false ≡ is_hours l p
  unfolding hours_test
  hours-length n = hours-says l p h (rw (ne_eqb (length l) (p + 17) n))

  module _ {x : ℕ} (k : length l ≡ p + 17) (ex : x ≡ get_or l p 0) where
    pub hours-days : 128 ≤ x → false ≡ is_hours l p
    unfolding hours_test
    hours-days n = hours-says l p h (rw (eq-eqb (length l) (p + 17) k, ← ex, le-ltb x 128 n))

    pub hours-start : {r : Bool} → x < 128 → r ≡ is_time l (p + 1) → r ≡ false → false ≡ is_hours l p
    unfolding hours_test
    hours-start n er q = hours-says l p h (rw (eq-eqb (length l) (p + 17) k, ← ex, lt-ltb x 128 n, ← er, q))

    pub hours-end : {r t : Bool} → x < 128 → r ≡ is_time l (p + 1) → r ≡ true → t ≡ is_time l (p + 9) → t ≡ is_hours l p
    unfolding hours_test
    hours-end n er q et = hours-says l p h (rw (eq-eqb (length l) (p + 17) k, ← ex, lt-ltb x 128 n, ← er, q) et)
