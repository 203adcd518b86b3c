-- What is asked of a lent number after a listing: it has its mark still, or it is the number that is expected.
use Rattle.std.specs.Prelude.{Bool, List, ℕ, ◌+◌, ◌*◌, eqb, ℤ, pos, get_or}
use Rattle.instant_signed.specs.Signed.{biased}
use Rattle.test_cases.specs.Cases.{is_number_at}

-- number i is i less 2^63
unfoldable pub is_mark : List ℤ → ℕ → Bool
is_mark e i = eqb (biased (get_or e i (pos 0))) i

-- number i is the one that the question has in eight bytes, from place 44 on
unfoldable pub is_stored : List ℤ → List ℕ → ℕ → Bool
is_stored e q i = is_number_at q (44 + 8 * i) (get_or e i (pos 0))
