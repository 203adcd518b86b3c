-- A test of each number of a range, as `all` makes it, is the test of all indices of the definitions.
use Rattle.std.proofs.Common.{◌≡◌, ℕ, zero, suc, ◌+◌, Bool, true, false, refl, ◌&&◌}
use Rattle.std.specs.List.{list_all, range_with_len}
use Rattle.big_endian.specs.Walk.{both, all_from}

same-and : (a b c : Bool) → b ≡ c → (a && b) ≡ both a c
same-and true b c e = e
same-and false b c e = refl

pub all-range : (t : ℕ → Bool) (i k : ℕ) → list_all t (range_with_len i k) ≡ all_from t i k
unfolding all_from
all-range t i zero = refl
all-range t i (suc k) = same-and (t i) _ _ (all-range t (i + 1) k)
