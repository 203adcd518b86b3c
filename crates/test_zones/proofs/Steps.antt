-- Laws of comparing with stored answers: a number read, and one step of counting.
use Rattle.std.proofs.Common.{◌≡◌, ℕ, ◌+◌, ◌%◌, ◌^◌, Bool, true, false, List, sym, refl, add-one, arith}
use Rattle.big_endian.specs.Be.{be64}
use Rattle.big_endian.specs.Walk.{pick_n, count_below}
use Rattle.test_zones.specs.Answers.{signed_plus}

pub shifted-is : (a : List ℕ) (i k : ℕ) {b r : ℕ} → b ≡ be64 a i → r ≡ (b + k) % 2 ^ 64 → r ≡ signed_plus a i k
unfolding signed_plus
shifted-is a i k e q = rw (← e) q

module _ (t : ℕ → Bool) {i k : ℕ} {b : Bool} (n : k ≡ count_below t i) (e : b ≡ t i) where
  counted : count_below t (i + 1) ≡ k + pick_n b 1 0
  unfolding count_below
  counted = rw (add-one, n, e)

  pub counted-yes : b ≡ true → k + 1 ≡ count_below t (i + 1)
  counted-yes q = sym (rw q at counted)

  pub counted-no : b ≡ false → k ≡ count_below t (i + 1)
  counted-no q =
      let r : count_below t (i + 1) ≡ k + 0 = rw q at counted in
      omega arith

pub start : (t : ℕ → Bool) → 0 ≡ count_below t 0
unfolding count_below
start t = refl
