-- The call that tells the instant of a local time and its mark gives, without the mark, what the call without marks gives.
use Rattle.std.specs.Prelude.{◌≡◌, refl, List, [], ◌∷◌, ◌++◌, ℕ, ℤ, pos, take}
use Rattle.model.specs.Instant.{instant}
use Rattle.model.specs.Tzif.{Zone}
use Rattle.model.specs.Zone.{resolve}
use Rattle.model.specs.Answer.{Answer, gives, refuses, ◌>>=◌}
use Rattle.model.specs.ZoneCalls.{zone_in, day_given, time_given, resolve_call}
use Rattle.model.specs.Marks.{resolve_mark, resolve_marked_call}

-- the instant's numbers are the first two
first_two_lem : (t m : ℕ) → take 2 (instant t ++ pos m ∷ []) ≡ instant t
unfolding instant
first_two_lem t m = refl

forgets : (a : Answer Zone) (b c : Answer ℕ) → (a >>= λ z. b >>= λ d. c >>= λ time. gives (instant (resolve z d time)))
    ≡ ((a >>= λ z. b >>= λ d. c >>= λ time. gives (instant (resolve z d time) ++ pos (resolve_mark z d time) ∷ [])) >>= λ l. gives (take 2 l))
forgets (refuses n p) b c = refl
forgets (gives z) (refuses n p) c = refl
forgets (gives z) (gives d) (refuses n p) = refl
forgets (gives z) (gives d) (gives time) = rw (first_two_lem (resolve z d time) (resolve_mark z d time))

pub resolve-forgets : (file : List ℕ) (year month day s n : ℤ) → resolve_call file year month day s n ≡ (resolve_marked_call file year month day s n >>= λ l. gives (take 2 l))
unfolding resolve_call resolve_marked_call
resolve-forgets file year month day s n = forgets (zone_in file) (day_given year month day) (time_given s n)
