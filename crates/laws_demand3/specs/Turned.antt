-- `between` turned round is its negation, for every book and all numbers, refusals included; and adding zero to an instant, or taking zero off
-- it, gives the instant itself.
use Rattle.std.specs.Prelude.{◌≡◌, Bool, true, false, not, ◌&&◌, List, map, ltb, ℤ, pos, neg_ℤ, nat_abs}
use Rattle.std.proofs.Math.Path.{refl, ap}
use Rattle.std.proofs.Common.{◌∙◌, lt-ltb, le-ltb}
use Rattle.std.proofs.Math.Option.{Option}
use Prim.Native.Nat.{ℕ, ◌/◌, ◌%◌, ◌*◌, ◌+◌, ◌-◌, ◌<◌, min, max}
use native.Mathlib.Omega.{arith}
use Rattle.std.proofs.Math.Decide.{dec_lt}
use Rattle.std.proofs.Math.IntN.{neg_ℤ-neg_ℤ}
use Rattle.model.specs.Basic.{given, is_in}
use Rattle.model.specs.Instant.{second, first_instant, last_instant, is_below_0, second_from, instant_of, Duration, duration_of, duration}
use Rattle.model.specs.Answer.{Answer, gives, refuses, ◌>>=◌, or_refuse}
use Rattle.model.specs.Working.{Schedule}
use Rattle.model.specs.Build.{build}
use Rattle.model.specs.Walk.{begun, time_from, time_between}
use Rattle.model.specs.Calls.{between_call, between, said}
use Rattle.laws_demand3.specs.Pairs.{Pair, IsInstant, listed_pair}
use Rattle.laws_demand3.specs.SignedPairs.{at-shown, instant-at, NotBelowZero}
use Rattle.laws_demand3.specs.Demand.{nothing, nothing-off}
use Rattle.laws_demand3.specs.Demand3.{adding, taking_off, adding-is, taking-is}

-- the same numbers with the other sign
abbrev pub negative : Answer (List ℤ) → Answer (List ℤ)
negative a = a >>= λ l. gives (map neg_ℤ l)

duration-turned : (k : ℕ) (b : Bool) → duration (record { minus = not b; size = k }) ≡ map neg_ℤ (duration (record { minus = b; size = k }))
unfolding duration
duration-turned k false = refl
duration-turned k true = rw (neg_ℤ-neg_ℤ (pos (k / second)), neg_ℤ-neg_ℤ (pos (k % second)))

-- nothing is its own negation
duration-none : duration (record { minus = false; size = 0 }) ≡ map neg_ℤ (duration (record { minus = false; size = 0 }))
unfolding duration
duration-none = refl

-- an instant is read or refused, always with the same refusal
data Reading : Answer ℕ → Type 0 where
  is_read : (t : ℕ) → Reading (gives t)
  not-read : Reading (refuses 8 0)

reads : (a₁ a₂ : ℤ) → Reading (instant_of a₁ a₂)
unfolding instant_of
reads a₁ a₂ = go (is_in (first_instant / second) (last_instant / second) (second_from a₁) && (not (is_below_0 a₂) && ltb (nat_abs a₂) second)) (second_from a₁ * second + nat_abs a₂)
  where
    go : (c : Bool) (t : ℕ) → Reading (or_refuse 8 0 (given c t))
    go true t = is_read t
    go false t = not-read

module _ (s : Schedule) where
  abbrev working_time : ℕ → ℕ → Duration
  working_time m n = record { minus = ltb n m; size = time_between s (min m n) (max m n) }

  time-self : (m : ℕ) → time_between s m m ≡ 0
  unfolding time_from
  time-self m = let e : begun (m - m) ≡ 0 = omega arith in rw e

  working-time-turned : (m n : ℕ) → duration (working_time n m) ≡ map neg_ℤ (duration (working_time m n))
  working-time-turned m n = go (dec_lt m n) (dec_lt n m)
    where
      go : Dec (m < n) → Dec (n < m) → duration (working_time n m) ≡ map neg_ℤ (duration (working_time m n))
      go (yes h) k =
          let a : min m n ≡ m = omega arith in let b : max m n ≡ n = omega arith in
          let c : min n m ≡ m = omega arith in let d : max n m ≡ n = omega arith in
          rw (lt-ltb m n h, le-ltb n m (omega arith), a, b, c, d) (duration-turned (time_between s m n) false)
      go (no h) (yes k) =
          let a : min m n ≡ n = omega arith in let b : max m n ≡ m = omega arith in
          let c : min n m ≡ n = omega arith in let d : max n m ≡ m = omega arith in
          rw (lt-ltb n m k, le-ltb m n (omega arith), a, b, c, d) (duration-turned (time_between s n m) true)
      go (no h) (no k) =
          let e : n ≡ m = omega arith in
          let a : min m m ≡ m = omega arith in let b : max m m ≡ m = omega arith in
          rw (e, le-ltb m m (omega arith), a, b, time-self m) duration-none

  call-turned : (a₁ a₂ b₁ b₂ : ℤ) → said (between_call s b₁ b₂ a₁ a₂) ≡ negative (said (between_call s a₁ a₂ b₁ b₂))
  unfolding between_call
  call-turned a₁ a₂ b₁ b₂ = go (instant_of a₁ a₂) (instant_of b₁ b₂) (reads a₁ a₂) (reads b₁ b₂) (λ a b. _)
    where
      go : (r q : Answer ℕ) → Reading r → Reading q → (f : ℕ → ℕ → Option (ℕ × ℕ))
          → said (q >>= λ a. r >>= λ b. gives (record { values = duration (working_time a b); windows = f a b }))
          ≡ negative (said (r >>= λ a. q >>= λ b. gives (record { values = duration (working_time a b); windows = f a b })))
      go (gives m) (gives n) (is_read _) (is_read _) f = ap gives (working-time-turned m n)
      go (gives m) (refuses _ _) (is_read _) not-read f = refl
      go (refuses _ _) (gives n) not-read (is_read _) f = refl
      go (refuses _ _) (refuses _ _) not-read not-read f = refl

-- ---- turned round

pub between-turned : (book pack : List ℕ) (a₁ a₂ b₁ b₂ : ℤ) → said (between book pack b₁ b₂ a₁ a₂) ≡ negative (said (between book pack a₁ a₂ b₁ b₂))
between-turned book pack a₁ a₂ b₁ b₂ = go (build book pack)
  where
    go : (r : Answer Schedule) → said (r >>= λ s. between_call s b₁ b₂ a₁ a₂) ≡ negative (said (r >>= λ s. between_call s a₁ a₂ b₁ b₂))
    go (gives s) = call-turned s a₁ a₂ b₁ b₂
    go (refuses n p) = refl

-- ---- adding and taking off zero

abbrev zero_pair : Pair
zero_pair = record { sec = pos 0; ns = pos 0 }

zero-plain : NotBelowZero zero_pair 0
unfolding duration_of
zero-plain = record { read = refl; size = refl }

pub add-zero-is : (book pack : List ℕ) (s : Schedule) → build book pack ≡ gives s → (t : Pair) → IsInstant t → adding book pack t zero_pair ≡ gives (listed_pair t)
add-zero-is book pack s e t i =
    let a = instant-at t i in
    adding-is book pack s e t zero_pair a.0 0 a.1 zero-plain ∙ rw (nothing s a.0) (ap gives (at-shown t a.0 a.1))

pub sub-zero-is : (book pack : List ℕ) (s : Schedule) → build book pack ≡ gives s → (t : Pair) → IsInstant t → taking_off book pack t zero_pair ≡ gives (listed_pair t)
sub-zero-is book pack s e t i =
    let a = instant-at t i in
    taking-is book pack s e t zero_pair a.0 0 a.1 zero-plain ∙ rw (nothing-off s a.0) (ap gives (at-shown t a.0 a.1))
