-- Demand 3: what holds of `between`, `add` and `sub` together, for every book that builds and whose zones' offsets lie within 24 hours, and all
-- instants from -9998 on. The calls are those of the definitions, on the bytes of book and pack. That it holds is theorem `demand-3`, in
-- proofs/Holds.antt.
use Rattle.std.specs.Prelude.{◌≡◌, List, ltb, ℤ, pos, negsuc, neg_ℤ, ◌+ℤ◌, ◌≤ℤ◌, ◌<ℤ◌}
use Rattle.std.proofs.Math.Path.{refl}
use Rattle.std.proofs.Common.{sym, ◌∙◌, ap, ltb→lt, le→leb, lt-ltb, le-ltb}
use Rattle.std.proofs.Math.Option.{Option}
use Prim.Native.Nat.{ℕ, ◌+◌, ◌-◌, ◌≤◌, ◌<◌, min, max}
use native.Mathlib.Omega.{arith}
use Rattle.std.proofs.Math.Decide.{dec_le}
use Rattle.std.specs.Int.Signed.{le_z_yes}
use Rattle.model.specs.Instant.{instant, Duration, signed}
use Rattle.model.specs.Answer.{Answer, gives, refuses, ◌>>=◌}
use Rattle.model.specs.Working.{Schedule}
use Rattle.model.specs.Build.{build}
use Rattle.model.specs.Walk.{Way, on, back, at, begun, time_from, time_between, search}
use Rattle.model.specs.Calls.{between_call, moved, move_call, between, add, sub, said}
use Rattle.laws_demand3.specs.Pairs.{Pair, nanos_of, IsInstant, IsDuration, listed_pair}
use Rattle.laws_demand3.specs.Diff.{diff, neg-pos, pos-diff, nat-diff}
use Rattle.laws_demand3.specs.SignedPairs.{At, at_read, instant-at, at-since, NotBelowZero, not-below-zero, length_of, length-shown, length-nanos}
use Rattle.laws_demand3.specs.Demand as counted
use Rattle.laws_demand3.specs.Demand.{move, time}
use Rattle.laws_base.specs.Test.{never}

-- ---- the statement

-- "all instants given are from -9998-01-01T00:00Z on": second -377,673,580,800
pub record Given (p : Pair) : Type 0 where
  pub instant : IsInstant p
  pub since : neg_ℤ (pos 377673580800) ≤ℤ p.sec

-- what is answered for one book and one pack, in numbers: "Window counts stand outside demand 3." "Adding and taking off are `add` and `sub`."
pub record Calls : Type 0 where
  pub between : Pair → Pair → Answer (List ℤ)
  pub adding : Pair → Pair → Answer (List ℤ)
  pub taking_off : Pair → Pair → Answer (List ℤ)

module _ (k : Calls) where
  -- "Working time .. is the duration that `between` gives, signed .., and summed and compared in exact nanoseconds": from a to b it is w
  abbrev pub WorkingTime : Pair → Pair → ℤ → Type 0
  WorkingTime a b w = (d : Pair) × (k.between a b ≡ gives (listed_pair d)) × (nanos_of d ≡ w)

  -- if adding d to t gives x, then
  pub record Added (t d x : Pair) : Type 0 where
    -- "x is the earliest of all instants to which working time from t is exactly d;"
    pub instant : IsInstant x
    pub exact : WorkingTime t x (nanos_of d)
    pub earliest : (y : Pair) → IsInstant y → WorkingTime t y (nanos_of d) → nanos_of x ≤ℤ nanos_of y
    -- "taking d off x is not refused and gives a z"
    pub z : Pair
    pub taken : k.taking_off x d ≡ gives (listed_pair z)
    -- "at or after t,"
    pub instant-z : IsInstant z
    pub after : nanos_of t ≤ℤ nanos_of z
    -- "with zero working time from t to z;"
    pub idle : WorkingTime t z (pos 0)
    -- "adding d to z gives x again;"
    pub again : k.adding z d ≡ gives (listed_pair x)
    -- "and for every e >= 0 where d + e is a duration, adding e to x gives the very instant or refusal that adding d + e to t gives."
    pub further : (e f : Pair) → IsDuration e → pos 0 ≤ℤ nanos_of e → IsDuration f → nanos_of f ≡ nanos_of d +ℤ nanos_of e → k.adding x e ≡ k.adding t f

  pub record Demand3 : Type 0 where
    -- "working time from a to c is that from a to b plus that from b to c, in whatever order they lie."
    pub additive : (a b c : Pair) → Given a → Given b → Given c → (x y : ℤ) × WorkingTime a b x × WorkingTime b c y × WorkingTime a c (x +ℤ y)
    -- "For every t and d > 0, if adding d to t gives x, then .."
    pub added : (t d x : Pair) → Given t → IsDuration d → pos 0 <ℤ nanos_of d → k.adding t d ≡ gives (listed_pair x) → Added t d x
    -- "If adding d to t is refused as out of range, there is no instant at all to which working time from t is d." "Out of range is 7."
    pub beyond : (t d : Pair) (place : ℕ) → Given t → IsDuration d → pos 0 <ℤ nanos_of d → k.adding t d ≡ refuses 7 place
        → (y : Pair) → IsInstant y → WorkingTime t y (nanos_of d) → ⊥

-- the numbers that the definitions give
abbrev pub adding : List ℕ → List ℕ → Pair → Pair → Answer (List ℤ)
adding book pack t d = said (add book pack t.sec t.ns d.sec d.ns)

abbrev pub taking_off : List ℕ → List ℕ → Pair → Pair → Answer (List ℤ)
taking_off book pack t d = said (sub book pack t.sec t.ns d.sec d.ns)

abbrev pub as_defined : List ℕ → List ℕ → Calls
as_defined book pack = record {
  between = λ a b. said (between book pack a.sec a.ns b.sec b.ns);
  adding = adding book pack;
  taking_off = taking_off book pack;
}

-- ---- the proof, which proofs/Holds.antt ends

-- between, signed, as a difference of two numbers, one of which is zero
module _ (s : Schedule) where
  time-back : (a b : ℕ) → b ≤ a → time s a b ≡ 0
  unfolding time_from
  time-back a b h = let e : begun (b - a) ≡ 0 = omega arith in rw e

  time-signed : (m n : ℕ) → signed (ltb n m) (time_between s (min m n) (max m n)) ≡ diff (time s m n) (time s n m)
  time-signed m n = go (dec_le m n)
    where
      go : Dec (m ≤ n) → signed (ltb n m) (time_between s (min m n) (max m n)) ≡ diff (time s m n) (time s n m)
      go (yes h) =
          let a : min m n ≡ m = omega arith in let b : max m n ≡ n = omega arith in
          rw (le-ltb n m h, a, b, time-back n m h) (pos-diff (time s m n))
      go (no h) =
          let a : min m n ≡ n = omega arith in let b : max m n ≡ m = omega arith in
          rw (lt-ltb n m (omega arith), a, b, time-back m n (omega arith)) (neg-pos (time s n m))

  -- a move's numbers
  moved-said : (w : Way) (t n : ℕ) → said (moved w s t n) ≡ (move w s t n >>= λ x. gives (instant x))
  unfolding moved
  moved-said w t n = go (search w s t n) (λ x. _)
    where
      go : (r : Answer ℕ) (f : ℕ → Option (ℕ × ℕ)) → said (r >>= λ x. gives (record { values = instant (at w t x); windows = f x })) ≡ ((r >>= λ x. gives (at w t x)) >>= λ x. gives (instant x))
      go (gives x) f = refl
      go (refuses k p) f = refl

pub gives_of : {A : Type 0} (r : Answer ℕ) (f : ℕ → A) (v : A) → (r >>= λ x. gives (f x)) ≡ gives v → (x : ℕ) × (r ≡ gives x) × (f x ≡ v)
gives_of (gives x) f v e = (x, refl, cc)
gives_of (refuses n p) f v e = never (cc)

pub refuses-of : {A : Type 0} (r : Answer ℕ) (f : ℕ → A) (n p : ℕ) → (r >>= λ x. gives (f x)) ≡ refuses n p → r ≡ refuses n p
refuses-of (gives x) f n p e = never (cc)
refuses-of (refuses m q) f n p e = cc

same-nanos : (c d : Pair) → ◌≡◌ {A = Answer (List ℤ)} (gives (listed_pair c)) (gives (listed_pair d)) → nanos_of c ≡ nanos_of d
same-nanos c d e = let f : c.sec ≡ d.sec = cc in let g : c.ns ≡ d.ns = cc in rw (f, g)

module _ (book pack : List ℕ) (s : Schedule) (e : build book pack ≡ gives s) where
  module _ (a b : Pair) (m n : ℕ) (p : At a m) (q : At b n) where
    abbrev working_time : Duration
    working_time = record { minus = ltb n m; size = time_between s (min m n) (max m n) }

    between-said : said (between book pack a.sec a.ns b.sec b.ns) ≡ gives (listed_pair (length_of working_time))
    unfolding between_call
    between-said = rw (e, at_read a m p, at_read b n q) (ap gives (length-shown working_time))

    working-time-nanos : nanos_of (length_of working_time) ≡ diff (time s m n) (time s n m)
    working-time-nanos = length-nanos working_time ∙ time-signed s m n

    pub time-is : WorkingTime (as_defined book pack) a b (diff (time s m n) (time s n m))
    time-is = (length_of working_time, between-said, working-time-nanos)

    is-time : (w : ℤ) → WorkingTime (as_defined book pack) a b w → w ≡ diff (time s m n) (time s n m)
    is-time w h = sym h.2 ∙ same-nanos h.0 (length_of working_time) (sym h.1 ∙ between-said) ∙ working-time-nanos

    -- a positive working time goes forward
    pub time-pos : (k : ℕ) → 0 < k → WorkingTime (as_defined book pack) a b (pos k) → time s m n ≡ k
    time-pos k h w = go (dec_le m n)
      where
        f : time s m n ≡ time s n m + k
        f = nat-diff (time s m n) (time s n m) k (is-time (pos k) w)

        go : Dec (m ≤ n) → time s m n ≡ k
        go (yes o) = let g = time-back s n m o in let i = f in omega arith
        go (no o) = absurd (let g = time-back s m n (omega arith) in let i = f in omega arith)

    -- forward it is the time
    pub time-on : m ≤ n → WorkingTime (as_defined book pack) a b (pos (time s m n))
    time-on h = (length_of working_time, between-said, working-time-nanos ∙ rw (time-back s n m h) (sym (pos-diff (time s m n))))

  -- what adding and taking off a duration that is not negative says
  module _ (t d : Pair) (m n : ℕ) (p : At t m) (q : NotBelowZero d n) where
    pub adding-is : adding book pack t d ≡ (move on s m n >>= λ x. gives (instant x))
    unfolding move_call
    adding-is = rw (e, at_read t m p, q.read) (moved-said s on m n)

    pub taking-is : taking_off book pack t d ≡ (move back s m n >>= λ x. gives (instant x))
    unfolding move_call
    taking-is = rw (e, at_read t m p, q.read) (moved-said s back m n)

-- an instant given, as a number
pub given-at : (p : Pair) → Given p → (t : ℕ) × (At p t) × (counted.since ≤ t)
given-at p g = let a = instant-at p g.instant in (a.0, a.1, (let h = at-since p a.0 a.1 g.since in omega arith))

not_negative : (z : ℤ) → pos 0 <ℤ z → pos 0 ≤ℤ z
not_negative (pos n) h = le_z_yes (le→leb 0 n (omega arith))
not_negative (negsuc n) h = absurd h.lt

-- a duration above zero, as a number
pub positive : (d : Pair) → IsDuration d → pos 0 <ℤ nanos_of d → (n : ℕ) × (NotBelowZero d n) × (0 < n)
positive d i h = let a = not-below-zero d i (not_negative (nanos_of d) h) in (a.0, a.1, ltb→lt 0 a.0 (rw a.1.size at h.lt))
