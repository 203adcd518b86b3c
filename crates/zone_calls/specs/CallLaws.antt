-- Each answer of the calls on a zone file, from what the code has found.
use Rattle.std.proofs.Math.Bool.{true}
use Rattle.std.specs.Prelude as std
use Rattle.std.specs.Prelude.{Some, None, false, not, ◌&&◌, ◌||◌, ◌≡◌, refl, List, [], ◌∷◌, ◌++◌, ltb, ℤ, negsuc, nat_abs}
use Rattle.std.proofs.Common.{sym, ◌∙◌, SFits, to_z, of_z, ltb-true, ltb-false, lt-ltb, to_z-of_z}
use Rattle.std.proofs.Math.Path.{ap}
use Rattle.std.proofs.Math.Option.{Option, none, some, map}
use Prim.Native.Nat.{ℕ, ◌+◌, ◌*◌, ◌-◌, ◌/◌, ◌^◌, min, ◌≤◌, ◌<◌}
use native.Mathlib.Omega.{arith}
use Rattle.std.proofs.Math.IntN.{pos}
use Rattle.std.specs.Int.{w32, w64}
use Rattle.model.specs.Answer.{gives, refuses}
use Rattle.model.specs.Calendar.{is_leap, is_date, day_number}
use Rattle.model.specs.DayNumber.{signed_day, day_of}
use Rattle.model.specs.Instant.{second, instant_of, instant, is_below_0, last_second, day_seconds}
use Rattle.model.specs.Tzif as model
use Rattle.model.specs.Tzif.{zone_of}
use Rattle.model.specs.Offset.{offset_bias}
use Rattle.model.specs.Zone.{offset_at, resolve}
use Rattle.laws_base.specs.Test.{by-test, and_both, clash, never}
use Rattle.laws_calendar.specs.Dates.{date-facts, at-most-31, day-from, day-to}
use Rattle.laws_calendar.specs.Numbers.{day-of-number, number-within, is-fits, day-bits}
use Rattle.civil.specs.Dates.{day_read, time_read}
use Rattle.civil.specs.declared.Date.{Date}
use Rattle.instant.specs.Instant.{nanos}
use Rattle.instant.specs.declared.Instant.{Instant}
use Rattle.instant_signed.specs.Signed.{biased, unbiased, sub-nat, sub-neg, biased-plus, biased-minus, unbiased-low, unbiased-high}
use Rattle.instant_signed.specs.Reads.{seconds_from}
use Rattle.zone.specs.Zones.{zone_is, zone_read}
use Rattle.zone.specs.declared.Zone.{Zone}
use Rattle.model.specs.NextChange.{next_change}
use Rattle.zone_next_change.specs.NextIs.{the_next}
use Rattle.zone_next_change.specs.NextLaws.{next-in}
use Rattle.model.specs.ZoneCalls.{zone_in, east, offset_call, change_call, year_from, day_given, time_given}
use Rattle.model.specs.Marks.{resolve_mark, resolve_marked_call}
use Rattle.zone_calls.specs.Given.{clipped_to, day_answer, year_zero, year_after, month_after, day_after}
use Rattle.instant_signed.specs.InstantLaws.{ReadsInstant, instant-written}
use Rattle.zone_local.specs.Dates.{IsDay}

-- ---- what the file is

module _ (f : List ℕ) {r : std.Option Zone} (e : zone_read f r ≡ zone_of f) where
  pub file-no : r ≡ None → zone_in f ≡ refuses 5 0
  file-no u = let z : zone_of f ≡ none = sym e ∙ ap (zone_read f) u in rw z

  pub file-yes : {z : Zone} → r ≡ Some z → zone_in f ≡ gives (zone_is f z)
  file-yes {z} u = let y : zone_of f ≡ some (zone_is f z) = sym e ∙ ap (zone_read f) u in rw y

-- ---- the offset and the next change

pub east-is : (o k : ℕ) → k + offset_bias ≡ 2 ^ 63 + o → unbiased k ≡ east o
unfolding east
east-is o k e =
    by-test (ltb o offset_bias)
    (λ t. let h = ltb-true o offset_bias t in unbiased-low k (omega arith) ∙ ap negsuc (omega arith) ∙ sym (sub-neg o offset_bias h))
    (λ t. let h = ltb-false o offset_bias t in unbiased-high k (omega arith) ∙ ap pos (omega arith) ∙ sym (sub-nat o offset_bias h))

module _ (f : List ℕ) (s n : ℤ) where
  pub offset-unusable : zone_in f ≡ refuses 5 0 → refuses 5 0 ≡ offset_call f s n
  unfolding offset_call
  offset-unusable u = rw u

  pub change-unusable : zone_in f ≡ refuses 5 0 → refuses 5 0 ≡ change_call f s n
  unfolding change_call
  change-unusable u = rw u

  module _ {z : model.Zone} (u : zone_in f ≡ gives z) where
    pub offset-out : instant_of s n ≡ refuses 8 0 → refuses 8 0 ≡ offset_call f s n
    unfolding offset_call
    offset-out i = rw (u, i)

    pub change-out : instant_of s n ≡ refuses 8 0 → refuses 8 0 ≡ change_call f s n
    unfolding change_call
    change-out i = rw (u, i)

    module _ {t : Instant} (i : ReadsInstant s n t) where
      at_second : nanos t / second ≡ t.sec
      at_second = omega (arith, i.in-range.ns)

      pub offset-is : {o : ℕ} {x : ℤ} → o ≡ offset_at z t.sec → x ≡ east o → gives x ≡ offset_call f s n
      unfolding offset_call
      offset-is h k = rw (u, i.means, at_second) (ap gives (k ∙ ap east h))

      change-is : {o : Option ℕ} → o ≡ next_change z t.sec → gives (map (λ v. instant (v * second)) o) ≡ change_call f s n
      unfolding change_call
      change-is h = rw (u, i.means, at_second, h)

      pub change-never : {m : std.Option ℕ} → the_next m ≡ next_change z t.sec → m ≡ None → gives none ≡ change_call f s n
      change-never h k = change-is (sym (ap the_next k) ∙ h)

      pub change-listed : {m : std.Option ℕ} {v : ℕ} {l : List ℤ} → the_next m ≡ next_change z t.sec → m ≡ Some v → l ≡ instant (nanos (record { sec = v; ns = 0 })) → gives (some l) ≡ change_call f s n
      change-listed {m} {v} {l} h k e =
          let p : nanos (record { sec = v; ns = 0 }) ≡ v * second = omega arith in
          ap (λ (w : List ℤ). gives (some w)) (e ∙ ap instant p) ∙ change-is (sym (ap the_next k) ∙ h)

      pub change-at : {m : std.Option ℕ} {v : ℕ} {a b : ℤ} → the_next m ≡ next_change z t.sec → m ≡ Some v → a ≡ seconds_from v → b ≡ pos 0
          → gives (some (a ∷ b ∷ [])) ≡ change_call f s n
      change-at {m} {v} {a} {b} h k l j = change-listed h k (instant-written (record { sec = v; ns = 0 }) _ (omega arith) refl l j)

-- a change lies in the range
pub change-in : (z : model.Zone) (u : ℕ) {n : std.Option ℕ} {v : ℕ} → the_next n ≡ next_change z u → n ≡ Some v → v ≤ last_second
change-in z u {n} {v} h k = next-in z u v (sym h ∙ ap the_next k)

-- ---- numbers with a cap

pub cap-low : (z : ℤ) (cap : ℕ) → SFits w64 z → biased z < 2 ^ 63 → cap ≡ clipped_to z cap
unfolding clipped_to
cap-low (pos n) cap f h = absurd (omega (arith, biased-plus n))
cap-low (negsuc n) cap f h = refl

pub cap-high : (z : ℤ) (cap : ℕ) → SFits w64 z → cap < biased z - 2 ^ 63 → cap ≡ clipped_to z cap
unfolding clipped_to
cap-high (pos n) cap f h = omega (arith, biased-plus n)
cap-high (negsuc n) cap f h = refl

pub cap-is : (z : ℤ) (cap : ℕ) {x : ℕ} → SFits w64 z → 2 ^ 63 ≤ biased z → x ≤ cap → x ≡ biased z - 2 ^ 63 → x ≡ clipped_to z cap
unfolding clipped_to
cap-is (pos n) cap f h k e = omega (arith, biased-plus n)
cap-is (negsuc n) cap f h k e = absurd (omega (arith, biased-minus n f.sfits, f.sfits))

pub year-low : (z : ℤ) → SFits w64 z → biased z < 2 ^ 63 - year_zero → 0 ≡ min (year_from z) year_after
year-low (pos n) f h = absurd (omega (arith, biased-plus n))
year-low (negsuc n) f h = omega (arith, biased-minus n f.sfits, f.sfits)

pub year-high : (z : ℤ) → SFits w64 z → 2 ^ 63 + year_zero < biased z → year_after ≡ min (year_from z) year_after
year-high (pos n) f h = omega (arith, biased-plus n)
year-high (negsuc n) f h = absurd (omega (arith, biased-minus n f.sfits, f.sfits))

pub year-is : (z : ℤ) {x : ℕ} → SFits w64 z → biased z ≤ 2 ^ 63 + year_zero → x + 2 ^ 63 ≡ biased z + year_zero → x ≡ min (year_from z) year_after
year-is (pos n) f h e = omega (arith, biased-plus n)
year-is (negsuc n) f h e = omega (arith, biased-minus n f.sfits, f.sfits)

-- what is below the cap is the number itself
kept : (z : ℤ) (cap : ℕ) → clipped_to z cap < cap → z ≡ pos (clipped_to z cap)
unfolding clipped_to
kept (pos n) cap h = ap pos (omega arith)
kept (negsuc n) cap h = absurd (omega arith)

-- ---- the date

-- the date that the code makes of three numbers
abbrev date_given : ℤ → ℤ → ℤ → Date
date_given y m d = record { year = min (year_from y) year_after; month = clipped_to m month_after; day = clipped_to d day_after }

on-day : (y : ℤ) (m d : ℕ) → is_date (year_from y) m d ≡ true → gives (day_of (signed_day (day_number (year_from y) m d))) ≡ day_given y (pos m) (pos d)
unfolding day_given
on-day y m d t = rw t (ap gives (day-of-number (day_number (year_from y) m d)))

module _ (y m d : ℤ) where
  is-day : is_date (min (year_from y) year_after) (clipped_to m month_after) (clipped_to d day_after) ≡ true → day_answer (day_read (date_given y m d)) ≡ day_given y m d
  unfolding day_read
  is-day t =
      let v = date-facts {y = min (year_from y) year_after} {m = clipped_to m month_after} {d = clipped_to d day_after} t in
      let h : clipped_to d day_after < day_after = omega (arith, at-most-31 (is_leap (min (year_from y) year_after)) (clipped_to m month_after) v.month-high) in
      let p : min (year_from y) year_after ≡ year_from y = omega arith in
      let a : m ≡ pos (clipped_to m month_after) = kept m month_after (omega arith) in
      let b : d ≡ pos (clipped_to d day_after) = kept d day_after h in
      let u : is_date (year_from y) (clipped_to m month_after) (clipped_to d day_after) ≡ true = rw p at t in
      rw (t, p) (on-day y (clipped_to m month_after) (clipped_to d day_after) u ∙ (λ i. day_given y (sym a i) (sym b i)))

no-day : (y m d : ℤ) → is_date (min (year_from y) year_after) (clipped_to m month_after) (clipped_to d day_after) ≡ false → refuses 8 0 ≡ day_given y m d
unfolding day_given clipped_to
no-day y (negsuc m) d e = refl
no-day y (pos m) (negsuc d) e = refl
no-day y (pos m) (pos d) e =
    by-test (is_date (year_from y) m d)
    (λ t.
    let v = date-facts {y = year_from y} {m = m} {d = d} t in
    let p : min (year_from y) year_after ≡ year_from y = omega arith in
    let a : min m month_after ≡ m = omega arith in
    let b : min d day_after ≡ d = omega (arith, at-most-31 (is_leap (year_from y)) m v.month-high) in
    clash (is_date (year_from y) m d) t (rw (p, a, b) at e))
    (λ t. rw t)

either-day : (y m d : ℤ) → day_answer (day_read (date_given y m d)) ≡ day_given y m d
unfolding day_read
either-day y m d = by-test (is_date (min (year_from y) year_after) (clipped_to m month_after) (clipped_to d day_after)) (is-day y m d) (λ t. rw t (no-day y m d t))

pub day-is : (y m d : ℤ) {a b c : ℕ} → a ≡ min (year_from y) year_after → b ≡ clipped_to m month_after → c ≡ clipped_to d day_after → {r : std.Option ℤ}
    → r ≡ day_read (record { year = a; month = b; day = c }) → day_answer r ≡ day_given y m d
day-is y m d p q o e = ap day_answer (e ∙ (λ i. day_read (record { year = p i; month = q i; day = o i }))) ∙ either-day y m d

-- the day of a date lies in the range
pub given-day-in : (y m d : ℤ) {n : ℕ} → day_given y m d ≡ gives n → IsDay n
unfolding day_given
given-day-in y m d {n} e =
    by-test (not (is_below_0 m || is_below_0 d) && is_date (year_from y) (nat_abs m) (nat_abs d))
    (λ t.
    let i = and_both (not (is_below_0 m || is_below_0 d)) (is_date (year_from y) (nat_abs m) (nat_abs d)) t in
    let v = date-facts {y = year_from y} {m = nat_abs m} {d = nat_abs d} i.1 in
    let g : gives (day_number (year_from y) (nat_abs m) (nat_abs d)) ≡ gives n = rw t at e in
    let p : day_number (year_from y) (nat_abs m) (nat_abs d) ≡ n = cc in
    record { low = omega (arith, day-from v); high = omega (arith, day-to v) })
    (λ t. let g : refuses 8 0 ≡ gives n = rw t at e in never (cc))

-- a date of 64-bit numbers: refused, or its day
module _ (y m d : ℤ) (fy : SFits w64 y) (fm : SFits w64 m) (fd : SFits w64 d) where
  same-date : day_given (to_z w64 (of_z w64 y)) (to_z w64 (of_z w64 m)) (to_z w64 (of_z w64 d)) ≡ day_given y m d
  same-date = λ i. day_given (to_z-of_z {w = w64} fy i) (to_z-of_z {w = w64} fm i) (to_z-of_z {w = w64} fd i)

  module _ {r : std.Option ℤ} (e : day_answer r ≡ day_given (to_z w64 (of_z w64 y)) (to_z w64 (of_z w64 m)) (to_z w64 (of_z w64 d))) where
    pub date-no : r ≡ None → day_given y m d ≡ refuses 8 0
    date-no h = sym (e ∙ same-date) ∙ ap day_answer h

    pub date-yes : {z : ℤ} → r ≡ Some z → day_given y m d ≡ gives (day_of z)
    date-yes h = sym (e ∙ same-date) ∙ ap day_answer h

    -- whose number goes on through 32 bits unchanged
    pub date-on : {z : ℤ} → r ≡ Some z → day_given y m d ≡ gives (day_of (to_z w32 (of_z w32 z)))
    date-on {z} h =
        let v = given-day-in y m d (date-yes h) in
        date-yes h ∙ ap gives (sym (day-bits (is-fits (number-within z (omega (arith, v.low)) (omega (arith, v.high))))))

-- ---- the time of day

-- a time of day that is read has its seconds and nanoseconds
pub time-in : (s n : ℕ) {y : std.Option ℕ} {k : ℕ} → y ≡ time_read s n → y ≡ Some k → (s < day_seconds) × (n < second)
unfolding time_read
time-in s n {y} {k} p q =
    by-test (ltb s day_seconds && ltb n second)
    (λ e. let h = and_both (ltb s day_seconds) (ltb n second) e in (ltb-true s day_seconds h.0, ltb-true n second h.1))
    (λ e. let g : None ≡ Some k = (rw e at (sym p ∙ q)) in never (cc))

at-time : (s n : ℕ) → s < day_seconds → n < second → time_given (pos s) (pos n) ≡ gives (s * second + n)
unfolding time_given
at-time s n h k = simp (lt-ltb s day_seconds h, lt-ltb n second k)

is-time : (s n : ℤ) → clipped_to s day_seconds < day_seconds → clipped_to n second < second → time_given s n ≡ gives (clipped_to s day_seconds * second + clipped_to n second)
is-time s n h k = (λ i. time_given (kept s day_seconds h i) (kept n second k i)) ∙ at-time (clipped_to s day_seconds) (clipped_to n second) h k

no-time : (s n : ℤ) → time_read (clipped_to s day_seconds) (clipped_to n second) ≡ None → time_given s n ≡ refuses 8 0
unfolding time_given time_read clipped_to
no-time (negsuc s) n e = refl
no-time (pos s) (negsuc n) e = refl
no-time (pos s) (pos n) e =
    by-test (ltb s day_seconds && ltb n second)
    (λ t.
    let h = and_both (ltb s day_seconds) (ltb n second) t in
    let a : s < day_seconds = ltb-true s day_seconds h.0 in
    let b : n < second = ltb-true n second h.1 in
    let p : min s day_seconds ≡ s = omega arith in
    let q : min n second ≡ n = omega arith in
    let g : Some (s * second + n) ≡ None = rw (p, q, t) at e in
    never (cc))
    (λ t. rw t)

-- a time of 64-bit numbers: refused, or the nanoseconds of its day
module _ (s n : ℤ) (f : SFits w64 s) (g : SFits w64 n) {a b : ℕ} (i : a ≡ clipped_to (to_z w64 (of_z w64 s)) day_seconds)
    (j : b ≡ clipped_to (to_z w64 (of_z w64 n)) second) {w : std.Option ℕ} (e : w ≡ time_read a b) where
  seconds-are : a ≡ clipped_to s day_seconds
  seconds-are = i ∙ (λ k. clipped_to (to_z-of_z {w = w64} f k) day_seconds)

  rest-is : b ≡ clipped_to n second
  rest-is = j ∙ (λ k. clipped_to (to_z-of_z {w = w64} g k) second)

  pub time-no : w ≡ None → time_given s n ≡ refuses 8 0
  time-no h = no-time s n ((λ k. time_read (sym seconds-are k) (sym rest-is k)) ∙ sym e ∙ h)

  pub time-yes : {k : ℕ} → w ≡ Some k → time_given s n ≡ gives (a * second + b)
  time-yes h =
      let x = time-in a b e h in
      let p = seconds-are in
      let q = rest-is in
      is-time s n (omega arith) (omega arith) ∙ (λ k. gives (sym seconds-are k * second + sym rest-is k))

-- ---- the instant and the mark

module _ (f : List ℕ) (y m d s n : ℤ) where
  pub resolve-unusable : zone_in f ≡ refuses 5 0 → refuses 5 0 ≡ resolve_marked_call f y m d s n
  unfolding resolve_marked_call
  resolve-unusable u = rw u

  module _ {z : model.Zone} (u : zone_in f ≡ gives z) where
    pub resolve-no-date : day_given y m d ≡ refuses 8 0 → refuses 8 0 ≡ resolve_marked_call f y m d s n
    unfolding resolve_marked_call
    resolve-no-date p = rw (u, p)

    module _ {day : ℕ} (p : day_given y m d ≡ gives day) where
      pub resolve-no-time : time_given s n ≡ refuses 8 0 → refuses 8 0 ≡ resolve_marked_call f y m d s n
      unfolding resolve_marked_call
      resolve-no-time q = rw (u, p, q)

      pub resolve-listed : {k t : ℕ} {l : List ℤ} → time_given s n ≡ gives k → l ≡ instant t → t ≡ resolve z day k → {c : ℕ} → c ≡ resolve_mark z day k → gives (l ++ pos c ∷ []) ≡ resolve_marked_call f y m d s n
      unfolding resolve_marked_call
      resolve-listed q l h {c} e = rw (u, p, q, ← e) (ap (λ w. gives (w ++ pos c ∷ [])) (l ∙ ap instant h))

      pub resolve-at : {k : ℕ} (t : Instant) {a b : ℤ} → time_given s n ≡ gives k → t.ns < second → nanos t ≡ resolve z day k
          → a ≡ seconds_from t.sec → b ≡ pos t.ns → {c : ℕ} → c ≡ resolve_mark z day k → gives (a ∷ b ∷ pos c ∷ []) ≡ resolve_marked_call f y m d s n
      resolve-at t q h l a b {c} e = resolve-listed q (instant-written t _ h refl a b) l e
