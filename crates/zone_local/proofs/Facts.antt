-- The answers of the functions on one date, over plain numbers.
use Prim.Native.Nat.{ℕ, ◌+◌, ◌*◌, ◌-◌, ◌/◌, ◌%◌, ◌≤◌, ◌<◌, min, max}
use mathlib.Core.Path.{◌≡◌, refl, sym, ◌∙◌, ap, ap₂}
use mathlib.Core.Bool.{true, false}
use mathlib.Core.Logic.{◌⊎◌, inl, inr}
use mathlib.Core.List.{List, []}
use native.Mathlib.Omega.{arith}
use lib.Dec.{ltb}
use lib.IntN.{ℤ, pos, negsuc}
use borrow.Author.Tests.{lt-ltb, le-ltb, le-leb, lt-leb}
use Rattle.model.specs.Blocks.{Block as Block', block, put, clipped}
use Rattle.model.specs.Calendar.{first_day, last_day, day_of_year_zero}
use Rattle.model.specs.DayNumber.{day_of}
use Rattle.model.specs.Instant.{second, day, first_instant, last_instant, first_second, last_second, day_seconds}
use Rattle.model.specs.Tzif.{Zone}
use Rattle.model.specs.Offset.{offset_bias, greatest_offset}
use Rattle.model.specs.Zone.{offset_at, second_of, resolve}
use Rattle.model.specs.Working.{local_day, first_date, last_date, start_of, end_of}
use Rattle.model.specs.Marks.{beyond, mark_of, readings, resolve_mark, mark_by_end}
use Rattle.laws_base.specs.Test.{by-test}
use Rattle.laws_calendar.specs.Numbers.{IsDayNumber, number-within}
use Rattle.laws_zone.specs.Sound.{Sound}
use Rattle.laws_zone.specs.Zones.{fits-sound}
use Rattle.laws_zone.specs.Runs.{Run}
use Rattle.laws_demand3.specs.Local.{offset_nanos, offset-high}
use Rattle.laws_skip.specs.Steady.{less, till, const-date}
use Rattle.instant.specs.Instant.{nanos, InRange}
use Rattle.instant.specs.declared.Instant.{Instant}
use Rattle.zone.specs.Zones.{zone_is, ZoneOk}
use Rattle.zone.specs.declared.Zone.{Zone as Zone'}
use Rattle.civil.specs.Dates.{time_in, TimeFits}
use Rattle.civil.specs.declared.Time.{Time}
use Rattle.block.specs.Counted.{block_of}
use Rattle.block.specs.declared.Block.{Block}
use Rattle.zone_local.specs.Dates.{IsDay, during, range_end, piece_of, held, KeepsOffset, IsIn, till_time}

-- ---- the days that the code names by number

-- a date's day has a number
pub day-number : {z : ℤ} → IsDay (day_of z) → IsDayNumber z
day-number {z} d = number-within z (omega (arith, d.low)) (omega (arith, d.high))

pub third-day : day_of (negsuc 4371584) ≡ first_day + 2
unfolding day_of
third-day = refl

pub last-day : day_of (pos 2932896) ≡ last_day
unfolding day_of
last-day = refl

pub year-zero : day_of (negsuc 719527) ≡ day_of_year_zero
unfolding day_of
year-zero = refl

-- ---- local dates

pub local-is : (z : Zone) (sec ns o : ℕ) → ns < second → o ≡ offset_at z sec → (sec + o - offset_bias) / day_seconds ≡ local_day z (sec * second + ns)
unfolding local_day
local-is z sec ns o h e = let q : (sec * second + ns) / second ≡ sec = omega arith in rw (q, e)

module _ (z : Zone) (t d : ℕ) (e : d ≡ local_day z t) where
  pub first_back : first_day + 2 ≤ d → d - 2 ≡ first_date z t
  unfolding first_date
  first_back h = rw (← e, le-leb (first_day + 2) d h)

  pub first-here : d < first_day + 2 → d ≡ first_date z t
  unfolding first_date
  first-here h = rw (← e, lt-leb (first_day + 2) d h)

  pub last_on : d < last_day → d + 1 ≡ last_date z t
  unfolding last_date
  last_on h = rw (← e, lt-ltb d last_day h)

  pub last-here : last_day ≤ d → d ≡ last_date z t
  unfolding last_date
  last-here h = rw (← e, le-ltb d last_day h)

pub end-early : (d : ℕ) → d < day_of_year_zero → first_second * second + 0 ≡ range_end d
unfolding range_end
end-early d h = rw (lt-ltb d day_of_year_zero h)

pub end-late : (d : ℕ) → day_of_year_zero ≤ d → last_second * second + 999999999 ≡ range_end d
unfolding range_end
end-late d h = rw (le-ltb d day_of_year_zero h)

module _ (z : Zone) (d sec ns s : ℕ) (h : ns < second) (e : s ≡ second_of z (d * day_seconds + sec + offset_bias)) where
  quotient : (sec * second + ns) / second ≡ sec
  quotient = omega arith

  remainder : (sec * second + ns) % second ≡ ns
  remainder = omega arith

  pub resolve-kept : first_second ≤ s → s ≤ last_second → s * second + ns ≡ resolve z d (sec * second + ns)
  unfolding resolve
  resolve-kept a b = rw (quotient, remainder, ← e, le-leb first_instant (s * second + ns) (omega arith), le-leb (s * second + ns) last_instant (omega arith))

  resolve-early : s < first_second → range_end d ≡ resolve z d (sec * second + ns)
  unfolding resolve range_end
  resolve-early a = rw (quotient, remainder, ← e, lt-leb first_instant (s * second + ns) (omega arith))

  resolve-late : last_second < s → range_end d ≡ resolve z d (sec * second + ns)
  unfolding resolve range_end
  resolve-late a = rw (quotient, remainder, ← e, le-leb first_instant (s * second + ns) (omega arith), lt-leb (s * second + ns) last_instant (omega arith))

  pub resolve-out : (s < first_second) ⊎ (last_second < s) → range_end d ≡ resolve z d (sec * second + ns)
  resolve-out (inl a) = resolve-early a
  resolve-out (inr a) = resolve-late a

  -- its mark
  pub mark-kept : {m : ℕ} → first_second ≤ s → s ≤ last_second → m ≡ mark_of (readings z (d * day_seconds + sec + offset_bias)) → m ≡ resolve_mark z d (sec * second + ns)
  unfolding resolve_mark
  mark-kept a b q = rw (quotient, remainder, ← e, le-leb first_instant (s * second + ns) (omega arith), le-leb (s * second + ns) last_instant (omega arith)) q

  mark-early : s < first_second → beyond ≡ resolve_mark z d (sec * second + ns)
  unfolding resolve_mark
  mark-early a = rw (quotient, remainder, ← e, lt-leb first_instant (s * second + ns) (omega arith))

  mark-late : last_second < s → beyond ≡ resolve_mark z d (sec * second + ns)
  unfolding resolve_mark
  mark-late a = rw (quotient, remainder, ← e, le-leb first_instant (s * second + ns) (omega arith), lt-leb (s * second + ns) last_instant (omega arith))

  pub mark-out : (s < first_second) ⊎ (last_second < s) → beyond ≡ resolve_mark z d (sec * second + ns)
  mark-out (inl a) = mark-early a
  mark-out (inr a) = mark-late a

-- ---- the end of what a rule takes

module _ (z : Zone) (from to d t : ℕ) where
  pub end_same : ltb from to ≡ true → t ≡ resolve z d to → t ≡ end_of (during z from to) d
  unfolding end_of
  end_same h e = rw h e

  pub end-next : ltb from to ≡ false → d < last_day → t ≡ resolve z (d + 1) to → t ≡ end_of (during z from to) d
  unfolding end_of
  end-next h k e = rw (h, lt-ltb d last_day k) e

  pub end-last : ltb from to ≡ false → last_day ≤ d → t ≡ last_instant → t ≡ end_of (during z from to) d
  unfolding end_of
  end-last h k e = rw (h, le-ltb d last_day k) e

-- its mark
module _ (z : Zone) (from to d m : ℕ) where
  pub end-mark-same : ltb from to ≡ true → m ≡ resolve_mark z d to → m ≡ mark_by_end (during z from to) d
  unfolding mark_by_end
  end-mark-same h e = rw h e

  pub end-mark-next : ltb from to ≡ false → d < last_day → m ≡ resolve_mark z (d + 1) to → m ≡ mark_by_end (during z from to) d
  unfolding mark_by_end
  end-mark-next h k e = rw (h, lt-ltb d last_day k) e

  pub end-mark-last : ltb from to ≡ false → last_day ≤ d → m ≡ beyond → m ≡ mark_by_end (during z from to) d
  unfolding mark_by_end
  end-mark-last h k e = rw (h, le-ltb d last_day k) e

-- its second, counted from the start's date
pub till-same : (from ts tn : ℕ) → tn < second → ltb from (ts * second + tn) ≡ true → ts ≡ till_time from (ts * second + tn) / second
unfolding till_time
till-same from ts tn h t = rw t (omega arith)

pub till-next : (from ts tn : ℕ) → tn < second → ltb from (ts * second + tn) ≡ false → ts + day_seconds ≡ till_time from (ts * second + tn) / second
unfolding till_time
till-next from ts tn h t = rw t (omega arith)

pub till-small : (from ts tn : ℕ) → ts < day_seconds → tn < second → till_time from (ts * second + tn) / second < 2 * day_seconds
unfolding till_time
till-small from ts tn a b = by-test (ltb from (ts * second + tn)) (λ e. rw e (omega arith)) (λ e. rw e (omega arith))

pub start_is : (z : Zone) (from to d t : ℕ) → t ≡ resolve z d from → t ≡ start_of (during z from to) d
unfolding start_of
start_is z from to d t e = e

-- a block that `clip` gave is what the rule shows
pub piece_is : (z : Zone) (from to d lo hi s e : ℕ) (x : Block) → s ≡ start_of (during z from to) d → e ≡ end_of (during z from to) d
    → block_of x ≡ block (max s lo) (min e hi) → held x ≡ piece_of (during z from to) lo hi d
unfolding held piece_of clipped
piece_is z from to d lo hi s e x p q b = ap (λ (y : Block'). put y.start y.end []) b ∙ ap₂ (λ (m n : ℕ). put (max m lo) (min n hi) []) p q

-- ---- one offset

-- four days in seconds
abbrev four_days : ℕ
four_days = 345600

-- the window and the four days on either side lie in one run
pub kept_run : (z : Zone) (lo hi : Instant) (e o : ℕ) → InRange lo → InRange hi → first_second + four_days ≤ lo.sec → hi.sec ≤ last_second - four_days
    → o ≡ offset_at z (lo.sec - four_days) → Run (offset_at z) (lo.sec - four_days) e → hi.sec + four_days < e → KeepsOffset z (nanos lo) (nanos hi) o
unfolding offset_nanos
kept_run z lo hi e o i j p q r s t =
    let a = i.ns in let b = j.ns in
    record {
      low = λ h. omega arith;
      high = λ h. omega arith;
      same = λ h u x y. ap (λ (k : ℕ). k * second) (s.same (u / second) (omega arith) (omega arith) ∙ sym r);
    }

pub kept_small : (f : List ℕ) (z : Zone') (lo hi : Instant) (o : ℕ) → ZoneOk f z → KeepsOffset (zone_is f z) (nanos lo) (nanos hi) o → nanos lo ≤ nanos hi → 0 < o → o ≤ greatest_offset
kept_small f z lo hi o k q l h =
    let e = q.same h (nanos lo) (omega arith) (omega arith) in
    let b = offset-high (zone_is f z) (fits-sound (zone_is f z) k.fits) (nanos lo) in
    omega arith

pub plain-start : (o d fs fn base : ℕ) → o ≤ greatest_offset → first_day ≤ d → base ≡ d * day_seconds + offset_bias - o → (base + fs) * second + fn ≡ less (o * second) d (fs * second + fn)
plain-start o d fs fn base a b e = omega arith

pub plain-same : (from o d ts tn base : ℕ) → o ≤ greatest_offset → first_day ≤ d → base ≡ d * day_seconds + offset_bias - o → ltb from (ts * second + tn) ≡ true
    → (base + ts) * second + tn ≡ less (o * second) d (till_time from (ts * second + tn))
unfolding till_time
plain-same from o d ts tn base a b e t = rw t (omega arith)

pub plain-next : (from o d ts tn base : ℕ) → o ≤ greatest_offset → first_day ≤ d → base ≡ d * day_seconds + offset_bias - o → ltb from (ts * second + tn) ≡ false
    → (base + day_seconds + ts) * second + tn ≡ less (o * second) d (till_time from (ts * second + tn))
unfolding till_time
plain-next from o d ts tn base a b e t = rw t (omega arith)

time-below : (t : Time) → TimeFits t → time_in t < day
time-below t f = let a = f.seconds in let b = f.nanos in omega arith

-- the clipped block is the one that the offset gives
pub plain-piece : (f : List ℕ) (z : Zone') (from to : Time) (lo hi : Instant) (o d s e : ℕ) (x : Block) → ZoneOk f z → TimeFits from → TimeFits to
    → KeepsOffset (zone_is f z) (nanos lo) (nanos hi) o → IsIn (zone_is f z) lo hi d → 0 < o
    → s ≡ less (o * second) d (time_in from) → e ≡ less (o * second) d (till_time (time_in from) (time_in to))
    → block_of x ≡ block (max s (nanos lo)) (min e (nanos hi)) → held x ≡ piece_of (during (zone_is f z) (time_in from) (time_in to)) (nanos lo) (nanos hi) d
unfolding held piece_of clipped till_time till
plain-piece f z from to lo hi o d s e x k fa fb q i h p r b =
    let sound : Sound (zone_is f z) = fits-sound (zone_is f z) k.fits in
    let small = kept_small f z lo hi o k q i.order h in
    let l = q.low h in let u = q.high h in let n = i.order in
    ap (λ (y : Block'). put y.start y.end []) b ∙ ap₂ (λ (m n : ℕ). put (max m (nanos lo)) (min n (nanos hi)) []) p r
    ∙ sym (const-date (during (zone_is f z) (time_in from) (time_in to)) (record { sound = sound; from-day = time-below from fa; to-day = time-below to fb })
    (nanos lo - 4 * day) (nanos hi + 4 * day) (o * second) (omega arith) u (q.same h) (omega arith) (omega arith)
    (nanos lo) (nanos hi) d (omega arith) n (omega arith) i.first i.last)
