-- The loop of `between_into`: its invariant, and that a turn keeps it. Assumes nothing.
use mathlib.Core.Path.{◌≡◌, refl, sym, ◌∙◌, ap}
use mathlib.Core.Bool.{Bool, true, false, ◌&&◌}
use mathlib.Core.Option.{Option, none, some}
use Prim.Native.Nat.{ℕ, ◌+◌, ◌*◌, ◌-◌, ◌≤◌, ◌<◌, min}
use native.Mathlib.Nat.{mul-le-mul_left}
use native.Mathlib.Omega.{arith}
use lib.Dec.{eqb}
use Rattle.model.specs.Basic.{given}
use Rattle.model.specs.Instant.{week, last_instant}
use Rattle.instant.specs.Instant.{most}
use Rattle.model.specs.Blocks.{total}
use Rattle.model.specs.Working.{Schedule, working}
use Rattle.model.specs.Walk.{time_between}
use Rattle.model.specs.Skip.{repeats, needed_between}
use Rattle.laws_skip.specs.Skips.{Summed, summed, may_reuse}
use Rattle.laws_skip.specs.Loops.{time_rest, plus, time-done, time-start, time-resolves, time-run}
use Rattle.laws_skip.specs.Schedules.{between-skipping, between-exact, working-most}
use Rattle.laws_skip.specs.Books.{BuiltWell}
use Rattle.std.specs.Bool.{then_some}
use Rattle.std.specs.Prelude as std
use Rattle.instant.specs.Instant.{nanos, Exact}
use Rattle.instant.specs.declared.Instant.{Instant}
use Rattle.walk_between.specs.Sums.{kept_is, Reused}

-- ---- the loop

-- the sum with the time of the window from lo to hi fits
pub sum_fits : (s : Schedule) (lo hi sum now : ℕ) → now ≡ total (working s lo hi) → lo ≤ hi → hi ≤ last_instant → sum ≤ lo → sum + now < most
sum_fits s lo hi sum now e h k i = let m = working-most s lo hi h in omega arith

plus-plus : (s c t k : ℕ) (r : Summed) → plus s c (plus t k r) ≡ plus (s + t) (c + k) r
plus-plus s c t k r = let p : s + (t + r.time) ≡ s + t + r.time = omega arith in let q : c + (k + r.count) ≡ c + k + r.count = omega arith in λ i. record { time = p i; count = q i }

plus-nothing : (r : Summed) → plus 0 0 r ≡ r
plus-nothing r = let p : 0 + r.time ≡ r.time = omega arith in let q : 0 + r.count ≡ r.count = omega arith in λ i. record { time = p i; count = q i }

-- what is summed up to lo, in how many windows, and the time of the window before where that is kept
pub record Adding (s : Schedule) (a b lo sum windows : ℕ) (kept : Option ℕ) : Type 0 where
  pub from : a ≤ lo
  pub upto : lo ≤ b
  pub part : sum ≤ lo - a
  pub small : (t : ℕ) → kept ≡ some t → t ≤ week
  pub few : lo < b → windows * week ≤ lo - a
  pub same : plus sum windows (time_rest (working s) (repeats s) lo b kept) ≡ time_rest (working s) (repeats s) a b none

pub adding-starts : (s : Schedule) (a b : ℕ) → a ≤ b → Adding s a b a 0 0 none
adding-starts s a b h = record {
  from = omega arith;
  upto = h;
  part = omega arith;
  small = λ t e. absurd (no t e);
  few = λ k. omega arith;
  same = plus-nothing (time_rest (working s) (repeats s) a b none);
}
  where
    no : (t : ℕ) → none ≡ some t → ⊥
    no t e = cc

-- windows that are skipped
module _ (s : Schedule) (a b lo sum windows : ℕ) (kept : Option ℕ) (m : Adding s a b lo sum windows kept) (n t : ℕ) (q : kept ≡ some t) (k : Reused (repeats s) lo b n) where
  -- their time is no more than their length
  pub run-most : n * t ≤ n * week
  run-most = mul-le-mul_left n (m.small t q)

  pub adding-reuses : (hi sum' : ℕ) → hi ≡ lo + n * week → sum' ≡ sum + n * t → Adding s a b hi sum' windows kept
  adding-reuses hi sum' e f =
      let i = m.from in let x = m.part in let y = run-most in let r = k.inside in let j = k.some in let w = m.few (omega arith) in
      record {
        from = omega arith;
        upto = omega arith;
        part = omega arith;
        small = m.small;
        few = λ u. omega arith;
        same = rw (e, f) moved;
      }
    where
      moved : plus (sum + n * t) windows (time_rest (working s) (repeats s) (lo + n * week) b kept) ≡ time_rest (working s) (repeats s) a b none
      moved =
          let c : windows + 0 ≡ windows = omega arith in
          let old : plus sum windows (time_rest (working s) (repeats s) lo b (some t)) ≡ time_rest (working s) (repeats s) a b none = rw q at m.same in
          let one = time-run (working s) (repeats s) n lo b t k.inside k.each in
          let two = plus-plus sum windows (n * t) 0 (time_rest (working s) (repeats s) (lo + n * week) b (some t)) in
          rw q ((rw c at (sym two)) ∙ ap (plus sum windows) (sym one) ∙ old)

given-some : (b : Bool) (n t : ℕ) → given b n ≡ some t → t ≡ n
given-some true n t e = cc
given-some false n t e = cc

module _ (s : Schedule) (a b lo sum windows : ℕ) (kept : Option ℕ) (m : Adding s a b lo sum windows kept) (h : lo < b) (hi : ℕ) (e : hi ≡ min (lo + week) b)
    (no : may_reuse kept (eqb (min (lo + week) b - lo) week && repeats s lo) ≡ false) where
  -- one that is resolved
  pub adding-resolves : (sum' now : ℕ) → now ≡ total (working s lo hi) → sum' ≡ sum + now → (kept' : Option ℕ) → kept' ≡ given (eqb (hi - lo) week) now
      → Adding s a b hi sum' (windows + 1) kept'
  adding-resolves sum' now u f kept' v =
      let i = m.from in let j = m.upto in let x = m.part in let n = m.few h in
      let k = working-most s lo hi (omega arith) in
      record {
        from = omega arith;
        upto = omega arith;
        part = omega arith;
        small = λ t w. let z = given-some (eqb (hi - lo) week) now t (sym v ∙ w) in omega arith;
        few = λ z. omega arith;
        same = rw (f, v, u) (moved e);
      }
    where
      moved : hi ≡ min (lo + week) b
          → plus (sum + total (working s lo hi)) (windows + 1) (time_rest (working s) (repeats s) hi b (given (eqb (hi - lo) week) (total (working s lo hi)))) ≡ time_rest (working s) (repeats s) a b none
      moved g =
          let one = time-resolves (working s) (repeats s) lo b kept h no in
          rw g
          (sym (plus-plus sum windows (total (working s lo (min (lo + week) b))) 1
          (time_rest (working s) (repeats s) (min (lo + week) b) b (given (eqb (min (lo + week) b - lo) week) (total (working s lo (min (lo + week) b))))))
          ∙ ap (plus sum windows) (sym one) ∙ m.same)

module _ (s : Schedule) (well : BuiltWell s) (a b lo sum windows : ℕ) (kept : Option ℕ) (m : Adding s a b lo sum windows kept) (h : b ≤ lo) (k : a ≤ b) where
  all-added : plus sum windows (summed 0 0) ≡ time_rest (working s) (repeats s) a b none
  all-added = ap (plus sum windows) (sym (time-done (working s) (repeats s) lo b kept h)) ∙ m.same

  pub adding-time : sum ≡ time_between s a b
  adding-time =
      let p : sum + 0 ≡ time_between s a b = ap (λ (r : Summed). r.time) (all-added ∙ time-start (working s) (repeats s) a b) ∙ between-skipping s well.ok well.weekly a b k in
      omega arith

  pub adding-count : windows ≡ needed_between s a b
  adding-count =
      let p : windows + 0 ≡ needed_between s a b = ap (λ (r : Summed). r.count) (all-added ∙ time-start (working s) (repeats s) a b) ∙ between-exact s well.ok well.weekly a b k in
      omega arith

-- ---- the time that is kept

-- its nanoseconds are less than a second
abbrev pub KeptExact : std.Option Instant → Type 0
KeptExact std.None = Unit {0}
KeptExact (std.Some time) = Exact time

pub keeps-time : (o : std.Option Instant) (whole : Bool) (time : Instant) → o ≡ then_some whole time → (b : Bool) → whole ≡ b → (n : ℕ) → nanos time ≡ n → kept_is o ≡ given b n
keeps-time o true time e b f n g = rw (e, ← f, g)
keeps-time o false time e b f n g = rw (e, ← f)

pub keeps-exact : (o : std.Option Instant) (whole : Bool) (time : Instant) → o ≡ then_some whole time → Exact time → KeptExact o
keeps-exact o true time e h = rw e h
keeps-exact o false time e h = rw e tt
