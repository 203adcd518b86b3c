-- The calls' answers are numbers that fit: a refusal's place lies in the book, and a count of windows is at most that of the whole range.
use Rattle.std.specs.Prelude.{Bool, not, ◌&&◌, ◌||◌, List, ◌++◌, map, eqb, ℤ, if◌then◌else◌}
use Rattle.std.proofs.Math.Bool.{true, false}
use Prim.Native.Nat.{ℕ, zero, suc, ◌+◌, ◌*◌, ◌-◌, ◌≤◌, ◌^◌, min}
use Rattle.std.proofs.Common.{arith}
use Rattle.std.proofs.Math.Dec.{leb, ltb}
use Rattle.std.proofs.Math.IntN.{nat_abs}
use Rattle.std.proofs.Math.ListN.{length, drop}
use borrow.Author.Tests.{ltb-true, leb-true}
use Rattle.model.specs.Answer.{Answer, gives, refuses, ◌>>=◌}
use Rattle.model.specs.Basic.{is_in, joined}
use Rattle.model.specs.Blocks.{Block}
use Rattle.model.specs.Build.{build}
use Rattle.model.specs.Calendar.{is_date, day_number}
use Rattle.model.specs.Calls.{Reply, Listing, between_call, moved, move_call, turned, period_call, list_call, between, list, most_of}
use Rattle.model.specs.Hardest.{is_log, runs_of, log_of, is_width, width_of, hardest_call, hardest}
use Rattle.model.specs.Instant.{second, first_second, last_second, last_instant, is_below_0, second_from, instant_of, instant, day_seconds, duration_of, negated, Duration, are_opposite, week}
use Rattle.model.specs.Walk.{Way, on, back, begun, reach, ahead, Step, found, gap, left, search_blocks, search_from, search_in, search, PeriodSoFar, nothing, growing, ended, too_far, period_in, at_range_end, capped, period_from, period, stretches}
use Rattle.model.specs.Working.{Schedule}
use Rattle.model.specs.ZoneCalls.{zone_in, offset_call, change_call, resolve_call, year_from, day_given, time_given}
use Rattle.model.specs.Tzif.{zone_of}
use Rattle.laws_base.specs.Made.{Any}
use Rattle.laws_base.specs.Test.{by-test, and_both, in_bounds}
use Rattle.laws_skip.specs.Books.{BuiltWell}
use Rattle.laws_skip.specs.Schedules.{search-skipping}
use Rattle.laws_part.specs.Placed.{PlacedIn, gave, placed-step, placed-or, placed-test, placed_by, at-0}
use Rattle.laws_part.specs.Places.{build-placed}

-- the windows of the whole range
abbrev pub most_windows : ℕ
most_windows = begun last_instant

abbrev pub FewWindows : Reply → Type 0
FewWindows r = most_of (gives r) ≤ most_windows

-- ---- what is read

abbrev InTime : ℕ → Type 0
InTime t = t ≤ last_instant

instant-placed : (m : ℕ) (s n : ℤ) → PlacedIn InTime m (instant_of s n)
unfolding instant_of
instant-placed m s n =
    let x = second_from s in
    let c = not (is_below_0 n) && ltb (nat_abs n) second in
    placed-test 8 0 (is_in first_second last_second x && c) (x * second + nat_abs n) (omega arith) (λ t.
    let a = and_both (is_in first_second last_second x) c t in
    let h = (in_bounds first_second last_second x a.0).1 in
    let k = ltb-true (nat_abs n) second (and_both (not (is_below_0 n)) (ltb (nat_abs n) second) a.1).1 in
    omega arith)

duration-placed : (m : ℕ) (s n : ℤ) → PlacedIn Any m (duration_of s n)
unfolding duration_of
duration-placed m s n =
    placed-test 9 0 (ltb (nat_abs n) second && not (are_opposite s n)) (record { minus = is_below_0 s || is_below_0 n; size = nat_abs s * second + nat_abs n }) (omega arith) (λ _. tt)

negated-placed : (m : ℕ) (d : Duration) → PlacedIn Any m (negated d)
unfolding negated
negated-placed m d =
    placed-test 7 0 (not d.minus || ltb d.size (2 ^ 63 * second)) (record { minus = not d.minus && ltb 0 d.size; size = d.size }) (omega arith) (λ _. tt)

-- ---- the walks refuse at the place 0

module _ (m : ℕ) where
  stepped : (n : ℕ) (look : ℕ → ℕ → List Block) (limit end y : ℕ) (s : Step) → ((l e : ℕ) → PlacedIn {A = ℕ} Any m (search_from n look limit end y l e))
      → PlacedIn {A = ℕ} Any m (elim s as (λ _. Answer ℕ) [ found z ↦ gives z | gap ↦ refuses 6 0 | left e l ↦ search_from n look limit end y l e ])
  stepped n look limit end y (found z) k = gave tt
  stepped n look limit end y gap k = at-0
  stepped n look limit end y (left e l) k = k l e

  search-from : (n : ℕ) (look : ℕ → ℕ → List Block) (limit end x last d : ℕ) → PlacedIn Any m (search_from n look limit end x last d)
  unfolding search_from
  search-from zero look limit end x last d = at-0
  search-from (suc n) look limit end x last d =
      let y = min (x + week) end in
      stepped n look limit end y (search_blocks limit y last d (look x y)) (λ l e. search-from n look limit end y l e)

  search-in : (look : ℕ → ℕ → List Block) (limit end d : ℕ) → PlacedIn Any m (search_in look limit end d)
  unfolding search_in
  search-in look limit end d = by-test (eqb d 0) (λ t. rw t (gave tt)) (λ t. rw t (search-from (begun end) look limit end 0 0 d))

  -- what is found lies in the range
  search-placed : (w : Way) (s : Schedule) → BuiltWell s → (t d : ℕ) → t ≤ last_instant → PlacedIn InTime m (search w s t d)
  search-placed w s well t d h =
      placed_by (search w s t d) (search-in (ahead w s t) s.limit (reach w t) d) (λ x e.
      let k = (search-skipping s well.ok well.weekly w t d well.limit).within x e in
      let r = reach-most w in omega (arith, r))
    where
      reach-most : (w : Way) → reach w t ≤ last_instant
      reach-most on = omega arith
      reach-most back = omega arith

  at-end : (limit : ℕ) (h : PeriodSoFar) → PlacedIn Any m (at_range_end limit h)
  at-end limit nothing = at-0
  at-end limit (growing f e) = gave tt
  at-end limit (ended f e) = gave tt
  at-end limit too_far = at-0

  period-from : (n : ℕ) (look : ℕ → ℕ → List Block) (limit end x : ℕ) (h : PeriodSoFar) → PlacedIn Any m (period_from n look limit end x h)
  unfolding period_from
  period-from zero look limit end x h = at-end limit h
  period-from (suc n) look limit end x h =
      let y = min (x + week) end in
      go y (period_in limit h (look x y)) (λ g. period-from n look limit end y g)
    where
      go : (y : ℕ) (s : PeriodSoFar) → ((g : PeriodSoFar) → PlacedIn {A = Block} Any m (period_from n look limit end y g))
          → PlacedIn {A = Block} Any m (elim s as (λ _. Answer Block) [
            | nothing ↦ (let r = period_from n look limit end y nothing in if ltb limit y then refuses 6 0 else r)
            | growing f e ↦ (let r = period_from n look limit end y (growing f e) in if ltb e y || leb limit (e - f) then gives (capped limit f e) else r)
            | ended f e ↦ gives (capped limit f e)
            | too_far ↦ refuses 6 0
          ])
      go y nothing k = by-test (ltb limit y) (λ t. rw t at-0) (λ t. rw t (k nothing))
      go y (growing f e) k = by-test (ltb e y || leb limit (e - f)) (λ t. rw t (gave tt)) (λ t. rw t (k (growing f e)))
      go y (ended f e) k = gave tt
      go y too_far k = at-0

  -- ---- the calls on a schedule

  pub between-placed : (s : Schedule) (a₁ a₂ b₁ b₂ : ℤ) → PlacedIn FewWindows m (between_call s a₁ a₂ b₁ b₂)
  unfolding between_call
  between-placed s a₁ a₂ b₁ b₂ =
      placed-step (instant_of a₁ a₂) (instant-placed m a₁ a₂) (λ a p.
      placed-step (instant_of b₁ b₂) (instant-placed m b₁ b₂) (λ b q. gave (omega arith)))

  moved-placed : (w : Way) (s : Schedule) → BuiltWell s → (t d : ℕ) → t ≤ last_instant → PlacedIn FewWindows m (moved w s t d)
  unfolding moved
  moved-placed w s well t d h = placed-step (search w s t d) (search-placed w s well t d h) (λ x p. gave (omega arith))

  pub move-placed : (w : Way) (s : Schedule) → BuiltWell s → (t₁ t₂ d₁ d₂ : ℤ) → PlacedIn FewWindows m (move_call w s t₁ t₂ d₁ d₂)
  unfolding move_call
  move-placed w s well t₁ t₂ d₁ d₂ =
      placed-step (instant_of t₁ t₂) (instant-placed m t₁ t₂) (λ t p.
      placed-step {P = Any} (duration_of d₁ d₂) (duration-placed m d₁ d₂) (λ d _.
      either d.minus (placed-step {P = Any} (negated d) (negated-placed m d) (λ e _. moved-placed (turned w) s well t e.size p)) (moved-placed w s well t d.size p)))
    where
      either : (c : Bool) {x y : Answer Reply} → PlacedIn FewWindows m x → PlacedIn FewWindows m y → PlacedIn FewWindows m (if c then x else y)
      either true p q = p
      either false p q = q

  pub period-placed : (w : Way) (s : Schedule) (t₁ t₂ : ℤ) → PlacedIn Any m (period_call w s t₁ t₂)
  unfolding period_call
  period-placed w s t₁ t₂ =
      placed-step (instant_of t₁ t₂) (instant-placed m t₁ t₂) (λ t p.
      placed-step {P = Any} (period w s t) (period-from (begun (reach w t)) (ahead w s t) s.limit (reach w t) 0 nothing) (λ b _. gave tt))

  -- the stretches of a listing fit the numbers lent
  abbrev pub Fit : List ℤ → Listing → Type 0
  Fit lent l = 4 * l.count ≤ length lent

  list-placed : (s : Schedule) (a₁ a₂ b₁ b₂ : ℤ) (lent : List ℤ) → PlacedIn (Fit lent) m (list_call s a₁ a₂ b₁ b₂ lent)
  unfolding list_call
  list-placed s a₁ a₂ b₁ b₂ lent =
      placed-step (instant_of a₁ a₂) (instant-placed m a₁ a₂) (λ a p.
      placed-step (instant_of b₁ b₂) (instant-placed m b₁ b₂) (λ b q.
      let l = stretches s a b in
      placed-test 10 0 (leb (4 * length l) (length lent)) (record { count = length l; numbers = joined (map (λ (b : Block). instant b.start ++ instant b.end) l) ++ drop (4 * length l) lent })
      (omega arith) (λ t. leb-true (4 * length l) (length lent) t)))

  hardest-placed : (s : Schedule) (t₁ t₂ : ℤ) (log : List ℤ) (width : ℤ) → PlacedIn Any m (hardest_call s t₁ t₂ log width)
  unfolding hardest_call
  hardest-placed s t₁ t₂ log width =
      placed-step (instant_of t₁ t₂) (instant-placed m t₁ t₂) (λ t p.
      placed-step {P = Any} (log_of t log) (placed-test 11 0 (is_log t log) (runs_of t log) (omega arith) (λ _. tt)) (λ runs _.
      placed-step {P = Any} (width_of width) (placed-test 12 0 (is_width width) (nat_abs width * second) (omega arith) (λ _. tt)) (λ w _. gave tt)))

  -- ---- the calls on a zone file

  zone-placed : (file : List ℕ) → PlacedIn Any m (zone_in file)
  zone-placed file = placed-or 5 0 (zone_of file) (omega arith) (λ _ _. tt)

  pub offset-placed : (file : List ℕ) (s n : ℤ) → PlacedIn Any m (offset_call file s n)
  unfolding offset_call
  offset-placed file s n = placed-step {P = Any} (zone_in file) (zone-placed file) (λ z _. placed-step (instant_of s n) (instant-placed m s n) (λ t _. gave tt))

  pub change-placed : (file : List ℕ) (s n : ℤ) → PlacedIn Any m (change_call file s n)
  unfolding change_call
  change-placed file s n = placed-step {P = Any} (zone_in file) (zone-placed file) (λ z _. placed-step (instant_of s n) (instant-placed m s n) (λ t _. gave tt))

  day-placed : (y x d : ℤ) → PlacedIn Any m (day_given y x d)
  unfolding day_given
  day-placed y x d =
      placed-test 8 0 (not (is_below_0 x || is_below_0 d) && is_date (year_from y) (nat_abs x) (nat_abs d)) (day_number (year_from y) (nat_abs x) (nat_abs d)) (omega arith) (λ _. tt)

  time-placed : (s n : ℤ) → PlacedIn Any m (time_given s n)
  unfolding time_given
  time-placed s n =
      placed-test 8 0 (not (is_below_0 s || is_below_0 n) && (ltb (nat_abs s) day_seconds && ltb (nat_abs n) second)) (nat_abs s * second + nat_abs n) (omega arith) (λ _. tt)

  pub resolve-placed : (file : List ℕ) (y x d s n : ℤ) → PlacedIn Any m (resolve_call file y x d s n)
  unfolding resolve_call
  resolve-placed file y x d s n =
      placed-step {P = Any} (zone_in file) (zone-placed file) (λ z _.
      placed-step {P = Any} (day_given y x d) (day-placed y x d) (λ k _.
      placed-step {P = Any} (time_given s n) (time-placed s n) (λ t _. gave tt)))

-- ---- the calls on a book and a pack

module _ (book pack : List ℕ) where
  pub between-fits : (a₁ a₂ b₁ b₂ : ℤ) → PlacedIn FewWindows (length book) (between book pack a₁ a₂ b₁ b₂)
  between-fits a₁ a₂ b₁ b₂ = placed-step (build book pack) (build-placed book pack) (λ s _. between-placed (length book) s a₁ a₂ b₁ b₂)

  pub move-fits : (w : Way) (t₁ t₂ d₁ d₂ : ℤ) → PlacedIn FewWindows (length book) (build book pack >>= λ s. move_call w s t₁ t₂ d₁ d₂)
  move-fits w t₁ t₂ d₁ d₂ = placed-step (build book pack) (build-placed book pack) (λ s well. move-placed (length book) w s well t₁ t₂ d₁ d₂)

  pub period-fits : (w : Way) (t₁ t₂ : ℤ) → PlacedIn Any (length book) (build book pack >>= λ s. period_call w s t₁ t₂)
  period-fits w t₁ t₂ = placed-step (build book pack) (build-placed book pack) (λ s _. period-placed (length book) w s t₁ t₂)

  pub list-fits : (a₁ a₂ b₁ b₂ : ℤ) (lent : List ℤ) → PlacedIn (Fit (length book) lent) (length book) (list book pack a₁ a₂ b₁ b₂ lent)
  list-fits a₁ a₂ b₁ b₂ lent = placed-step (build book pack) (build-placed book pack) (λ s _. list-placed (length book) s a₁ a₂ b₁ b₂ lent)

  pub hardest-fits : (t₁ t₂ : ℤ) (log : List ℤ) (width : ℤ) → PlacedIn Any (length book) (hardest book pack t₁ t₂ log width)
  hardest-fits t₁ t₂ log width = placed-step (build book pack) (build-placed book pack) (λ s _. hardest-placed (length book) s t₁ t₂ log width)
