-- Years and days: where a year begins, and which year a day lies in, within a few days.
use Rattle.std.specs.Prelude.{ℕ, ◌+◌, ◌*◌, ◌-◌, ◌/◌, ◌≤◌, ◌<◌, ltb}
use Rattle.std.proofs.Common.{arith, ltb-true, ltb-false}
use Rattle.laws_base.specs.Test.{by-test}
use Rattle.model.specs.Calendar.{days_before_year, year_of}

-- a year is 146,097 / 400 days, give or take
pub dby-hi : (y : ℕ) → 400 * days_before_year y ≤ 146097 * y + 699
unfolding days_before_year
dby-hi y = omega arith

pub dby-lo : (y : ℕ) → 146097 * y ≤ 400 * days_before_year y + 396
unfolding days_before_year
dby-lo y = omega arith

-- the year of a day, within a day or five
abbrev pub year_estimate : ℕ → ℕ
year_estimate n = 400 * (n + 1) / 146097

pub year-from : (n : ℕ) → days_before_year (year_of n) ≤ n + 1
unfolding year_of
year-from n =
    let early : days_before_year (year_estimate n - 1) ≤ n + 1 = omega (arith, dby-hi (year_estimate n - 1)) in
    by-test (ltb n (days_before_year (year_estimate n))) (λ e. rw e early) (λ e. let late : days_before_year (year_estimate n) ≤ n + 1 = omega (arith, ltb-false n (days_before_year (year_estimate n)) e) in rw e late)

pub year-to : (n : ℕ) → n < days_before_year (year_of n) + 370
unfolding year_of
year-to n =
    let late : n < days_before_year (year_estimate n) + 370 = omega (arith, dby-lo (year_estimate n)) in
    by-test (ltb n (days_before_year (year_estimate n)))
    (λ e. let early : n < days_before_year (year_estimate n - 1) + 370 = omega (arith, ltb-true n (days_before_year (year_estimate n)) e, dby-hi (year_estimate n), dby-lo (year_estimate n - 1)) in rw e early)
    (λ e. rw e late)
