-- A log by index: its runs in seconds from the given instant, and what the test of a log says of them.
use Rattle.std.specs.Prelude.{◌≡◌, refl, true, false, not, List, [], ◌∷◌, ℕ, zero, suc, ◌+◌, ◌*◌, ◌/◌, ◌≤◌, ◌<◌, leb, ℤ, pos, negsuc, nat_abs, length, get_or}
use Rattle.std.proofs.Common.{sym, ◌∙◌, arith, leb-true, le-leb}
use Rattle.std.proofs.Math.IntN.{pos-ne-negsuc}
use Rattle.model.specs.Instant.{second, last_instant, is_below_0}
use Rattle.model.specs.Blocks.{Block, block}
use Rattle.model.specs.Hardest.{is_run, are_runs, runs_of}
use Rattle.laws_base.specs.Every.{Every}
use Rattle.laws_base.specs.Test.{by-test, and_both, not-true, clash}

abbrev pub number_at : List ℤ → ℕ → ℤ
number_at log i = get_or log i (pos 0)

-- how many runs a log has
abbrev pub run_count : List ℤ → ℕ
run_count log = length log / 2

-- the seconds at which run j starts and ends
abbrev pub run_start : List ℤ → ℕ → ℕ
run_start log j = nat_abs (number_at log (2 * j))

abbrev pub run_end : List ℤ → ℕ → ℕ
run_end log j = run_start log j + nat_abs (number_at log (2 * j + 1))

-- run j
abbrev pub run_at : ℕ → List ℤ → ℕ → Block
run_at t log j = block (t + run_start log j * second) (t + run_end log j * second)

-- ---- the runs

pub runs-count : (t : ℕ) (log : List ℤ) → length (runs_of t log) ≡ run_count log
unfolding runs_of
runs-count t [] = refl
runs-count t (o ∷ []) = refl
runs-count t (o ∷ n ∷ l) = let h = runs-count t l in omega arith

-- run j + 1 is run j of what is left behind the first
next-number : (o n : ℤ) (l : List ℤ) (j : ℕ) → number_at (o ∷ n ∷ l) (2 * suc j) ≡ number_at l (2 * j)
next-number o n l j = let e : 2 * suc j ≡ suc (suc (2 * j)) = omega arith in rw e

next-length : (o n : ℤ) (l : List ℤ) (j : ℕ) → number_at (o ∷ n ∷ l) (2 * suc j + 1) ≡ number_at l (2 * j + 1)
next-length o n l j = let e : 2 * suc j + 1 ≡ suc (suc (2 * j + 1)) = omega arith in rw e

pub run_is : (t : ℕ) (log : List ℤ) (j : ℕ) (d : Block) → j < run_count log → get_or (runs_of t log) j d ≡ run_at t log j
unfolding runs_of
run_is t [] j d h = absurd (omega arith)
run_is t (o ∷ []) j d h = absurd (omega arith)
run_is t (o ∷ n ∷ l) zero d h = refl
run_is t (o ∷ n ∷ l) (suc j) d h = run_is t l j d (omega arith) ∙ rw (next-number o n l j, next-length o n l j)

-- ---- what the test says

-- a signed number that is not below 0
abbrev pub NotBelow0 : ℤ → Type 0
NotBelow0 z = z ≡ pos (nat_abs z)

-- run j of a log from the instant t
pub record RunFits (t : ℕ) (log : List ℤ) (j : ℕ) : Type 0 where
  pub offset : NotBelow0 (number_at log (2 * j))
  pub long : NotBelow0 (number_at log (2 * j + 1))
  pub lasts : run_start log j < run_end log j
  pub inside : t + run_end log j * second ≤ last_instant

pub record LogFits (t : ℕ) (log : List ℤ) : Type 0 where
  pub each : (j : ℕ) → j < run_count log → RunFits t log j
  pub apart : (j k : ℕ) → j < k → k < run_count log → run_end log j ≤ run_start log k

pub not-below : (z : ℤ) → is_below_0 z ≡ false → NotBelow0 z
not-below (pos n) e = refl
not-below (negsuc n) e = clash true refl e

pub is-not-below : (z : ℤ) → NotBelow0 z → is_below_0 z ≡ false
is-not-below (pos n) e = refl
is-not-below (negsuc n) e = absurd (pos-ne-negsuc _ _ (sym e))

-- a run behind the second e
pub record Follows (t e : ℕ) (o n : ℤ) : Type 0 where
  pub offset : NotBelow0 o
  pub behind : e ≤ nat_abs o
  pub long : NotBelow0 n
  pub lasts : 1 ≤ nat_abs n
  pub inside : t + (nat_abs o + nat_abs n) * second ≤ last_instant

pub run-follows : (t e : ℕ) (o n : ℤ) → is_run t e o n ≡ true → Follows t e o n
run-follows t e o n h =
    let a = and_both (not (is_below_0 o)) _ h in
    let b = and_both (leb e (nat_abs o)) _ a.1 in
    let c = and_both (not (is_below_0 n)) _ b.1 in
    let d = and_both (leb 1 (nat_abs n)) _ c.1 in
    record {
      offset = not-below o (not-true _ a.0);
      behind = leb-true _ _ b.0;
      long = not-below n (not-true _ c.0);
      lasts = leb-true _ _ d.0;
      inside = leb-true _ _ d.1;
    }

pub follows-run : (t e : ℕ) (o n : ℤ) → Follows t e o n → is_run t e o n ≡ true
follows-run t e o n f =
    simp (is-not-below o f.offset, le-leb _ _ f.behind, is-not-below n f.long, le-leb _ _ f.lasts, le-leb _ _ f.inside)

pub not-run : (t e : ℕ) (o n : ℤ) → (Follows t e o n → ⊥) → is_run t e o n ≡ false
not-run t e o n h = by-test (is_run t e o n) (λ q. absurd (h (run-follows t e o n q))) (λ q. q)

split : (t e : ℕ) (o n : ℤ) (l : List ℤ) → are_runs t e (o ∷ n ∷ l) ≡ true → Follows t e o n × (are_runs t (nat_abs o + nat_abs n) l ≡ true)
unfolding are_runs
split t e o n l h = by-test (is_run t e o n) (λ q. (run-follows t e o n q, rw q at h)) (λ q. clash false (rw q at h) refl)

-- no run starts before e
runs-behind : (t e : ℕ) (log : List ℤ) → are_runs t e log ≡ true → (j : ℕ) → j < run_count log → e ≤ run_start log j
unfolding are_runs
runs-behind t e [] h j k = absurd (omega arith)
runs-behind t e (o ∷ []) h j k = absurd (omega arith)
runs-behind t e (o ∷ n ∷ l) h zero k = (split t e o n l h).0.behind
runs-behind t e (o ∷ n ∷ l) h (suc j) k =
    let s = split t e o n l h in
    let b = s.0.behind in
    let p = runs-behind t (nat_abs o + nat_abs n) l s.1 j (omega arith) in
    rw (next-number o n l j) (omega arith)

runs-each : (t e : ℕ) (log : List ℤ) → are_runs t e log ≡ true → (j : ℕ) → j < run_count log → RunFits t log j
unfolding are_runs
runs-each t e [] h j k = absurd (omega arith)
runs-each t e (o ∷ []) h j k = absurd (omega arith)
runs-each t e (o ∷ n ∷ l) h zero k =
    let s = (split t e o n l h).0 in
    let p = s.lasts in
    record { offset = s.offset; long = s.long; lasts = omega arith; inside = s.inside }
runs-each t e (o ∷ n ∷ l) h (suc j) k =
    let p = runs-each t (nat_abs o + nat_abs n) l (split t e o n l h).1 j (omega arith) in
    record {
      offset = rw (next-number o n l j) p.offset;
      long = rw (next-length o n l j) p.long;
      lasts = rw (next-number o n l j, next-length o n l j) p.lasts;
      inside = rw (next-number o n l j, next-length o n l j) p.inside;
    }

runs-apart : (t e : ℕ) (log : List ℤ) → are_runs t e log ≡ true → (j k : ℕ) → j < k → k < run_count log → run_end log j ≤ run_start log k
unfolding are_runs
runs-apart t e [] h j k p q = absurd (omega arith)
runs-apart t e (o ∷ []) h j k p q = absurd (omega arith)
runs-apart t e (o ∷ n ∷ l) h j zero p q = absurd (omega arith)
runs-apart t e (o ∷ n ∷ l) h zero (suc k) p q =
    let b = runs-behind t (nat_abs o + nat_abs n) l (split t e o n l h).1 k (omega arith) in
    rw (next-number o n l k) b
runs-apart t e (o ∷ n ∷ l) h (suc j) (suc k) p q =
    let b = runs-apart t (nat_abs o + nat_abs n) l (split t e o n l h).1 j k (omega arith) (omega arith) in
    rw (next-number o n l j, next-length o n l j, next-number o n l k) b

-- no run starts past the last instant
pub runs-inside : (t e : ℕ) (log : List ℤ) → are_runs t e log ≡ true → Every (λ (r : Block). r.start ≤ last_instant) (runs_of t log)
unfolding are_runs runs_of
runs-inside t e [] h = tt
runs-inside t e (o ∷ []) h = tt
runs-inside t e (o ∷ n ∷ l) h =
    let s = split t e o n l h in
    let i = s.0.inside in
    (omega arith, runs-inside t (nat_abs o + nat_abs n) l s.1)

pub log-fits : (t : ℕ) (log : List ℤ) → are_runs t 0 log ≡ true → LogFits t log
log-fits t log h = record { each = runs-each t 0 log h; apart = runs-apart t 0 log h }

-- the ends of the runs without regard to the instant
pub log-anywhere : (t : ℕ) (log : List ℤ) → LogFits t log → LogFits 0 log
log-anywhere t log f = record {
  each = λ j h. (let r = f.each j h in let i = r.inside in record { offset = r.offset; long = r.long; lasts = r.lasts; inside = omega arith });
  apart = f.apart;
}
