-- Signs, and each answer on a run and on a log, from what the code has tested.
use mathlib.Core.Path.{◌≡◌, refl, sym, ap, ◌∙◌}
use mathlib.Core.Bool.{Bool, true, false}
use mathlib.Core.List.{List, [], ◌∷◌}
use Prim.Native.Nat.{ℕ, suc, ◌+◌, ◌*◌, ◌%◌, ◌≤◌, ◌<◌}
use native.Mathlib.Omega.{arith}
use lib.Dec.{leb}
use lib.IntN.{ℤ, pos, nat_abs}
use mir.Syntax.{w64}
use mir.Val.{to_z, of_z}
use lib.ListN.{length, drop, drop_of_length-le}
use lib.Seq.{drop-cons}
use borrow.Author.Tests.{le-leb, lt-leb}
use Rattle.model.specs.Instant.{last_second}
use Rattle.model.specs.Hardest.{is_run, are_runs, most_numbers, is_log}
use Rattle.laws_base.specs.Test.{by-test}
use Rattle.laws_hardest.specs.Logs.{number_at, run-follows}

-- ---- the log, read up to run j, where the run before ends at the second e

-- number i as the code reads it, from its 64 bits
abbrev pub read_at : List ℤ → ℕ → ℤ
read_at log i = to_z w64 (of_z w64 (number_at log i))

abbrev pub IsRead : List ℤ → ℕ → Type 0
IsRead log i = read_at log i ≡ number_at log i

odd-not : (t e : ℕ) (l : List ℤ) → length l % 2 ≡ 1 → are_runs t e l ≡ false
unfolding are_runs
odd-not t e [] h = absurd (omega arith)
odd-not t e (o ∷ []) h = refl
odd-not t e (o ∷ n ∷ l) h = let k = odd-not t (nat_abs o + nat_abs n) l (omega arith) in by-test (is_run t e o n) (λ q. rw (q, k)) (λ q. rw q)

module _ (t : ℕ) (log : List ℤ) where
  pub log-long : most_numbers < length log → false ≡ is_log t log
  log-long h = rw (lt-leb _ _ h)

  -- a number alone
  pub log-odd : (length log % 2 ≡ 0 → ⊥) → false ≡ is_log t log
  log-odd h = by-test (leb (length log) most_numbers) (λ q. rw (q, odd-not t 0 log (omega arith))) (λ q. rw q)

  module _ (few : length log ≤ most_numbers) (e j : ℕ) (same : are_runs t e (drop (2 * j) log) ≡ are_runs t 0 log) where
    by-rest : {r : Bool} → are_runs t e (drop (2 * j) log) ≡ r → r ≡ is_log t log
    by-rest h = rw (le-leb _ _ few) (sym h ∙ same)

    pub log-done : length log ≤ 2 * j → true ≡ is_log t log
    unfolding are_runs
    log-done h = by-rest (rw (drop_of_length-le log h))

    module _ (h : 2 * j + 1 < length log) where
      two-more : drop (2 * j) log ≡ number_at log (2 * j) ∷ number_at log (2 * j + 1) ∷ drop (2 * (j + 1)) log
      two-more =
          let p : suc (2 * j) ≡ 2 * j + 1 = omega arith in
          let q : suc (suc (2 * j)) ≡ 2 * (j + 1) = omega arith in
          drop-cons log (2 * j) (pos 0) (omega arith) ∙ ap (λ (l : List ℤ). number_at log (2 * j) ∷ l) (drop-cons log (suc (2 * j)) (pos 0) (omega arith) ∙ (λ k. number_at log (p k) ∷ drop (q k) log))

      -- the code's own test of run j
      module _ {b : Bool} (r : b ≡ is_run t e (read_at log (2 * j)) (read_at log (2 * j + 1))) (p : IsRead log (2 * j)) (q : IsRead log (2 * j + 1)) where
        next-is : is_run t e (number_at log (2 * j)) (number_at log (2 * j + 1)) ≡ b
        next-is = rw (← p, ← q) (sym r)

        pub log-not : b ≡ false → false ≡ is_log t log
        unfolding are_runs
        log-not h = by-rest (ap (are_runs t e) two-more ∙ rw (next-is, h))

        pub log-next : b ≡ true → are_runs t (nat_abs (read_at log (2 * j)) + nat_abs (read_at log (2 * j + 1))) (drop (2 * (j + 1)) log) ≡ are_runs t 0 log
        unfolding are_runs
        log-next h =
            let k : are_runs t e (number_at log (2 * j) ∷ number_at log (2 * j + 1) ∷ drop (2 * (j + 1)) log) ≡ are_runs t 0 log = sym (ap (are_runs t e) two-more) ∙ same in
            rw (p, q) (rw (next-is, h) at k)

        pub next-inside : b ≡ true → nat_abs (read_at log (2 * j)) + nat_abs (read_at log (2 * j + 1)) ≤ last_second
        next-inside h = let f = run-follows t e (read_at log (2 * j)) (read_at log (2 * j + 1)) (sym r ∙ h) in let i = f.inside in omega arith
