-- Laws of one week.
use mathlib.Core.Path.{◌≡◌, refl, ap, ◌∙◌}
use mathlib.Core.List.{List}
use mathlib.Core.Logic.{⊎_elim}
use Prim.Native.Nat.{ℕ, ◌+◌, ◌*◌, ◌-◌, ◌/◌, ◌≤◌, ◌<◌}
use native.Mathlib.Nat.{eq-or-lt_of_le}
use native.Mathlib.Omega.{arith}
use lib.ListN.{length, get_or, set, length-set}
use lib.Seq.{get_or-set_same, get_or-set_other}
use borrow.Author.Tests.{lt-ltb, le-ltb, eq-eqb, ne_eqb}
use Rattle.model.specs.Answer.{Answer}
use Rattle.model.specs.Blocks.{total}
use Rattle.model.specs.Instant.{second, first_second, week_seconds}
use Rattle.model.specs.Working.{Schedule, working}
use Rattle.std.specs.Prelude.{Ok, Err}
use Rattle.refusal.specs.declared.Refused.{Refused}
use Rattle.refusal.specs.Answered.{answer_of}
use Rattle.rule.specs.Rules.{schedule_is}
use Rattle.rule.specs.declared.Schedule.{Schedule as Code}
use Rattle.bench_week.specs.Weeks.{last_week, week_in, weeks_of}
use Rattle.laws_base.specs.Mapped.{Mapped, unchanged}

-- one week, by the code's tests
module _ (s : Schedule) {x : ℕ} where
  pub week-early : x < first_second → 0 ≡ week_in s x
  unfolding week_in
  week-early h = rw (lt-ltb x first_second h)

  pub week-late : first_second ≤ x → last_week < x → 0 ≡ week_in s x
  unfolding week_in
  week-late g h = rw (le-ltb x first_second g, lt-ltb last_week x h)

  -- from the sum in nanoseconds
  pub week-is : {t : ℕ} → first_second ≤ x → x ≤ last_week → t ≡ total (working s (x * second + 0) ((x + week_seconds) * second + 0)) → t / second ≡ week_in s x
  unfolding week_in
  week-is {t} g h e =
      let a : (x * second + 0) ≡ x * second = omega arith in
      let b : ((x + week_seconds) * second + 0) ≡ (x + week_seconds) * second = omega arith in
      let q : t ≡ total (working s (x * second) ((x + week_seconds) * second)) = rw (a, b) at e in
      rw (le-ltb x first_second g, le-ltb last_week x h) (ap (λ (n : ℕ). n / second) q)

-- ---- the book

module _ (book pack : List ℕ) {d : Answer Schedule} where
  pub weeks-all : (s : Code) → answer_of (schedule_is book pack) (Ok s) ≡ d → {a b : List ℕ} → Mapped (week_in (schedule_is book pack s)) a b → Mapped (weeks_of d) a b
  weeks-all s e q = rw (← e) q

  pub weeks-none : (x : Refused) → answer_of (schedule_is book pack) (Err x) ≡ d → (a : List ℕ) → Mapped (weeks_of d) a a
  weeks-none x e a = rw (← e) (unchanged a)
