-- The dates of a rule by one offset. Assumes nothing.
use mathlib.Core.Path.{◌≡◌, refl, sym, ◌∙◌, ap, ap₂}
use mathlib.Core.Bool.{Bool}
use mathlib.Core.List.{List, ◌++◌}
use Prim.Native.Nat.{ℕ, zero, suc, ◌+◌, ◌-◌, ◌≤◌, ◌<◌}
use native.Mathlib.Omega.{arith}
use Rattle.model.specs.Basic.{filter, run, joined}
use Rattle.model.specs.Blocks.{Block}
use Rattle.model.specs.Walk.{onward}
use Rattle.model.specs.Working.{blocks_of}
use Rattle.laws_base.specs.Test.{by-test}
use Rattle.instant.specs.Instant.{nanos}
use Rattle.instant.specs.declared.Instant.{Instant}
use Rattle.civil.specs.Dates.{time_in}
use Rattle.rule.specs.declared.Rule.{Rule as Rule'}
use Rattle.rule.specs.Rules.{rule_is, RuleFits}
use Rattle.zone_local.specs.Dates.{piece_of, till_time}
use Rattle.window_dates.specs.Windows.{Window, IsLocalDates, from_day, upto_day}
use Rattle.window_dates.specs.declared.LocalDates.{LocalDates}
use Rattle.window_dates.proofs.Fill.{shown}
use Rattle.window_piece.specs.Filled.{IsFrame, plain_piece}
use Rattle.window_piece.specs.declared.Frame.{Frame}
use Rattle.window_piece.proofs.Laws.{onward-append}
use Rattle.window_piece.proofs.Frames.{rule-shows, date-plain}
use Rattle.window_workday.specs.Workday.{plain}

-- dates that show the same, each from its own instant, show the same together
shown-moved : (t u : ℕ) (on : ℕ → Bool) (f g : ℕ → List Block) (n a : ℕ) → ((d : ℕ) → a ≤ d → d < a + n → onward t (f d) ≡ onward u (g d))
    → onward t (shown on f (run a n)) ≡ onward u (shown on g (run a n))
unfolding joined filter run onward
shown-moved t u on f g zero a h = refl
shown-moved t u on f g (suc n) a h =
    let r = shown-moved t u on f g n (suc a) (λ d p q. h d (omega arith) (omega arith)) in
    by-test (on a)
    (λ e. rw e (onward-append t (f a) (shown on f (run (suc a) n)) ∙ ap₂ (λ (x y : List Block). x ++ y) (h a (omega arith) (omega arith)) r ∙ sym (onward-append u (g a) (shown on g (run (suc a) n)))))
    (λ e. rw e r)

-- the dates of a rule, by the offset
pub rule-plain : (lo hi : Instant) (days : LocalDates) (w : Window 14 lo hi) (x : Frame) (m : IsFrame days lo hi x) (known : 0 < x.first) (p : List ℕ) (r : Rule') (a b : ℕ) → RuleFits p r → IsLocalDates (rule_is p r).zone lo hi days → a ≡ time_in r.from → b ≡ till_time (time_in r.from) (time_in r.to)
    → onward x.lo (plain x (from_day days) (upto_day days + 1 - from_day days) r.days a b) ≡ onward (nanos lo) (blocks_of (nanos lo) (nanos hi) (rule_is p r))
unfolding plain
rule-plain lo hi days w x m known p r a b o q i j =
    shown-moved x.lo (nanos lo) (rule_is p r).on (plain_piece x (from_day days) a b) (piece_of (rule_is p r) (nanos lo) (nanos hi)) (upto_day days + 1 - from_day days) (from_day days)
    (λ d h k. date-plain lo hi days w x m known p r a b o q i j d h (omega arith))
    ∙ ap (onward (nanos lo)) (rule-shows (rule_is p r) (nanos lo) (nanos hi) (from_day days) (upto_day days) q.first-is q.last-is)
