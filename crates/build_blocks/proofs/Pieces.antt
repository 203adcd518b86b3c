-- What a rule shows of one date, as a block from the window's start. Assumes nothing.
use mathlib.Core.Path.{◌≡◌, ◌∙◌, ap}
use mathlib.Core.List.{List, []}
use Prim.Native.Nat.{ℕ, ◌+◌, ◌-◌, ◌≤◌, ◌<◌, min, max}
use native.Mathlib.Omega.{arith}
use borrow.Author.Tests.{lt-ltb, le-ltb}
use Rattle.std.specs.Prelude.{Option, Some}
use Rattle.model.specs.Blocks.{clipped}
use Rattle.model.specs.Walk.{onward}
use Rattle.instant.specs.Instant.{nanos}
use Rattle.instant.specs.declared.Instant.{Instant}
use Rattle.block_list.specs.declared.Block.{Block}
use Rattle.block.specs.declared.Block.{Block as Item}
use Rattle.rule.specs.Rules.{rule_is, RuleFits}
use Rattle.rule.specs.declared.Rule.{Rule}
use Rattle.zone_local.specs.Dates as date
use Rattle.window_dates.specs.Windows.{Window, from_day, upto_day}
use Rattle.window_piece.specs.Filled.{midnight}
use Rattle.window_piece.proofs.Fills.{put-onward}
use Rattle.window_piece.proofs.Frames.{date-plain}
use Rattle.build_blocks.specs.Shown.{held_block, IsShifts}
use Rattle.build_blocks.specs.declared.Shifts.{Shifts}

-- ---- [s, e) in [lo, hi)

module _ (lo hi s e a b : ℕ) (p : a ≡ max s lo) (q : b ≡ min e hi) where
  pub clip-in : a < b → held_block (Some (record { start = a - lo; end = b - lo })) ≡ onward lo (clipped lo hi s e)
  unfolding clipped
  clip-in h = rw (p, q) (rw (lt-ltb (max s lo - lo) (min e hi - lo) (omega arith)) at (put-onward lo (max s lo) (min e hi) (omega arith)))

  pub clip-out : b ≤ a → [] ≡ onward lo (clipped lo hi s e)
  unfolding clipped onward
  clip-out h = rw (le-ltb (max s lo) (min e hi) (omega arith))

-- ---- a block of instants

module _ (t : ℕ) (y : Item) where
  pub away-in : (x : Block) → t ≤ nanos y.start → nanos y.start < nanos y.end → x.start ≡ nanos y.start - t → x.end ≡ nanos y.end - t → held_block (Some x) ≡ onward t (date.held y)
  unfolding date.held
  away-in x h l i j = rw (i, j) (rw (lt-ltb (nanos y.start - t) (nanos y.end - t) (omega arith)) at (put-onward t (nanos y.start) (nanos y.end) h))

  pub away-out : nanos y.end ≤ nanos y.start → [] ≡ onward t (date.held y)
  unfolding date.held onward
  away-out h = rw (le-ltb (nanos y.start) (nanos y.end) h)

-- ---- a date

module _ (p : List ℕ) (r : Rule) (lo hi : Instant) (x : Shifts) (o : RuleFits p r) (w : Window 14 lo hi) (m : IsShifts p r lo hi x) (d k : ℕ) where
  -- by the frame
  pub piece-plain : 0 < x.frame.first → from_day x.days ≤ d → d ≤ upto_day x.days → k ≡ midnight x.frame.first (from_day x.days) d → (b : Option Block)
      → held_block b ≡ onward x.frame.lo (clipped x.frame.lo x.frame.hi (k + x.from) (k + x.to))
      → held_block b ≡ onward (nanos lo) (date.piece_of (rule_is p r) (nanos lo) (nanos hi) d)
  piece-plain known f l z b e =
      e ∙ ap (λ (y : ℕ). onward x.frame.lo (clipped x.frame.lo x.frame.hi (y + x.from) (y + x.to))) z
      ∙ date-plain lo hi x.days w x.frame m.framed known p r x.from x.to o m.dates m.from_is m.to_is d f l
