-- Whether there is a block: what a turn of either loop keeps. Assumes nothing.
use mathlib.Core.Path.{◌≡◌, refl, sym, ◌∙◌, ap}
use Rattle.std.specs.Prelude.{Option, None, Some, if◌then◌else◌}
use Rattle.std.specs.Option.{is_some}
use mathlib.Core.Bool.{Bool, true, false, ◌&&◌, ◌||◌}
use mathlib.Core.List.{List, [], ◌∷◌, ◌++◌, map}
use Prim.Native.Nat.{ℕ, ◌+◌, ◌-◌, ◌≤◌, ◌<◌}
use native.Mathlib.Omega.{arith}
use lib.ListN.{length, take, get_or}
use Rattle.model.specs.Basic.{run}
use Rattle.model.specs.Blocks.{Block as Block'}
use Rattle.model.specs.Walk.{onward}
use Rattle.model.specs.Working.{Rule, blocks_of, blocks_of_all}
use Rattle.laws_base.specs.Test.{by-test, and_both, clash}
use Rattle.instant.specs.Instant.{nanos}
use Rattle.instant.specs.declared.Instant.{Instant}
use Rattle.block_list.specs.declared.Block.{Block}
use Rattle.zone_local.specs.Dates.{piece_of}
use Rattle.window_dates.specs.Windows.{IsLocalDates, from_day, upto_day}
use Rattle.window_dates.specs.declared.LocalDates.{LocalDates}
use Rattle.window_dates.proofs.Fill.{shown, dates_from, dates-whole, date-on, date-off, dates-done, rest_of, rest_more, rest_end, rules-are}
use Rattle.window_piece.proofs.Frames.{rule-shows}
use Rattle.build_blocks.specs.Shown.{held_block, any_block}

pub any_append : (a b : List Block') → any_block (a ++ b) ≡ (any_block a || any_block b)
unfolding any_block
any_append [] b = refl
any_append (x ∷ a) b = refl

pub any-onward : (t : ℕ) (l : List Block') → any_block (onward t l) ≡ any_block l
unfolding any_block onward
any-onward t [] = refl
any-onward t (b ∷ l) = refl

-- where there is none
pub none : (l : List Block') → any_block l ≡ false → l ≡ []
unfolding any_block
none [] e = refl
none (b ∷ l) e = clash true refl e

-- a block of the code is there where the rule takes the date and something is shown of it
pub some_any : (x : Option Block) (t : ℕ) (on : Bool) (l : List Block') → held_block x ≡ onward t (if on then l else []) → is_some x ≡ (on && any_block l)
unfolding any_block onward
some_any None t false l e = refl
some_any (Some x) t false l e = ap any_block e
some_any None t true l e = ap any_block e ∙ any-onward t l
some_any (Some x) t true l e = ap any_block e ∙ any-onward t l

-- ---- the dates of a rule

-- what the dates from the i-th on show
abbrev pub dates_show : Rule → ℕ → ℕ → ℕ → ℕ → ℕ → List Block'
dates_show r lo hi first k i = shown r.on (piece_of r lo hi) (dates_from first k i)

-- the dates in front of the i-th show nothing
pub record Passed (r : Rule) (lo hi first k i : ℕ) : Type 0 where
  pub same : dates_show r lo hi first k i ≡ shown r.on (piece_of r lo hi) (run first k)

pub passed-starts : (r : Rule) (lo hi first k : ℕ) → Passed r lo hi first k 0
passed-starts r lo hi first k = record { same = ap (shown r.on (piece_of r lo hi)) (dates-whole first k) }

module _ (r : Rule) (lo hi first k i : ℕ) (m : Passed r lo hi first k i) where
  -- what all of them show
  abbrev whole : List Block'
  whole = shown r.on (piece_of r lo hi) (run first k)

  pub date-shows : i < k → (r.on (first + i) && any_block (piece_of r lo hi (first + i))) ≡ true → true ≡ any_block whole
  date-shows h t =
      let p = and_both (r.on (first + i)) (any_block (piece_of r lo hi (first + i))) t in
      let e = date-on r.on (piece_of r lo hi) first k i [] whole m.same h p.0 (piece_of r lo hi (first + i)) refl in
      sym (sym (ap any_block e) ∙ any_append (piece_of r lo hi (first + i)) (dates_show r lo hi first k (i + 1)) ∙ rw p.1)

  pub date-passed : i < k → (r.on (first + i) && any_block (piece_of r lo hi (first + i))) ≡ false → Passed r lo hi first k (i + 1)
  date-passed h t =
      by-test (r.on (first + i))
      (λ p.
      let q : any_block (piece_of r lo hi (first + i)) ≡ false = rw p at t in
      record { same = date-on r.on (piece_of r lo hi) first k i [] whole m.same h p [] (sym (none (piece_of r lo hi (first + i)) q)) })
      (λ p. record { same = date-off r.on (piece_of r lo hi) first k i [] whole m.same h p })

  pub dates-passed : k ≤ i → false ≡ any_block whole
  unfolding any_block
  dates-passed h = ap any_block (dates-done r.on (piece_of r lo hi) first k i [] whole m.same h)

-- the dates of a window show what the rule has in it
pub dates-all : (r : Rule) (lo hi : Instant) (days : LocalDates) → IsLocalDates r.zone lo hi days
    → shown r.on (piece_of r (nanos lo) (nanos hi)) (run (from_day days) (upto_day days + 1 - from_day days)) ≡ blocks_of (nanos lo) (nanos hi) r
dates-all r lo hi days q = rule-shows r (nanos lo) (nanos hi) (from_day days) (upto_day days) q.first-is q.last-is

-- ---- the rules of a counted array

module _ {A : Type 0} (lo hi : ℕ) (h : A → Rule) where
  -- what a rule has in the window
  abbrev has : A → List Block'
  has a = blocks_of lo hi (h a)

  module _ (n : ℕ) (rules : List A) where
    -- the rules in front of i show nothing
    pub record RulesPassed (i : ℕ) : Type 0 where
      pub same : rest_of has n rules i ≡ rest_of has n rules 0
      pub upto : i ≤ n
      pub fits : n ≤ length rules

    pub rules-start : n ≤ length rules → RulesPassed 0
    rules-start f = record { same = refl; upto = omega arith; fits = f }

    module _ (i : ℕ) (m : RulesPassed i) where
      pub rule-shows-any : i < n → (x : A) → any_block (has (get_or rules i x)) ≡ true → true ≡ any_block (blocks_of_all lo hi (map h (take n rules)))
      rule-shows-any t x e =
          sym (ap any_block (sym (rules-are lo hi h (take n rules)) ∙ sym m.same ∙ rest_more has n rules i x t m.fits) ∙ any_append (has (get_or rules i x)) (rest_of has n rules (i + 1)) ∙ rw e)

      pub rule-passed : i < n → (x : A) → any_block (has (get_or rules i x)) ≡ false → RulesPassed (i + 1)
      rule-passed t x e =
          record {
            same = sym (rest_more has n rules i x t m.fits ∙ ap (λ (y : List Block'). y ++ rest_of has n rules (i + 1)) (none (has (get_or rules i x)) e)) ∙ m.same;
            upto = omega arith;
            fits = m.fits;
          }

      pub rules-passed : n ≤ i → false ≡ any_block (blocks_of_all lo hi (map h (take n rules)))
      unfolding any_block
      rules-passed t =
          let u = m.upto in let z : i ≡ n = omega arith in
          sym (ap any_block (sym (rules-are lo hi h (take n rules)) ∙ sym m.same ∙ ap (rest_of has n rules) z ∙ rest_end has n rules m.fits))
