-- From the filled lists to the working time of the window, and its sum. Assumes nothing.
use mathlib.Core.Path.{◌≡◌, sym, ◌∙◌, ap, ap₂, subst}
use lib.ListN.{length, take, get_or}
use Rattle.std.proofs.lemmas.List.{get_or-take, take_all, length-take-le}
use Rattle.laws_base.specs.Every.{Every, every_front}
use mathlib.Core.List.{List, [], ◌∷◌, ◌++◌, map}
use mathlib.Core.Logic.{inl, inr}
use Prim.Native.Nat.{ℕ, ◌+◌, ◌*◌, ◌-◌, ◌≤◌, ◌<◌}
use native.Mathlib.Omega.{arith}
use Rattle.model.specs.Basic.{joined}
use Rattle.model.specs.Blocks.{Block, union, subtract, total}
use Rattle.model.specs.Instant.{day}
use Rattle.model.specs.Walk.{onward}
use Rattle.model.specs.Working.{Rule, Schedule, holiday_rule, blocks_of, blocks_of_all, working}
use Rattle.laws_blocks.specs.Members.{InBlocks, NonEmpty, Chain, Normal, Ends, From, from_in, chain-nonempty, chain-sorted, union-in, union-normal, subtract-in, subtract-normal}
use Rattle.laws_blocks.specs.Left.{chain-at}
use Rattle.laws_demand3.specs.Windows.{off_rules, all_in, all-nonempty}
use Rattle.laws_skip.specs.Books.{BuiltWell}
use Rattle.rule.specs.declared.Rule.{Rule as Rule'}
use Rattle.rule.specs.declared.HolidayDates.{HolidayDates}
use Rattle.rule.specs.Rules.{rule_is, holidays_is}
use Rattle.window_dates.proofs.Whole.{off-is}
use Rattle.block_pairs.specs.Pairs.{part, pairs}
use Rattle.window_dates.proofs.Fill.{maps, rules-are}
use Rattle.window_piece.specs.Filled.{Filled}
use Rattle.window_piece.proofs.Frames.{rule-apart}
use Rattle.window_piece.proofs.Laws.{Apart, apart-both, apart-onward, union-onto, onward-append, union-onward, subtract-onward, total-onward, onward-nonempty}
use Rattle.laws_skip.specs.Schedules.{working-most}

-- ---- blocks from the window's start on

-- blocks without empty ones, whose instants are at lo or later
from-members : (lo : ℕ) (l : List Block) → NonEmpty l → ((t : ℕ) → InBlocks t l → lo ≤ t) → From lo l
from-members lo [] n h = tt
from-members lo (b ∷ l) n h = (h b.start (inl (omega (arith, n.0))), from-members lo l n.1 (λ t i. h t (inr i)))

pub rules-apart : (lo hi : ℕ) (l : List Rule) → Apart lo (blocks_of_all lo hi l)
rules-apart lo hi l = record { full = all-nonempty lo hi l; from = from-members lo (blocks_of_all lo hi l) (all-nonempty lo hi l) (λ t i. (all_in lo hi l t i).0) }

pub union-apart : (lo : ℕ) (l : List Block) → Apart lo l → Apart lo (union l)
union-apart lo l a =
    let n : NonEmpty (union l) = chain-nonempty 0 (union l) (union-normal l a.full) in
    record { full = n; from = from-members lo (union l) n (λ t i. from_in t lo l a.from ((union-in t l).0 i)) }

-- ---- the first records of an array

-- what holds of each of the first n holds of the one at i
pub front_at : {A : Type 0} (P : A → Type 0) (n : ℕ) (l : List A) (i : ℕ) (d : A) → i < n → n ≤ length l → Every P (take n l) → P (get_or (take n l) i d)
front_at P n l i d h k a = subst P (sym (get_or-take n l i d h)) (every_front P n l i d h k a)

pub front-long : {A : Type 0} (n : ℕ) (l : List A) → n ≤ length l → n ≤ length (take n l)
front-long n l h = let e = length-take-le n l h in omega arith

pub front_again : {A : Type 0} (n : ℕ) (l : List A) → n ≤ length l → take n (take n l) ≡ take n l
front_again n l h = take_all n (take n l) (let e = length-take-le n l h in omega arith)

-- ---- the lists

module _ (lo hi : ℕ) where
  -- from nothing
  pub filled-first : (l₀ : List ℕ) (b : List Block) (k : ℕ) (l : List ℕ) (n : ℕ) → Filled lo l₀ 0 b k l n → Apart lo b → pairs n l ≡ onward lo (union b)
  unfolding part
  filled-first l₀ b k l n f a = f.same ∙ union-onward lo b a.full a.from

  filled-second : (l₀ : List ℕ) (b : List Block) (k : ℕ) (l : List ℕ) (n : ℕ) → Filled lo l₀ 0 b k l n → Apart lo b
      → (c : List Block) (j : ℕ) (l' : List ℕ) (m : ℕ) → Filled lo l n c j l' m → Apart lo c → pairs m l' ≡ onward lo (union (b ++ c))
  unfolding part
  filled-second l₀ b k l n f a c j l' m g d =
      let ab = apart-both lo b c a d in
      g.same ∙ ap (λ (x : List Block). union (x ++ onward lo c)) f.same
      ∙ union-onto (onward lo b) (onward lo c) (apart-onward lo b a) (apart-onward lo c d)
      ∙ ap union (sym (onward-append lo b c)) ∙ union-onward lo (b ++ c) ab.full ab.from

  module _ (s : Schedule) (w : BuiltWell s) where
    -- work without breaks and holidays
    pub window-is : (l₀ : List ℕ) (b : List Block) (k : ℕ) (l : List ℕ) (n : ℕ) → Filled lo l₀ 0 b k l n → b ≡ blocks_of_all lo hi s.work
        → (o₀ : List ℕ) (p : List Block) (i : ℕ) (o₁ : List ℕ) (m₁ : ℕ) → Filled lo o₀ 0 p i o₁ m₁ → p ≡ blocks_of_all lo hi s.breaks
        → (c : List Block) (j : ℕ) (o : List ℕ) (m : ℕ) → Filled lo o₁ m₁ c j o m → c ≡ blocks_of_all lo hi (map holiday_rule s.holidays)
        → (r : List Block) → r ≡ subtract (pairs n l) (pairs m o) → r ≡ onward lo (working s lo hi)
    unfolding working
    window-is l₀ b k l n f e o₀ p i o₁ m₁ g eg c j o m h eh r q =
        let W : List Block = blocks_of_all lo hi s.work in
        let O : List Block = blocks_of_all lo hi (off_rules s) in
        let a1 : Apart lo b = rw e (rules-apart lo hi s.work) in
        let a2 : Apart lo p = rw eg (rules-apart lo hi s.breaks) in
        let a3 : Apart lo c = rw eh (rules-apart lo hi (map holiday_rule s.holidays)) in
        let x : pairs n l ≡ onward lo (union W) = filled-first l₀ b k l n f a1 ∙ ap (λ (y : List Block). onward lo (union y)) e in
        let z : p ++ c ≡ O = off-is s lo hi p (p ++ c) eg (ap (λ (y : List Block). p ++ y) eh) in
        let y : pairs m o ≡ onward lo (union O) = filled-second o₀ p i o₁ m₁ g a2 c j o m h a3 ∙ ap (λ (y : List Block). onward lo (union y)) z in
        let u = union-apart lo W (rules-apart lo hi s.work) in
        let v = union-apart lo O (rules-apart lo hi (off_rules s)) in
        q ∙ ap₂ subtract x y ∙ subtract-onward lo (union W) (union O) u.full u.from v.full v.from

-- ---- the records of the code

-- what a rule has in the window
abbrev pub rule_blocks : List ℕ → ℕ → ℕ → Rule' → List Block
rule_blocks p lo hi r = blocks_of lo hi (rule_is p r)

pub rule-from : (p : List ℕ) (lo hi : ℕ) (r : Rule') → Apart lo (rule_blocks p lo hi r)
rule-from p lo hi r = rule-apart (rule_is p r) lo hi

-- what a holiday record has in it
abbrev pub closed_blocks : List ℕ → List ℕ → ℕ → ℕ → HolidayDates → List Block
closed_blocks b p lo hi c = blocks_of lo hi (holiday_rule (holidays_is b p c))

pub closed-from : (b p : List ℕ) (lo hi : ℕ) (c : HolidayDates) → Apart lo (closed_blocks b p lo hi c)
closed-from b p lo hi c = rule-apart (holiday_rule (holidays_is b p c)) lo hi

pub closed-are : (b p : List ℕ) (lo hi : ℕ) (l : List HolidayDates) → joined (map (closed_blocks b p lo hi) l) ≡ blocks_of_all lo hi (map holiday_rule (map (holidays_is b p) l))
closed-are b p lo hi l = rules-are lo hi (λ (c : HolidayDates). holiday_rule (holidays_is b p c)) l ∙ ap (blocks_of_all lo hi) (maps holiday_rule (holidays_is b p) l)

-- no block is sorted and apart
pub none-normal : (l : List ℕ) → Normal (pairs 0 l)
unfolding part
none-normal l = tt

-- ---- the sum

module _ (s : Schedule) (lo hi : ℕ) where
  work-chain : Chain lo (working s lo hi) × Ends hi (working s lo hi)
  unfolding working
  work-chain =
      let W : List Block = blocks_of_all lo hi s.work in
      let O : List Block = blocks_of_all lo hi (off_rules s) in
      let a : Normal (union W) = union-normal W (all-nonempty lo hi s.work) in
      let b : Normal (union O) = union-normal O (all-nonempty lo hi (off_rules s)) in
      chain-at 0 lo hi (subtract (union W) (union O)) (subtract-normal (union W) (union O) a b)
      (λ t i. all_in lo hi s.work t ((union-in t W).0 ((subtract-in t (union W) (union O) b).0 i).0))

  pub total-fits : lo ≤ hi → hi ≤ lo + 7 * day → (r : List Block) → r ≡ onward lo (working s lo hi) → NonEmpty r × (total r < 18446744073709551616)
  total-fits h k r e =
      let c = work-chain in
      let n = chain-nonempty lo (working s lo hi) c.0 in
      let f = (chain-sorted lo (working s lo hi) c.0).1 in
      let t = working-most s lo hi h in
      let o = total-onward lo (working s lo hi) n f in
      rw e (onward-nonempty lo (working s lo hi) n f, omega arith)

  pub total-is : (r : List Block) → r ≡ onward lo (working s lo hi) → total r ≡ total (working s lo hi)
  total-is r e =
      let c = work-chain in
      rw e (total-onward lo (working s lo hi) (chain-nonempty lo (working s lo hi) c.0) (chain-sorted lo (working s lo hi) c.0).1)
