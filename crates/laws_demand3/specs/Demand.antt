-- Demand 3 over a schedule, with instants and durations as numbers of nanoseconds: the definitions that its sentences are written in, and what
-- needs no premise on zones. The sentences are in proofs/Moves.antt.
use Rattle.std.specs.Prelude.{◌≡◌, Bool}
use Rattle.std.proofs.Common.{add-zero}
use Rattle.std.proofs.Math.Path.{ap}
use Prim.Native.Nat.{ℕ, ◌+◌, ◌*◌, ◌-◌, ◌≤◌, ◌<◌}
use native.Mathlib.Omega.{arith}
use Rattle.std.proofs.Math.Decide.{dec_le}
use Rattle.model.specs.Calendar.{first_day}
use Rattle.model.specs.Instant.{day, last_instant}
use Rattle.model.specs.Answer.{Answer, gives, refuses, ◌>>=◌}
use Rattle.model.specs.Working.{Schedule}
use Rattle.model.specs.Walk.{Way, on, back, at, search, search_in, time_between}
use Rattle.laws_blocks.specs.Count.{cnt, span, span-add}
use Rattle.laws_demand3.specs.Walks.{Found, Outcome, met, lacks, over, found-once}
use Rattle.laws_base.specs.Test.{never}

-- -9998-01-01T00:00Z
abbrev pub since : ℕ
since = (first_day + 365) * day

-- where adding d to t leads, and taking d off t
abbrev pub move : Way → Schedule → ℕ → ℕ → Answer ℕ
move w s t d = search w s t d >>= λ x. gives (at w t x)

-- ---- arithmetic

pub span-back : (W : ℕ → Bool) (a b : ℕ) → b ≤ a → span W a b ≡ 0
unfolding span cnt
span-back W a b h = let e : b - a ≡ 0 = omega arith in rw e

pub span-diff : (W : ℕ → Bool) (x y : ℕ) → span W x y ≡ span W 0 y - span W 0 x
span-diff W x y = go (dec_le x y)
  where
    go : Dec (x ≤ y) → span W x y ≡ span W 0 y - span W 0 x
    go (yes h) = let a = span-add W 0 x y (omega arith) h in omega arith
    go (no h) = let a = span-add W 0 y x (omega arith) (omega arith) in let b = span-back W x y (omega arith) in omega arith

pub cycle : (a b c x y z u v w : ℕ) → x ≡ c - a → y ≡ a - b → z ≡ b - c → u ≡ b - a → v ≡ c - b → w ≡ a - c → x + y + z ≡ u + v + w
cycle a b c x y z u v w p q r s t o = go (dec_le a b) (dec_le b c) (dec_le a c)
  where
    go : Dec (a ≤ b) → Dec (b ≤ c) → Dec (a ≤ c) → x + y + z ≡ u + v + w
    go (yes h) (yes k) (yes l) = omega arith
    go (yes h) (yes k) (no l) = omega arith
    go (yes h) (no k) (yes l) = omega arith
    go (yes h) (no k) (no l) = omega arith
    go (no h) (yes k) (yes l) = omega arith
    go (no h) (yes k) (no l) = omega arith
    go (no h) (no k) (yes l) = omega arith
    go (no h) (no k) (no l) = omega arith

-- ---- what an answer means

pub found_of : (W : ℕ → Bool) (limit end t d x : ℕ) {a : Answer ℕ} → Outcome W limit end t d a → a ≡ gives x → (x ≤ end) × Found W limit t d x
found_of W limit end t d x (met {x = y} h f) e = let q : y ≡ x = cc in rw q at (pair y h f)
  where
    pair : (y : ℕ) → y ≤ end → Found W limit t d y → (y ≤ end) × Found W limit t d y
    pair y h f = (h, f)
found_of W limit end t d x (lacks s) e = never (cc)
found_of W limit end t d x (over s c) e = never (cc)

pub over-of : (W : ℕ → Bool) (limit end t d p : ℕ) {a : Answer ℕ} → Outcome W limit end t d a → a ≡ refuses 7 p → span W t end < d
over-of W limit end t d p (met h f) e = never (cc)
over-of W limit end t d p (lacks s) e = absurd (let z : ◌≡◌ {A = ℕ} 6 7 = cc in omega arith)
over-of W limit end t d p (over s c) e = s

-- an instant to which the working time is d is not before what is found
pub not-before : (W : ℕ → Bool) (limit t d x y : ℕ) → Found W limit t d x → 0 < d → span W t y ≡ d → x ≤ y
not-before W limit t d x y f p e = go (dec_le t y)
  where
    go : Dec (t ≤ y) → x ≤ y
    go (yes k) = found-once W limit t d x y f k e
    go (no k) = absurd (let s = span-back W t y (omega arith) in omega arith)

module _ (s : Schedule) where
  -- the working time from a to b, where b is not earlier, else zero
  abbrev pub time : ℕ → ℕ → ℕ
  time a b = time_between s a b

  -- what holds if adding d to t gives x
  pub record Added (t d x : ℕ) : Type 0 where
    pub within : x ≤ last_instant
    pub sooner : t < x
    pub exact : time t x ≡ d
    pub earliest : (y : ℕ) → y ≤ last_instant → time t y ≡ d → x ≤ y
    pub start : ℕ
    pub taken : move back s x d ≡ gives start
    pub later : t ≤ start
    pub before-x : start < x
    pub idle : time t start ≡ 0
    pub again : move on s start d ≡ gives x
    pub further : (e : ℕ) → move on s x e ≡ move on s t (d + e)

  -- adding or taking off nothing
  pub nothing : (x : ℕ) → move on s x 0 ≡ gives x
  unfolding search_in
  nothing x = ap gives (add-zero x)

  pub nothing-off : (x : ℕ) → move back s x 0 ≡ gives x
  unfolding search_in
  nothing-off x = ap gives (omega arith)
