-- The listing, for every schedule: its stretches sum to what `between` gives, they are sorted, apart and not empty, and none could be longer.
use Rattle.std.specs.Prelude.{◌≡◌, refl, Bool, List, [], ◌++◌}
use Rattle.std.proofs.Common.{sym, ◌∙◌, inl, inr, ⊎_elim, arith}
use Prim.Native.Nat.{ℕ, zero, suc, ◌+◌, ◌-◌, ◌≤◌, ◌<◌, min}
use Rattle.model.specs.Instant.{week}
use Rattle.model.specs.Blocks.{Block, total}
use Rattle.model.specs.Working.{Schedule, working}
use Rattle.model.specs.Walk.{begun, time_between, listed, stretches}
use Rattle.laws_blocks.specs.Lists.{Lists, none, next, idle-lists, next-lists}
use Rattle.laws_blocks.specs.Members.{covers, append-in, same_test}
use Rattle.laws_blocks.specs.Left.{lists-in}
use Rattle.laws_blocks.specs.Turn.{lists-append}
use Rattle.laws_blocks.specs.Stretches.{Stretches, merged-stretches, merged-total, time-listed}
use Rattle.laws_skip.specs.Schedules.{working-lists}

-- what a list says of a test, it says of one that agrees with it in the window
pub lists-as : (W X : ℕ → Bool) (lo hi : ℕ) {l : List Block} → ((u : ℕ) → lo ≤ u → u < hi → X u ≡ W u) → Lists W lo hi l → Lists X lo hi l
lists-as W X lo hi f (none h e) = idle-lists X lo hi h (λ u a b. f u a b ∙ e u a b)
lists-as W X lo hi f (next s e a b c i k r) =
    next-lists X lo hi s e a b c (λ u x y. f u x (omega arith) ∙ i u x y) (λ u x y. f u (omega arith) (omega arith) ∙ k u x y)
    (lists-as W X e hi (λ u x y. f u (omega arith) y) r)

-- two lists of adjacent windows: each instant is covered by the list of its window
module _ (lo mid hi : ℕ) (l k : List Block) (p : Lists (covers l) lo mid l) (q : Lists (covers k) mid hi k) where
  pub in-first : (u : ℕ) → u < mid → covers (l ++ k) u ≡ covers l u
  in-first u h =
      same_test u (l ++ k) l (
        λ i. ⊎_elim (λ a. a) (λ a. absurd (let b = (lists-in (covers k) mid hi q u).0 a in let c = b.0.0 in omega arith)) ((append-in u l k).0 i),
        λ i. (append-in u l k).1 (inl i),
      )

  pub in-second : (u : ℕ) → mid ≤ u → covers (l ++ k) u ≡ covers k u
  in-second u h =
      same_test u (l ++ k) k (
        λ i. ⊎_elim (λ a. absurd (let b = (lists-in (covers l) lo mid p u).0 a in let c = b.0.1 in omega arith)) (λ a. a) ((append-in u l k).0 i),
        λ i. (append-in u l k).1 (inr i),
      )

  pub both-lists : Lists (covers (l ++ k)) lo hi (l ++ k)
  both-lists =
      lists-append (covers (l ++ k)) lo mid hi (lists-as (covers l) (covers (l ++ k)) lo mid (λ u a b. in-first u b) p)
      (lists-as (covers k) (covers (l ++ k)) mid hi (λ u a b. in-second u a) q)

module _ (work : ℕ → ℕ → List Block) (each : (x y : ℕ) → x ≤ y → Lists (covers (work x y)) x y (work x y)) where
  listed-self : (n lo b : ℕ) → lo ≤ b → Lists (covers (listed n work lo b)) lo b (listed n work lo b)
  unfolding listed
  listed-self zero lo b h = idle-lists (covers []) lo b h (λ u x y. refl)
  listed-self (suc n) lo b h =
      both-lists lo (min (lo + week) b) b (work lo (min (lo + week) b)) (listed n work (min (lo + week) b) b)
      (each lo (min (lo + week) b) (omega arith)) (listed-self n (min (lo + week) b) b (omega arith))

module _ (s : Schedule) (lo hi : ℕ) (h : lo ≤ hi) where
  -- the instants of the listing: those that the window in which they lie lists
  abbrev pub listed_at : ℕ → Bool
  listed_at = covers (listed (begun (hi - lo)) (working s) lo hi)

  -- the windows one behind the other list them
  pub windows-list : Lists listed_at lo hi (listed (begun (hi - lo)) (working s) lo hi)
  windows-list = listed-self (working s) (working-lists s) (begun (hi - lo)) lo hi h

  -- sorted, apart, not empty, maximal
  pub listing-stretches : Stretches listed_at lo hi (stretches s lo hi)
  listing-stretches = merged-stretches listed_at lo hi (listed (begun (hi - lo)) (working s) lo hi) windows-list

  -- and their lengths sum to what `between` gives
  pub listing-sum : total (stretches s lo hi) ≡ time_between s lo hi
  listing-sum = merged-total listed_at lo hi (listed (begun (hi - lo)) (working s) lo hi) windows-list ∙ sym (time-listed (working s) (begun (hi - lo)) lo hi)
