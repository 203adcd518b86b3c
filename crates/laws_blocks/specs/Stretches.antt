-- The listing: windows' lists one behind the other, with the pieces that touch at a border made one. It lists the whole, in normal form, and its
-- blocks are the maximal stretches where the test holds.
use Prim.Native.Nat.{ℕ, zero, suc, ◌+◌, ◌-◌, ◌*◌, ◌<◌, ◌≤◌, min}
use Rattle.std.specs.Prelude.{◌≡◌, Bool, true, false, List, [], ◌∷◌, ◌++◌, ◌↔◌}
use Rattle.std.proofs.Math.Path.{refl}
use Rattle.std.proofs.Common.{sym, ◌∙◌, append-nil, append_assoc}
use native.Mathlib.Omega.{arith}
use Rattle.model.specs.Instant.{week}
use Rattle.model.specs.Blocks.{Block, merged, total}
use Rattle.model.specs.Walk.{begun, time_from, listed}
use Rattle.laws_blocks.specs.Count.{span}
use Rattle.laws_blocks.specs.Lists.{Full, Lists, none, next, idle-lists}
use Rattle.laws_blocks.specs.Members.{InBlocks, covers, NonEmpty, From, Sorted, Chain, Ends, from-weaken, merged-in, merged-chain, chain-weaken, normal-unique}
use Rattle.laws_blocks.specs.Left.{in-test, lists-in, chain-lists, chain-at}
use Rattle.laws_blocks.specs.Turn.{lists-order, lists-append}
use Rattle.laws_blocks.specs.Totals.{total-append, lists_total}

module _ (W : ℕ → Bool) where
  -- each block is a stretch that is cut by nothing but the window: W holds in it, and fails just before it and at its end
  abbrev pub Maximal : ℕ → ℕ → List Block → Type 0
  Maximal lo hi [] = Unit {0}
  Maximal lo hi (b ∷ l) = Full W b.start b.end × (lo < b.start → W (b.start - 1) ≡ false) × (b.end < hi → W b.end ≡ false) × Maximal lo hi l

  -- ---- what `Lists` says of a list

  pub lists-from : (lo hi : ℕ) {l : List Block} → Lists W lo hi l → From lo l
  lists-from lo hi (none h e) = tt
  lists-from lo hi (next {l = l} s e a b c i f r) = (a, from-weaken lo e l (omega arith) (lists-from e hi r))

  pub lists-sorted : (lo hi : ℕ) {l : List Block} → Lists W lo hi l → Sorted l
  lists-sorted lo hi (none h e) = tt
  lists-sorted lo hi (next {l = l} s e a b c i f r) = (from-weaken s e l (omega arith) (lists-from e hi r), lists-sorted e hi r)

  pub lists-nonempty : (lo hi : ℕ) {l : List Block} → Lists W lo hi l → NonEmpty l
  lists-nonempty lo hi (none h e) = tt
  lists-nonempty lo hi (next s e a b c i f r) = (b, lists-nonempty e hi r)

  -- the test of a list that `Lists`, in its window
  pub lists-covers : (lo hi : ℕ) {l : List Block} → Lists W lo hi l → (u : ℕ) → lo ≤ u → u < hi → W u ≡ covers l u
  lists-covers lo hi {l} r u a b = in-test W lo hi l u (lists-in W lo hi r u) a b

  -- ---- blocks that touch made one

  module _ (lo hi : ℕ) (l : List Block) (r : Lists W lo hi l) where
    merged-same : (t : ℕ) → InBlocks t (merged l) ↔ (((lo ≤ t) × (t < hi)) × (W t ≡ true))
    merged-same t =
        let a = merged-in t l (lists-sorted lo hi r) in
        let b = lists-in W lo hi r t in
        (λ i. b.0 (a.0 i), λ m. a.1 (b.1 m))

    pub merged-normal : Chain lo (merged l) × Ends hi (merged l)
    merged-normal =
        chain-at lo lo hi (merged l) (merged-chain lo l (lists-from lo hi r) (lists-sorted lo hi r) (lists-nonempty lo hi r)) (λ t i. ((merged-same t).0 i).0)

    pub merged-lists : Lists W lo hi (merged l)
    merged-lists =
        chain-lists W lo hi (merged l) (lists-order W lo hi r) merged-normal.0 merged-normal.1
        (λ u a b. in-test W lo hi (merged l) u (merged-same u) a b)

    pub merged-total : total (merged l) ≡ total l
    merged-total = lists_total W lo hi merged-lists ∙ sym (lists_total W lo hi r)

  -- ---- maximal stretches

  ends-idle : (e hi : ℕ) {l : List Block} → Lists W e hi l → Chain (suc e) l → e < hi → W e ≡ false
  ends-idle e hi (none h idle) c k = idle e (omega arith) k
  ends-idle e hi (next s f a b g idle full r) c k = idle e (omega arith) c.0

  -- the window began at first; a block at c or later that does not begin there lies behind lo
  maximal-from : (first c lo hi : ℕ) {l : List Block} → Lists W lo hi l → Chain c l → ((s : ℕ) → c ≤ s → first < s → lo < s) → Maximal first hi l
  maximal-from first c lo hi (none h e) k apart = tt
  maximal-from first c lo hi (next s e a b g idle full r) k apart = (
    full,
    λ h. let o : lo < s = apart s k.0 h in idle (s - 1) (omega arith) (omega arith),
    λ h. ends-idle e hi r k.2 h,
    maximal-from first (suc e) e hi r k.2 (λ s p q. p),
  )

  pub chain-maximal : (lo hi : ℕ) {l : List Block} → Lists W lo hi l → Chain lo l → Maximal lo hi l
  chain-maximal lo hi r c = maximal-from lo lo lo hi r c (λ s p q. q)

-- ---- windows of a week

-- what a listing of [lo, hi) is
pub record Stretches (W : ℕ → Bool) (lo hi : ℕ) (l : List Block) : Type 0 where
  pub lists : Lists W lo hi l
  pub chain : Chain lo l
  pub ends : Ends hi l
  pub maximal : Maximal W lo hi l
  pub sum : total l ≡ span W lo hi

pub merged-stretches : (W : ℕ → Bool) (lo hi : ℕ) (l : List Block) → Lists W lo hi l → Stretches W lo hi (merged l)
merged-stretches W lo hi l r =
    let a = merged-lists W lo hi l r in
    let c = merged-normal W lo hi l r in
    record { lists = a; chain = c.0; ends = c.1; maximal = chain-maximal W lo hi a c.0; sum = lists_total W lo hi a }

-- there is one listing
pub stretches-unique : (W : ℕ → Bool) (lo hi : ℕ) (l k : List Block) → Stretches W lo hi l → Stretches W lo hi k → l ≡ k
stretches-unique W lo hi l k p q =
    normal-unique l k (chain-weaken 0 lo l (omega arith) p.chain) (chain-weaken 0 lo k (omega arith) q.chain)
    (λ t.
    let a = lists-in W lo hi p.lists t in
    let b = lists-in W lo hi q.lists t in
    (λ i. b.1 (a.0 i), λ i. a.1 (b.0 i)))

-- enough windows are begun
pub begun-enough : (x : ℕ) → x ≤ begun x * week
begun-enough x = omega arith

-- windows one behind the other
module _ (work : ℕ → ℕ → List Block) where
  pub listed-none : (lo b : ℕ) → listed 0 work lo b ≡ []
  unfolding listed
  listed-none lo b = refl

  listed-whole : (n lo b : ℕ) → lo + week ≤ b → listed (suc n) work lo b ≡ work lo (lo + week) ++ listed n work (lo + week) b
  unfolding listed
  listed-whole n lo b h = let e : min (lo + week) b ≡ lo + week = omega arith in rw e

  -- one window more
  pub listed_more : (n lo mid hi : ℕ) → mid ≡ lo + n * week → hi ≡ mid + week → listed (suc n) work lo hi ≡ listed n work lo mid ++ work mid hi
  listed_more zero lo mid hi p q =
      let e : mid ≡ lo = omega arith in
      let f : hi ≡ lo + week = omega arith in
      rw (e, f, listed-whole 0 lo (lo + week) (omega arith), listed-none (lo + week) (lo + week), listed-none lo lo, append-nil)
  listed_more (suc n) lo mid hi p q =
      rw (listed-whole (suc n) lo hi (omega arith), listed_more n (lo + week) mid hi (omega arith) q, listed-whole n lo mid (omega arith))
      (sym (append_assoc (work lo (lo + week)) (listed n work (lo + week) mid) (work mid hi)))

-- `work` lists W on each window of at most a week in [first, last)
module _ (W : ℕ → Bool) (work : ℕ → ℕ → List Block) (first last : ℕ) (works : (x y : ℕ) → first ≤ x → x ≤ y → y ≤ x + week → y ≤ last → Lists W x y (work x y)) where
  pub listed-lists : (n lo b : ℕ) → first ≤ lo → lo ≤ b → b ≤ last → b ≤ lo + n * week → Lists W lo b (listed n work lo b)
  unfolding listed
  listed-lists zero lo b f h k g = idle-lists W lo b h (λ u p q. absurd (omega arith))
  listed-lists (suc n) lo b f h k g =
      lists-append W lo (min (lo + week) b) b
      (works lo (min (lo + week) b) f (omega arith) (omega arith) (omega arith))
      (listed-lists n (min (lo + week) b) b (omega arith) (omega arith) k (omega arith))

  -- the listing of [lo, b)
  pub listed-stretches : (lo b : ℕ) → first ≤ lo → lo ≤ b → b ≤ last → Stretches W lo b (merged (listed (begun (b - lo)) work lo b))
  listed-stretches lo b f h k =
      merged-stretches W lo b (listed (begun (b - lo)) work lo b) (listed-lists (begun (b - lo)) lo b f h k (let e = begun-enough (b - lo) in omega arith))

-- the sum of the windows' working time is that of their lists
pub time-listed : (work : ℕ → ℕ → List Block) (n lo b : ℕ) → time_from n work lo b ≡ total (listed n work lo b)
unfolding time_from listed total
time-listed work zero lo b = refl
time-listed work (suc n) lo b = rw (total-append (work lo (min (lo + week) b)) (listed n work (min (lo + week) b) b), time-listed work n (min (lo + week) b) b)

module _ (W : ℕ → Bool) (work : ℕ → ℕ → List Block) (first last : ℕ) (works : (x y : ℕ) → first ≤ x → x ≤ y → y ≤ x + week → y ≤ last → Lists W x y (work x y)) where
  -- and counts W in [lo, b)
  pub time-counts : (lo b : ℕ) → first ≤ lo → lo ≤ b → b ≤ last → time_from (begun (b - lo)) work lo b ≡ span W lo b
  time-counts lo b f h k =
      time-listed work (begun (b - lo)) lo b
      ∙ lists_total W lo b (listed-lists W work first last works (begun (b - lo)) lo b f h k (let e = begun-enough (b - lo) in omega arith))
