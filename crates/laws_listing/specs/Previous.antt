-- The previous period before an instant t, for every schedule: it is the last stretch of the listing of the range up to t, cut to the search limit
-- from its end, where that stretch ends within the limit; further off, or with no stretch and a range that begins beyond the limit, it is refused
-- with 6; with no stretch down to a range's start within the limit, with 7 (`previous-period`).
-- That listing counts its windows back from t, as the search does. The windows of the listing itself begin at lo, and which instants a window shows
-- may depend on where it begins: in the first days of -9999, since two dates back is all or nothing, and in zones with offsets over 24 hours apart.
-- A listing that begins a whole number of weeks before t has those very windows, for every schedule: so the last stretch of the listing itself
-- is the previous period where it goes back more than twice the limit (`previous-in-weeks`): a period is looked for within the limit and cut to it.
-- Under demand 3's premise windows do not matter, and lo is any instant from -9998 on (`previous-from-any`).
use Rattle.std.specs.Prelude.{◌≡◌, refl, Bool, false, ltb, if◌then◌else◌}
use Rattle.std.proofs.Math.Path.{sym}
use Rattle.std.proofs.Common.{◌∙◌, ap, ap₂, add-zero, add-suc}
use Rattle.std.proofs.Math.Logic.{⊎_elim}
use mathlib.Core.List.{List, [], ◌∷◌, ◌++◌, append-nil, append_assoc, map-append, reverse-append}
use Prim.Native.Nat.{ℕ, zero, suc, ◌+◌, ◌*◌, ◌-◌, ◌≤◌, ◌<◌, min, max}
use native.Mathlib.Omega.{arith}
use Rattle.std.proofs.Math.Nat.{sub-zero}
use borrow.Author.Tests.{lt-ltb, le-ltb, ltb-false}
use Rattle.model.specs.Calendar.{first_day}
use Rattle.model.specs.Answer.{Answer, gives, refuses}
use Rattle.model.specs.Instant.{day, week, first_instant, last_instant}
use Rattle.model.specs.Blocks.{Block, block, merged}
use Rattle.model.specs.Working.{Schedule, working}
use Rattle.model.specs.Build.{build}
use Rattle.model.specs.Walk.{back, onward, backward, ahead, begun, listed, stretches, period}
use Rattle.laws_base.specs.Test.{by-test, clash}
use Rattle.laws_blocks.specs.Lists.{Lists, none, next, Empty, Full, idle-lists}
use Rattle.laws_blocks.specs.Members.{halves, covers, From, Chain, Ends, chain-weaken, chain-sorted, normal-unique}
use Rattle.laws_blocks.specs.Left.{lists-in}
use Rattle.laws_blocks.specs.Turn.{behind, backward-lists}
use Rattle.laws_blocks.specs.Stretches.{Maximal, lists-covers, merged-stretches, stretches-unique, listed-none, listed_more, listed-lists}
use Rattle.laws_demand3.specs.Zones.{WithinDay, zones_of}
use Rattle.laws_base.specs.Every.{Every}
use Rattle.laws_demand3.specs.Windows.{RuleOk, NearRule, OfRules, works_at}
use Rattle.laws_demand3.proofs.Covers.{window-lists}
use Rattle.laws_demand3.specs.Built.{built, near-rules}
use Rattle.laws_demand3.specs.Demand.{since}
use Rattle.laws_skip.specs.WindowEnds.{backward-none, backward-cons}
use Rattle.laws_skip.specs.Schedules.{working-lists}
use Rattle.laws_listing.specs.Listing.{lists-as, in-first, in-second, both-lists}
use Rattle.laws_listing.specs.Nearest.{nearest_of, first_stretch, first-nearest, period-nearest}

-- ---- the listing up to t, its windows counted back from t

-- the blocks of n windows up to t, the first one beginning at a
unfoldable pub listed_to : ℕ → (ℕ → ℕ → List Block) → ℕ → ℕ → List Block
listed_to zero work a t = []
listed_to (suc n) work a t = let lo = max (t - week) a in listed_to n work a lo ++ work lo t

abbrev pub stretches_to : Schedule → ℕ → ℕ → List Block
stretches_to s a t = merged (listed_to (begun (t - a)) (working s) a t)

-- of a listing of [first, t): its last stretch as distances back from t, cut to the limit; 6 where it ends beyond the limit, or where there is none
-- and the range goes on beyond the limit; 7 where there is none down to the range's start
unfoldable pub last_stretch : ℕ → ℕ → ℕ → List Block → Answer Block
last_stretch limit first t [] = if ltb limit (t - first) then refuses 6 0 else refuses 7 0
last_stretch limit first t (b ∷ []) = if ltb limit (t - b.end) then refuses 6 0 else gives (block (t - b.end) (min (t - b.start) (t - b.end + limit)))
last_stretch limit first t (b ∷ c ∷ l) = last_stretch limit first t (c ∷ l)

-- ---- the last stretch is the first one seen back from t

onward-zero : (l : List Block) → onward 0 l ≡ l
unfolding onward
onward-zero [] = refl
onward-zero (b ∷ l) = ap₂ ◌∷◌ (λ i. record { start = sub-zero b.start i; end = sub-zero b.end i }) (onward-zero l)

backward-append : (t : ℕ) (l m : List Block) → backward t (l ++ m) ≡ backward t m ++ backward t l
unfolding backward
backward-append t l m = rw (reverse-append, map-append)

-- what is behind a first stretch does not matter
first-front : (limit t last : ℕ) (m : List Block) (b : Block) (k : List Block) → first_stretch limit t last ((m ++ (b ∷ [])) ++ k) ≡ first_stretch limit t last (m ++ (b ∷ []))
unfolding first_stretch
first-front limit t last [] b k = refl
first-front limit t last (c ∷ m) b k = refl

last-first : (limit first t : ℕ) (l : List Block) → last_stretch limit first t l ≡ first_stretch limit 0 (t - first) (backward t l)
unfolding last_stretch first_stretch
last-first limit first t [] = rw (backward-none t) (simp sub-zero)
last-first limit first t (b ∷ []) = rw (backward-cons t b [], backward-none t) (simp sub-zero)
last-first limit first t (b ∷ c ∷ l) =
    last-first limit first t (c ∷ l)
    ∙ rw (backward-cons t b (c ∷ l), backward-cons t c l)
    (sym (first-front limit 0 (t - first) (backward t l) (block (t - c.end) (t - c.start)) (block (t - b.end) (t - b.start) ∷ [])))

last_of : (limit first t : ℕ) (l : List Block) (b : Block) → last_stretch limit first t (l ++ (b ∷ [])) ≡ last_stretch limit first t (b ∷ [])
unfolding last_stretch
last_of limit first t [] b = refl
last_of limit first t (c ∷ []) b = refl
last_of limit first t (c ∷ d ∷ l) b = last_of limit first t (d ∷ l) b

-- ---- seen back from t, a listing stays one

chain_more : (m e s f : ℕ) (k : List Block) → Chain m k → Ends e k → e < s → m ≤ s → s < f → Chain m (k ++ (block s f ∷ []))
chain_more m e s f [] c d h k l = (k, l, tt)
chain_more m e s f (b ∷ r) c d h k l = (c.0, c.1, chain_more (suc b.end) e s f r c.2 d.1 h (let x = d.0 in omega arith) l)

ends_more : (e s f : ℕ) (k : List Block) → Ends e k → f ≤ e → Ends e (k ++ (block s f ∷ []))
ends_more e s f [] d h = (h, tt)
ends_more e s f (b ∷ r) d h = (d.0, ends_more e s f r d.1 h)

backward-ends : (m t : ℕ) (l : List Block) → From m l → Ends (t - m) (backward t l)
backward-ends m t [] f = rw (backward-none t) tt
backward-ends m t (b ∷ l) f = rw (backward-cons t b l) (ends_more (t - m) (t - b.end) (t - b.start) (backward t l) (backward-ends m t l f.1) (let x = f.0 in omega arith))

backward-chain : (m hi t : ℕ) (l : List Block) → Chain m l → Ends hi l → hi ≤ t → Chain (t - hi) (backward t l)
backward-chain m hi t [] c e h = rw (backward-none t) tt
backward-chain m hi t (b ∷ []) c e h = rw (backward-cons t b [], backward-none t) (let x = e.0 in let y = c.1 in (omega arith, omega arith, tt))
backward-chain m hi t (b ∷ d ∷ l) c e h =
    let r = backward-chain (suc b.end) hi t (d ∷ l) c.2 e.1 h in
    let f = (chain-sorted (suc b.end) (d ∷ l) c.2).1 in
    let x = e.1.0 in let y = c.2.0 in let z = c.2.1 in let v = c.1 in
    rw (backward-cons t b (d ∷ l))
    (chain_more (t - hi) (t - suc b.end) (t - b.end) (t - b.start) (backward t (d ∷ l)) r (backward-ends (suc b.end) t (d ∷ l) f) (omega arith) (omega arith) (omega arith))

module _ (W : ℕ → Bool) (a t : ℕ) (l : List Block) (r : Lists W a t l) where
  back-lists : Lists (behind W t) 0 (t - a) (backward t l)
  back-lists = let e : t - t ≡ 0 = omega arith in rw e at (backward-lists W t a t (omega arith) r)

  merged-back : Lists (behind W t) 0 (t - a) (backward t (merged l))
  merged-back = let e : t - t ≡ 0 = omega arith in rw e at (backward-lists W t a t (omega arith) (merged-stretches W a t l r).lists)

  backward-merged : backward t (merged l) ≡ merged (backward t l)
  backward-merged =
      let p = merged-stretches W a t l r in
      let q = merged-stretches (behind W t) 0 (t - a) (backward t l) back-lists in
      normal-unique (backward t (merged l)) (merged (backward t l)) (chain-weaken 0 (t - t) (backward t (merged l)) (omega arith) (backward-chain a t t (merged l) p.chain p.ends (omega arith))) q.chain
      (λ u.
      let x = lists-in (behind W t) 0 (t - a) merged-back u in
      let y = lists-in (behind W t) 0 (t - a) q.lists u in
      (λ i. y.1 (x.0 i), λ i. x.1 (y.0 i)))

  -- the last stretch is the nearest of the blocks seen back from t
  last-nearest : (limit : ℕ) → last_stretch limit a t (merged l) ≡ nearest_of limit (t - a) (backward t l)
  last-nearest limit =
      last-first limit a t (merged l)
      ∙ ap (first_stretch limit 0 (t - a)) backward-merged
      ∙ first-nearest (behind W t) limit 0 (t - a) (backward t l) back-lists
      ∙ rw (sub-zero (t - a), onward-zero (backward t l))

-- ---- windows counted back from t

to-backward : (s : Schedule) (t n x end : ℕ) → x ≤ end → end ≤ t → listed n (ahead back s t) x end ≡ backward t (listed_to n (working s) (t - end) (t - x))
unfolding listed listed_to ahead
to-backward s t zero x end h k = sym (backward-none t)
to-backward s t (suc n) x end h k =
    let e : max (t - x - week) (t - end) ≡ t - min (x + week) end = omega arith in
    rw (e, backward-append t (listed_to n (working s) (t - end) (t - min (x + week) end)) (working s (t - min (x + week) end) (t - x)))
    (ap (λ (m : List Block). backward t (working s (t - min (x + week) end) (t - x)) ++ m) (to-backward s t n (min (x + week) end) end (omega arith) k))

module _ (work : ℕ → ℕ → List Block) (each : (x y : ℕ) → x ≤ y → Lists (covers (work x y)) x y (work x y)) where
  to-self : (n a t : ℕ) → a ≤ t → Lists (covers (listed_to n work a t)) a t (listed_to n work a t)
  unfolding listed_to
  to-self zero a t h = idle-lists (covers []) a t h (λ u x y. refl)
  to-self (suc n) a t h =
      both-lists a (max (t - week) a) t (listed_to n work a (max (t - week) a)) (work (max (t - week) a) t)
      (to-self n a (max (t - week) a) (omega arith)) (each (max (t - week) a) t (omega arith))

-- ---- the previous period

-- the blocks of the range up to t
abbrev blocks_to : Schedule → ℕ → List Block
blocks_to s t = listed_to (begun (t - first_instant)) (working s) first_instant t

module _ (s : Schedule) (t : ℕ) (h : first_instant ≤ t) where
  windows-back : Lists (covers (blocks_to s t)) first_instant t (blocks_to s t)
  windows-back = to-self (working s) (working-lists s) (begun (t - first_instant)) first_instant t h

  -- for every schedule and every instant of the range
  pub previous-period : period back s t ≡ last_stretch s.limit first_instant t (stretches_to s first_instant t)
  previous-period =
      let n = begun (t - first_instant) in
      let e : t - (t - first_instant) ≡ first_instant = omega arith in
      let q = to-backward s t n 0 (t - first_instant) (omega arith) (omega arith) in
      period-nearest back s t
      ∙ ap (nearest_of s.limit (t - first_instant)) (rw (e, sub-zero t) at q)
      ∙ sym (last-nearest (covers (blocks_to s t)) first_instant t (blocks_to s t) windows-back s.limit)

  -- so it is the last stretch, cut to the limit from its end, where that ends within the limit
  pub previous-is-last : (l : List Block) (b : Block) → stretches_to s first_instant t ≡ l ++ (b ∷ []) → t - b.end ≤ s.limit
      → period back s t ≡ gives (block (t - b.end) (min (t - b.start) (t - b.end + s.limit)))
  unfolding last_stretch
  previous-is-last l b e k = previous-period ∙ rw (e, last_of s.limit first_instant t l b, le-ltb s.limit (t - b.end) k)

-- ---- by a listing that goes back far enough

module _ (W : ℕ → Bool) (limit x end : ℕ) (far : 2 * limit < x) (more : x ≤ end) where
  -- two first stretches of the same instants begin at the same one
  same_start : (s e s' e' : ℕ) → s < e → s' < e' → Empty W 0 s → Full W s e → Empty W 0 s' → Full W s' e' → s ≡ s'
  same_start s e s' e' h h' i f i' f' =
      ⊎_elim (λ a. clash (W s) (f s (omega arith) h) (i' s (omega arith) a))
      (λ a. ⊎_elim (λ b. clash (W s') (f' s' (omega arith) h') (i s' (omega arith) b)) (λ b. omega arith) (halves s' s))
      (halves s s')

  -- and, cut to the limit, end at the same one, also where one listing ends before the other
  same_end : (s e e' : ℕ) → s ≤ limit → s < e → s < e' → e ≤ end → e' ≤ x → Full W s e → Full W s e' → (e < end → W e ≡ false) → (e' < x → W e' ≡ false) → min e (s + limit) ≡ min e' (s + limit)
  same_end s e e' h k k' l l' f f' m m' =
      ⊎_elim (λ a. clash (W e) (f' e (omega arith) a) (m (omega arith)))
      (λ a. ⊎_elim (λ b. ⊎_elim (λ c. clash (W e') (f e' (omega arith) b) (m' c)) (λ c. omega arith) (halves e' x)) (λ b. omega arith) (halves e' e))
      (halves e e')

  first-near : (l k : List Block) → Lists W 0 end l → Maximal W 0 end l → Lists W 0 x k → Maximal W 0 x k → first_stretch limit 0 end l ≡ first_stretch limit 0 x k
  unfolding first_stretch
  first-near [] [] (none h e) m (none h' e') m' = rw (lt-ltb limit (end - 0) (omega arith), lt-ltb limit (x - 0) (omega arith))
  first-near [] (c ∷ k) (none h e) m (next s f a b d i g r) m' = clash (W s) (g s (omega arith) b) (e s (omega arith) (omega arith))
  first-near (c ∷ l) [] (next s f a b d i g r) m (none h e) m' =
      ⊎_elim (λ y. clash (W s) (g s (omega arith) b) (e s (omega arith) y))
      (λ y. rw (lt-ltb limit (s - 0) (omega arith), lt-ltb limit (x - 0) (omega arith)))
      (halves s x)
  first-near (c ∷ l) (c' ∷ k) (next s f a b d i g r) m (next s' f' a' b' d' i' g' r') m' =
      let p = same_start s f s' f' b b' i g i' g' in
      let full : Full W s f' = rw (← p) at g' in
      rw (sub-zero s, sub-zero f, sub-zero s', sub-zero f', ← p)
      (by-test (ltb limit s) (λ e. rw e)
      (λ e. rw e (ap (λ y. gives (block s y)) (same_end s f f' (ltb-false limit s e) b (omega arith) d d' g full m.2 m'.2))))

module _ (s : Schedule) (lo t : ℕ) (from : first_instant ≤ lo) (far : lo + 2 * s.limit < t) where
  -- any list that has from lo on the instants of the windows counted back from t
  listed-last : (l : List Block) → Lists (covers (blocks_to s t)) lo t l → period back s t ≡ last_stretch s.limit lo t (merged l)
  listed-last l r =
      let h : first_instant ≤ t = omega arith in
      let W = covers (blocks_to s t) in
      let m = blocks_to s t in
      let p = merged-stretches (behind W t) 0 (t - first_instant) (backward t m) (back-lists W first_instant t m (windows-back s t h)) in
      let q = merged-stretches (behind W t) 0 (t - lo) (backward t l) (back-lists W lo t l r) in
      previous-period s t h
      ∙ last-first s.limit first_instant t (merged m)
      ∙ ap (first_stretch s.limit 0 (t - first_instant)) (backward-merged W first_instant t m (windows-back s t h))
      ∙ first-near (behind W t) s.limit (t - lo) (t - first_instant) (omega arith) (omega arith) (merged (backward t m)) (merged (backward t l)) p.lists p.maximal q.lists q.maximal
      ∙ sym (ap (first_stretch s.limit 0 (t - lo)) (backward-merged W lo t l r))
      ∙ sym (last-first s.limit lo t (merged l))

-- ---- windows that begin a whole number of weeks before t are those counted back from t

module _ (work : ℕ → ℕ → List Block) where
  to_same : (n lo t : ℕ) → t ≡ lo + n * week → listed_to n work lo t ≡ listed n work lo t
  unfolding listed_to
  to_same zero lo t e = sym (listed-none work lo t)
  to_same (suc n) lo t e =
      let f : max (t - week) lo ≡ t - week = omega arith in
      rw (f, to_same n lo (t - week) (omega arith)) (sym (listed_more work n lo (t - week) t (omega arith) (omega arith)))

  -- what is before them
  to-split : (k n a lo t : ℕ) → a ≤ lo → t ≡ lo + k * week → listed_to (n + k) work a t ≡ listed_to n work a lo ++ listed_to k work lo t
  unfolding listed_to
  to-split zero n a lo t h e = let f : t ≡ lo = omega arith in rw (add-zero, f, append-nil)
  to-split (suc k) n a lo t h e =
      let f : max (t - week) a ≡ t - week = omega arith in
      let g : max (t - week) lo ≡ t - week = omega arith in
      rw (add-suc, f, g, to-split k n a lo (t - week) h (omega arith))
      (append_assoc (listed_to n work a lo) (listed_to k work lo (t - week)) (work (t - week) t))

module _ (s : Schedule) (k lo t : ℕ) (weeks : t ≡ lo + k * week) where
  weeks-begun : begun (t - lo) ≡ k
  weeks-begun = omega arith

  -- for every schedule: the listing from a whole number of weeks before t
  pub listing-in-weeks : stretches_to s lo t ≡ stretches s lo t
  listing-in-weeks = rw weeks-begun (ap merged (to_same (working s) k lo t weeks))

  -- and by it the previous period, where it goes back far enough
  pub previous-in-weeks : first_instant ≤ lo → lo + 2 * s.limit < t → period back s t ≡ last_stretch s.limit lo t (stretches s lo t)
  previous-in-weeks from far =
      let n = begun (lo - first_instant) in
      let q : begun (t - first_instant) ≡ n + k = omega arith in
      let A = listed_to n (working s) first_instant lo in
      let B = listed_to k (working s) lo t in
      let p = to-self (working s) (working-lists s) n first_instant lo from in
      let r = to-self (working s) (working-lists s) k lo t (omega arith) in
      let l : Lists (covers (A ++ B)) lo t B = lists-as (covers B) (covers (A ++ B)) lo t (λ u a b. in-second first_instant lo t A B p r u a) r in
      let e : blocks_to s t ≡ A ++ B = rw q (to-split (working s) k n first_instant lo t from weeks) in
      listed-last s lo t from far B (rw e l) ∙ ap (λ m. last_stretch s.limit lo t (merged m)) (to_same (working s) k lo t weeks ∙ rw weeks-begun)

-- ---- where windows do not matter: demand 3's premise

module _ (s : Schedule) (ok : OfRules RuleOk s) (near : OfRules NearRule s) where
  -- a window from the sixth day of -9999 on shows the working time in it: so does every window with an instant u a week later or more
  to-works : (n a t u : ℕ) → t ≤ a + n * week → a ≤ u → u < t → t ≤ last_instant → (first_day + 5) * day + week ≤ u → covers (listed_to n (working s) a t) u ≡ works_at s u
  unfolding listed_to
  to-works zero a t u e h k l m = absurd (omega arith)
  to-works (suc n) a t u e h k l m =
      let A = listed_to n (working s) a (max (t - week) a) in
      let B = working s (max (t - week) a) t in
      let p = to-self (working s) (working-lists s) n a (max (t - week) a) (omega arith) in
      let q = working-lists s (max (t - week) a) t (omega arith) in
      ⊎_elim (λ c. in-first a (max (t - week) a) t A B p q u c ∙ to-works n a (max (t - week) a) u (omega arith) h c (omega arith) m)
      (λ c. in-second a (max (t - week) a) t A B p q u c ∙ sym (lists-covers (works_at s) (max (t - week) a) t (window-lists s ok near (max (t - week) a) t (omega arith) (omega arith) l) u c k))
      (halves u (max (t - week) a))

module _ (book pack : List ℕ) (s : Schedule) (e : build book pack ≡ gives s) (days : Every WithinDay (zones_of book pack)) (lo t : ℕ) (h : since ≤ lo) (k : t ≤ last_instant) where
  ok : OfRules RuleOk s
  ok = (built book pack s e).ok

  near : OfRules NearRule s
  near = near-rules book pack s e days

  listing-works : lo ≤ t → Lists (works_at s) lo t (listed (begun (t - lo)) (working s) lo t)
  listing-works o =
      listed-lists (works_at s) (working s) since last_instant (λ x y a b c d. window-lists s ok near x y (omega arith) b d) (begun (t - lo)) lo t h o k (omega arith)

  -- for a book that builds and whose zones' offsets lie within 24 hours: the listing from any instant from -9998 on
  pub listing-from-any : lo ≤ t → stretches_to s lo t ≡ stretches s lo t
  listing-from-any o =
      let n = begun (t - lo) in
      let l = listed_to n (working s) lo t in
      let m = listed n (working s) lo t in
      let r = lists-as (covers l) (works_at s) lo t (λ u x y. sym (to-works s ok near n lo t u (omega arith) x y k (omega arith))) (to-self (working s) (working-lists s) n lo t o) in
      stretches-unique (works_at s) lo t (merged l) (merged m) (merged-stretches (works_at s) lo t l r) (merged-stretches (works_at s) lo t m (listing-works o))

  -- and by it the previous period, where it goes back far enough
  pub previous-from-any : lo + 2 * s.limit < t → period back s t ≡ last_stretch s.limit lo t (stretches s lo t)
  previous-from-any far =
      listed-last s lo t (omega arith) far (listed (begun (t - lo)) (working s) lo t)
      (lists-as (works_at s) (covers (blocks_to s t)) lo t (λ u x y. to-works s ok near (begun (t - first_instant)) first_instant t u (omega arith) (omega arith) y k (omega arith)) (listing-works (omega arith)))
