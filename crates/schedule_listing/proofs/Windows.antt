-- The loop of `walk` over windows: its invariant, and that a turn keeps it. Assumes nothing.
use Rattle.std.specs.Prelude.{Option, None}
use mathlib.Core.Path.{◌≡◌, refl, sym, ap, ap₂, ◌∙◌}
use mathlib.Core.Bool.{Bool, true, false}
use mathlib.Core.List.{List, [], ◌∷◌, ◌++◌}
use Prim.Native.Nat.{ℕ, ◌+◌, ◌*◌, ◌-◌, ◌≤◌, ◌<◌, min}
use native.Mathlib.Omega.{arith}
use lib.IntN.{ℤ}
use lib.ListN.{length, length-append}
use Rattle.model.specs.Instant.{week, last_instant}
use Rattle.model.specs.Blocks.{Block, block}
use Rattle.model.specs.Working.{Schedule, working}
use Rattle.model.specs.Walk.{begun, onward, listed, stretches}
use Rattle.laws_blocks.specs.Move.{moves}
use Rattle.laws_blocks.specs.Count672.{most_blocks}
use Rattle.instant.specs.Instant.{nanos, InRange}
use Rattle.instant.specs.declared.Instant.{Instant}
use Rattle.laws_skip.specs.WindowEnds.{Inside}
use Rattle.laws_skip.specs.Schedules.{working-inside}
use Rattle.block_pairs.specs.Pairs.{pairs}
use Rattle.walk_list_week.specs.Stretched.{on_from, ended, still_open, open_of, stored, SmallOpen, Below, StretchReady, Left}
use Rattle.walk_list_week.specs.declared.Open.{Open}
use Rattle.walk_distance.specs.Distances.{Short}
use Rattle.walk_list_week.proofs.Joins.{from-append, ended-few}
use Rattle.walk_list_week.proofs.Placing.{stored-append, stored-long}
use Rattle.walk_list_week.proofs.Turns.{moved-long}
use Rattle.laws_skip.specs.Loops.{begun-less}

-- ---- the windows that are left

-- the blocks of the windows from lo to b
unfoldable pub ahead : Schedule → ℕ → ℕ → List Block
ahead s lo b = listed (begun (b - lo)) (working s) lo b

ahead-turn : (s : Schedule) (lo b hi : ℕ) → lo < b → hi ≡ min (lo + week) b → ahead s lo b ≡ working s lo hi ++ ahead s hi b
unfolding ahead listed
ahead-turn s lo b hi h e = rw e (ap (λ (n : ℕ). listed n (working s) lo b) (begun-less lo b h))

ahead-done : (s : Schedule) (lo b : ℕ) → b ≤ lo → ahead s lo b ≡ []
unfolding ahead listed
ahead-done s lo b h = let e : begun (b - lo) ≡ 0 = omega arith in rw e

-- ---- an instant of the range

pub range_last : (t : Instant) → InRange t → nanos t ≤ last_instant
range_last t r = let h = r.high in let n = r.ns in omega arith

pub range-short : (t : Instant) → InRange t → Short t
range-short t r = let h = r.high in record { sec = omega arith; ns = r.ns }

-- the end of a window
pub range-end : (lo hi b : Instant) → InRange lo → InRange b → nanos lo < nanos b → nanos hi ≡ min (nanos lo + week) (nanos b) → Short hi → InRange hi
range-end lo hi b l r h e k =
    let x = l.low in let y = r.high in let n = r.ns in let m = k.ns in
    record { low = omega arith; high = omega arith; ns = m }

-- ---- a window's blocks

-- distances from t, moved by t, are the blocks again
back-again : (t hi : ℕ) (l : List Block) → Inside t hi l → moves t (onward t l) ≡ l
unfolding onward moves
back-again t hi [] i = refl
back-again t hi (b ∷ l) i =
    let p = i.0 in let q = i.1 in
    let u : (b.start - t) + t ≡ b.start = omega arith in let v : (b.end - t) + t ≡ b.end = omega arith in
    ap₂ {C = List Block} (λ (x : Block) (y : List Block). x ∷ y) (λ i. record { start = u i; end = v i }) (back-again t hi l i.3)

below_of : (lo hi : ℕ) (l : List Block) → hi ≤ last_instant → Inside lo hi l → Below l
below_of lo hi [] h i = tt
below_of lo hi (b ∷ l) h i = ((omega arith, omega arith), below_of lo hi l h i.3)

-- ---- the loop

-- at lo, c stretches have ended, and o is open, if there is one
pub record Walking (s : Schedule) (a b : ℕ) (w : Bool) (e : List ℤ) (lo : ℕ) (o : Option Block) (c : ℕ) (out : List ℤ) : Type 0 where
  pub from : a ≤ lo
  pub small : SmallOpen o
  pub few : lo < b → c * week ≤ most_blocks * (lo - a)
  pub most : c * week ≤ most_blocks * (lo - a) + most_blocks * week
  pub count : c + length (on_from o (ahead s lo b)) ≡ length (stretches s a b)
  pub long : length out ≡ length e
  pub same : stored w c (on_from o (ahead s lo b)) out ≡ stored w 0 (stretches s a b) e

pub walking-starts : (s : Schedule) (a b : ℕ) (w : Bool) (e : List ℤ) → Walking s a b w e a None 0 e
unfolding ahead on_from
walking-starts s a b w e = record { from = omega arith; small = tt; few = λ p. omega arith; most = omega arith; count = omega arith; long = refl; same = refl }

module _ (s : Schedule) (a b : ℕ) (w : Bool) (e : List ℤ) (lo : ℕ) (o : Open) (out : List ℤ) (m : Walking s a b w e lo (open_of o.block) o.count out) (h : lo < b) (hi : ℕ) (q : hi ≡ min (lo + week) b)
    (n : ℕ) (d : List ℕ) (p : pairs n d ≡ onward lo (working s lo hi)) (f : n ≤ most_blocks) where
  -- the blocks of the window
  abbrev l : List Block
  l = moves lo (pairs n d)

  l-is : l ≡ working s lo hi
  l-is = ap (moves lo) p ∙ back-again lo hi (working s lo hi) (working-inside s lo hi (omega arith))

  l-few : length l ≤ most_blocks
  l-few = let x = moved-long lo 0 n d in omega arith

  -- what is ahead, in two parts
  parts : on_from (open_of o.block) (ahead s lo b)
      ≡ ended (open_of o.block) l ++ on_from (still_open (open_of o.block) l) (ahead s hi b)
  parts =
      ap (on_from (open_of o.block)) (ahead-turn s lo b hi h q ∙ ap (λ (x : List Block). x ++ ahead s hi b) (sym l-is))
      ∙ from-append (open_of o.block) l (ahead s hi b)

  parts-long : length (on_from (open_of o.block) (ahead s lo b))
      ≡ length (ended (open_of o.block) l) + length (on_from (still_open (open_of o.block) l) (ahead s hi b))
  parts-long = ap length parts ∙ length-append (ended (open_of o.block) l) _

  ends-few : length (ended (open_of o.block) l) ≤ most_blocks
  ends-few = let u = ended-few (open_of o.block) l in let v = l-few in omega arith

  -- `join_window` may be called
  pub walking-ready : b ≤ last_instant → (w ≡ true → 4 * length (stretches s a b) ≤ length e) → StretchReady (moves lo (pairs n d)) o w out
  walking-ready i r =
      let u = m.few h in let g = m.from in
      record {
        few = l-few;
        small = m.small;
        below = rw l-is (below_of lo hi (working s lo hi) (omega arith) (working-inside s lo hi (omega arith)));
        count = omega arith;
        room = λ v. let x = r v in let y = m.count in let z = parts-long in let t = m.long in omega arith;
      }

  -- and what it leaves goes on
  pub walking_on : (w ≡ true → 4 * length (stretches s a b) ≤ length e) → (r : Open) → Left (moves lo (pairs n d)) o r → (o' : List ℤ) → o' ≡ stored w o.count (ended (open_of o.block) (moves lo (pairs n d))) out
      → Walking s a b w e hi (open_of r.block) r.count o'
  walking_on room r left o' t =
      let i = m.from in
      let u = m.few h in
      let v = ends-few in
      let n = left.count in
      let g : w ≡ true → 4 * (o.count + length (ended (open_of o.block) l)) ≤ length out = λ y. let x = room y in let d = m.count in let z = parts-long in let j = m.long in omega arith in
      record {
        from = omega arith;
        small = left.small;
        few = λ y. omega arith;
        most = omega arith;
        count = rw (left.last, left.count) (let d = m.count in let z = parts-long in omega arith);
        long = rw t (stored-long w o.count (ended (open_of o.block) l) out g) ∙ m.long;
        same =
            rw (left.last, left.count, t)
            (stored-append w o.count (ended (open_of o.block) l) _ out (λ y. let x = g y in omega arith)
            ∙ ap (λ (x : List Block). stored w o.count x out) (sym parts)
            ∙ m.same);
      }

-- no window is left
module _ (s : Schedule) (a b : ℕ) (w : Bool) (e : List ℤ) (lo : ℕ) (o : Option Block) (c : ℕ) (out : List ℤ) (m : Walking s a b w e lo o c out) (h : b ≤ lo) where
  pub walked-room : (w ≡ true → 4 * length (stretches s a b) ≤ length e) → w ≡ true → 4 * (c + length (on_from o [])) ≤ length out
  walked-room r v = let x = r v in let y : c + length (on_from o []) ≡ length (stretches s a b) = rw (ahead-done s lo b h) at m.count in let z = m.long in omega arith

  pub walked-count : (r : ℕ) → r ≡ c + length (on_from o []) → r ≡ length (stretches s a b)
  walked-count r p = p ∙ (rw (ahead-done s lo b h) at m.count)

  pub walked_same : (o' : List ℤ) → o' ≡ stored w c (on_from o []) out → o' ≡ stored w 0 (stretches s a b) e
  walked_same o' p = p ∙ (rw (ahead-done s lo b h) at m.same)

pub walked-few : (s : Schedule) (a b : ℕ) (w : Bool) (e : List ℤ) (lo : ℕ) (o : Option Block) (c : ℕ) (out : List ℤ) → Walking s a b w e lo o c out → lo ≤ last_instant → c < 1000000000000
walked-few s a b w e lo o c out m h = let x = m.most in omega arith
