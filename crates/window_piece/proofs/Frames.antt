-- Dates by one offset: the numbers that count from 14 days before a window's start give what the definitions give. Assumes nothing.
use mathlib.Core.Path.{◌≡◌, refl, sym, ◌∙◌, ap, ap₂}
use mathlib.Core.List.{List, [], ◌∷◌}
use Prim.Native.Nat.{ℕ, zero, suc, ◌+◌, ◌*◌, ◌-◌, ◌≤◌, ◌<◌, min, max}
use native.Mathlib.Omega.{arith}
use borrow.Author.Tests.{lt-ltb, le-ltb}
use lib.Dec.{ltb}
use lib.ListN.{length}
use Rattle.model.specs.Basic.{run}
use Rattle.model.specs.Blocks.{Block, block, put, clipped}
use Rattle.model.specs.Calendar.{first_day}
use Rattle.model.specs.Instant.{second, day, first_second}
use Rattle.model.specs.Offset.{greatest_offset}
use Rattle.model.specs.Walk.{onward}
use Rattle.model.specs.Working.{Rule, first_date, last_date, local_dates, start_of, end_of, blocks_of}
use Rattle.laws_base.specs.Test.{by-test}
use Rattle.laws_blocks.specs.Move.{moves, clipped-moved}
use Rattle.laws_skip.specs.Steady.{less}
use Rattle.laws_skip.specs.Counts.{dates-most, clipped-length}
use Rattle.laws_zone.specs.Zones.{fits-sound}
use Rattle.instant.specs.Instant.{nanos}
use Rattle.instant.specs.declared.Instant.{Instant}
use Rattle.block.specs.declared.Block.{Block as Item}
use Rattle.civil.specs.Dates.{time_in, TimeFits}
use Rattle.civil.specs.declared.Time.{Time}
use Rattle.zone.specs.Zones.{zone_is, ZoneOk}
use Rattle.zone.specs.declared.Zone.{Zone as Zone'}
use Rattle.rule.specs.declared.Rule.{Rule as Rule'}
use Rattle.rule.specs.Rules.{file_at, rule_is, RuleFits}
use Rattle.zone_local.specs.Dates.{held, piece_of, during, till_time, KeepsOffset, IsIn}
use Rattle.zone_local.proofs.Facts.{plain-piece, kept_small}
use Rattle.window_dates.specs.Windows.{Window, IsLocalDates, from_day, upto_day}
use Rattle.window_dates.specs.declared.LocalDates.{LocalDates}
use Rattle.window_dates.proofs.Fill.{shown}
use Rattle.window_piece.specs.Filled.{InFortnight, Filled, IsFrame, midnight, plain_piece}
use Rattle.window_piece.specs.declared.Frame.{Frame}
use Rattle.window_piece.proofs.Laws.{Apart, apart-clipped}
use Rattle.window_piece.proofs.Fills.{filled-same, apart-shown}
use Rattle.laws_blocks.specs.Lists.{first_start, first_end}

-- what a rule shows of a date, by the offset
plain-clipped : (f : List ℕ) (z : Zone') (from to : Time) (lo hi : Instant) (o d : ℕ) → ZoneOk f z → TimeFits from → TimeFits to
    → KeepsOffset (zone_is f z) (nanos lo) (nanos hi) o → IsIn (zone_is f z) lo hi d → 0 < o
    → piece_of (during (zone_is f z) (time_in from) (time_in to)) (nanos lo) (nanos hi) d
    ≡ clipped (nanos lo) (nanos hi) (less (o * second) d (time_in from)) (less (o * second) d (till_time (time_in from) (time_in to)))
unfolding held clipped
plain-clipped f z from to lo hi o d k a b q i h =
    let s : ℕ = max (less (o * second) d (time_in from)) (nanos lo) in
    let e : ℕ = min (less (o * second) d (till_time (time_in from) (time_in to))) (nanos hi) in
    let x : Item = record { start = record { sec = 0; ns = s }; end = record { sec = 0; ns = e } } in
    let u : 0 * 1000000000 + s ≡ s = omega arith in
    let v : 0 * 1000000000 + e ≡ e = omega arith in
    sym (plain-piece f z from to lo hi o d (less (o * second) d (time_in from)) (less (o * second) d (till_time (time_in from) (time_in to))) x k a b q i h refl refl
    (λ j. record { start = u j; end = v j }))
    ∙ ap₂ (λ (m n : ℕ). put m n []) u v

-- ---- moved numbers

onward-moved : (t c : ℕ) (l : List Block) → onward (t + c) (moves c l) ≡ onward t l
unfolding onward moves
onward-moved t c [] = refl
onward-moved t c (b ∷ l) =
    let u : (b.start + c) - (t + c) ≡ b.start - t = omega arith in let v : (b.end + c) - (t + c) ≡ b.end - t = omega arith in
    ap₂ {C = List Block} (λ (x : Block) (y : List Block). x ∷ y) (λ i. record { start = u i; end = v i }) (onward-moved t c l)

clipped-by : (c lo hi s e lo' hi' s' e' : ℕ) → lo + c ≡ lo' → hi + c ≡ hi' → s + c ≡ s' → e + c ≡ e' → onward lo (clipped lo hi s e) ≡ onward lo' (clipped lo' hi' s' e')
clipped-by c lo hi s e lo' hi' s' e' p q r t =
    sym (onward-moved lo c (clipped lo hi s e)) ∙ ap (onward (lo + c)) (sym (clipped-moved c lo hi s e))
    ∙ rw (p, q, r, t)

module _ (days : LocalDates) (lo hi : Instant) (f : Frame) (m : IsFrame days lo hi f) (known : 0 < f.first) (early : first_second ≤ lo.sec) (from : first_day ≤ from_day days)
    (small : days.offset ≤ greatest_offset) where
  frame_at : (d x : ℕ) → from_day days ≤ d → (midnight f.first (from_day days) d + x) + (lo.sec - 1209600) * 1000000000 ≡ less (days.offset * second) d x
  frame_at d x h = let e = m.first-is known in omega arith

  frame-piece : (d a b : ℕ) → from_day days ≤ d
      → onward f.lo (plain_piece f (from_day days) a b d)
      ≡ onward (nanos lo) (clipped (nanos lo) (nanos hi) (less (days.offset * second) d a) (less (days.offset * second) d b))
  frame-piece d a b h =
      let p = m.lo-is in let q = m.hi-is in
      clipped-by ((lo.sec - 1209600) * 1000000000) f.lo f.hi (midnight f.first (from_day days) d + a) (midnight f.first (from_day days) d + b)
      (nanos lo) (nanos hi) (less (days.offset * second) d a) (less (days.offset * second) d b)
      (omega arith) (omega arith) (frame_at d a h) (frame_at d b h)

-- ---- the dates of a rule

-- whichever dates a rule is on, it shows the same of one
pub piece-any : (r : Rule) (lo hi d : ℕ) → piece_of (during r.zone r.from r.to) lo hi d ≡ piece_of r lo hi d
unfolding piece_of start_of end_of
piece-any r lo hi d = refl

-- what the dates of a window show is what the rule has in it
pub rule-shows : (r : Rule) (lo hi a b : ℕ) → a ≡ first_date r.zone lo → b ≡ last_date r.zone hi → shown r.on (piece_of r lo hi) (run a (b + 1 - a)) ≡ blocks_of lo hi r
unfolding blocks_of local_dates piece_of
rule-shows r lo hi a b p q = rw (p, q)

-- a window of seven days has at most 14 dates
pub few-dates : (f : List ℕ) (z : Zone') (lo hi : Instant) (days : LocalDates) → ZoneOk f z → Window 7 lo hi → IsLocalDates (zone_is f z) lo hi days → upto_day days + 1 ≤ from_day days + 14
few-dates f z lo hi days o w q =
    let k = dates-most (zone_is f z) (fits-sound (zone_is f z) o.fits) (nanos lo) (nanos hi) 7 w.short in
    let a = q.first-is in let b = q.last-is in
    omega arith

-- as a difference
pub few-count : (first last k : ℕ) → last + 1 ≤ first + k → last + 1 - first ≤ k
few-count first last k h = omega arith

pub offset-small : (f : List ℕ) (z : Zone') (lo hi : Instant) (days : LocalDates) → ZoneOk f z → Window 14 lo hi → IsLocalDates (zone_is f z) lo hi days → days.offset ≤ greatest_offset
offset-small f z lo hi days o w q = small days.offset (λ h. kept_small f z lo hi days.offset o q.kept w.order h)
  where
    small : (o : ℕ) → (0 < o → o ≤ greatest_offset) → o ≤ greatest_offset
    small zero h = omega arith
    small (suc o) h = h (omega arith)

module _ (lo hi : Instant) (days : LocalDates) (w : Window 14 lo hi) (x : Frame) (m : IsFrame days lo hi x) (known : 0 < x.first) where
  -- a whole date, by the offset
  pub free-plain : (f : List ℕ) (z : Zone') → ZoneOk f z → IsLocalDates (zone_is f z) lo hi days → (d : ℕ) → from_day days ≤ d → d ≤ upto_day days
      → onward x.lo (clipped x.lo x.hi (midnight x.first (from_day days) d) (midnight x.first (from_day days) d + day))
      ≡ onward (nanos lo) (piece_of (during (zone_is f z) 0 0) (nanos lo) (nanos hi) d)
  unfolding till_time
  free-plain f z o q d h k =
      let zero-time : Time = record { seconds = 0; nanos = 0 } in
      let fits : TimeFits zero-time = record { seconds = omega arith; nanos = omega arith } in
      let u = w.low.low in let v = q.low in
      let e : midnight x.first (from_day days) d ≡ midnight x.first (from_day days) d + 0 = omega arith in
      let n = q.first-is in let r = q.last-is in
      ap (λ (y : ℕ). onward x.lo (clipped x.lo x.hi y (midnight x.first (from_day days) d + day))) e
      ∙ frame-piece days lo hi x m known (omega arith) (omega arith) (offset-small f z lo hi days o w q) d 0 day h
      ∙ ap (onward (nanos lo)) (sym (plain-clipped f z zero-time zero-time lo hi days.offset d o fits fits q.kept (record { order = w.order; first = omega arith; last = omega arith }) (m.known known)))

  -- a date of a rule, by the offset
  pub date-plain : (p : List ℕ) (r : Rule') (a b : ℕ) → RuleFits p r → IsLocalDates (rule_is p r).zone lo hi days → a ≡ time_in r.from → b ≡ till_time (time_in r.from) (time_in r.to)
      → (d : ℕ) → from_day days ≤ d → d ≤ upto_day days → onward x.lo (plain_piece x (from_day days) a b d) ≡ onward (nanos lo) (piece_of (rule_is p r) (nanos lo) (nanos hi) d)
  date-plain p r a b o q i j d h k =
      let u = w.low.low in let v = q.low in
      let f : List ℕ = file_at p r.at r.len in
      let n = q.first-is in let l = q.last-is in
      frame-piece days lo hi x m known (omega arith) (omega arith) (offset-small f r.zone lo hi days o.opened w q) d a b h
      ∙ ap (onward (nanos lo))
      (ap₂ (λ (s e : ℕ). clipped (nanos lo) (nanos hi) (less (days.offset * second) d s) (less (days.offset * second) d e)) i j
      ∙ sym (plain-clipped f r.zone r.from r.to lo hi days.offset d o.opened o.from o.to q.kept (record { order = w.order; first = omega arith; last = omega arith }) (m.known known))
      ∙ piece-any (rule_is p r) (nanos lo) (nanos hi) d)

-- ---- what the functions on one piece are asked

-- a block that is cut to the window lies in it
pub piece_inside : (lo hi : Instant) (x : Item) (s e : ℕ) → Window 14 lo hi → held x ≡ clipped (nanos lo) (nanos hi) s e → InFortnight lo x
unfolding held clipped
piece_inside lo hi x s e w h = record { range = w.low.high; from = λ k. (go k).0; upto = λ k. let q = (go k).1 in let z = w.short in omega arith }
  where
    go : nanos x.start < nanos x.end → (nanos lo ≤ nanos x.start) × (nanos x.end ≤ nanos hi)
    go k =
        let b : held x ≡ block (nanos x.start) (nanos x.end) ∷ [] = rw (lt-ltb (nanos x.start) (nanos x.end) k) in
        by-test (ltb (max s (nanos lo)) (min e (nanos hi)))
        (λ t.
        let a : clipped (nanos lo) (nanos hi) s e ≡ block (max s (nanos lo)) (min e (nanos hi)) ∷ [] = rw t in
        let q : block (nanos x.start) (nanos x.end) ∷ [] ≡ block (max s (nanos lo)) (min e (nanos hi)) ∷ [] = sym b ∙ h ∙ a in
        let u : nanos x.start ≡ max s (nanos lo) = ap (λ (l : List Block). first_start l) q in
        let v : nanos x.end ≡ min e (nanos hi) = ap (λ (l : List Block). first_end l) q in
        (omega arith, omega arith))
        (λ t.
        let a : clipped (nanos lo) (nanos hi) s e ≡ [] = rw t in
        let q : block (nanos x.start) (nanos x.end) ∷ [] ≡ [] = sym b ∙ h ∙ a in
        let z : 1 ≡ 0 = ap (λ (l : List Block). length l) q in
        absurd (omega arith))

-- the same, of what a rule shows of a date
pub shown-inside : (lo hi : Instant) (x : Item) (r : Rule) (d : ℕ) → Window 14 lo hi → held x ≡ piece_of r (nanos lo) (nanos hi) d → InFortnight lo x
unfolding piece_of
shown-inside lo hi x r d w h = piece_inside lo hi x (start_of r d) (end_of r d) w h

-- ---- pieces

-- a piece starts in the window
pub piece-apart : (r : Rule) (lo hi d : ℕ) → Apart lo (piece_of r lo hi d)
unfolding piece_of
piece-apart r lo hi d = apart-clipped lo hi _ _

pub rule-apart : (r : Rule) (lo hi : ℕ) → Apart lo (blocks_of lo hi r)
unfolding blocks_of piece_of
rule-apart r lo hi = apart-shown lo r.on (piece_of r lo hi) (piece-apart r lo hi) (local_dates r.zone lo hi)

pub piece-short : (r : Rule) (lo hi d : ℕ) → length (piece_of r lo hi d) ≤ 1
unfolding piece_of
piece-short r lo hi d = clipped-length lo hi (start_of r d) (end_of r d)

-- the end's time of day
pub till-here : (a b : ℕ) → a < b → b ≡ till_time a b
unfolding till_time
till-here a b h = rw (lt-ltb a b h)

pub till-next : (a b : ℕ) → b ≤ a → b + day ≡ till_time a b
unfolding till_time
till-next a b h = rw (le-ltb a b h)

-- a piece by the number of its midnight
pub plain-as : (f : Frame) (first a b d k : ℕ) (l₀ : List ℕ) (w : ℕ) (l : List ℕ) (r : ℕ) → k ≡ midnight f.first first d
    → Filled f.lo l₀ w (clipped f.lo f.hi (k + a) (k + b)) 1 l r → Filled f.lo l₀ w (plain_piece f first a b d) 1 l r
plain-as f first a b d k l₀ w l r e g =
    filled-same f.lo l₀ w (clipped f.lo f.hi (k + a) (k + b)) (plain_piece f first a b d) 1 l r (ap (λ (x : ℕ). clipped f.lo f.hi (x + a) (x + b)) e) g
