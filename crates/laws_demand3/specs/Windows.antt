-- Working time does not depend on the window: every window from a week before -9998 on lists the same instants, if no zone has two offsets
-- more than 24 hours apart. That is the window lemma, in proofs/Covers.antt; here are the definitions that it is written in, and what needs no
-- such premise.
use Rattle.std.specs.Prelude.{◌≡◌, Bool, true, not, ◌&&◌, ◌||◌, leb, eqb}
use Rattle.std.proofs.Math.Path.{refl, sym}
use Rattle.std.proofs.Common.{inl, inr}
use Rattle.std.proofs.Math.Bool.{false}
use mathlib.Core.List.{List, [], ◌∷◌, ◌++◌, map}
use Rattle.std.proofs.Math.Logic.{⊎_elim}
use Prim.Native.Nat.{ℕ, zero, suc, ◌+◌, ◌*◌, ◌-◌, ◌/◌, ◌≤◌, ◌<◌}
use native.Mathlib.Omega.{arith}
use Rattle.std.proofs.Math.Dec.{ltb}
use borrow.Author.Tests.{ltb-true, leb-true, lt-ltb, le-leb, eqb-true, eqb-false}
use Rattle.model.specs.Basic.{filter, run, joined}
use Rattle.model.specs.Calendar.{first_day, last_day}
use Rattle.model.specs.Instant.{second, day, first_instant, last_instant}
use Rattle.model.specs.Tzif.{Zone}
use Rattle.model.specs.Zone.{offset_at}
use Rattle.model.specs.Blocks.{Block, clipped}
use Rattle.model.specs.Working.{Rule, Schedule, holiday_rule, local_day, first_date, last_date, local_dates, start_of, end_of, blocks_of, blocks_of_all}
use Rattle.laws_base.specs.Test.{by-test, clash, and_both}
use Rattle.laws_blocks.specs.Members.{InBlocks, covers, NonEmpty, append-in, append-nonempty, clipped-in, clipped-nonempty}
use Rattle.laws_zone.specs.Sound.{Sound}
use Rattle.laws_demand3.specs.Zones.{WithinDay}
use Rattle.laws_base.specs.Every.{Every}
use Rattle.laws_demand3.specs.Local.{Clamped, kept, early, late}
use Rattle.model.specs.Offset.{offset_bias}

-- what every rule of a built book has
pub record RuleOk (r : Rule) : Type 0 where
  pub sound : Sound r.zone
  pub from-day : r.from < day
  pub to-day : r.to < day

abbrev pub off_rules : Schedule → List Rule
off_rules s = s.breaks ++ map holiday_rule s.holidays

-- P holds of each rule of the schedule
abbrev pub OfRules : (Rule → Type 0) → Schedule → Type 0
OfRules P s = Every P s.work × Every P (off_rules s)

abbrev pub NearRule : Rule → Type 0
NearRule r = WithinDay r.zone

-- ---- local times

-- the local date at an instant
pub day-low : (z : Zone) → Sound z → (t : ℕ) → first_instant ≤ t → local_day z t * day + offset_bias * second ≤ t + offset_at z (t / second) * second
unfolding local_day
day-low z s t h = let a = s.low (t / second) in omega arith

pub day-high : (z : Zone) (t : ℕ) → t + offset_at z (t / second) * second < (local_day z t + 1) * day + offset_bias * second
unfolding local_day
day-high z t = omega arith

pub day-last : (z : Zone) → Sound z → (t : ℕ) → t ≤ last_instant → local_day z t ≤ last_day
unfolding local_day
day-last z s t h = let a = s.high (t / second) in omega arith

pub day-third : (z : Zone) → Sound z → (t : ℕ) → (first_day + 5) * day ≤ t → first_day + 2 ≤ local_day z t
day-third z s t h = let a = s.low (t / second) in let b = day-high z t in omega arith

-- ---- the instants of a rule

-- date d of the rule holds u
pub record Holds (r : Rule) (d u : ℕ) : Type 0 where
  pub on : r.on d ≡ true
  pub since : start_of r d ≤ u
  pub till : u < end_of r d

holds_at : Rule → ℕ → ℕ → Bool
holds_at r d u = r.on d && (leb (start_of r d) u && ltb u (end_of r d))

pub holds_from : Rule → ℕ → ℕ → ℕ → Bool
holds_from r zero d u = false
holds_from r (suc n) d u = holds_at r d u || holds_from r n (suc d) u

-- some date of the calendar holds u
unfoldable pub rule_holds : Rule → ℕ → Bool
rule_holds r u = holds_from r (last_day + 1 - first_day) first_day u

unfoldable pub some_holds : List Rule → ℕ → Bool
some_holds [] u = false
some_holds (r ∷ l) u = rule_holds r u || some_holds l u

-- whether u is working time
unfoldable pub works_at : Schedule → ℕ → Bool
works_at s u = some_holds s.work u && not (some_holds (off_rules s) u)

module _ (r : Rule) where
  holds_at_lem : (d u : ℕ) → Holds r d u → holds_at r d u ≡ true
  unfolding holds_at
  holds_at_lem d u h = rw (h.on, le-leb (start_of r d) u h.since, lt-ltb u (end_of r d) h.till)

  at-holds : (d u : ℕ) → holds_at r d u ≡ true → Holds r d u
  unfolding holds_at
  at-holds d u e =
      let p = and_both (r.on d) (leb (start_of r d) u && ltb u (end_of r d)) e in
      let q = and_both (leb (start_of r d) u) (ltb u (end_of r d)) p.1 in
      record { on = p.0; since = leb-true (start_of r d) u q.0; till = ltb-true u (end_of r d) q.1 }

  pub holds-from : (n d u k : ℕ) → d ≤ k → k < d + n → Holds r k u → holds_from r n d u ≡ true
  unfolding holds_from
  holds-from zero d u k a b h = absurd (omega arith)
  holds-from (suc n) d u k a b h =
      by-test (holds_at r d u) (λ e. rw e)
      (λ e. rw e (by-test (eqb k d)
      (λ f. clash (holds_at r d u) (holds_at_lem d u (rw (eqb-true k d f) at h)) e)
      (λ f. let g = eqb-false k d f in holds-from n (suc d) u k (omega arith) (omega arith) h)))

  pub from-holds : (n d u : ℕ) → holds_from r n d u ≡ true → (k : ℕ) × (d ≤ k) × (k < d + n) × Holds r k u
  unfolding holds_from
  from-holds zero d u e = clash false e refl
  from-holds (suc n) d u e =
      by-test (holds_at r d u)
      (λ p. (d, omega arith, omega arith, at-holds d u p))
      (λ p. let k = from-holds n (suc d) u (rw p at e) in let x = k.1 in let y = k.2 in (k.0, omega arith, omega arith, k.3))

  module _ (lo hi : ℕ) where
    -- the blocks of n dates from d on
    abbrev pub blocks_from : ℕ → ℕ → List Block
    blocks_from n d = joined (map (λ k. clipped lo hi (start_of r k) (end_of r k)) (filter r.on (run d n)))

    abbrev block_on : ℕ → List Block
    block_on d = clipped lo hi (start_of r d) (end_of r d)

    from-none : (d : ℕ) → blocks_from zero d ≡ []
    unfolding joined filter run
    from-none d = refl

    from_on : (n d : ℕ) → r.on d ≡ true → blocks_from (suc n) d ≡ block_on d ++ blocks_from n (suc d)
    unfolding joined filter run
    from_on n d p = rw p

    from-off : (n d : ℕ) → r.on d ≡ false → blocks_from (suc n) d ≡ blocks_from n (suc d)
    unfolding joined filter run
    from-off n d p = rw p

    -- an instant of the rule's blocks: a date of them holds it
    pub record Held (n d u : ℕ) : Type 0 where
      pub date : ℕ
      pub from : d ≤ date
      pub upto : date < d + n
      pub holds : Holds r date u
      pub after : lo ≤ u
      pub until : u < hi

    later : (n d u : ℕ) → Held n (suc d) u → Held (suc n) d u
    later n d u k = let a = k.from in let b = k.upto in record { date = k.date; from = omega arith; upto = omega arith; holds = k.holds; after = k.after; until = k.until }

    pub blocks-in : (n d u : ℕ) → InBlocks u (blocks_from n d) → Held n d u
    blocks-in zero d u i = absurd (rw (from-none d) at i)
    blocks-in (suc n) d u i =
        by-test (r.on d)
        (λ p. ⊎_elim
        (λ j. let q = (clipped-in u lo hi (start_of r d) (end_of r d)).0 j in
        record { date = d; from = omega arith; upto = omega arith; holds = record { on = p; since = q.1.0; till = q.1.1 }; after = q.0.0; until = q.0.1 })
        (λ j. later n d u (blocks-in n (suc d) u j))
        ((append-in u (block_on d) (blocks_from n (suc d))).0 (rw (from_on n d p) at i)))
        (λ p. later n d u (blocks-in n (suc d) u (rw (from-off n d p) at i)))

    pub in_blocks : (n d u k : ℕ) → d ≤ k → k < d + n → Holds r k u → lo ≤ u → u < hi → InBlocks u (blocks_from n d)
    in_blocks zero d u k a b h p q = absurd (omega arith)
    in_blocks (suc n) d u k a b h p q =
        by-test (eqb k d)
        (λ f. let g : Holds r d u = rw (eqb-true k d f) at h in
        rw (from_on n d g.on) ((append-in u (block_on d) (blocks_from n (suc d))).1 (inl ((clipped-in u lo hi (start_of r d) (end_of r d)).1 ((p, q), (g.since, g.till))))))
        (λ f. let g = eqb-false k d f in
        let i : InBlocks u (blocks_from n (suc d)) = in_blocks n (suc d) u k (omega arith) (omega arith) h p q in
        by-test (r.on d)
        (λ e. rw (from_on n d e) ((append-in u (block_on d) (blocks_from n (suc d))).1 (inr i)))
        (λ e. rw (from-off n d e) i))

    blocks-nonempty : (n d : ℕ) → NonEmpty (blocks_from n d)
    blocks-nonempty zero d = rw (from-none d) tt
    blocks-nonempty (suc n) d =
        by-test (r.on d)
        (λ p. rw (from_on n d p) (append-nonempty (block_on d) (blocks_from n (suc d)) (clipped-nonempty lo hi (start_of r d) (end_of r d)) (blocks-nonempty n (suc d))))
        (λ p. rw (from-off n d p) (blocks-nonempty n (suc d)))

-- ---- a rule's dates near a window

pub below : (hi x y : ℕ) → hi ≤ last_instant → Clamped x y → y < hi → x < hi
below hi x y l (kept a b) h = h
below hi x y l (early a) h = omega arith
below hi x y l (late a) h = absurd (omega arith)

pub above : (lo x y : ℕ) → first_instant ≤ lo → Clamped x y → lo < y → lo < x
above lo x y l (kept a b) h = h
above lo x y l (early a) h = absurd (omega arith)
above lo x y l (late a) h = omega arith

-- ---- all rules

or_assoc : (a b c : Bool) → ((a || b) || c) ≡ (a || (b || c))
or_assoc true b c = refl
or_assoc false b c = refl

pub covers-append : (u : ℕ) (l k : List Block) → covers (l ++ k) u ≡ (covers l u || covers k u)
covers-append u [] k = refl
covers-append u (b ∷ l) k = rw (covers-append u l k) (sym (or_assoc (leb b.start u && ltb u b.end) (covers l u) (covers k u)))

module _ (lo hi : ℕ) where
  rule-in : (r : Rule) (u : ℕ) → InBlocks u (blocks_of lo hi r) → (lo ≤ u) × (u < hi)
  unfolding blocks_of local_dates
  rule-in r u i = let k = blocks-in r lo hi (last_date r.zone hi + 1 - first_date r.zone lo) (first_date r.zone lo) u i in (k.after, k.until)

  rule-nonempty : (r : Rule) → NonEmpty (blocks_of lo hi r)
  unfolding blocks_of local_dates
  rule-nonempty r = blocks-nonempty r lo hi (last_date r.zone hi + 1 - first_date r.zone lo) (first_date r.zone lo)

  pub all_in : (l : List Rule) (u : ℕ) → InBlocks u (blocks_of_all lo hi l) → (lo ≤ u) × (u < hi)
  unfolding joined
  all_in [] u i = absurd i
  all_in (r ∷ l) u i = ⊎_elim (λ j. rule-in r u j) (λ j. all_in l u j) ((append-in u (blocks_of lo hi r) (blocks_of_all lo hi l)).0 i)

  pub all-nonempty : (l : List Rule) → NonEmpty (blocks_of_all lo hi l)
  unfolding joined
  all-nonempty [] = tt
  all-nonempty (r ∷ l) = append-nonempty (blocks_of lo hi r) (blocks_of_all lo hi l) (rule-nonempty r) (all-nonempty l)
