-- What each end of the calls answers.
use Rattle.instant.specs.Instant.{nanos, InRange}
use mathlib.Core.Path.{◌≡◌, refl, sym, ◌∙◌}
use mathlib.Core.Bool.{Bool, true, false, not}
use mathlib.Core.Logic.{◌⊎◌, ⊎_elim}
use mathlib.Core.Option.{some}
use mathlib.Core.List.{List}
use Prim.Native.Nat.{ℕ, ◌+◌, ◌-◌, ◌≤◌, ◌<◌, ◌^◌, min, max}
use native.Mathlib.Omega.{arith}
use lib.Dec.{ltb}
use lib.IntN.{ℤ}
use borrow.Author.Tests.{ltb-true, ltb-false}
use Rattle.model.specs.Answer.{Answer, gives, refuses, ◌>>=◌}
use Rattle.model.specs.Instant.{last_instant, instant_of, instant, duration_of, duration, negated}
use Rattle.model.specs.Working.{Schedule}
use Rattle.model.specs.Walk.{Way, on, back, at, reach, begun, time_between, ahead, search}
use Rattle.model.specs.Skip.{repeats, needed_between, needed_search, any_time, some_time}
use Rattle.model.specs.Calls.{Reply, between_call, moved, move_call, turned}
use Rattle.model.specs.Build.{build}
use Rattle.laws_skip.specs.Skips.{needed-most}
use Rattle.laws_skip.specs.Schedules.{time-most, search-skipping}
use Rattle.laws_skip.specs.Books.{BuiltWell}
use Rattle.walk_distance.specs.Distances.{way_of}
use Rattle.rule.specs.Rules.{schedule_is}
use Rattle.build.specs.Read.{Builds}
use Rattle.refusal.specs.declared.Refused.{Refused}
use Rattle.refusal.specs.Refused.{number_of}
use Rattle.rule.specs.declared.Schedule as code
use Rattle.std.specs.Prelude.{Ok, Err}
use Rattle.instant.specs.declared.Instant.{Instant}
use Rattle.walk_between.specs.Sums.{Interval}
use Rattle.walk_search.specs.Searches.{reached_is}
use Rattle.refusal.specs.declared.SearchError.{SearchError}
use Rattle.refusal.specs.declared.SearchError.TheVariants.{NoWork, RangeEnds}
use Rattle.refusal.specs.Refused.{search_refused}
use Rattle.schedule.specs.Answers.{KeepsReply, counted_is}

-- ---- the working time between two instants is no more than the time between them, so its seconds fit

pub time-fits : (s : Schedule) (x : Instant) (a b : ℕ) → a ≤ b → b ≤ last_instant → nanos x ≡ time_between s a b → x.sec < 2 ^ 63
time-fits s x a b h k e = let m = time-most s a b h in omega arith

-- ---- an answer and what the definitions give

pub refused : {d : Answer Reply} (n p : ℕ) → d ≡ refuses n p → KeepsReply (refuses n p) 0 d
refused n p e = rw e (refl, record { least = refl; most = omega arith })

given-all : {d : Answer Reply} (v : List ℤ) (l m : ℕ) {c : ℕ} {u : Answer (List ℤ)} → d ≡ gives (record { values = v; windows = some (l, m) }) → u ≡ gives v → c ≡ l → l ≤ m → KeepsReply u c d
given-all v l m e f g h = rw e (f, record { least = g; most = omega arith })

-- ---- between

-- the instants a and b in their order
pub record Ordered (a b lo hi : Instant) : Type 0 where
  pub interval : Interval lo hi
  pub low : nanos lo ≡ min (nanos a) (nanos b)
  pub high : nanos hi ≡ max (nanos a) (nanos b)

-- by a test of which is the earlier
pub ordered : {a b lo hi : Instant} {m : Bool} {T E : Type 0} → InRange a → InRange b → m ≡ ltb (nanos b) (nanos a) → (T → m ≡ true) → (E → m ≡ false)
    → ((t : T) × (lo ≡ b) × (hi ≡ a)) ⊎ ((e : E) × (lo ≡ a) × (hi ≡ b)) → Ordered a b lo hi
ordered {a} {b} {lo} {hi} ia ib e f g w = ⊎_elim
    (λ p. let h : nanos b < nanos a = ltb-true (nanos b) (nanos a) (sym e ∙ f p.0) in rw (p.1, p.2) (record { interval = record { start = ib; end = ia; order = omega arith }; low = omega arith; high = omega arith }))
    (λ p. let h : nanos a ≤ nanos b = ltb-false (nanos b) (nanos a) (sym e ∙ g p.0) in rw (p.1, p.2) (record { interval = record { start = ia; end = ib; order = omega arith }; low = omega arith; high = omega arith }))
    w

module _ (s : Schedule) (a₁ a₂ b₁ b₂ : ℤ) where
  pub no_start : instant_of a₁ a₂ ≡ refuses 8 0 → KeepsReply (refuses 8 0) 0 (between_call s a₁ a₂ b₁ b₂)
  unfolding between_call
  no_start e = refused 8 0 (rw e)

  module _ (a : ℕ) (ea : instant_of a₁ a₂ ≡ gives a) where
    pub no_end : instant_of b₁ b₂ ≡ refuses 8 0 → KeepsReply (refuses 8 0) 0 (between_call s a₁ a₂ b₁ b₂)
    unfolding between_call
    no_end e = refused 8 0 (rw (ea, e))

    module _ (b : ℕ) (eb : instant_of b₁ b₂ ≡ gives b) where
      pub time-given : (u : Answer (List ℤ)) (c d lo hi : ℕ) (m : Bool) → lo ≡ min a b → hi ≡ max a b → m ≡ ltb b a → d ≡ time_between s lo hi → u ≡ gives (duration (record { minus = m; size = d }))
          → c ≡ needed_between s lo hi → KeepsReply u c (between_call s a₁ a₂ b₁ b₂)
      unfolding between_call
      time-given u c d lo hi m el eh em ed eu ec =
          let l = min a b in
          let h = max a b in
          given-all (duration (record { minus = ltb b a; size = time_between s l h })) (needed_between s l h) (begun (h - l)) (rw (ea, eb)) (eu ∙ rw (em, ed, el, eh)) (ec ∙ rw (el, eh))
          (needed-most (begun (h - l)) any_time (ahead on s l) (λ x. repeats s (l + x)) (h - l) 0 0 0)

-- ---- a search

-- its answer lies in the range
pub search-within : (s : Schedule) → BuiltWell s → (w : Way) (t d x : ℕ) → gives x ≡ search w s t d → x ≤ reach w t
search-within s well w t d x e = (search-skipping s well.ok well.weekly w t d well.limit).within x (sym e)

pub reach-most : (w : Way) (t : ℕ) → t ≤ last_instant → reach w t ≤ last_instant
reach-most on t h = omega arith
reach-most back t h = omega arith

module _ (w : Way) (s : Schedule) (t d : ℕ) where
  pub search-refused : (e : SearchError) → reached_is (Err e) ≡ search w s t d → KeepsReply (counted_is (Err (search_refused e))) 0 (moved w s t d)
  unfolding moved
  search-refused NoWork q = refused 6 0 (rw (← q))
  search-refused RangeEnds q = refused 7 0 (rw (← q))

  pub search-found : {u : Answer (List ℤ)} {c : ℕ} (x : ℕ) → gives x ≡ search w s t d → u ≡ gives (instant (at w t x)) → c ≡ needed_search w s t d x → KeepsReply u c (moved w s t d)
  unfolding moved
  search-found x e eu ec =
      given-all (instant (at w t x)) (needed_search w s t d x) (begun x) (rw (← e)) eu ec (needed-most (begun x) some_time (ahead w s t) (λ y. repeats s (at w t y)) (reach w t) 0 0 d)

-- ---- add and sub

turned-is : (b : Bool) → turned (way_of b) ≡ way_of (not b)
turned-is true = refl
turned-is false = refl

module _ (b : Bool) (s : Schedule) (t₁ t₂ d₁ d₂ : ℤ) where
  pub no-instant : instant_of t₁ t₂ ≡ refuses 8 0 → KeepsReply (refuses 8 0) 0 (move_call (way_of b) s t₁ t₂ d₁ d₂)
  unfolding move_call
  no-instant e = refused 8 0 (rw e)

  module _ (t : ℕ) (et : instant_of t₁ t₂ ≡ gives t) where
    pub no-duration : duration_of d₁ d₂ ≡ refuses 9 0 → KeepsReply (refuses 9 0) 0 (move_call (way_of b) s t₁ t₂ d₁ d₂)
    unfolding move_call
    no-duration e = refused 9 0 (rw (et, e))

    module _ (m : Bool) (d : ℕ) (ed : duration_of d₁ d₂ ≡ gives (record { minus = m; size = d })) where
      -- a duration that is not negative
      pub this-way : {u : Answer (List ℤ)} {c : ℕ} → m ≡ false → KeepsReply u c (moved (way_of b) s t d) → KeepsReply u c (move_call (way_of b) s t₁ t₂ d₁ d₂)
      unfolding move_call
      this-way e k = rw (et, ed, e) k

      -- a negative one
      pub other_way : {u : Answer (List ℤ)} {c : ℕ} → m ≡ true → negated (record { minus = true; size = d }) ≡ gives (record { minus = false; size = d }) → KeepsReply u c (moved (way_of (not b)) s t d)
          → KeepsReply u c (move_call (way_of b) s t₁ t₂ d₁ d₂)
      unfolding move_call
      other_way e en k = rw (et, ed, e, en, turned-is b) k

      -- one that cannot be turned round
      pub no_way : m ≡ true → negated (record { minus = true; size = d }) ≡ refuses 7 0 → KeepsReply (refuses 7 0) 0 (move_call (way_of b) s t₁ t₂ d₁ d₂)
      unfolding move_call
      no_way e en = refused 7 0 (rw (et, ed, e, en))

-- ---- with the schedule built first

module _ (b p : List ℕ) (f : Schedule → Answer Reply) where
  pub not-built : {x : Refused} → Builds b p (Err x) → KeepsReply (refuses (number_of x.refusal) x.place) 0 (build b p >>= f)
  not-built {x} w = refused (number_of x.refusal) x.place (rw (← w.means))

  pub when-built : {s : code.Schedule} → Builds b p (Ok s) → {u : Answer (List ℤ)} {c : ℕ} → KeepsReply u c (f (schedule_is b p s)) → KeepsReply u c (build b p >>= f)
  when-built w k = rw (← w.means) k
