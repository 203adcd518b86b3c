-- Demand 3 over a schedule, with instants and durations as numbers of nanoseconds, for schedules whose rules are sound and whose zones' offsets
-- lie within 24 hours.
use Rattle.std.specs.Prelude.{◌≡◌, Bool}
use Rattle.std.proofs.Common.{sym, ◌∙◌, add-zero}
use Rattle.std.proofs.Math.Path.{ap}
use Prim.Native.Nat.{ℕ, zero, suc, ◌+◌, ◌*◌, ◌-◌, ◌≤◌, ◌<◌, min}
use native.Mathlib.Omega.{arith}
use Rattle.std.proofs.Math.Decide.{dec_le, dec_lt}
use Rattle.model.specs.Calendar.{first_day}
use Rattle.model.specs.Instant.{day, week, first_instant, last_instant}
use Rattle.model.specs.Answer.{gives, refuses}
use Rattle.model.specs.Working.{Schedule, working}
use Rattle.model.specs.Walk.{on, back, ahead, time_from, begun}
use Rattle.laws_blocks.specs.Count.{span, span-add, span-self}
use Rattle.laws_blocks.specs.Lists.{Lists, empty-span}
use Rattle.laws_blocks.specs.Totals.{lists_total}
use Rattle.laws_blocks.specs.Turn.{seen_from, behind, onward-lists, backward-lists}
use Rattle.laws_demand3.specs.Walks.{Crossed, Found, Outcome, outcome-once, outcome-on, search-outcome, search-finds}
use Rattle.laws_demand3.specs.Distance.{outcome-onward, found-distance, found-backward, first-work}
use Rattle.laws_demand3.specs.Windows.{RuleOk, NearRule, OfRules, works_at}
use Rattle.laws_demand3.specs.Demand
use Rattle.laws_demand3.specs.Demand.{since, move, span-back, span-diff, cycle, found_of, over-of, not-before, nothing}
use Rattle.laws_demand3.proofs.Covers.{window-lists}

module _ (s : Schedule) where
  -- those of specs/Demand.antt, for this schedule
  abbrev time : ℕ → ℕ → ℕ
  time = Demand.time s

  abbrev Added : ℕ → ℕ → ℕ → Type 0
  Added = Demand.Added s

  module _ (ok : OfRules RuleOk s) (near : OfRules NearRule s) where
    abbrev W : ℕ → Bool
    W = works_at s

    lists_at : (lo hi : ℕ) → (first_day + 5) * day ≤ lo → lo ≤ hi → hi ≤ last_instant → Lists W lo hi (working s lo hi)
    lists_at = window-lists s ok near

    -- ---- working time

    from-span : (b n lo : ℕ) → since ≤ lo → lo ≤ b → b ≤ last_instant → b ≤ lo + n * week → time_from n (working s) lo b ≡ span W lo b
    unfolding time_from
    from-span b zero lo h o k e = let f : lo ≡ b = omega arith in rw f (sym (span-self W b))
    from-span b (suc n) lo h o k e =
        rw (lists_total W lo (min (lo + week) b) (lists_at lo (min (lo + week) b) (omega arith) (omega arith) (omega arith)), from-span b n (min (lo + week) b) (omega arith) (omega arith) k (omega arith))
        (sym (span-add W lo (min (lo + week) b) b (omega arith) (omega arith)))

    time-span : (a b : ℕ) → since ≤ a → b ≤ last_instant → time a b ≡ span W a b
    unfolding time_from
    time-span a b h k = go (dec_le a b)
      where
        go : Dec (a ≤ b) → time a b ≡ span W a b
        go (yes o) = from-span b (begun (b - a)) a h o k (omega arith)
        go (no o) = let e : begun (b - a) ≡ 0 = omega arith in rw e (sym (span-back W a b (omega arith)))

    -- from a to c is from a to b and from b to c, in any order
    pub additive : (a b c : ℕ) → since ≤ a → since ≤ b → since ≤ c → a ≤ last_instant → b ≤ last_instant → c ≤ last_instant → time a c + time b a + time c b ≡ time a b + time b c + time c a
    additive a b c p q r x y z =
        cycle (span W 0 a) (span W 0 b) (span W 0 c) (time a c) (time b a) (time c b) (time a b) (time b c) (time c a)
        (time-span a c p z ∙ span-diff W a c) (time-span b a q x ∙ span-diff W b a) (time-span c b r y ∙ span-diff W c b)
        (time-span a b p y ∙ span-diff W a b) (time-span b c q z ∙ span-diff W b c) (time-span c a r x ∙ span-diff W c a)

    -- ---- searches

    ahead-lists : (t x y : ℕ) → since ≤ t → x ≤ y → t + y ≤ last_instant → Lists (seen_from W t) x y (ahead on s t x y)
    unfolding ahead
    ahead-lists t x y h o k =
        let e : (t + x) - t ≡ x = omega arith in
        let f : (t + y) - t ≡ y = omega arith in
        rw (e, f) at (onward-lists W t (t + x) (t + y) (omega arith) (lists_at (t + x) (t + y) (omega arith) (omega arith) k))

    back-lists : (t x y : ℕ) → (first_day + 5) * day + y ≤ t → x ≤ y → t ≤ last_instant → Lists (behind W t) x y (ahead back s t x y)
    unfolding ahead
    back-lists t x y h o k =
        let e : t - (t - x) ≡ x = omega arith in
        let f : t - (t - y) ≡ y = omega arith in
        rw (e, f) at (backward-lists W t (t - y) (t - x) (omega arith) (lists_at (t - y) (t - x) (omega arith) (omega arith) (omega arith)))

    add-outcome : (t d : ℕ) → since ≤ t → t ≤ last_instant → 0 < d → Outcome W s.limit last_instant t d (move on s t d)
    add-outcome t d h k p =
        let e : t + (last_instant - t) ≡ last_instant = omega arith in
        rw e at (outcome-onward W t s.limit (last_instant - t) d
        (search-outcome (seen_from W t) s.limit (last_instant - t) (ahead on s t) (λ x y a b. ahead-lists t x y h a (omega arith)) d p))

    add-finds : (t d x : ℕ) → since ≤ t → x ≤ last_instant → 0 < d → Found W s.limit t d x → move on s t d ≡ gives x
    add-finds t d x h k p f =
        let o = f.after in
        let e : t + (x - t) ≡ x = omega arith in
        rw (search-finds (seen_from W t) s.limit (last_instant - t) (ahead on s t) (x - t) (omega arith) (λ u v a b c g. ahead-lists t u v h b (omega arith)) d p (found-distance W t s.limit d x f), e)

    -- taking off what was added leads to where the work behind t begins
    sub-finds : (t d x : ℕ) → since ≤ t → x ≤ last_instant → 0 < d → Found W s.limit t d x
        → (z : ℕ) × (t ≤ z) × (z < x) × (span W t z ≡ 0) × (move back s x d ≡ gives z) × (move on s z d ≡ gives x)
    sub-finds t d x h k p f =
        let o = f.after in let q = f.sum in
        let e : t + (x - t) ≡ x = omega arith in
        let w = first-work W (x - t) t (rw e (omega arith)) in
        let w1 = w.1 in let w2 : w.0 < x = (let r = w.2 in omega arith) in
        let z = w.0 in
        let idle = empty-span W t z w1 w.3 in
        let rest : span W z x ≡ d = (let a = span-add W t z x w1 (omega arith) in omega arith) in
        let crossed : Crossed W s.limit z x = λ q a b. f.crossed q (omega arith) b in
        let found : Found W s.limit z d x = record { after = w2; sum = rest; ends = f.ends; crossed = crossed } in
        let g : x - (x - z) ≡ z = omega arith in (
          z,
          w1,
          w2,
          idle,
          rw (
            search-finds (behind W x) s.limit (x - first_instant) (ahead back s x) (x - z) (omega arith) (λ u v a b c g. back-lists x u v (omega arith) b k) d p
                (found-backward W x s.limit d z w2 rest w.4 crossed),
            g,
          ),
          add-finds z d x (omega arith) k p found,
        )

    -- the clauses about what is added
    pub added : (t d x : ℕ) → since ≤ t → t ≤ last_instant → 0 < d → move on s t d ≡ gives x → Added t d x
    added t d x h k p e =
        let f = found_of W s.limit last_instant t d x (add-outcome t d h k p) e in
        let o = f.1.after in
        let z = sub-finds t d x h f.0 p f.1 in
        record {
          within = f.0;
          sooner = o;
          exact = time-span t x h f.0 ∙ f.1.sum;
          earliest = λ y l q. not-before W s.limit t d x y f.1 p (sym (time-span t y h l) ∙ q);
          start = z.0;
          taken = z.4;
          later = z.1;
          before-x = z.2;
          idle = time-span t z.0 h (let a = z.2 in let b = f.0 in omega arith) ∙ z.3;
          again = z.5;
          further = λ a. on-from f.0 f.1 a (dec_lt 0 a);
        }
      where
        on-from : x ≤ last_instant → Found W s.limit t d x → (a : ℕ) → Dec (0 < a) → move on s x a ≡ move on s t (d + a)
        on-from xl f a (yes q) =
            let o = f.after in
            outcome-once W s.limit last_instant t (d + a) (outcome-on W s.limit last_instant t d x a f xl (add-outcome x a (omega arith) xl q)) (add-outcome t (d + a) h k (omega arith))
        on-from xl f a (no q) = let z : a ≡ 0 = omega arith in rw z (nothing s x ∙ sym e ∙ ap (move on s t) (sym (add-zero d)))

    -- refused with 7: no instant is that far
    pub beyond : (t d p : ℕ) → since ≤ t → t ≤ last_instant → 0 < d → move on s t d ≡ refuses 7 p → (y : ℕ) → y ≤ last_instant → time t y ≡ d → ⊥
    beyond t d n h k p e y l q = go (dec_le t y)
      where
        far : span W t last_instant < d
        far = over-of W s.limit last_instant t d n (add-outcome t d h k p) e

        r : span W t y ≡ d
        r = sym (time-span t y h l) ∙ q

        go : Dec (t ≤ y) → ⊥
        go (yes a) = let b = span-add W t y last_instant a l in let c = far in let f = r in omega arith
        go (no a) = let b = span-back W t y (omega arith) in let f = r in omega arith
