-- The window lemma: every window from a week before -9998 on lists the instants that work, if no zone has two offsets more than 24 hours apart.
use Rattle.std.specs.Prelude.{◌≡◌, Bool, not, ◌&&◌}
use Rattle.std.proofs.Math.Path.{refl, sym}
use Rattle.std.proofs.Common.{◌∙◌, ap₂}
use mathlib.Core.List.{List, [], ◌∷◌}
use Prim.Native.Nat.{ℕ, ◌+◌, ◌*◌, ◌-◌, ◌/◌, ◌≤◌, ◌<◌}
use native.Mathlib.Omega.{arith}
use Rattle.std.proofs.Math.Dec.{ltb}
use borrow.Author.Tests.{ltb-true, ltb-false, le-leb}
use Rattle.model.specs.Basic.{joined}
use Rattle.model.specs.Calendar.{first_day, last_day}
use Rattle.model.specs.Instant.{second, day, first_instant, last_instant}
use Rattle.model.specs.Zone.{resolve}
use Rattle.model.specs.Working.{Rule, Schedule, local_day, first_date, last_date, local_dates, start_of, end_of, blocks_of, blocks_of_all, working}
use Rattle.laws_base.specs.Test.{by-test, clash}
use Rattle.laws_blocks.specs.Lists.{Lists}
use Rattle.laws_blocks.specs.Members.{covers, in-covers, not-covers}
use Rattle.laws_blocks.specs.Left.{left-lists}
use Rattle.laws_base.specs.Every.{Every}
use Rattle.laws_demand3.specs.Local.{raw, raw-takes, in-range, first-from, last-upto}
use Rattle.laws_demand3.specs.Windows.{RuleOk, off_rules, OfRules, NearRule, day-low, day-high, day-last, day-third, holds_from, rule_holds, some_holds, works_at, holds-from, from-holds, blocks_from, blocks-in, in_blocks, below, above, covers-append, all_in, all-nonempty}

-- ---- a rule's dates near a window

module _ (r : Rule) (ok : RuleOk r) where
  module _ (near : NearRule r) where
    -- a date that starts before hi is no later than the last of the window's dates
    start-near : (d u hi : ℕ) → first_day ≤ d → d ≤ last_day → start_of r d ≤ u → u < hi → hi ≤ last_instant → first_instant ≤ hi → d ≤ last_date r.zone hi
    unfolding start_of last_date
    start-near d u hi a b s t l m =
        let k = raw-takes r.zone ok.sound d r.from a in
        let e = k.2 in
        let f = near k.0 (hi / second) k.1 (omega arith) in
        let g = below hi (raw r.zone d r.from) (resolve r.zone d r.from) l (in-range r.zone ok.sound d r.from a b ok.from-day) (omega arith) in
        let o = day-high r.zone hi in
        let h : d ≤ local_day r.zone hi + 1 = omega arith in
        by-test (ltb (local_day r.zone hi) last_day)
        (λ p. rw p h)
        (λ p. rw p (omega (arith, ltb-false (local_day r.zone hi) last_day p)))

    reaches : (d k lo : ℕ) → k ≤ d + 1 → first_day ≤ k → k ≤ last_day → first_instant ≤ lo → lo < resolve r.zone k r.to → local_day r.zone lo - 2 ≤ d
    reaches d k lo c e f l g =
        let w = raw-takes r.zone ok.sound k r.to e in
        let v = w.2 in
        let y = near (lo / second) w.0 (omega arith) w.1 in
        let o = ok.to-day in
        let i = above lo (raw r.zone k r.to) (resolve r.zone k r.to) l (in-range r.zone ok.sound k r.to e f ok.to-day) g in
        let x = day-low r.zone ok.sound lo l in
        omega arith

    -- a date that ends behind lo is no earlier than the first of the window's dates
    end-near : (d u lo : ℕ) → first_day ≤ d → d ≤ last_day → lo ≤ u → u < end_of r d → (first_day + 5) * day ≤ lo → lo ≤ last_instant → first_date r.zone lo ≤ d
    unfolding end_of first_date
    end-near d u lo a b s t l m =
        let q = day-third r.zone ok.sound lo l in
        rw (le-leb (first_day + 2) (local_day r.zone lo) q)
        (by-test (ltb r.from r.to)
        (λ p. reaches d d lo (omega arith) a b (omega arith) (omega (arith, rw p at t)))
        (λ p. by-test (ltb d last_day)
        (λ v. let x = ltb-true d last_day v in reaches d (d + 1) lo (omega arith) (omega arith) (omega arith) (omega arith) (omega (arith, rw (p, v) at t)))
        (λ v. let x = ltb-false d last_day v in omega (arith, day-last r.zone ok.sound lo m))))

    -- the rule's blocks cover what some date of the rule holds
    rule-covers : (lo hi u : ℕ) → (first_day + 5) * day ≤ lo → hi ≤ last_instant → lo ≤ u → u < hi → covers (blocks_of lo hi r) u ≡ rule_holds r u
    unfolding blocks_of local_dates rule_holds
    rule-covers lo hi u a b c e =
        let f = first_date r.zone lo in
        let g = last_date r.zone hi in
        let x = first-from r.zone ok.sound lo (omega arith) in
        let y = last-upto r.zone ok.sound hi b in
        by-test (holds_from r (last_day + 1 - first_day) first_day u)
        (λ p. let k = from-holds r (last_day + 1 - first_day) first_day u p in
        let k1 = k.1 in let k2 = k.2 in
        let d1 = start-near k.0 u hi k1 (omega arith) k.3.since e b (omega arith) in
        let d2 = end-near k.0 u lo k1 (omega arith) c k.3.till a (omega arith) in
        in-covers u (blocks_from r lo hi (g + 1 - f) f) (in_blocks r lo hi (g + 1 - f) f u k.0 d2 (omega arith) k.3 c e) ∙ sym p)
        (λ p. not-covers u (blocks_from r lo hi (g + 1 - f) f) (λ i. let k = blocks-in r lo hi (g + 1 - f) f u i in
        let k1 = k.from in let k2 = k.upto in
        clash (holds_from r (last_day + 1 - first_day) first_day u) (holds-from r (last_day + 1 - first_day) first_day u k.date (omega arith) (omega arith) k.holds) p) ∙ sym p)

-- ---- all rules

module _ (lo hi : ℕ) where
  all-covers : (l : List Rule) → Every RuleOk l → Every NearRule l → (u : ℕ) → (first_day + 5) * day ≤ lo → hi ≤ last_instant → lo ≤ u → u < hi → covers (blocks_of_all lo hi l) u ≡ some_holds l u
  unfolding joined some_holds
  all-covers [] o n u a b c e = refl
  all-covers (r ∷ l) o n u a b c e =
      rw (covers-append u (blocks_of lo hi r) (blocks_of_all lo hi l), rule-covers r o.0 n.0 lo hi u a b c e, all-covers l o.1 n.1 u a b c e)

-- the window lemma
pub window-lists : (s : Schedule) → OfRules RuleOk s → OfRules NearRule s → (lo hi : ℕ) → (first_day + 5) * day ≤ lo → lo ≤ hi → hi ≤ last_instant → Lists (works_at s) lo hi (working s lo hi)
unfolding working works_at
window-lists s o n lo hi a b c =
    left-lists lo hi (blocks_of_all lo hi s.work) (blocks_of_all lo hi (off_rules s)) (all-nonempty lo hi s.work) (all-nonempty lo hi (off_rules s)) (all_in lo hi s.work) b (works_at s)
    (λ u e f. sym (ap₂ (λ (x y : Bool). x && not y) (all-covers lo hi s.work o.0 n.0 u a c e f) (all-covers lo hi (off_rules s) o.1 n.1 u a c e f)))
