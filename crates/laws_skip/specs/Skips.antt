-- Walks that skip windows, each with the number of windows that it resolves. They give the answers of the plain walks of the definitions, and
-- resolve just the windows that may not be skipped.
use Rattle.std.specs.Prelude.{◌≡◌, Bool, ◌&&◌, ◌⊎◌, List, ltb, eqb, if◌then◌else◌}
use Rattle.std.proofs.Math.Path.{refl, ap, ap₂}
use Rattle.std.proofs.Common.{sym, ◌∙◌, inl, inr, add-zero}
use Rattle.std.proofs.Math.Bool.{true, false}
use Prim.Native.Nat.{ℕ, zero, suc, ◌+◌, ◌*◌, ◌-◌, ◌≤◌, ◌<◌, min}
use native.Mathlib.Omega.{arith}
use borrow.Author.Tests.{ltb-true, ltb-false, lt-ltb, le-ltb, ne_eqb, eqb-true, eqb-false}
use Rattle.model.specs.Basic.{given}
use Rattle.std.proofs.Math.Option.{Option, none, some}
use Rattle.model.specs.Instant.{week}
use Rattle.model.specs.Answer.{Answer, gives, refuses}
use Rattle.model.specs.Blocks.{Block, total}
use Rattle.model.specs.Walk.{begun, time_from, Step, found, gap, left, search_blocks, search_from, search_in}
use Rattle.model.specs.Skip.{needed_from, any_time, some_time}
use Rattle.laws_base.specs.Test.{by-test, and_both, clash, never}
use Rattle.laws_blocks.specs.Move.{moves, total-moved}
use Rattle.laws_skip.specs.WindowEnds.{Inside, last_end, end-any, end-inside, end_moved, search-blocks-all, WalkEnds, is_found, is-gap, is-left, search-blocks-means}

-- ---- a search

-- of the window before, where it is whole and has working time: that time, and the distance from the end of its last block to the window's end
pub data Previous : Type 0 where
  fresh : Previous
  known : ℕ → ℕ → Previous

abbrev pub time_kept : Previous → ℕ
time_kept fresh = 0
time_kept (known k g) = k

abbrev pub edge_in : Previous → ℕ
edge_in fresh = 0
edge_in (known k g) = g

abbrev pub keep : Bool → ℕ → ℕ → Previous
keep true k g = known k g
keep false k g = fresh

-- "`add` and `sub` skip only if that time is positive and less than what is left"; the test says that the window is whole and repeats the last
abbrev pub may_skip : Previous → ℕ → Bool → Bool
may_skip fresh d test = false
may_skip (known k g) d test = ltb k d && test

-- one turn: an answer, or on to the window's end with the number of windows resolved, where work last ended, the time left to find and what is
-- kept of the window
pub data Turn : Type 0 where
  stops : Answer ℕ → Turn
  goes : ℕ → ℕ → ℕ → Previous → Turn

-- with the window [x, y) resolved, whose blocks are l
unfoldable pub resolved : ℕ → ℕ → ℕ → ℕ → ℕ → List Block → Turn
resolved limit x y last d l =
    elim (search_blocks limit y last d l) [
      | found z ↦ stops (gives z)
      | gap ↦ stops (refuses 6 0)
      | left e m ↦ goes 1 m e (keep (eqb (y - x) week && ltb 0 (total l)) (total l) (y - m))
    ]

unfoldable pub turn : (ℕ → ℕ → List Block) → (ℕ → Bool) → ℕ → ℕ → ℕ → ℕ → ℕ → Previous → Turn
turn look rep limit x y last d prev =
    let r = resolved limit x y last d (look x y) in
    if may_skip prev d (eqb (y - x) week && rep x) then goes 0 (y - edge_in prev) (d - time_kept prev) prev else r

-- an answer and how many windows were resolved
pub record Counted : Type 0 where
  pub answer : Answer ℕ
  pub count : ℕ

abbrev pub counted : Answer ℕ → ℕ → Counted
counted a c = record { answer = a; count = c }

-- n windows from the distance x on, in a range that ends at `end`
unfoldable pub skip_from : ℕ → (ℕ → ℕ → List Block) → (ℕ → Bool) → ℕ → ℕ → ℕ → ℕ → ℕ → Previous → Counted
skip_from zero look rep limit end x last d prev = counted (refuses 7 0) 0
skip_from (suc n) look rep limit end x last d prev =
    let y = min (x + week) end in
    elim (turn look rep limit x y last d prev) [
      | stops a ↦ counted a 1
      | goes c m e p ↦ (let r = skip_from n look rep limit end y m e p in counted r.answer (c + r.count))
    ]

unfoldable pub skip_search : (ℕ → ℕ → List Block) → (ℕ → Bool) → ℕ → ℕ → ℕ → Counted
skip_search look rep limit end d = if eqb d 0 then counted (gives 0) 0 else skip_from (begun end) look rep limit end 0 0 d fresh

-- ---- it gives what the plain search gives

swap : (a b c : Bool) → (a && (b && c)) ≡ (b && (a && c))
swap true b c = refl
swap false true c = refl
swap false false c = refl

-- one for a window that may not be skipped
abbrev needs : (ℕ → ℕ → Bool) → (ℕ → Bool) → ℕ → ℕ → ℕ → ℕ → ℕ
needs may rep x y time d = if ltb 0 x && (eqb (y - x) week && (may time d && rep x)) then 0 else 1

needs-most : (may : ℕ → ℕ → Bool) (rep : ℕ → Bool) (x y time d : ℕ) → needs may rep x y time d ≤ 1
needs-most may rep x y time d = by-test (ltb 0 x && (eqb (y - x) week && (may time d && rep x))) (λ p. rw p (omega arith)) (λ p. rw p (omega arith))

pub needed-most : (n : ℕ) (may : ℕ → ℕ → Bool) (look : ℕ → ℕ → List Block) (rep : ℕ → Bool) (z x time d : ℕ) → needed_from n may look rep z x time d ≤ n
unfolding needed_from
needed-most zero may look rep z x time d = omega arith
needed-most (suc n) may look rep z x time d =
    let y = min (x + week) z in
    let now = total (look x y) in
    let a = needs-most may rep x y time d in
    let b = needed-most n may look rep z y now (d - now) in
    omega arith

-- what is kept of the window before x, where work last ended at `last`
pub record KeptWeek (look : ℕ → ℕ → List Block) (x last k g : ℕ) : Type 0 where
  pub early : week ≤ x
  pub sum : k ≡ total (look (x - week) x)
  pub some : 0 < k
  pub gap_is : g + last ≡ x
  pub ends : (v : ℕ) → last_end (look (x - week) x) v ≡ last
  pub behind : x ≤ last + week

-- `time` is that of the window before
abbrev pub Holding : (ℕ → ℕ → List Block) → ℕ → ℕ → ℕ → ℕ → Previous → Type 0
Holding look end x last time fresh = (x ≡ 0) ⊎ ((time ≡ 0) ⊎ (end ≤ x))
Holding look end x last time (known k g) = (time ≡ k) × KeptWeek look x last k g

-- how a turn of the skipping walk goes with the plain walk's look at the same window
pub data Same (look : ℕ → ℕ → List Block) (rep : ℕ → Bool) (end x y time d : ℕ) : Turn → Step → Type 0 where
  same-found : {z : ℕ} → x < z → z ≤ y → needs some_time rep x y time d ≡ 1 → Same look rep end x y time d (stops (gives z)) (found z)
  same_gap : Same look rep end x y time d (stops (refuses 6 0)) gap
  same_left : {c m e : ℕ} {p : Previous} → c ≡ needs some_time rep x y time d → e ≡ d - total (look x y) → 0 < e → Holding look end y m (total (look x y)) p
      → Same look rep end x y time d (goes c m e p) (left e m)

-- the same answer; and where it is found at the distance z, the windows that may not be skipped were resolved
pub record Agrees (look : ℕ → ℕ → List Block) (rep : ℕ → Bool) (end x time d : ℕ) (r : Counted) (a : Answer ℕ) : Type 0 where
  pub same_answer : r.answer ≡ a
  pub inside : (z : ℕ) → a ≡ gives z → (x < z) × (z ≤ end)
  pub exact : (z : ℕ) → a ≡ gives z → r.count ≡ needed_from (begun (z - x)) some_time look rep end x time d

-- a whole search
pub record SearchAnswers (look : ℕ → ℕ → List Block) (rep : ℕ → Bool) (end d : ℕ) (r : Counted) (a : Answer ℕ) : Type 0 where
  pub same_answer : r.answer ≡ a
  pub within : (z : ℕ) → a ≡ gives z → z ≤ end
  pub exact : (z : ℕ) → a ≡ gives z → r.count ≡ needed_from (begun z) some_time look rep end 0 0 d
  pub most : (z : ℕ) → a ≡ gives z → r.count ≤ begun z

module _ (look : ℕ → ℕ → List Block) (rep : ℕ → Bool) (limit end : ℕ) (far : 2 * week ≤ limit)
    (weekly : (x : ℕ) → week ≤ x → x + week ≤ end → rep x ≡ true → look x (x + week) ≡ moves week (look (x - week) x))
    (tidy : (x y : ℕ) → x ≤ y → y ≤ end → Inside x y (look x y)) where
  -- the two tests for skipping are one
  test-same : (x last time d : ℕ) (prev : Previous) → Holding look end x last time prev
      → may_skip prev d (eqb (min (x + week) end - x) week && rep x) ≡ (ltb 0 x && (eqb (min (x + week) end - x) week && (some_time time d && rep x)))
  test-same x last time d (known k g) (e, v) =
      let a = v.early in let s = v.some in
      rw (e, lt-ltb 0 x (omega arith), lt-ltb 0 k s) (swap (ltb k d) (eqb (min (x + week) end - x) week) (rep x))
  test-same x last time d fresh (inl e) = rw (le-ltb 0 x (omega arith))
  test-same x last time d fresh (inr (inl e)) =
      rw (le-ltb 0 time (omega arith)) (none (ltb 0 x) (eqb (min (x + week) end - x) week))
    where
      none : (a b : Bool) → false ≡ (a && (b && false))
      none true true = refl
      none true false = refl
      none false b = refl
  test-same x last time d fresh (inr (inr e)) = rw (ne_eqb (min (x + week) end - x) week (λ f. omega arith)) (none (ltb 0 x))
    where
      none : (a : Bool) → false ≡ (a && false)
      none true = refl
      none false = refl

  module _ (x last k g : ℕ) (v : KeptWeek look x last k g) (b : x + week ≤ end) (r : rep x ≡ true) where
    again : total (look x (x + week)) ≡ k
    again = ap total (weekly x v.early b r) ∙ total-moved week (look (x - week) x) ∙ sym v.sum

    end-again : (u : ℕ) → last_end (look x (x + week)) u ≡ last + week
    end-again u =
        end-any (look x (x + week)) (let a = again in let c = v.some in omega arith) u (0 + week)
        ∙ ap (λ l. last_end l (0 + week)) (weekly x v.early b r) ∙ end_moved week (look (x - week) x) 0 ∙ ap (λ y. y + week) (v.ends 0)

    search-blocks-again : (d : ℕ) → k < d → search_blocks limit (x + week) last d (look x (x + week)) ≡ left (d - k) (last + week)
    search-blocks-again d m =
        search-blocks-all limit x (x + week) (look x (x + week)) (tidy x (x + week) (omega arith) b) last d (omega arith) (let c = v.behind in omega arith) (let a = again in omega arith)
        ∙ ap₂ left (ap (λ y. d - y) again) (end-again last)

    keeps_on : KeptWeek look (x + week) (last + week) k g
    keeps_on =
        let e : x + week - week ≡ x = omega arith in
        record { early = omega arith; sum = rw e (sym again); some = v.some; gap_is = (let c = v.gap_is in omega arith); ends = λ u. rw e (end-again u); behind = (let c = v.behind in omega arith) }

  keep-week : (x y m : ℕ) → x ≤ y → y ≤ end → (y ≤ x + week) → (y < x + week → end ≤ y) → ((u : ℕ) → 0 < total (look x y) → last_end (look x y) u ≡ m)
      → Holding look end y m (total (look x y)) (keep (eqb (y - x) week && ltb 0 (total (look x y))) (total (look x y)) (y - m))
  keep-week x y m h k o c f =
      by-test (eqb (y - x) week)
      (λ p. let e = eqb-true (y - x) week p in
      by-test (ltb 0 (total (look x y)))
      (λ q. let s = ltb-true 0 (total (look x y)) q in
      let g : y - week ≡ x = omega arith in
      let i = end-inside x y (look x y) (tidy x y h k) x (omega arith) h in
      let j = f x s in
      rw (p, q) (refl, record { early = omega arith; sum = rw g; some = s; gap_is = omega arith; ends = (λ u. rw g (f u s)); behind = omega arith }))
      (λ q. rw (p, q) (inr (inl (let s = ltb-false 0 (total (look x y)) q in omega arith)))))
      (λ p. let e = eqb-false (y - x) week p in rw p (inr (inr (c (omega arith)))))

  turn-same : (x last time d : ℕ) (prev : Previous) → x ≤ end → 0 < d → Holding look end x last time prev
      → Same look rep end x (min (x + week) end) time d (turn look rep limit x (min (x + week) end) last d prev) (search_blocks limit (min (x + week) end) last d (look x (min (x + week) end)))
  unfolding turn resolved
  turn-same x last time d prev h o v =
      by-test (may_skip prev d (eqb (min (x + week) end - x) week && rep x))
      (λ p. rw p (skipped prev v p))
      (λ p. rw p (walked (search_blocks limit (min (x + week) end) last d (look x (min (x + week) end)))
      (search-blocks-means limit x (min (x + week) end) (look x (min (x + week) end)) (tidy x (min (x + week) end) (omega arith) (omega arith)) last d o)
      (ap (λ t. if t then 0 else 1) (sym (test-same x last time d prev v) ∙ p))))
    where
      skipped : (prev : Previous) → Holding look end x last time prev → may_skip prev d (eqb (min (x + week) end - x) week && rep x) ≡ true
          → Same look rep end x (min (x + week) end) time d (goes 0 (min (x + week) end - edge_in prev) (d - time_kept prev) prev) (search_blocks limit (min (x + week) end) last d (look x (min (x + week) end)))
      skipped fresh v p = clash false p refl
      skipped (known k g) (e, w) p =
          let s = and_both (ltb k d) (eqb (min (x + week) end - x) week && rep x) p in
          let t = and_both (eqb (min (x + week) end - x) week) (rep x) s.1 in
          let q = eqb-true (min (x + week) end - x) week t.0 in
          let f : min (x + week) end ≡ x + week = omega arith in
          let m = ltb-true k d s.0 in
          let b : x + week ≤ end = omega arith in
          let a : x + week - g ≡ last + week = (let c = w.gap_is in omega arith) in
          let n : needs some_time rep x (min (x + week) end) time d ≡ 0 = ap (λ t. if t then 0 else 1) (sym (test-same x last time d (known k g) (e, w)) ∙ p) in
          let n' : needs some_time rep x (x + week) time d ≡ 0 = rw f at n in
          rw (f, a, search-blocks-again x last k g w b t.1 d m)
          (same_left {c = 0} {m = last + week} {e = d - k} {p = known k g} (sym n') (ap (λ y. d - y) (sym (again x last k g w b t.1))) (omega arith) (again x last k g w b t.1, keeps_on x last k g w b t.1))

      walked : (s : Step) → WalkEnds x (min (x + week) end) last d (look x (min (x + week) end)) s → needs some_time rep x (min (x + week) end) time d ≡ 1
          → Same look rep end x (min (x + week) end) time d
          (elim s as (λ _. Turn) [
            | found z ↦ stops (gives z)
            | gap ↦ stops (refuses 6 0)
            | left e m ↦ goes 1 m e (keep (eqb (min (x + week) end - x) week && ltb 0 (total (look x (min (x + week) end)))) (total (look x (min (x + week) end))) (min (x + week) end - m))
          ]) s
      walked (found z) (is_found a b) n = same-found a b n
      walked gap is-gap n = same_gap
      walked (left e m) (is-left a b c) n =
          same_left {c = 1} {m = m} {e = e} (sym n) a (omega arith)
          (keep-week x (min (x + week) end) m (omega arith) (omega arith) (omega arith) (λ k. omega arith)
          (λ u s. end-any (look x (min (x + week) end)) s u last ∙ sym c))

  needed-one : (x time d z : ℕ) → begun (z - x) ≡ 1 → needs some_time rep x (min (x + week) end) time d ≡ 1 → 1 ≡ needed_from (begun (z - x)) some_time look rep end x time d
  unfolding needed_from
  needed-one x time d z e n = rw e (rw (add-zero) (sym n))

  needed-more : (x time d k : ℕ)
      → needed_from (suc k) some_time look rep end x time d
      ≡ needs some_time rep x (min (x + week) end) time d
      + needed_from k some_time look rep end (min (x + week) end) (total (look x (min (x + week) end))) (d - total (look x (min (x + week) end)))
  unfolding needed_from
  needed-more x time d k = refl

  agrees_on : (x time d c e : ℕ) {r : Counted} {a : Answer ℕ} → c ≡ needs some_time rep x (min (x + week) end) time d → e ≡ d - total (look x (min (x + week) end))
      → x ≤ end → Agrees look rep end (min (x + week) end) (total (look x (min (x + week) end))) e r a → Agrees look rep end x time d (counted r.answer (c + r.count)) a
  agrees_on x time d c e {r = r} {a = a} p q h g = record {
    same_answer = g.same_answer;
    inside = λ z f. (let i = g.inside z f in let i0 = i.0 in (omega arith, i.1));
    exact = λ z f. (let i = g.inside z f in let i0 = i.0 in let i1 = i.1 in
        let b : begun (z - x) ≡ suc (begun (z - min (x + week) end)) = (let w : min (x + week) end ≡ x + week = omega arith in rw w (more z (rw w at i0))) in
        rw (b, needed-more x time d (begun (z - min (x + week) end)), p, g.exact z f, q));
  }
    where
      more : (z : ℕ) → x + week < z → begun (z - x) ≡ suc (begun (z - (x + week)))
      more z i = omega arith

  pub search-skips : (n x last time d : ℕ) (prev : Previous) → x ≤ end → 0 < d → Holding look end x last time prev
      → Agrees look rep end x time d (skip_from n look rep limit end x last d prev) (search_from n look limit end x last d)
  unfolding skip_from search_from
  search-skips zero x last time d prev h o v = record {
    same_answer = refl;
    inside = λ z e. never (cc);
    exact = λ z e. never (cc);
  }
  search-skips (suc n) x last time d prev h o v =
      step (turn look rep limit x (min (x + week) end) last d prev) (search_blocks limit (min (x + week) end) last d (look x (min (x + week) end))) (turn-same x last time d prev h o v)
      (λ m e p a b. search-skips n (min (x + week) end) m (total (look x (min (x + week) end))) e p (omega arith) a b)
    where
      step : (t : Turn) (s : Step) → Same look rep end x (min (x + week) end) time d t s
          → ((m e : ℕ) (p : Previous) → 0 < e → Holding look end (min (x + week) end) m (total (look x (min (x + week) end))) p
          → Agrees look rep end (min (x + week) end) (total (look x (min (x + week) end))) e (skip_from n look rep limit end (min (x + week) end) m e p) (search_from n look limit end (min (x + week) end) m e))
          → Agrees look rep end x time d
          (elim t as (λ _. Counted) [
            | stops a ↦ counted a 1
            | goes c m e p ↦ (let r = skip_from n look rep limit end (min (x + week) end) m e p in counted r.answer (c + r.count))
          ])
          (elim s as (λ _. Answer ℕ) [
            | found z ↦ gives z
            | gap ↦ refuses 6 0
            | left e l ↦ search_from n look limit end (min (x + week) end) l e
          ])
      step t s (same-found {z = z} a b k) rec = record {
        same_answer = refl;
        inside = λ w f. (let q : z ≡ w = cc in (omega arith, omega arith));
        exact = λ w f. (let q : z ≡ w = cc in needed-one x time d w (omega arith) k);
      }
      step t s same_gap rec = record {
        same_answer = refl;
        inside = λ w f. never (cc);
        exact = λ w f. never (cc);
      }
      step t s (same_left {c = c} {m = m} {e = e} {p = p} i j k w) rec = agrees_on x time d c e i j h (rec m e p k w)

  needed-none : (d : ℕ) → 0 ≡ needed_from 0 some_time look rep end 0 0 d
  unfolding needed_from
  needed-none d = refl

  pub skip-in : (d : ℕ) → SearchAnswers look rep end d (skip_search look rep limit end d) (search_in look limit end d)
  unfolding skip_search search_in
  skip-in d =
      by-test (eqb d 0)
      (λ p. rw p (record {
        same_answer = refl;
        within = λ z f. (let q : 0 ≡ z = cc in omega arith);
        exact = λ z f. (let q : 0 ≡ z = cc in let b : begun z ≡ 0 = omega arith in rw b (needed-none d));
        most = λ z f. omega arith;
      }))
      (λ p. let g = search-skips (begun end) 0 0 0 d fresh (omega arith) (let q = eqb-false d 0 p in omega arith) (inl refl) in
      rw p (record {
        same_answer = g.same_answer;
        within = λ z f. (g.inside z f).1;
        exact = λ z f. exact-at z (g.exact z f);
        most = λ z f. (let e = exact-at z (g.exact z f) in let m = needed-most (begun z) some_time look rep end 0 0 d in omega arith);
      }))
    where
      exact-at : (z : ℕ) {c : ℕ} → c ≡ needed_from (begun (z - 0)) some_time look rep end 0 0 d → c ≡ needed_from (begun z) some_time look rep end 0 0 d
      exact-at z e = let z0 : z - 0 ≡ z = omega arith in rw z0 at e

-- ---- between

-- a time and how many windows were resolved
pub record Summed : Type 0 where
  pub time : ℕ
  pub count : ℕ

abbrev pub summed : ℕ → ℕ → Summed
summed t c = record { time = t; count = c }

-- whether the window's time is that of the window before, if that is known
abbrev pub may_reuse : Option ℕ → Bool → Bool
may_reuse none test = false
may_reuse (some k) test = test

abbrev pub reused : Option ℕ → Bool → ℕ → ℕ
reused none test now = now
reused (some k) test now = if test then k else now

-- n windows from lo on, the last one ending at b; `prev` is the time of the window before, where that is whole
unfoldable pub skip_time : ℕ → (ℕ → ℕ → List Block) → (ℕ → Bool) → ℕ → ℕ → Option ℕ → Summed
skip_time zero work rep lo b prev = summed 0 0
skip_time (suc n) work rep lo b prev =
    let hi = min (lo + week) b in
    let test = eqb (hi - lo) week && rep lo in
    let now = reused prev test (total (work lo hi)) in
    let r = skip_time n work rep hi b (given (eqb (hi - lo) week) now) in
    summed (now + r.time) ((if may_reuse prev test then 0 else 1) + r.count)

-- what is known of the window before lo
abbrev pub KeptTime : (ℕ → ℕ → List Block) → ℕ → ℕ → ℕ → Option ℕ → Type 0
KeptTime work a b lo none = (lo ≡ a) ⊎ (b ≤ lo)
KeptTime work a b lo (some k) = (a + week ≤ lo) × (k ≡ total (work (lo - week) lo))

module _ (work : ℕ → ℕ → List Block) (rep : ℕ → Bool) (a b : ℕ) (ab : a ≤ b)
    (weekly : (t : ℕ) → a + week ≤ t → t + week ≤ b → rep t ≡ true → work t (t + week) ≡ moves week (work (t - week) t)) where
  pub time-same : (lo : ℕ) (prev : Option ℕ) → KeptTime work a b lo prev → lo ≤ b
      → reused prev (eqb (min (lo + week) b - lo) week && rep lo) (total (work lo (min (lo + week) b))) ≡ total (work lo (min (lo + week) b))
  time-same lo none v h = refl
  time-same lo (some k) v h =
      by-test (eqb (min (lo + week) b - lo) week && rep lo)
      (λ p. let q = and_both (eqb (min (lo + week) b - lo) week) (rep lo) p in
      let e = eqb-true (min (lo + week) b - lo) week q.0 in
      let f : min (lo + week) b ≡ lo + week = omega arith in
      rw (p) (v.1 ∙ sym (total-moved week (work (lo - week) lo)) ∙ ap total (sym (weekly lo v.0 (omega arith) q.1) ∙ ap (work lo) (sym f))))
      (λ p. rw p)

  pub keep-time : (lo k : ℕ) → a ≤ lo → lo ≤ b → k ≡ total (work lo (min (lo + week) b)) → KeptTime work a b (min (lo + week) b) (given (eqb (min (lo + week) b - lo) week) k)
  keep-time lo k g h e =
      by-test (eqb (min (lo + week) b - lo) week)
      (λ p. let q = eqb-true (min (lo + week) b - lo) week p in
      let f : min (lo + week) b - week ≡ lo = omega arith in
      rw p (omega arith, rw f e))
      (λ p. let q = eqb-false (min (lo + week) b - lo) week p in rw p (inr (omega arith)))

  -- the two tests for reusing are one
  reuse-same : (x : ℕ) (prev : Option ℕ) → KeptTime work a b (a + x) prev → (time d : ℕ)
      → may_reuse prev (eqb (min (a + x + week) b - (a + x)) week && rep (a + x)) ≡ (ltb 0 x && (eqb (min (x + week) (b - a) - x) week && (any_time time d && rep (a + x))))
  reuse-same x (some k) v time d =
      let e : min (a + x + week) b - (a + x) ≡ min (x + week) (b - a) - x = omega arith in
      rw (lt-ltb 0 x (let w = v.0 in omega arith), e)
  reuse-same x none (inl p) time d = rw (le-ltb 0 x (omega arith))
  reuse-same x none (inr p) time d = rw (ne_eqb (min (x + week) (b - a) - x) week (λ f. omega arith)) (nothing (ltb 0 x))
    where
      nothing : (t : Bool) → false ≡ (t && false)
      nothing true = refl
      nothing false = refl

  pub time-skips : (n lo : ℕ) (prev : Option ℕ) → a ≤ lo → lo ≤ b → KeptTime work a b lo prev → (skip_time n work rep lo b prev).time ≡ time_from n work lo b
  unfolding skip_time time_from
  time-skips zero lo prev g h v = refl
  time-skips (suc n) lo prev g h v =
      let e = time-same lo prev v h in
      ap₂ ◌+◌ e (time-skips n (min (lo + week) b) (given (eqb (min (lo + week) b - lo) week) (reused prev (eqb (min (lo + week) b - lo) week && rep lo) (total (work lo (min (lo + week) b))))) (omega arith) (omega arith) (keep-time lo _ g h e))

  pub count-exact : (n x : ℕ) (prev : Option ℕ) → a + x ≤ b → KeptTime work a b (a + x) prev → (look : ℕ → ℕ → List Block) (time d : ℕ)
      → (skip_time n work rep (a + x) b prev).count ≡ needed_from n any_time look (λ y. rep (a + y)) (b - a) x time d
  unfolding skip_time needed_from
  count-exact zero x prev h v look time d = refl
  count-exact (suc n) x prev h v look time d =
      let e = time-same (a + x) prev v h in
      let y = min (x + week) (b - a) in
      ap₂ ◌+◌ (ap (λ t. if t then 0 else 1) (reuse-same x prev v time d))
      (moved_to (min (a + x + week) b) y _ _ (omega arith) (keep-time (a + x) _ (omega arith) h e)
      (λ w. count-exact n y _ (omega arith) w look (total (look x y)) (d - total (look x y))))
    where
      moved_to : (hi y : ℕ) (p : Option ℕ) (r : ℕ) → hi ≡ a + y → KeptTime work a b hi p → (KeptTime work a b (a + y) p → (skip_time n work rep (a + y) b p).count ≡ r) → (skip_time n work rep hi b p).count ≡ r
      moved_to hi y p r e v f = rw e (f (rw e at v))
