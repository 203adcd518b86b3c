-- Filling a list with the marked blocks of a rule that may touch an instant from a to b, and going through rules: what a turn of each loop keeps. Assumes nothing.
use Rattle.std.specs.Prelude.{Option, None, Some}
use mathlib.Core.Path.{◌≡◌, refl, sym, ◌∙◌, ap}
use mathlib.Core.Bool.{true, false}
use mathlib.Core.List.{List, [], ◌++◌, map, append-nil}
use Prim.Native.Nat.{ℕ, ◌+◌, ◌-◌, ◌≤◌, ◌<◌}
use native.Mathlib.Omega.{arith}
use lib.ListN.{length, take, get_or, set, length-set}
use lib.Seq.{take_all}
use Rattle.model.specs.Basic.{run, joined}
use Rattle.model.specs.Marks.{MarkedBlock, whole_on, whole_of, whole_of_all}
use Rattle.model.specs.Working.{Rule, first_date, last_date, local_dates}
use Rattle.laws_base.specs.Front.{front-push}
use Rattle.laws_base.specs.Test.{by-test}
use Rattle.instant.specs.Instant.{nanos}
use Rattle.instant.specs.declared.Instant.{Instant}
use Rattle.block_marked.specs.Marked.{most_marked, marked_is, marked_list, first_marked, around_is, SidesOf, BothSides}
use Rattle.block_marked.specs.declared.MarkedBlock.{MarkedBlock as Item}
use Rattle.block_marked.specs.declared.MarkedBlocks.{MarkedBlocks}
use Rattle.block_marked.specs.declared.Sides.{Sides}
use Rattle.laws_marks.specs.Around.{Around, around_of}
use Rattle.laws_marks.specs.AroundLaws.{both_around, around-lists, around-group, none_before, none-behind}
use Rattle.window_dates.specs.Windows.{IsLocalDates, from_day, upto_day}
use Rattle.window_dates.specs.declared.LocalDates.{LocalDates}
use Rattle.window_dates.proofs.Fill.{shown, dates_from, dates-whole, date-on, date-off, dates-done, rest_of, rest_more, rest_end, maps}
use Rattle.civil.specs.declared.Time.{Time}
use Rattle.zone.specs.declared.Zone.{Zone}
use Rattle.window_marks.specs.Whole.{held_marked, rule_by, NearBlocks, RuleSides, RulesSides, whole_at}
use Rattle.window_marks.specs.declared.Border.{Border}
use Rattle.window_marks.specs.declared.Dates.{Dates}

-- ---- the dates of a rule

-- of k dates in a row, those from the i-th on are to come; around each instant from a to b the blocks so far and theirs show what all show
pub record Nearing (r : Rule) (a b first k : ℕ) (out : List Item) (w i : ℕ) : Type 0 where
  pub same : (u : ℕ) → a ≤ u → u ≤ b → around_of u (first_marked w out ++ shown r.on (whole_on r) (dates_from first k i)) ≡ around_of u (shown r.on (whole_on r) (run first k))
  pub count : w ≤ i
  pub long : length out ≡ most_marked

pub nearing-starts : (r : Rule) (a b first k : ℕ) (out : List Item) → length out ≡ most_marked → Nearing r a b first k out 0 0
nearing-starts r a b first k out l =
    record { same = λ u _ _. ap (λ (d : List ℕ). around_of u (shown r.on (whole_on r) d)) (dates-whole first k); count = omega arith; long = l }

module _ (r : Rule) (a b first k : ℕ) (out : List Item) (w i : ℕ) (m : Nearing r a b first k out w i) where
  -- what the dates from the j-th on show
  abbrev rest : ℕ → List MarkedBlock
  rest j = shown r.on (whole_on r) (dates_from first k j)

  pub nearing-room : i < k → k ≤ most_marked → w < most_marked
  nearing-room h u = let c = m.count in omega arith

  -- a date that is on: its block, if it holds anything, is stored behind the others
  pub nearing-on : i < k → r.on (first + i) ≡ true → (x : Option Item) → held_marked x ≡ whole_on r (first + i) → (out' : List Item) (n : ℕ) → first_marked n out' ≡ first_marked w out ++ held_marked x
      → n ≤ w + 1 → length out' ≡ most_marked → Nearing r a b first k out' n (i + 1)
  nearing-on h t x e out' n f p l =
      let c = m.count in
      let s = date-on r.on (whole_on r) first k i (first_marked w out) (first_marked w out ++ rest i) refl h t (first_marked n out') (f ∙ ap (λ (l : List MarkedBlock). first_marked w out ++ l) e) in
      record { same = λ u g j. ap (around_of u) s ∙ m.same u g j; count = omega arith; long = l }

  pub nearing-stored : i < k → k ≤ most_marked → r.on (first + i) ≡ true → (x : Item) → held_marked (Some x) ≡ whole_on r (first + i) → Nearing r a b first k (set out w x) (w + 1) (i + 1)
  nearing-stored h f t x e =
      let l = m.long in let v : w < length out = omega (arith, nearing-room h f) in
      nearing-on h t (Some x) e (set out w x) (w + 1) (front-push marked_is w out x v) (omega arith) (length-set out w x ∙ m.long)

  pub nearing-none : i < k → r.on (first + i) ≡ true → held_marked None ≡ whole_on r (first + i) → Nearing r a b first k out w (i + 1)
  nearing-none h t e = nearing-on h t None e out w (sym (append-nil (first_marked w out))) (omega arith) m.long

  off-same : i < k → r.on (first + i) ≡ false → first_marked w out ++ rest (i + 1) ≡ first_marked w out ++ rest i
  off-same h t = date-off r.on (whole_on r) first k i (first_marked w out) (first_marked w out ++ rest i) refl h t

  -- a date that is off, or whose block shows nothing around these instants
  pub nearing-off : i < k → r.on (first + i) ≡ false → Nearing r a b first k out w (i + 1)
  nearing-off h t = let c = m.count in record { same = λ u g j. ap (around_of u) (off-same h t) ∙ m.same u g j; count = omega arith; long = m.long }

  pub nearing-apart : i < k → ((u : ℕ) → a ≤ u → u ≤ b → around_of u (whole_on r (first + i)) ≡ around_of u []) → Nearing r a b first k out w (i + 1)
  nearing-apart h f =
      let c = m.count in
      by-test (r.on (first + i))
      (λ t. let s = date-on r.on (whole_on r) first k i (first_marked w out) (first_marked w out ++ rest i) refl h t (first_marked w out ++ whole_on r (first + i)) refl in
      record {
        same = λ u g j.
            around-lists u (first_marked w out) (rest (i + 1))
            ∙ ap (λ (x : Around). both_around x (around_of u (rest (i + 1)))) (sym (around-lists u (first_marked w out) (whole_on r (first + i)) ∙ ap (both_around (around_of u (first_marked w out))) (f u g j) ∙ none-behind u (around_of u (first_marked w out))))
            ∙ sym (around-lists u (first_marked w out ++ whole_on r (first + i)) (rest (i + 1)))
            ∙ ap (around_of u) s ∙ m.same u g j;
        count = omega arith;
        long = m.long;
      })
      (λ t. nearing-off h t)

-- the dates of a window give the rule's whole blocks
whole-shows : (r : Rule) (lo hi a b : ℕ) → a ≡ first_date r.zone lo → b ≡ last_date r.zone hi → shown r.on (whole_on r) (run a (b + 1 - a)) ≡ whole_of lo hi r
unfolding whole_of local_dates
whole-shows r lo hi a b p q = rw (p, q)

-- the dates of a window are done
pub nearing-done : (r : Rule) (lo hi : Instant) (days : LocalDates) → IsLocalDates r.zone lo hi days → (a b : Instant) (first k : ℕ) → first ≡ from_day days → k ≡ upto_day days + 1 - first
    → (l : MarkedBlocks) (i : ℕ) → Nearing r (nanos a) (nanos b) first k l.items l.len i → k ≤ i → i ≤ k → NearBlocks r lo hi a b l
nearing-done r lo hi days q a b first k e c l i m h n =
    let f = q.few in let g = m.count in
    let d : shown r.on (whole_on r) (run first k) ≡ whole_of (nanos lo) (nanos hi) r =
    ap (λ (n : ℕ). shown r.on (whole_on r) (run first n)) c ∙ whole-shows r (nanos lo) (nanos hi) first (upto_day days) (e ∙ q.first-is) q.last-is in
    let s = dates-done r.on (whole_on r) first k i (marked_list l) (marked_list l ++ shown r.on (whole_on r) (dates_from first k i)) refl h in
    record { same = λ u x y. ap (around_of u) s ∙ m.same u x y ∙ ap (around_of u) d; few = omega arith }

-- the zone's file is a part of the pack
pub near-moved : (k f g : List ℕ) (z : Zone) (from to : Time) (dates : Dates) (a b first n : ℕ) (out : List Item) (w i : ℕ) → f ≡ g
    → Nearing (rule_by k f z from to dates) a b first n out w i → Nearing (rule_by k g z from to dates) a b first n out w i
near-moved k f g z from to dates a b first n out w i e m = rw e at m

-- ---- the rules of a counted array

-- one more rule in front of what is to come
side-turn : (u : ℕ) (s y z whole : Around) (l k : List MarkedBlock) → both_around s (around_of u (l ++ k)) ≡ whole → y ≡ around_of u l → z ≡ both_around s y → both_around z (around_of u k) ≡ whole
side-turn u s y z whole l k m e f =
    ap (λ (x : Around). both_around x (around_of u k)) (f ∙ ap (both_around s) e) ∙ around-group s (around_of u l) (around_of u k) ∙ ap (both_around s) (sym (around-lists u l k)) ∙ m

module _ {A : Type 0} (a b : Border) (h : A → Rule) (n : ℕ) (rules : List A) where
  -- a rule's whole blocks in the window of an end, and those of the rules from the i-th on
  abbrev rule : Border → A → List MarkedBlock
  rule e x = whole_of (nanos e.lo) (nanos e.hi) (h x)

  abbrev left : Border → ℕ → List MarkedBlock
  left e i = rest_of (rule e) n rules i

  -- the rules from i on are to come; s is what those before show around a and around b
  pub record Folding (s : Sides) (i : ℕ) : Type 0 where
    pub start : both_around (around_is s.start) (around_of (nanos a.at) (left a i)) ≡ around_of (nanos a.at) (left a 0)
    pub end : both_around (around_is s.end) (around_of (nanos b.at) (left b i)) ≡ around_of (nanos b.at) (left b 0)
    pub upto : i ≤ n
    pub fits : n ≤ length rules

  pub folding-starts : (s : Sides) → SidesOf (nanos a.at) (nanos b.at) [] s → n ≤ length rules → Folding s 0
  folding-starts s e f = record {
    start = ap (λ (x : Around). both_around x (around_of (nanos a.at) (left a 0))) e.0 ∙ none_before (nanos a.at) (around_of (nanos a.at) (left a 0));
    end = ap (λ (x : Around). both_around x (around_of (nanos b.at) (left b 0))) e.1 ∙ none_before (nanos b.at) (around_of (nanos b.at) (left b 0));
    upto = omega arith;
    fits = f;
  }

  -- one more rule, around one end
  more : (e : Border) (i : ℕ) → i < n → n ≤ length rules → (x : A) (s y z : Around) → both_around s (around_of (nanos e.at) (left e i)) ≡ around_of (nanos e.at) (left e 0)
      → y ≡ around_of (nanos e.at) (rule e (get_or rules i x)) → z ≡ both_around s y → both_around z (around_of (nanos e.at) (left e (i + 1))) ≡ around_of (nanos e.at) (left e 0)
  more e i t k x s y z m p q =
      side-turn (nanos e.at) s y z (around_of (nanos e.at) (left e 0)) (rule e (get_or rules i x)) (left e (i + 1))
      (ap (λ (l : List MarkedBlock). both_around s (around_of (nanos e.at) l)) (sym (rest_more (rule e) n rules i x t k)) ∙ m) p q

  -- all rules, around one end
  all : (e : Border) (i : ℕ) → i ≡ n → n ≤ length rules → (s : Around) → both_around s (around_of (nanos e.at) (left e i)) ≡ around_of (nanos e.at) (left e 0)
      → s ≡ around_of (nanos e.at) (whole_at e (map h (take n rules)))
  unfolding whole_of_all
  all e i t k s m =
      let q : left e i ≡ [] = ap (left e) t ∙ rest_end (rule e) n rules k in
      let w : left e 0 ≡ joined (map (whole_of (nanos e.lo) (nanos e.hi)) (map h (take n rules))) = ap joined (maps (whole_of (nanos e.lo) (nanos e.hi)) h (take n rules)) in
      sym (none-behind (nanos e.at) s) ∙ ap (λ (l : List MarkedBlock). both_around s (around_of (nanos e.at) l)) (sym q) ∙ m ∙ ap (around_of (nanos e.at)) w

  module _ (s : Sides) (i : ℕ) (m : Folding s i) where
    pub folding-turn : i < n → (x : A) (y z : Sides) → RuleSides (h (get_or rules i x)) a b y → BothSides s y z → Folding z (i + 1)
    folding-turn t x y z e f =
        let k = m.fits in
        record {
          start = more a i t k x (around_is s.start) (around_is y.start) (around_is z.start) m.start e.0 f.0;
          end = more b i t k x (around_is s.end) (around_is y.end) (around_is z.end) m.end e.1 f.1;
          upto = omega arith;
          fits = k;
        }

    -- the rules are done
    pub folding-done : n ≤ i → RulesSides (map h (take n rules)) a b s
    folding-done t =
        let k = m.upto in let e : i ≡ n = omega arith in
        (all a i e m.fits (around_is s.start) m.start, all b i e m.fits (around_is s.end) m.end)

-- all rules of a list
pub sides-done : {A : Type 0} (a b : Border) (h : A → Rule) (l : List A) (s : Sides) (i : ℕ) → Folding a b h (length l) l s i → length l ≤ i → RulesSides (map h l) a b s
sides-done a b h l s i m t = rw (take_all (length l) l (omega arith)) at (folding-done a b h (length l) l s i m t)
