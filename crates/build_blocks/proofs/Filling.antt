-- Filling a block list from the front: what a turn of either loop keeps. Assumes nothing.
use Rattle.std.specs.Prelude.{Option, None, Some, if◌then◌else◌}
use mathlib.Core.Path.{◌≡◌, refl, sym, ◌∙◌, ap}
use mathlib.Core.Bool.{Bool}
use mathlib.Core.List.{List, [], ◌∷◌, ◌++◌, map, append_assoc, append-nil}
use Prim.Native.Nat.{ℕ, ◌+◌, ◌*◌, ◌-◌, ◌≤◌, ◌<◌}
use native.Mathlib.Omega.{arith}
use lib.ListN.{length, take, get_or, set, length-set}
use Rattle.model.specs.Basic.{filter, run, joined}
use Rattle.model.specs.Blocks.{Block as Block'}
use Rattle.model.specs.Walk.{onward}
use Rattle.model.specs.Working.{Rule, blocks_of, blocks_of_all}
use Rattle.laws_base.specs.Test.{by-test}
use Rattle.instant.specs.Instant.{nanos}
use Rattle.instant.specs.declared.Instant.{Instant}
use Rattle.block_list.specs.declared.Block.{Block}
use Rattle.block_list.specs.Listed.{capacity, block_is, first_blocks}
use Rattle.laws_base.specs.Front.{front-push}
use Rattle.zone_local.specs.Dates.{piece_of}
use Rattle.window_dates.specs.Windows.{IsLocalDates, from_day, upto_day, most_window_dates}
use Rattle.window_dates.specs.declared.LocalDates.{LocalDates}
use Rattle.window_dates.proofs.Fill.{shown, dates_from, dates-whole, date-on, date-off, dates-done, rest_of, rest_more, rest_end}
use Rattle.window_piece.proofs.Frames.{rule-shows}
use Rattle.window_piece.proofs.Laws.{onward-append}
use Rattle.build_blocks.specs.Shown.{held_block, most_shown}

-- ---- one block

-- what an option holds stands behind the w blocks of a list
pub record Put (out : List Block) (w : ℕ) (x : Option Block) (out' : List Block) (w' : ℕ) : Type 0 where
  pub same : first_blocks w' out' ≡ first_blocks w out ++ held_block x
  pub few : w' ≤ w + 1
  pub long : length out' ≡ length out

pub put-block : (out : List Block) (w : ℕ) (x : Option Block) (y : Block) → x ≡ Some y → w < length out → Put out w x (set out w y) (w + 1)
put-block out w x y e h = rw e (record { same = front-push block_is w out y h; few = omega arith; long = length-set out w y })

pub put-none : (out : List Block) (w : ℕ) (x : Option Block) → x ≡ None → Put out w x out w
put-none out w x e = rw e (record { same = sym (append-nil (first_blocks w out)); few = omega arith; long = refl })

-- ---- the dates of a rule

-- what a rule shows of a date, from lo
abbrev pub showing : Rule → ℕ → ℕ → ℕ → List Block'
showing r lo hi d = onward lo (piece_of r lo hi d)

onward-shown : (t : ℕ) (on : ℕ → Bool) (f : ℕ → List Block') (l : List ℕ) → shown on (λ d. onward t (f d)) l ≡ onward t (shown on f l)
unfolding joined filter onward
onward-shown t on f [] = refl
onward-shown t on f (d ∷ l) =
    by-test (on d)
    (λ e. rw e (ap (λ (x : List Block'). onward t (f d) ++ x) (onward-shown t on f l) ∙ sym (onward-append t (f d) (shown on f l))))
    (λ e. rw e (onward-shown t on f l))

-- the blocks in front of w, and those that the dates of a list show
abbrev pub with_dates : Rule → ℕ → ℕ → List Block → ℕ → List ℕ → List Block'
with_dates r lo hi out w dates = first_blocks w out ++ shown r.on (showing r lo hi) dates

-- of k dates in a row, those from the i-th on are to come: `whole` is what the list holds in the end, `top` how many it then has at most
pub record Dating (r : Rule) (lo hi first k : ℕ) (whole : List Block') (top : ℕ) (out : List Block) (w i : ℕ) : Type 0 where
  pub same : with_dates r lo hi out w (dates_from first k i) ≡ whole
  pub count : w + (k - i) ≤ top
  pub long : length out ≡ capacity

pub dating-starts : (r : Rule) (lo hi first k : ℕ) (out : List Block) (w : ℕ) → length out ≡ capacity → Dating r lo hi first k (with_dates r lo hi out w (run first k)) (w + k) out w 0
dating-starts r lo hi first k out w l = record { same = ap (with_dates r lo hi out w) (dates-whole first k); count = omega arith; long = l }

module _ (r : Rule) (lo hi first k : ℕ) (whole : List Block') (top : ℕ) (out : List Block) (w i : ℕ) (m : Dating r lo hi first k whole top out w i) where
  -- there is room for what one more date shows
  pub dating-room : i < k → top ≤ capacity → w < capacity
  dating-room h u = let a = m.count in omega arith

  -- what a date shows, if the rule is on there, is put behind the others
  pub dating-turn : i < k → (x : Option Block) → held_block x ≡ onward lo (if r.on (first + i) then piece_of r lo hi (first + i) else []) → (out' : List Block) (w' : ℕ) → Put out w x out' w'
      → Dating r lo hi first k whole top out' w' (i + 1)
  unfolding onward
  dating-turn h x e out' w' p =
      let a = m.count in let b = p.few in
      let f : first_blocks w' out' ≡ first_blocks w out ++ held_block x = p.same in
      record {
        same =
            by-test (r.on (first + i))
            (λ t. date-on r.on (showing r lo hi) first k i (first_blocks w out) whole m.same h t (first_blocks w' out') (f ∙ ap (λ (l : List Block'). first_blocks w out ++ l) (rw t at e)))
            (λ t. ap (λ (l : List Block'). l ++ shown r.on (showing r lo hi) (dates_from first k (i + 1))) (f ∙ ap (λ (l : List Block'). first_blocks w out ++ l) (rw t at e) ∙ none) ∙ date-off r.on (showing r lo hi) first k i (first_blocks w out) whole m.same h t);
        count = omega arith;
        long = p.long ∙ m.long;
      }
    where
      none : first_blocks w out ++ onward lo [] ≡ first_blocks w out
      none = append-nil (first_blocks w out)

-- the dates of a window are done: what the rule has in it is behind the blocks that were there
pub dating-done : (r : Rule) (lo hi : Instant) (days : LocalDates) → IsLocalDates r.zone lo hi days → (first k : ℕ) → first ≡ from_day days → k ≡ upto_day days + 1 - first
    → (out₀ : List Block) (w₀ : ℕ) (out : List Block) (w i : ℕ) → Dating r (nanos lo) (nanos hi) first k (with_dates r (nanos lo) (nanos hi) out₀ w₀ (run first k)) (w₀ + k) out w i
    → k ≤ i → (first_blocks w out ≡ first_blocks w₀ out₀ ++ onward (nanos lo) (blocks_of (nanos lo) (nanos hi) r)) × (w ≤ w₀ + most_window_dates)
dating-done r lo hi days q first k e c out₀ w₀ out w i m h =
    let a = m.count in let f = q.few in let l = q.last-is in (
      dates-done r.on (showing r (nanos lo) (nanos hi)) first k i (first_blocks w out) (with_dates r (nanos lo) (nanos hi) out₀ w₀ (run first k)) m.same h
          ∙ ap (λ (l : List Block'). first_blocks w₀ out₀ ++ l)
          (onward-shown (nanos lo) r.on (piece_of r (nanos lo) (nanos hi)) (run first k)
          ∙ ap (onward (nanos lo)) (ap (λ (n : ℕ). shown r.on (piece_of r (nanos lo) (nanos hi)) (run first n)) c ∙ rule-shows r (nanos lo) (nanos hi) first (upto_day days) (e ∙ q.first-is) l)),
      omega arith,
    )

-- ---- the rules of a counted array

onward-rules : {A : Type 0} (lo hi : ℕ) (h : A → Rule) (l : List A) → joined (map (λ (a : A). onward lo (blocks_of lo hi (h a))) l) ≡ onward lo (blocks_of_all lo hi (map h l))
unfolding joined onward
onward-rules lo hi h [] = refl
onward-rules lo hi h (a ∷ l) =
    ap (λ (x : List Block'). onward lo (blocks_of lo hi (h a)) ++ x) (onward-rules lo hi h l) ∙ sym (onward-append lo (blocks_of lo hi (h a)) (blocks_of_all lo hi (map h l)))

module _ {A : Type 0} (lo hi : ℕ) (h : A → Rule) (n : ℕ) (rules : List A) where
  -- what a rule has in the window, from lo
  abbrev rule : A → List Block'
  rule a = onward lo (blocks_of lo hi (h a))

  -- the rules from i on are to come; each shows at most 21 dates
  pub record Ruling (out : List Block) (w i : ℕ) : Type 0 where
    pub same : first_blocks w out ++ rest_of rule n rules i ≡ rest_of rule n rules 0
    pub count : w ≤ i * most_window_dates
    pub upto : i ≤ n
    pub fits : n ≤ length rules
    pub long : length out ≡ capacity

  pub ruling-starts : (out : List Block) (w : ℕ) → first_blocks w out ≡ [] → w ≡ 0 → n ≤ length rules → length out ≡ capacity → Ruling out w 0
  ruling-starts out w e z f l = record { same = rw e refl; count = omega arith; upto = omega arith; fits = f; long = l }

  module _ (out : List Block) (w i : ℕ) (m : Ruling out w i) where
    -- there is room for the dates of one more rule
    pub ruling-room : n ≤ 16 → i < n → w + most_window_dates ≤ capacity
    ruling-room r t = let c = m.count in omega arith

    pub ruling-turn : i < n → (x : A) (out' : List Block) (w' : ℕ) → first_blocks w' out' ≡ first_blocks w out ++ rule (get_or rules i x) → w' ≤ w + most_window_dates → length out' ≡ capacity → Ruling out' w' (i + 1)
    ruling-turn t x out' w' e c l =
        let a = m.count in let k = m.fits in
        record {
          same = ap (λ (y : List Block'). y ++ rest_of rule n rules (i + 1)) e
              ∙ append_assoc (first_blocks w out) (rule (get_or rules i x)) (rest_of rule n rules (i + 1))
              ∙ ap (λ (y : List Block'). first_blocks w out ++ y) (sym (rest_more rule n rules i x t k)) ∙ m.same;
          count = omega arith;
          upto = omega arith;
          fits = k;
          long = l;
        }

    -- the rules are done
    pub ruling-done : n ≤ 16 → n ≤ i → (first_blocks w out ≡ onward lo (blocks_of_all lo hi (map h (take n rules)))) × (w ≤ most_shown)
    ruling-done s t =
        let a = m.upto in let c = m.count in let e : i ≡ n = omega arith in (
          sym (append-nil (first_blocks w out)) ∙ ap (λ (y : List Block'). first_blocks w out ++ y) (sym (ap (rest_of rule n rules) e ∙ rest_end rule n rules m.fits)) ∙ m.same ∙ onward-rules lo hi h (take n rules),
          omega arith,
        )
