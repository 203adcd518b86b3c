-- The blocks of a list around an instant, as the code looks at them. Assumes nothing.
use mathlib.Core.Path.{◌≡◌, refl, sym, ◌∙◌, ap}
use mathlib.Core.Bool.{false}
use mathlib.Core.List.{List, [], ◌∷◌, map}
use native.Mathlib.Numerals.{add-one}
use lib.Seq.{drop-cons}
use Prim.Native.Nat.{ℕ, ◌+◌, ◌≤◌, ◌<◌}
use lib.ListN.{length, drop, get_or, drop_of_length-le}
use Rattle.model.specs.Basic.{any}
use Rattle.model.specs.Marks.{plain}
use Rattle.laws_marks.specs.Around.{Around, around_of, covered_at, covered_before, best_start, best_end}
use Rattle.laws_marks.specs.AroundLaws.{both_around, around_block, around-more, around-group, none-behind, none_before}
use Rattle.block_marked.specs.Marked.{marked_is, around_is}
use Rattle.block_marked.specs.declared.MarkedBlock.{MarkedBlock}
use Rattle.block_marked.specs.declared.Around.{Around as Shown}

-- ---- a list

-- the blocks from the i-th on are to come; a is what those in front show around u
pub record Scanning (u : ℕ) (l : List MarkedBlock) (a : Shown) (i : ℕ) : Type 0 where
  pub same : both_around (around_is a) (around_of u (map marked_is (drop i l))) ≡ around_of u (map marked_is l)

-- no block shows nothing
pub none-shown : (u : ℕ) → ◌≡◌ {A = Around} (record { before = false; here = false; starts = plain; ends = plain }) (around_of u [])
unfolding covered_at covered_before best_start best_end any
none-shown u = refl

module _ (u : ℕ) (l : List MarkedBlock) (a : Shown) where
  pub scan-starts : around_is a ≡ around_of u [] → Scanning u l a 0
  scan-starts e = record { same = ap (λ (x : Around). both_around x (around_of u (map marked_is l))) e ∙ none_before u (around_of u (map marked_is l)) }

  module _ (i : ℕ) (m : Scanning u l a i) where
    pub scan-turn : i < length l → (x : MarkedBlock) (b : Shown) → around_is b ≡ around_block u (marked_is (get_or l i x))
        → (c : Shown) → around_is c ≡ both_around (around_is a) (around_is b) → Scanning u l c (i + 1)
    scan-turn h x b e c f =
        let rest = map marked_is (drop (i + 1) l) in
        let d : drop i l ≡ get_or l i x ∷ drop (i + 1) l = rw add-one (drop-cons l i x h) in
        record {
          same = ap (λ (y : Around). both_around y (around_of u rest)) (f ∙ ap (both_around (around_is a)) e)
              ∙ around-group (around_is a) (around_block u (marked_is (get_or l i x))) (around_of u rest)
              ∙ ap (both_around (around_is a)) (sym (around-more u (marked_is (get_or l i x)) rest))
              ∙ ap (λ y. both_around (around_is a) (around_of u (map marked_is y))) (sym d)
              ∙ m.same;
        }

    pub scan-done : length l ≤ i → around_is a ≡ around_of u (map marked_is l)
    scan-done h =
        sym (none-behind u (around_is a))
        ∙ ap (λ y. both_around (around_is a) (around_of u (map marked_is y))) (sym (drop_of_length-le l h))
        ∙ m.same
