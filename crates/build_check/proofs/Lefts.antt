-- What is left of blocks, found block by block: what a turn of the loop keeps. Assumes nothing.
use mathlib.Core.Path.{◌≡◌, refl, sym, ◌∙◌, ap, ap₂}
use mathlib.Core.Bool.{Bool, true, false, not, ◌&&◌}
use mathlib.Core.List.{List, [], ◌∷◌, ◌++◌, map, append-nil}
use Prim.Native.Nat.{ℕ, zero, suc, ◌+◌, ◌≤◌, ◌<◌, max}
use native.Mathlib.Omega.{arith}
use borrow.Author.Tests.{lt-ltb, le-ltb, le-leb, lt-leb, leb-true, leb-false}
use lib.Dec.{leb}
use lib.Seq.{drop-cons}
use native.Mathlib.Numerals.{add-one}
use lib.ListN.{length, get_or, take, drop, drop_of_length-le}
use Rattle.model.specs.Basic.{joined}
use Rattle.model.specs.Blocks.{Block as Block', block, insert, sorted, merged_from, merged, union, cut, subtract}
use Rattle.model.specs.Build.{works_in_2001}
use Rattle.model.specs.Walk.{onward}
use Rattle.model.specs.Working.{Schedule, blocks_of_all, working}
use Rattle.laws_base.specs.Test.{by-test}
use Rattle.laws_blocks.specs.Members.{NonEmpty, Chain, Normal, From, chain-weaken, chain-sorted, chain-nonempty, union-normal}
use Rattle.instant.specs.Instant.{nanos}
use Rattle.instant.specs.declared.Instant.{Instant}
use Rattle.block_list.specs.declared.Block.{Block}
use Rattle.block_list.specs.declared.Blocks.{Blocks}
use Rattle.block_list.specs.Listed.{block_is, list_of, nil}
use Rattle.rule.specs.Rules.{rule_is}
use Rattle.rule.specs.declared.Rule.{Rule as Rule'}
use Rattle.build_blocks.specs.Shown.{Listed, any_block}
use Rattle.build_blocks.proofs.Any.{any_append, any-onward, none}
use Rattle.window_piece.proofs.Laws.{Apart, apart-onward, union-onward, subtract-onward}
use Rattle.window_week.proofs.Whole.{rules-apart, union-apart}
use Rattle.build_check.specs.Left.{leaves, UnionOf}

-- ---- one block

-- nothing is left of nothing
cut-none : (s e : ℕ) (off : List Block') → e ≤ s → cut s e off ≡ []
unfolding cut
cut-none s e [] h = rw (le-ltb s e h)
cut-none s e (g ∷ off) h =
    by-test (leb g.end s)
    (λ p. rw p (cut-none s e off h))
    (λ p. by-test (leb e g.start)
    (λ q. rw (p, q, le-ltb s e h))
    (λ q.
    let a = leb-false g.end s p in let b = leb-false e g.start q in
    rw (p, q, le-ltb s g.start (omega arith)) (cut-none g.end e off (omega arith))))

-- blocks from the end of g on are left by g as they are
subtract-past : (g : Block') (off l : List Block') → From g.end l → subtract l (g ∷ off) ≡ subtract l off
unfolding subtract cut
subtract-past g off [] f = refl
subtract-past g off (b ∷ l) f = rw (le-leb g.end b.start f.0) (ap (λ (x : List Block'). cut b.start b.end off ++ x) (subtract-past g off l f.1))

module _ (b : Block') (n : b.start < b.end) (g : Block') (off : List Block') where
  -- g begins behind the block's start
  in-front : g.start < g.end → b.start < g.start → any_block (cut b.start b.end (g ∷ off)) ≡ true
  unfolding cut any_block
  in-front h k =
      by-test (leb b.end g.start)
      (λ q. rw (lt-leb g.end b.start (omega arith), q, lt-ltb b.start b.end n))
      (λ q. rw (lt-leb g.end b.start (omega arith), q, lt-ltb b.start g.start k))

  module _ (h : b.start < g.end) (k : g.start ≤ b.start) where
    behind : cut b.start b.end (g ∷ off) ≡ cut g.end b.end off
    unfolding cut
    behind = rw (lt-leb g.end b.start h, lt-leb b.end g.start (omega arith), le-ltb b.start g.start k)

    -- g ends before the block's end, and the next one begins later
    at-end : g.end < b.end → Chain (suc g.end) off → any_block (cut b.start b.end (g ∷ off)) ≡ true
    unfolding cut any_block
    at-end e c = ap any_block behind ∙ go off c
      where
        go : (l : List Block') → Chain (suc g.end) l → any_block (cut g.end b.end l) ≡ true
        go [] c = rw (lt-ltb g.end b.end e)
        go (x ∷ l) c =
            let p = c.0 in let q = c.1 in
            by-test (leb b.end x.start)
            (λ t. rw (lt-leb x.end g.end (omega arith), t, lt-ltb g.end b.end e))
            (λ t. rw (lt-leb x.end g.end (omega arith), t, lt-ltb g.end x.start (omega arith)))

    -- g covers the block
    covered : b.end ≤ g.end → cut b.start b.end (g ∷ off) ≡ []
    covered e = behind ∙ cut-none g.end b.end off e

-- ---- the lists

left-first : (b : Block') (l off : List Block') → any_block (cut b.start b.end off) ≡ true → leaves (b ∷ l) off ≡ true
unfolding leaves subtract
left-first b l off h = any_append (cut b.start b.end off) (subtract l off) ∙ rw h

gone-first : (b : Block') (l off : List Block') → cut b.start b.end off ≡ [] → leaves (b ∷ l) off ≡ leaves l off
unfolding leaves subtract
gone-first b l off h = rw h

-- without breaks
leaves_all : (l : List Block') → NonEmpty l → leaves l [] ≡ any_block l
unfolding leaves subtract cut any_block
leaves_all [] n = refl
leaves_all (b ∷ l) n = rw (lt-ltb b.start b.end n.0)

-- ---- the block that covers another

-- what is left of x without blocks that are apart, of which the first ends behind its start
covers : (x : Block') → x.start < x.end → (g : Block') (l : List Block') → Normal (g ∷ l) → x.start < g.end → any_block (cut x.start x.end (g ∷ l)) ≡ not (leb g.start x.start && leb x.end g.end)
unfolding cut any_block
covers x n g l c p =
    by-test (leb g.start x.start)
    (λ a. by-test (leb x.end g.end)
    (λ b. rw (a, b) (ap any_block (covered x n g l p (leb-true g.start x.start a) (leb-true x.end g.end b))))
    (λ b. rw (a, b) (at-end x n g l p (leb-true g.start x.start a) (leb-false x.end g.end b) c.2)))
    (λ a. rw a (in-front x n g l c.1 (leb-false g.start x.start a)))

-- ---- the walk through both lists

-- a part of blocks that are apart is apart
normal-drop : (m j : ℕ) (l : List Block) → Chain m (map block_is l) → Normal (map block_is (drop j l))
normal-drop m zero l c = chain-weaken 0 m (map block_is l) (omega arith) c
normal-drop m (suc j) [] c = tt
normal-drop m (suc j) (b ∷ l) c = normal-drop (suc b.end) j l c.2

-- the blocks from i on, of which the first is that at i
from_on : (l : List Block) (i : ℕ) → i < length l → map block_is (drop i l) ≡ block_is (get_or l i nil) ∷ map block_is (drop (i + 1) l)
from_on l i h = ap (map block_is) (drop-cons l i nil h ∙ ap (λ (k : ℕ). get_or l i nil ∷ drop k l) (sym (add-one i)))

-- the blocks from i on are to come, and those of off in front of j take nothing of them
pub record Passing (on off : List Block) (i j : ℕ) : Type 0 where
  pub same : leaves (map block_is (drop i on)) (map block_is (drop j off)) ≡ leaves (map block_is on) (map block_is off)

pub passing-starts : (on off : List Block) → Passing on off 0 0
passing-starts on off = record { same = refl }

module _ (on off : List Block) (i j : ℕ) (c : Passing on off i j) where
  pub passing-done : length on ≤ i → false ≡ leaves (map block_is on) (map block_is off)
  unfolding leaves subtract any_block
  passing-done h = sym (ap (λ (l : List Block). leaves (map block_is l) (map block_is (drop j off))) (drop_of_length-le on h)) ∙ c.same

  module _ (h : i < length on) (a : Normal (map block_is on)) where
    -- the block at i, and those behind it
    x : Block'
    x = block_is (get_or on i nil)

    xs : List Block'
    xs = map block_is (drop (i + 1) on)

    first : map block_is (drop i on) ≡ x ∷ xs
    unfolding x xs
    first = from_on on i h

    chain : Normal (x ∷ xs)
    chain = rw first at (normal-drop 0 i on a)

    -- nothing of off is to come
    pub passing-free : length off ≤ j → true ≡ leaves (map block_is on) (map block_is off)
    unfolding cut any_block
    passing-free k =
        let e : map block_is (drop j off) ≡ [] = ap (map block_is) (drop_of_length-le off k) in
        sym (left-first x xs [] (rw (lt-ltb x.start x.end chain.1))) ∙ sym (ap₂ leaves first e) ∙ c.same

    module _ (k : j < length off) (b : Normal (map block_is off)) where
      y : Block'
      y = block_is (get_or off j nil)

      ys : List Block'
      ys = map block_is (drop (j + 1) off)

      first_off : map block_is (drop j off) ≡ y ∷ ys
      unfolding y ys
      first_off = from_on off j k

      chain-off : Normal (y ∷ ys)
      chain-off = rw first_off at (normal-drop 0 j off b)

      now-first : leaves (x ∷ xs) (y ∷ ys) ≡ leaves (map block_is on) (map block_is off)
      now-first = sym (ap₂ leaves first first_off) ∙ c.same

      pub passing-past : (get_or off j nil).end ≤ (get_or on i nil).start → Passing on off i (j + 1)
      unfolding x xs y ys leaves
      passing-past p =
          let q : Chain y.end (x ∷ xs) = (p, chain.1, chain.2) in
          record { same = ap (λ (l : List Block'). leaves l ys) first ∙ sym (ap any_block (subtract-past y ys (x ∷ xs) (chain-sorted y.end (x ∷ xs) q).1)) ∙ now-first }

      module _ (p : (get_or on i nil).start < (get_or off j nil).end) (r : Bool) (e : r ≡ (leb (get_or off j nil).start (get_or on i nil).start && leb (get_or on i nil).end (get_or off j nil).end)) where
        -- what is left of the block at i, by the answer whether that at j covers it
        left : any_block (cut x.start x.end (y ∷ ys)) ≡ not r
        unfolding x y
        left = covers x chain.1 y ys chain-off p ∙ ap not (sym e)

        pub passing-left : r ≡ false → true ≡ leaves (map block_is on) (map block_is off)
        passing-left t = sym (left-first x xs (y ∷ ys) (left ∙ ap not t)) ∙ now-first

        pub passing-gone : r ≡ true → Passing on off (i + 1) j
        unfolding xs
        passing-gone t =
            record { same = ap (leaves xs) first_off ∙ sym (gone-first x xs (y ∷ ys) (none (cut x.start x.end (y ∷ ys)) (left ∙ ap not t))) ∙ now-first }

-- ---- the whole

any-insert : (b : Block') (l : List Block') → any_block (insert b l) ≡ true
unfolding any_block insert
any-insert b [] = refl
any-insert b (c ∷ l) = by-test (leb b.start c.start) (λ h. rw h) (λ h. rw h)

any-merged : (b : Block') (l : List Block') → any_block (merged_from b l) ≡ true
unfolding any_block merged_from
any-merged b [] = refl
any-merged b (c ∷ l) = by-test (leb c.start b.end) (λ h. rw h (any-merged (block b.start (max b.end c.end)) l)) (λ h. rw h)

-- merging leaves something of something
any-union : (l : List Block') → any_block (union l) ≡ any_block l
unfolding any_block union merged sorted
any-union [] = refl
any-union (b ∷ l) = go (insert b (sorted l)) (any-insert b (sorted l))
  where
    go : (k : List Block') → any_block k ≡ true → any_block (merged k) ≡ true
    go [] e = e
    go (c ∷ k) e = any-merged c k

leaves-onward : (t : ℕ) (a off : List Block') → Apart t a → Apart t off → leaves (onward t a) (onward t off) ≡ leaves a off
unfolding leaves
leaves-onward t a off p q = ap any_block (subtract-onward t a off p.full p.from q.full q.from) ∙ any-onward t (subtract a off)

-- 14 days from t on
abbrev end : ℕ → ℕ
end t = t + 1209600000000000

-- the union of a filled list
pub union-is : (p : List ℕ) (rules : List Rule') (n : ℕ) (lo hi : Instant) (b r : Blocks) → Listed p rules n lo hi b → list_of r ≡ union (list_of b) → r.len ≤ b.len → UnionOf p rules n lo hi r
union-is p rules n lo hi b r f e k =
    let t : ℕ = nanos lo in
    let o : List Block' = blocks_of_all t (nanos hi) (map (rule_is p) (take n rules)) in
    let q : list_of r ≡ union (onward t o) = e ∙ ap union f.same in
    record {
      same = q;
      merged = record { few = omega (arith, f.few); normal = rw q (union-normal (onward t o) (apart-onward t o (rules-apart t (nanos hi) (map (rule_is p) (take n rules))))) };
    }

module _ (s : Schedule) (t : ℕ) (z : t ≡ 391337827200000000000) where
  W : List Block'
  W = blocks_of_all t (end t) s.work

  O : List Block'
  O = blocks_of_all t (end t) s.breaks

  pub works-left : (on : List Block') → on ≡ union (onward t (blocks_of_all t (end t) s.work)) → (off : List Block') → off ≡ union (onward t (blocks_of_all t (end t) s.breaks))
      → (r : Bool) → r ≡ leaves on off → r ≡ works_in_2001 s
  unfolding works_in_2001 working leaves any_block W O
  works-left on e off f r i =
      let a : Apart t W = rules-apart t (end t) s.work in
      let b : Apart t O = rules-apart t (end t) s.breaks in
      let g : O ≡ blocks_of_all t (end t) (s.breaks ++ []) = ap (blocks_of_all t (end t)) (sym (append-nil s.breaks)) in
      i ∙ ap₂ leaves (e ∙ union-onward t W a.full a.from) (f ∙ union-onward t O b.full b.from)
      ∙ leaves-onward t (union W) (union O) (union-apart t W a) (union-apart t O b)
      ∙ ap (λ (x : List Block'). leaves (union W) (union x)) g ∙ rw z

  -- without breaks
  pub works-bare : s.breaks ≡ [] → (r : Bool) → r ≡ any_block (blocks_of_all t (end t) s.work) → r ≡ works_in_2001 s
  unfolding union merged sorted onward joined
  works-bare h r i =
      let l : List Block' = onward t (blocks_of_all t (end t) s.work) in
      let n : Normal (union l) = union-normal l (apart-onward t (blocks_of_all t (end t) s.work) (rules-apart t (end t) s.work)) in
      works-left (union l) refl [] (sym none) r (i ∙ sym (any-onward t (blocks_of_all t (end t) s.work)) ∙ sym (any-union l) ∙ sym (leaves_all (union l) (chain-nonempty 0 (union l) n)))
    where
      none : union (onward t (blocks_of_all t (end t) s.breaks)) ≡ []
      none = rw h
