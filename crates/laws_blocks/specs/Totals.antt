-- The sum of the lengths of a list's blocks: it counts what the list lists.
use Rattle.std.specs.Prelude.{ℕ, ◌+◌, ◌-◌, ◌≤◌, ◌≡◌, Bool, List, [], ◌∷◌, ◌++◌}
use Rattle.std.proofs.Common.{sym, arith, add_assoc}
use Rattle.model.specs.Blocks.{Block, total}
use Rattle.laws_blocks.specs.Count.{span, span-add, cnt-most}
use Rattle.laws_blocks.specs.Lists.{Lists, none, next, empty-span, full-span}

pub total-append : (l k : List Block) → total (l ++ k) ≡ total l + total k
unfolding total
total-append [] k = omega arith
total-append (b ∷ l) k = rw (total-append l k) (sym (add_assoc (b.end - b.start) (total l) (total k)))

pub lists_total : (W : ℕ → Bool) (lo hi : ℕ) {l : List Block} → Lists W lo hi l → total l ≡ span W lo hi
unfolding total
lists_total W lo hi (none h e) = sym (empty-span W lo hi h e)
lists_total W lo hi (next s e a b c i f r) =
    rw (
      lists_total W e hi r,
      span-add W lo s hi a (omega arith),
      span-add W s e hi (omega arith) c,
      empty-span W lo s a i,
      full-span W s e (omega arith) f,
    ) (omega arith)

pub lists-most : (W : ℕ → Bool) (lo hi : ℕ) {l : List Block} → Lists W lo hi l → total l ≤ hi - lo
unfolding span
lists-most W lo hi i = let e = lists_total W lo hi i in let c = cnt-most W lo (hi - lo) in omega arith
