-- What lent numbers mean: blocks of the definitions, each by two numbers. And what the functions on them are asked and answer.
use Rattle.std.specs.Prelude.{◌≡◌, List, [], ◌∷◌, ◌++◌, ℕ, zero, suc, ◌+◌, ◌*◌, ◌-◌, ◌≤◌, ◌<◌, min, max, length, get_or}
use Rattle.model.specs.Blocks.{Block, block, put, union, cut, subtract}
use Rattle.laws_blocks.specs.Members.{From}

-- n blocks, from block a on
unfoldable pub part : ℕ → ℕ → List ℕ → List Block
part a zero l = []
part a (suc n) l = block (get_or l (2 * a) 0) (get_or l (2 * a + 1) 0) ∷ part (suc a) n l

-- the first n blocks
abbrev pub pairs : ℕ → List ℕ → List Block
pairs n l = part 0 n l

-- the memory holds n blocks
abbrev pub Holds : ℕ → List ℕ → Type 0
Holds n l = 2 * n ≤ length l

-- the first number that a machine word does not hold
abbrev pub word_end : ℕ
word_end = 18446744073709551616

-- the first r blocks of the memory are now b, at most so many; the memory is as long as before
abbrev pub Becomes : List ℕ → List ℕ → ℕ → ℕ → List Block → Type 0
Becomes old new r most b = (pairs r new ≡ b) × (r ≤ most) × (length new ≡ length old)

-- every block ends at s or later
abbrev pub Reach : ℕ → List Block → Type 0
Reach s [] = Unit {0}
Reach s (b ∷ l) = (s ≤ b.end) × Reach s l

-- of the first n blocks those from i on start behind e, and the one in front of i does not
pub record StartsTo (l : List ℕ) (n e i : ℕ) : Type 0 where
  pub upto : i ≤ n
  pub behind : From (suc e) (part i (n - i) l)
  pub last : 0 < i → get_or l (2 * i - 2) 0 ≤ e

-- of the first n blocks those from i on end at s or later, and the one in front of i does not
pub record EndsFrom (l : List ℕ) (n s i : ℕ) : Type 0 where
  pub upto : i ≤ n
  pub reach : Reach s (part i (n - i) l)
  pub last : 0 < i → get_or l (2 * i - 1) 0 < s

-- the numbers from a to b stand two places further on
pub record Raised (l r : List ℕ) (a b : ℕ) : Type 0 where
  pub long : length r ≡ length l
  pub low : (x : ℕ) → x < a → get_or r x 0 ≡ get_or l x 0
  pub high : (x : ℕ) → a ≤ x → x < b → get_or r (x + 2) 0 ≡ get_or l x 0

-- n numbers from a on stand from t on
pub record Lowered (l r : List ℕ) (t a n : ℕ) : Type 0 where
  pub long : length r ≡ length l
  pub low : (x : ℕ) → x < t → get_or r x 0 ≡ get_or l x 0
  pub high : (x : ℕ) → x < n → get_or r (t + x) 0 ≡ get_or l (a + x) 0

-- [s, e) made one with the blocks from j to i
abbrev pub hull : ℕ → ℕ → ℕ → ℕ → List ℕ → Block
hull s e j i l = block (min s (get_or l (2 * j) 0)) (max e (get_or l (2 * i - 1) 0))

-- [s, e) between the first i of n blocks and the others
abbrev pub inserted : ℕ → ℕ → ℕ → ℕ → List ℕ → List Block
inserted n i s e l = part 0 i l ++ block s e ∷ part i (n - i) l

-- [s, e) made one with the blocks from j to i, between those in front of them and those behind
abbrev pub absorbed : ℕ → ℕ → ℕ → ℕ → ℕ → List ℕ → List Block
absorbed n j i s e l = part 0 j l ++ hull s e j i l ∷ part i (n - i) l

-- the union of the first n blocks and [s, e)
abbrev pub union_with : ℕ → ℕ → ℕ → List ℕ → List Block
union_with n s e l = union (pairs n l ++ put s e [])

-- the first w blocks, and [s, e) behind them if it holds anything
abbrev pub appended : ℕ → ℕ → ℕ → List ℕ → List Block
appended w s e l = pairs w l ++ put s e []

-- the memory has the first n blocks of `on` without the first m of `off`
abbrev pub Subtracted : List ℕ → ℕ → List ℕ → ℕ → List ℕ → List ℕ → ℕ → Type 0
Subtracted on n off m old new r = Becomes old new r (n + m) (subtract (pairs n on) (pairs m off))

-- [s, e) without the gaps from j to m is written behind the first w blocks; the gaps up to k reach no block that starts at e or later
pub record CutTo (off : List ℕ) (j m s e : ℕ) (out : List ℕ) (w : ℕ) (out' : List ℕ) (w' k : ℕ) : Type 0 where
  pub same : pairs w' out' ≡ pairs w out ++ cut s e (part j (m - j) off)
  pub rest : (s' e' : ℕ) → e ≤ s' → cut s' e' (part k (m - k) off) ≡ cut s' e' (part j (m - j) off)
  pub from : j ≤ k
  pub upto : k ≤ m
  pub count : w' + j ≤ w + k + 1
  pub long : length out' ≡ length out
