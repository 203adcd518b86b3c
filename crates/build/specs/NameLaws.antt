-- A record's name that is the one found last, letter by letter.
use Rattle.std.specs.Prelude.{◌≡◌, List, ℕ, ◌+◌, ◌≤◌, ◌<◌, length, take, drop, get_or}
use Rattle.std.proofs.Common.{sym, ap, ◌∙◌, arith}
use Rattle.std.proofs.lemmas.List.{length-take-le, length-drop, get_or-take, get_or-drop}
use Rattle.book.specs.declared.Entry.{Entry}
use Rattle.book.specs.Meaning.{NameIn}
use Rattle.build.specs.declared.LastLookup.{LastLookup}
use Rattle.build.specs.Read.{SameName}

-- the n bytes from i on are those from j on
abbrev pub SameBytes : List ℕ → ℕ → ℕ → ℕ → Type 0
SameBytes b i j n = (x : ℕ) → x < n → get_or b (i + x) 0 ≡ get_or b (j + x) 0

long : (b : List ℕ) (i n : ℕ) → i + n ≤ length b → length (take n (drop i b)) ≡ n
long b i n h = length-take-le n (drop i b) (omega (arith, length-drop i b))

letter : (b : List ℕ) (i n x : ℕ) → x < n → get_or (take n (drop i b)) x 0 ≡ get_or b (i + x) 0
letter b i n x h = get_or-take n (drop i b) x 0 h ∙ get_or-drop i b x 0

module _ (b : List ℕ) (e : Entry) (k : LastLookup) (i : NameIn b e) (inside : k.name + k.letters ≤ length b) (s : SameName b e k) where
  pub letters : e.letters ≡ k.letters
  letters = sym (long b e.name e.letters i) ∙ ap length s ∙ long b k.name k.letters inside

  pub bytes : SameBytes b e.name k.name e.letters
  bytes x h =
      let l : x < k.letters = omega (arith, letters) in
      sym (letter b e.name e.letters x h) ∙ ap (λ (t : List ℕ). get_or t x 0) s ∙ letter b k.name k.letters x l
