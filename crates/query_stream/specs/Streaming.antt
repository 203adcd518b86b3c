-- The text of answers that is still to come, and what one call does to it.
use Rattle.std.specs.Prelude.{◌≡◌, Bool, true, false, List, [], ◌∷◌, ◌++◌, map, ℕ, ◌+◌, ◌-◌, ◌^◌, ◌≤◌, ◌<◌, length, drop}
use Rattle.model.specs.Basic.{joined}
use Rattle.model.specs.Answer.{Answer}
use Rattle.model.specs.Working.{Schedule}
use Rattle.model.specs.Build.{build}
use Rattle.model.specs.Lines.{lines_of, query_of, reply_in, least_only, answered}
use Rattle.query_line.specs.Reading.{Bytes, yet_from}
use Rattle.std.specs.Prelude.{Option}
use Rattle.query_line.specs.declared.Line.{Line}
use Rattle.answer_line.specs.Placed.{longest, Placed}
use Rattle.query_stream.specs.declared.Progress.{Progress}
use Rattle.model.specs.Bytes.{newline}

-- The text still to come where `line` is partly read and these lines follow, the first of them its rest. `begun` tells whether `line` has a
-- byte: a line that has none counts only where its newline comes.
unfoldable pub out_yet : Answer Schedule → Option Line → Bool → List (List ℕ) → List ℕ
out_yet a line false [] = []
out_yet a line true [] = reply_in least_only a (yet_from line [])
out_yet a line begun (l ∷ ls) = reply_in least_only a (yet_from line l) ++ joined (map (λ m. reply_in least_only a (query_of m)) ls)

-- the text still to come where the bytes s follow
abbrev pub to_come : Answer Schedule → Progress → List ℕ → List ℕ
to_come a p s = out_yet a p.line p.begun (lines_of s)

-- nothing is read yet: all answers to the bytes that follow are still to come
abbrev pub Begun : Progress → Type 0
Begun r =
    ((s : List ℕ) (a : Answer Schedule) → Bytes s → to_come a r s ≡ answered least_only a s) × ((r.next ≡ 0) × (r.used ≡ 0))

-- `out` has room for one more line, and the bytes read can be counted
abbrev pub HasLineRoom : Progress → List ℕ → Type 0
HasLineRoom p out = (p.used + longest ≤ length out) × (p.next < 2 ^ 64 - 1)

-- p becomes r by reading one byte: `text` is written from p's place on, and no other byte changes
pub record Turned (a : Answer Schedule) (old new : List ℕ) (p : Progress) (byte : ℕ) (r : Progress) : Type 0 where
  pub text : List ℕ
  pub placed : Placed old new p.used r.used text
  pub same : (t : List ℕ) → Bytes t → text ++ to_come a r t ≡ to_come a p (byte ∷ t)
  pub used : r.used ≤ p.used + longest
  pub next : r.next ≡ p.next + 1

-- p becomes r by reading a newline: the line's answer, by the definitions, is written
abbrev pub LineEnded : List ℕ → List ℕ → List ℕ → List ℕ → Progress → Progress → Type 0
LineEnded book pack old new p r = Turned (build book pack) old new p newline r

-- p becomes r by reading a byte that ends no line: nothing is written
abbrev pub LineGoesOn : Progress → ℕ → Progress → Type 0
LineGoesOn p byte r = (a : Answer Schedule) (out : List ℕ) → Turned a out out p byte r

-- p becomes r by reading on in `input`, at least one byte where there is one and `out` has room for a line: `text` is written from p's place on,
-- and no other byte changes
pub record Fed (a : Answer Schedule) (input old new : List ℕ) (p r : Progress) : Type 0 where
  pub text : List ℕ
  pub placed : Placed old new p.used r.used text
  pub same : (t : List ℕ) → Bytes t → text ++ to_come a r (drop r.next input ++ t) ≡ to_come a p (drop p.next input ++ t)
  pub used : r.used ≤ length old
  pub next : r.next ≤ length input
  pub onward : p.used + longest ≤ length old → p.next < length input → p.next < r.next

-- the same with the answers of a book and a pack by the definitions
abbrev pub FedBy : List ℕ → List ℕ → List ℕ → List ℕ → List ℕ → Progress → Progress → Type 0
FedBy book pack input old new p r = Fed (build book pack) input old new p r

-- the input ends at p: the text still to come, the answer of a last line without a newline, is written from the start of `out` on
abbrev pub Ended : List ℕ → List ℕ → List ℕ → List ℕ → Progress → ℕ → Type 0
Ended book pack old new p end = Placed old new 0 end (out_yet (build book pack) p.line p.begun []) × (end ≤ longest)
