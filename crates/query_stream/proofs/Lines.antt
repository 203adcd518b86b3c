-- How the text still to come goes on by one byte.
use mathlib.Core.Path.{◌≡◌, refl, ◌∙◌}
use mathlib.Core.Bool.{Bool, true, false}
use mathlib.Core.Option.{Option}
use Rattle.std.specs.Prelude as std
use mathlib.Core.List.{List, [], ◌∷◌, ◌++◌, map, append-nil}
use Prim.Native.Nat.{ℕ, ◌<◌}
use native.Mathlib.Omega.{arith}
use lib.Dec.{eqb}
use lib.ListN.{take-append-drop}
use borrow.Author.Tests.{ne_eqb}
use Rattle.model.specs.Basic.{joined}
use Rattle.model.specs.Answer.{Answer}
use Rattle.model.specs.Working.{Schedule}
use Rattle.model.specs.Lines.{Query, on_first, lines_of, query_of, reply_in, least_only, answered}
use Rattle.laws_base.specs.Test.{by-test}
use Rattle.query_line.specs.Reading.{Bytes, yet_from}
use Rattle.query_line.specs.declared.Line.{Line}
use Rattle.answer_line.specs.Placed.{Placed}
use Rattle.query_stream.specs.Streaming.{out_yet}
use Rattle.model.specs.Bytes.{newline}

-- ---- lines of bytes

-- the bytes of the first line
abbrev Firsts : List (List ℕ) → Type 0
Firsts [] = Unit {0}
Firsts (f ∷ l) = Bytes f

firsts_more : (c : ℕ) (l : List (List ℕ)) → c < 256 → Firsts l → Firsts (on_first c l)
firsts_more c [] h g = (h, tt)
firsts_more c (f ∷ l) h g = (h, g)

firsts : (s : List ℕ) → Bytes s → Firsts (lines_of s)
unfolding lines_of
firsts [] h = tt
firsts (c ∷ s) h = by-test (eqb c newline) (λ e. rw e tt) (λ e. rw e (firsts_more c (lines_of s) h.0 (firsts s h.1)))

at-newline : (s : List ℕ) → lines_of (newline ∷ s) ≡ [] ∷ lines_of s
unfolding lines_of
at-newline s = refl

at_other : (c : ℕ) (s : List ℕ) → (c ≡ newline → ⊥) → lines_of (c ∷ s) ≡ on_first c (lines_of s)
unfolding lines_of
at_other c s h = rw (ne_eqb c newline h)

-- a line of which nothing is read
abbrev pub Fresh : std.Option Line → Type 0
Fresh l = (s : List ℕ) → Bytes s → yet_from l s ≡ query_of s

-- nothing is written
pub placed-none : (out : List ℕ) (at : ℕ) → Placed out out at at []
placed-none out at = record { behind = omega arith; bytes = rw (append-nil, take-append-drop) }

module _ (a : Answer Schedule) where
  -- the lines that follow, in full
  all_lines : List (List ℕ) → List ℕ
  all_lines ls = joined (map (λ m. reply_in least_only a (query_of m)) ls)

  from-fresh : (l : std.Option Line) → Fresh l → (ls : List (List ℕ)) → Firsts ls → out_yet a l false ls ≡ all_lines ls
  unfolding out_yet all_lines joined
  from-fresh l h [] g = refl
  from-fresh l h (m ∷ ls) g = rw (h m g)

  pub from_start : (l : std.Option Line) → Fresh l → (s : List ℕ) → Bytes s → out_yet a l false (lines_of s) ≡ answered least_only a s
  unfolding answered all_lines
  from_start l h s g = from-fresh l h (lines_of s) (firsts s g)

  -- a newline
  ended : (l : std.Option Line) (begun : Bool) (ls : List (List ℕ)) → out_yet a l begun ([] ∷ ls) ≡ reply_in least_only a (yet_from l []) ++ all_lines ls
  unfolding out_yet all_lines
  ended l true ls = refl
  ended l false ls = refl

  -- another byte
  more : (l m : std.Option Line) (begun : Bool) (c : ℕ) → ((s : List ℕ) → yet_from m s ≡ yet_from l (c ∷ s)) → (ls : List (List ℕ)) → out_yet a m true ls ≡ out_yet a l begun (on_first c ls)
  unfolding out_yet joined
  more l m true c h [] = rw (h [], append-nil)
  more l m false c h [] = rw (h [], append-nil)
  more l m true c h (k ∷ ls) = rw (h k)
  more l m false c h (k ∷ ls) = rw (h k)

  pub line-ended : (l m : std.Option Line) (begun : Bool) (q : Option Query) → Fresh m → q ≡ yet_from l [] → (t : List ℕ) → Bytes t →
      reply_in least_only a q ++ out_yet a m false (lines_of t) ≡ out_yet a l begun (lines_of (newline ∷ t))
  line-ended l m begun q h f t g = rw (at-newline t, f, from-fresh m h (lines_of t) (firsts t g), ended l begun (lines_of t))

  pub goes_on : (l m : std.Option Line) (begun : Bool) (c : ℕ) → (c ≡ newline → ⊥) → ((s : List ℕ) → yet_from m s ≡ yet_from l (c ∷ s)) → (t : List ℕ) →
      out_yet a m true (lines_of t) ≡ out_yet a l begun (lines_of (c ∷ t))
  goes_on l m begun c n h t = more l m begun c h (lines_of t) ∙ rw (at_other c t n)

  pub last_line : (l : std.Option Line) (begun : Bool) (old new : List ℕ) (e : ℕ) (q : Option Query) → begun ≡ true → q ≡ yet_from l [] → Placed old new 0 e (reply_in least_only a q) → Placed old new 0 e (out_yet a l begun [])
  unfolding out_yet
  last_line l begun old new e q h f p = rw (h, ← f) p

  pub no_line : (l : std.Option Line) (begun : Bool) (out : List ℕ) → begun ≡ false → Placed out out 0 0 (out_yet a l begun [])
  unfolding out_yet
  no_line l begun out h = rw h (placed-none out 0)
