-- A line of which nothing is read gives its query: the code compares the word's bytes as the definitions do.
use Rattle.std.specs.Prelude.{if◌then◌else◌}
use mathlib.Core.Path.{◌≡◌, refl}
use mathlib.Core.Option.{Option, none, some}
use mathlib.Core.List.{List, [], ◌∷◌, ◌++◌}
use Prim.Native.Nat.{ℕ}
use lib.Chars.{codes}
use lib.Dec.{eqb}
use lib.IntN.{ℤ}
use Rattle.std.specs.Str.{bytes_eq}
use Rattle.model.specs.Basic.{◌>>=◌, each, same_list}
use Rattle.model.specs.Bytes.{text}
use Rattle.model.specs.Walk.{on, back}
use Rattle.model.specs.Lines as model
use Rattle.model.specs.Lines.{fields_of, number_of, four_of, two_of, query_in, query_of, ask_between, ask_move, ask_period}
use Rattle.laws_base.specs.Test.{by-test}
use Rattle.query_line.specs.Reading.{word_of, asked, asked_from, name_yet, yet}
use Rattle.query_line.specs.declared.name.Name as N
use Rattle.query_line.specs.declared.Line.TheVariants.{Name}

same-is : (a b : List ℕ) → same_list a b ≡ bytes_eq a b
unfolding same_list
same-is [] [] = refl
same-is [] (y ∷ b) = refl
same-is (x ∷ a) [] = refl
same-is (x ∷ a) (y ∷ b) = by-test (eqb x y) (λ e. rw e (same-is a b)) (λ e. rw e)

-- the query of a word by its bytes
by_bytes : List ℕ → List ℤ → Option model.Query
by_bytes w ns =
    if same_list w (text "between") then four_of ask_between ns else
    if same_list w (text "add") then four_of (ask_move on) ns else
    if same_list w (text "sub") then four_of (ask_move back) ns else
    if same_list w (text "next") then two_of (ask_period on) ns else
    if same_list w (text "previous") then two_of (ask_period back) ns else none

bytes-asked : (w : List ℕ) (ns : List ℤ) → asked_from (word_of w) ns ≡ by_bytes w ns
unfolding by_bytes asked word_of text
bytes-asked w ns =
    rw (same-is w (codes "between"), same-is w (codes "add"), same-is w (codes "sub"), same-is w (codes "next"), same-is w (codes "previous"))
    (by-test (bytes_eq w (codes "between")) (λ e. rw e)
    (λ e. rw e
    (by-test (bytes_eq w (codes "add")) (λ e. rw e)
    (λ e. rw e
    (by-test (bytes_eq w (codes "sub")) (λ e. rw e)
    (λ e. rw e
    (by-test (bytes_eq w (codes "next")) (λ e. rw e)
    (λ e. rw e (by-test (bytes_eq w (codes "previous")) (λ e. rw e) (λ e. rw e))))))))))

in-fields : (l : List (List ℕ)) → name_yet [] l ≡ query_in l
unfolding name_yet by_bytes
in-fields [] = refl
in-fields (f ∷ l) = go (each number_of l)
  where
    go : (y : Option (List ℤ)) → (y >>= λ ns. asked_from (word_of ([] ++ f)) ns) ≡ (y >>= by_bytes f)
    go none = refl
    go (some ns) = bytes-asked f ns

-- what `start` cites
pub started : (n : N.Name) (s : List ℕ) → n.len ≡ 0 → yet (Name n) s ≡ query_of s
unfolding yet query_of
started n s e = rw e (in-fields (fields_of s))
