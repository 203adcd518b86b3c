-- The program's lines. Document 01, "The label table": "A program reads book.bin, zones.bin .. and query lines from standard input."
use Rattle.std.specs.Prelude.{Bool, true, false, ◌&&◌, List, [], ◌∷◌, ◌++◌, map, ℕ, zero, suc, ◌+◌, ◌*◌, ◌-◌, ◌/◌, ◌%◌, ◌^◌, leb, ltb, eqb, length, get_or, ℤ, pos, negsuc, if◌then◌else◌}
use Rattle.std.proofs.Math.Option.{Option, none, some}
use Rattle.model.specs.Basic.{◌>>=◌, given, is_in, all, each, joined, same_list}
use Rattle.model.specs.Bytes.{text, newline}
use Rattle.model.specs.Instant.{signed}
use Rattle.model.specs.Answer.{Answer, gives, refuses}
use Rattle.model.specs.Working.{Schedule}
use Rattle.model.specs.Build.{build}
use Rattle.model.specs.Walk.{Way, on, back}
use Rattle.model.specs.Calls.{Reply, between_call, move_call, period_call}
use Prim.Native.Char.{code}

-- c before the first line
abbrev pub on_first : ℕ → List (List ℕ) → List (List ℕ)
on_first c [] = (c ∷ []) ∷ []
on_first c (l ∷ ls) = (c ∷ l) ∷ ls

-- the lines, each ended by a newline or by the end of the text
unfoldable pub lines_of : List ℕ → List (List ℕ)
lines_of [] = []
lines_of (c ∷ s) = let r = lines_of s in if eqb c newline then [] ∷ r else on_first c r

-- "one space apart"
unfoldable pub fields_of : List ℕ → List (List ℕ)
fields_of [] = [] ∷ []
fields_of (c ∷ s) = let r = fields_of s in if eqb c (code " ") then [] ∷ r else on_first c r

unfoldable pub decimal_from : ℕ → List ℕ → ℕ
decimal_from v [] = v
decimal_from v (c ∷ s) = decimal_from (v * 10 + (c - code "0")) s

-- "Fields are decimal, minus allowed"; not "a number outside signed 64 bits"
unfoldable pub magnitude : Bool → List ℕ → Option ℤ
magnitude minus s =
    let n = decimal_from 0 s in
    given (ltb 0 (length s) && (all (is_in (code "0") (code "9")) s && leb n (if minus then 2 ^ 63 else 2 ^ 63 - 1))) (signed minus n)

unfoldable pub number_of : List ℕ → Option ℤ
number_of [] = none
number_of (c ∷ s) = if eqb c (code "-") then magnitude true s else magnitude false (c ∷ s)

pub data Query : Type 0 where
  ask_between : ℤ → ℤ → ℤ → ℤ → Query
  ask_move : Way → ℤ → ℤ → ℤ → ℤ → Query
  ask_period : Way → ℤ → ℤ → Query

abbrev pub four_of : (ℤ → ℤ → ℤ → ℤ → Query) → List ℤ → Option Query
four_of q l = given (eqb (length l) 4) (q (get_or l 0 (pos 0)) (get_or l 1 (pos 0)) (get_or l 2 (pos 0)) (get_or l 3 (pos 0)))

abbrev pub two_of : (ℤ → ℤ → Query) → List ℤ → Option Query
two_of q l = given (eqb (length l) 2) (q (get_or l 0 (pos 0)) (get_or l 1 (pos 0)))

abbrev pub query_in : List (List ℕ) → Option Query
query_in [] = none
query_in (w ∷ l) =
    each number_of l >>= λ ns.
    if same_list w (text "between") then four_of ask_between ns else
    if same_list w (text "add") then four_of (ask_move on) ns else
    if same_list w (text "sub") then four_of (ask_move back) ns else
    if same_list w (text "next") then two_of (ask_period on) ns else
    if same_list w (text "previous") then two_of (ask_period back) ns else none

unfoldable pub query_of : List ℕ → Option Query
query_of line = query_in (fields_of line)

unfoldable pub reply_to : Schedule → Query → Answer Reply
reply_to s (ask_between a b c d) = between_call s a b c d
reply_to s (ask_move w a b c d) = move_call w s a b c d
reply_to s (ask_period w a b) = period_call w s a b

-- ---- printing

unfoldable pub digits_from : ℕ → ℕ → List ℕ → List ℕ
digits_from zero n l = l
digits_from (suc k) n l = let r = digits_from k (n / 10) ((code "0" + n % 10) ∷ l) in if ltb n 10 then (code "0" + n) ∷ l else r

-- a space and the number
unfoldable pub shown : ℤ → List ℕ
shown (pos n) = code " " ∷ digits_from 20 n []
shown (negsuc n) = code " " ∷ code "-" ∷ digits_from 20 (suc n) []

-- "Of all answers the window count alone isn't fixed": `count` says what is printed, given the least and the most that are right
abbrev pub Count : Type 0
Count = ℕ → ℕ → List ℕ

abbrev pub least_only : Count
least_only least most = shown (pos least)

abbrev pub both_bounds : Count
both_bounds least most = shown (pos least) ++ shown (pos most)

abbrev pub shown_windows : Count → Option (ℕ × ℕ) → List ℕ
shown_windows count none = []
shown_windows count (some w) = count w.0 w.1

-- "ok", the numbers and the windows; "no", the number and the place
unfoldable pub printed : Count → Answer Reply → List ℕ
printed count (gives r) = text "ok" ++ joined (map shown r.values) ++ shown_windows count r.windows ++ text "\n"
printed count (refuses n p) = text "no" ++ shown (pos n) ++ shown (pos p) ++ text "\n"

-- "A book that doesn't build prints its `no` line for each query. Any other line .. prints `bad`."
abbrev pub reply_in : Count → Answer Schedule → Option Query → List ℕ
reply_in count s none = text "bad\n"
reply_in count (gives s) (some q) = printed count (reply_to s q)
reply_in count (refuses n p) (some q) = printed count (refuses n p)

unfoldable pub answered : Count → Answer Schedule → List ℕ → List ℕ
answered count s input = joined (map (λ l. reply_in count s (query_of l)) (lines_of input))

-- "up to 65,536 bytes each"; "A missing or longer file counts as empty."
abbrev pub file_of : Option (List ℕ) → List ℕ
file_of none = []
file_of (some b) = if leb (length b) 65536 then b else []

-- what the program writes
abbrev pub program : Count → Option (List ℕ) → Option (List ℕ) → List ℕ → List ℕ
program count book zones input = answered count (build (file_of book) (file_of zones)) input

unfoldable pub lines : Unit {0}
unfolding lines_of fields_of decimal_from magnitude number_of query_of reply_to digits_from shown printed answered
lines = tt
