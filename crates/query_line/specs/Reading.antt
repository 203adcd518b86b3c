-- What a line that is partly read gives, once its other bytes are known.
use Rattle.std.specs.Prelude.{Bool, true, false, not, ◌&&◌, ◌||◌, List, [], ◌∷◌, ◌++◌, ℕ, zero, suc, ◌+◌, ◌-◌, ◌^◌, ◌≤◌, ◌<◌, leb, ltb, eqb, length, ℤ, if◌then◌else◌}
use Rattle.std.proofs.Math.Option.{Option, none, some}
use Rattle.model.specs.Basic.{◌>>=◌, given, is_in, all, each}
use Rattle.model.specs.Instant.{signed}
use Rattle.model.specs.Walk.{on, back}
use Rattle.model.specs.Lines as model
use Rattle.model.specs.Lines.{fields_of, decimal_from, number_of, four_of, two_of, ask_between, ask_move, ask_period}
use Rattle.instant_signed.specs.Signed.{unbiased}
use Rattle.std.specs.Prelude as std
use Rattle.std.specs.Prelude.{codes, take}
use Rattle.std.specs.Option.{is_some, unwrap_or}
use Rattle.std.specs.Str.{bytes_eq}
use Rattle.query_line.specs.declared.Query.{Query}
use Rattle.query_line.specs.declared.Query.TheVariants as Q
use Rattle.query_line.specs.declared.Word.{Word}
use Rattle.query_line.specs.declared.Word.TheVariants.{Between, Add, Sub, Next, Previous}
use Rattle.query_line.specs.declared.Line.{Line}
use Rattle.query_line.specs.declared.Line.TheVariants.{Name, Rest}

-- the bytes that mean something in a line
abbrev pub space : ℕ
space = 32

abbrev pub minus_sign : ℕ
minus_sign = 45

abbrev pub zero_digit : ℕ
zero_digit = 48

abbrev pub nine_digit : ℕ
nine_digit = 57

-- a byte that is a digit
abbrev pub IsDigit : ℕ → Type 0
IsDigit x = (zero_digit ≤ x) × (x ≤ nine_digit)

-- each is a byte
abbrev pub Bytes : List ℕ → Type 0
Bytes [] = Unit {0}
Bytes (c ∷ s) = (c < 256) × Bytes s

-- the code's query as the definitions have it
abbrev pub query_is : Query → model.Query
query_is (Q.Between a b c d) = ask_between a b c d
query_is (Q.Add a b c d) = ask_move on a b c d
query_is (Q.Sub a b c d) = ask_move back a b c d
query_is (Q.Next a b) = ask_period on a b
query_is (Q.Previous a b) = ask_period back a b

-- the same, if there is one
abbrev pub query_from : std.Option Query → Option model.Query
query_from (std.Some q) = some (query_is q)
query_from std.None = none

-- the word that these bytes are
unfoldable pub word_of : List ℕ → std.Option Word
word_of w =
    if bytes_eq w (codes "between") then std.Some Between else
    if bytes_eq w (codes "add") then std.Some Add else
    if bytes_eq w (codes "sub") then std.Some Sub else
    if bytes_eq w (codes "next") then std.Some Next else
    if bytes_eq w (codes "previous") then std.Some Previous else std.None

-- the query of a word and all its numbers
unfoldable pub asked : Word → List ℤ → Option model.Query
asked Between l = four_of ask_between l
asked Add l = four_of (ask_move on) l
asked Sub l = four_of (ask_move back) l
asked Next l = two_of (ask_period on) l
asked Previous l = two_of (ask_period back) l

-- the same, if the word is one
abbrev pub asked_from : std.Option Word → List ℤ → Option model.Query
asked_from (std.Some word) l = asked word l
asked_from std.None l = none

-- the greatest size of a number with that sign
abbrev pub limit : Bool → ℕ
limit minus = if minus then 2 ^ 63 else 2 ^ 63 - 1

-- the number of a field whose sign is known, with v from the digits before s; `digits` tells whether there are any
unfoldable pub sized : Bool → Bool → ℕ → List ℕ → Option ℤ
sized minus digits v s =
    let n = decimal_from v s in
    given ((digits || ltb 0 (length s)) && (all (is_in zero_digit nine_digit) s && leb n (limit minus))) (signed minus n)

-- the same where the sign may still come
unfoldable pub field_from : Bool → Bool → ℕ → List ℕ → Option ℤ
field_from minus digits v [] = sized minus digits v []
field_from minus digits v (c ∷ s) =
    if (not minus && (not digits && eqb c minus_sign)) then sized true false v s else sized minus digits v (c ∷ s)

-- the number, with 2^63 added, of a field that has ended, with the number that its digits write
unfoldable pub key_of : Bool → std.Option ℕ → std.Option ℕ
key_of minus std.None = std.None
key_of minus (std.Some v) =
    if minus then (if leb v (2 ^ 63) then std.Some (2 ^ 63 - v) else std.None) else (if ltb v (2 ^ 63) then std.Some (2 ^ 63 + v) else std.None)

-- the numbers read so far
abbrev pub done_of : ℕ → ℕ → ℕ → ℕ → List ℤ
done_of zero a b c = []
done_of (suc zero) a b c = unbiased c ∷ []
done_of (suc (suc zero)) a b c = unbiased b ∷ unbiased c ∷ []
done_of (suc (suc (suc n))) a b c = unbiased a ∷ unbiased b ∷ unbiased c ∷ []

-- the query where the first of these fields goes on the first word, whose bytes so far are w
unfoldable pub name_yet : List ℕ → List (List ℕ) → Option model.Query
name_yet w [] = none
name_yet w (f ∷ l) = each number_of l >>= λ ns. asked_from (word_of (w ++ f)) ns

-- the query where the first of these fields goes on the field at hand
unfoldable pub rest_yet : Word → List ℤ → Bool → Bool → ℕ → List (List ℕ) → Option model.Query
rest_yet word done minus digits v [] = none
rest_yet word done minus digits v (f ∷ l) =
    field_from minus digits v f >>= λ z. each number_of l >>= λ ns. asked word (done ++ z ∷ ns)

-- the query of a line partly read, where the bytes s follow
unfoldable pub yet : Line → List ℕ → Option model.Query
yet (Name n) s = name_yet (take n.len n.bytes) (fields_of s)
yet (Rest f) s =
    rest_yet f.word (done_of f.count f.a f.b f.c) f.minus (is_some f.value) (unwrap_or f.value 0) (fields_of s)

-- the same, where there is none if the line is no query already
abbrev pub yet_from : std.Option Line → List ℕ → Option model.Query
yet_from (std.Some l) s = yet l s
yet_from std.None s = none

-- the code's query of a word and four numbers, or two, each with 2^63 added
unfoldable pub ask_four : Word → ℕ → ℕ → ℕ → ℕ → std.Option Query
ask_four Between a b c d = std.Some (Q.Between (unbiased a) (unbiased b) (unbiased c) (unbiased d))
ask_four Add a b c d = std.Some (Q.Add (unbiased a) (unbiased b) (unbiased c) (unbiased d))
ask_four Sub a b c d = std.Some (Q.Sub (unbiased a) (unbiased b) (unbiased c) (unbiased d))
ask_four Next a b c d = std.None
ask_four Previous a b c d = std.None

unfoldable pub ask_two : Word → ℕ → ℕ → std.Option Query
ask_two Between a b = std.None
ask_two Add a b = std.None
ask_two Sub a b = std.None
ask_two Next a b = std.Some (Q.Next (unbiased a) (unbiased b))
ask_two Previous a b = std.Some (Q.Previous (unbiased a) (unbiased b))
