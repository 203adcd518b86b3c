-- Bytes. Document 01, head: "Byte layouts are added by this port; numbers in them are big-endian."
use Rattle.std.specs.Prelude.{List, [], ◌∷◌, ℕ, zero, suc, ◌+◌, ◌*◌, ◌/◌, ◌%◌, ◌^◌, take, drop}
use Prim.Native.String as String
use Prim.Native.String.{String}
use Prim.Native.Char.{code}

unfoldable pub number_from : ℕ → List ℕ → ℕ
number_from v [] = v
number_from v (b ∷ l) = number_from (v * 256 + b) l

-- the number that the first n bytes write
abbrev pub be : ℕ → List ℕ → ℕ
be n l = number_from 0 (take n l)

-- n numbers of w bytes each, from the front
unfoldable pub words : ℕ → ℕ → List ℕ → List ℕ
words w zero l = []
words w (suc n) l = be w l ∷ words w n (drop w l)

-- n pieces of w bytes each, from the front
unfoldable pub pieces : ℕ → ℕ → List ℕ → List (List ℕ)
pieces w zero l = []
pieces w (suc n) l = take w l ∷ pieces w n (drop w l)

-- a two's complement number of w bytes, plus half of 256 ^ w: the order of the signed numbers
abbrev pub lifted : ℕ → ℕ → ℕ
lifted w v = (v + 256 ^ w / 2) % 256 ^ w

-- the w bytes that write v: hexadecimal text, as document 01 has it
unfoldable pub hex : ℕ → ℕ → List ℕ
hex zero v = []
hex (suc w) v = (v / 256 ^ w % 256) ∷ hex w v

-- the byte that ends a line
abbrev pub newline : ℕ
newline = 10

-- the bytes of an ASCII text
unfoldable pub text : String → List ℕ
text String.[] = []
text (String.◌∷◌ c s) = code c ∷ text s

unfoldable pub bytes : Unit {0}
unfolding number_from words pieces hex text
bytes = tt
