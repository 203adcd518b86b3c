-- Every byte of the name is ASCII, so it is text.
use Rattle.std.proofs.Common.{ℕ, List, ◌<◌, codes, set, rules}
use Rattle.std.specs.Str.{IsUtf8, IsAscii}
use Rattle.std.proofs.lemmas.Str.{IsUtf8-from_ascii}
use Rattle.std.proofs.lemmas.Str.Ascii.{IsAscii-from_all, IsAscii-set}
use Rattle.std.proofs.lemmas.List.Elements.{All-from_recursion}
use Rattle.test_zones.proofs.answers_name.Goals as goal

abbrev plain : List ℕ
plain = codes "answers-000.bin"

plain-ascii : IsAscii plain
plain-ascii = IsAscii-from_all plain (All-from_recursion (λ b. b < 128) plain (search rules))

name-text : (a b d : ℕ) → a < 128 → b < 128 → d < 128 → IsUtf8 (set (set (set plain 8 a) 9 b) 10 d)
name-text a b d p q r =
    IsUtf8-from_ascii (set (set (set plain 8 a) 9 b) 10 d)
    (IsAscii-set (set (set plain 8 a) 9 b) 10 d (IsAscii-set (set plain 8 a) 9 b (IsAscii-set plain 8 a plain-ascii p) q) r)

pub returns : goal.returns
returns c = name-text _ _ _ c.digit.ensures c.digit-2.ensures c.digit-3.ensures
