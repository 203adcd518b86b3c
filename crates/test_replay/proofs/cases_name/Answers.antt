-- Every byte of the name is ASCII, so it is text.
use Rattle.std.proofs.Common.{ℕ, List, ◌<◌, codes, set, rules}
use Rattle.std.specs.Str.{IsUtf8, IsAscii}
use Rattle.std.proofs.lemmas.Str.{IsUtf8-from_ascii}
use Rattle.std.proofs.lemmas.Str.Ascii.{IsAscii-from_all, IsAscii-set}
use Rattle.std.proofs.lemmas.List.Elements.{All-from_recursion}
use Rattle.test_replay.proofs.cases_name.Goals as goal

abbrev plain : List ℕ
plain = codes "cases-00.bin"

plain-ascii : IsAscii plain
plain-ascii = IsAscii-from_all plain (All-from_recursion (λ b. b < 128) plain (search rules))

name-text : (a b : ℕ) → a < 128 → b < 128 → IsUtf8 (set (set plain 6 a) 7 b)
name-text a b p q = IsUtf8-from_ascii (set (set plain 6 a) 7 b) (IsAscii-set (set plain 6 a) 7 b (IsAscii-set plain 6 a plain-ascii p) q)

pub returns : goal.returns
returns c = name-text _ _ c.digit.ensures c.digit-2.ensures
