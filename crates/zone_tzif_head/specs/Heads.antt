-- The header of a zone file read by place, as the code reads it. A place past the end reads as 0.
use Rattle.std.specs.Prelude.{Bool, ◌&&◌, List, ℕ, ◌+◌, ◌<◌, leb, eqb, length, get_or}
use Rattle.model.specs.Basic.{is_in}
use Rattle.model.specs.Tzif.{Header, size_of, header_size, magic}
use Rattle.big_endian.specs.Be.{be32}
use Rattle.zone_tzif_head.specs.declared.Head.{Head}

-- the bound of a number of four bytes
abbrev pub words_end : ℕ
words_end = 4294967296

-- a bound above the places of both headers, 2^40
abbrev pub headers_end : ℕ
headers_end = 1099511627776

-- the header that the code's numbers stand for
abbrev pub header_is : Head → Header
header_is h = record {
  version = h.version;
  uts = h.uts;
  stds = h.stds;
  leaps = h.leaps;
  times = h.times;
  types = h.types;
  chars = h.chars;
}

-- a header stands at a: "TZif", the version '2' or '3', and room for all of it
unfoldable pub head_ok : List ℕ → ℕ → Bool
head_ok f a = leb (a + header_size) (length f) && (eqb (be32 f a) magic && is_in 50 51 (get_or f (a + 4) 0))

-- the header at a
unfoldable pub head_at : List ℕ → ℕ → Head
head_at f a = record {
  version = get_or f (a + 4) 0;
  uts = be32 f (a + 20);
  stds = be32 f (a + 24);
  leaps = be32 f (a + 28);
  times = be32 f (a + 32);
  types = be32 f (a + 36);
  chars = be32 f (a + 40);
}

-- where the second header stands
unfoldable pub second_at : List ℕ → ℕ
second_at f = header_size + size_of 4 (header_is (head_at f 0))

-- what four-byte numbers allow: no sum of them wraps
pub record SmallHead (h : Head) : Type 0 where
  pub uts : h.uts < words_end
  pub stds : h.stds < words_end
  pub leaps : h.leaps < words_end
  pub times : h.times < words_end
  pub types : h.types < words_end
  pub chars : h.chars < words_end
