-- A sample of the vectors, as theorems: what the program writes for these query lines, with the least and the most window count. How the
-- vectors were made and compared is told in docs/DECISIONS.md, "Vectors".
use Rattle.std.specs.Prelude.{◌≡◌, refl, List, [], ◌++◌, ℕ}
use Rattle.std.proofs.Math.Option.{some}
use Rattle.model.specs.Bytes.{hex, text}
use Rattle.model.specs.Lines.{program, both_bounds}
use Rattle.model.specs.All.{everything}
use Rattle.model.specs.Label.{ruled_by}

-- the gap to the range's first instant against the search limit, to the nanosecond
abbrev gap-to-first-book : List ℕ
gap-to-first-book =
    hex 32 0x000000020000001400000013000000270000001401007F00007E900000000000
    ++ hex 27 0x008CA00000000002017A7F00007E900000000000008CA000000000

abbrev gap-to-first-zones : List ℕ
gap-to-first-zones =
    hex 32 0x000000010000000C0000007F017A545A69663200000000000000000000000000
    ++ hex 32 0x0000000000000000000000000000000000000000000100000004000000000000
    ++ hex 32 0x55544300545A6966320000000000000000000000000000000000000000000000
    ++ hex 32 0x00000000000000010000000200000004FFFFFFA813254D0001000000000000FF
    ++ hex 11 0xFF57400000555443000A0A

pub gap-to-first :
    program both_bounds (some gap-to-first-book) (some gap-to-first-zones)
    (text "sub -377673400801 1 0 1\nadd -377673400802 999999999 -9223372036854775807 -999999999\nsub -377635737600 0 0 1\n")
    ≡ text "no 6 0\nno 7 0\nok -377635788001 999999999 1 1\n"
unfolding everything
gap-to-first = refl

-- a change of offset just behind the start of the skip test's span
abbrev change-after-start-book : List ℕ
change-after-start-book =
    hex 32 0x000000020000001400000003000000170000001300017A01007F00007E900000
    ++ hex 10 0x00000000EF1000000000

abbrev change-after-start-zones : List ℕ
change-after-start-zones =
    hex 32 0x000000010000000C0000007F017A545A69663200000000000000000000000000
    ++ hex 32 0x0000000000000000000000000000000000000000000100000004000000000000
    ++ hex 32 0x55544300545A6966320000000000000000000000000000000000000000000000
    ++ hex 32 0x0000000000000001000000020000000400000000695073010100000000000000
    ++ hex 11 0x000E100000555443000A0A

pub change-after-start :
    program both_bounds (some change-after-start-book) (some change-after-start-zones)
    (text "between 1767225599 999999999 1767830399 999999998\nbetween 1767225600 0 1770249599 999999999\nsub 1768435200 1 201600 0\n")
    ≡ text "ok 201600 0 1 1\nok 1008000 0 3 5\nok 1767859200 0 1 1\n"
unfolding everything
change-after-start = refl

-- a holiday at the edge of the skip test's span: outside it the border at 8 January may be skipped, one nanosecond earlier it lies inside
abbrev holiday-near-book : List ℕ
holiday-near-book =
    hex 32 0x000000020000001400000013000000270000000901001F00007E900000000000
    ++ hex 16 0x00EF1000000000030168000107E90C19

abbrev holiday-near-zones : List ℕ
holiday-near-zones =
    hex 32 0x000000010000000C000000700168545A69663200000000000000000000000000
    ++ hex 32 0x0000000000000000000000000000000000000000000100000004000000000000
    ++ hex 32 0x55544300545A6966320000000000000000000000000000000000000000000000
    ++ hex 28 0x00000000000000000000000100000004000000000000555443000A0A

pub holiday-near :
    program both_bounds (some holiday-near-book) (some holiday-near-zones)
    (text "between 1767225600 0 1768435200 0\nbetween 1767225599 999999999 1768435199 999999999\nbetween 1767225600 0 1769644800 0\nbetween 1767225599 999999999 1769644799 999999999\nsub 1768435200 0 288000 1\nsub 1768435199 999999999 288000 1\n")
    ≡ text "ok 288000 0 1 2\nok 288000 0 2 2\nok 576000 0 1 4\nok 576000 0 2 4\nok 1767200399 999999999 2 3\nok 1767200399 999999999 3 3\n"
unfolding everything
holiday-near = refl

-- windows at both ends of the range
abbrev range-ends-book : List ℕ
range-ends-book =
    hex 31 0x000000010000000C0000001301007F00007E90000000000000EF1000000000

abbrev range-ends-zones : List ℕ
range-ends-zones =
    hex 4 0x00000000

pub range-ends :
    program both_bounds (some range-ends-book) (some range-ends-zones)
    (text "between -377704677602 999999999 -377703468002 999999999\nbetween -377704677601 0 -377702863201 0\nbetween -377704677601 1 -377702258401 1\nbetween 253399183200 999999999 253402207200 999999999\n")
    ≡ text "ok 403200 0 2 2\nok 604800 0 1 3\nok 806400 0 1 4\nok 1008000 0 2 5\n"
unfolding everything
range-ends = refl

-- a local time that two changes jump over
abbrev two-jumps-book : List ℕ
two-jumps-book =
    hex 32 0x000000020000001400000003000000170000001300017A01007F0000B6D00000
    ++ hex 10 0x00000000BDD800000000

abbrev two-jumps-zones : List ℕ
two-jumps-zones =
    hex 32 0x000000010000000C00000097017A545A69663200000000000000000000000000
    ++ hex 32 0x0000000000000000000000000000000000000000000100000004000000000000
    ++ hex 32 0x55544300545A6966320000000000000000000000000000000000000000000000
    ++ hex 32 0x0000000000000003000000030000000400000000695661C000000000695668C8
    ++ hex 32 0x0000000069566C4C01020100000000000000001C200000000003840000555443
    ++ hex 3 0x000A0A

pub two-jumps :
    program both_bounds (some two-jumps-book) (some two-jumps-zones)
    (text "next 1767225600 0\nnext 1767279600 0\nbetween 1767225600 0 1767225600 0\n")
    ≡ text "ok 1767272400 0 1767274200 0\nok 1767351600 0 1767353400 0\nok 0 0 0 0\n"
unfolding everything
two-jumps = refl

-- a local time that is jumped over first and read later
abbrev jumped-then-read-book : List ℕ
jumped-then-read-book =
    hex 32 0x000000020000001400000003000000170000001300017A01007F0000BDD80000
    ++ hex 10 0x00000000C4E000000000

abbrev jumped-then-read-zones : List ℕ
jumped-then-read-zones =
    hex 32 0x000000010000000C00000088017A545A69663200000000000000000000000000
    ++ hex 32 0x0000000000000000000000000000000000000000000100000004000000000000
    ++ hex 32 0x55544300545A6966320000000000000000000000000000000000000000000000
    ++ hex 32 0x0000000000000002000000020000000400000000695661C000000000695668C8
    ++ hex 20 0x010000000000000000001C200000555443000A0A

pub jumped-then-read :
    program both_bounds (some jumped-then-read-book) (some jumped-then-read-zones)
    (text "next 1767225600 0\nnext 1767279600 0\nbetween 1767225600 0 1767225600 0\n")
    ≡ text "ok 1767360600 0 1767362400 0\nok 1767360600 0 1767362400 0\nok 0 0 0 0\n"
unfolding everything
jumped-then-read = refl

-- a footer with day n = 365, AAA0BBB,J001,365: in 2023 daylight time goes on through 31 December into 1 January, in the leap year 2024 it
-- ends on 31 December
abbrev day-365-book : List ℕ
day-365-book =
    hex 32 0x000000090000004C000000030000004F00000013000000620000001300000075
    ++ hex 32 0x0000001300000088000000130000009B00000013000000AE00000013000000C1
    ++ hex 32 0x00000013000000D40000001300017A01007F0000000000000000000007080000
    ++ hex 32 0x000001007F00002A3000000000000031380000000001007F0000546000000000
    ++ hex 32 0x00005B680000000001007F00007E9000000000000085980000000001007F0000
    ++ hex 32 0xA8C0000000000000AFC80000000001007F0000D2F0000000000000D9F8000000
    ++ hex 32 0x0001007F0000FD2000000000000104280000000001007F000127500000000000
    ++ hex 7 0x012E5800000000

abbrev day-365-zones : List ℕ
day-365-zones =
    hex 32 0x000000010000000C00000080015A545A69663200000000000000000000000000
    ++ hex 32 0x0000000000000000000000000000000000000000000100000004000000000000
    ++ hex 32 0x55544300545A6966320000000000000000000000000000000000000000000000
    ++ hex 32 0x00000000000000000000000100000004000000000000555443000A4141413042
    ++ hex 12 0x42422C4A3030312C3336350A

pub day-365 :
    program both_bounds (some day-365-book) (some day-365-zones)
    (text "next 1704024000 0\nprevious 1704070801 0\nnext 1704070800 0\nnext 1735646400 0\n")
    ≡ text "ok 1704031200 0 1704033000 0\nok 1704063600 0 1704065400 0\nok 1704074400 0 1704076200 0\nok 1735646400 0 1735648200 0\n"
unfolding everything
day-365 = refl

-- the change itself, by a book with work from 02:00 to 02:30 and answers of compare/second.py: on 31 December 2023 02:00 is daylight time; on
-- 1 January 2024 the clock goes back at 02:00 and on at the next 02:00, which is read by standard time
abbrev day-365-night-book : List ℕ
day-365-night-book =
    hex 32 0x000000020000001400000003000000170000001300017A01007F00001C200000
    ++ hex 10 0x00000000232800000000

pub day-365-night :
    program both_bounds (some day-365-night-book) (some day-365-zones)
    (text "next 1703980800 0\nnext 1704067200 0\n")
    ≡ text "ok 1703984400 0 1703986200 0\nok 1704074400 0 1704076200 0\n"
unfolding everything
day-365-night = refl

-- a footer outside the grammar
abbrev bad-footer-book : List ℕ
bad-footer-book =
    hex 32 0x00000004000000240000000300000027000000130000003A000000130000004D
    ++ hex 32 0x0000001400015A01007F0001356000000000000054600000000002007F000000
    ++ hex 32 0x0000000000000007080000000001017A1F00007E90000000000000EF10000000
    ++ hex 1 0x00

abbrev bad-footer-zones : List ℕ
bad-footer-zones =
    hex 32 0x000000010000000C00000071017A545A69663300000000000000000000000000
    ++ hex 32 0x0000000000000000000000000000000000000000000100000004000000000000
    ++ hex 32 0x55544300545A6966330000000000000000000000000000000000000000000000
    ++ hex 29 0x00000000000000000000000100000004000000000000555443000A410A

pub bad-footer :
    program both_bounds (some bad-footer-book) (some bad-footer-zones)
    (text "between 1767974400 0 1768212000 0\n")
    ≡ text "no 5 36\n"
unfolding everything
bad-footer = refl

-- a holiday record cut in its count
abbrev half-count-book : List ℕ
half-count-book =
    hex 32 0x000000020000001400000013000000270000000301001F00007E900000000000
    ++ hex 10 0x00EF1000000000030000

abbrev half-count-zones : List ℕ
half-count-zones =
    hex 4 0x00000000

pub half_count :
    program both_bounds (some half-count-book) (some half-count-zones)
    (text "between 1767974400 0 1768212000 0\n")
    ≡ text "no 1 0\n"
unfolding everything
half_count = refl

-- change request 1 of document 02: a rule time of -1 hours, <-02>2<-01>,M3.5.0/-1,M10.5.0/0, in a file of the given version. Work is from Monday to
-- Friday, 09:00 to 17:00
abbrev nuuk-book : List ℕ
nuuk-book =
    hex 32 0x0000000200000014000000060000001A0000001300044E75756B01001F00007E
    ++ hex 13 0x90000000000000EF1000000000

abbrev nuuk-zones : List ℕ → List ℕ
nuuk-zones version = hex 12 0x00000001_0000000C_00000092 ++ hex 1 4 ++ text "Nuuk" ++ ruled_by version (text "<-02>2<-01>,M3.5.0/-1,M10.5.0/0")

-- about the changes at 2026-03-29T01:00Z and 2026-10-25T01:00Z
pub nuuk :
    program both_bounds (some nuuk-book) (some (nuuk-zones (text "3")))
    (text "previous 1774746000 0\nnext 1774746000 0\nprevious 1792890000 0\nnext 1792890000 0\n")
    ≡ text "ok 1774609200 0 1774638000 0\nok 1774864800 0 1774893600 0\nok 1792749600 0 1792778400 0\nok 1793012400 0 1793041200 0\n"
unfolding everything
nuuk = refl

-- in version 2 the default zone's record, at 20, names a file that is not usable
pub nuuk-version-2 :
    program both_bounds (some nuuk-book) (some (nuuk-zones (text "2")))
    (text "next 1774746000 0\n")
    ≡ text "no 5 20\n"
unfolding everything
nuuk-version-2 = refl
