-- What the grammar of footers gives: offsets from -93,599 s to 93,599 s (kept with 26 hours added), and changes that fit.
use Rattle.std.specs.Prelude.{◌≡◌, List, ℕ, ◌≤◌}
use Rattle.std.proofs.Math.Option.{some}
use Rattle.std.proofs.Common.{arith}
use Rattle.model.specs.Footer.{Day, ChangeRule, Footer, empty, fixed, rules, footer_of, latest_clock, latest_time}
use Rattle.laws_bytes.specs.TzGrammar.{Number, number, Sixty, sixty, Clock, hours, minutes, seconds, Offset, west, east, DateText, date_j, date_n, date_m, TimeText, posix, later, earlier, RuleText, untimed, timed, DaylightText, hour, written, TzString, standard, daylight}
use Rattle.laws_bytes.specs.TzSound.{tz-sound}
use Rattle.laws_zone.specs.FooterChanges.{DayFits, ChangeRuleFits}
use Rattle.model.specs.Offset.{greatest_offset}

abbrev Bounds : ℕ → ℕ → ℕ → Type 0
Bounds lo hi n = (lo ≤ n) × (n ≤ hi)

number_in : {k lo hi n : ℕ} {s : List ℕ} → Number k lo hi s n → Bounds lo hi n
number_in (number d h l u) = (l, u)

sixty-in : {n : ℕ} {s : List ℕ} → Sixty s n → n ≤ 59
sixty-in (sixty d h u) = u

clock-in : {k hi t : ℕ} {s : List ℕ} → Clock k hi s t → t ≤ latest_clock hi
clock-in (hours g) = omega (arith, number_in g)
clock-in (minutes g h) = omega (arith, number_in g, sixty-in h)
clock-in (seconds g h k) = omega (arith, number_in g, sixty-in h, sixty-in k)

-- an offset before the hour that daylight time may add
offset-in : {o : ℕ} {s : List ℕ} → Offset s o → Bounds 3601 183599 o
offset-in (west x g) = let h = clock-in g in (omega arith, omega arith)
offset-in (east x g) = let h = clock-in g in (omega arith, omega arith)

date-fits : {d : Day} {s : List ℕ} → DateText s d → DayFits d
date-fits (date_j g) = number_in g
date-fits (date_n g) = (number_in g).1
date-fits (date_m g h k) =
    let m = number_in g in
    let w = number_in h in
    (m.0, m.1, w.0, w.1, (number_in k).1)

time-in : {version t : ℕ} {s : List ℕ} → TimeText version s t → t ≤ latest_time
time-in (posix n g) = omega (arith, clock-in g)
time-in (later e x g) = omega (arith, clock-in g)
time-in (earlier e x g) = omega arith

rule_fits : {version : ℕ} {r : ChangeRule} {s : List ℕ} → RuleText version s r → ChangeRuleFits r
rule_fits (untimed g) = record { day-fits = date-fits g; time-fits = omega arith }
rule_fits (timed g h) = record { day-fits = date-fits g; time-fits = time-in h }

-- an offset that a zone may have
abbrev pub OffsetFits : ℕ → Type 0
OffsetFits o = (1 ≤ o) × (o ≤ greatest_offset)

abbrev pub FooterFits : Footer → Type 0
FooterFits empty = Unit {0}
FooterFits (fixed o) = OffsetFits o
FooterFits (rules std dst start end) = OffsetFits std × OffsetFits dst × ChangeRuleFits start × ChangeRuleFits end

offset-fits : {o : ℕ} {s : List ℕ} → Offset s o → OffsetFits o
offset-fits g = let b = offset-in g in (omega arith, omega arith)

ahead-fits : {std dst : ℕ} {s : List ℕ} → Bounds 3601 183599 std → DaylightText std s dst → OffsetFits dst
ahead-fits b hour = (omega arith, omega arith)
ahead-fits b (written g) = offset-fits g

text-fits : {version : ℕ} {f : Footer} {s : List ℕ} → TzString version s f → FooterFits f
text-fits TzString.nothing = tt
text-fits (standard n g) = offset-fits g
text-fits (daylight n g m h x y) = (offset-fits g, ahead-fits (offset-in g) h, rule_fits x, rule_fits y)

-- whatever text a footer is made of, it fits
pub footer-fits : (version : ℕ) (s : List ℕ) (f : Footer) → footer_of version s ≡ some f → FooterFits f
footer-fits version s f e = text-fits (tz-sound version s f e)
